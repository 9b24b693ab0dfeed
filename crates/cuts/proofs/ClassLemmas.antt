-- Numbers of lines when the set gets another line.
use Rattle.std.proofs.Common.{ℕ, Bool, true, false, List, ◌≡◌, ◌∙◌, sym, ap, subst, inl, inr, get_or}
use Rattle.std.specs.Int.Bits.{bit_xor}
use Rattle.cmr_base.specs.ColumnSets.{has_column}
use Rattle.cmr_base.specs.Matrix.{Matrix, height, transposed, IsMatrix}
use Rattle.cmr_base.specs.Trees.{support}
use Rattle.cmr_base.proofs.Booleans.{not_both, two_cases}
use Rattle.cmr_base.proofs.Parts.{height-transposed}
use Rattle.cmr_base.proofs.TransposedLines.{support-transposed}
use Rattle.cuts.specs.Classes.{AreClassNumbers, AreNumbers}

-- the lines that are not 0 on the new line get its weight
pub numbers_more : (nonzero : ℕ → ℕ → Bool) (size : ℕ) (set after numbers values : List ℕ) (line weight : ℕ) → AreNumbers nonzero size set numbers
    → ((a : ℕ) → has_column set a ≡ true → has_column after a ≡ true) → has_column after line ≡ true
    → ((x : ℕ) → nonzero line x ≡ true → get_or values x 0 ≡ bit_xor (get_or numbers x 0) weight)
    → ((x : ℕ) → nonzero line x ≡ false → get_or values x 0 ≡ get_or numbers x 0) → AreNumbers nonzero size after values
numbers_more nonzero size set after numbers values line weight so kept here changed same = record {
  met = λ x l n. elim (two_cases (nonzero line x)) [
    | inl t ↦ (line, here, t)
    | inr f ↦ let (a, h, t) = so.met x l (λ z. n (same x f ∙ z)) in (a, kept a h, t)
  ];
  apart = λ x y lx ly d. elim (two_cases (nonzero line x)) [
    | inl t ↦ elim (two_cases (nonzero line y)) [
      | inl u ↦ let (a, h, b) = so.apart x y lx ly (λ e. d (changed x t ∙ ap (λ (z : ℕ). bit_xor z weight) e ∙ sym (changed y u))) in (a, kept a h, b)
      | inr g ↦ (line, here, λ e. not_both (nonzero line y) (sym e ∙ t) g)
    ]
    | inr f ↦ elim (two_cases (nonzero line y)) [
      | inl u ↦ (line, here, λ e. not_both (nonzero line x) (e ∙ u) f)
      | inr g ↦ let (a, h, b) = so.apart x y lx ly (λ e. d (same x f ∙ e ∙ sym (same y g))) in (a, kept a h, b)
    ]
  ];
}

-- numbers for an equivalent test of nonzeros
pub numbers_as : (one other : ℕ → ℕ → Bool) (n size : ℕ) (set numbers : List ℕ) → ((a x : ℕ) → one a x ≡ other a x) → n ≡ size → AreNumbers one n set numbers → AreNumbers other size set numbers
numbers_as one other n size set numbers same long so = subst (λ (k : ℕ). AreNumbers other k set numbers) long (record {
  met = λ x l d. let (a, h, t) = so.met x l d in (a, h, sym (same a x) ∙ t);
  apart = λ x y lx ly d. let (a, h, u) = so.apart x y lx ly d in (a, h, λ e. u (same a x ∙ e ∙ sym (same a y)));
})

-- numbers of the columns are numbers of the rows of the transposed matrix, and conversely
pub of_columns : (m : Matrix) (rows numbers : List ℕ) → IsMatrix m → AreNumbers (support m) m.width rows numbers → AreClassNumbers (transposed m) rows numbers
of_columns m rows numbers is = numbers_as (support m) (λ a x. support (transposed m) x a) m.width (height (transposed m)) rows numbers (λ a x. sym (support-transposed m is a x)) (sym (height-transposed m))

pub to_columns : (m : Matrix) (rows numbers : List ℕ) → IsMatrix m → AreClassNumbers (transposed m) rows numbers → AreNumbers (support m) m.width rows numbers
to_columns m rows numbers is = numbers_as (λ a x. support (transposed m) x a) (support m) (height (transposed m)) m.width rows numbers (support-transposed m is) (height-transposed m)

-- numbers of the rows are numbers of the columns of the transposed matrix, and conversely
pub of_rows : (m : Matrix) (columns numbers : List ℕ) (width : ℕ) → IsMatrix m → width ≡ height m → AreNumbers (support (transposed m)) width columns numbers → AreClassNumbers m columns numbers
of_rows m columns numbers width is long = numbers_as (support (transposed m)) (λ a x. support m x a) width (height m) columns numbers (λ a x. support-transposed m is x a) long

pub to_rows : (m : Matrix) (columns numbers : List ℕ) (width : ℕ) → IsMatrix m → width ≡ height m → AreClassNumbers m columns numbers → AreNumbers (support (transposed m)) width columns numbers
to_rows m columns numbers width is long = numbers_as (λ a x. support m x a) (support (transposed m)) (height m) width columns numbers (λ a x. sym (support-transposed m is x a)) (sym long)

-- the size of a set of columns is the number of rows of the transposed matrix
pub wide_size : (m by_columns : Matrix) (size : ℕ) → by_columns ≡ transposed m → size ≡ m.width → size ≡ height by_columns
wide_size m by_columns size e l = l ∙ sym (ap height e ∙ height-transposed m)
