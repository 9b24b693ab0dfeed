-- Columns that cancel split the rows.
use Rattle.std.proofs.Common.{◌≡◌, ◌≢◌, ◌<◌, ◌∙◌, ◌⊎◌, inl, inr, ℕ, ℤ, pos, negsuc, ◌+ℤ◌, ◌*ℤ◌, Bool, true, false, nat_eq, if◌then◌else◌, List, [], ◌∷◌, length, get_or, refl, ap, ap₂, sym, subst, arith}
use Rattle.std.proofs.lemmas.List.{get_or_past}
use Rattle.std.proofs.lemmas.Bool.{cases_lt}
use Rattle.cmr_base.specs.Matrix.{entry}
use Rattle.cmr_base.specs.Signing.{IsSign}
use Rattle.cmr_base.proofs.Booleans.{two_cases, eq_of, eq_test, is_ne, ne_of}
use Rattle.cmr_base.proofs.Integers.{sums}
use Rattle.sparse_matrix.specs.declared.nonzero.Nonzero.{Nonzero}
use Rattle.sparse_matrix.specs.SparseRows.{SparseRows, run_of, value_in, matrix_of_runs, AreSparseRows, AreCrossed}
use Rattle.sparse_matrix.proofs.Matrices.{matrix_entry}
use Rattle.two_nonzeros.specs.Cancelling.{sign_at, Cancels, AreSplitBy}

at_first : (x : Nonzero) (run : List Nonzero) (row : ℕ) → x.line ≡ row → value_in (x ∷ run) row ≡ x.value
at_first x run row e = ap (λ (b : Bool). if b then x.value else value_in run row) ((eq_test x.line row).1 e)

at_later : (x : Nonzero) (run : List Nonzero) (row : ℕ) → x.line ≢ row → value_in (x ∷ run) row ≡ value_in run row
at_later x run row n = ap (λ (b : Bool). if b then x.value else value_in run row) (is_ne x.line row n)

-- a run of one nonzero has it only in its own row
only_there : (x : Nonzero) (row : ℕ) → value_in (x ∷ []) row ≢ pos 0 → x.line ≡ row
only_there x row h = elim (two_cases (nat_eq x.line row)) [
  | inl t ↦ eq_of x.line row t
  | inr f ↦ absurd (h (at_later x [] row (ne_of x.line row f)))
]

swapped : (a b : ℤ) → a +ℤ b ≡ pos 0 → b +ℤ a ≡ pos 0
swapped a b e = omega (arith, sums)

pub run_cancels : (sign : ℕ → ℤ) (run : List Nonzero) (row other : ℕ) → Cancels sign run → row < other → value_in run row ≢ pos 0 → value_in run other ≢ pos 0
    → (sign row *ℤ value_in run row) +ℤ (sign other *ℤ value_in run other) ≡ pos 0
run_cancels sign [] row other c l h g = absurd (h refl)
run_cancels sign (x ∷ []) row other c l h g = absurd (let is_row = only_there x row h in let is_other = only_there x other g in omega arith)
run_cancels sign (x ∷ y ∷ []) row other c l h g = go (two_cases (nat_eq x.line row)) (two_cases (nat_eq x.line other))
  where
    two : (r q : ℕ) → x.line ≡ r → y.line ≡ q → value_in (x ∷ y ∷ []) r ≡ x.value → value_in (x ∷ y ∷ []) q ≡ y.value
        → (sign r *ℤ value_in (x ∷ y ∷ []) r) +ℤ (sign q *ℤ value_in (x ∷ y ∷ []) q) ≡ pos 0
    two r q e f v w = ap₂ (λ (a b : ℤ). a +ℤ b) (ap₂ (λ (n : ℕ) (z : ℤ). sign n *ℤ z) (sym e) v) (ap₂ (λ (n : ℕ) (z : ℤ). sign n *ℤ z) (sym f) w) ∙ c

    second : (r : ℕ) → x.line ≢ r → value_in (x ∷ y ∷ []) r ≢ pos 0 → y.line ≡ r
    second r n h = only_there y r (λ e. h (at_later x (y ∷ []) r n ∙ e))

    second_value : (r : ℕ) → x.line ≢ r → y.line ≡ r → value_in (x ∷ y ∷ []) r ≡ y.value
    second_value r n e = at_later x (y ∷ []) r n ∙ at_first y [] r e

    go : (nat_eq x.line row ≡ true) ⊎ (nat_eq x.line row ≡ false) → (nat_eq x.line other ≡ true) ⊎ (nat_eq x.line other ≡ false)
        → (sign row *ℤ value_in (x ∷ y ∷ []) row) +ℤ (sign other *ℤ value_in (x ∷ y ∷ []) other) ≡ pos 0
    go (inl t) (inl u) = absurd (let is_row = eq_of x.line row t in let is_other = eq_of x.line other u in omega arith)
    go (inl t) (inr u) =
        let is_row = eq_of x.line row t in
        let not_other = ne_of x.line other u in
        let then_other = second other not_other g in
        two row other is_row then_other (at_first x (y ∷ []) row is_row) (second_value other not_other then_other)
    go (inr t) (inl u) =
        let is_other = eq_of x.line other u in
        let not_row = ne_of x.line row t in
        let then_row = second row not_row h in
        swapped (sign other *ℤ value_in (x ∷ y ∷ []) other) (sign row *ℤ value_in (x ∷ y ∷ []) row)
        (two other row is_other then_row (at_first x (y ∷ []) other is_other) (second_value row not_row then_row))
    go (inr t) (inr u) = absurd (let then_row = second row (ne_of x.line row t) h in let then_other = second other (ne_of x.line other u) g in omega arith)
run_cancels sign (x ∷ y ∷ z ∷ run) row other c l h g = absurd c

pub sign_is : (minus : List Bool) (row : ℕ) → IsSign (sign_at minus row)
sign_is minus row = go (get_or minus row false)
  where
    go : (b : Bool) → IsSign (if b then negsuc 0 else pos 1)
    go true = inr refl
    go false = inl refl

-- ---- a sign for each row

module _ (minus : List Bool) (m t : SparseRows) (shape : AreSparseRows m) (crossed : AreCrossed m t) (all : (column : ℕ) → column < length t.runs → Cancels (sign_at minus) (run_of t column)) where
  each_cancels : (column : ℕ) → Cancels (sign_at minus) (run_of t column)
  each_cancels column = elim (cases_lt column (length t.runs)) [
    | inl l ↦ all column l
    | inr l ↦ subst (Cancels (sign_at minus)) (sym (get_or_past t.runs column [] l)) tt
  ]

  value_is : (row column : ℕ) → entry (matrix_of_runs m) row column ≡ value_in (run_of t column) row
  value_is row column = matrix_entry m shape row column ∙ sym (crossed.entries row column)

  pub split_of : AreSplitBy minus m
  split_of = record {
    signs = sign_is minus;
    cancel = λ row other column l h g.
        ap₂ (λ (a b : ℤ). (sign_at minus row *ℤ a) +ℤ (sign_at minus other *ℤ b)) (value_is row column) (value_is other column)
        ∙ run_cancels (sign_at minus) (run_of t column) row other (each_cancels column) l (λ e. h (value_is row column ∙ e)) (λ e. g (value_is other column ∙ e));
  }
