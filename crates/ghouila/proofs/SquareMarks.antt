-- The marks of two rows and two columns that are a violator.
use Rattle.std.proofs.Common.{◌≡◌, ◌≢◌, ◌<◌, ◌∙◌, ◌⊎◌, inl, inr, ℕ, Bool, true, false, not, eqb, ℤ, pos, negsuc, neg_ℤ, ◌+ℤ◌, ◌*ℤ◌, List, [], ◌∷◌, length, get_or, set, replicate, refl, ap, sym, subst, arith, w8, of_z}
use mathlib.Core.Bool.{beq}
use Rattle.std.specs.List.{Contains}
use Rattle.std.proofs.lemmas.List.{get_or-set_other, get_or-replicate, length-set, length-replicate}
use Rattle.cmr_base.specs.Matrix.{Matrix, height, entry, IsEntry}
use Rattle.cmr_base.specs.Signing.{IsSign}
use Rattle.cmr_base.proofs.Integers.{sums, mul_assoc, mul_comm, one-mul}
use Rattle.cmr_base.proofs.Lists.{HasOneMore, one_more_first, one_more_later, one_more_nil, all-one_more, sum_over-one_more, contains_first, contains_later}
use Rattle.cmr_base.proofs.ViolatorLemmas.{violator_rows_reordered, violator_columns_reordered}
use Rattle.ghouila.specs.Pivot.{IsSquareViolator, HasSquareViolator}
use Rattle.ghouila.specs.Found.{HasParity, marked, MarksViolator}
use Rattle.ghouila.proofs.SignedSums.{zero_or_sign}
use Rattle.ghouila.proofs.Square.{square_violator}
use Rattle.ghouila.proofs.Marks.{joined, marked-replicate, marked_at, set_unmarked}
use Rattle.cmr_base.proofs.SignEntries.{sign_square}

-- whether one of two entries is 0 and the other is not, as the code tests it
pub odd_pair : (x y : ℤ) → IsEntry x → IsEntry y → HasParity (not (beq (not (eqb (of_z w8 x) 0)) (not (eqb (of_z w8 y) 0)))) (x +ℤ y)
odd_pair x y hx hy = go (zero_or_sign x hx) (zero_or_sign y hy)
  where
    go : (x ≡ pos 0) ⊎ IsSign x → (y ≡ pos 0) ⊎ IsSign y → HasParity (not (beq (not (eqb (of_z w8 x) 0)) (not (eqb (of_z w8 y) 0)))) (x +ℤ y)
    go (inl e) (inl f) = rw (e, f) (pos 0, refl)
    go (inl e) (inr (inl f)) = rw (e, f) (pos 1, refl)
    go (inl e) (inr (inr f)) = rw (e, f) (pos 0, refl)
    go (inr (inl e)) (inl f) = rw (e, f) (pos 1, refl)
    go (inr (inr e)) (inl f) = rw (e, f) (pos 0, refl)
    go (inr (inl e)) (inr (inl f)) = rw (e, f) (pos 1, refl)
    go (inr (inl e)) (inr (inr f)) = rw (e, f) (pos 0, refl)
    go (inr (inr e)) (inr (inl f)) = rw (e, f) (pos 0, refl)
    go (inr (inr e)) (inr (inr f)) = rw (e, f) (negsuc 0, refl)

square_apart : (a p q x : ℤ) → IsSquareViolator a p q x → (p ≡ a) × (x ≡ q) → ⊥
square_apart a p q x s h = go s.corner s.beside
  where
    plain : (a q x : ℤ) → a *ℤ a ≡ pos 1 → x ≡ neg_ℤ (a *ℤ (a *ℤ q)) → x ≡ neg_ℤ q
    plain a q x one e = e ∙ ap neg_ℤ (sym (mul_assoc a a q) ∙ ap (λ z. z *ℤ q) one ∙ one-mul q)

    minus : x ≡ neg_ℤ q
    minus = plain a q x (sign_square a s.corner) (s.opposite ∙ ap (λ z. neg_ℤ (a *ℤ (z *ℤ q))) h.0)

    no_sign : (q x : ℤ) → x ≡ neg_ℤ q → x ≡ q → IsSign q → ⊥
    no_sign q x e f (inl g) = omega (arith, sums)
    no_sign q x e f (inr g) = omega (arith, sums)

    go : IsSign a → IsSign q → ⊥
    go u v = no_sign q x minus h.1 v

pub rows_apart : (m : Matrix) (row column other_row other_column : ℕ) → HasSquareViolator m row column other_row other_column → other_row ≢ row
rows_apart m row column other_row other_column s e =
    square_apart (entry m row column) (entry m other_row column) (entry m row other_column) (entry m other_row other_column) s.square (ap (λ r. entry m r column) e, ap (λ r. entry m r other_column) e)

pub columns_apart : (m : Matrix) (row column other_row other_column : ℕ) → HasSquareViolator m row column other_row other_column → other_column ≢ column
columns_apart m row column other_row other_column s e =
    square_apart (entry m row column) (entry m row other_column) (entry m other_row column) (entry m other_row other_column)
    (record { corner = s.square.corner; below = s.square.beside; beside = s.square.below; across = s.square.across; opposite = s.square.opposite ∙ ap (λ z. neg_ℤ (entry m row column *ℤ z)) (mul_comm (entry m other_row column) (entry m row other_column)) })
    (ap (λ j. entry m row j) e, ap (λ j. entry m other_row j) e)

-- two marks in a list without marks
two_marks : (size first second : ℕ) → first < size → second < size → second ≢ first → HasOneMore second (first ∷ []) (marked (set (set (replicate size false) first true) second true))
two_marks size first second first_in second_in apart = subst (λ xs. HasOneMore second xs (marked (set (set blank first true) second true))) one (subst (λ marks. HasOneMore second (marked marks) (marked (set (set blank first true) second true))) unmarked both)
  where
    blank : List Bool
    blank = replicate size false

    once : HasOneMore first [] (marked (set (replicate size false) first true))
    once = subst (λ xs. HasOneMore first xs (marked (set (replicate size false) first true)))
        (ap marked (set_unmarked (replicate size false) first (get_or-replicate size first false false first_in)) ∙ marked-replicate 0 size)
        (joined true (replicate size false) first (omega (arith, length-replicate size false)))

    one : marked (set (replicate size false) first true) ≡ first ∷ []
    one = one_more_nil first (marked (set (replicate size false) first true)) once

    unmarked : set (set (replicate size false) first true) second false ≡ set (replicate size false) first true
    unmarked = set_unmarked (set (replicate size false) first true) second (get_or-set_other (replicate size false) first second true false apart ∙ get_or-replicate size second false false second_in)

    both : HasOneMore second (marked (set (set (replicate size false) first true) second false)) (marked (set (set (replicate size false) first true) second true))
    both = joined true (set (replicate size false) first true) second (omega (arith, length-set (replicate size false) first true, length-replicate size false))

pub square_marks : (m : Matrix) (row column other_row other_column : ℕ) (rows columns odd : List Bool) → row < height m → column < m.width → HasSquareViolator m row column other_row other_column
    → rows ≡ set (set (replicate (height m) false) row true) other_row true → columns ≡ set (set (replicate m.width false) column true) other_column true → length odd ≡ m.width
    → ((j : ℕ) → j < m.width → HasParity (get_or odd j false) (entry m row j +ℤ entry m other_row j)) → MarksViolator m (row ∷ other_row ∷ []) rows columns odd
square_marks m row column other_row other_column rows columns odd row_in column_in s e f odd_each parity = record {
  row_each = ap length e ∙ length-set (set (replicate (height m) false) row true) other_row true ∙ length-set (replicate (height m) false) row true ∙ length-replicate (height m) false;
  column_each = ap length f ∙ length-set (set (replicate m.width false) column true) other_column true ∙ length-set (replicate m.width false) column true ∙ length-replicate m.width false;
  odd_each = odd_each;
  among = λ n is. marked_at (Contains (row ∷ other_row ∷ [])) 0 rows n n (omega arith) is
      (all-one_more (Contains (row ∷ other_row ∷ [])) other_row (row ∷ []) (marked rows) two_rows (contains_later other_row row (other_row ∷ []) (contains_first other_row [])) (contains_first row (other_row ∷ []), tt));
  violator = violator_columns_reordered (entry m) other_column (column ∷ []) (marked rows) (column ∷ other_column ∷ []) (marked columns) (one_more_later column other_column [] (other_column ∷ []) (one_more_first other_column [])) two_columns
      (violator_rows_reordered (entry m) other_row (row ∷ []) (row ∷ other_row ∷ []) (marked rows) (column ∷ other_column ∷ []) (one_more_later row other_row [] (other_row ∷ []) (one_more_first other_row [])) two_rows
      (square_violator (entry m) row other_row column other_column s.square));
  parity = λ j h. subst (HasParity (get_or odd j false)) (turned (entry m row j) (entry m other_row j) ∙ sym (sum_over-one_more other_row (row ∷ []) (marked rows) (λ r. entry m r j) two_rows)) (parity j h);
}
  where
    turned : (a b : ℤ) → a +ℤ b ≡ b +ℤ (a +ℤ pos 0)
    turned a b = omega (arith, sums)

    two_rows : HasOneMore other_row (row ∷ []) (marked rows)
    two_rows = subst (λ marks. HasOneMore other_row (row ∷ []) (marked marks)) (sym e) (two_marks (height m) row other_row row_in s.row_in (rows_apart m row column other_row other_column s))

    two_columns : HasOneMore other_column (column ∷ []) (marked columns)
    two_columns = subst (λ marks. HasOneMore other_column (column ∷ []) (marked marks)) (sym f) (two_marks m.width column other_column column_in s.column_in (columns_apart m row column other_row other_column s))
