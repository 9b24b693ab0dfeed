-- A column's nonzeros in the rows scanned so far.
use Rattle.std.proofs.Common.{◌≡◌, ◌<◌, ◌≤◌, ◌+◌, ◌∙◌, inl, inr, ℕ, Bool, true, false, not, Option, Some, None, ℤ, pos, ◌+ℤ◌, ◌-ℤ◌, List, [], ◌∷◌, length, take, get_or, refl, ap, sym, subst, arith}
use Rattle.std.specs.Prelude.{IfSome, IfNone, is_some}
use Rattle.std.specs.List.{AllByRecursion}
use Rattle.std.proofs.lemmas.Bool.{false≢true}
use Rattle.std.proofs.lemmas.List.{take_more, take_all, get_or-take, length-take}
use Rattle.cmr_base.specs.Matrix.{Matrix, entry}
use Rattle.cmr_base.specs.Signing.{IsSign}
use Rattle.cmr_base.specs.Sums.{sum_over, IsEven, IsOdd}
use Rattle.cmr_base.proofs.Integers.{sums}
use Rattle.cmr_base.proofs.Parity.{even_not_odd}
use Rattle.cmr_base.proofs.SignEntries.{sign_nonzero}
use Rattle.cmr_base.proofs.SumLaws.{sum_over-append}
use Rattle.cmr_base.proofs.Lists.{all-append, all_at}
use Rattle.ghouila.specs.Pivot.{IsPivot, HasNoPivot}
use Rattle.ghouila.specs.Found.{HasParity}

pub parity-add_sign : (odd : Bool) (s x : ℤ) → IsSign x → HasParity odd s → HasParity (not odd) (s +ℤ x)
parity-add_sign true s x (inl e) (k, f) = (k, omega (arith, sums))
parity-add_sign true s x (inr e) (k, f) = (k -ℤ pos 1, omega (arith, sums))
parity-add_sign false s x (inl e) (k, f) = (k +ℤ pos 1, omega (arith, sums))
parity-add_sign false s x (inr e) (k, f) = (k, omega (arith, sums))

pub parity-add_zero : (odd : Bool) (s x : ℤ) → x ≡ pos 0 → HasParity odd s → HasParity odd (s +ℤ x)
parity-add_zero true s x e (k, f) = (k, omega (arith, sums))
parity-add_zero false s x e (k, f) = (k, omega (arith, sums))

pub sum_over_more : (rows : List ℕ) (k : ℕ) (f : ℕ → ℤ) → k < length rows → sum_over (take (k + 1) rows) f ≡ sum_over (take k rows) f +ℤ f (get_or rows k 0)
sum_over_more rows k f h = ap (λ xs. sum_over xs f) (take_more rows k 0 h) ∙ sum_over-append (take k rows) (get_or rows k 0 ∷ []) f ∙ last (sum_over (take k rows) f) (f (get_or rows k 0))
  where
    last : (a b : ℤ) → a +ℤ (b +ℤ pos 0) ≡ a +ℤ b
    last a b = omega (arith, sums)

pub all_more : (P : ℕ → Type 0) (rows : List ℕ) (k : ℕ) → k < length rows → AllByRecursion P (take k rows) → P (get_or rows k 0) → AllByRecursion P (take (k + 1) rows)
all_more P rows k h all p = subst (AllByRecursion P) (sym (take_more rows k 0 h)) (all-append P (take k rows) (get_or rows k 0 ∷ []) all (p, tt))

-- after the first k rows: the parity of the number of nonzeros, and the first nonzero
pub record IsScanned (m : Matrix) (rows : List ℕ) (column k : ℕ) (first : Option ℕ) (odd : Bool) : Type 0 where
  pub parity : HasParity odd (sum_over (take k rows) (λ row. entry m row column))
  pub found : IfSome first (λ place. (place < length rows) × IsSign (entry m (get_or rows place 0) column))
  pub none : IfNone first (AllByRecursion (λ row. entry m row column ≡ pos 0) (take k rows))
  pub earlier : IfSome first (λ place. (i : ℕ) → i < place → entry m (get_or rows i 0) column ≡ pos 0)

module _ (m : Matrix) (rows : List ℕ) (column k : ℕ) (inside : k < length rows) where
  pub scanned_zero : (first now : Option ℕ) (odd now_odd : Bool) → now ≡ first → now_odd ≡ odd → entry m (get_or rows k 0) column ≡ pos 0
      → IsScanned m rows column k first odd → IsScanned m rows column (k + 1) now now_odd
  scanned_zero first now odd now_odd f g e s = rw (f, g) (record {
    parity = subst (HasParity odd) (sym (sum_over_more rows k (λ row. entry m row column) inside)) (parity-add_zero odd (sum_over (take k rows) (λ row. entry m row column)) (entry m (get_or rows k 0) column) e s.parity);
    found = s.found;
    none = go first s.none;
    earlier = s.earlier;
  })
    where
      go : (first : Option ℕ) → IfNone first (AllByRecursion (λ row. entry m row column ≡ pos 0) (take k rows)) → IfNone first (AllByRecursion (λ row. entry m row column ≡ pos 0) (take (k + 1) rows))
      go None all = all_more (λ row. entry m row column ≡ pos 0) rows k inside all e
      go (Some place) all = tt

  parity_after : (odd : Bool) → IsSign (entry m (get_or rows k 0) column) → HasParity odd (sum_over (take k rows) (λ row. entry m row column))
      → HasParity (not odd) (sum_over (take (k + 1) rows) (λ row. entry m row column))
  parity_after odd u p = subst (HasParity (not odd)) (sym (sum_over_more rows k (λ row. entry m row column) inside)) (parity-add_sign odd (sum_over (take k rows) (λ row. entry m row column)) (entry m (get_or rows k 0) column) u p)

  pub scanned_first : (first now : Option ℕ) (odd now_odd : Bool) → is_some first ≡ false → now ≡ Some k → now_odd ≡ not odd
      → IsSign (entry m (get_or rows k 0) column) → IsScanned m rows column k first odd → IsScanned m rows column (k + 1) now now_odd
  scanned_first None now odd now_odd none e f u s = rw (e, f) (record {
    parity = parity_after odd u s.parity;
    found = (inside, u);
    none = tt;
    earlier = λ i h. subst (λ row. entry m row column ≡ pos 0) (get_or-take k rows i 0 h) (all_at (λ row. entry m row column ≡ pos 0) (take k rows) i 0 s.none (omega (arith, length-take k rows)));
  })
  scanned_first (Some place) now odd now_odd none e f u s = absurd (false≢true (sym none))

  pub scanned_more : (first now : Option ℕ) (odd now_odd : Bool) → is_some first ≡ true → now ≡ first → now_odd ≡ not odd
      → IsSign (entry m (get_or rows k 0) column) → IsScanned m rows column k first odd → IsScanned m rows column (k + 1) now now_odd
  scanned_more None now odd now_odd some e f u s = absurd (false≢true some)
  scanned_more (Some place) now odd now_odd some e f u s = rw (e, f) (record { parity = parity_after odd u s.parity; found = s.found; none = tt; earlier = s.earlier })

pub scanned_nothing : (m : Matrix) (rows : List ℕ) (column : ℕ) → IsScanned m rows column 0 None false
scanned_nothing m rows column = record { parity = (pos 0, refl); found = tt; none = tt; earlier = tt }

pub scanned_odd : (m : Matrix) (rows : List ℕ) (column k : ℕ) (first : Option ℕ) → length rows ≤ k → IsScanned m rows column k first true → HasNoPivot m rows column
scanned_odd m rows column k first h s = inr (subst (λ xs. IsOdd (sum_over xs (λ row. entry m row column))) (take_all k rows h) s.parity)

pub scanned_even : (m : Matrix) (rows : List ℕ) (column k : ℕ) (first : Option ℕ) → column < m.width → length rows ≤ k → IsScanned m rows column k first false
    → IfSome first (λ place. IsPivot m rows place column) × IfNone first (HasNoPivot m rows column)
scanned_even m rows column k None inside h s = (tt, inl (subst (AllByRecursion (λ row. entry m row column ≡ pos 0)) (take_all k rows h) s.none))
scanned_even m rows column k (Some place) inside h s = (
  record {
    within = s.found.0;
    column_in = inside;
    nonzero = s.found.1;
    even = subst (λ xs. IsEven (sum_over xs (λ row. entry m row column))) (take_all k rows h) s.parity;
  },
  tt,
)

-- a column with a pivot is not one without a pivot
pub pivot_there : (m : Matrix) (rows : List ℕ) (place column : ℕ) → IsPivot m rows place column → HasNoPivot m rows column → ⊥
pivot_there m rows place column is (inl zeros) = sign_nonzero (entry m (get_or rows place 0) column) is.nonzero (all_at (λ row. entry m row column ≡ pos 0) rows place 0 zeros is.within)
pivot_there m rows place column is (inr odd) = even_not_odd (sum_over rows (λ row. entry m row column)) is.even odd
