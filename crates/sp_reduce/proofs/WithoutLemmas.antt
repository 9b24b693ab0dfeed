-- Sums over a list without one number, and lists cut at a place.
use Rattle.std.proofs.Common.{◌≡◌, ◌≢◌, ◌<◌, ◌+◌, ◌∙◌, ◌⊎◌, inl, inr, ℕ, zero, suc, Bool, true, false, cond, not, eqb, List, [], ◌∷◌, length, get_or, sum_by, remove, eqb-true, eq-eqb, ne_eqb, refl, ap, sym, subst, arith}
use Rattle.std.proofs.lemmas.Bool.{eqb-false, cases_lt}
use Rattle.std.proofs.lemmas.List.Edits.{get_or-remove_below, get_or-remove_above}
use Rattle.std.proofs.lemmas.List.Sums.{sum_by-cons}
use Rattle.cmr_base.specs.LineSets.{without}
use Rattle.cmr_base.specs.Members.{IsIn, IsDistinct}
use Rattle.cmr_base.proofs.ListsWithout.{in-get_or}

pub without_none : (i : ℕ) (xs : List ℕ) → ¬ IsIn i xs → without xs i ≡ xs
without_none i [] h = refl
without_none i (x ∷ xs) h = rw (ne_eqb x i (λ e. h (inl (sym e)))) (ap (λ (ys : List ℕ). x ∷ ys) (without_none i xs (λ g. h (inr g))))

pub sum_by-without : (f : ℕ → ℕ) (i : ℕ) (xs : List ℕ) → IsDistinct xs → IsIn i xs → sum_by f xs ≡ f i + sum_by f (without xs i)
sum_by-without f i [] d h = absurd h
sum_by-without f i (x ∷ xs) d h = sum_by-cons f x xs ∙ go (eqb x i) refl h (λ k. sum_by-without f i xs d.1 k)
  where
    go : (b : Bool) → eqb x i ≡ b → (i ≡ x) ⊎ IsIn i xs → (IsIn i xs → sum_by f xs ≡ f i + sum_by f (without xs i))
        → f x + sum_by f xs ≡ f i + sum_by f (cond (not b) (x ∷ without xs i) (without xs i))
    go true e h k =
        let q : x ≡ i = eqb-true x i e in
        ap (λ (v : ℕ). f v + sum_by f xs) q ∙ ap (λ (zs : List ℕ). f i + sum_by f zs) (sym (without_none i xs (λ g. d.0 (subst (λ (v : ℕ). IsIn v xs) (sym q) g))))
    go false e (inl q) k = absurd (eqb-false x i e (sym q))
    go false e (inr h) k = let w = k h in let s = sum_by-cons f x (without xs i) in omega (arith, w, s)

-- a increasing list cut at a place is the list without the number there
pub remove-without : (xs : List ℕ) (place : ℕ) → IsDistinct xs → place < length xs → remove xs place ≡ without xs (get_or xs place 0)
remove-without [] place d h = absurd (omega arith)
remove-without (x ∷ xs) zero d h = rw (eq-eqb x x refl) (sym (without_none x xs d.0))
remove-without (x ∷ xs) (suc place) d h =
    let other : x ≢ get_or xs place 0 = λ e. d.0 (subst (λ (y : ℕ). IsIn y xs) (sym e) (in-get_or xs place (omega arith))) in
    rw (ne_eqb x (get_or xs place 0) other) (ap (λ (ys : List ℕ). x ∷ ys) (remove-without xs place d.1 (omega arith)))

-- the position that an item of a list had before another item was removed
pub record HasStood (size place at old : ℕ) : Type 0 where
  pub in_range : old < size
  pub number : (xs : List ℕ) → length xs ≡ size → get_or (remove xs place) at 0 ≡ get_or xs old 0
  pub mark : (xs : List Bool) → length xs ≡ size → get_or (remove xs place) at false ≡ get_or xs old false

pub stood : (size place at : ℕ) → place < size → at + 1 < size → (old : ℕ) × HasStood size place at old
stood size place at h g = elim (cases_lt at place) [
  | inl before ↦ (
    at,
    record {
      in_range = omega arith;
      number = λ xs e. get_or-remove_below xs place 0 at before (omega arith);
      mark = λ xs e. get_or-remove_below xs place false at before (omega arith);
    },
  )
  | inr after ↦ (
    at + 1,
    record {
      in_range = omega arith;
      number = λ xs e. get_or-remove_above xs place 0 at after (omega arith);
      mark = λ xs e. get_or-remove_above xs place false at after (omega arith);
    },
  )
]
