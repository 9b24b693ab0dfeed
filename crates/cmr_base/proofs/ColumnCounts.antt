-- Counts of numbers that pass a test.
use Rattle.std.proofs.Common.{◌≡◌, ◌<◌, ◌≤◌, ◌+◌, ◌-◌, ◌∙◌, ◌++◌, ℕ, zero, suc, Bool, true, false, cond, count_by, List, [], ◌∷◌, sym, ap, refl, arith, zero-add, inl, inr}
use Rattle.std.proofs.lemmas.Bool.{cases_lt}
use Rattle.std.proofs.lemmas.List.Sums.{sum_by-append}
use Rattle.cmr_base.specs.LineSets.{first_lines}
use Rattle.cmr_base.proofs.LineSetLemmas.{range_more}

module _ (f : ℕ → Bool) where
  pub count_more : (k : ℕ) → count_by f (first_lines (k + 1)) ≡ count_by f (first_lines k) + cond (f k) 1 0
  count_more k = ap (count_by f) (range_more 0 k k (omega arith)) ∙ last (first_lines k) ∙ one (f k)
    where
      last : (xs : List ℕ) → count_by f (xs ++ k ∷ []) ≡ count_by f xs + count_by f (k ∷ [])
      last xs = sum_by-append (λ x. cond (f x) 1 0) xs (k ∷ [])

      one : (t : Bool) → count_by f (first_lines k) + count_by f (k ∷ []) ≡ count_by f (first_lines k) + cond (f k) 1 0
      one t = ap (λ (z : ℕ). count_by f (first_lines k) + z) (zero-add (cond (f k) 1 0))

  -- none of the next d numbers passes
  count_skip : (a d : ℕ) → ((c : ℕ) → a ≤ c → c < a + d → f c ≡ false) → count_by f (first_lines (a + d)) ≡ count_by f (first_lines a)
  count_skip a zero none = ap (λ (z : ℕ). count_by f (first_lines z)) (let e : a + 0 ≡ a = omega arith in e)
  count_skip a (suc d) none =
      let e : a + suc d ≡ a + d + 1 = omega arith in
      ap (λ (z : ℕ). count_by f (first_lines z)) e ∙ count_more (a + d) ∙ ap (λ (t : Bool). count_by f (first_lines (a + d)) + cond t 1 0) (none (a + d) (omega arith) (omega arith))
      ∙ (let z : count_by f (first_lines (a + d)) + 0 ≡ count_by f (first_lines (a + d)) = omega arith in z) ∙ count_skip a d (λ c l h. none c l (omega arith))

  pub count_on : (a b : ℕ) → a ≤ b → ((c : ℕ) → a ≤ c → c < b → f c ≡ false) → count_by f (first_lines b) ≡ count_by f (first_lines a)
  count_on a b l none = let e : a + (b - a) ≡ b = omega arith in ap (λ (z : ℕ). count_by f (first_lines z)) (sym e) ∙ count_skip a (b - a) (λ c m h. none c m (omega arith))

  pub count_next : (a b : ℕ) → a ≤ b → ((c : ℕ) → a ≤ c → c < b → f c ≡ false) → f b ≡ true → count_by f (first_lines (b + 1)) ≡ count_by f (first_lines a) + 1
  count_next a b l none here = count_more b ∙ ap (λ (t : Bool). count_by f (first_lines b) + cond t 1 0) here ∙ ap (λ (z : ℕ). z + 1) (count_on a b l none)

  pub count_end : (a width : ℕ) → ((c : ℕ) → a ≤ c → f c ≡ false) → ((c : ℕ) → f c ≡ true → c < width) → count_by f (first_lines a) ≡ count_by f (first_lines width)
  count_end a width none inside = elim (cases_lt a width) [
    | inl l ↦ sym (count_on a width (omega arith) (λ c m h. none c m))
    | inr l ↦ count_on width a l (λ c m h. past c m (f c) refl)
  ]
    where
      past : (c : ℕ) → width ≤ c → (t : Bool) → f c ≡ t → f c ≡ false
      past c m true e = absurd (let h = inside c e in omega arith)
      past c m false e = e
