-- A line is reducible if it has at most one nonzero; otherwise it is reducible if and only if it has a twin.
use Rattle.std.proofs.Common.{◌≡◌, ◌<◌, ◌≤◌, ◌&&◌, ◌||◌, ◌∙◌, inl, inr, ℕ, Bool, true, false, cond, not, eqb, ℤ, neg_ℤ, List, [], ◌∷◌, find, Option, Some, None, is_some, option_map, refl, ap, sym, arith, ne_eqb, eq-eqb}
use Rattle.std.specs.List.{list_any}
use Rattle.std.specs.Option.{option_or}
use Rattle.std.proofs.lemmas.Bool.{cases_eq}
use Rattle.cmr_base.specs.declared.line.Line.{Line}
use Rattle.cmr_base.specs.declared.line.Reason.TheVariants.{Unit as One, Copy, Negative}
use Rattle.cmr_base.specs.Matrix.{is_nonzero}
use Rattle.cmr_base.specs.Reductions.{nonzeros_at, equal_at, first_equal, first_reason}
use Rattle.sp_reduce.specs.LineKinds.{is_twin}
use Rattle.cmr_base.proofs.Booleans.{or_false}
use Rattle.cmr_base.proofs.ThinLines.{nonzero_found}
use Rattle.cmr_base.proofs.ReducibleLines.{some_map}

is_some_find : (test : ℕ → Bool) (xs : List ℕ) → is_some (find test xs) ≡ list_any test xs
is_some_find test [] = refl
is_some_find test (x ∷ xs) = go (test x) (is_some_find test xs)
  where
    go : (b : Bool) → is_some (find test xs) ≡ list_any test xs → is_some (cond b (Some x) (find test xs)) ≡ (b || list_any test xs)
    go true e = refl
    go false e = e

any_or : (p q : ℕ → Bool) (xs : List ℕ) → (list_any p xs || list_any q xs) ≡ list_any (λ x. p x || q x) xs
any_or p q [] = refl
any_or p q (x ∷ xs) = swap (p x) (list_any p xs) (q x) (list_any q xs) ∙ ap (λ (b : Bool). (p x || q x) || b) (any_or p q xs)
  where
    swap : (a b c d : Bool) → ((a || b) || (c || d)) ≡ ((a || c) || (b || d))
    swap true b c d = refl
    swap false true true d = refl
    swap false true false d = refl
    swap false false c d = refl

any_agree : (p q : ℕ → Bool) → ((x : ℕ) → p x ≡ q x) → (xs : List ℕ) → list_any p xs ≡ list_any q xs
any_agree p q same [] = refl
any_agree p q same (x ∷ xs) = rw (same x, any_agree p q same xs) refl

some_or : {X : Type 0} (o p : Option X) → is_some (option_or o p) ≡ (is_some o || is_some p)
some_or None p = refl
some_or (Some x) p = refl

module _ (M : ℕ → ℕ → ℤ) (kind cross : ℕ → Line) (lines places : List ℕ) (line : ℕ) where
  copies : is_some (option_map (λ k. Copy (kind k)) (first_equal M lines places line (M line))) ≡ list_any (λ k. not (eqb k line) && equal_at places (M k) (M line)) lines
  copies = some_map (λ k. Copy (kind k)) (first_equal M lines places line (M line)) ∙ is_some_find (λ k. not (eqb k line) && equal_at places (M k) (M line)) lines

  negatives : is_some (option_map (λ k. Negative (kind k)) (first_equal M lines places line (λ j. neg_ℤ (M line j)))) ≡ list_any (λ k. not (eqb k line) && equal_at places (M k) (λ j. neg_ℤ (M line j))) lines
  negatives = some_map (λ k. Negative (kind k)) (first_equal M lines places line (λ j. neg_ℤ (M line j))) ∙ is_some_find (λ k. not (eqb k line) && equal_at places (M k) (λ j. neg_ℤ (M line j))) lines

  pub reason_of_thin : (binary : Bool) → nonzeros_at places (M line) ≤ 1 → is_some (first_reason binary M kind cross lines places line) ≡ true
  reason_of_thin binary few = elim (cases_eq (nonzeros_at places (M line)) 0) [
    | inl e ↦ rw (eq-eqb (nonzeros_at places (M line)) 0 e) refl
    | inr d ↦
        let e : nonzeros_at places (M line) ≡ 1 = omega (arith, few, d) in
        rw (ne_eqb (nonzeros_at places (M line)) 0 d, eq-eqb (nonzeros_at places (M line)) 1 e) (some_map (λ j. One (cross j)) (find (λ j. is_nonzero (M line j)) places) ∙ nonzero_found places (M line) e)
  ]

  not_thin : (binary : Bool) → 1 < nonzeros_at places (M line)
      → is_some (first_reason binary M kind cross lines places line)
      ≡ (is_some (option_map (λ k. Copy (kind k)) (first_equal M lines places line (M line)))
      || is_some (cond binary None (option_map (λ k. Negative (kind k)) (first_equal M lines places line (λ j. neg_ℤ (M line j))))))
  not_thin binary many =
      rw (ne_eqb (nonzeros_at places (M line)) 0 (omega (arith, many)), ne_eqb (nonzeros_at places (M line)) 1 (omega (arith, many)))
      (some_or (option_map (λ k. Copy (kind k)) (first_equal M lines places line (M line))) (cond binary None (option_map (λ k. Negative (kind k)) (first_equal M lines places line (λ j. neg_ℤ (M line j))))))

  pub reason_of_twin : (binary : Bool) → 1 < nonzeros_at places (M line) → is_some (first_reason binary M kind cross lines places line) ≡ list_any (is_twin binary M places line) lines
  reason_of_twin true many =
      not_thin true many ∙ or_false (is_some (option_map (λ k. Copy (kind k)) (first_equal M lines places line (M line)))) ∙ copies
      ∙ any_agree (λ k. not (eqb k line) && equal_at places (M k) (M line)) (is_twin true M places line)
      (λ k. plain (not (eqb k line)) (equal_at places (M k) (M line))) lines
    where
      plain : (n a : Bool) → (n && a) ≡ (n && (a || false))
      plain true a = sym (or_false a)
      plain false a = refl
  reason_of_twin false many =
      not_thin false many ∙ both copies negatives
      ∙ any_or (λ k. not (eqb k line) && equal_at places (M k) (M line)) (λ k. not (eqb k line) && equal_at places (M k) (λ j. neg_ℤ (M line j))) lines
      ∙ any_agree (λ k. not (eqb k line) && equal_at places (M k) (M line) || not (eqb k line) && equal_at places (M k) (λ j. neg_ℤ (M line j))) (is_twin false M places line)
      (λ k. plain (not (eqb k line)) (equal_at places (M k) (M line)) (equal_at places (M k) (λ j. neg_ℤ (M line j)))) lines
    where
      both : {a b c d : Bool} → a ≡ c → b ≡ d → (a || b) ≡ (c || d)
      both e f = rw (e, f) refl

      plain : (n a b : Bool) → (n && a || n && b) ≡ (n && (a || b))
      plain true a b = refl
      plain false a b = refl
