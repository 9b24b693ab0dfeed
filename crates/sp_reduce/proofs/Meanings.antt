-- What the first reason of a line says of it.
use Rattle.std.proofs.Common.{◌≡◌, ◌≢◌, ◌∙◌, ◌⊎◌, inl, inr, ℕ, Bool, true, false, cond, eqb, ℤ, pos, List, [], ◌∷◌, find, Option, Some, None, is_some, option_map, eqb-true, refl, ap, sym, arith}
use Rattle.std.specs.List.Sorted.{IsStrictlyIncreasing}
use Rattle.std.proofs.lemmas.Bool.{eqb-false}
use Rattle.cmr_base.specs.declared.line.Line.{Line}
use Rattle.cmr_base.specs.declared.line.Reason.{Reason}
use Rattle.cmr_base.specs.declared.line.Reason.TheVariants.{Unit as One}
use Rattle.cmr_base.specs.Matrix.{is_nonzero}
use Rattle.cmr_base.specs.Reductions.{nonzeros_at, first_reason}
use Rattle.cmr_base.specs.Members.{IsIn}
use Rattle.cmr_base.proofs.Members.{IsWithin}
use Rattle.cmr_base.proofs.ListsWithout.{true_is_false, increasing_distinct}
use Rattle.cmr_base.proofs.ThinLines.{false_is, nonzero_is, zero_is, thin_from_count, count_from_thin, counted_none}
use Rattle.cmr_base.proofs.ReducibleLines.{HasTwin, IsReducible, reducible_from_reason, reason_from_reducible}
use Rattle.cmr_base.proofs.Options.{some_same}
use Rattle.sp_reduce.proofs.Searches.{some_not_none}
use Rattle.sp_reduce.proofs.SideLemmas.{none_is}

pub found_there : (test : ℕ → Bool) (xs : List ℕ) (x : ℕ) → find test xs ≡ Some x → IsIn x xs × (test x ≡ true)
found_there test [] x e = some_not_none (sym e)
found_there test (y ∷ ys) x e = go (test y) refl e (λ k. found_there test ys x k)
  where
    go : (b : Bool) → test y ≡ b → cond b (Some y) (find test ys) ≡ Some x → (find test ys ≡ Some x → IsIn x ys × (test x ≡ true)) → IsIn x (y ∷ ys) × (test x ≡ true)
    go true t e k = let q : y ≡ x = some_same y x e in (inl (sym q), ap test (sym q) ∙ t)
    go false t e k = let w = k e in (inr w.0, w.1)

-- a line without nonzeros has only zeros
pub zero_counted : (xs : List ℕ) (f : ℕ → ℤ) → nonzeros_at xs f ≡ 0 → (x : ℕ) → IsIn x xs → f x ≡ pos 0
zero_counted xs f e x h = go (is_nonzero (f x)) refl
  where
    go : (b : Bool) → is_nonzero (f x) ≡ b → f x ≡ pos 0
    go true t = absurd (counted_none xs f e x h (nonzero_is (f x) t))
    go false t = zero_is (f x) t

-- it has no nonzero, or it has a twin, or its only nonzero is in the line that the reason names
abbrev pub IsMeant : Bool → (ℕ → ℕ → ℤ) → (ℕ → Line) → List ℕ → List ℕ → ℕ → Reason → Type 0
IsMeant binary M cross R C i reason =
    ((j : ℕ) → IsIn j C → M i j ≡ pos 0) ⊎ (HasTwin binary M R C i ⊎ ((c : ℕ) × (reason ≡ One (cross c)) × IsIn c C × ((j : ℕ) → IsIn j C → M i j ≢ pos 0 → j ≡ c)))

pub meaning : (binary : Bool) (M : ℕ → ℕ → ℤ) (kind cross : ℕ → Line) (R C : List ℕ) (i : ℕ) (reason : Reason) → IsStrictlyIncreasing C
    → first_reason binary M kind cross R C i ≡ Some reason → IsMeant binary M cross R C i reason
meaning binary M kind cross R C i reason increases e =
    go (eqb (nonzeros_at C (M i)) 0) (eqb (nonzeros_at C (M i)) 1) refl refl (λ a b. twin a b) (λ o a. unit (eqb-true (nonzeros_at C (M i)) 1 a) (find (λ j. is_nonzero (M i j)) C) refl o)
  where
    twin : eqb (nonzeros_at C (M i)) 0 ≡ false → eqb (nonzeros_at C (M i)) 1 ≡ false → IsMeant binary M cross R C i reason
    twin p q = elim (reducible_from_reason binary M kind cross R C i (ap is_some e)) [
      | inl thin ↦
          let n = count_from_thin C (M i) (increasing_distinct C increases) thin in
          let a = eqb-false (nonzeros_at C (M i)) 0 p in
          let b = eqb-false (nonzeros_at C (M i)) 1 q in
          absurd (omega (arith, n, a, b))
      | inr t ↦ inr (inl t)
    ]

    unit : nonzeros_at C (M i) ≡ 1 → (o : Option ℕ) → find (λ j. is_nonzero (M i j)) C ≡ o → option_map (λ j. One (cross j)) o ≡ Some reason → IsMeant binary M cross R C i reason
    unit one None f k = some_not_none (sym k)
    unit one (Some c) f k =
        let w = found_there (λ j. is_nonzero (M i j)) C c f in
        inr (inr (c, sym (some_same (One (cross c)) reason k), w.0, λ j h d. thin_from_count C (M i) (omega (arith, one)) j c h w.0 d (nonzero_is (M i c) w.1)))

    go : (a b : Bool) → eqb (nonzeros_at C (M i)) 0 ≡ a → eqb (nonzeros_at C (M i)) 1 ≡ b
        → (eqb (nonzeros_at C (M i)) 0 ≡ false → eqb (nonzeros_at C (M i)) 1 ≡ false → IsMeant binary M cross R C i reason)
        → (option_map (λ j. One (cross j)) (find (λ j. is_nonzero (M i j)) C) ≡ Some reason → eqb (nonzeros_at C (M i)) 1 ≡ true → IsMeant binary M cross R C i reason)
        → IsMeant binary M cross R C i reason
    go true b p q t u = inl (λ j h. zero_counted C (M i) (eqb-true (nonzeros_at C (M i)) 0 p) j h)
    go false false p q t u = t p q
    go false true p q t u = u (sym (one p q) ∙ e) q
      where
        one : eqb (nonzeros_at C (M i)) 0 ≡ false → eqb (nonzeros_at C (M i)) 1 ≡ true → first_reason binary M kind cross R C i ≡ option_map (λ j. One (cross j)) (find (λ j. is_nonzero (M i j)) C)
        one p q = rw (p, q) refl

-- ---- no reason

pub irreducible_from_none : (binary : Bool) (M : ℕ → ℕ → ℤ) (kind cross : ℕ → Line) (R C : List ℕ) (i : ℕ) → IsStrictlyIncreasing C
    → first_reason binary M kind cross R C i ≡ None → ¬ IsReducible binary M R C i
irreducible_from_none binary M kind cross R C i increases e r = true_is_false (sym (reason_from_reducible binary M kind cross R C i increases r) ∙ ap is_some e)

pub none_from_irreducible : (binary : Bool) (M : ℕ → ℕ → ℤ) (kind cross : ℕ → Line) (R C : List ℕ) (i : ℕ) → ¬ IsReducible binary M R C i → first_reason binary M kind cross R C i ≡ None
none_from_irreducible binary M kind cross R C i irreducible =
    none_is (first_reason binary M kind cross R C i) (false_is (is_some (first_reason binary M kind cross R C i)) (λ e. irreducible (reducible_from_reason binary M kind cross R C i e)))

-- with fewer lines of its kind a line stays irreducible
pub irreducible_fewer : (binary : Bool) (M : ℕ → ℕ → ℤ) (R' R C : List ℕ) (i : ℕ) → IsWithin R' R → ¬ IsReducible binary M R C i → ¬ IsReducible binary M R' C i
irreducible_fewer binary M R' R C i within irreducible (inl thin) = irreducible (inl thin)
irreducible_fewer binary M R' R C i within irreducible (inr t) = irreducible (inr (record {
  line = t.line;
  stays = within t.line t.stays;
  other = t.other;
  factor = t.factor;
  is_factor = t.is_factor;
  same = t.same;
}))
