-- A line stays irreducible when a crossing line is removed, unless it gets few nonzeros or its twin is the line that changed.
use Rattle.std.proofs.Common.{◌≡◌, ◌≢◌, ◌<◌, ◌&&◌, ◌||◌, ◌∙◌, inl, inr, ℕ, Bool, true, false, not, eqb, ℤ, pos, neg_ℤ, ◌*ℤ◌, List, ne_eqb, refl, ap, sym, subst, arith}
use Rattle.std.specs.List.Sorted.{IsStrictlyIncreasing}
use Rattle.std.proofs.lemmas.Bool.{cases_eq}
use Rattle.cmr_base.specs.declared.line.Line.{Line}
use Rattle.cmr_base.specs.declared.line.Reason.{Reason}
use Rattle.cmr_base.specs.declared.line.Reason.TheVariants.{Unit as One}
use Rattle.cmr_base.specs.Matrix.{is_nonzero}
use Rattle.cmr_base.specs.LineSets.{without}
use Rattle.cmr_base.specs.Reductions.{nonzeros_at, equal_at}
use Rattle.cmr_base.proofs.Integers.{sums, products, one-mul, minus_one-mul, mul-neg}
use Rattle.cmr_base.specs.Members.{IsIn}
use Rattle.cmr_base.proofs.ListsWithout.{true_is_false, in_without, without_increases, increasing_distinct}
use Rattle.sp_reduce.specs.LineKinds.{is_twin}
use Rattle.cmr_base.proofs.ThinLines.{nonzero_is, zero_is, is_and, is_equal, count_from_thin}
use Rattle.cmr_base.proofs.ReducibleLines.{IsFactor, HasTwin, IsReducible}
use Rattle.cmr_base.proofs.Booleans.{or_left, or_right}
use Rattle.sp_reduce.proofs.Meanings.{IsMeant}

pub twin_is : (binary : Bool) (N : ℕ → ℕ → ℤ) (places : List ℕ) (c j : ℕ) (u : ℤ) → j ≢ c → IsFactor binary u → ((k : ℕ) → IsIn k places → N c k ≡ u *ℤ N j k) → is_twin binary N places c j ≡ true
twin_is binary N places c j u other (inl e) same =
    is_and (not (eqb j c)) (equal_at places (N j) (N c) || not binary && equal_at places (N j) (λ k. neg_ℤ (N c k))) (ap not (ne_eqb j c other))
    (or_left (equal_at places (N j) (N c)) (not binary && equal_at places (N j) (λ k. neg_ℤ (N c k)))
    (is_equal places (N j) (N c) (λ k h. sym (same k h ∙ ap (λ (z : ℤ). z *ℤ N j k) e ∙ one-mul (N j k)))))
twin_is binary N places c j u other (inr (b, e)) same =
    is_and (not (eqb j c)) (equal_at places (N j) (N c) || not binary && equal_at places (N j) (λ k. neg_ℤ (N c k))) (ap not (ne_eqb j c other))
    (or_right (equal_at places (N j) (N c)) (not binary && equal_at places (N j) (λ k. neg_ℤ (N c k)))
    (is_and (not binary) (equal_at places (N j) (λ k. neg_ℤ (N c k))) (ap not b)
    (is_equal places (N j) (λ k. neg_ℤ (N c k)) (λ k h. back (N c k) (N j k) (same k h ∙ ap (λ (z : ℤ). z *ℤ N j k) e ∙ minus_one-mul (N j k))))))
  where
    back : (a b : ℤ) → a ≡ neg_ℤ b → b ≡ neg_ℤ a
    back a b e = omega (arith, sums, e)

zero_by : (z : ℤ) → (z ≢ pos 0 → ⊥) → z ≡ pos 0
zero_by z h = go (is_nonzero z) refl
  where
    go : (b : Bool) → is_nonzero z ≡ b → z ≡ pos 0
    go true t = absurd (h (nonzero_is z t))
    go false t = zero_is z t

both_zero : (a b u : ℤ) → a ≡ pos 0 → b ≡ pos 0 → a ≡ u *ℤ b
both_zero a b u e f = rw (e, f) (simp products)

cancel : (binary : Bool) (a b u v : ℤ) → IsFactor binary v → v *ℤ a ≡ u *ℤ (v *ℤ b) → a ≡ u *ℤ b
cancel binary a b u v (inl e) h =
    sym (one-mul a) ∙ ap (λ (z : ℤ). z *ℤ a) (sym e) ∙ h ∙ ap (λ (z : ℤ). u *ℤ (z *ℤ b)) e ∙ ap (λ (z : ℤ). u *ℤ z) (one-mul b)
cancel binary a b u v (inr (f, e)) h =
    flip a (u *ℤ b)
    (sym (minus_one-mul a) ∙ ap (λ (z : ℤ). z *ℤ a) (sym e) ∙ h ∙ ap (λ (z : ℤ). u *ℤ (z *ℤ b)) e ∙ ap (λ (z : ℤ). u *ℤ z) (minus_one-mul b) ∙ mul-neg u b)
  where
    flip : (a b : ℤ) → neg_ℤ a ≡ neg_ℤ b → a ≡ b
    flip a b e = omega (arith, sums, e)

module _ (binary : Bool) (N : ℕ → ℕ → ℤ) (cross : ℕ → Line) (R C : List ℕ) (removed j : ℕ) (reason : Reason) where
  at_removed : IsIn j C → IsMeant binary (λ k l. N l k) cross R C removed reason → (t : HasTwin binary N C (without R removed) j)
      → ((c : ℕ) → reason ≡ One (cross c) → IsIn c C → (j ≢ c) × (is_twin binary N (without R removed) c j ≡ false)) → N t.line removed ≡ t.factor *ℤ N j removed
  at_removed there (inl zeros) t unit = both_zero (N t.line removed) (N j removed) t.factor (zeros t.line t.stays) (zeros j there)
  at_removed there (inr (inl w)) t unit =
      cancel binary (N t.line removed) (N j removed) t.factor w.factor w.is_factor
      (sym (w.same t.line t.stays) ∙ t.same w.line (in_without removed w.line R w.stays w.other) ∙ ap (λ (z : ℤ). t.factor *ℤ z) (w.same j there))
  at_removed there (inr (inr (c, is, in_, only))) t unit =
      let other = unit c is in_ in
      let here : N j removed ≡ pos 0 = zero_by (N j removed) (λ d. other.0 (only j there d)) in
      elim (cases_eq t.line c) [
        | inl q ↦ true_is_false (sym (twin_is binary N (without R removed) c j t.factor other.0 t.is_factor (λ k h. ap (λ (l : ℕ). N l k) (sym q) ∙ t.same k h)) ∙ other.1)
        | inr d ↦ both_zero (N t.line removed) (N j removed) t.factor (zero_by (N t.line removed) (λ e. d (only t.line t.stays e))) here
      ]

  pub irreducible_after : IsStrictlyIncreasing R → IsIn j C → IsMeant binary (λ k l. N l k) cross R C removed reason → ¬ IsReducible binary N C R j
      → (is_nonzero (N j removed) ≡ true → 1 < nonzeros_at (without R removed) (N j))
      → ((c : ℕ) → reason ≡ One (cross c) → IsIn c C → (j ≢ c) × (is_twin binary N (without R removed) c j ≡ false)) → ¬ IsReducible binary N C (without R removed) j
  irreducible_after increases there meant irreducible many unit (inl thin) = go (is_nonzero (N j removed)) refl
    where
      go : (b : Bool) → is_nonzero (N j removed) ≡ b → ⊥
      go true e =
          let few = count_from_thin (without R removed) (N j) (increasing_distinct (without R removed) (without_increases removed R increases)) thin in
          let more = many e in
          omega (arith, few, more)
      go false e =
          let apart : (x : ℕ) → N j x ≢ pos 0 → x ≢ removed = λ x d q. d (ap (N j) q ∙ zero_is (N j removed) e) in
          irreducible (inl (λ x y h g d f. thin x y (in_without removed x R h (apart x d)) (in_without removed y R g (apart y f)) d f))
  irreducible_after increases there meant irreducible many unit (inr t) = irreducible (inr (record {
    line = t.line;
    stays = t.stays;
    other = t.other;
    factor = t.factor;
    is_factor = t.is_factor;
    same = λ k h. elim (cases_eq k removed) [
      | inl q ↦ subst (λ (v : ℕ). N t.line v ≡ t.factor *ℤ N j v) (sym q) (at_removed there meant t unit)
      | inr d ↦ t.same k (in_without removed k R h d)
    ];
  }))
