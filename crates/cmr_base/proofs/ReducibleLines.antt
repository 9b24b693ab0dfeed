-- Conditions under which a line is reducible.
use Rattle.std.proofs.Common.{◌≡◌, ◌≢◌, ◌&&◌, ◌∙◌, ◌⊎◌, inl, inr, ℕ, Bool, true, false, cond, not, eqb, ℤ, pos, negsuc, neg_ℤ, ◌*ℤ◌, List, find, Option, Some, None, is_some, IsSome, option_map, eqb-true, ne_eqb, refl, ap, sym, arith}
use Rattle.std.specs.Option.{option_or}
use Rattle.std.specs.List.Sorted.{IsStrictlyIncreasing}
use Rattle.std.proofs.lemmas.Bool.{eqb-false}
use Rattle.cmr_base.specs.declared.line.Line.{Line}
use Rattle.cmr_base.specs.declared.line.Reason.{Reason}
use Rattle.cmr_base.specs.declared.line.Reason.TheVariants.{Zero, Unit as One, Copy, Negative}
use Rattle.cmr_base.specs.Matrix.{is_nonzero}
use Rattle.cmr_base.specs.Reductions.{nonzeros_at, equal_at, first_equal, first_reason}
use Rattle.cmr_base.proofs.Integers.{products, times_one}
use Rattle.cmr_base.specs.Members.{IsIn}
use Rattle.cmr_base.proofs.ListsWithout.{true_is_false, increasing_distinct}
use Rattle.cmr_base.proofs.ThinLines.{and_is, is_and, not_is, found_is, is_found, equal_is, is_equal, IsThin, thin_from_count, count_from_thin, nonzero_found}

-- the factors by which a line may be multiplied
abbrev pub IsFactor : Bool → ℤ → Type 0
IsFactor binary u = (u ≡ pos 1) ⊎ ((binary ≡ false) × (u ≡ negsuc 0))

-- row `line` is row i times `factor`
pub record HasTwin (binary : Bool) (M : ℕ → ℕ → ℤ) (R C : List ℕ) (i : ℕ) : Type 0 where
  pub line : ℕ
  pub stays : IsIn line R
  pub other : line ≢ i
  pub factor : ℤ
  pub is_factor : IsFactor binary factor
  pub same : (j : ℕ) → IsIn j C → M line j ≡ factor *ℤ M i j

abbrev pub IsReducible : Bool → (ℕ → ℕ → ℤ) → List ℕ → List ℕ → ℕ → Type 0
IsReducible binary M R C i = IsThin C (M i) ⊎ HasTwin binary M R C i

pub some_map : {X Y : Type 0} (f : X → Y) (o : Option X) → is_some (option_map f o) ≡ is_some o
some_map f None = refl
some_map f (Some x) = refl

some_or : {X : Type 0} (o p : Option X) → is_some (option_or o p) ≡ true → (is_some o ≡ true) ⊎ (is_some p ≡ true)
some_or None p e = inr e
some_or (Some x) p e = inl refl

or_some : {X : Type 0} (o p : Option X) → (is_some o ≡ true) ⊎ (is_some p ≡ true) → is_some (option_or o p) ≡ true
or_some None p (inl e) = true_is_false (sym e)
or_some None p (inr e) = e
or_some (Some x) p e = refl

times_minus_one : (z : ℤ) → neg_ℤ z ≡ negsuc 0 *ℤ z
times_minus_one z = simp products

-- another line that equals f
record IsEqualLine (M : ℕ → ℕ → ℤ) (R C : List ℕ) (i : ℕ) (f : ℕ → ℤ) : Type 0 where
  line : ℕ
  stays : IsIn line R
  other : line ≢ i
  same : (j : ℕ) → IsIn j C → M line j ≡ f j

equal_line : (M : ℕ → ℕ → ℤ) (R C : List ℕ) (i : ℕ) (f : ℕ → ℤ) → is_some (first_equal M R C i f) ≡ true → IsEqualLine M R C i f
equal_line M R C i f e =
    let w = found_is (λ k. not (eqb k i) && equal_at C (M k) f) R e in
    let v = and_is (not (eqb w.0 i)) (equal_at C (M w.0) f) w.2 in
    record { line = w.0; stays = w.1; other = eqb-false w.0 i (not_is (eqb w.0 i) v.0); same = equal_is C (M w.0) f v.1 }

line_equal : (M : ℕ → ℕ → ℤ) (R C : List ℕ) (i : ℕ) (f : ℕ → ℤ) → IsEqualLine M R C i f → is_some (first_equal M R C i f) ≡ true
line_equal M R C i f w =
    is_found (λ k. not (eqb k i) && equal_at C (M k) f) R w.line w.stays
    (is_and (not (eqb w.line i)) (equal_at C (M w.line) f) (ap not (ne_eqb w.line i w.other)) (is_equal C (M w.line) f w.same))

module _ (binary : Bool) (M : ℕ → ℕ → ℤ) (kind cross : ℕ → Line) (R C : List ℕ) (i : ℕ) where
  copies : Option Reason
  copies = option_map (λ k. Copy (kind k)) (first_equal M R C i (M i))

  negatives : Option Reason
  negatives = option_map (λ k. Negative (kind k)) (first_equal M R C i (λ j. neg_ℤ (M i j)))

  copies_is : is_some copies ≡ true → HasTwin binary M R C i
  unfolding copies
  copies_is e = let w = equal_line M R C i (M i) (sym (some_map (λ k. Copy (kind k)) (first_equal M R C i (M i))) ∙ e) in
      record { line = w.line; stays = w.stays; other = w.other; factor = pos 1; is_factor = inl refl; same = λ j h. w.same j h ∙ times_one (M i j) }

  negatives_is : binary ≡ false → is_some negatives ≡ true → HasTwin binary M R C i
  unfolding negatives
  negatives_is f e = let w = equal_line M R C i (λ j. neg_ℤ (M i j)) (sym (some_map (λ k. Negative (kind k)) (first_equal M R C i (λ j. neg_ℤ (M i j)))) ∙ e) in
      record { line = w.line; stays = w.stays; other = w.other; factor = negsuc 0; is_factor = inr (f, refl); same = λ j h. w.same j h ∙ times_minus_one (M i j) }

  is_copies : (w : HasTwin binary M R C i) → w.factor ≡ pos 1 → is_some copies ≡ true
  unfolding copies
  is_copies w e = some_map (λ k. Copy (kind k)) (first_equal M R C i (M i))
      ∙ line_equal M R C i (M i) (record { line = w.line; stays = w.stays; other = w.other; same = λ j h. w.same j h ∙ ap (λ (z : ℤ). z *ℤ M i j) e ∙ sym (times_one (M i j)) })

  is_negatives : (w : HasTwin binary M R C i) → w.factor ≡ negsuc 0 → is_some negatives ≡ true
  unfolding negatives
  is_negatives w e = some_map (λ k. Negative (kind k)) (first_equal M R C i (λ j. neg_ℤ (M i j)))
      ∙ line_equal M R C i (λ j. neg_ℤ (M i j)) (record { line = w.line; stays = w.stays; other = w.other; same = λ j h. w.same j h ∙ ap (λ (z : ℤ). z *ℤ M i j) e ∙ sym (times_minus_one (M i j)) })

  one_crossing : Option Reason
  one_crossing = option_map (λ j. One (cross j)) (find (λ j. is_nonzero (M i j)) C)

  -- a line has a reason if and only if it is thin or has a twin
  pub reducible_from_reason : IsSome (first_reason binary M kind cross R C i) → IsReducible binary M R C i
  unfolding copies negatives one_crossing
  reducible_from_reason e = go (eqb (nonzeros_at C (M i)) 0) (eqb (nonzeros_at C (M i)) 1) binary refl refl refl e
    where
      go : (a b y : Bool) → eqb (nonzeros_at C (M i)) 0 ≡ a → eqb (nonzeros_at C (M i)) 1 ≡ b → binary ≡ y
          → is_some (cond a (Some Zero) (cond b one_crossing (option_or copies (cond y None negatives)))) ≡ true → IsReducible binary M R C i
      go true b y p q r e = inl (thin_from_count C (M i) (let n = eqb-true (nonzeros_at C (M i)) 0 p in omega (arith, n)))
      go false true y p q r e = inl (thin_from_count C (M i) (let n = eqb-true (nonzeros_at C (M i)) 1 q in omega (arith, n)))
      go false false true p q r e = elim (some_or copies None e) [ inl h ↦ inr (copies_is h) | inr h ↦ true_is_false (sym h) ]
      go false false false p q r e = elim (some_or copies negatives e) [ inl h ↦ inr (copies_is h) | inr h ↦ inr (negatives_is r h) ]

  pub reason_from_reducible : IsStrictlyIncreasing C → IsReducible binary M R C i → IsSome (first_reason binary M kind cross R C i)
  unfolding copies negatives one_crossing
  reason_from_reducible increases w = go (eqb (nonzeros_at C (M i)) 0) (eqb (nonzeros_at C (M i)) 1) binary refl refl refl w
    where
      go : (a b y : Bool) → eqb (nonzeros_at C (M i)) 0 ≡ a → eqb (nonzeros_at C (M i)) 1 ≡ b → binary ≡ y → IsReducible binary M R C i
          → is_some (cond a (Some Zero) (cond b one_crossing (option_or copies (cond y None negatives)))) ≡ true
      go true b y p q r w = refl
      go false true y p q r w = some_map (λ j. One (cross j)) (find (λ j. is_nonzero (M i j)) C) ∙ nonzero_found C (M i) (eqb-true (nonzeros_at C (M i)) 1 q)
      go false false y p q r (inl thin) =
          let n = count_from_thin C (M i) (increasing_distinct C increases) thin in
          let a = eqb-false (nonzeros_at C (M i)) 0 p in
          let b = eqb-false (nonzeros_at C (M i)) 1 q in
          absurd (omega (arith, n, a, b))
      go false false true p q r (inr t) = or_some copies None (inl (elim t.is_factor [ inl e ↦ is_copies t e | inr f ↦ true_is_false (sym r ∙ f.0) ]))
      go false false false p q r (inr t) = or_some copies negatives (elim t.is_factor [ inl e ↦ inl (is_copies t e) | inr f ↦ inr (is_negatives t f.1) ])
