-- The weights of lines, and their sums over the nonzeros of a line.
use Rattle.std.proofs.Common.{◌≡◌, ◌<◌, ◌≤◌, ◌+◌, ◌-◌, ◌^◌, ◌∙◌, inl, inr, ℕ, zero, suc, Bool, true, false, cond, not, ℤ, pos, negsuc, neg_ℤ, List, [], ◌∷◌, length, get_or, Option, None, option_map, eqb, eq-eqb, true≢false, refl, ap, sym, arith}
use Rattle.std.specs.Option.{option_or}
use Rattle.std.proofs.lemmas.List.Sums.{sum_by-cons}
use Rattle.std.proofs.Math.Nat.{pow-le-pow_left}
use Rattle.cmr_base.specs.declared.line.Reason.TheVariants.{Copy, Negative}
use Rattle.cmr_base.specs.Matrix.{Matrix, entry, is_nonzero}
use Rattle.cmr_base.specs.Planes.{is_minus}
use Rattle.cmr_base.specs.Reductions.{equal_at}
use Rattle.cmr_base.specs.Members.{IsIn}
use Rattle.sp_reduce.specs.StayingSides.{weight, weight_at, minus_weight_at, is_copy, is_negative, twin_reason, may_be_twins, may_be_copy, may_be_negative, IsAlone, AreNonzerosCounted}
use Rattle.sp_reduce.specs.LineKinds.{line_named, table}
use Rattle.sp_reduce.specs.declared.side.StayingLines.{StayingLines}
use Rattle.cmr_base.proofs.ThinLines.{and_is, is_and, false_is, equal_is}
use Rattle.sp_reduce.proofs.Searches.{find_none}

pub weight_small : (base : ℕ) → base ≤ 1000 → base ^ 5 ≤ 1000 ^ 5
weight_small base h = pow-le-pow_left h 5

pub weight_at-same : (xs : List ℕ) (f g : ℕ → ℤ) → ((x : ℕ) → IsIn x xs → is_nonzero (f x) ≡ is_nonzero (g x)) → weight_at xs f ≡ weight_at xs g
weight_at-same [] f g same = refl
weight_at-same (x ∷ xs) f g same =
    sum_by-cons (λ k. cond (is_nonzero (f k)) (weight k) 0) x xs
    ∙ rw (same x (inl refl), weight_at-same xs f g (λ y h. same y (inr h))) refl
    ∙ sym (sum_by-cons (λ k. cond (is_nonzero (g k)) (weight k) 0) x xs)

pub minus_weight_at-same : (xs : List ℕ) (f g : ℕ → ℤ) → ((x : ℕ) → IsIn x xs → f x ≡ g x) → minus_weight_at xs f ≡ minus_weight_at xs g
minus_weight_at-same [] f g same = refl
minus_weight_at-same (x ∷ xs) f g same =
    sum_by-cons (λ k. cond (is_minus (f k)) (weight k) 0) x xs
    ∙ rw (same x (inl refl), minus_weight_at-same xs f g (λ y h. same y (inr h))) refl
    ∙ sym (sum_by-cons (λ k. cond (is_minus (g k)) (weight k) 0) x xs)

-- the entries -1 of the negative are the entries 1
pub minus_weight_at-negative : (xs : List ℕ) (f : ℕ → ℤ) → minus_weight_at xs (λ k. neg_ℤ (f k)) + minus_weight_at xs f ≡ weight_at xs f
minus_weight_at-negative [] f = refl
minus_weight_at-negative (x ∷ xs) f =
    let negative = sum_by-cons (λ k. cond (is_minus (neg_ℤ (f k))) (weight k) 0) x xs in
    let minus = sum_by-cons (λ k. cond (is_minus (f k)) (weight k) 0) x xs in
    let all = sum_by-cons (λ k. cond (is_nonzero (f k)) (weight k) 0) x xs in
    let here = part (f x) (weight x) in
    let rest = minus_weight_at-negative xs f in
    omega (arith, negative, minus, all, here, rest)
  where
    part : (z : ℤ) (w : ℕ) → cond (is_minus (neg_ℤ z)) w 0 + cond (is_minus z) w 0 ≡ cond (is_nonzero z) w 0
    part (pos zero) w = refl
    part (pos (suc n)) w = omega arith
    part (negsuc n) w = omega arith

pub nonzero-neg : (z : ℤ) → is_nonzero (neg_ℤ z) ≡ is_nonzero z
nonzero-neg (pos zero) = refl
nonzero-neg (pos (suc n)) = refl
nonzero-neg (negsuc n) = refl

module _ (m : Matrix) (side : StayingLines) (across : List ℕ) (counted : AreNonzerosCounted m side across) (place other : ℕ) (in_range : place < length side.stays.items) (in_range' : other < length side.stays.items) where
  -- twins have one sum
  same_sum : (g : ℕ → ℤ) → ((x : ℕ) → is_nonzero (g x) ≡ is_nonzero (table (entry m) side.kind (get_or side.stays.items place 0) x))
      → equal_at across (table (entry m) side.kind (get_or side.stays.items other 0)) g ≡ true → get_or side.sums.items other 0 ≡ get_or side.sums.items place 0
  same_sum g like e =
      let M = table (entry m) side.kind in
      counted.sums other in_range'
      ∙ weight_at-same across (M (get_or side.stays.items other 0)) (M (get_or side.stays.items place 0)) (λ x h. ap is_nonzero (equal_is across (M (get_or side.stays.items other 0)) g e x h) ∙ like x)
      ∙ sym (counted.sums place in_range)

  may_be : (g : ℕ → ℤ) → ((x : ℕ) → is_nonzero (g x) ≡ is_nonzero (table (entry m) side.kind (get_or side.stays.items place 0) x))
      → equal_at across (table (entry m) side.kind (get_or side.stays.items other 0)) g ≡ true
      → not (eqb (get_or side.stays.items other 0) (get_or side.stays.items place 0)) ≡ true → may_be_twins side place other ≡ true
  may_be g like e apart =
      is_and (eqb (get_or side.sums.items other 0) (get_or side.sums.items place 0)) (not (eqb (get_or side.stays.items other 0) (get_or side.stays.items place 0)))
      (eq-eqb (get_or side.sums.items other 0) (get_or side.sums.items place 0) (same_sum g like e)) apart

  -- the entries -1 of a line that equals g
  minus_sum : (g : ℕ → ℤ) → equal_at across (table (entry m) side.kind (get_or side.stays.items other 0)) g ≡ true → get_or side.minus_sums.items other 0 ≡ minus_weight_at across g
  minus_sum g e =
      let M = table (entry m) side.kind in
      counted.minus_sums other in_range'
      ∙ minus_weight_at-same across (M (get_or side.stays.items other 0)) g (λ x h. equal_is across (M (get_or side.stays.items other 0)) g e x h)

  pub copy_may_be : is_copy (table (entry m) side.kind) across (get_or side.stays.items place 0) (get_or side.stays.items other 0) ≡ true → may_be_copy side place other ≡ true
  copy_may_be e =
      let M = table (entry m) side.kind in
      let line = get_or side.stays.items place 0 in
      let twin = get_or side.stays.items other 0 in
      let both = and_is (not (eqb twin line)) (equal_at across (M twin) (M line)) e in
      is_and (may_be_twins side place other) (eqb (get_or side.minus_sums.items other 0) (get_or side.minus_sums.items place 0)) (may_be (M line) (λ x. refl) both.1 both.0)
      (eq-eqb (get_or side.minus_sums.items other 0) (get_or side.minus_sums.items place 0) (minus_sum (M line) both.1 ∙ sym (counted.minus_sums place in_range)))

  pub negative_may_be : is_negative (table (entry m) side.kind) across (get_or side.stays.items place 0) (get_or side.stays.items other 0) ≡ true → may_be_negative side place other ≡ true
  negative_may_be e =
      let M = table (entry m) side.kind in
      let line = get_or side.stays.items place 0 in
      let twin = get_or side.stays.items other 0 in
      let negative = λ (k : ℕ). neg_ℤ (M line k) in
      let both = and_is (not (eqb twin line)) (equal_at across (M twin) negative) e in
      let minus = minus_sum negative both.1 in
      let split = minus_weight_at-negative across (M line) in
      let sum = counted.sums place in_range in
      let own = counted.minus_sums place in_range in
      is_and (may_be_twins side place other) (eqb (get_or side.minus_sums.items other 0) (get_or side.sums.items place 0 - get_or side.minus_sums.items place 0))
      (may_be negative (λ x. nonzero-neg (M line x)) both.1 both.0)
      (eq-eqb (get_or side.minus_sums.items other 0) (get_or side.sums.items place 0 - get_or side.minus_sums.items place 0)
      (rest (get_or side.minus_sums.items other 0) (get_or side.sums.items place 0) (get_or side.minus_sums.items place 0) (minus_weight_at across negative) (minus_weight_at across (M line)) (weight_at across (M line)) minus split sum own))
    where
      rest : (n s p a b w : ℕ) → n ≡ a → a + b ≡ w → s ≡ w → p ≡ b → n ≡ s - p
      rest n s p a b w e f g h = omega (arith, e, f, g, h)

  pub no_copy : may_be_copy side place other ≡ false → is_copy (table (entry m) side.kind) across (get_or side.stays.items place 0) (get_or side.stays.items other 0) ≡ false
  no_copy differ =
      false_is (is_copy (table (entry m) side.kind) across (get_or side.stays.items place 0) (get_or side.stays.items other 0)) (λ e. true≢false (sym (copy_may_be e) ∙ differ))

  pub no_negative : may_be_negative side place other ≡ false → is_negative (table (entry m) side.kind) across (get_or side.stays.items place 0) (get_or side.stays.items other 0) ≡ false
  no_negative differ =
      false_is (is_negative (table (entry m) side.kind) across (get_or side.stays.items place 0) (get_or side.stays.items other 0)) (λ e. true≢false (sym (negative_may_be e) ∙ differ))

-- the entries -1 have at most the sum of all nonzeros
pub minus_at_most : (m : Matrix) (side : StayingLines) (across : List ℕ) → AreNonzerosCounted m side across → (place : ℕ) → place < length side.stays.items
    → get_or side.minus_sums.items place 0 ≤ get_or side.sums.items place 0
minus_at_most m side across counted place inside =
    let split = minus_weight_at-negative across (table (entry m) side.kind (get_or side.stays.items place 0)) in
    let sum = counted.sums place inside in
    let own = counted.minus_sums place inside in
    omega (arith, split, sum, own)

-- the sums allow no twin
not_twins : (side : StayingLines) (place other : ℕ) → may_be_twins side place other ≡ false → (may_be_copy side place other ≡ false) × (may_be_negative side place other ≡ false)
not_twins side place other e = rw e (refl, refl)

-- a line whose sum no other line has is no twin
pub alone_reason : (binary : Bool) (m : Matrix) (side : StayingLines) (across : List ℕ) (place : ℕ) → AreNonzerosCounted m side across → place < length side.stays.items → IsAlone side place
    → twin_reason binary (entry m) side.kind side.stays.items across (get_or side.stays.items place 0) ≡ None
alone_reason binary m side across place counted inside alone =
    let M = table (entry m) side.kind in
    let lines = side.stays.items in
    let line = get_or lines place 0 in
    none_of binary (find_none (is_copy M across line) lines (λ k h. no_copy m side across counted place k inside h (not_twins side place k (alone k h)).0))
    (find_none (is_negative M across line) lines (λ k h. no_negative m side across counted place k inside h (not_twins side place k (alone k h)).1))
  where
    none_of : (b : Bool) {copy negative : Option ℕ} → copy ≡ None → negative ≡ None
        → option_or (option_map (λ twin. Copy (line_named side.kind twin)) copy) (cond b None (option_map (λ twin. Negative (line_named side.kind twin)) negative)) ≡ None
    none_of true e f = rw e refl
    none_of false e f = rw (e, f) refl
