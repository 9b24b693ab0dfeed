-- Marks of lines: which are known not to be reducible.
use Rattle.std.proofs.Common.{◌≡◌, ◌<◌, ◌+◌, ◌∙◌, inl, inr, ℕ, zero, suc, Bool, true, false, ℤ, List, [], ◌∷◌, length, take, set, get_or, Option, Some, None, is_some, true≢false, option_map, refl, ap, sym, subst, arith, add-one}
use Rattle.std.specs.Option.{option_or}
use Rattle.std.proofs.lemmas.Bool.{cases_eq}
use Rattle.std.proofs.lemmas.List.{get_or-set_other, get_or-set_same}
use Rattle.cmr_base.specs.declared.line.Reason.{Reason}
use Rattle.cmr_base.specs.declared.line.Step.{Step}
use Rattle.cmr_base.specs.Matrix.{Matrix, entry}
use Rattle.sp_reduce.specs.declared.kind.LineKind.{LineKind}
use Rattle.sp_reduce.specs.declared.side.StayingLines.{StayingLines}
use Rattle.sp_reduce.specs.LineKinds.{line_named, reason_for}
use Rattle.sp_reduce.specs.StayingSides.{IsSide, IsAcross, AreNonzerosCounted, IsSettled, first_step_of}
use Rattle.sp_reduce.proofs.Searches.{some_not_none}

pub side_marked : (m : Matrix) (side side' : StayingLines) → side' ≡ record side { settled = side'.settled } → length side'.settled.items ≡ length side.stays.items → IsSide m side → IsSide m side'
side_marked m side side' e long is = subst (λ (s : StayingLines). IsSide m s) (sym e) (record {
  increasing = is.increasing;
  in_range = is.in_range;
  parallel = record { counts = is.parallel.counts; sums = is.parallel.sums; minus_sums = is.parallel.minus_sums; settled = long };
})

pub counted_marked : (m : Matrix) (side side' : StayingLines) (across : List ℕ) → side' ≡ record side { settled = side'.settled } → AreNonzerosCounted m side across → AreNonzerosCounted m side' across
counted_marked m side side' across e is = subst (λ (s : StayingLines). AreNonzerosCounted m s across) (sym e) (record { counts = is.counts; sums = is.sums; minus_sums = is.minus_sums })

pub across_marked : (m : Matrix) (side side' : StayingLines) (across : List ℕ) → side' ≡ record side { settled = side'.settled } → IsAcross m side.kind across → IsAcross m side'.kind across
across_marked m side side' across e is = subst (λ (s : StayingLines). IsAcross m s.kind across) (sym e) is

module _ (binary : Bool) (M : ℕ → ℕ → ℤ) (kind : LineKind) (own across : List ℕ) where
  step_with : ℕ → Option Reason → Option Step → Option Step
  step_with line o rest = option_or (option_map (λ reason. record { line = line_named kind line; reason = reason }) o) rest

  step_more : (xs : List ℕ) (i : ℕ) → i < length xs → first_step_of binary M kind own across (take i xs) ≡ None → reason_for binary M kind own across (get_or xs i 0) ≡ None
      → first_step_of binary M kind own across (take (suc i) xs) ≡ None
  unfolding step_with
  step_more [] i h none here = absurd (omega arith)
  step_more (x ∷ xs) zero h none here = ap (λ (o : Option Reason). step_with x o None) here
  step_more (x ∷ xs) (suc i) h none here = go (reason_for binary M kind own across x) none (λ n. step_more xs i (omega arith) n here)
    where
      go : (o : Option Reason) → step_with x o (first_step_of binary M kind own across (take i xs)) ≡ None
          → (first_step_of binary M kind own across (take i xs) ≡ None → first_step_of binary M kind own across (take (suc i) xs) ≡ None)
          → step_with x o (first_step_of binary M kind own across (take (suc i) xs)) ≡ None
      go None e k = k e
      go (Some r) e k = some_not_none e

  pub first_step_more : (xs : List ℕ) (i : ℕ) → i < length xs → first_step_of binary M kind own across (take i xs) ≡ None → reason_for binary M kind own across (get_or xs i 0) ≡ None
      → first_step_of binary M kind own across (take (i + 1) xs) ≡ None
  first_step_more xs i h none here = rw (add-one i) (step_more xs i h none here)

  pub first_step_here : (xs : List ℕ) (i : ℕ) (reason : Reason) → i < length xs → first_step_of binary M kind own across (take i xs) ≡ None
      → reason_for binary M kind own across (get_or xs i 0) ≡ Some reason
      → first_step_of binary M kind own across xs ≡ Some (record { line = line_named kind (get_or xs i 0); reason = reason })
  unfolding step_with
  first_step_here [] i reason h none here = absurd (omega arith)
  first_step_here (x ∷ xs) zero reason h none here = ap (λ (o : Option Reason). step_with x o (first_step_of binary M kind own across xs)) here
  first_step_here (x ∷ xs) (suc i) reason h none here = go (reason_for binary M kind own across x) none (λ n. first_step_here xs i reason (omega arith) n here)
    where
      go : (o : Option Reason) → step_with x o (first_step_of binary M kind own across (take i xs)) ≡ None
          → (first_step_of binary M kind own across (take i xs) ≡ None → first_step_of binary M kind own across xs ≡ Some (record { line = line_named kind (get_or xs i 0); reason = reason }))
          → step_with x o (first_step_of binary M kind own across xs) ≡ Some (record { line = line_named kind (get_or xs i 0); reason = reason })
      go None e k = k e
      go (Some r) e k = some_not_none e

-- a line is marked if it has no reason
pub settled_set : (binary : Bool) (m : Matrix) (side : StayingLines) (across : List ℕ) (place : ℕ) (mark : Bool) → place < length side.settled.items → IsSettled binary m side across
    → (mark ≡ true → reason_for binary (entry m) side.kind side.stays.items across (get_or side.stays.items place 0) ≡ None)
    → (at : ℕ) → at < length side.stays.items → get_or (set side.settled.items place mark) at false ≡ true
    → reason_for binary (entry m) side.kind side.stays.items across (get_or side.stays.items at 0) ≡ None
settled_set binary m side across place mark h is none at inside e = elim (cases_eq at place) [
  | inl q ↦
      ap (λ (k : ℕ). reason_for binary (entry m) side.kind side.stays.items across (get_or side.stays.items k 0)) q
      ∙ none (sym (get_or-set_same side.settled.items place mark false h) ∙ ap (λ (k : ℕ). get_or (set side.settled.items place mark) k false) (sym q) ∙ e)
  | inr d ↦ is at inside (sym (get_or-set_other side.settled.items place at mark false d) ∙ e)
]

pub none_is : {X : Type 0} (o : Option X) → is_some o ≡ false → o ≡ None
none_is None e = refl
none_is (Some x) e = absurd (true≢false e)
