-- What a verdict on a part means, and that a part has verdicts of one kind.
use Rattle.std.proofs.Common.{◌≡◌, ◌≤◌, ◌∙◌, inl, inr, ℕ, ap, sym, subst}
use Rattle.cmr_base.specs.declared.limits.TheConstants.{MAX_LINES}
use Rattle.cmr_base.specs.Matrix.{Matrix, height, IsMatrix, IsTernary}
use Rattle.cmr_base.specs.Violator.{HasNoViolator}
use Rattle.tree_type.specs.Verdicts.{Verdict, verdict_of}
use Rattle.tree_type.specs.Verdicts as verdicts
use Rattle.tree_laws.specs.Laws.{VerdictMeans}
use Rattle.tree_laws.proofs.SoundTrees.{verdict_means}
use Rattle.open_parts.proofs.TriedRoots.{one_tried_verdict, tried_shapes_are_sound, tried_shapes_are_trees}
use Rattle.interval_matrices.proofs.AlternatingSigns.{intervals_are_unimodular}
use Rattle.large_unimodular.specs.declared.part_verdicts.PartVerdict.{PartVerdict}
use Rattle.large_unimodular.specs.declared.part_verdicts.PartVerdict.TheVariants.{Yes, No, Open}
use Rattle.large_unimodular.specs.PartVerdicts.{own_answer, IsFaultIn, IsPartVerdict, IsRightOn, IsSmallVerdict}

-- an answer is right, and `Open` says nothing
abbrev pub IsRightIfDecided : PartVerdict → Matrix → Type 0
IsRightIfDecided Yes m = HasNoViolator m
IsRightIfDecided (No fault) m = IsFaultIn m fault
IsRightIfDecided Open m = Unit {0}

right_answer : (m : Matrix) (verdict : Verdict) → VerdictMeans m verdict → IsRightIfDecided (own_answer verdict) m
right_answer m verdicts.Yes means = means.none
right_answer m (verdicts.No fault) means = record { row_set = means.row_set; column_set = means.column_set; violator = means.violator }
right_answer m (verdicts.Open lines) means = tt

small_right : (limit pivots : ℕ) (m : Matrix) (verdict : PartVerdict) → limit ≤ MAX_LINES → IsTernary m → IsSmallVerdict limit pivots m verdict → IsRightIfDecided verdict m
small_right limit pivots m verdict few is decided =
    let whole : IsMatrix m = record { rectangular = is.rectangular; small = is.small; height_in = decided.small.height_in; width_in = decided.small.width_in } in
    let tree = decided.decomposed.tree in
    let shape = decided.decomposed.shape in
    subst (λ answer. IsRightIfDecided answer m) (sym decided.decomposed.verdict_is)
    (right_answer m (verdict_of tree) (verdict_means m whole (height m) m.width tree (tried_shapes_are_trees limit pivots m tree whole shape)
    (tried_shapes_are_sound limit pivots m tree few whole shape)))

thin_right : (m : Matrix) (verdict : PartVerdict) → IsRightOn m verdict → IsRightIfDecided verdict m
thin_right m Yes right = right
thin_right m (No fault) right = right
thin_right m Open right = tt

pub right_verdict : (limit pivots : ℕ) (m : Matrix) (verdict : PartVerdict) → limit ≤ MAX_LINES → IsTernary m → IsPartVerdict limit pivots m verdict → IsRightIfDecided verdict m
right_verdict limit pivots m verdict few is (inl thin) = thin_right m verdict thin.right
right_verdict limit pivots m verdict few is (inr (inl even)) = subst (λ answer. IsRightIfDecided answer m) (sym even.yes_is) (intervals_are_unimodular m is even.intervals).1
right_verdict limit pivots m verdict few is (inr (inr (inl small))) = small_right limit pivots m verdict few is small
right_verdict limit pivots m verdict few is (inr (inr (inr large))) = subst (λ answer. IsRightIfDecided answer m) (sym large.open_is) tt

-- ---- one kind

abbrev pub AreOfOneKind : PartVerdict → PartVerdict → Type 0
AreOfOneKind Yes Yes = Unit {0}
AreOfOneKind (No fault) (No other) = Unit {0}
AreOfOneKind Open Open = Unit {0}
AreOfOneKind verdict other = ⊥

own_kind : (verdict : PartVerdict) → AreOfOneKind verdict verdict
own_kind Yes = tt
own_kind (No fault) = tt
own_kind Open = tt

thin_kind : (m : Matrix) (verdict other : PartVerdict) → IsRightOn m verdict → IsRightOn m other → AreOfOneKind verdict other
thin_kind m Yes Yes right right' = tt
thin_kind m Yes (No fault) right right' = right fault.rows fault.columns right'.row_set right'.column_set right'.violator
thin_kind m Yes Open right right' = right'
thin_kind m (No fault) Yes right right' = right' fault.rows fault.columns right.row_set right.column_set right.violator
thin_kind m (No fault) (No other) right right' = tt
thin_kind m (No fault) Open right right' = right'
thin_kind m Open other right right' = absurd right

pub one_part_kind : (limit pivots : ℕ) (m : Matrix) (verdict other : PartVerdict) → IsPartVerdict limit pivots m verdict → IsPartVerdict limit pivots m other → AreOfOneKind verdict other
one_part_kind limit pivots m verdict other (inl thin) (inl thin') = thin_kind m verdict other thin.right thin'.right
one_part_kind limit pivots m verdict other (inl thin) (inr (inr (inl small))) = absurd (small.thick thin.thin)
one_part_kind limit pivots m verdict other (inl thin) (inr (inr (inr large))) = absurd (large.thick thin.thin)
one_part_kind limit pivots m verdict other (inr (inr (inl small))) (inl thin) = absurd (small.thick thin.thin)
one_part_kind limit pivots m verdict other (inr (inr (inl small))) (inr (inr (inl small'))) =
    let one = small.decomposed in
    let two = small'.decomposed in
    let same : verdict ≡ other = one.verdict_is ∙ ap own_answer (one_tried_verdict limit pivots m one.tree two.tree one.shape two.shape) ∙ sym two.verdict_is in
    subst (AreOfOneKind verdict) same (own_kind verdict)
one_part_kind limit pivots m verdict other (inr (inr (inl small))) (inr (inr (inr large))) = absurd (large.large small.small)
one_part_kind limit pivots m verdict other (inr (inr (inr large))) (inl thin) = absurd (large.thick thin.thin)
one_part_kind limit pivots m verdict other (inr (inr (inr large))) (inr (inr (inl small))) = absurd (large.large small.small)
one_part_kind limit pivots m verdict other (inr (inr (inr large))) (inr (inr (inr large'))) = subst (AreOfOneKind verdict) (large.open_is ∙ sym large'.open_is) (own_kind verdict)
one_part_kind limit pivots m verdict other (inl thin) (inr (inl even)) = absurd (even.thick thin.thin)
one_part_kind limit pivots m verdict other (inr (inl even)) (inl thin) = absurd (even.thick thin.thin)
one_part_kind limit pivots m verdict other (inr (inl even)) (inr (inl even')) = subst (AreOfOneKind verdict) (even.yes_is ∙ sym even'.yes_is) (own_kind verdict)
one_part_kind limit pivots m verdict other (inr (inl even)) (inr (inr (inl small))) = absurd (small.uneven even.intervals)
one_part_kind limit pivots m verdict other (inr (inl even)) (inr (inr (inr large))) = absurd (large.uneven even.intervals)
one_part_kind limit pivots m verdict other (inr (inr (inl small))) (inr (inl even)) = absurd (small.uneven even.intervals)
one_part_kind limit pivots m verdict other (inr (inr (inr large))) (inr (inl even)) = absurd (large.uneven even.intervals)
