-- A part that stays open has lines with three nonzeros. It is beyond the limits of `Matrix`, or its decomposition stays undecided.
use Rattle.std.proofs.Common.{ℕ, inl, inr, subst}
use Rattle.cmr_base.specs.Matrix.{Matrix}
use Rattle.tree_type.specs.Soundness.{part}
use Rattle.large_unimodular.specs.declared.part_verdicts.PartVerdict.{PartVerdict}
use Rattle.large_unimodular.specs.declared.part_verdicts.PartVerdict.TheVariants as own
use Rattle.large_unimodular.specs.PartVerdicts.{IsPartVerdict}
use Rattle.cmr_large.specs.LargeReportLaws.{IsBeyond, UndecidedPartsAreBeyond}

abbrev IsOpen : PartVerdict → Type 0
IsOpen own.Open = Unit {0}
IsOpen verdict = ⊥

beyond : (limit pivots : ℕ) (m : Matrix) → IsPartVerdict limit pivots m own.Open → IsBeyond limit pivots m
beyond limit pivots m (inl thin) = absurd thin.right
beyond limit pivots m (inr (inl even)) = absurd (subst IsOpen even.yes_is tt)
beyond limit pivots m (inr (inr (inl small))) = record { thick = small.thick; cause = inr small.decomposed }
beyond limit pivots m (inr (inr (inr large))) = record { thick = large.thick; cause = inl large.large }

pub undecided_parts_are_beyond : UndecidedPartsAreBeyond
undecided_parts_are_beyond limit pivots m lines is = beyond limit pivots (part m lines) is.stays
