use Rattle.bridge_split.specs.Cutting.{HasCommonBefore}
use Rattle.bridge_split.proofs.cuts.set_common.Given as goal

abbrev pub invariant-loop-other : goal.invariant-loop-other
invariant-loop-other l = HasCommonBefore l.matrix l._row l.part l.other-index l.common
