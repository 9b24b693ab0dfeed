use Rattle.bridge_split.specs.Cutting.{IsTableBefore}
use Rattle.bridge_split.proofs.cuts.CutTable.new.Given as goal

abbrev pub invariant-loop-part : goal.invariant-loop-part
invariant-loop-part l = IsTableBefore l.matrix l.row l.parts l.part-index l.common l.cuts.items
