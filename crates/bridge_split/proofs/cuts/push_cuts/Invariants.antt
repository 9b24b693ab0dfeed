use Rattle.cmr_base.specs.Trees.{support}
use Rattle.cmr_base.specs.ColumnSets.{has_column}
use Rattle.bridge_split.specs.Cutting.{HasCutsOfParts}
use Rattle.bridge_split.proofs.cuts.push_cuts.Given as goal

abbrev pub invariant-loop-part : goal.invariant-loop-part
invariant-loop-part l = HasCutsOfParts (support l.matrix) (has_column l.columns.words) l.parts l.part-index l.initial.cuts.items l.cuts.items
