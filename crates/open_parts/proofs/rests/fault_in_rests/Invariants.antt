use Rattle.std.proofs.Common.{Option, drop}
use Rattle.cmr_base.specs.declared.line_set.LineSet.{LineSet}
use Rattle.tree_type.specs.Invariant.{AreLines}
use Rattle.open_parts.specs.Rests.{IsFoundInRests, RemovesInTurn}
use Rattle.open_parts.proofs.rests.fault_in_rests.Given as goal

-- what is found in the remaining turns is found in all
abbrev pub invariant-loop-line : goal.invariant-loop-line
invariant-loop-line g l = record {
  are : AreLines l.search.matrix.now l.kept;
  later : (found : Option LineSet) → RemovesInTurn l.search.limit l.search.matrix.now (drop l.line-index l.line-items) l.kept found → IsFoundInRests l.search.limit l.search.matrix.now l.lines found;
}
