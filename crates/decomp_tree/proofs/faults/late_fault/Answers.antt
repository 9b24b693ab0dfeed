use Rattle.std.proofs.Common.{◌∙◌, sym}
use Rattle.std.proofs.lemmas.Bool.{true≢false}
use Rattle.decomp_tree.proofs.NoFaults.{no_fault_among}
use Rattle.decomp_tree.proofs.faults.late_fault.Goals as goal
use Rattle.decomp_tree.proofs.faults.late_fault.Goals.{then-is_free-via-then-is_free, then-is_free-via-else-is_free+then-not-is_unsearched}

pub returns-then-is_free : goal.returns-then-is_free
returns-then-is_free c = elim c.then-is_free.branch [
  | then-is_free-via-then-is_free w ↦ (λ e. no_fault_among c.args.matrix.now c.requires.shape c.args.lines.now c.requires.lines (c.requires.free w.if-is_free.true))
  | then-is_free-via-else-is_free+then-not-is_unsearched w ↦ (λ e. absurd (true≢false (sym e ∙ sym w.is_unsearched.ensures ∙ w.if-not-is_unsearched.true)))
]
