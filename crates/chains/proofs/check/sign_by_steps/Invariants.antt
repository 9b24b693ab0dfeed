use Rattle.std.proofs.Common.{take}
use Rattle.chains.specs.SignSteps.{AreSigns, unsigned, LeadTo}
use Rattle.chains.specs.Chains.{KeepsRule}
use Rattle.chains.specs.ChainStates.{AreLabels}
use Rattle.chains.proofs.check.sign_by_steps.Given as goal

abbrev pub invariant-loop-kept : goal.invariant-loop-kept
invariant-loop-kept l = record {
  signs : AreSigns l.matrix l.signs;
  labels : AreLabels l.matrix l.signs l.labels.items;
  leads : LeadTo (KeepsRule l.matrix) (unsigned l.matrix) (take l.kept l.steps) l.signs;
}
