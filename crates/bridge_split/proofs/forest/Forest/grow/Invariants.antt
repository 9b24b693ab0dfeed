use Rattle.bridge_split.specs.Forests.{IsGrownTo}
use Rattle.bridge_split.proofs.forest.Forest.grow.Given as goal

abbrev pub invariant-loop-root : goal.invariant-loop-root
invariant-loop-root l = IsGrownTo l.table l.self.depth.items l.self.parent.items l.self.reached.items l.root
