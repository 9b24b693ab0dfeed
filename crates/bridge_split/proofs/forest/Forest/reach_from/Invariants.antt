use Rattle.bridge_split.specs.Forests.{IsReachingFrom}
use Rattle.bridge_split.proofs.forest.Forest.reach_from.Given as goal

abbrev pub invariant-loop-other : goal.invariant-loop-other
invariant-loop-other l = IsReachingFrom l.table l.initial.self.reached.items l.self.depth.items l.self.parent.items l.self.reached.items l.head l.part l.depth l.other
