use Rattle.std.proofs.Common.{◌+◌}
use Rattle.bridge_split.specs.Forests.{depth_at}
use Rattle.bridge_split.proofs.forest.Forest.+push_path.Given as goal

abbrev pub decreases-push_path : goal.decreases-push_path
decreases-push_path l = depth_at l.self.now.depth.items l.one + depth_at l.self.now.depth.items l.two
