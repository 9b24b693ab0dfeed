use Rattle.std.proofs.Common.{◌≡◌, ◌<◌, ◌⊎◌, ◌↔◌, ℕ, Some}
use Rattle.std.specs.List.Sorted.{IsStrictlyIncreasing}
use Rattle.cmr_base.specs.Members.{IsIn}
use Rattle.graph_realise.specs.Joints.{number_at}
use Rattle.graph_realise.proofs.joint.Joint.rows_with.Given as goal

abbrev pub invariant-loop-row : goal.invariant-loop-row
invariant-loop-row l = record {
  increasing : IsStrictlyIncreasing l.rows;
  rows : (x : ℕ) → IsIn x l.rows ↔ ((x < l.row) × ((x ≡ l.self.row) ⊎ (number_at l.self.part_of.items x ≡ Some l.part)));
}
