-- What is known of a node before its children are drafted.
use Rattle.std.specs.Prelude.{◌≡◌, ℕ}
use Rattle.cmr_base.specs.declared.line_set.LineSet.{LineSet}
use Rattle.cmr_base.specs.Matrix.{Matrix}
use Rattle.tree_type.specs.Findings.{finding_shown}
use Rattle.decomp_tree.specs.declared.drafts.Opening.{Opening}
use Rattle.decomp_tree.specs.Seen.{IsSaid}

pub record IsOpeningOf (limit : ℕ) (m : Matrix) (lines : LineSet) (opening : Opening) : Type 0 where
  pub lines_are : opening.lines ≡ lines
  pub said : IsSaid limit m lines (finding_shown opening.finding) opening.children
