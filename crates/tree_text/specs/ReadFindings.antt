-- The value of a node's own part.
use Rattle.std.specs.Prelude.{ℕ}
use Rattle.cmr_base.specs.declared.line_set.LineSet.{LineSet}
use Rattle.tree_type.specs.DecompositionTrees.{Finding}
use Rattle.tree_type.specs.Findings.{finding_shown}
use Rattle.tree_text.specs.declared.own_part.OwnPart.{OwnPart}
use Rattle.tree_text.specs.declared.own_part.Opening.{Opening}

abbrev pub own_shown : OwnPart → Finding × ℕ
own_shown own = (finding_shown own.finding, own.children)

-- the part of a node before its children: its lines, its finding, and the number of its children
pub record NodeOpening : Type 0 where
  pub lines : LineSet
  pub finding : Finding
  pub children : ℕ

abbrev pub opening_shown : Opening → NodeOpening
opening_shown opening = record { lines = opening.lines; finding = finding_shown opening.finding; children = opening.children }
