-- The verdict of a tree on the matrix.
use Rattle.std.specs.Prelude.{Option, Some, None}
use Rattle.std.specs.Option.{option_or}
use Rattle.cmr_base.specs.declared.line_set.LineSet.{LineSet}
use Rattle.tree_type.specs.DecompositionTrees.{Finding, Cycle, Violator, Undecided, Tree, Trees, Branch, NoTrees, MoreTrees}
use Rattle.tree_type.specs.declared.verdicts.VerdictOf.{VerdictOf}
use Rattle.tree_type.specs.declared.verdicts.VerdictOf.TheVariants as shown

pub data Verdict : Type 0 where
  Yes : Verdict
  No : LineSet → Verdict
  Open : LineSet → Verdict

abbrev mutual
  -- the lines that the test gives for the first node in preorder for which it gives any
  pub first_in : (LineSet → Finding → Option LineSet) → Tree → Option LineSet
  first_in f (Branch lines finding trees) = option_or (f lines finding) (first_among f trees)

  pub first_among : (LineSet → Finding → Option LineSet) → Trees → Option LineSet
  first_among f NoTrees = None
  first_among f (MoreTrees tree trees) = option_or (first_in f tree) (first_among f trees)

-- the fault that a node names
abbrev pub fault_at : LineSet → Finding → Option LineSet
fault_at lines (Cycle fault) = Some fault
fault_at lines (Violator fault) = Some fault
fault_at lines finding = None

-- the lines of an undecided node
abbrev pub open_at : LineSet → Finding → Option LineSet
open_at lines Undecided = Some lines
open_at lines finding = None

-- no, with the first fault; without a fault undecided, with the lines of the first undecided node; otherwise yes
abbrev pub verdict_from : (fault undecided : Option LineSet) → Verdict
verdict_from (Some fault) undecided = No fault
verdict_from None (Some lines) = Open lines
verdict_from None None = Yes

abbrev pub verdict_of : Tree → Verdict
verdict_of tree = verdict_from (first_in fault_at tree) (first_in open_at tree)

abbrev pub verdict_shown : VerdictOf → Verdict
verdict_shown shown.Yes = Yes
verdict_shown (shown.No fault) = No fault.now
verdict_shown (shown.Undecided lines) = Open lines.now
