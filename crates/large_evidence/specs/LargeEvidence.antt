-- Evidence that a large matrix is totally unimodular.
use Rattle.std.specs.Prelude.{◌≡◌, Bool, true, List, length, replicate}
use Rattle.std.specs.List.{AllByRecursion}
use Rattle.cmr_base.specs.Matrix.{Matrix, height, entry, IsMatrix}
use Rattle.cmr_base.specs.LineSets.{submatrix}
use Rattle.split_laws.specs.SignSplits.{CancelsColumns}
use Rattle.two_nonzeros.specs.Cancelling.{sign_at}
use Rattle.tree_type.specs.DecompositionTrees.{SizedTree, tree_of}
use Rattle.tree_type.specs.Invariant.{IsDecTree}
use Rattle.tree_type.specs.Soundness.{IsSound}
use Rattle.tree_type.specs.Verdicts as verdicts
use Rattle.large_evidence.specs.declared.evidence.PartEvidence.{PartEvidence}
use Rattle.large_evidence.specs.declared.evidence.PartReason.{PartReason}
use Rattle.large_evidence.specs.declared.evidence.PartReason.TheVariants.{Columns, Rows, Tree}
use Rattle.large_evidence.specs.declared.evidence.UnimodularityEvidence.{UnimodularityEvidence}
use Rattle.large_evidence.specs.RemovedMarks.{AreRemovals}
use Rattle.large_evidence.specs.LineDivisions.{AreDividedParts, sets_of}

-- a sound tree of a matrix within the limits of the type `Matrix`, with the verdict yes
pub record IsTreeOfYes (m : Matrix) (tree : SizedTree) : Type 0 where
  pub small : IsMatrix m
  pub shape : IsDecTree tree
  pub sound : IsSound m tree
  pub yes : verdicts.verdict_of (tree_of tree.root) ≡ verdicts.Yes

-- signs of the rows cancel the columns, signs of the columns cancel the rows, or a tree decomposes the matrix
abbrev pub IsReasonFor : Matrix → PartReason → Type 0
IsReasonFor m (Columns minus) = (length minus.items ≡ height m) × CancelsColumns (entry m) (sign_at minus.items)
IsReasonFor m (Rows minus) = (length minus.items ≡ m.width) × CancelsColumns (λ column row. entry m row column) (sign_at minus.items)
IsReasonFor m (Tree tree) = IsTreeOfYes m tree

-- the reason of a part is one for the submatrix on its lines
abbrev pub HasReasonIn : Matrix → PartEvidence → Type 0
HasReasonIn m part = IsReasonFor (submatrix m part.lines.rows part.lines.columns) part.reason

-- The steps remove zero and unit lines. Each line that remains is in one part, no nonzero is between two parts, and each part has a reason.
pub record IsAccepted (m : Matrix) (evidence : UnimodularityEvidence) : Type 0 where
  pub rows : List Bool
  pub columns : List Bool
  pub removals : AreRemovals (entry m) (replicate (height m) true) (replicate m.width true) evidence.steps.items rows columns
  pub divided : AreDividedParts (entry m) rows columns (sets_of evidence.parts.items)
  pub reasons : AllByRecursion (HasReasonIn m) evidence.parts.items
