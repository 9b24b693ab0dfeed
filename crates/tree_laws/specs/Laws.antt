-- The consequences of a sound tree for a matrix.
use Rattle.cmr_base.specs.declared.line_set.LineSet.{LineSet}
use Rattle.cmr_base.specs.Matrix.{Matrix, entry, IsMatrix}
use Rattle.cmr_base.specs.LineSets.{IsRowSet, IsColumnSet}
use Rattle.cmr_base.specs.Signing.{IsTotallyUnimodular, HasNoSigning}
use Rattle.cmr_base.specs.Violator.{IsViolator, HasNoViolator}
use Rattle.tree_type.specs.DecompositionTrees.{SizedTree, tree_of}
use Rattle.tree_type.specs.Invariant.{IsDecTree}
use Rattle.tree_type.specs.Verdicts.{Verdict, Yes, No, Open, verdict_of}
use Rattle.tree_type.specs.Soundness.{IsSound}

-- the matrix is totally unimodular, and no submatrix is a violator
pub record IsProved (m : Matrix) : Type 0 where
  pub unimodular : IsTotallyUnimodular m
  pub none : HasNoViolator m

-- these lines are a violator, so their rows have no signing
pub record IsRefuted (m : Matrix) (fault : LineSet) : Type 0 where
  pub row_set : IsRowSet m fault.rows
  pub column_set : IsColumnSet m fault.columns
  pub violator : IsViolator (entry m) fault.rows fault.columns
  pub unsigned : HasNoSigning m fault.rows
  pub not_unimodular : ¬ (IsTotallyUnimodular m)

-- the verdict is right; the verdict undecided promises nothing
abbrev pub VerdictMeans : Matrix → Verdict → Type 0
VerdictMeans m Yes = IsProved m
VerdictMeans m (No fault) = IsRefuted m fault
VerdictMeans m (Open lines) = Unit {0}

-- the verdict of a sound tree is right
abbrev pub SoundMeans : Type 0
SoundMeans = (m : Matrix) → IsMatrix m → (tree : SizedTree) → IsDecTree tree → IsSound m tree → VerdictMeans m (verdict_of (tree_of tree.root))
