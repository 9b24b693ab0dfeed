-- Lines that show that a submatrix is not a network matrix.
use Rattle.std.specs.Prelude.{ℕ, List, IfSome}
use Rattle.std.specs.List.Sorted.{IsStrictlyIncreasing}
use Rattle.cmr_base.specs.declared.line_set.LineSet.{LineSet}
use Rattle.cmr_base.specs.Matrix.{Matrix, transposed}
use Rattle.cmr_base.specs.Members.{IsIn}
use Rattle.cmr_base.specs.Trees.{HasGraphicSupport, IsNetworkMatrix, IsConetworkMatrix}
use Rattle.tree_type.specs.Invariant.{AreLines}
use Rattle.tree_type.specs.Soundness.{part}
use Rattle.decomp_tree.specs.declared.obstructions.Obstruction.{Obstruction}

-- neither the matrix nor its transpose has a graphic support
abbrev pub HasNoGraphicSupport : Matrix → Type 0
HasNoGraphicSupport m = (¬ (HasGraphicSupport m)) × (¬ (HasGraphicSupport (transposed m)))

-- neither the matrix nor its transpose is a network matrix
abbrev pub IsNoNetwork : Matrix → Type 0
IsNoNetwork m = (¬ (IsNetworkMatrix m)) × (¬ (IsConetworkMatrix m))

-- the submatrix on these lines has no graphic support
pub record IsObstruction (m : Matrix) (lines : LineSet) : Type 0 where
  pub are_lines : AreLines m lines
  pub none : HasNoGraphicSupport (part m lines)

abbrev pub IsKnown : Matrix → Obstruction → Type 0
IsKnown m obstruction = IfSome obstruction.lines (IsObstruction m)

-- some of these lines, increasing
pub record IsSomeOf (lines some : List ℕ) : Type 0 where
  pub increasing : IsStrictlyIncreasing some
  pub among : (x : ℕ) → IsIn x some → IsIn x lines
