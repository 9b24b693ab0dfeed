-- The search for a tree of all rows of a matrix.
use Rattle.std.proofs.Common.{◌<◌, ℕ, Bool}
use Rattle.cmr_base.specs.Cuts.{IsCuts, HasCuts}
use Rattle.cmr_base.specs.LineSets.{first_lines}
use Rattle.cmr_base.specs.Matrix.{Matrix, height, IsMatrix}
use Rattle.cmr_base.specs.Members.{IsIn}
use Rattle.cmr_base.specs.Trees.{HasGraphicSupport, support}
use Rattle.cmr_base.proofs.GraphicMatrices.{graphic_support_from_cuts}
use Rattle.cmr_base.proofs.RemovedLines.{first_lines_in, in_first_lines}
use Rattle.graph_realise.specs.SideTables.{side_in, end_in}
use Rattle.graph_realise.specs.declared.arc_sides.ArcSides.{ArcSides}
use Rattle.graph_realise.proofs.CutTables.{has_fewer, is_fewer}

pub cuts_of_all : (M : ℕ → ℕ → Bool) (m : ℕ) (sides : ArcSides) → IsCuts M (λ r. IsIn r (first_lines m)) (side_in sides) (end_in sides) → IsCuts M (λ r. r < m) (side_in sides) (end_in sides)
cuts_of_all M m sides K = is_fewer M (λ r. IsIn r (first_lines m)) (λ r. r < m) (side_in sides) (end_in sides) (λ r l. in_first_lines m r l) K

pub none_of_all : (m : Matrix) → IsMatrix m → ¬ (HasCuts (support m) (λ r. IsIn r (first_lines (height m)))) → ¬ (HasGraphicSupport m)
none_of_all m is none G = none (has_fewer (support m) (λ r. r < height m) (λ r. IsIn r (first_lines (height m))) (λ r h. first_lines_in (height m) r h) ((graphic_support_from_cuts m is.rectangular).0 G))
