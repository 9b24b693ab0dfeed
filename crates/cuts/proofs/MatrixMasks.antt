-- Sets of lines with room for the lines of a matrix.
use Rattle.std.proofs.Common.{ℕ, ◌≡◌, ◌∙◌, sym, subst}
use Rattle.cmr_base.specs.Components.{IsLineOf}
use Rattle.cmr_base.specs.LineMasks.{AreAlike, IsMask, IsMaskOf}
use Rattle.cmr_base.specs.Matrix.{Matrix, height}
use Rattle.cmr_base.specs.Seeds.{IsLine}
use Rattle.cmr_base.specs.declared.line.Line.{Line}
use Rattle.cmr_base.specs.declared.line_mask.LineMask.{LineMask}

pub mask_of : (m : Matrix) (rows columns : ℕ) (mask : LineMask) → rows ≡ height m → columns ≡ m.width → IsMask rows columns mask → IsMaskOf m mask
mask_of m rows columns mask er ec is = record { rows = is.rows ∙ er; columns = is.columns ∙ ec }

pub mask_like : (m : Matrix) (one two : LineMask) → IsMaskOf m one → AreAlike one two → IsMaskOf m two
mask_like m one two is alike = record { rows = alike.rows ∙ is.rows; columns = alike.columns ∙ is.columns }

-- the lines for which the set has room are the lines of the matrix
pub line_of : (m : Matrix) (mask : LineMask) (x : Line) → IsMaskOf m mask → IsLine mask.rows.size mask.columns.size x → IsLineOf m x
line_of m mask x is l = subst (λ (n : ℕ). IsLine n m.width x) is.rows (subst (λ (n : ℕ). IsLine mask.rows.size n x) is.columns l)

pub line_in : (m : Matrix) (mask : LineMask) (x : Line) → IsMaskOf m mask → IsLineOf m x → IsLine mask.rows.size mask.columns.size x
line_in m mask x is l = subst (λ (n : ℕ). IsLine n mask.columns.size x) (sym is.rows) (subst (λ (n : ℕ). IsLine (height m) n x) (sym is.columns) l)
