-- Searches whose side is the closure of the lines of a connector or of a corner.
use Rattle.std.specs.Prelude.{◌≡◌, ℕ}
use Rattle.cmr_base.specs.Matrix.{Matrix, entry, height}
use Rattle.cmr_base.specs.Separations.{IsTied, first_is_flat, product_at}
use Rattle.cmr_base.specs.Seeds.{IsGrown, IsLine}
use Rattle.cmr_base.specs.declared.separation.Form.{Form}
use Rattle.cuts.specs.declared.corners.Corners.{Corners}
use Rattle.line_growth.specs.GrowingSets.{IsGrowing, set_of}
use Rattle.three_sep.specs.declared.search.Search.{Search}
use Rattle.three_sep.specs.Searches.{first_at, held_lines, other_line}

-- the side of the search is the closure of the first connector with the other line q
pub record HoldsFirst (m : Matrix) (form : Form) (c : Corners) (q : ℕ) (search : Search) : Type 0 where
  pub matrix : search.matrix.now ≡ m
  pub line : IsLine (height m) m.width (other_line (first_is_flat form) q)
  pub tied : IsTied (entry m) (first_is_flat form) (first_at c q) c.two.row c.two.column
  pub growing : IsGrowing m (product_at (entry m) c.one.row c.two.column) (product_at (entry m) c.two.row c.one.column) (held_lines form c q) search.sides.side
  pub least : IsGrown (height m) m.width (entry m) (product_at (entry m) c.one.row c.two.column) (product_at (entry m) c.two.row c.one.column) (held_lines form c q) (set_of search.sides.side)
