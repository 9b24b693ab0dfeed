-- The sides of arcs as tables.
use Rattle.std.specs.Prelude.{◌≡◌, ◌≢◌, ◌<◌, ℕ, Bool, false, cond, List, slice_index}
use Rattle.cmr_base.specs.Matrix.{Matrix, height}
use Rattle.cmr_base.specs.Members.{IsIn}
use Rattle.graph_realise.specs.BitTables.{cell}
use Rattle.graph_realise.specs.declared.arc_sides.ArcSides.{ArcSides}

-- the side of an arc on which another arc lies
abbrev pub side_in : ArcSides → ℕ → ℕ → Bool
side_in sides row other = cell sides.arcs row other

-- the side of an arc on which the first (true) or last end of a column lies
abbrev pub end_in : ArcSides → Bool → ℕ → ℕ → Bool
end_in sides end row column = cond end (cell sides.first row column) (cell sides.last row column)

-- the tables have a row for each row of the matrix
pub record AreTablesOf (m : Matrix) (sides : ArcSides) : Type 0 where
  pub arcs_height : sides.arcs.height ≡ height m
  pub arcs_width : sides.arcs.width ≡ height m
  pub first_height : sides.first.height ≡ height m
  pub first_width : sides.first.width ≡ m.width
  pub last_height : sides.last.height ≡ height m
  pub last_width : sides.last.width ≡ m.width

-- the sides of one arc are the same
pub record KeepsRow (old new : ArcSides) (row : ℕ) : Type 0 where
  pub arcs : (other : ℕ) → side_in new row other ≡ side_in old row other
  pub ends : (end : Bool) (column : ℕ) → end_in new end row column ≡ end_in old end row column

-- the sides of all arcs except one are the same
abbrev pub KeepsOtherArcs : ArcSides → ArcSides → ℕ → Type 0
KeepsOtherArcs old new row = (r : ℕ) → r ≢ row → KeepsRow old new r

-- the sides of all arcs that are not in the list are the same
abbrev pub KeepsOutside : ArcSides → ArcSides → List ℕ → Type 0
KeepsOutside old new rows = (r : ℕ) → ¬ (IsIn r rows) → KeepsRow old new r

-- except in the rows of a list and their columns, the arcs of these rows have nothing on their sides `true`
pub record AreClear (M : ℕ → ℕ → Bool) (S : List ℕ) (sides : ArcSides) : Type 0 where
  pub arcs : (r s : ℕ) → IsIn r S → ¬ (IsIn s S) → side_in sides r s ≡ false
  pub ends : (end : Bool) (r c : ℕ) → IsIn r S → ((x : ℕ) → IsIn x S → M x c ≡ false) → end_in sides end r c ≡ false

-- one arc has these sides of the arcs and of the ends of columns
pub record IsArcChanged (arcs : ℕ → Bool) (ends : Bool → ℕ → Bool) (old new : ArcSides) (row : ℕ) : Type 0 where
  pub sizes : (m : Matrix) → AreTablesOf m old → AreTablesOf m new
  pub others : KeepsOtherArcs old new row
  pub to_arcs : (other : ℕ) → other < old.arcs.width → side_in new row other ≡ arcs other
  pub to_ends : (end : Bool) (column : ℕ) → column < old.first.width → end_in new end row column ≡ ends end column

-- each of the first `count` rows of a list has a property, and the others are unchanged
pub record AreRedrawn (P : ℕ → ArcSides → Type 0) (rows : List ℕ) (count : ℕ) (old new : ArcSides) : Type 0 where
  pub done : (k : ℕ) → k < count → P (slice_index rows k) new
  pub kept : (r : ℕ) → ((k : ℕ) → k < count → slice_index rows k ≢ r) → KeepsRow old new r
