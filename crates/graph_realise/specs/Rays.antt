-- The rows of a star as the code draws them.
use Rattle.std.specs.Prelude.{◌≡◌, ◌<◌, ◌==◌, ◌&&◌, not, if◌then◌else◌, ℕ, Bool, true, false, List, [], ◌∷◌, slice_index}
use Rattle.graph_realise.specs.SideTables.{side_in, end_in}
use Rattle.graph_realise.specs.declared.arc_sides.ArcSides.{ArcSides}

-- this row is the first row of the list that is not 0 in the column
abbrev pub is_first : (ℕ → ℕ → Bool) → List ℕ → ℕ → ℕ → Bool
is_first M [] row column = false
is_first M (r ∷ rows) row column = if M r column then r == row else is_first M rows row column

-- the first end of a column is the leaf of its first row, and the last end the leaf of its second row; an end without such a
-- row is the middle
abbrev pub star_end : (ℕ → ℕ → Bool) → List ℕ → ℕ → Bool → ℕ → Bool
star_end M rows row end column = M row column && (if end then is_first M rows row column else not (is_first M rows row column))

-- the sides of one arc of the star
pub record IsRay (M : ℕ → ℕ → Bool) (rows : List ℕ) (row : ℕ) (sides : ArcSides) : Type 0 where
  pub arcs : (other : ℕ) → side_in sides row other ≡ false
  pub ends : (end : Bool) (column : ℕ) → end_in sides end row column ≡ star_end M rows row end column

-- the same, if `seen` contains the columns of earlier rows
pub record IsRayAfter (M : ℕ → ℕ → Bool) (seen : ℕ → Bool) (row : ℕ) (sides : ArcSides) : Type 0 where
  pub arcs : (other : ℕ) → side_in sides row other ≡ false
  pub ends : (end : Bool) (column : ℕ) → end_in sides end row column ≡ (M row column && (if end then not (seen column) else seen column))

-- the columns of the rows before `place` are seen
pub record AreSeen (M : ℕ → ℕ → Bool) (rows : List ℕ) (place : ℕ) (seen : ℕ → Bool) : Type 0 where
  pub into : (column : ℕ) → seen column ≡ true → (q : ℕ) × (q < place) × (M (slice_index rows q) column ≡ true)
  pub from : (q column : ℕ) → q < place → M (slice_index rows q) column ≡ true → seen column ≡ true
