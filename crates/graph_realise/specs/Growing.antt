-- A tree grown from the sides of its arcs.
use Rattle.std.specs.Prelude.{◌≡◌, ◌<◌, ◌≤◌, ◌+◌, ℕ, Bool, true, false, List, length, slice_index, slice_index_or}
use Rattle.cmr_base.specs.GrownTrees.{beyond, place}
use Rattle.graph_realise.specs.SideTables.{side_in, end_in}
use Rattle.graph_realise.specs.declared.arc_sides.ArcSides.{ArcSides}
use Rattle.graph_realise.specs.declared.growing.Spot.{Spot}
use Rattle.graph_realise.specs.declared.growing.Spot.TheVariants.{Arc, First, Last}

-- for each arc the side that contains the first end of column 0
pub record AreNear (sides : ArcSides) (m : ℕ) (near : List Bool) : Type 0 where
  pub count : length near ≡ m
  pub each : (row : ℕ) → row < m → slice_index_or near row false ≡ end_in sides true row 0

-- arc s lies beyond arc r
abbrev pub is_beyond : ArcSides → ℕ → ℕ → Bool
is_beyond sides = beyond (side_in sides) (end_in sides)

-- the spot lies beyond an arc
abbrev pub is_past : ArcSides → Spot → ℕ → Bool
is_past sides (Arc arc) row = is_beyond sides row arc
is_past sides (First column) row = place (side_in sides) (end_in sides) true column row
is_past sides (Last column) row = place (side_in sides) (end_in sides) false column row

-- a spot of a matrix of these sizes
abbrev pub IsSpotIn : ℕ → ℕ → Spot → Type 0
IsSpotIn m n (Arc arc) = arc < m
IsSpotIn m n (First column) = column < n
IsSpotIn m n (Last column) = column < n

-- the position after the last arc of an order that lies beyond this arc
pub record IsPlaceInOrder (sides : ArcSides) (order : List ℕ) (arc found : ℕ) : Type 0 where
  pub within : found ≤ length order
  pub last : (k : ℕ) → k + 1 ≡ found → is_beyond sides arc (slice_index order k) ≡ true
  pub after : (k : ℕ) → found ≤ k → k < length order → is_beyond sides arc (slice_index order k) ≡ false
