-- Paths of a side after the pivot at the first edge of a shortest one.
use Rattle.std.specs.Prelude.{◌⊎◌, ℕ, zero, suc}
use Rattle.cmr_base.specs.Matrix.{Matrix, HasTernaryEntries}
use Rattle.cmr_base.specs.Separations.{Lines}
use Rattle.ghouila.specs.PivotLaws.{pivot_at}
use Rattle.path_places.specs.PathPlaces.{IsFirstEdge, IsFit, IsPathPlace}

-- Less than a path with these many inner rows: a path with one inner row less, which is two edges shorter, and if there was only one, the side
-- is fit.
abbrev pub HasShorterPath : Matrix → Lines → ℕ → Type 0
HasShorterPath m side zero = ⊥
HasShorterPath m side (suc zero) = IsFit m side
HasShorterPath m side (suc (suc n)) = (row column : ℕ) × IsFirstEdge m side (suc n) row column

-- A pivot without a 2 and a -2 at the position of a side makes the shortest paths shorter by two edges. After a path of three edges the side
-- is fit.
abbrev pub PivotsShortenPaths : Type 0
PivotsShortenPaths = (m : Matrix) (side : Lines) (row column : ℕ) → HasTernaryEntries m → (place : IsPathPlace m side row column) → HasTernaryEntries (pivot_at m row column)
    → HasShorterPath (pivot_at m row column) side place.n

-- The side becomes fit by at most n pivots at its positions, if no pivot has a 2 or a -2.
abbrev pub IsFitWithin : ℕ → Matrix → Lines → Type 0
IsFitWithin zero m side = IsFit m side
IsFitWithin (suc n) m side = IsFit m side ⊎ ((row column : ℕ) → IsPathPlace m side row column → HasTernaryEntries (pivot_at m row column) → IsFitWithin n (pivot_at m row column) side)

-- as many pivots are enough as some path of the side has inner rows
abbrev pub PathsBoundPivots : Type 0
PathsBoundPivots = (m : Matrix) (side : Lines) (n row column : ℕ) → HasTernaryEntries m → IsFirstEdge m side n row column → IsFitWithin n m side
