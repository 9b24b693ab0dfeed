-- Orders in which a tree grows arc by arc.
use Rattle.std.specs.Prelude.{◌≡◌, ◌<◌, ℕ, Bool, List, length}
use Rattle.cmr_base.specs.GrownTrees.{IsOrdered}
use Rattle.cmr_base.specs.Members.{IsIn}

-- an order of the first `count` rows
pub record IsGrowingOrder (beyond : ℕ → ℕ → Bool) (count : ℕ) (order : List ℕ) : Type 0 where
  pub ordered : IsOrdered beyond order
  pub all : (row : ℕ) → row < count → IsIn row order
  pub only : (row : ℕ) → IsIn row order → row < count
  pub many : length order ≡ count
