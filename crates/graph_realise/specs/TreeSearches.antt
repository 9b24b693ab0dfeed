-- The results of a search for a tree.
use Rattle.std.specs.Prelude.{◌<◌, ◌≤◌, ℕ, Bool, List, length}
use Rattle.cmr_base.specs.Cuts.{IsCuts, HasCuts}
use Rattle.cmr_base.specs.Members.{IsIn}
use Rattle.cmr_base.specs.Splits.{AreParts, Splits}
use Rattle.bridge_split.specs.declared.splitting.SplitRow.{SplitRow}
use Rattle.graph_realise.specs.SideTables.{AreClear, side_in, end_in}
use Rattle.graph_realise.specs.declared.arc_sides.ArcSides.{ArcSides}
use Rattle.graph_realise.specs.declared.side_search.TreeSearch.{TreeSearch}
use Rattle.graph_realise.specs.declared.side_search.TreeSearch.TheVariants.{Found, NoTree}

-- the sides of a tree's arcs, with nothing else on their sides `true`
pub record AreTreeSides (M : ℕ → ℕ → Bool) (S : List ℕ) (sides : ArcSides) : Type 0 where
  pub cuts : IsCuts M (λ r. IsIn r S) (side_in sides) (end_in sides)
  pub clear : AreClear M S sides

-- a tree in the tables, or no tree exists
abbrev pub IsSearch : (ℕ → ℕ → Bool) → List ℕ → ArcSides → TreeSearch → Type 0
IsSearch M S sides Found = AreTreeSides M S sides
IsSearch M S sides NoTree = ¬ (HasCuts M (λ r. IsIn r S))

-- no row below a number splits the others
abbrev pub AreWholeBelow : (ℕ → ℕ → Bool) → List ℕ → ℕ → Type 0
AreWholeBelow M S untested = (row : ℕ) → row < untested → ¬ (Splits M S row)

-- the first row that splits the others, and their parts, of which there are at least two
pub record IsSplit (M : ℕ → ℕ → Bool) (S : List ℕ) (split : SplitRow) : Type 0 where
  pub here : IsIn split.row S
  pub parts : AreParts M S split.row split.parts
  pub two : 2 ≤ length split.parts
  pub first : AreWholeBelow M S split.row
