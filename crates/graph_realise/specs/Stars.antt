-- The tables of a star: the middle and all other arcs are on side false of each arc.
use Rattle.std.specs.Prelude.{ℕ, Bool, false, not, cond, ◌==◌, List, [], ◌∷◌}
use Rattle.cmr_base.specs.Cuts.{differ}

module _ (M : ℕ → ℕ → Bool) where
  -- the first row with a nonzero in the column
  abbrev pub lead : List ℕ → ℕ → ℕ
  lead [] c = 0
  lead (r ∷ S) c = cond (M r c) r (lead S c)

  -- The first end of a column is the leaf of its first row, and the last end the leaf of its second row. An end without such a
  -- row is the middle.
  abbrev pub star_lies : List ℕ → Bool → ℕ → ℕ → Bool
  star_lies S end r c = cond (M r c) (not (differ end (r == lead S c))) false
