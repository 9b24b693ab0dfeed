-- The properties of the parts at a row that decide how they hang.
use Rattle.std.specs.Prelude.{◌≡◌, ◌<◌, ◌==◌, ℕ, Bool, false, List, [], length, slice_index_or, None, MatchOption}
use Rattle.cmr_base.specs.Splits.{IsCommon}
use Rattle.graph_realise.specs.Merging.{IsWeight}
use Rattle.graph_realise.specs.declared.branches.Branch.{Branch}

pub record IsBranch (M : ℕ → ℕ → Bool) (n i : ℕ) (P : List ℕ) (end : Bool) (branch : Branch) : Type 0 where
  pub end_is : branch.end ≡ end
  pub weight : IsWeight M n i P branch.weight
  pub common : MatchOption branch.common ((column : ℕ) → ¬ (IsCommon M i P column)) (IsCommon M i P)

-- the branch of a part
abbrev pub branch_at : List Branch → ℕ → Branch
branch_at branches part = slice_index_or branches part (record { end = false; weight = 0; common = None })

-- one branch for each part, at its end of row i's arc: 1 is the first end
pub record AreBranches (M : ℕ → ℕ → Bool) (n i : ℕ) (parts : List (List ℕ)) (ends : List ℕ) (count : ℕ) (branches : List Branch) : Type 0 where
  pub many : length branches ≡ count
  pub each : (a : ℕ) → a < count → IsBranch M n i (slice_index_or parts a []) (slice_index_or ends a 0 == 1) (branch_at branches a)
