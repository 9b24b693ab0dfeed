-- The first fault, and its lines as increasing lists.
use Rattle.std.specs.Prelude.{ℕ, suc, ◌-◌, List, ◌↔◌, ◌<◌, ◌≤◌, nat_lt, if◌then◌else◌, Option, Some, None, MatchOption}
use Rattle.std.specs.List.Sorted.{IsStrictlyIncreasing}
use Rattle.cmr_base.specs.Matrix.{Matrix, entry}
use Rattle.cmr_base.specs.Members.{IsIn}
use Rattle.cmr_base.specs.CyclePlaces.{IsFaultAt, IsEarlierPlace}

-- no cycle of this place has the sum 2 modulo 4
abbrev pub HasNoFaultAt : Matrix → ℕ → ℕ → ℕ → Type 0
HasNoFaultAt m t c d = (path : List ℕ) → IsFaultAt (entry m) t c d path → ⊥

-- the fault of row t and first column c with the least last column
pub record IsColumnFault (m : Matrix) (t c d : ℕ) (lines : List ℕ) : Type 0 where
  pub fault : IsFaultAt (entry m) t c d lines
  pub least : (y : ℕ) → y < d → HasNoFaultAt m t c y

-- the first fault
pub record IsFirstFault (m : Matrix) (t c d : ℕ) (lines : List ℕ) : Type 0 where
  pub fault : IsFaultAt (entry m) t c d lines
  pub first : (t' c' d' : ℕ) → IsEarlierPlace t' c' d' t c d → HasNoFaultAt m t' c' d'

-- the numbers below x that have the property, in increasing order
pub record IsBuilt (P : ℕ → Type 0) (x : ℕ) (list : List ℕ) : Type 0 where
  pub increasing : IsStrictlyIncreasing list
  pub members : (y : ℕ) → IsIn y list ↔ ((y < x) × P y)

-- the least of these lines that is at least a number, if there is one
abbrev pub IsLeastFrom : List ℕ → ℕ → Option ℕ → Type 0
IsLeastFrom lines from found = MatchOption found ((x : ℕ) → IsIn x lines → x < from) (λ line. IsIn line lines × (from ≤ line) × ((x : ℕ) → IsIn x lines → from ≤ x → line ≤ x))

-- a line, if it is below a bound
abbrev pub within : Option ℕ → ℕ → Option ℕ
within None bound = None
within (Some line) bound = if nat_lt line bound then Some line else None

-- the lines found so far are the lines below `from`, and the next line is the least of the others
pub record IsGathering (lines : List ℕ) (bound : ℕ) (next : Option ℕ) (found : List ℕ) : Type 0 where
  pub from : ℕ
  pub inside : from ≤ bound
  pub built : IsBuilt (λ line. IsIn line lines) from found
  pub least : IsLeastFrom lines from next

-- a bound on the number of lines that are not gathered yet
abbrev pub left_to_gather : ℕ → Option ℕ → ℕ
left_to_gather bound None = 0
left_to_gather bound (Some line) = suc (bound - line)
