-- Breadth-first walks from a column over the rows before t. The walk reaches columns in the order of their least trails.
use Rattle.std.specs.Prelude.{ℕ, List, [], ◌∷◌, ◌++◌, Bool, true, false, not, ◌&&◌, ℤ, pos, ◌+ℤ◌, ◌+◌, ◌*◌, ◌≡◌, ◌≢◌, ◌<◌, ◌≤◌, ◌⊎◌, length, slice_index_or}
use Rattle.cmr_base.specs.BitSets.{Bits}
use Rattle.cmr_base.specs.Matrix.{Matrix, height, entry, IsMatrix, IsEntry}
use Rattle.cmr_base.specs.ColumnSets.{has_column}
use Rattle.cmr_base.specs.CyclePlaces.{IsPath}
use Rattle.cmr_base.specs.Planes.{has_bit}
use Rattle.cmr_base.specs.Sums.{IsTwoModFour}
use Rattle.camion_sign.specs.declared.walk.ReachedColumn.{ReachedColumn}
use Rattle.camion_sign.specs.declared.walk.TheConstants.{UNREACHED}
use Rattle.camion_sign.specs.declared.walk.Walk.{Walk}
use Rattle.camion_sign.specs.Trails.{IsShortlexBefore, IsUpTo, IsTrail, trail_end, trail_sum}

-- negated if the first is true
abbrev pub flip : Bool → Bool → Bool
flip true b = not b
flip false b = b

-- the number is 2 modulo 4 if the value is true, and 0 modulo 4 if it is false
abbrev pub TwoIf : Bool → ℤ → Type 0
TwoIf true z = IsTwoModFour z
TwoIf false z = (k : ℤ) × (z ≡ (k +ℤ k) +ℤ (k +ℤ k))

-- The state of a walk. `column` lists the reached columns in order. Each has a row and the position of the column from which
-- the walk reached it, and `is_two` says whether the values on its trail have the sum 2 modulo 4. `place` is the
-- position of each column, or the greatest number without one. `used` marks the rows that the walk has taken.
pub record Progress : Type 0 where
  pub count : ℕ
  pub column : ℕ → ℕ
  pub row : ℕ → ℕ
  pub before : ℕ → ℕ
  pub is_two : ℕ → Bool
  pub place : ℕ → ℕ
  pub used : ℕ → Bool

abbrev pub step_at : List ReachedColumn → ℕ → ReachedColumn
step_at steps place = slice_index_or steps place (record { column = 0; row = 0; before = 0; is_two = false })

abbrev pub place_in : List ℕ → ℕ → ℕ
place_in places column = slice_index_or places column UNREACHED

abbrev pub progress : List ReachedColumn → List ℕ → List ℕ → Progress
progress steps places used = record {
  count = length steps;
  column = λ j. (step_at steps j).column;
  row = λ j. (step_at steps j).row;
  before = λ j. (step_at steps j).before;
  is_two = λ j. (step_at steps j).is_two;
  place = place_in places;
  used = has_column used;
}

-- the columns that a walk from column c needs: trails go on through columns in which row t is 0, and last columns are after c
abbrev pub IsWanted : (ℕ → ℕ → ℤ) → ℕ → ℕ → ℕ → Type 0
IsWanted M t c x = (M t x ≡ pos 0) ⊎ (c < x)

module _ (M V : ℕ → ℕ → ℤ) (t c n : ℕ) (s : Progress) (key : ℕ → List ℕ) where
  -- the reached columns, and their trails
  pub record IsQueue : Type 0 where
    pub some : 0 < s.count
    pub first : s.column 0 ≡ c
    pub start : key 0 ≡ []
    pub inside : (j : ℕ) → j < s.count → s.column j < n
    pub placed : (j : ℕ) → j < s.count → s.place (s.column j) ≡ j
    pub listed : (x : ℕ) → s.place x < UNREACHED → (s.place x < s.count) × (s.column (s.place x) ≡ x)
    pub topped : (x : ℕ) → s.place x ≤ UNREACHED
    pub sorted : (i j : ℕ) → i < j → j < s.count → IsShortlexBefore (key i) (key j)
    pub trail : (j : ℕ) → j < s.count → IsTrail M t c (key j)
    pub ends : (j : ℕ) → j < s.count → trail_end c (key j) ≡ s.column j
    pub sums : (j : ℕ) → j < s.count → TwoIf (s.is_two j) (trail_sum V c (key j))
    pub earlier : (j : ℕ) → 0 < j → j < s.count → s.before j < j
    pub parent : (j : ℕ) → 0 < j → j < s.count → key j ≡ key (s.before j) ++ s.row j ∷ s.column j ∷ []

  -- a trail may continue from this position
  abbrev pub Goes : ℕ → Type 0
  Goes j = (j ≡ 0) ⊎ (M t (s.column j) ≡ pos 0)

  -- the walk has reached the column by a trail that is not after this trail
  abbrev pub IsMet : ℕ → List ℕ → Type 0
  IsMet x lines = (s.place x < UNREACHED) × IsUpTo (key (s.place x)) lines

  -- the positions before h are done, and each reached trail is before every trail from position h by a row and a column of
  -- `Next`
  pub record IsPrefix (h : ℕ) (Next : ℕ → ℕ → Type 0) : Type 0 where
    pub queue : IsQueue
    pub fits : h ≤ s.count
    pub done : (i r x : ℕ) → i < h → Goes i → r < t → M r (s.column i) ≢ pos 0 → M r x ≢ pos 0 → IsWanted M t c x → IsMet x (key i ++ r ∷ x ∷ [])
    pub gone : (r x : ℕ) → s.used r ≡ true → M r x ≢ pos 0 → IsWanted M t c x → (s.place x < UNREACHED) × (h < s.count → IsUpTo (key (s.place x)) (key h ++ r ∷ x ∷ []))
    pub prefix : (j r x : ℕ) → j < s.count → h < s.count → Next r x → IsShortlexBefore (key j) (key h ++ r ∷ x ∷ [])

  -- a trail that continues a reached trail is met, or after all reached trails
  abbrev pub IsSettled : Type 0
  IsSettled = (i r x : ℕ) (lines : List ℕ) → i < s.count → Goes i → r < t → M r (s.column i) ≢ pos 0 → M r x ≢ pos 0 → IsWanted M t c x → IsUpTo (key i) lines
      → IsMet x (lines ++ r ∷ x ∷ []) ⊎ ((j : ℕ) → j < s.count → IsShortlexBefore (key j) (lines ++ r ∷ x ∷ []))

-- in the first set and not in the other set
abbrev pub is_fresh : List ℕ → List ℕ → ℕ → Bool
is_fresh set other x = has_column set x && not (has_column other x)

-- the first line from `from` on that is in a set and not in another set
abbrev pub IsFirstFresh : List ℕ → List ℕ → ℕ → ℕ → Type 0
IsFirstFresh set other from next = (from ≤ next) × (is_fresh set other next ≡ true) × ((x : ℕ) → from ≤ x → x < next → is_fresh set other x ≡ false)

-- a set with one line added
pub record HasOneMore (old : Bits) (line : ℕ) (new : Bits) : Type 0 where
  pub size : new.size ≡ old.size
  pub only : (x : ℕ) → has_column new.words x ≡ true → (x ≡ line) ⊎ (has_column old.words x ≡ true)
  pub here : has_column new.words line ≡ true
  pub kept : (x : ℕ) → has_column old.words x ≡ true → has_column new.words x ≡ true

-- among the columns that a walk needs, the set has those with a position
pub record AreInStep (m : Matrix) (t c : ℕ) (positions : List ℕ) (reached : Bits) : Type 0 where
  pub has : (x : ℕ) → IsWanted (entry m) t c x → has_column reached.words x ≡ true → place_in positions x < UNREACHED
  pub lacks : (x : ℕ) → has_column reached.words x ≡ false → place_in positions x ≡ UNREACHED

-- a set of rows, a set of columns, and a position for each column
pub record HasPlacesAndMarks (m : Matrix) (walk : Walk) : Type 0 where
  pub matrix : IsMatrix m
  pub rows : walk.used.size ≡ height m
  pub columns : walk.reached.size ≡ m.width
  pub one_each : length walk.places.items ≡ walk.reached.size

-- values that are not 0 in the nonzeros of the rows before t
pub record HasValuesBefore (m values : Matrix) (t : ℕ) : Type 0 where
  pub small : (i j : ℕ) → IsEntry (entry values i j)
  pub same_height : height values ≡ height m
  pub same_width : values.width ≡ m.width
  pub nonzero : (i j : ℕ) → i < t → entry m i j ≢ pos 0 → entry values i j ≢ pos 0

-- a walk from column c over the rows before t, at position h; it examines no row below `low` again for this position
pub record IsWalking (m values : Matrix) (t c h low : ℕ) (walk : Walk) : Type 0 where
  pub fits : HasPlacesAndMarks m walk
  pub in_step : AreInStep m t c walk.places.items walk.reached
  pub key : ℕ → List ℕ
  pub prefix : IsPrefix (entry m) (entry values) t c m.width (progress walk.steps.items walk.places.items walk.used.words) key h (λ r x. low ≤ r)

-- position h is in the walk, and a trail may continue from it
pub record IsOpen (m : Matrix) (t h : ℕ) (walk : Walk) : Type 0 where
  pub within : h < length walk.steps.items
  pub goes : (h ≡ 0) ⊎ (entry m t (step_at walk.steps.items h).column ≡ pos 0)

-- reached columns stay reached, and steps stay
pub record GrowsFrom (old new : Walk) : Type 0 where
  pub longer : length old.steps.items ≤ length new.steps.items
  pub steps : (j : ℕ) → j < length old.steps.items → step_at new.steps.items j ≡ step_at old.steps.items j
  pub places : (x : ℕ) → place_in old.places.items x < UNREACHED → place_in new.places.items x < UNREACHED

-- among the needed columns that row r meets, from the step at position h: those below `low` are reached
pub record IsReaching (m values : Matrix) (t c h r low : ℕ) (from : ReachedColumn) (old walk : Walk) : Type 0 where
  pub fits : HasPlacesAndMarks m walk
  pub in_step : AreInStep m t c walk.places.items walk.reached
  pub grows : GrowsFrom old walk
  pub used : walk.used ≡ old.used
  pub within : h < length walk.steps.items
  pub from_is : step_at walk.steps.items h ≡ from
  pub key : ℕ → List ℕ
  pub prefix : IsPrefix (entry m) (entry values) t c m.width (progress walk.steps.items walk.places.items walk.used.words) key h (λ s x. (r < s) ⊎ ((r ≡ s) × (low ≤ x)))
  pub met : (x : ℕ) → x < low → entry m r x ≢ pos 0 → IsWanted (entry m) t c x
      → IsMet (entry m) (entry values) t c m.width (progress walk.steps.items walk.places.items walk.used.words) key x (key h ++ r ∷ x ∷ [])

-- the same within the columns of a word, where `rest` has the needed columns that are not reached
pub record IsReachingChunk (m values : Matrix) (t c h r chunk rest : ℕ) (from : ReachedColumn) (old walk : Walk) : Type 0 where
  pub low : ℕ
  pub up : 64 * chunk ≤ low
  pub inside : low ≤ 64 * chunk + 64
  pub state : IsReaching m values t c h r low from old walk
  pub open_bit : (k : ℕ) → k < 64 → has_bit rest k ≡ true → (low ≤ 64 * chunk + k) × (entry m r (64 * chunk + k) ≢ pos 0) × (place_in walk.places.items (64 * chunk + k) ≡ UNREACHED)
  pub closed_bit : (k : ℕ) → k < 64 → has_bit rest k ≡ false → low ≤ 64 * chunk + k → entry m r (64 * chunk + k) ≢ pos 0
      → IsWanted (entry m) t c (64 * chunk + k) → place_in walk.places.items (64 * chunk + k) < UNREACHED

-- no row before t meets the column
abbrev pub IsUntouched : Matrix → ℕ → ℕ → Type 0
IsUntouched m t x = (r : ℕ) → r < t → entry m r x ≢ pos 0 → ⊥

-- each column between c and `pending` that row t meets is reached, or no walk can reach it
abbrev pub NoneWaits : Matrix → ℕ → ℕ → ℕ → List ℕ → Type 0
NoneWaits m t c pending places = (d : ℕ) → c < d → d < pending → entry m t d ≢ pos 0 → (place_in places d ≢ UNREACHED) ⊎ IsUntouched m t d

-- among the rows that the column at position h meets: those below `low` are taken
pub record IsSpreading (m values : Matrix) (t c h low pending : ℕ) (old walk : Walk) : Type 0 where
  pub walking : IsWalking m values t c h low walk
  pub low_in : low ≤ t
  pub gone : (r : ℕ) → r < low → entry m r (step_at old.steps.items h).column ≢ pos 0 → has_column walk.used.words r ≡ true
  pub open_is : IsOpen m t h walk
  pub column_is : (step_at walk.steps.items h).column ≡ (step_at old.steps.items h).column
  pub pending_in : pending ≤ m.width
  pub waits : NoneWaits m t c pending walk.places.items

-- the walk may end: everything that it searches for is settled
pub record HasSettled (m values : Matrix) (t c : ℕ) (walk : Walk) : Type 0 where
  pub fits : HasPlacesAndMarks m walk
  pub key : ℕ → List ℕ
  pub queue : IsQueue (entry m) (entry values) t c m.width (progress walk.steps.items walk.places.items walk.used.words) key
  pub settled : IsSettled (entry m) (entry values) t c m.width (progress walk.steps.items walk.places.items walk.used.words) key

-- between two positions
pub record IsGoing (m values : Matrix) (t c h pending : ℕ) (walk : Walk) : Type 0 where
  pub state : IsWalking m values t c h 0 walk ⊎ ((pending ≡ m.width) × HasSettled m values t c walk)
  pub pending_in : pending ≤ m.width
  pub waits : NoneWaits m t c pending walk.places.items

-- the result of a walk: the least trails to the reached columns after c, the sums of the values on them, and no paths to the others
pub record HasWalked (m values : Matrix) (t c : ℕ) (walk : Walk) : Type 0 where
  pub fits : HasPlacesAndMarks m walk
  pub key : ℕ → List ℕ
  pub queue : IsQueue (entry m) (entry values) t c m.width (progress walk.steps.items walk.places.items walk.used.words) key
  pub least : (d : ℕ) (lines : List ℕ) → c < d → place_in walk.places.items d < UNREACHED → IsTrail (entry m) t c lines → trail_end c lines ≡ d → IsUpTo (key (place_in walk.places.items d)) lines
  pub none : (d : ℕ) (lines : List ℕ) → c < d → entry m t d ≢ pos 0 → place_in walk.places.items d ≡ UNREACHED → IsPath (entry m) t c d lines → ⊥

-- the same for some values
abbrev pub HasFoundPaths : Matrix → ℕ → ℕ → Walk → Type 0
HasFoundPaths m t c walk = (values : Matrix) × HasWalked m values t c walk
