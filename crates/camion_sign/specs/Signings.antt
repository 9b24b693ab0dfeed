-- The state of a signing.
use Rattle.std.specs.Prelude.{◌≡◌, ◌≢◌, ◌<◌, ◌≤◌, ◌+◌, ◌⊎◌, if◌then◌else◌, ℕ, zero, suc, Bool, true, false, ℤ, pos, List, Some, length, slice_index, slice_index_or}
use Rattle.cmr_base.specs.Matrix.{Matrix, height, entry, is_nonzero, IsEntry, IsMatrix}
use Rattle.cmr_base.specs.BitSets.{Bits}
use Rattle.cmr_base.specs.ColumnSets.{has_column}
use Rattle.cmr_base.specs.CyclePlaces.{IsCyclePlace, path_sum}
use Rattle.cmr_base.specs.Planes.{is_minus}
use Rattle.camion_sign.specs.Walks.{HasFoundPaths, HasPlacesAndMarks, HasValuesBefore, TwoIf}
use Rattle.camion_sign.specs.ColumnParts.{HasPartsBefore}
use Rattle.camion_sign.specs.declared.row_places.ForcedOne.{ForcedOne}
use Rattle.camion_sign.specs.declared.row_places.Partner.{Partner}
use Rattle.camion_sign.specs.declared.row_places.RowPlaces.{RowPlaces}
use Rattle.camion_sign.specs.declared.signed_columns.SignedColumns.{SignedColumns}
use Rattle.camion_sign.specs.declared.signing.Signing.{Signing}
use Rattle.chains.specs.declared.step.SignStep.{SignStep}
use Rattle.chains.specs.SignSteps.{AreSigns, IsUnsignedOne, unsigned, LeadTo}
use Rattle.camion_sign.specs.KeptSteps.{HasKept}
use Rattle.camion_sign.specs.SignOrder.{IsForcedBy, IsPlaceOf, IsRowsTurn, IsNextSign}

-- two columns, first and last, make a cycle place with row t; the sum of the signs on its path is 2 modulo 4 if `two` is true, and
-- divisible by 4 if it is false
abbrev pub HasPathWith : Matrix → Matrix → ℕ → ℕ → ℕ → Bool → Type 0
HasPathWith m s t c d two = (path : List ℕ) × IsCyclePlace (entry m) t c d path × TwoIf two (path_sum (entry s) c d path)

-- the same for two columns in any order
abbrev pub HasPlaceWith : Matrix → Matrix → ℕ → ℕ → ℕ → Bool → Type 0
HasPlaceWith m s t c d two = HasPathWith m s t c d two ⊎ HasPathWith m s t d c two

-- the mark of two columns: it is not 0 if and only if they make a cycle place with row t, and says which sum the path has
pub record ShowsPlace (m s : Matrix) (t c d : ℕ) (z : ℤ) : Type 0 where
  pub small : IsEntry z
  pub place : z ≢ pos 0 → HasPathWith m s t c d (is_minus z)
  pub none : z ≡ pos 0 → (path : List ℕ) → ¬ (IsCyclePlace (entry m) t c d path)

-- the same for two columns in any order
pub record ShowsPlaceOf (m s : Matrix) (t c d : ℕ) (z : ℤ) : Type 0 where
  pub small : IsEntry z
  pub place : z ≢ pos 0 → HasPlaceWith m s t c d (is_minus z)
  pub none : z ≡ pos 0 → (path : List ℕ) → ¬ (IsPlaceOf m t c d path)

-- one row and one column for each column of the matrix
pub record AreSquare (m links : Matrix) : Type 0 where
  pub matrix : IsMatrix links
  pub links_height : height links ≡ m.width
  pub links_width : links.width ≡ m.width

-- the same for a first column, and all last columns before a bound
abbrev pub ShowsPlacesFrom : Matrix → Matrix → ℕ → ℕ → ℕ → Matrix → Type 0
ShowsPlacesFrom m s t c bound links = (d : ℕ) → c < d → d < bound → entry m t d ≢ pos 0 → ShowsPlace m s t c d (entry links c d)

-- a set that has the columns that a row before t meets
pub record HasTouched (m : Matrix) (t : ℕ) (columns : Bits) : Type 0 where
  pub size : columns.size ≡ m.width
  pub all : (d r : ℕ) → r < t → entry m r d ≢ pos 0 → has_column columns.words d ≡ true

-- room for the places of row t, and the parts by the rows before it
pub record HasRoomForPlaces (m : Matrix) (t : ℕ) (places : RowPlaces) : Type 0 where
  pub parts : HasPartsBefore m t places.parts
  pub touched : HasTouched m t places.touched
  pub waiting : places.waiting.size ≡ m.width
  pub fits : HasPlacesAndMarks m places.walk
  pub square : AreSquare m places.links
  pub one_each : length places.known.items ≡ m.width

-- the known places of row t with the signs of the rows before it, and the last walk
pub record KnowsPlaces (m s : Matrix) (t : ℕ) (places : RowPlaces) : Type 0 where
  pub room : HasRoomForPlaces m t places
  pub signs : HasValuesBefore m s t
  pub shows : (c : ℕ) → slice_index_or places.known.items c false ≡ true → ShowsPlacesFrom m s t c m.width places.links
  pub walked : (c : ℕ) → places.walked ≡ Some c → HasFoundPaths m t c places.walk

-- the signed columns of a row, and for each column the number of first signed columns with which it makes no cycle place
pub record KnowsSigned (a s : Matrix) (row : ℕ) (signed : SignedColumns) : Type 0 where
  pub one_each : length signed.passed.items ≡ a.width
  pub within : (d : ℕ) → slice_index signed.passed.items d ≤ length signed.columns.items
  pub listed : (c : ℕ) → entry s row c ≢ pos 0 → (k : ℕ) × (k < length signed.columns.items) × (slice_index signed.columns.items k ≡ c)
  pub signs : (k : ℕ) → k < length signed.columns.items → entry s row (slice_index signed.columns.items k) ≢ pos 0
  pub passed : (d k : ℕ) → k < slice_index signed.passed.items d → (path : List ℕ) → ¬ (IsPlaceOf a row (slice_index signed.columns.items k) d path)

-- the signing is at this row
pub record IsAtRow (a : Matrix) (row : ℕ) (signing : Signing) : Type 0 where
  pub signs : AreSigns a signing.signs
  pub turn : IsRowsTurn a signing.signs row
  pub steps : List SignStep
  pub lead : LeadTo (IsNextSign a) (unsigned a) steps signing.signs
  pub kept : HasKept steps signing.steps
  pub signed : KnowsSigned a signing.signs row signing.signed

-- the first one of the row without sign
pub record IsFirstUnsigned (a s : Matrix) (row column : ℕ) : Type 0 where
  pub here : IsUnsignedOne a s row column
  pub least : (d : ℕ) → d < column → ¬ (IsUnsignedOne a s row d)

-- the first one of the row without sign that is in column `from` or a later one
pub record IsNextUnsigned (a s : Matrix) (row from column : ℕ) : Type 0 where
  pub low : from ≤ column
  pub here : IsUnsignedOne a s row column
  pub least : (d : ℕ) → from ≤ d → d < column → ¬ (IsUnsignedOne a s row d)

-- the least signed column of the row that makes a place with a column
pub record IsPartner (a s : Matrix) (row column partner : ℕ) : Type 0 where
  pub forces : IsForcedBy a s row column partner
  pub least : (c : ℕ) → c < partner → ¬ (IsForcedBy a s row column c)

-- a signed column that makes a place with a column, and the mark of this place
abbrev pub IsPlacedPartner : Matrix → Matrix → ℕ → ℕ → Partner → Type 0
IsPlacedPartner a s row column partner = IsForcedBy a s row column partner.column × ShowsPlaceOf a s row partner.column column partner.mark

-- the least such column, and the mark of its place
abbrev pub IsLeastPartner : Matrix → Matrix → ℕ → ℕ → Partner → Type 0
IsLeastPartner a s row column partner = IsPartner a s row column partner.column × ShowsPlaceOf a s row partner.column column partner.mark

-- a column, its least partner, and the mark of their place
pub record IsForcedAt (a s : Matrix) (row column : ℕ) (forced : ForcedOne) : Type 0 where
  pub column_is : forced.column ≡ column
  pub partner : IsPartner a s row column forced.partner
  pub mark : ShowsPlaceOf a s row forced.partner column forced.mark

-- the least column of the row that is forced
pub record IsForcedColumn (a s : Matrix) (row column : ℕ) : Type 0 where
  pub here : IsUnsignedOne a s row column
  pub least : (d : ℕ) → d < column → IsUnsignedOne a s row d → (c : ℕ) → ¬ (IsForcedBy a s row d c)

-- the next forced one of the row: the least forced column, its least partner, and the mark of their place
pub record IsForcedNext (a s : Matrix) (row : ℕ) (forced : ForcedOne) : Type 0 where
  pub column : IsForcedColumn a s row forced.column
  pub partner : IsPartner a s row forced.column forced.partner
  pub mark : ShowsPlaceOf a s row forced.partner forced.column forced.mark

-- no one of the row is forced
abbrev pub NoneForced : Matrix → Matrix → ℕ → Type 0
NoneForced a s row = (d : ℕ) → IsUnsignedOne a s row d → (c : ℕ) → ¬ (IsForcedBy a s row d c)

-- the number of ones of the row before a column that have no sign
abbrev pub unsigned_before : Matrix → Matrix → ℕ → ℕ → ℕ
unsigned_before a s row zero = 0
unsigned_before a s row (suc column) =
    (if is_nonzero (entry a row column) then (if is_nonzero (entry s row column) then 0 else 1) else 0) + unsigned_before a s row column
