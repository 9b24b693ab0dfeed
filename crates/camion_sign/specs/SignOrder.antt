-- Camion's signing of a 0/1 matrix: the signs that cycle places force, and +1 if nothing is forced.
use Rattle.std.specs.Prelude.{◌≡◌, ◌≢◌, ◌<◌, ◌⊎◌, ◌↔◌, ℕ, ℤ, pos, List}
use Rattle.cmr_base.specs.Matrix.{Matrix, entry, with_entry}
use Rattle.cmr_base.specs.Members.{IsIn}
use Rattle.cmr_base.specs.LineSets.{IsRowSet, IsColumnSet, submatrix_sum}
use Rattle.cmr_base.specs.Signing.{IsSign}
use Rattle.cmr_base.specs.CyclePlaces.{IsCyclePlace, cycle_rows, cycle_columns}
use Rattle.cmr_base.specs.declared.line_set.LineSet.{LineSet}
use Rattle.chains.specs.declared.step.SignStep.{SignStep}
use Rattle.chains.specs.declared.step.SignStep.TheVariants.{Free, Forced}
use Rattle.chains.specs.SignSteps.{IsZeroModFour, IsUnsignedOne, AllSigned, unsigned, LeadTo}

-- two columns make a cycle place with a row; the lesser column is the first of the place
abbrev pub IsPlaceOf : Matrix → ℕ → ℕ → ℕ → List ℕ → Type 0
IsPlaceOf a row c d path = IsCyclePlace (entry a) row c d path ⊎ IsCyclePlace (entry a) row d c path

-- a column makes a cycle place with a signed column of the row
abbrev pub IsForcedBy : Matrix → Matrix → ℕ → ℕ → ℕ → Type 0
IsForcedBy a s row column partner = (entry s row partner ≢ pos 0) × ((path : List ℕ) × IsPlaceOf a row partner column path)

-- the lines of the cycle of a place with these columns
pub record IsCycleLines (a : Matrix) (row c d : ℕ) (cycle : LineSet) : Type 0 where
  pub path : List ℕ
  pub place : IsPlaceOf a row c d path
  pub row_set : IsRowSet a cycle.rows
  pub column_set : IsColumnSet a cycle.columns
  pub rows_are : (line : ℕ) → IsIn line cycle.rows ↔ IsIn line (cycle_rows row path)
  pub columns_are : (line : ℕ) → IsIn line cycle.columns ↔ IsIn line (cycle_columns c d path)

-- the next forced entry of a row. Its column is the least that makes a cycle place with a signed column, and its partner is the
-- least such signed column. Its sign makes the sum of the place's cycle divisible by 4.
pub record IsNextForced (a s : Matrix) (row column : ℕ) (cycle : LineSet) (sign : ℤ) : Type 0 where
  pub here : IsUnsignedOne a s row column
  pub partner : ℕ
  pub signed : entry s row partner ≢ pos 0
  pub cycle_is : IsCycleLines a row partner column cycle
  pub least_column : (d : ℕ) → d < column → IsUnsignedOne a s row d → (c : ℕ) → ¬ (IsForcedBy a s row d c)
  pub least_partner : (c : ℕ) → c < partner → ¬ (IsForcedBy a s row column c)
  pub is_sign : IsSign sign
  pub four : IsZeroModFour (submatrix_sum (with_entry s row column sign) cycle.rows cycle.columns)

-- the next free entry of a row: its first one without sign, if nothing is forced
pub record IsNextFree (a s : Matrix) (row column : ℕ) : Type 0 where
  pub here : IsUnsignedOne a s row column
  pub least : (d : ℕ) → d < column → ¬ (IsUnsignedOne a s row d)
  pub unforced : (d : ℕ) → IsUnsignedOne a s row d → (c : ℕ) → ¬ (IsForcedBy a s row d c)

-- the rows are signed from the first to the last
pub record IsRowsTurn (a s : Matrix) (row : ℕ) : Type 0 where
  pub earlier : (i j : ℕ) → i < row → entry a i j ≢ pos 0 → entry s i j ≢ pos 0
  pub later : (i j : ℕ) → row < i → entry s i j ≡ pos 0

abbrev pub IsNextSign : Matrix → Matrix → SignStep → ℤ → Type 0
IsNextSign a s (Free row column) sign = IsRowsTurn a s row × IsNextFree a s row column × (sign ≡ pos 1)
IsNextSign a s (Forced row column cycle) sign = IsRowsTurn a s row × IsNextForced a s row column cycle sign

-- these steps, in this order, give these signs
pub record IsSignedBy (a : Matrix) (steps : List SignStep) (m : Matrix) : Type 0 where
  pub steps_are : LeadTo (IsNextSign a) (unsigned a) steps m
  pub all_signed : AllSigned a m
