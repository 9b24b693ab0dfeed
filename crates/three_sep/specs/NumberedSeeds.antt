-- Seeds of three-separations in the order of the search, and sets of lines as lists.
use Rattle.std.specs.Prelude.{◌≡◌, ◌≢◌, ◌<◌, ◌↔◌, ℕ, Bool, true, List}
use Rattle.std.specs.List.{AllByRecursion}
use Rattle.std.specs.List.Sorted.{IsStrictlyIncreasing}
use Rattle.cmr_base.specs.declared.line.Line.{Line}
use Rattle.cmr_base.specs.declared.line.Line.TheVariants.{Row, Column}
use Rattle.cmr_base.specs.Members.{IsIn}
use Rattle.cmr_base.specs.declared.separation.Connector.{Connector}
use Rattle.cmr_base.specs.declared.separation.Form.{Form}
use Rattle.cmr_base.specs.declared.separation.Form.TheVariants.{Delta, YForm, Mixed, Concentrated}
use Rattle.cmr_base.specs.declared.separation.Three.{Three}
use Rattle.cmr_base.specs.Matrix.{Matrix, height, entry}
use Rattle.cmr_base.specs.Separations.{Lines, connector_lines}
use Rattle.cmr_base.specs.Seeds.{IsGoodThree, three_key}
use Rattle.three_sep.specs.declared.connectors.Connectors.{Connectors}

-- the line is not in the connector
abbrev pub IsBeside : Bool → Connector → Line → Type 0
IsBeside flat connector line = AllByRecursion (λ other. line ≢ other) (connector_lines flat connector)

-- the forms whose blocks are both products
abbrev pub IsCrossing : Form → Type 0
IsCrossing Delta = Unit {0}
IsCrossing YForm = Unit {0}
IsCrossing Mixed = Unit {0}
IsCrossing Concentrated = ⊥

-- a form, two connectors, and one more line
pub record Seed : Type 0 where
  pub form : Form
  pub pair : Connectors
  pub line : Line

-- the set is the side of a good seed
abbrev pub IsGoodSeed : Matrix → Seed → Lines → Type 0
IsGoodSeed m s S = IsGoodThree (height m) m.width (entry m) s.form s.pair.first s.pair.second s.line S

-- the numbers by which seeds are ordered
abbrev pub seed_key : Matrix → Seed → List ℕ
seed_key m s = three_key (height m) s.form s.pair.first s.pair.second s.line

-- two increasing lists consist of the rows and of the columns of a set
pub record HasLines (m n : ℕ) (S : Lines) (rows columns : List ℕ) : Type 0 where
  pub rows_increasing : IsStrictlyIncreasing rows
  pub columns_increasing : IsStrictlyIncreasing columns
  pub rows_are : (r : ℕ) → IsIn r rows ↔ ((r < m) × (S (Row r) ≡ true))
  pub columns_are : (c : ℕ) → IsIn c columns ↔ ((c < n) × (S (Column c) ≡ true))

-- the connectors of a separation, with one more line
abbrev pub seed_of : Three → Line → Seed
seed_of three line = record { form = three.form; pair = record { first = three.first; second = three.second }; line = line }
