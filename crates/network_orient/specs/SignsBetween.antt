-- Signs of lines that turn one matrix into another with the same support.
use Rattle.std.specs.Prelude.{◌≡◌, ◌+◌, ℕ, length}
use Rattle.cmr_base.specs.Matrix.{Matrix, height, entry}
use Rattle.cmr_base.specs.ReversedNetworks.{IsMultiplied}
use Rattle.cmr_base.specs.Violator.{HasNoViolator}
use Rattle.network_orient.specs.declared.line_signs.LineSigns.{LineSigns}
use Rattle.network_orient.specs.declared.line_signs.SignsBetween.{SignsBetween}
use Rattle.network_orient.specs.declared.line_signs.SignsBetween.TheVariants.{Found, WrongRow}
use Rattle.network_orient.specs.FirstRows.{HasNoFaultBefore, IsFirstFaultyRow}
use Rattle.network_orient.specs.SignedGroups.{AgreeBefore}

-- A sign for each line of the first matrix; together the signs turn it into the second matrix. If the first matrix has no
-- violator, the second has no cycle fault.
pub record AreLineSigns (m n : Matrix) (signs : LineSigns) : Type 0 where
  pub row_each : length signs.rows.items ≡ height m
  pub column_each : length signs.columns.items ≡ m.width
  pub multiplied : IsMultiplied (entry m) (entry n) (height m) m.width signs.rows.items signs.columns.items
  pub passed : HasNoViolator m → HasNoFaultBefore n (height m)

-- No signs turn the rows up to this row into the rows of the second matrix. If the first matrix has no violator, this is the
-- first row of the second matrix with a cycle fault.
pub record IsWrongRow (m n : Matrix) (row : ℕ) : Type 0 where
  pub none : ¬ (AgreeBefore (entry m) (entry n) (row + 1))
  pub first : HasNoViolator m → IsFirstFaultyRow n row

abbrev pub AreSignsBetween : Matrix → Matrix → SignsBetween → Type 0
AreSignsBetween m n (Found signs) = AreLineSigns m n signs
AreSignsBetween m n (WrongRow row) = IsWrongRow m n row
