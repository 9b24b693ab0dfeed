-- Laws of matrices without cycle fault.
use Rattle.std.specs.Prelude.{◌≡◌, ◌≢◌, ◌↔◌, ◌*ℤ◌, ℕ, pos, List}
use Rattle.cmr_base.specs.Matrix.{Matrix, entry, IsMatrix, IsTernary}
use Rattle.cmr_base.specs.Signing.{IsTotallyUnimodular}
use Rattle.cmr_base.specs.Supports.{HaveOneSupport}
use Rattle.cmr_base.specs.Violator.{HasNoViolator}
use Rattle.cmr_base.specs.CyclePlaces.{HasNoCycleFault}
use Rattle.cmr_base.specs.Trees.{IsBinary}
use Rattle.chains.specs.declared.step.SignStep.{SignStep}
use Rattle.camion_sign.specs.SignOrder.{IsSignedBy}
use Rattle.chains.specs.Chains.{IsRegular}

-- two rows and two columns in which all four entries are nonzeros
pub record IsFullSquare (m : Matrix) (i k c d : ℕ) : Type 0 where
  pub upper_left : entry m i c ≢ pos 0
  pub upper_right : entry m i d ≢ pos 0
  pub lower_left : entry m k c ≢ pos 0
  pub lower_right : entry m k d ≢ pos 0

-- without cycle fault the product of these four is 1
abbrev pub FullSquaresHaveProductOne : Type 0
FullSquaresHaveProductOne = (m : Matrix) → IsTernary m → HasNoCycleFault (entry m) → (i k c d : ℕ) → IsFullSquare m i k c d → (entry m i c *ℤ entry m i d) *ℤ (entry m k c *ℤ entry m k d) ≡ pos 1

-- if some matrix of its support is totally unimodular, a matrix is totally unimodular if and only if it has no cycle fault
abbrev pub CycleFaultsDecide : Type 0
CycleFaultsDecide = (m n : Matrix) → IsTernary m → IsTernary n → HaveOneSupport m n → IsTotallyUnimodular n → IsTotallyUnimodular m ↔ HasNoCycleFault (entry m)

-- the matrix is regular if and only if Camion's signing of it has no violator
abbrev pub SigningsDecideRegularity : Type 0
SigningsDecideRegularity = (a m : Matrix) (steps : List SignStep) → IsMatrix a → IsBinary a → IsTernary m → HaveOneSupport a m → IsSignedBy a steps m → IsRegular a ↔ HasNoViolator m
