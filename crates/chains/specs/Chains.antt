-- Chains: steps that sign ones of a 0/1 matrix without a choice except the signs of whole lines, and a violator of these signs.
use Rattle.std.specs.Prelude.{◌≡◌, ◌≢◌, ◌≤◌, ◌+◌, ◌⊎◌, ℕ, ℤ, pos, List, [], ◌∷◌, take, drop, length}
use Rattle.cmr_base.specs.Matrix.{Matrix, height, entry, with_entry, IsTernary}
use Rattle.cmr_base.specs.Members.{IsIn}
use Rattle.cmr_base.specs.LineSets.{IsRowSet, IsColumnSet, submatrix_sum}
use Rattle.cmr_base.specs.Signing.{IsSign, IsTotallyUnimodular}
use Rattle.cmr_base.specs.Sums.{sum_over}
use Rattle.cmr_base.specs.Supports.{HaveOneSupport}
use Rattle.cmr_base.specs.Violator.{IsViolator}
use Rattle.cmr_base.specs.declared.line.Line.{Line}
use Rattle.cmr_base.specs.declared.line.Line.TheVariants.{Row, Column}
use Rattle.cmr_base.specs.declared.line_set.LineSet.{LineSet}
use Rattle.chains.specs.declared.step.SignStep.{SignStep}
use Rattle.chains.specs.declared.step.SignStep.TheVariants.{Free, Forced}
use Rattle.chains.specs.declared.step.SizedChain.{SizedChain}
use Rattle.chains.specs.SignSteps.{IsZeroModFour, IsUnsignedOne, unsigned, LeadTo}

-- a row and a column with a nonzero at their crossing
abbrev pub AreJoined : Matrix → Line → Line → Type 0
AreJoined s (Row row) (Row other) = ⊥
AreJoined s (Row row) (Column column) = entry s row column ≢ pos 0
AreJoined s (Column column) (Row row) = entry s row column ≢ pos 0
AreJoined s (Column column) (Column other) = ⊥

-- from a line through a list of lines to a line, each joined to the next
abbrev pub JoinsTo : Matrix → Line → List Line → Line → Type 0
JoinsTo s from [] to = from ≡ to
JoinsTo s from (line ∷ lines) to = AreJoined s from line × JoinsTo s line lines to

abbrev pub AreLinked : Matrix → Line → Line → Type 0
AreLinked s from to = (lines : List Line) × JoinsTo s from lines to

-- a free step: signed entries do not link the one's row and column
pub record IsFreeStep (a s : Matrix) (row column : ℕ) : Type 0 where
  pub here : IsUnsignedOne a s row column
  pub apart : ¬ (AreLinked s (Row row) (Column column))

-- in a 0/1 matrix: each of these lines has exactly two ones in their submatrix
pub record HasTwoEach (a : Matrix) (rows columns : List ℕ) : Type 0 where
  pub row_twos : (row : ℕ) → IsIn row rows → sum_over columns (λ column. entry a row column) ≡ pos 2
  pub column_twos : (column : ℕ) → IsIn column columns → sum_over rows (λ row. entry a row column) ≡ pos 2

-- a forced step: the one is in lines with two ones each; all other ones there are signed, and its sign makes the sum there
-- divisible by 4
pub record IsForcedStep (a s : Matrix) (row column : ℕ) (cycle : LineSet) (sign : ℤ) : Type 0 where
  pub here : IsUnsignedOne a s row column
  pub row_set : IsRowSet a cycle.rows
  pub column_set : IsColumnSet a cycle.columns
  pub row_in : IsIn row cycle.rows
  pub column_in : IsIn column cycle.columns
  pub two_each : HasTwoEach a cycle.rows cycle.columns
  pub others : (i j : ℕ) → IsIn i cycle.rows → IsIn j cycle.columns → entry a i j ≢ pos 0 → (i ≢ row) ⊎ (j ≢ column) → entry s i j ≢ pos 0
  pub is_sign : IsSign sign
  pub four : IsZeroModFour (submatrix_sum (with_entry s row column sign) cycle.rows cycle.columns)

-- the rule of a step, and the sign that it gives
abbrev pub KeepsRule : Matrix → Matrix → SignStep → ℤ → Type 0
KeepsRule a s (Free row column) sign = IsFreeStep a s row column × (sign ≡ pos 1)
KeepsRule a s (Forced row column cycle) sign = IsForcedStep a s row column cycle sign

-- the violator's rule: all ones of its lines are signed, and the signs are a violator there
pub record IsSignedViolator (a s : Matrix) (lines : LineSet) : Type 0 where
  pub row_set : IsRowSet a lines.rows
  pub column_set : IsColumnSet a lines.columns
  pub all_signed : (i j : ℕ) → IsIn i lines.rows → IsIn j lines.columns → entry a i j ≢ pos 0 → entry s i j ≢ pos 0
  pub violator : IsViolator (entry s) lines.rows lines.columns

-- the chain's sizes are the sizes of the matrix
abbrev pub HasChainSizes : Matrix → SizedChain → Type 0
HasChainSizes a chain = (chain.rows ≡ height a) × (chain.columns ≡ a.width)

-- each part of the chain keeps its rule, and its steps give these signs
pub record IsSoundChain (a : Matrix) (chain : SizedChain) (signs : Matrix) : Type 0 where
  pub sizes : HasChainSizes a chain
  pub steps : LeadTo (KeepsRule a) (unsigned a) chain.chain.steps signs
  pub violator : IsSignedViolator a signs chain.chain.violator

-- the first of these steps breaks its rule, or the violator does if there are no steps
abbrev pub Breaks : Matrix → Matrix → List SignStep → LineSet → Type 0
Breaks a s [] lines = ¬ (IsSignedViolator a s lines)
Breaks a s (step ∷ steps) lines = (sign : ℤ) → ¬ (KeepsRule a s step sign)

-- this part, counted from 1, is the first that breaks its rule; the violator is the part after the last step. If the chain's
-- sizes are not the sizes of the matrix, it is the first part.
pub record IsFirstBrokenPart (a : Matrix) (chain : SizedChain) (part : ℕ) : Type 0 where
  pub before : ℕ
  pub part_is : part ≡ before + 1
  pub within : before ≤ length chain.chain.steps
  pub broken : ((¬ (HasChainSizes a chain)) × (before ≡ 0))
      ⊎ (HasChainSizes a chain × ((signs : Matrix) × LeadTo (KeepsRule a) (unsigned a) (take before chain.chain.steps) signs × Breaks a signs (drop before chain.chain.steps) chain.chain.violator))

-- some matrix with the same support and entries -1, 0 and 1 is totally unimodular
abbrev pub IsRegular : Matrix → Type 0
IsRegular a = (m : Matrix) × IsTernary m × HaveOneSupport a m × IsTotallyUnimodular m
