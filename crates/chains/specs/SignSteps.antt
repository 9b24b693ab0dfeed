-- Steps that sign the ones of a 0/1 matrix one after another.
use Rattle.std.specs.Prelude.{◌≡◌, ◌≢◌, ℕ, ℤ, pos, ◌+ℤ◌, List, [], ◌∷◌, replicate}
use Rattle.cmr_base.specs.Matrix.{Matrix, height, entry, with_entry, IsTernary}
use Rattle.chains.specs.declared.step.SignStep.{SignStep}
use Rattle.chains.specs.declared.step.SignStep.TheVariants.{Free, Forced}

-- a multiple of four
abbrev pub IsZeroModFour : ℤ → Type 0
IsZeroModFour z = (k : ℤ) × (z ≡ (k +ℤ k) +ℤ (k +ℤ k))

-- the signs given so far are a matrix, which is 0 in each position without a sign
abbrev pub unsigned : Matrix → Matrix
unsigned m = record { rows = replicate (height m) (replicate m.width (pos 0)); width = m.width }

-- signs of a matrix: a matrix of its sizes, which is 0 in each position in which the matrix is 0
pub record AreSigns (a s : Matrix) : Type 0 where
  pub ternary : IsTernary s
  pub same_height : height s ≡ height a
  pub same_width : s.width ≡ a.width
  pub inside : (i j : ℕ) → entry a i j ≡ pos 0 → entry s i j ≡ pos 0

-- a one without sign
pub record IsUnsignedOne (a s : Matrix) (row column : ℕ) : Type 0 where
  pub one : entry a row column ≢ pos 0
  pub no_sign : entry s row column ≡ pos 0

-- all ones have signs
abbrev pub AllSigned : Matrix → Matrix → Type 0
AllSigned a s = (row column : ℕ) → entry a row column ≢ pos 0 → entry s row column ≢ pos 0

abbrev pub step_row : SignStep → ℕ
step_row (Free row column) = row
step_row (Forced row column cycle) = row

abbrev pub step_column : SignStep → ℕ
step_column (Free row column) = column
step_column (Forced row column cycle) = column

-- the signs after another step
abbrev pub signed_by : Matrix → SignStep → ℤ → Matrix
signed_by s step sign = with_entry s (step_row step) (step_column step) sign

-- the steps lead from one matrix of signs to another, and each keeps the rule for its sign
abbrev pub LeadTo : (Matrix → SignStep → ℤ → Type 0) → Matrix → List SignStep → Matrix → Type 0
LeadTo Rule s [] end = s ≡ end
LeadTo Rule s (step ∷ steps) end = (sign : ℤ) × Rule s step sign × LeadTo Rule (signed_by s step sign) steps end
