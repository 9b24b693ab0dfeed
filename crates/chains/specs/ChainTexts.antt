-- Chain texts: a version, the matrix's sizes, the number of steps, the steps, and a violator.
use Rattle.std.specs.Prelude.{◌<◌, ◌-◌, ◌*◌, ◌++◌, if◌then◌else◌, ℕ, List, [], ◌∷◌, length, map, codes, bytes_eq, Result, Ok, Err}
use Rattle.std.specs.Fmt.{decimal}
use Rattle.std.specs.List.Sorted.{IsStrictlyIncreasing}
use Rattle.cmr_base.specs.LineSets.{AllBelow}
use Rattle.cmr_base.specs.declared.line_set.LineSet.{LineSet}
use Rattle.text_fields.specs.TextWords.{Text}
use Rattle.text_fields.specs.Result.{◌>>=◌, renamed}
use Rattle.cmr_base.specs.declared.limits.TheConstants.{MAX_COLUMNS, MAX_ROWS}
use Rattle.text_fields.specs.Limits as limits
pub use Rattle.text_fields.specs.LineNumbers.{last_number, number_of_line, set_words as line_set_words}
use Rattle.text_fields.specs.Reading.{Fault, field, times, ended}
use Rattle.text_fields.specs.Written.{text_of_lines}
use Rattle.chains.specs.declared.chain_error.ChainKind.{ChainKind}
use Rattle.chains.specs.declared.chain_error.ChainKind.TheVariants.{Short, Extra, UnknownStep, WrongVersion}
use Rattle.chains.specs.declared.chain_text.StepName.{StepName}
use Rattle.chains.specs.declared.chain_text.StepName.TheVariants as names
use Rattle.chains.specs.declared.step.SignStep.{SignStep}
use Rattle.chains.specs.declared.step.SignStep.TheVariants.{Free, Forced}
use Rattle.chains.specs.declared.step.SizedChain.{SizedChain}
use Rattle.chains.specs.ChainKinds.{chain_kind}

-- a count up to a limit
abbrev pub limited : ℕ → List ℕ → Result ℕ ChainKind
limited most word = renamed chain_kind (limits.limited most word)

-- the number of a line, from 1 to a limit
abbrev pub line_in : ℕ → List ℕ → Result ℕ ChainKind
line_in most word = renamed chain_kind (limits.line_in most word)

-- a line's number above the one before it
abbrev pub increasing_line_in : ℕ → ℕ → List ℕ → Result ℕ ChainKind
increasing_line_in most before word = renamed chain_kind (limits.increasing_line_in most before word)

-- a given word
abbrev pub word_in : List ℕ → ChainKind → List ℕ → Result (Unit {0}) ChainKind
word_in expected other word = limits.word_in other expected word

-- the word of a step
abbrev pub step_name_in : List ℕ → Result StepName ChainKind
step_name_in word = if bytes_eq word (codes "free") then Ok names.Free else (if bytes_eq word (codes "forced") then Ok names.Forced else Err UnknownStep)

-- another line, above the line before it
abbrev pub another_line : ℕ → List ℕ → Text → Result (List ℕ × Text) (Fault ChainKind)
another_line most lines text = do
  number ← field Short (increasing_line_in most (last_number lines)) text
  Ok (lines ++ (number.0 - 1) ∷ [], number.1)

abbrev pub increasing_lines : ℕ → ℕ → Text → Result (List ℕ × Text) (Fault ChainKind)
increasing_lines most n text = times (another_line most) n [] text

-- two counts, then the rows and the columns
abbrev pub line_set : ℕ → ℕ → Text → Result (LineSet × Text) (Fault ChainKind)
line_set height width text = do
  row_count ← field Short (limited height) text
  column_count ← field Short (limited width) row_count.1
  rows ← increasing_lines height row_count.0 column_count.1
  columns ← increasing_lines width column_count.0 rows.1
  Ok (record { rows = rows.0; columns = columns.0 }, columns.1)

-- the rest of a step after its name, row and column
abbrev pub step_of : ℕ → ℕ → StepName → ℕ → ℕ → Text → Result (SignStep × Text) (Fault ChainKind)
step_of height width names.Free row column text = Ok (Free row column, text)
step_of height width names.Forced row column text = do
  cycle ← line_set height width text
  Ok (Forced row column cycle.0, cycle.1)

-- a step
abbrev pub next_step : ℕ → ℕ → Text → Result (SignStep × Text) (Fault ChainKind)
next_step height width text = do
  name ← field Short step_name_in text
  row ← field Short (line_in height) name.1
  column ← field Short (line_in width) row.1
  step_of height width name.0 (row.0 - 1) (column.0 - 1) column.1

-- another step
abbrev pub another_step : ℕ → ℕ → List SignStep → Text → Result (List SignStep × Text) (Fault ChainKind)
another_step height width steps text = do
  step ← next_step height width text
  Ok (steps ++ step.0 ∷ [], step.1)

-- reading: the chain that a text represents, or its first fault
abbrev pub chain : Text → Result SizedChain (Fault ChainKind)
chain text = do
  form ← field Short (word_in (codes "cmr-chain") WrongVersion) text
  version ← field Short (word_in (codes "1") WrongVersion) form.1
  height ← field Short (limited MAX_ROWS) version.1
  width ← field Short (limited MAX_COLUMNS) height.1
  count ← field Short (limited (height.0 * width.0)) width.1
  steps ← times (another_step height.0 width.0) count.0 [] count.1
  name ← field Short (word_in (codes "violator") UnknownStep) steps.1
  violator ← line_set height.0 width.0 name.1
  ended Extra (record { chain = record { steps = steps.0; violator = violator.0 }; rows = height.0; columns = width.0 }) violator.1

-- ---- canonical texts

abbrev pub step_words : SignStep → List (List ℕ)
step_words (Free row column) = codes "free" ∷ number_of_line row ∷ number_of_line column ∷ []
step_words (Forced row column cycle) = codes "forced" ∷ number_of_line row ∷ number_of_line column ∷ line_set_words cycle

-- the version, the sizes with the count, a line for each step, and a line for the violator
abbrev pub chain_lines : SizedChain → List (List (List ℕ))
chain_lines sized =
    (codes "cmr-chain" ∷ codes "1" ∷ [])
    ∷ (decimal sized.rows ∷ decimal sized.columns ∷ decimal (length sized.chain.steps) ∷ [])
    ∷ (map step_words sized.chain.steps ++ (codes "violator" ∷ line_set_words sized.chain.violator) ∷ [])

abbrev pub chain_text : SizedChain → List ℕ
chain_text sized = text_of_lines (chain_lines sized)

-- ---- chains that can be written for a matrix of these sizes

abbrev pub AreLinesIn : ℕ → ℕ → LineSet → Type 0
AreLinesIn height width lines = AllBelow height lines.rows × AllBelow width lines.columns

abbrev pub IsStepIn : ℕ → ℕ → SignStep → Type 0
IsStepIn height width (Free row column) = (row < height) × (column < width)
IsStepIn height width (Forced row column cycle) = (row < height) × (column < width) × AreLinesIn height width cycle

-- a property of every set of lines
abbrev pub AreIncreasing : LineSet → Type 0
AreIncreasing lines = IsStrictlyIncreasing lines.rows × IsStrictlyIncreasing lines.columns

abbrev pub IsIncreasingStep : SignStep → Type 0
IsIncreasingStep (Free row column) = Unit {0}
IsIncreasingStep (Forced row column cycle) = AreIncreasing cycle
