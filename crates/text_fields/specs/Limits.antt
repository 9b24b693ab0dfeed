-- Words with one meaning, and numbers within limits. A form of text renames their faults.
use Rattle.std.specs.Prelude.{◌==◌, nat_le, nat_lt, if◌then◌else◌, ℕ, List, bytes_eq, Result, Ok, Err}
use Rattle.text_fields.specs.declared.error.LimitFault.{LimitFault}
use Rattle.text_fields.specs.declared.error.LimitFault.TheVariants.{Number, OutOfRange, NotRising}
use Rattle.text_fields.specs.Numbers.{count_in}
use Rattle.text_fields.specs.Result.{◌>>=◌, renamed}

-- exactly this word
abbrev pub word_in : {K : Type 0} → K → List ℕ → List ℕ → Result (Unit {0}) K
word_in other expected word = if bytes_eq word expected then Ok tt else Err other

-- a count of at most `most`
abbrev pub limited : ℕ → List ℕ → Result ℕ LimitFault
limited most word = do
  n ← renamed Number (count_in word)
  if nat_le n most then Ok n else Err OutOfRange

-- the number of a line, from 1 to `most`
abbrev pub line_in : ℕ → List ℕ → Result ℕ LimitFault
line_in most word = do
  n ← limited most word
  if n == 0 then Err OutOfRange else Ok n

-- a line's number above the previous number
abbrev pub increasing_line_in : ℕ → ℕ → List ℕ → Result ℕ LimitFault
increasing_line_in most before word = do
  n ← line_in most word
  if nat_lt before n then Ok n else Err NotRising
