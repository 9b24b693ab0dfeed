-- The values of the words of matrix texts.
use Rattle.std.specs.Prelude.{◌==◌, if◌then◌else◌, ℕ, zero, suc, ℤ, pos, negsuc, Bool, List, Result, Ok, Err}
use Rattle.text_fields.specs.Limits as limits
use Rattle.text_fields.specs.Result.{◌>>=◌, renamed}
use Rattle.text_fields.specs.Numbers.{count_in, signed_in}
use Rattle.matrix_text.specs.declared.error.TextKind.{TextKind}
use Rattle.matrix_text.specs.declared.error.TextKind.TheVariants.{BadEntry, NotBinary, ColumnOutOfRange, TwiceNamed, OtherSize}
use Rattle.matrix_text.specs.TextKinds.{text_kind, limit_kind}

-- a count
abbrev pub count : List ℕ → Result ℕ TextKind
count word = renamed text_kind (count_in word)

-- a count of at most `most`
abbrev pub limited : ℕ → TextKind → List ℕ → Result ℕ TextKind
limited most beyond word = renamed (limit_kind beyond) (limits.limited most word)

-- a count that is the matrix's size
abbrev pub own_size : ℕ → List ℕ → Result ℕ TextKind
own_size size word = do
  n ← count word
  if n == size then Ok n else Err OtherSize

-- the number of a line, from 1 to `most`
abbrev pub line_in : ℕ → TextKind → List ℕ → Result ℕ TextKind
line_in most outside word = renamed (limit_kind outside) (limits.line_in most word)

-- a line's number above the previous number
abbrev pub increasing_line_in : ℕ → TextKind → ℕ → List ℕ → Result ℕ TextKind
increasing_line_in most outside before word = renamed (limit_kind outside) (limits.increasing_line_in most before word)

-- the number of a column that is not taken
abbrev pub free_column_in : ℕ → (ℕ → Bool) → List ℕ → Result ℕ TextKind
free_column_in most is_taken word = do
  n ← line_in most ColumnOutOfRange word
  if is_taken n then Err TwiceNamed else Ok n

-- -1, 0 and 1 are allowed, and in a 0/1 matrix not -1
abbrev pub allowed : Bool → ℤ → Result ℤ TextKind
allowed binary (pos zero) = Ok (pos 0)
allowed binary (pos (suc zero)) = Ok (pos 1)
allowed binary (pos (suc (suc n))) = Err BadEntry
allowed binary (negsuc zero) = if binary then Err NotBinary else Ok (negsuc 0)
allowed binary (negsuc (suc n)) = Err BadEntry

-- an entry of a matrix
abbrev pub entry_in : Bool → List ℕ → Result ℤ TextKind
entry_in binary word = do
  z ← renamed text_kind (signed_in word)
  allowed binary z
