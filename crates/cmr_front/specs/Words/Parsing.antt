-- How the command of a tool parses its arguments, and the values of the arguments that tools share.
use Rattle.std.specs.Prelude.{ℕ, pos, ◌-◌, Bool, false, List, [], ◌∷◌, length, take, slice_get, Option, Some, None, if◌then◌else◌, codes, unwrap_or}
use Rattle.std.specs.List.{list_any}
use Rattle.std.specs.Option.{option_map_or}
use Rattle.std.specs.Str.{bytes_eq}
use Rattle.std.specs.Str.Parse.{digits_value, without_leading_sign}
use Rattle.clap.specs.Words.{App, Kinds, Row, Text, fault_of, first_of, matches_of}
use Rattle.clap.specs.ValueTests.{is_signed_in}
use Rattle.cmr_front.specs.declared.matrix_file.MatrixForm.{MatrixForm}
use Rattle.cmr_front.specs.declared.matrix_file.MatrixForm.TheVariants.{Dense, Sparse}
use Rattle.cmr_front.specs.Words.ReadWords.{◌>>=◌}
use Rattle.cmr_base.specs.declared.limits.TheConstants.{MAX_LINES}

abbrev pub is_dash : Text → Bool
is_dash word = bytes_eq word (codes "-")

abbrev pub ends_in_dash : List Text → Bool
ends_in_dash words = option_map_or is_dash (slice_get words (length words - 1)) false

-- the matches if there is no fault
abbrev pub faultless : Kinds → List Row → Option (List Row)
faultless [] rows = Some rows
faultless (fault ∷ faults) rows = None

-- the matches of the arguments; nothing if an argument is `-` or the command refuses them
abbrev pub matches_in : App → List Text → Option (List Row)
matches_in app words =
    if list_any is_dash words then None else faultless (fault_of app words) (matches_of app words)

-- the matches if FILE is not given
abbrev pub without_file : List Row → Option (List Row)
without_file rows = option_map_or (λ file. None) (first_of (codes "file") rows) (Some rows)

-- the same for a command whose last argument is [FILE]: a last argument `-` is removed, and FILE is
-- then not allowed
abbrev pub matches_with_input : App → List Text → Option (List Row)
matches_with_input app words = if ends_in_dash words
    then matches_in app (take (length words - 1) words) >>= without_file
    else matches_in app words

abbrev pub form_named : Text → Option MatrixForm
form_named name = if bytes_eq name (codes "dense") then Some Dense
    else if bytes_eq name (codes "sparse") then Some Sparse else None

-- FORMAT (default dense)
abbrev pub form_in : List Row → Option MatrixForm
form_in rows = option_map_or form_named (first_of (codes "format") rows) (Some Dense)

-- whether a flag is given: `clap` gives it the value "true", and "false" otherwise
abbrev pub has_flag : Text → List Row → Bool
has_flag id rows = option_map_or (λ value. bytes_eq value (codes "true")) (first_of id rows) false

-- a number from `least` to `most`, as clap's parsers of numbers with a range accept it
abbrev pub number_from : (least most : ℕ) → Text → Option ℕ
number_from least most text = if is_signed_in (pos least) (pos most) text
    then Some (digits_value 10 (without_leading_sign text)) else None

-- L is 0 to 24 (default 14)
abbrev pub lines_in : List Row → Option ℕ
lines_in rows = option_map_or (number_from 0 MAX_LINES) (first_of (codes "lines") rows) (Some 14)

-- K is 0 to 100 (default 0)
abbrev pub pivots_in : List Row → Option ℕ
pivots_in rows = option_map_or (number_from 0 100) (first_of (codes "pivots") rows) (Some 0)

-- N is 1 to 64 (default 1)
abbrev pub workers_in : List Row → Option ℕ
workers_in rows = option_map_or (number_from 1 64) (first_of (codes "workers") rows) (Some 1)

-- the file of `-E`
abbrev pub fault_in : List Row → Option Text
fault_in rows = first_of (codes "fault") rows

-- FILE (default standard input)
abbrev pub file_in : List Row → Text
file_in rows = unwrap_or (first_of (codes "file") rows) (codes "-")
