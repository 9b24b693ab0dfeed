-- The writes of a shelf that were begun, and the bytes that each has taken.
use Rattle.std.specs.Prelude.{◌++◌, ℕ, List, [], ◌∷◌, take, Result, Ok, Err}
use Rattle.cmr_io.specs.Reads.{with_more}

-- the names of all writes, in the order in which they were begun, including writes that failed to begin; and the bytes that each
-- write has taken, in the same order
pub record Log : Type 0 where
  pub names : List (List ℕ)
  pub texts : List (List ℕ)

abbrev pub no_log : Log
no_log = record { names = []; texts = [] }

-- the log with one more write, of this name and these bytes
abbrev pub log_with : Log → List ℕ → List ℕ → Log
log_with log name bytes = record { names = log.names ++ name ∷ []; texts = log.texts ++ bytes ∷ [] }

-- the log with more bytes of the last write
abbrev pub log_more : Log → List ℕ → Log
log_more log bytes = record { names = log.names; texts = with_more log.texts bytes }

-- the log after a call that was to take bytes from the start of the piece
abbrev pub after_put : {E : Type 0} → Log → List ℕ → Result ℕ E → Log
after_put log piece (Ok count) = log_more log (take count piece)
after_put log piece (Err e) = log
