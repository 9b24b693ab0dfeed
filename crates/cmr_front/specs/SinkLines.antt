-- The part of a line that a sink got.
use Rattle.std.specs.Prelude.{◌≡◌, ◌⊎◌, ◌++◌, ℕ, IsTrue, List}
use Rattle.cmr_io.specs.Causes.{Rose}
use Rattle.cmr_io.specs.Whole.{AppendsPrefix}
use Rattle.cmr_io.specs.declared.device.Sink as sinks

-- the whole line was written, or a prefix of it if a write failed
abbrev pub IsWritten : List ℕ → List ℕ → ℕ → ℕ → List ℕ → Type 0
IsWritten old new before now line = (new ≡ old ++ line) ⊎ (Rose before now × AppendsPrefix old new line)

-- this holds for the bytes that a telling sink got, and for the bytes that every sink has taken
pub record GetsLine {S : Type 0} (sink : sinks.Ghosts S) (old new : S) (line : List ℕ) : Type 0 where
  pub got : IsTrue (sink.tells old) → IsWritten (sink.got old) (sink.got new) (sink.faults old) (sink.faults new) line
  pub taken : IsWritten (sink.taken old) (sink.taken new) (sink.faults old) (sink.faults new) line
