-- The state of a shelf of files in contracts.
use Rattle.std.specs.Prelude.{ℕ, Bool, false, List, Option, None}
use Rattle.cmr_io.specs.Log.{Log, no_log}
use Rattle.cmr_io.specs.Reads.{Reads, no_reads}

-- whether a read and whether a write is begun; the rest of the read, and the bytes of the written file, if the system makes them
-- known; the reads and the writes; whether the last call failed, and the number of failed calls
pub record FileShelf : Type 0 where
  pub reading : Bool
  pub writing : Bool
  pub left : Option (List ℕ)
  pub got : Option (List ℕ)
  pub reads : Reads
  pub writes : Log
  pub failed : Bool
  pub faults : ℕ

abbrev pub new_shelf : FileShelf
new_shelf = record { reading = false; writing = false; left = None; got = None; reads = no_reads; writes = no_log; failed = false; faults = 0 }
