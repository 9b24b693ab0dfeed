-- What a line shows: the shelf that it reads, the sink that it writes, and the order of their calls.
use Rattle.std.specs.Prelude.{ℕ, Bool, List}
use Rattle.cmr_io.specs.Log.{Log}
use Rattle.cmr_io.specs.Reads.{Reads}
use Rattle.cmr_io.specs.declared.device.Shelf as shelves
use Rattle.cmr_io.specs.declared.device.Sink as sinks
use Rattle.serving.specs.declared.line.Line.{Line}
use Rattle.serving.specs.Moments.{Moment}

-- the state of the shelf and the sink; all bytes that the line has heard and said, and before each call that reads, what it had heard and said
pub record Seen : Type 0 where
  pub tells : Bool
  pub reading : Bool
  pub left : List ℕ
  pub reads : Reads
  pub writes : Log
  pub failed : Bool
  pub taken : List ℕ
  pub faults : ℕ
  pub heard : List ℕ
  pub said : List ℕ
  pub moments : List Moment

abbrev pub seen_of : {S O : Type 0} → shelves.Ghosts S → sinks.Ghosts O → Line S O → Seen
seen_of s o line = record {
  tells = s.tells line.shelf;
  reading = s.is_reading line.shelf;
  left = s.left line.shelf;
  reads = s.reads line.shelf;
  writes = s.writes line.shelf;
  failed = s.failed line.shelf;
  taken = o.taken line.out;
  faults = o.faults line.out;
  heard = line.talk.heard;
  said = line.talk.said;
  moments = line.talk.moments;
}

-- what was heard and said until now
abbrev pub moment_of : Seen → Moment
moment_of seen = record { heard = seen.heard; said = seen.said }
