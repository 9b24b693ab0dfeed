-- The state of a sink over a writer in contracts.
use Rattle.std.specs.Prelude.{ℕ, List, Option}

-- the bytes of the writer, if they are known; the bytes that the sink has handed to the writer; and the number of failed calls
pub record WriterSink : Type 0 where
  pub contents : Option (List ℕ)
  pub taken : List ℕ
  pub faults : ℕ
