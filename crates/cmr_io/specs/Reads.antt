-- The reads of a shelf that were begun, and the bytes that they have given.
use Rattle.std.specs.Prelude.{◌+◌, ◌==◌, ◌&&◌, ◌++◌, ℕ, nat_lt, List, [], ◌∷◌, length, take, Result, Ok, Err, if◌then◌else◌}
use Rattle.cmr_io.specs.Calls.{next_number, up_to_last}

-- the names of all reads, in the order in which they were begun, including reads that failed to begin; the bytes that each read has
-- given, in the same order; the number of bytes that all have given; and the number of reads that have reached their ends
pub record Reads : Type 0 where
  pub names : List (List ℕ)
  pub texts : List (List ℕ)
  pub bytes : ℕ
  pub ends : ℕ

abbrev pub no_reads : Reads
no_reads = record { names = []; texts = []; bytes = 0; ends = 0 }

-- more bytes at the end of the last text
abbrev pub with_more : List (List ℕ) → List ℕ → List (List ℕ)
with_more [] bytes = []
with_more (text ∷ []) bytes = (text ++ bytes) ∷ []
with_more (text ∷ other ∷ texts) bytes = text ∷ with_more (other ∷ texts) bytes

-- the reads after a read of a name was begun or failed to begin: it has given nothing
abbrev pub after_begun : Reads → List ℕ → Reads
after_begun reads name = record { names = reads.names ++ name ∷ []; texts = reads.texts ++ [] ∷ []; bytes = reads.bytes; ends = reads.ends }

-- the reads after `count` bytes were given as a prefix of `into`; if `into` has room, 0 bytes are the end
abbrev pub after_piece : Reads → List ℕ → ℕ → Reads
after_piece reads into count = record {
  names = reads.names;
  texts = with_more reads.texts (take count into);
  bytes = up_to_last (reads.bytes + count);
  ends = if nat_lt 0 (length into) && (count == 0) then next_number reads.ends else reads.ends;
}

-- the reads after a call that was to give a prefix of `into`
abbrev pub after_next : {E : Type 0} → Reads → List ℕ → Result ℕ E → Reads
after_next reads into (Ok count) = after_piece reads into count
after_next reads into (Err e) = reads

-- the reads after a whole read: its bytes, and its end
abbrev pub after_whole : Reads → List ℕ → Reads
after_whole reads bytes = record {
  names = reads.names;
  texts = with_more reads.texts bytes;
  bytes = up_to_last (reads.bytes + length bytes);
  ends = next_number reads.ends;
}
