-- Writes of the files of a shelf in memory.
use Rattle.std.specs.Prelude.{◌≡◌, ◌≢◌, ◌<◌, ℕ, true, List, Some, length}
use Rattle.cmr_io.specs.declared.memory_file.File.{File}
use Rattle.cmr_io.specs.Files.{content_in, room_in, name_at, bytes_at, is_writable_at}

-- the file at an index, which is written, has these bytes, and all other files are unchanged
pub record Writes (old new : List File) (file : ℕ) (bytes : List ℕ) : Type 0 where
  pub bytes_are : bytes_at new file ≡ bytes
  pub held : content_in new (name_at new file) ≡ Some bytes
  pub others : (other : List ℕ) → other ≢ name_at new file → content_in new other ≡ content_in old other
  pub rooms : (other : List ℕ) → room_in new other ≡ room_in old other
  pub writable : is_writable_at new file ≡ true
  pub in_range : file < length new
