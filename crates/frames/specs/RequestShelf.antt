-- What the shelf of a request shows.
use Rattle.std.specs.Prelude.{ℕ, Bool, List}
use Rattle.cmr_io.specs.Log.{Log}
use Rattle.cmr_io.specs.Reads.{Reads}
use Rattle.frames.specs.RequestBegun.{begun_reading, begun_writing, left_of_begun, last_file}
use Rattle.frames.specs.NamedFiles.{NamedBytes, Names, all_laid}
use Rattle.frames.specs.Held.{given_names}
use Rattle.frames.specs.declared.request_shelf.RequestShelf.{RequestShelf}

-- what a name holds, once the written files are stored
abbrev pub request_content : RequestShelf → Names
request_content shelf = all_laid (given_names shelf.given.now) shelf.written.items

-- the files that were written
abbrev pub written_of : RequestShelf → List NamedBytes
written_of shelf = shelf.written.items

abbrev pub request_reads : RequestShelf → Reads
request_reads shelf = shelf.reads

abbrev pub request_writes : RequestShelf → Log
request_writes shelf = shelf.writes

abbrev pub request_reading : RequestShelf → Bool
request_reading shelf = begun_reading shelf.begun

abbrev pub request_left : RequestShelf → List ℕ
request_left shelf = left_of_begun shelf.written.items shelf.begun

abbrev pub request_writing : RequestShelf → Bool
request_writing shelf = begun_writing shelf.begun

abbrev pub request_target : RequestShelf → List ℕ
request_target shelf = (last_file shelf.written.items).name

abbrev pub request_got : RequestShelf → List ℕ
request_got shelf = (last_file shelf.written.items).bytes

-- an allocation has failed in some call
abbrev pub is_short_of : RequestShelf → Bool
is_short_of shelf = shelf.short

abbrev pub failed_of : RequestShelf → Bool
failed_of shelf = shelf.failed

abbrev pub faults_of : RequestShelf → ℕ
faults_of shelf = shelf.faults
