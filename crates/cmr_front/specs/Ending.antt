-- The devices when a run ends.
use Rattle.std.specs.Prelude.{◌≡◌, ◌≢◌, ◌≤◌, ◌++◌, ℕ, Bool, IsTrue, List, length, take, Option, Some, IsSomeAnd, slice_get, codes, Result, Ok, Err}
use Rattle.std.specs.List.{AllByRecursion}
use Rattle.cmr_io.specs.Causes.{Rose}
use Rattle.cmr_io.specs.Log.{Log, log_with}
use Rattle.cmr_io.specs.Reads.{Reads}
use Rattle.cmr_io.specs.Whole.{AppendsPrefix, StaysOrHoldsPrefix}
use Rattle.cmr_io.specs.declared.device.Shelf as shelves
use Rattle.cmr_io.specs.declared.device.Sink as sinks
use Rattle.cmr_front.specs.Report.{Held, File, Report, after_files, with_files}
use Rattle.cmr_front.specs.declared.outcome.Outcome.{Outcome}
use Rattle.cmr_front.specs.declared.outcome.Stop.{Stop}
use Rattle.cmr_front.specs.declared.status.Failure.TheVariants.{Device}
use Rattle.cmr_front.specs.Outcome.{cannot_write_line, outcome_report, stop_report}
use Rattle.cmr_front.specs.Status.{failure_status}
use Rattle.cmr_front.specs.SinkLines.{IsWritten}

-- The state of the devices: the contents of the names, the results of all reads of the shelf, the writes that were begun with the
-- bytes that each has taken, and whether the last call of the shelf failed; the bytes that standard output and standard error have
-- got, and the bytes that they have taken; and the number of failed calls of each device.
pub record Devices : Type 0 where
  pub held : Held
  pub reads : Reads
  pub writes : Log
  pub failed : Bool
  pub shelf_faults : ℕ
  pub output : List ℕ
  pub output_taken : List ℕ
  pub output_faults : ℕ
  pub error : List ℕ
  pub error_taken : List ℕ
  pub error_faults : ℕ

-- of a shelf, standard output and standard error
abbrev pub devices : {S O E : Type 0} → shelves.Ghosts S → sinks.Ghosts O → sinks.Ghosts E → S → O → E → Devices
devices s o e shelf out err = record {
  held = s.content shelf;
  reads = s.reads shelf;
  writes = s.writes shelf;
  failed = s.failed shelf;
  shelf_faults = s.faults shelf;
  output = o.got out;
  output_taken = o.taken out;
  output_faults = o.faults out;
  error = e.got err;
  error_taken = e.taken err;
  error_faults = e.faults err;
}

-- Which devices tell their bytes, which are calm, and their rooms.
pub record Standing : Type 0 where
  pub shelf_tells : Bool
  pub output_tells : Bool
  pub error_tells : Bool
  pub shelf_is_calm : Bool
  pub shelf_room : List ℕ → Option ℕ
  pub output_is_calm : Bool
  pub output_room : ℕ

-- of a shelf, standard output and standard error
abbrev pub standing : {S O E : Type 0} → shelves.Ghosts S → sinks.Ghosts O → sinks.Ghosts E → S → O → E → Standing
standing s o e shelf out err = record {
  shelf_tells = s.tells shelf;
  output_tells = o.tells out;
  error_tells = e.tells err;
  shelf_is_calm = s.is_calm shelf;
  shelf_room = s.room shelf;
  output_is_calm = o.is_calm out;
  output_room = o.room out;
}

-- which devices tell their bytes
pub record Telling : Type 0 where
  pub shelf : Bool
  pub output : Bool
  pub error : Bool

abbrev pub telling : Bool → Bool → Bool → Telling
telling shelf output error = record { shelf = shelf; output = output; error = error }

abbrev pub telling_of : Standing → Telling
telling_of standing = telling standing.shelf_tells standing.output_tells standing.error_tells

-- each file fits into the room of its name
abbrev pub HasRooms : (List ℕ → Option ℕ) → List File → Type 0
HasRooms room files = AllByRecursion (λ file. IsSomeAnd (room file.name) (λ most. length file.bytes ≤ most)) files

-- the devices are calm and have room for the files and for standard output
pub record IsReadyFor (report : Report) (devices : Standing) : Type 0 where
  pub shelf : IsTrue devices.shelf_is_calm
  pub output : IsTrue devices.output_is_calm
  pub rooms : HasRooms devices.shelf_room report.files
  pub room : length report.output ≤ devices.output_room

-- All files of the report and all of its standard output were written, and its line to standard error. Even if the devices do not
-- tell their bytes, the writes of its files were begun, in order, each once and whole, and no others, and the sinks have taken its
-- output and its line.
pub record IsDelivered (report : Report) (tells : Telling) (before after : Devices) : Type 0 where
  pub files : IsTrue tells.shelf → (name : List ℕ) → after.held name ≡ with_files before.held report.files name
  pub writes : after.writes ≡ after_files before.writes report.files
  pub output : IsTrue tells.output → after.output ≡ before.output ++ report.output
  pub output_taken : after.output_taken ≡ before.output_taken ++ report.output
  pub error : IsTrue tells.error → IsWritten before.error after.error before.error_faults after.error_faults report.error
  pub error_taken : IsWritten before.error_taken after.error_taken before.error_faults after.error_faults report.error

-- The file at a place could not be written. The files before it are whole. It is unchanged or holds a prefix of its bytes.
pub record IsLeftAt (files : List File) (place : ℕ) (file : File) (before after : Held) : Type 0 where
  pub others : (name : List ℕ) → name ≢ file.name → after name ≡ with_files before (take place files) name
  pub here : StaysOrHoldsPrefix (with_files before (take place files) file.name) (after file.name) file.bytes

-- the write of the file at a place was begun last, after the writes of the files before it, and has taken a prefix of its bytes
abbrev pub IsBegunLast : List File → ℕ → File → Log → Log → Type 0
IsBegunLast files place file before after = (count : ℕ) × (after ≡ log_with (after_files before (take place files)) file.name (take count file.bytes))

-- A file could not be written, and standard output got nothing. The write of this file was begun last, and the last call of the
-- shelf failed.
pub record IsUnwritten (report : Report) (tells : Telling) (before after : Devices) : Type 0 where
  pub place : ℕ
  pub file : File
  pub there : slice_get report.files place ≡ Some file
  pub left : IsTrue tells.shelf → IsLeftAt report.files place file before.held after.held
  pub writes : IsBegunLast report.files place file before.writes after.writes
  pub failed : IsTrue after.failed
  pub output : IsTrue tells.output → after.output ≡ before.output
  pub output_taken : after.output_taken ≡ before.output_taken
  pub error : IsTrue tells.error → IsWritten before.error after.error before.error_faults after.error_faults (cannot_write_line file.name)
  pub error_taken : IsWritten before.error_taken after.error_taken before.error_faults after.error_faults (cannot_write_line file.name)
  pub cause : Rose before.shelf_faults after.shelf_faults

-- Standard output failed. All files are whole, and a prefix of the output was written.
pub record IsCutShort (report : Report) (tells : Telling) (before after : Devices) : Type 0 where
  pub files : IsTrue tells.shelf → (name : List ℕ) → after.held name ≡ with_files before.held report.files name
  pub writes : after.writes ≡ after_files before.writes report.files
  pub output : IsTrue tells.output → AppendsPrefix before.output after.output report.output
  pub output_taken : AppendsPrefix before.output_taken after.output_taken report.output
  pub error : IsTrue tells.error → IsWritten before.error after.error before.error_faults after.error_faults (cannot_write_line (codes "-"))
  pub error_taken : IsWritten before.error_taken after.error_taken before.error_faults after.error_faults (cannot_write_line (codes "-"))
  pub cause : Rose before.output_faults after.output_faults

-- How a report is carried out: completely, or up to the call of a device that fails.
pub data IsCarriedOut (report : Report) (tells : Telling) (before after : Devices) (status : ℕ) : Type 0 where
  delivered : status ≡ report.status → IsDelivered report tells before after → IsCarriedOut report tells before after status
  unwritten : status ≡ failure_status Device → IsUnwritten report tells before after → IsCarriedOut report tells before after status
  cut_short : status ≡ failure_status Device → IsCutShort report tells before after → IsCarriedOut report tells before after status

-- what was decided is carried out: the report of an outcome, or the status and the line of a stop
abbrev pub CarriesOut : Result Outcome Stop → Telling → Devices → Devices → ℕ → Type 0
CarriesOut (Ok outcome) tells before after status = IsCarriedOut (outcome_report outcome) tells before after status
CarriesOut (Err stop) tells before after status = (status ≡ (stop_report stop).status) × IsDelivered (stop_report stop) tells before after
