use Rattle.std.proofs.Common.{◌≡◌, ◌≢◌, ◌-◌, ◌≤◌, ℕ, List, IsTrue, Some, true, false, length, take}
use Rattle.cmr_io.specs.Log.{log_with}
use Rattle.cmr_io.specs.Kept.{KeepsStanding}
use Rattle.cmr_io.proofs.whole.write_file.Given as goal

abbrev pub invariant-rest : goal.invariant-rest
invariant-rest g l =
    let S = g.S.Shelf in
    record {
      within : l.done ≤ length l.bytes;
      writing : S.is_writing l.shelf ≡ true;
      reading : S.is_reading l.shelf ≡ false;
      target : IsTrue (S.tells l.fn.shelf) → S.target l.shelf ≡ l.name;
      got : IsTrue (S.tells l.fn.shelf) → S.got l.shelf ≡ take l.done l.bytes;
      holds : IsTrue (S.tells l.fn.shelf) → S.content l.shelf l.name ≡ Some (take l.done l.bytes);
      others : IsTrue (S.tells l.fn.shelf) → (n : List ℕ) → n ≢ l.name → S.content l.shelf n ≡ S.content l.fn.shelf n;
      reads : S.reads l.shelf ≡ S.reads l.fn.shelf;
      writes : S.writes l.shelf ≡ log_with (S.writes l.fn.shelf) l.name (take l.done l.bytes);
      failed : S.failed l.shelf ≡ false;
      standing : KeepsStanding S.tells S.is_calm S.room l.fn.shelf l.shelf;
      later : S.faults l.fn.shelf ≤ S.faults l.shelf;
    }

abbrev pub decreases-rest : goal.decreases-rest
decreases-rest g l = length l.bytes - l.done
