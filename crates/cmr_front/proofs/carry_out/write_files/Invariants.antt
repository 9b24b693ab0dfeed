use Rattle.std.proofs.Common.{◌≡◌, ◌≤◌, ℕ, List, IsTrue, map, take}
use Rattle.cmr_io.specs.Kept.{KeepsStanding}
use Rattle.cmr_front.specs.Report.{after_files, with_files}
use Rattle.cmr_front.specs.Outcome.{file_of}
use Rattle.cmr_front.proofs.carry_out.write_files.Given as goal

-- the files before this one were written
abbrev pub invariant-loop-place : goal.invariant-loop-place
invariant-loop-place g l =
    let S = g.S.Shelf in
    record {
      written : IsTrue (S.tells l.fn.shelf) → (name : List ℕ) → S.content l.shelf name ≡ with_files (S.content l.fn.shelf) (map file_of (take l.place l.files)) name;
      writes : S.writes l.shelf ≡ after_files (S.writes l.fn.shelf) (map file_of (take l.place l.files));
      reads : S.reads l.shelf ≡ S.reads l.fn.shelf;
      standing : KeepsStanding S.tells S.is_calm S.room l.fn.shelf l.shelf;
      later : S.faults l.fn.shelf ≤ S.faults l.shelf;
    }
