use Rattle.std.proofs.Common.{◌≡◌, ◌≤◌, IsTrue, length, map, take}
use Rattle.cmr_io.specs.Kept.{KeepsNames}
use Rattle.cmr_front.specs.Inputs.{bytes_of, given, input_file, texts}
use Rattle.cmr_front.specs.Unread.{AreRead, HaveGiven, between}
use Rattle.cmr_front.proofs.input.read_inputs.Given as goal

-- the files before this one were read
abbrev pub invariant-loop-input : goal.invariant-loop-input
invariant-loop-input g l =
    let S = g.S.Shelf in
    record {
      given : IsTrue (S.tells l.fn.shelf) → given (S.content l.fn.shelf) (map input_file (take l.input-index l.inputs)) ≡ texts (map bytes_of l.read.items);
      count : length l.read.items ≡ l.input-index;
      ended : AreRead (map input_file l.inputs) l.input-index l.input-index (between (S.reads l.fn.shelf) (S.reads l.shelf));
      texts : HaveGiven (map input_file l.inputs) (map bytes_of l.read.items) (between (S.reads l.fn.shelf) (S.reads l.shelf));
      kept : KeepsNames S.content S.tells S.is_calm S.room l.fn.shelf l.shelf;
      writes : S.writes l.shelf ≡ S.writes l.fn.shelf;
      later : S.faults l.fn.shelf ≤ S.faults l.shelf;
    }
