use Rattle.std.proofs.Common.{◌≡◌, ◌≤◌, length, take}
use Rattle.frames.specs.NamedFiles.{Names, all_laid}
use Rattle.frames.proofs.written_file.find_written.Given as goal

abbrev pub invariant-files : goal.invariant-files
invariant-files l = record {
  within : l.index ≤ length l.files;
  same : (held : Names) → all_laid held l.files l.name ≡ all_laid held (take l.index l.files) l.name;
}

abbrev pub decreases-files : goal.decreases-files
decreases-files l = l.index
