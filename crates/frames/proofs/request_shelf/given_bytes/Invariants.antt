use Rattle.std.proofs.Common.{◌≡◌, ◌≤◌, length, map, take}
use Rattle.frames.specs.Held.{given_names}
use Rattle.frames.specs.NamedFiles.{all_laid, nothing_held}
use Rattle.frames.specs.Requests.{given_file}
use Rattle.frames.proofs.request_shelf.given_bytes.Given as goal

abbrev pub invariant-files : goal.invariant-files
invariant-files l = record {
  within : l.index ≤ length l.files;
  same : given_names l.files l.name ≡ all_laid nothing_held (take l.index (map given_file l.files)) l.name;
}

abbrev pub decreases-files : goal.decreases-files
decreases-files l = l.index
