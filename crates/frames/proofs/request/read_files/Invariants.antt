use Rattle.std.proofs.Common.{length, map}
use Rattle.frames.specs.Requests.{given_file}
use Rattle.frames.proofs.RequestLemmas.{FilesRead}
use Rattle.frames.proofs.request.read_files.Given as goal

abbrev pub invariant-files : goal.invariant-files
invariant-files l = FilesRead l.fn.text (map given_file l.files.items) l.left

abbrev pub decreases-files : goal.decreases-files
decreases-files l = length l.left
