use Rattle.std.proofs.Common.{◌≡◌, ◌++◌, take}
use Rattle.frames.specs.NamedFiles.{files_text}
use Rattle.frames.proofs.reply.add_files.Given as goal

abbrev pub invariant-loop-file : goal.invariant-loop-file
invariant-loop-file l = l.row ≡ l.fn.row ++ files_text (take l.file-index l.files)
