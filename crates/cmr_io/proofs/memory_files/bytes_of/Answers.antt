use Rattle.std.proofs.Common.{◌∙◌, sym}
use Rattle.cmr_io.proofs.FileLemmas.{bytes_at-read}
use Rattle.cmr_io.proofs.memory_files.bytes_of.Goals as goal

pub returns : goal.returns
returns c =
    c.bytes.ensures ∙ sym (bytes_at-read c.args.files.now c.args.file c.index-files-file.result c.requires c.index-files-file.is)
