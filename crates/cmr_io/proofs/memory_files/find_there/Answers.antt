use Rattle.std.proofs.Common.{◌≡◌, ◌∙◌, Some, sym, ap, true, false, rules}
use Rattle.cmr_io.specs.Files.{held_by}
use Rattle.cmr_io.proofs.FileLemmas.{of_first-none, of_first-first, bytes_at-read}
use Rattle.cmr_io.proofs.memory_files.find_there.Goals as goal

pub returns-in_err-file-clause-none : goal.returns-in_err-file-clause-none
returns-in_err-file-clause-none c =
    let none = of_first-none held_by c.args.name.now c.args.files.now c.in_err-file.ensures.none in search rules

pub returns-then-is_there-clause-some : goal.returns-then-is_there-clause-some
returns-then-is_there-clause-some c =
    let file = c.index-files-file.result in
    let there : file.is_there ≡ true = sym c.is_there.ensures ∙ c.if-is_there.true in
    of_first-first held_by c.args.name.now c.args.files.now c.in_ok-file.file file c.in_ok-file.ensures.first c.index-files-file.is
    ∙ rw there (ap Some (sym (bytes_at-read c.args.files.now c.in_ok-file.file file c.in_ok-file.ensures.within c.index-files-file.is)))

pub returns-else-is_there-clause-none : goal.returns-else-is_there-clause-none
returns-else-is_there-clause-none c =
    let file = c.index-files-file.result in
    let there : file.is_there ≡ false = sym c.is_there.ensures ∙ c.if-is_there.false in
    of_first-first held_by c.args.name.now c.args.files.now c.in_ok-file.file file c.in_ok-file.ensures.first c.index-files-file.is ∙ rw there
