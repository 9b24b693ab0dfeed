use Rattle.std.proofs.Common.{◌<◌, ◌++◌, ◌∙◌, Some, List, ℕ, length, take, ap, sym, arith}
use Rattle.cmr_io.specs.Files.{room_for, name_at}
use Rattle.cmr_io.proofs.FileLemmas.{of_first-first, name_at-first, bytes_at-read, IsFirst-set, IsFirst-writable, is_writable-read, Writes-set}
use Rattle.cmr_io.proofs.memory_files.put.Goals as goal

pub put-requires : goal.put-requires
put-requires c = is_writable-read c.args.files.now.items c.args.file c.index_mut.result.now c.requires.writable c.index_mut.ensures.value

pub returns-clause-count : goal.returns-clause-count
returns-clause-count c =
    let files = c.args.files.now.items in
    let old = c.index_mut.result.now in
    let first = IsFirst-writable files c.args.file c.requires.writable in
    let within : c.args.file < length files = omega (arith, c.args.files.now.ok) in
    rw (of_first-first room_for (name_at files c.args.file) files c.args.file old first c.index_mut.ensures.value, bytes_at-read files c.args.file old within c.index_mut.ensures.value)
    c.put.ensures.count

pub returns-clause-name : goal.returns-clause-name
returns-clause-name c =
    let files = c.args.files.now.items in
    let first = IsFirst-writable files c.args.file c.requires.writable in
    name_at-first (name_at files c.args.file) _ c.args.file (IsFirst-set (name_at files c.args.file) files c.args.file c.put.new.self c.index_mut.result.now first c.index_mut.ensures.value c.put.ensures.name)

pub returns-clause-writes : goal.returns-clause-writes
returns-clause-writes c =
    let files = c.args.files.now.items in
    let old = c.index_mut.result.now in
    let first = IsFirst-writable files c.args.file c.requires.writable in
    let within : c.args.file < length files = omega (arith, c.args.files.now.ok) in
    let bytes = c.put.ensures.bytes ∙ ap (λ (xs : List ℕ). xs ++ take c.put.result c.args.piece.now) (sym (bytes_at-read files c.args.file old within c.index_mut.ensures.value)) in
    Writes-set (name_at files c.args.file) files c.args.file c.put.new.self old _ within first c.index_mut.ensures.value
    c.put.ensures.name c.put.ensures.room (c.put.ensures.held ∙ ap Some bytes) bytes c.put.ensures.writable
