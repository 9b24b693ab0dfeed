use Rattle.std.proofs.Common.{◌≡◌, ◌<◌, ◌∙◌, None, length, is_some, ap, sym, rules}
use Rattle.cmr_io.specs.Files.{IsFirstFile, room_for, room_in}
use Rattle.cmr_io.proofs.FileLemmas.{of_first-none, of_first-first, name_at-first, IsFirst-set, Writes-set}
use Rattle.cmr_io.proofs.memory_files.empty.Goals as goal

pub returns-in_err-file-clause-none : goal.returns-in_err-file-clause-none
returns-in_err-file-clause-none c =
    let none = of_first-none room_for c.args.name.now c.args.files.now.items (rw (← c.deref.ensures.value) c.in_err-file.ensures.none) in search rules

pub returns-in_err-room-clause-none : goal.returns-in_err-room-clause-none
returns-in_err-room-clause-none c =
    let first : IsFirstFile c.args.name.now c.args.files.now.items c.in_ok-file.file = rw (← c.deref.ensures.value) c.in_ok-file.ensures.first in
    let room = of_first-first room_for c.args.name.now c.args.files.now.items c.in_ok-file.file c.index.result.now first c.index.ensures in
    let none : room_in c.args.files.now.items c.args.name.now ≡ None = room ∙ sym c.room.ensures ∙ c.in_err-room.was in search rules

pub returns-clause-room : goal.returns-clause-room
returns-clause-room c = λ none.
    let first : IsFirstFile c.args.name.now c.args.files.now.items c.in_ok-file.file = rw (← c.deref.ensures.value) c.in_ok-file.ensures.first in
    let room = of_first-first room_for c.args.name.now c.args.files.now.items c.in_ok-file.file c.index.result.now first c.index.ensures in
    let contrary = sym c.in_ok-room.was ∙ c.room.ensures ∙ sym room ∙ none in absurd (cc)

pub returns-clause-name : goal.returns-clause-name
returns-clause-name c =
    let first : IsFirstFile c.args.name.now c.args.files.now.items c.in_ok-file.file = rw (← c.deref.ensures.value) c.in_ok-file.ensures.first in
    name_at-first c.args.name.now _ c.in_ok-file.file (IsFirst-set c.args.name.now c.args.files.now.items c.in_ok-file.file c.empty.new.self c.index_mut.result.now first c.index_mut.ensures.value c.empty.ensures.name)

pub returns-clause-writes : goal.returns-clause-writes
returns-clause-writes c =
    let files = c.args.files.now.items in
    let first : IsFirstFile c.args.name.now files c.in_ok-file.file = rw (← c.deref.ensures.value) c.in_ok-file.ensures.first in
    let within : c.in_ok-file.file < length files = rw (← c.deref.ensures.value) c.in_ok-file.ensures.within in
    let same =
    sym (of_first-first room_for c.args.name.now files c.in_ok-file.file c.index_mut.result.now first c.index_mut.ensures.value)
    ∙ of_first-first room_for c.args.name.now files c.in_ok-file.file c.index.result.now first c.index.ensures in
    let writable = c.empty.ensures.writable ∙ ap is_some (same ∙ sym c.room.ensures ∙ c.in_ok-room.was) in
    Writes-set c.args.name.now files c.in_ok-file.file c.empty.new.self c.index_mut.result.now _ within first c.index_mut.ensures.value
    c.empty.ensures.name c.empty.ensures.room c.empty.ensures.held c.empty.ensures.bytes writable
