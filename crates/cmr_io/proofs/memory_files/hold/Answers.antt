use Rattle.std.proofs.Common.{◌<◌, ◌∙◌, Some, length, ap}
use Rattle.cmr_io.specs.Files.{IsFirstFile, held_by, room_for}
use Rattle.cmr_io.proofs.FileLemmas.{of_first-set, of_first-set_other, of_first-set_same, of_first-push, of_first-push_other, of_first-push_none}
use Rattle.cmr_io.proofs.memory_files.hold.Goals as goal

pub returns-in_ok-held-in-Some-clause-here : goal.returns-in_ok-held-in-Some-clause-here
returns-in_ok-held-in-Some-clause-here c =
    let files = c.args.files.now.items in
    let first : IsFirstFile c.args.name.now files c.in-Some.file = rw (← c.deref.ensures.value) c.in-Some.ensures.first in
    let within : c.in-Some.file < length files = rw (← c.deref.ensures.value) c.in-Some.ensures.within in
    of_first-set held_by c.args.name.now files c.in-Some.file c.hold.new.self c.index_mut.result.now within first c.index_mut.ensures.value c.hold.ensures.name
    ∙ c.hold.ensures.held ∙ ap Some c.in_ok-held-in-Some.ensures.bytes

pub returns-in_ok-held-in-Some-clause-others : goal.returns-in_ok-held-in-Some-clause-others
returns-in_ok-held-in-Some-clause-others c = λ other ne.
    let files = c.args.files.now.items in
    let first : IsFirstFile c.args.name.now files c.in-Some.file = rw (← c.deref.ensures.value) c.in-Some.ensures.first in
    of_first-set_other held_by c.args.name.now other files c.in-Some.file c.hold.new.self c.index_mut.result.now ne first c.index_mut.ensures.value c.hold.ensures.name

pub returns-in_ok-held-in-Some-clause-rooms : goal.returns-in_ok-held-in-Some-clause-rooms
returns-in_ok-held-in-Some-clause-rooms c = λ other.
    let files = c.args.files.now.items in
    let within : c.in-Some.file < length files = rw (← c.deref.ensures.value) c.in-Some.ensures.within in
    of_first-set_same room_for other files c.in-Some.file c.hold.new.self c.index_mut.result.now within c.index_mut.ensures.value c.hold.ensures.name c.hold.ensures.room

pub returns-in_ok-push-in-None-clause-here : goal.returns-in_ok-push-in-None-clause-here
returns-in_ok-push-in-None-clause-here c =
    let added = c.in_ok-holding-in-None.ensures in
    let none = rw c.deref.ensures.value at c.in-None.ensures.none in
    rw c.in_ok-push-in-None.ensures.items (of_first-push held_by c.args.name.now c.args.files.now.items c.in_ok-holding-in-None.field-0 none added.name ∙ added.held)

pub returns-in_ok-push-in-None-clause-others : goal.returns-in_ok-push-in-None-clause-others
returns-in_ok-push-in-None-clause-others c = λ other ne.
    rw c.in_ok-push-in-None.ensures.items (of_first-push_other held_by c.args.name.now other c.args.files.now.items c.in_ok-holding-in-None.field-0 ne c.in_ok-holding-in-None.ensures.name)

pub returns-in_ok-push-in-None-clause-rooms : goal.returns-in_ok-push-in-None-clause-rooms
returns-in_ok-push-in-None-clause-rooms c = λ other.
    rw c.in_ok-push-in-None.ensures.items (of_first-push_none room_for other c.args.files.now.items c.in_ok-holding-in-None.field-0 c.in_ok-holding-in-None.ensures.room)
