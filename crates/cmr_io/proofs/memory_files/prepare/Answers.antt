use Rattle.std.proofs.Common.{◌<◌, ◌∙◌, length}
use Rattle.cmr_io.specs.Files.{IsFirstFile, room_for, held_by}
use Rattle.cmr_io.proofs.FileLemmas.{of_first-set, of_first-set_other, of_first-set_same, of_first-push, of_first-push_other, of_first-push_none}
use Rattle.cmr_io.proofs.memory_files.prepare.Goals as goal

pub returns-in_ok-held-in-Some-clause-here : goal.returns-in_ok-held-in-Some-clause-here
returns-in_ok-held-in-Some-clause-here c =
    let files = c.args.files.now.items in
    let first : IsFirstFile c.args.name.now files c.in-Some.file = rw (← c.deref.ensures.value) c.in-Some.ensures.first in
    let within : c.in-Some.file < length files = rw (← c.deref.ensures.value) c.in-Some.ensures.within in
    of_first-set room_for c.args.name.now files c.in-Some.file c.prepare.new.self c.index_mut.result.now within first c.index_mut.ensures.value c.prepare.ensures.name ∙ c.prepare.ensures.room

pub returns-in_ok-held-in-Some-clause-others : goal.returns-in_ok-held-in-Some-clause-others
returns-in_ok-held-in-Some-clause-others c = λ other ne.
    let files = c.args.files.now.items in
    let first : IsFirstFile c.args.name.now files c.in-Some.file = rw (← c.deref.ensures.value) c.in-Some.ensures.first in
    of_first-set_other room_for c.args.name.now other files c.in-Some.file c.prepare.new.self c.index_mut.result.now ne first c.index_mut.ensures.value c.prepare.ensures.name

pub returns-in_ok-held-in-Some-clause-content : goal.returns-in_ok-held-in-Some-clause-content
returns-in_ok-held-in-Some-clause-content c = λ other.
    let files = c.args.files.now.items in
    let within : c.in-Some.file < length files = rw (← c.deref.ensures.value) c.in-Some.ensures.within in
    of_first-set_same held_by other files c.in-Some.file c.prepare.new.self c.index_mut.result.now within c.index_mut.ensures.value c.prepare.ensures.name c.prepare.ensures.held

pub returns-in_ok-push-in-None-clause-here : goal.returns-in_ok-push-in-None-clause-here
returns-in_ok-push-in-None-clause-here c =
    let added = c.in_ok-prepared-in-None.ensures in
    let none = rw c.deref.ensures.value at c.in-None.ensures.none in
    rw c.in_ok-push-in-None.ensures.items (of_first-push room_for c.args.name.now c.args.files.now.items c.in_ok-prepared-in-None.field-0 none added.name ∙ added.room)

pub returns-in_ok-push-in-None-clause-others : goal.returns-in_ok-push-in-None-clause-others
returns-in_ok-push-in-None-clause-others c = λ other ne.
    rw c.in_ok-push-in-None.ensures.items (of_first-push_other room_for c.args.name.now other c.args.files.now.items c.in_ok-prepared-in-None.field-0 ne c.in_ok-prepared-in-None.ensures.name)

pub returns-in_ok-push-in-None-clause-content : goal.returns-in_ok-push-in-None-clause-content
returns-in_ok-push-in-None-clause-content c = λ other.
    rw c.in_ok-push-in-None.ensures.items (of_first-push_none held_by other c.args.files.now.items c.in_ok-prepared-in-None.field-0 c.in_ok-prepared-in-None.ensures.held)
