use Rattle.std.proofs.Common.{◌≡◌, ◌∙◌, List, Result, Ok, Err, ap, arith, length, map, refl, subst, sym}
use Rattle.std.proofs.lemmas.List.{length-map}
use Rattle.cmr_front.specs.declared.input.Input.{Input}
use Rattle.cmr_front.specs.declared.input.Text.{Text}
use Rattle.cmr_front.specs.declared.outcome.Outcome.{Outcome}
use Rattle.cmr_front.specs.declared.outcome.Stop.{Stop}
use Rattle.cmr_front.specs.declared.outcome.Stop.TheVariants as stops
use Rattle.cmr_front.specs.declared.status.Failure.TheVariants as failures
use Rattle.cmr_front.specs.Outcome.{ended_report}
use Rattle.cmr_front.specs.Report.{Report}
use Rattle.cmr_front.specs.Status.{answer_status, failure_status}
use Rattle.cmr_front.specs.Tool.{IsDecision}
use Rattle.cmr_front.specs.Inputs.{InputFile, bytes_of, given, input_file, texts}
use Rattle.cmr_front.specs.Stopped.{StopsInputs}
use Rattle.cmr_front.specs.Unread.{AreAllRead, HaveGiven, between}
use Rattle.cmr_front.proofs.Endings.{decided_ends, stopped_ends}
use Rattle.cmr_front.proofs.Statuses.{answered_or_failed}
use Rattle.cmr_front.proofs.tool.examine.Goals as goal

one_for_each : (read : List Text) (inputs : List Input) (files : List InputFile) → length read ≡ length inputs → map input_file inputs ≡ files → length (map bytes_of read) ≡ length files
one_for_each read inputs files count same = length-map read bytes_of ∙ count ∙ sym (length-map inputs input_file) ∙ ap length same

-- no decision says that a call failed
not_device : (Reports : Report → Type 0) (ended : Result Outcome Stop) → IsDecision Reports ended → (ended_report ended).status ≡ failure_status failures.Device → ⊥
not_device Reports (Ok outcome) d e = answered_or_failed (answer_status outcome.answer) outcome.answer failures.Device refl e
not_device Reports (Err stops.BadWords) d e = absurd d
not_device Reports (Err (stops.CannotRead name)) d e = absurd d
not_device Reports (Err (stops.TooLong name)) d e = absurd d
not_device Reports (Err (stops.BadText name kind place)) d e = omega (arith, e)
not_device Reports (Err stops.Memory) d e = omega (arith, e)

pub returns-in-Ok-read_inputs-clause-cause : goal.returns-in-Ok-read_inputs-clause-cause
returns-in-Ok-read_inputs-clause-cause g c = λ device. absurd (not_device ((g.T.Tool.tool c.args.tool.now).Reports (map bytes_of c.deref-in-Ok-read_inputs.result.now)) c.decide.result c.decide.ensures device)

pub returns-in-Ok-read_inputs-clause-ends : goal.returns-in-Ok-read_inputs-clause-ends
returns-in-Ok-read_inputs-clause-ends g c =
    let S = g.S.Shelf in
    let shelf = c.args.shelf.now in
    let tool = g.T.Tool.tool c.args.tool.now in
    let inputs = c.deref.result.now in
    let read = c.deref-in-Ok-read_inputs.result.now in
    let same : map input_file inputs ≡ tool.inputs = ap (map input_file) c.deref.ensures.value ∙ c.in-Ok.ensures in
    let reads = between (S.reads shelf) (S.reads c.read_inputs.new.shelf) in
    let all : AreAllRead tool.inputs reads = subst (λ (files : List InputFile). AreAllRead files reads) same c.in-Ok-read_inputs.ensures.ended in
    decided_ends tool (S.content shelf) (S.tells shelf) (S.is_calm shelf) reads (S.failed c.read_inputs.new.shelf) (map bytes_of read) c.decide.result
    (one_for_each read inputs tool.inputs (ap length c.deref-in-Ok-read_inputs.ensures.value ∙ c.in-Ok-read_inputs.ensures.count) same)
    all
    (λ told.
    subst (λ (files : List InputFile). given (S.content shelf) files ≡ texts (map bytes_of read)) same
    (c.in-Ok-read_inputs.ensures.given told ∙ ap (λ (ts : List Text). texts (map bytes_of ts)) (sym c.deref-in-Ok-read_inputs.ensures.value)))
    (subst (λ (files : List InputFile). HaveGiven files (map bytes_of read) reads) same
    (subst (λ (ts : List Text). HaveGiven (map input_file inputs) (map bytes_of ts) reads) (sym c.deref-in-Ok-read_inputs.ensures.value) c.in-Ok-read_inputs.ensures.texts))
    c.decide.ensures

pub returns-clause-ends : goal.returns-clause-ends
returns-clause-ends g c =
    let S = g.S.Shelf in
    let shelf = c.args.shelf.now in
    let tool = g.T.Tool.tool c.args.tool.now in
    let same : map input_file c.deref.result.now ≡ tool.inputs = ap (map input_file) c.deref.ensures.value ∙ c.in-Ok.ensures in
    let reads = between (S.reads shelf) (S.reads c.read_inputs.new.shelf) in
    let failed = S.failed c.read_inputs.new.shelf in
    stopped_ends tool (S.content shelf) (S.tells shelf) (S.is_calm shelf) reads failed c.in-Err-read_inputs.stop
    (subst (λ (files : List InputFile). StopsInputs files (S.content shelf) (S.tells shelf) (S.is_calm shelf) reads failed c.in-Err-read_inputs.stop) same c.in-Err-read_inputs.ensures.stopped)
