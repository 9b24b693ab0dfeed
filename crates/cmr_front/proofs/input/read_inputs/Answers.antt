use Rattle.std.proofs.Common.{◌≡◌, ◌∙◌, ◌∷◌, ◌+◌, ◌++◌, ℕ, List, [], map, arith, ap, refl, sym, subst, length, length-append}
use Rattle.std.proofs.lemmas.List.{append-nil, length-map, map-append, take_all}
use Rattle.cmr_io.specs.Calls.{up_to_last}
use Rattle.cmr_io.proofs.KeptLemmas.{keeps_names_on}
use Rattle.cmr_front.specs.declared.input.Input.{Input}
use Rattle.cmr_front.specs.declared.input.Text.{Text}
use Rattle.cmr_front.specs.Inputs.{bytes_of, given, input_file, texts}
use Rattle.cmr_front.specs.Unread.{AreRead, AreWithinLimits, HaveGiven, between}
use Rattle.cmr_io.proofs.CauseLemmas.{rose_later}
use Rattle.cmr_front.proofs.Inputs.{begun_with, one_more_begun, one_more_ended, one_more_given, stopped_at, texts_more}
use Rattle.cmr_front.proofs.input.read_inputs.Goals as goal

pub loop-input-init : goal.loop-input-init
loop-input-init g c =
    let start = g.S.Shelf.reads c.args.shelf.now in
    let ends = start.ends in
    let same : ends ≡ ends + 0 = omega arith in
    record {
      given = λ told. ap (λ (read : List Text). texts (map bytes_of read)) (sym c.new-read.ensures.items);
      count = ap length c.new-read.ensures.items;
      ended = record {
        have_begun = sym (append-nil (g.S.Shelf.reads c.args.shelf.now).names);
        have_ended = ap up_to_last same;
      };
      texts = record {
        given = sym (append-nil start.texts) ∙ ap (λ (read : List Text). start.texts ++ map bytes_of read) (sym c.new-read.ensures.items);
        within = subst (λ (read : List Text). AreWithinLimits (map input_file c.args.inputs.now) (map bytes_of read)) (sym c.new-read.ensures.items) tt;
      };
      kept = record {
        names = λ name. refl;
        standing = record {
          telling = refl;
          calm = λ calm. calm;
          rooms = λ name. refl;
        };
      };
      writes = refl;
      later = omega arith;
    }

pub returns-clause-given : goal.returns-clause-given
returns-clause-given g c = λ told.
    subst (λ (inputs : List Input). given (g.S.Shelf.content c.args.shelf.now) (map input_file inputs) ≡ texts (map bytes_of c.loop-input.read.items))
    (take_all c.loop-input.input-index c.args.inputs.now c.loop-input-test.false) (c.loop-input.invariant.given told)

pub returns-clause-count : goal.returns-clause-count
returns-clause-count g c = omega (arith, c.loop-input.invariant.count, c.loop-input-test.false, c.loop-input.auto.input-index-end)

pub returns-clause-ended : goal.returns-clause-ended
returns-clause-ended g c =
    let files = map input_file c.args.inputs.now in
    let all : c.loop-input.input-index ≡ length files = omega (arith, c.loop-input-test.false, c.loop-input.auto.input-index-end, length-map c.args.inputs.now input_file) in
    subst (λ (n : ℕ). AreRead files n n (between (g.S.Shelf.reads c.args.shelf.now) (g.S.Shelf.reads c.loop-input.shelf))) all c.loop-input.invariant.ended

pub returns-in-Err-clause-cause : goal.returns-in-Err-clause-cause
returns-in-Err-clause-cause g c = λ device.
    rose_later (g.S.Shelf.faults c.args.shelf.now) (g.S.Shelf.faults c.loop-input.shelf) (g.S.Shelf.faults c.read_input.new.shelf) c.loop-input.invariant.later (c.in-Err.ensures.cause device).1

pub returns-in-Err-clause-kept : goal.returns-in-Err-clause-kept
returns-in-Err-clause-kept g c = keeps_names_on c.loop-input.invariant.kept c.in-Err.ensures.kept

pub returns-in-Err-push-clause-kept : goal.returns-in-Err-push-clause-kept
returns-in-Err-push-clause-kept g c = keeps_names_on c.loop-input.invariant.kept c.in-Ok.ensures.kept

pub returns-in-Err-clause-stopped : goal.returns-in-Err-clause-stopped
returns-in-Err-clause-stopped g c =
    let S = g.S.Shelf in
    let shelf = c.args.shelf.now in
    let mid = c.loop-input.shelf in
    let before = c.loop-input.invariant in
    let after = c.read_input.new.shelf in
    let stop = c.in-Err.stop in
    let up_to : AreRead (map input_file c.args.inputs.now) (c.loop-input.input-index + 1) c.loop-input.input-index (between (S.reads shelf) (S.reads after)) = record {
      have_begun = one_more_begun (S.reads shelf) (S.reads mid) (S.reads after) c.args.inputs.now c.loop-input.input-index c.loop-input-test.true before.ended.have_begun c.read_input.ensures.begun;
      have_ended = rw c.in-Err.ensures.not_ended before.ended.have_ended;
    } in
    stopped_at (S.content shelf) (S.content mid) (S.tells shelf) (S.tells mid) (S.is_calm shelf) (S.is_calm mid) c.args.inputs.now c.loop-input.input-index (map bytes_of c.loop-input.read.items)
    (between (S.reads shelf) (S.reads after)) (S.failed after) stop
    c.loop-input-test.true before.kept.names (λ told. before.kept.standing.telling ∙ told) before.kept.standing.calm before.given up_to
    (S.reads mid).texts (length-map c.loop-input.read.items bytes_of ∙ before.count) before.texts.given before.texts.within c.in-Err.ensures.stopped.1 (λ device. (c.in-Err.ensures.cause device).0) c.in-Err.ensures.stopped.0

pub loop-input-preserved : goal.loop-input-preserved
loop-input-preserved g c =
    let S = g.S.Shelf in
    let shelf = c.args.shelf.now in
    let mid = c.loop-input.shelf in
    let before = c.loop-input.invariant in
    let read = c.in-Ok.ensures in
    record {
      given = λ told. texts_more (S.content shelf) (S.content mid) c.args.inputs.now c.loop-input.input-index c.loop-input.read.items c.push.new.self.items c.in-Ok.text
          c.loop-input-test.true before.kept.names (before.given told) (read.whole (before.kept.standing.telling ∙ told)) c.in-Ok-push.ensures.items;
      count = omega (arith, before.count, ap length c.in-Ok-push.ensures.items, length-append c.loop-input.read.items (c.in-Ok.text ∷ []));
      ended = record {
        have_begun = one_more_begun (S.reads shelf) (S.reads mid) (S.reads c.read_input.new.shelf) c.args.inputs.now c.loop-input.input-index c.loop-input-test.true before.ended.have_begun read.begun;
        have_ended = one_more_ended (S.reads shelf).ends (S.reads mid).ends (S.reads c.read_input.new.shelf).ends c.loop-input.input-index before.ended.have_ended read.ended;
      };
      texts = subst (λ (bytes : List (List ℕ)). HaveGiven (map input_file c.args.inputs.now) bytes (between (S.reads shelf) (S.reads c.read_input.new.shelf)))
          (sym (ap (map bytes_of) c.in-Ok-push.ensures.items ∙ map-append bytes_of c.loop-input.read.items (c.in-Ok.text ∷ [])))
          (one_more_given (S.reads shelf) (S.reads mid) (S.reads c.read_input.new.shelf) c.args.inputs.now c.loop-input.input-index (map bytes_of c.loop-input.read.items) (bytes_of c.in-Ok.text)
          c.loop-input-test.true (length-map c.loop-input.read.items bytes_of ∙ before.count) before.texts read.text.0 read.text.1);
      kept = keeps_names_on before.kept read.kept;
      writes = read.writes ∙ before.writes;
      later = omega (arith, read.later, before.later);
    }

pub returns-in-Err-push-clause-stopped : goal.returns-in-Err-push-clause-stopped
returns-in-Err-push-clause-stopped g c =
    let S = g.S.Shelf in
    let start = S.reads c.args.shelf.now in
    let mid = S.reads c.loop-input.shelf in
    let after = S.reads c.read_input.new.shelf in
    let inputs = c.args.inputs.now in
    let k = c.loop-input.input-index in
    let bytes = map bytes_of c.loop-input.read.items in
    let text = bytes_of c.in-Ok.text in
    let count : length bytes ≡ k = length-map c.loop-input.read.items bytes_of ∙ c.loop-input.invariant.count in
    let all : length (bytes ++ text ∷ []) ≡ k + 1 = omega (arith, count, length-append bytes (text ∷ [])) in (
      bytes ++ text ∷ [],
      begun_with (map input_file inputs) (bytes ++ text ∷ []) (k + 1) (between start after) all
          (one_more_begun start mid after inputs k c.loop-input-test.true c.loop-input.invariant.ended.have_begun c.in-Ok.ensures.begun)
          (one_more_given start mid after inputs k bytes text c.loop-input-test.true count c.loop-input.invariant.texts c.in-Ok.ensures.text.0 c.in-Ok.ensures.text.1),
    )
