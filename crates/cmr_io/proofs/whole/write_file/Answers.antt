use Rattle.std.proofs.Common.{◌≡◌, ◌++◌, List, ℕ, Some, take, arith, ◌∙◌, true, ap, subst}
use Rattle.std.proofs.lemmas.List.{length-drop}
use Rattle.cmr_io.proofs.KeptLemmas.{keeps_on}
use Rattle.cmr_io.proofs.WholeLemmas.{log_on, rest, take-more}
use Rattle.cmr_io.proofs.whole.write_file.Goals as goal

pub rest-preserved : goal.rest-preserved
rest-preserved g c =
    let S = g.S.Shelf in
    let before = c.rest.invariant in
    let put = c.in_ok-done.ensures in
    let bytes = c.args.bytes.now in
    let done = c.rest.done in
    let count = c.in_ok-done.field-0 in
    let got = λ (told : S.tells c.args.shelf.now ≡ true).
    (put.written (before.standing.telling ∙ told)).taken
    ∙ ap (λ xs. xs ++ take count (rest bytes done)) (before.got told)
    ∙ take-more bytes done count in
    record {
      within = omega (arith, put.taken.within, length-drop done bytes);
      writing = put.begun.writing ∙ before.writing;
      reading = put.begun.reading ∙ before.reading;
      target = λ told. put.target ∙ before.target told;
      got = got;
      holds = λ told.
          subst (λ (name : List ℕ). S.content c.put.new.self name ≡ Some (S.got c.put.new.self)) (before.target told) (put.written (before.standing.telling ∙ told)).holds
          ∙ ap Some (got told);
      others = λ told other ne. put.kept.others other (λ e. ne (e ∙ before.target told)) ∙ before.others told other ne;
      reads = put.reads ∙ before.reads;
      writes = log_on (S.writes c.args.shelf.now) (S.writes c.rest.shelf) (S.writes c.put.new.self) c.args.name.now bytes done count before.writes put.writes;
      failed = put.counted.last;
      standing = keeps_on before.standing put.kept.standing;
      later = omega (arith, put.counted.cause.later, before.later);
    }

pub returns-clause-counted : goal.returns-clause-counted
returns-clause-counted g c = record { last = c.rest.invariant.failed; cause = record { later = c.rest.invariant.later; failed = tt } }
