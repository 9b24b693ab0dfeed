use Rattle.std.proofs.Common.{◌∙◌, [], List, ℕ, ap, length, subst, sym}
use Rattle.serving.specs.Lines.{seen_of}
use Rattle.serving.proofs.ServingLemmas.{Serves, ends_short, ends_so, goes_on, some_left, starts}
use Rattle.serving.proofs.turns.serve.Goals as goal

pub returns-in_default : goal.returns-in_default
returns-in_default g c =
    let line = seen_of g.S.Shelf g.O.Sink c.args.line.now in
    ends_short g.P.Replier.rule line line [] (starts g.P.Replier.rule line)

pub turns-init : goal.turns-init
turns-init g c =
    let line = seen_of g.S.Shelf g.O.Sink c.args.line.now in
    record {
      serves = subst (λ (held : List ℕ). Serves g.P.Replier.rule line line held) (sym c.new-queue.ensures) (starts g.P.Replier.rule line);
      reading = c.requires;
      long = c.in-Ok.ensures.0;
      some = c.in-Ok.ensures.1;
    }

pub returns-in-Err : goal.returns-in-Err
returns-in-Err g c =
    let seen = seen_of g.S.Shelf g.O.Sink in
    ends_so g.P.Replier.rule (seen c.args.line.now) (seen c.turns.line) (seen c.turn.new.line) c.turns.queue c.turn.new.queue c.in-Err.ending c.turns.invariant.serves c.in-Err.ensures.turn

pub turns-preserved : goal.turns-preserved
turns-preserved g c =
    let seen = seen_of g.S.Shelf g.O.Sink in
    let serves =
    goes_on g.P.Replier.rule (seen c.args.line.now) (seen c.turns.line) (seen c.turn.new.line) c.turns.queue c.turn.new.queue c.in_default-turn.field-0 c.turns.invariant.serves c.in_default-turn.ensures.turn in
    record {
      serves = serves;
      reading = serves.reading ∙ c.requires;
      long = c.turns.invariant.long;
      some = some_left c.turns.piece.len c.turn.new.piece c.turns.piece.items c.turns.invariant.long (c.turn.ensures.same ∙ ap length c.deref_mut.ensures.value) c.turns.invariant.some;
    }

pub returns : goal.returns
returns g c =
    let seen = seen_of g.S.Shelf g.O.Sink in
    ends_short g.P.Replier.rule (seen c.args.line.now) (seen c.turns.line) c.turns.queue c.turns.invariant.serves
