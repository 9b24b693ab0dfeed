use Rattle.std.proofs.Common.{◌≡◌, None, Err, refl, subst, sym, inl, arith}
use Rattle.cmr_front.specs.declared.outcome.Stop.TheVariants as stops
use Rattle.cmr_large.specs.LargeTu.{large_order, large_ordered}
use Rattle.cmr_front.specs.Ending.{devices, standing}
use Rattle.cmr_front.specs.Run.{IsNothing}
use Rattle.cmr_front.proofs.Endings.{IsLawfulOrder, refused_memory, runs}
use Rattle.cmr_large.proofs.program.refuse.Goals as goal

pub returns-in-Refused-clause-runs : goal.returns-in-Refused-clause-runs
returns-in-Refused-clause-runs g c =
    let shelves = g.S.Shelf in
    let outputs = g.O.Sink in
    let errors = g.E.Sink in
    let shelf = c.args.shelf.now in
    let out = c.args.out.now in
    let err = c.args.err.now in
    let done = c.carry_out in
    let is_refused : large_order c.args._words.now ≡ None = c.requires c.in-Refused.is in
    runs (large_ordered (large_order c.args._words.now)) (standing shelves outputs errors shelf out err) (devices shelves outputs errors shelf out err)
    (shelves.content shelf) (shelves.reads shelf) (shelves.writes shelf) (shelves.failed shelf) (shelves.faults shelf) (Err stops.BadWords)
    (devices shelves outputs errors done.new.shelf done.new.out done.new.err) done.result
    (record {
      lawful = subst (λ order. IsLawfulOrder (large_ordered order)) (sym is_refused) tt;
      told = g.met.S.Shelf.calm_tells shelf;
      ends = (subst (λ order. IsNothing (large_ordered order)) (sym is_refused) tt, refl);
      content = λ name. refl;
      writes = refl;
      later = omega arith;
      refused = λ none. inl refl;
      cause = λ four. absurd (omega arith);
    })
    (record {
      carried_out = done.ensures.carried_out;
      given = done.ensures.status;
      ready = done.ensures.ready;
      stopped = done.ensures.stopped;
      reads = done.ensures.reads;
      failed = done.ensures.failed;
      later = done.ensures.later;
    })

pub returns-in-Memory-clause-runs : goal.returns-in-Memory-clause-runs
returns-in-Memory-clause-runs g c =
    let shelves = g.S.Shelf in
    let outputs = g.O.Sink in
    let errors = g.E.Sink in
    let shelf = c.args.shelf.now in
    let out = c.args.out.now in
    let err = c.args.err.now in
    let done = c.carry_out-in-Memory in
    refused_memory (large_ordered (large_order c.args._words.now)) (standing shelves outputs errors shelf out err) (devices shelves outputs errors shelf out err)
    (devices shelves outputs errors done.new.shelf done.new.out done.new.err) done.result
    done.ensures.reads done.ensures.carried_out
