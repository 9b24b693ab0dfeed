use Rattle.std.proofs.Common.{◌≡◌, None, Err, refl, subst, sym, inl, arith}
use Rattle.cmr_front.specs.declared.outcome.Stop.TheVariants as stops
use Rattle.cmr_tools.specs.ToolOrders.{order, order_of, ordered}
use Rattle.cmr_front.specs.Words.ReadWords.{Gives}
use Rattle.cmr_front.specs.Ending.{devices, standing}
use Rattle.cmr_front.specs.Run.{IsNothing}
use Rattle.cmr_front.proofs.Endings.{IsLawfulOrder, refused_memory, runs}
use Rattle.cmr_tools.proofs.Obeyed.{means_for, read_of}
use Rattle.cmr_tools.proofs.program.run.Goals as goal

pub returns-in-Ok-clause-means : goal.returns-in-Ok-clause-means
returns-in-Ok-clause-means g c tells o is answer answered = means_for (order c.args.words.now) (order_of c.in-Ok.command) _ _ c.in-Ok.ensures.value (c.obey.ensures.means tells answer answered) o is

pub returns-in-Err-Refused-clause-runs : goal.returns-in-Err-Refused-clause-runs
returns-in-Err-Refused-clause-runs g c =
    let S = g.S.Shelf in
    let O = g.O.Sink in
    let E = g.E.Sink in
    let shelf = c.args.shelf.now in
    let out = c.args.out.now in
    let err = c.args.err.now in
    let done = c.carry_out in
    let e : order c.args.words.now ≡ None = subst (λ f. Gives order_of (Err f) (order c.args.words.now)) c.in-Err-Refused.field-0-is c.in-Err-Refused.ensures.value in
    runs (ordered (order c.args.words.now)) (standing S O E shelf out err) (devices S O E shelf out err)
    (S.content shelf) (S.reads shelf) (S.writes shelf) (S.failed shelf) (S.faults shelf) (Err stops.BadWords)
    (devices S O E done.new.shelf done.new.out done.new.err) done.result
    (record {
      lawful = subst (λ o. IsLawfulOrder (ordered o)) (sym e) tt;
      told = g.met.S.Shelf.calm_tells shelf;
      ends = (subst (λ o. IsNothing (ordered o)) (sym e) tt, refl);
      content = λ name. refl;
      writes = refl;
      later = omega arith;
      refused = λ none. inl refl;
      cause = λ four. absurd (omega arith);
    })
    (record {
      carried_out = done.ensures.carried_out;
      given = done.ensures.status;
      ready = done.ensures.ready;
      stopped = done.ensures.stopped;
      reads = done.ensures.reads;
      failed = done.ensures.failed;
      later = done.ensures.later;
    })

pub returns-in-Err-Memory-clause-runs : goal.returns-in-Err-Memory-clause-runs
returns-in-Err-Memory-clause-runs g c =
    let S = g.S.Shelf in
    let O = g.O.Sink in
    let E = g.E.Sink in
    let shelf = c.args.shelf.now in
    let out = c.args.out.now in
    let err = c.args.err.now in
    let done = c.carry_out-in-Err-Memory in
    refused_memory (ordered (order c.args.words.now)) (standing S O E shelf out err) (devices S O E shelf out err)
    (devices S O E done.new.shelf done.new.out done.new.err) done.result
    done.ensures.reads done.ensures.carried_out

pub returns-in-Err-Refused-clause-read : goal.returns-in-Err-Refused-clause-read
returns-in-Err-Refused-clause-read g c = read_of (order c.args.words.now) _ _ _ _ (returns-in-Err-Refused-clause-runs g c)

pub returns-in-Err-Memory-clause-read : goal.returns-in-Err-Memory-clause-read
returns-in-Err-Memory-clause-read g c = read_of (order c.args.words.now) _ _ _ _ (returns-in-Err-Memory-clause-runs g c)
