use Rattle.std.proofs.Common.{ap}
use Rattle.serving.specs.Lines.{seen_of}
use Rattle.serving.proofs.ServingLemmas.{none_heard}
use Rattle.serving.proofs.turns.hear.Goals as goal

pub returns-in_default-clause-heard : goal.returns-in_default-clause-heard
returns-in_default-clause-heard g c =
    let S = g.S.Shelf in
    let O = g.O.Sink in
    let e = c.in_default.ensures in
    none_heard (seen_of S O c.args.line.now) (seen_of S O c.next.new.self) c.args.queue.now e.reads e.err e.failed e.moments e.heard.0 e.heard.1 (ap O.taken e.out) (ap O.faults e.out) e.kept.2 e.kept.0 e.kept.1
