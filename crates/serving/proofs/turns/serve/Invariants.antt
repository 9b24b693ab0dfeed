use Rattle.std.proofs.Common.{◌≡◌, ◌<◌, true, length}
use Rattle.std.specs.Prelude.{vec_len}
use Rattle.serving.specs.Lines.{seen_of}
use Rattle.serving.proofs.ServingLemmas.{Serves}
use Rattle.serving.proofs.turns.serve.Given as goal

abbrev pub invariant-turns : goal.invariant-turns
invariant-turns g l =
    let S = g.S.Shelf in
    let O = g.O.Sink in
    record {
      serves : Serves g.P.Replier.rule (seen_of S O l.fn.line) (seen_of S O l.line) l.queue;
      reading : S.is_reading l.line.shelf ≡ true;
      long : 0 < vec_len l.piece;
      some : 0 < length l.piece.items;
    }
