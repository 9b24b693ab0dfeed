use Rattle.std.proofs.Common.{◌∙◌, ap, arith, length, subst, List, ℕ}
use Rattle.netstrings.specs.Netstrings.{StartsWith}
use Rattle.serving.specs.Turns.{replied}
use Rattle.serving.proofs.ServingLemmas.{frame_dropped}
use Rattle.serving.proofs.turns.turn.Goals as goal

pub returns-in-Ok-clause-turn : goal.returns-in-Ok-clause-turn
returns-in-Ok-clause-turn g c =
    let text = c.in-Whole.first.text.now in
    let rest = c.in-Whole.first.rest.now in
    let first = subst (λ (held : List ℕ). StartsWith held text rest) c.held.ensures c.in-Whole.ensures in
    replied text rest first c.in-Ok.ensures (c.take.ensures ∙ frame_dropped _ c.args.queue.now text rest (omega (arith, ap length c.held-in-Whole.ensures)) first)

pub returns-in-Err-clause-turn : goal.returns-in-Err-clause-turn
returns-in-Err-clause-turn g c =
    let text = c.in-Whole.first.text.now in
    let rest = c.in-Whole.first.rest.now in
    replied text rest (subst (λ (held : List ℕ). StartsWith held text rest) c.held.ensures c.in-Whole.ensures) c.in-Err.ensures tt
