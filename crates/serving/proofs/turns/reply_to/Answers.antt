use Rattle.std.proofs.Common.{◌≡◌, ◌++◌, refl, subst, List, ℕ}
use Rattle.cmr_io.specs.Whole.{AppendsPrefix}
use Rattle.serving.specs.Lines.{seen_of}
use Rattle.serving.specs.Turns.{has_taken}
use Rattle.serving.proofs.ServingLemmas.{after_write, said_part, said_whole}
use Rattle.serving.proofs.turns.reply_to.Goals as goal

pub returns-in-Ok : goal.returns-in-Ok
returns-in-Ok g c =
    let S = g.S.Shelf in
    let O = g.O.Sink in
    let old = c.args.line.now in
    let new = c.write.new.self in
    let e = c.in-Ok.ensures in
    let bytes = c.deref.result.now in
    said_whole g.P.Replier.rule c.args.text.now c.in_ok-reply.reply.items (seen_of S O old) (seen_of S O new) c.in_ok-reply.ensures
    (subst (λ (b : List ℕ). seen_of S O new ≡ has_taken (seen_of S O old) (O.taken old.out ++ b) (O.faults new.out) (old.talk.said ++ b)) c.deref.ensures.value
    (after_write S O old new (O.taken old.out ++ bytes) (old.talk.said ++ bytes) e.shelf e.heard.0 e.heard.1 e.taken e.said))
    e.cause.later

pub returns : goal.returns
returns g c =
    let S = g.S.Shelf in
    let O = g.O.Sink in
    let old = c.args.line.now in
    let new = c.write.new.self in
    let e = c.in-Err.ensures in
    said_part g.P.Replier.rule c.args.text.now c.in_ok-reply.reply.items (seen_of S O old) (seen_of S O new) c.in_ok-reply.ensures
    (after_write S O old new (O.taken new.out) new.talk.said e.shelf e.heard.0 e.heard.1 refl refl)
    (subst (AppendsPrefix (O.taken old.out) (O.taken new.out)) c.deref.ensures.value e.cut)
    e.cause.failed
