use Rattle.std.proofs.Common.{ap}
use Rattle.serving.specs.Lines.{seen_of}
use Rattle.serving.specs.declared.talk_log.TalkLog.{TalkLog}
use Rattle.batch.specs.Conversations.{served}
use Rattle.batch.proofs.conversation.serve_input.Goals as goal

pub returns-in-Ok : goal.returns-in-Ok
returns-in-Ok g c =
    let S = g.S.Shelf in
    let O = g.O.Sink in
    let e = c.in-Ok.ensures in
    served (seen_of S O c.begin_read.new.self) (record {
      reads = e.reads;
      left = e.left;
      tells = e.tells;
      writes = e.writes;
      taken = ap O.taken e.out;
      faults = ap O.faults e.out;
      heard = ap (λ (talk : TalkLog). talk.heard) e.talk;
      said = ap (λ (talk : TalkLog). talk.said) e.talk;
      moments = ap (λ (talk : TalkLog). talk.moments) e.talk;
    }) c.serve.ensures
