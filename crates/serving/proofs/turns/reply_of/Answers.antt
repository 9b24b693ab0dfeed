use Rattle.std.proofs.Common.{map}
use Rattle.frames.specs.Requests.{given_file}
use Rattle.serving.proofs.ServingLemmas.{right_reply}
use Rattle.serving.proofs.turns.reply_of.Goals as goal

pub returns-in-Ok-reply : goal.returns-in-Ok-reply
returns-in-Ok-reply g c = right_reply g.P.Replier.rule c.args.text.now c.in-Ok.request.words (map given_file c.in-Ok.request.files.items) c.in-Ok-reply.reply.items c.in-Ok.ensures.text c.in-Ok-reply.ensures
