use Rattle.std.proofs.Common.{◌∙◌, ap, map, refl, subst, sym}
use Rattle.frames.specs.Held.{given_names}
use Rattle.frames.specs.Replies.{ReplyValue}
use Rattle.frames.specs.Requests.{given_file}
use Rattle.batch.specs.RequestReplies.{IsReplyTo}
use Rattle.cmr_tools.specs.ToolOrders.{order, ordered}
use Rattle.batch.proofs.ReplyLemmas.{no_fault, refusal_says, run_says, same_reply}
use Rattle.batch.proofs.AnswerMeanings.{means_ordered}
use Rattle.batch.proofs.replier.CmrReplierReplier.reply.Goals as goal

pub returns-then-is_short : goal.returns-then-is_short
returns-then-is_short g c = refusal_says (ordered (order c.args.request.now.words)) (map given_file c.args.request.now.files.items) c.refusal.result c.refusal.ensures

pub returns-in-Ok : goal.returns-in-Ok
returns-in-Ok g c =
    let words = c.args.request.now.words in
    let ordering = ordered (order words) in
    let files = map given_file c.args.request.now.files.items in
    let shelf = c.run-status.new.shelf in
    let out = c.run-status.new.out in
    let err = c.run-status.new.err in
    let held = c.new-shelf.ensures.content ∙ ap given_names c.deref.ensures.value in
    let right =
    run_says ordering _ _ _ files shelf.written.items c.run-status.result c.run-status.ensures.runs held (λ answer is. means_ordered (order words) _ c.run-status.result answer (c.run-status.ensures.means refl) c.run-status.ensures.runs.refused is) (record {
      shelf_tells = refl;
      output_tells = refl;
      error_tells = refl;
      reads = c.new-shelf.ensures.logs.0;
      writes = c.new-shelf.ensures.logs.1;
      output = c.new-out.ensures.got;
      error = c.new-err.ensures.got;
      output_faults_before = c.new-out.ensures.faults;
      error_faults_before = c.new-err.ensures.faults;
      output_faults = no_fault out.refusals c.is_short-else-is_short.result c.is_short-else-is_short.ensures c.if-is_short-2.false;
      error_faults = no_fault err.refusals c.is_short-else-is_short-2.result c.is_short-else-is_short-2.ensures c.if-is_short-3.false;
      logged = c.is_short.ensures.logged c.if-is_short.false;
      lacks = c.is_short.ensures.missing c.if-is_short.false;
    }) in
    let same =
    same_reply c.run-status.result c.run-status.result c.content.result.now out.bytes.items c.content-2.result.now err.bytes.items c.written.result.now shelf.written.items refl c.content.ensures c.content-2.ensures
    c.written.ensures in
    (record { status = c.run-status.result; output = c.content.result.now; error = c.content-2.result.now; files = c.written.result.now }, c.in-Ok.ensures, subst (λ (it : ReplyValue). IsReplyTo ordering files it) (sym same) right)

pub returns : goal.returns
returns g c = refusal_says (ordered (order c.args.request.now.words)) (map given_file c.args.request.now.files.items) c.refusal-in-Err.result c.refusal-in-Err.ensures
