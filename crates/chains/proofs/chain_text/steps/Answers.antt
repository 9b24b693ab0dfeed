use Rattle.std.proofs.Common.{[]}
use Rattle.text_fields.specs.Reading.{times}
use Rattle.text_fields.proofs.Times.{goes_on}
use Rattle.chains.specs.ChainTexts.{another_step}
use Rattle.chains.proofs.ChainSteps.{step_made}
use Rattle.chains.proofs.chain_text.steps.Goals as goal

pub loop-preserved : goal.loop-preserved
loop-preserved c =
    let step = another_step c.args.rows c.args.columns in
    let made = step_made c.args.rows c.args.columns c.loop.steps c.push.new.self c.in_ok-next_step.field-0 c.loop.words c.next_step.new.words c.in_ok-next_step.ensures c.in_ok-push.ensures.ok in
    goes_on step c.args.count c.loop.counter c.loop.steps c.loop.words (times step c.args.count [] c.args.words.now) c.loop-test.true c.push.new.self c.next_step.new.words made c.loop.invariant
