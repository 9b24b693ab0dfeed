use Rattle.std.proofs.Common.{refl}
use Rattle.text_fields.specs.Reading.{another, fields}
use Rattle.text_fields.proofs.Times.{goes_on}
use Rattle.tree_text.specs.declared.error.TreeKind.TheVariants.{Short}
use Rattle.tree_text.specs.TreeValues.{step_in}
use Rattle.tree_text.proofs.own_part.read_steps.Goals as goal

pub loop-preserved : goal.loop-preserved
loop-preserved c =
    let parse = step_in c.args.sizes c.args.lines.now in
    let total = fields Short parse c.args.count c.args.words.now in
    goes_on (another Short parse) c.args.count c.loop.counter c.loop.steps c.loop.words total c.loop-test.true c.push.new.self c.step.new.words (rw (c.in_ok-step.ensures, c.in_ok-push.ensures.ok) refl) c.loop.invariant
