use Rattle.std.proofs.Common.{refl}
use Rattle.text_fields.specs.Written.{with_end, with_line}
use Rattle.chains.specs.ChainTexts.{step_words}
use Rattle.chains.proofs.ChainSteps.{words_line, ok_with}
use Rattle.chains.proofs.chain_writer.write_step.Goals as goal

pub returns-clause-line : goal.returns-clause-line
returns-clause-line c =
    ok_with c.end_line.result (with_end c.put_step.new.text) (with_line c.args.text.now (step_words c.args.step.now)) c.end_line.new.self c.end_line.ensures
    (words_line c.args.text.now c.put_step.new.text (with_end c.put_step.new.text) (step_words c.args.step.now) c.requires.at_start c.in_ok-put_step.ensures.words refl)
