use Rattle.std.proofs.Common.{◌∙◌, ◌∷◌, [], List, ℕ, length, map, ap, subst}
use Rattle.std.specs.Prelude.{fold}
use Rattle.std.specs.Fmt.{decimal}
use Rattle.std.specs.List.{AllByRecursion}
use Rattle.text_fields.specs.TextWords.{text_of}
use Rattle.text_fields.specs.Written.{Draft, with_line}
use Rattle.chains.specs.declared.step.SignStep.{SignStep}
use Rattle.chains.specs.ChainTexts.{step_words, chain, IsIncreasingStep}
use Rattle.chains.proofs.ChainAgain.{chain_again}
use Rattle.chains.proofs.ChainSteps.{first_line, chain_written}
use Rattle.chains.proofs.chain_writer.write_chain.Goals as goal

pub returns-clause-text : goal.returns-clause-text
returns-clause-text c =
    let steps = c.as_slice-steps.ensures in
    let first = first_line c.new-text.result c.word.new.self c.word-2.new.self c.end_line.new.self c.as_slice.result.now c.as_slice-2.result.now c.new-text.ensures c.as_slice.ensures c.as_slice-2.ensures c.in_ok-word.ensures c.in_ok-word-2.ensures c.in_ok-end_line.ensures in
    let sizes = c.in_ok-numbers.ensures ∙ ap (λ (n : ℕ). with_line c.end_line.new.self (decimal c.args.rows ∷ decimal c.args.columns ∷ decimal n ∷ [])) (ap length steps) in
    c.into_bytes.ensures
    ∙ chain_written (record { chain = c.args.chain.now; rows = c.args.rows; columns = c.args.columns }) c.new-text.result c.numbers.new.self c.write_steps.new.text c.write_violator.new.text
    (ap (λ (d : Draft). d.bytes) c.new-text.ensures)
    (sizes ∙ ap (λ (d : Draft). with_line d (decimal c.args.rows ∷ decimal c.args.columns ∷ decimal (length c.args.chain.now.steps) ∷ [])) first)
    (c.in_ok-write_steps.ensures.lines ∙ ap (λ (xs : List SignStep). fold with_line c.numbers.new.self (map step_words xs)) steps)
    c.in_ok-write_violator.ensures.line

pub returns-clause-again : goal.returns-clause-again
returns-clause-again c =
    ap (λ (bytes : List ℕ). chain (text_of bytes)) (returns-clause-text c)
    ∙ chain_again (record { chain = c.args.chain.now; rows = c.args.rows; columns = c.args.columns }) (record {
      few_rows = c.requires.rows;
      few_columns = c.requires.columns;
      few_steps = c.requires.few;
      steps_in = c.requires.steps;
      steps_increase = subst (AllByRecursion IsIncreasingStep) c.as_slice-steps.ensures c.in_ok-write_steps.ensures.increasing;
      violator_in = c.requires.violator;
      violator_increases = c.in_ok-write_violator.ensures.increasing;
    })
