use Rattle.std.proofs.Common.{◌∙◌, ◌∷◌, refl, ap}
use Rattle.std.specs.Prelude.{codes, fold}
use Rattle.text_fields.specs.Written.{Draft, with_end, with_line, with_word}
use Rattle.chains.specs.ChainTexts.{line_set_words}
use Rattle.chains.proofs.ChainSteps.{words_line, ok_with}
use Rattle.chains.proofs.chain_writer.write_violator.Goals as goal

pub returns-clause-line : goal.returns-clause-line
returns-clause-line c =
    let words = line_set_words c.args.lines.now in
    let put = c.in_ok-put_line_set.ensures.words ∙ ap (λ (d : Draft). fold with_word d words) (c.in_ok-word.ensures ∙ ap (with_word c.args.text.now) c.as_slice.ensures) in
    ok_with c.end_line.result (with_end c.put_line_set.new.text) (with_line c.args.text.now (codes "violator" ∷ words)) c.end_line.new.self c.end_line.ensures
    (words_line c.args.text.now c.put_line_set.new.text (with_end c.put_line_set.new.text) (codes "violator" ∷ words) c.requires.at_start put refl)
