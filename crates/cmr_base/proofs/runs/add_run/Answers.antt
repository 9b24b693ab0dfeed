use Rattle.std.proofs.Common.{◌∙◌}
use Rattle.cmr_base.proofs.RunWords.{run_added}
use Rattle.cmr_base.proofs.runs.add_run.Goals as goal

pub returns : goal.returns
returns c =
    let run = c.args.run in
    run_added c.args.words.now run.column run.size c.args.made.now.items c.args.at run.place c.index_mut.result.now c.first_bits-bits.result c.requires.in_word c.requires.room c.index_mut.ensures.value
    (λ k l. c.first_bits-bits.ensures.inside k l ∙ c.bits_from.ensures k l) c.first_bits-bits.ensures.past
