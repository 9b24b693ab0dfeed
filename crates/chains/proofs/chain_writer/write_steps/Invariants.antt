use Rattle.std.proofs.Common.{◌≡◌, false, map, take}
use Rattle.std.specs.Prelude.{fold}
use Rattle.std.specs.List.{AllByRecursion}
use Rattle.text_fields.specs.Written.{with_line}
use Rattle.chains.specs.ChainTexts.{step_words, IsIncreasingStep}
use Rattle.chains.proofs.chain_writer.write_steps.Given as goal

abbrev pub invariant-loop-step : goal.invariant-loop-step
invariant-loop-step l = (l.text ≡ fold with_line l.fn.text (map step_words (take l.step-index l.steps))) × (l.text.is_begun ≡ false) × AllByRecursion IsIncreasingStep (take l.step-index l.steps)
