use Rattle.std.proofs.Common.{◌≡◌, ◌-◌, []}
use Rattle.text_fields.specs.Reading.{times}
use Rattle.chains.specs.ChainTexts.{another_step}
use Rattle.chains.proofs.chain_text.steps.Given as goal

abbrev pub invariant-loop : goal.invariant-loop
invariant-loop l = times (another_step l.rows l.columns) (l.count - l.counter) l.steps l.words ≡ times (another_step l.rows l.columns) l.count [] l.fn.words
