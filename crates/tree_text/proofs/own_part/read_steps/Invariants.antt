use Rattle.std.proofs.Common.{◌≡◌, ◌-◌}
use Rattle.text_fields.specs.Reading.{another, times, fields}
use Rattle.tree_text.specs.declared.error.TreeKind.TheVariants.{Short}
use Rattle.tree_text.specs.TreeValues.{step_in}
use Rattle.tree_text.proofs.own_part.read_steps.Given as goal

abbrev pub invariant-loop : goal.invariant-loop
invariant-loop l = times (another Short (step_in l.sizes l.lines)) (l.count - l.counter) l.steps l.words ≡ fields Short (step_in l.sizes l.lines) l.count l.fn.words
