use Rattle.std.proofs.Common.{◌∙◌, ℕ, List, length, ap}
use Rattle.cmr_base.proofs.DrawnNumbers.{length-draws}
use Rattle.generate.proofs.sums.generated_sum.Goals as goal

pub negated-requires : goal.negated-requires
negated-requires c = ap (λ (xs : List ℕ). length xs) (c.deref.ensures.value ∙ c.in_ok-signs.ensures.numbers) ∙ length-draws c.rows.result 2 0 c.args.number ∙ c.rows.ensures.rows
