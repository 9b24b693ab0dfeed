use Rattle.std.proofs.Common.{◌∙◌, ap, ap₂, sym, ℕ, ℤ, cond, ◌+◌, ◌*◌}
use Rattle.std.specs.Int.{bit_at}
use Rattle.std.specs.Int.Bits.{bit_xor, bit_or}
use Rattle.cmr_base.specs.Differences.{differs_at}
use Rattle.cmr_base.proofs.DifferenceWords.{bit_without, bit_same, bit_negated, factor_one, factor_minus}
use Rattle.cmr_base.proofs.EntryBytes.{zero_byte}
use Rattle.cmr_base.proofs.matrix.Matrix.difference_word.Goals as goal

pub returns-then-factor-eq0 : goal.returns-then-factor-eq0
returns-then-factor-eq0 c = λ i low.
    ap (λ (word : ℕ). bit_at word i) c.support_word-support.ensures
    ∙ bit_without c.args.self.now c.args.row c.args.model c.args.chunk i c.rows-rows.ensures.shape low
    ∙ ap (λ (f : ℤ). cond (differs_at c.args.self.now c.args.row f c.args.model (64 * c.args.chunk + i)) 1 0) (sym (zero_byte c.args.factor c.requires.factor c.if-factor-eq0.true))

pub returns-then-factor-eq1 : goal.returns-then-factor-eq1
returns-then-factor-eq1 c = λ i low.
    ap₂ (λ (s t : ℕ). bit_at (bit_or s t) i) (ap₂ bit_xor c.support_word-support.ensures c.support_word-other_support.ensures) (ap₂ bit_xor c.minus_word-minus.ensures c.minus_word-other_minus.ensures)
    ∙ bit_same c.args.self.now c.args.row c.args.model c.args.chunk i c.rows-rows.ensures.shape low
    ∙ ap (λ (f : ℤ). cond (differs_at c.args.self.now c.args.row f c.args.model (64 * c.args.chunk + i)) 1 0) (sym (factor_one c.args.factor c.requires.factor c.if-factor-eq1.true))

pub returns-else-factor-eq1 : goal.returns-else-factor-eq1
returns-else-factor-eq1 c = λ i low.
    ap₂ (λ (s t : ℕ). bit_at (bit_or s t) i) (ap₂ bit_xor c.support_word-support.ensures c.support_word-other_support.ensures) (ap₂ bit_xor c.minus_word-minus.ensures (ap₂ bit_xor c.support_word-other_support.ensures c.minus_word-other_minus.ensures))
    ∙ bit_negated c.args.self.now c.args.row c.args.model c.args.chunk i c.rows-rows.ensures.shape low
    ∙ ap (λ (f : ℤ). cond (differs_at c.args.self.now c.args.row f c.args.model (64 * c.args.chunk + i)) 1 0) (sym (factor_minus c.args.factor c.requires.factor c.if-factor-eq0.false c.if-factor-eq1.false))
