use Rattle.std.proofs.Common.{◌∙◌, eqb, ap, sym, w64}
use Rattle.std.proofs.lemmas.Nat.Bits.{bit_at_set_same, bit_at_set_other, bit_at_clear_same, bit_at_clear_other}
use Rattle.cmr_base.proofs.planes.with_bit.Goals as goal

pub returns-then-has-clause-here : goal.returns-then-has-clause-here
returns-then-has-clause-here c = ap (λ bit. eqb bit 1) (bit_at_set_same w64 c.args.word c.args.place c.requires) ∙ sym c.if-has.true

pub returns-then-has-clause-others : goal.returns-then-has-clause-others
returns-then-has-clause-others c = λ k small other. bit_at_set_other w64 c.args.word c.args.place c.requires k other

pub returns-else-has-clause-here : goal.returns-else-has-clause-here
returns-else-has-clause-here c = ap (λ bit. eqb bit 1) (bit_at_clear_same w64 c.args.word c.args.place c.requires) ∙ sym c.if-has.false

pub returns-else-has-clause-others : goal.returns-else-has-clause-others
returns-else-has-clause-others c = λ k small other. bit_at_clear_other w64 c.args.word c.args.place c.requires k small other
