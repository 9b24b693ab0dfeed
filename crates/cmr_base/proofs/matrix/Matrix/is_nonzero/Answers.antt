use Rattle.std.proofs.Common.{◌%◌, ◌∙◌, ap}
use Rattle.cmr_base.specs.Planes.{has_bit}
use Rattle.cmr_base.proofs.NextNonzeros.{bit_of_word}
use Rattle.cmr_base.proofs.matrix.Matrix.is_nonzero.Goals as goal

pub returns : goal.returns
returns c =
    c.has_bit.ensures ∙ ap (λ word. has_bit word (c.args.column % 64)) c.support_word.ensures
    ∙ bit_of_word c.args.self.now c.args.row c.args.column
