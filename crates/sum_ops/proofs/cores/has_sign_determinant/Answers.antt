use Rattle.std.proofs.Common.{◌≡◌, ◌∙◌, subst, sym, arith}
use Rattle.cmr_base.specs.Signing.{IsSign}
use Rattle.sum_ops.specs.SumCores.{core_determinant_at}
use Rattle.cmr_base.proofs.SmallNumbers.{small_as_byte}
use Rattle.sum_ops.proofs.CoreSums.{byte}
use Rattle.sum_ops.proofs.cores.has_sign_determinant.Goals as goal

pub returns : goal.returns
returns c =
    let same : byte c.core_determinant.result ≡ core_determinant_at c.args.matrix.now c.args.row c.args.column = small_as_byte 2 c.core_determinant.result (omega arith) c.core_determinant.ensures.small ∙ c.core_determinant.ensures.value in
    (λ e. subst IsSign same (c.is_sign.ensures.0 e), λ sign. c.is_sign.ensures.1 (subst IsSign (sym same) sign))
