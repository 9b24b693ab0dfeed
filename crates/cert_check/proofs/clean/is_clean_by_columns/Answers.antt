use Rattle.std.proofs.Common.{◌↔◌, IsTrue, ap, arith}
use Rattle.cmr_base.specs.Matrix.{height}
use Rattle.cmr_base.specs.Violator.{HasNoViolator}
use Rattle.cmr_base.proofs.Parts.{height-transposed}
use Rattle.cert_check.proofs.Answering.{if_ok}
use Rattle.cert_check.proofs.CleanSets.{clean_transposed}
use Rattle.cert_check.proofs.clean.is_clean_by_columns.Goals as goal

pub is_clean_by_rows-requires : goal.is_clean_by_rows-requires
is_clean_by_rows-requires c = omega (arith, ap height c.in_ok-columns.ensures, height-transposed c.args.matrix.now, c.requires.few)

pub returns : goal.returns
returns c = if_ok (λ b. IsTrue b ↔ HasNoViolator c.in_ok-columns.columns) (λ b. IsTrue b ↔ HasNoViolator c.args.matrix.now)
    (λ b h. clean_transposed c.args.matrix.now c.in_ok-columns.columns b c.requires.shape c.in_ok-columns.ensures h) c.is_clean_by_rows.result c.is_clean_by_rows.ensures
