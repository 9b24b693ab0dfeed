use Rattle.std.proofs.Common.{◌∙◌, sym, subst}
use Rattle.cmr_base.specs.Matrix.{Matrix, height}
use Rattle.chains.specs.ChainStates.{AreLabels}
use Rattle.chains.proofs.ChainViolators.{same_zeros}
use Rattle.chains.proofs.check.follow.Goals as goal

pub sign_by_steps-kept-requires : goal.sign_by_steps-kept-requires
sign_by_steps-kept-requires c =
    let a = c.args.matrix.now in
    let none = c.in_ok-signs.ensures ∙ same_zeros c.rows.result c.columns.result (height a) a.width c.rows.ensures.rows c.columns.ensures.columns in
    record {
      matrix = c.rows.ensures.shape;
      unsigned = none;
      labels = subst (λ (s : Matrix). AreLabels a s c.in_ok-labels.labels.items) (sym none) c.in_ok-labels.ensures;
    }
