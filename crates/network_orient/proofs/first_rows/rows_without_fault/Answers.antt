use Rattle.std.proofs.Common.{subst}
use Rattle.cmr_base.specs.Matrix.{Matrix}
use Rattle.cmr_base.proofs.WholeMatrices.{is_ternary}
use Rattle.network_orient.specs.Orientations.{IsOrientation}
use Rattle.network_orient.proofs.SignedSupports.{signed_graphic}
use Rattle.network_orient.proofs.first_rows.rows_without_fault.Goals as goal

pub returns-in-Directed : goal.returns-in-Directed
returns-in-Directed c =
    let m = c.args.matrix.now in
    let found = subst (λ (n : Matrix). IsOrientation n c.in_ok-orientation_of.field-0) c.by_rows.ensures.matrix c.in_ok-orientation_of.ensures in
    let reproduced = subst (IsOrientation m) c.in-Directed.is found in
    λ t first last path l. ((signed_graphic m (is_ternary m c.by_rows.ensures.shape)).0 (c.in-Directed.field-0, reproduced)).1 t first last path

pub returns-in-WrongSigns : goal.returns-in-WrongSigns
returns-in-WrongSigns c =
    let found = subst (λ (n : Matrix). IsOrientation n c.in_ok-orientation_of.field-0) c.by_rows.ensures.matrix c.in_ok-orientation_of.ensures in
    ((subst (IsOrientation c.args.matrix.now) c.in-WrongSigns.is found).2).before
