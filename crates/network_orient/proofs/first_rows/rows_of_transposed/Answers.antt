use Rattle.std.proofs.Common.{◌≡◌, ◌∙◌, ℕ, ap, sym, subst, arith}
use Rattle.cmr_base.specs.Matrix.{Matrix, height, transposed}
use Rattle.cmr_base.specs.Supports.{HaveOneSupport}
use Rattle.cmr_base.specs.Trees.{IsNetworkOf}
use Rattle.cmr_base.proofs.Parts.{height-transposed, is_ternary-transposed}
use Rattle.cmr_base.proofs.WholeMatrices.{is_ternary}
use Rattle.network_orient.specs.SignsBetween.{AreSignsBetween}
use Rattle.network_orient.proofs.FirstRows.{none_in_transposed}
use Rattle.network_orient.proofs.Orientations.{one_support, one_support_transposed}
use Rattle.network_orient.proofs.first_rows.rows_of_transposed.Goals as goal

pub matrix-requires-clause-network : goal.matrix-requires-clause-network
matrix-requires-clause-network c =
    let m = c.args.matrix.now in
    subst (λ (rows : ℕ). IsNetworkOf c.args.net.now rows c.rows.result) (height-transposed m ∙ sym c.columns.ensures.columns)
    (subst (λ (columns : ℕ). IsNetworkOf c.args.net.now (height (transposed m)) columns) (sym c.rows.ensures.rows) c.requires.network)

pub signs_between-requires : goal.signs_between-requires
signs_between-requires c =
    let m = c.args.matrix.now in
    let reproduced = c.in_ok-reproduced in
    let ternary = is_ternary-transposed m (is_ternary m c.rows.ensures.shape) in
    subst (λ (n : Matrix). HaveOneSupport n m) (sym c.in_ok-transposed.ensures)
    (one_support_transposed reproduced.reproduced m reproduced.ensures.shape.rectangular c.rows.ensures.shape.rectangular
    (one_support c.args.net.now reproduced.reproduced (transposed m) reproduced.ensures.shape.rectangular ternary.rectangular (reproduced.ensures.rows ∙ c.columns.ensures.columns ∙ sym (height-transposed m)) (reproduced.ensures.columns ∙ c.rows.ensures.rows)
    reproduced.ensures.reproduced c.requires))

pub returns-in-Found : goal.returns-in-Found
returns-in-Found c =
    let m = c.args.matrix.now in
    let reproduced = c.in_ok-reproduced in
    let other = c.in_ok-transposed.transposed in
    let free = none_in_transposed c.args.net.now reproduced.reproduced other reproduced.ensures.shape reproduced.ensures.reproduced c.in_ok-transposed.ensures in
    let found = subst (AreSignsBetween other m) c.in-Found.is c.in_ok-signs_between.ensures in
    let whole : height other ≡ height m = ap height c.in_ok-transposed.ensures ∙ height-transposed reproduced.reproduced ∙ reproduced.ensures.columns ∙ c.rows.ensures.rows in
    λ t first last path l. found.passed free t first last path (omega (arith, l, whole, c.rows-in-Found.ensures.rows))

pub returns : goal.returns
returns c =
    let m = c.args.matrix.now in
    let reproduced = c.in_ok-reproduced in
    let other = c.in_ok-transposed.transposed in
    let free = none_in_transposed c.args.net.now reproduced.reproduced other reproduced.ensures.shape reproduced.ensures.reproduced c.in_ok-transposed.ensures in
    ((subst (AreSignsBetween other m) c.in-WrongRow.is c.in_ok-signs_between.ensures).first free).before
