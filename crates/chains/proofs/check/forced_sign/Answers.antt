use Rattle.std.proofs.Common.{◌∙◌, rules, subst, w32, SFits}
use Rattle.std.proofs.lemmas.Int.{to_z-of_z}
use Rattle.cmr_base.specs.Members.{IsIn}
use Rattle.chains.proofs.ChainChecks.{forced_option}
use Rattle.chains.proofs.check.forced_sign.Goals as goal

pub returns : goal.returns
returns c =
    let a = c.args.matrix.now in
    let s = c.args.signs.now in
    let cycle = c.args.cycle.now in
    let lines = c.are_lines_of.ensures in
    let inside = lines.inside.0 c.if-not-are_lines_of.false in
    let row_here = subst (IsIn c.args.row) c.as_slice.ensures.items (c.has.ensures.0 c.if-not-has.false) in
    let column_here = subst (IsIn c.args.column) c.as_slice-else-not-has.ensures.items (c.has-else-not-has.ensures.0 c.if-not-has-2.false) in
    let fits : SFits w32 c.sum.result = search rules in
    forced_option a s c.args.row c.args.column cycle _ c.closing.result c.requires.matrix c.requires.signs (c.is_open.ensures.open.0 c.if-not-is_open.false)
    (record { increasing = lines.rows_increase; in_range = inside.0 }) (record { increasing = lines.columns_increase; in_range = inside.1 }) row_here column_here
    (c.have_two_each.ensures.0 c.if-not-have_two_each.false) (c.all_signed_but.ensures.0 c.if-not-all_signed_but.false) (to_z-of_z w32 c.sum.result fits ∙ c.sum.ensures) c.closing.ensures
