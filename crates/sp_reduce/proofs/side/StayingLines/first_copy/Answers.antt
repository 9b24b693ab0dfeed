use Rattle.std.proofs.Common.{◌<◌, length, arith, ◌∙◌, sym, ap, get_or, Some}
use Rattle.std.proofs.lemmas.List.{get_or_read}
use Rattle.cmr_base.specs.Matrix.{entry}
use Rattle.sp_reduce.specs.LineKinds.{table}
use Rattle.sp_reduce.specs.StayingSides.{is_copy}
use Rattle.sp_reduce.proofs.Searches.{find_here, find_more}
use Rattle.sp_reduce.proofs.side.StayingLines.first_copy.Goals as goal

pub returns-then-is_copy : goal.returns-then-is_copy
returns-then-is_copy c =
    let lines = c.args.self.now.stays.items in
    let inside : c.places.other < length lines = omega (arith, c.len-other-end.ensures, c.places-test.true) in
    let test = is_copy (table (entry c.args.matrix.now) c.args.self.now.kind) c.args.across.now (get_or lines c.args.place 0) in
    ap Some (get_or_read lines c.places.other c.index.result.now inside c.index.ensures 0)
    ∙ sym (find_here test lines c.places.other inside c.places.invariant (sym c.is_copy.ensures ∙ c.if-is_copy.true))

pub places-preserved : goal.places-preserved
places-preserved c =
    let lines = c.args.self.now.stays.items in
    let inside : c.places.other < length lines = omega (arith, c.len-other-end.ensures, c.places-test.true) in
    let test = is_copy (table (entry c.args.matrix.now) c.args.self.now.kind) c.args.across.now (get_or lines c.args.place 0) in
    find_more test lines c.places.other inside c.places.invariant (sym c.is_copy.ensures ∙ c.if-is_copy.false)
