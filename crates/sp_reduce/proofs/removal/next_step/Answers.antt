use Rattle.std.proofs.Common.{◌≡◌, ◌∙◌, sym, ap, subst}
use Rattle.cmr_base.specs.Matrix.{entry}
use Rattle.sp_reduce.specs.declared.kind.LineKind.{LineKind}
use Rattle.sp_reduce.specs.LineKinds.{line_named, index_of_line, other_kind}
use Rattle.sp_reduce.specs.StayingSides.{first_step_of}
use Rattle.sp_reduce.proofs.StatedOrder.{by_row, without_row, columns_next}
use Rattle.sp_reduce.proofs.removal.next_step.Goals as goal

pub returns-in-Some-clause-step : goal.returns-in-Some-clause-step
returns-in-Some-clause-step c =
    let M = entry c.args.matrix.now in
    let R = c.args.rows.now.stays.items in
    let C = c.args.columns.now.stays.items in
    let step = c.in-Some.step in
    let made = c.in-Some.ensures.step in
    let removed = without_row R C c.remove_first.new.own.stays.items c.remove_first.new.across.stays.items step.line
    (subst (λ (kind : LineKind). step.line ≡ line_named kind (index_of_line step.line)) c.requires.kind c.in-Some.ensures.named) made.1 c.remove_first.ensures.across in (
      by_row c.args.binary M R C step (ap (λ (kind : LineKind). first_step_of c.args.binary M kind R C R) (sym c.requires.kind) ∙ made.0),
      removed.0,
      removed.1,
    )

pub returns-in-None-clause-step : goal.returns-in-None-clause-step
returns-in-None-clause-step c =
    let M = entry c.args.matrix.now in
    let R = c.args.rows.now.stays.items in
    let C = c.args.columns.now.stays.items in
    let rows = c.remove_first.new.own in
    let columns = c.remove_first.new.across in
    let none = c.in-None.ensures.step in
    columns_next c.args.binary M columns.kind R C rows.stays.items columns.stays.items c.remove_first-in-None.new.across.stays.items c.remove_first-in-None.new.own.stays.items c.remove_first-in-None.result
    (c.remove_first.ensures.paired.kinds ∙ ap other_kind (c.remove_first.ensures.kind ∙ c.requires.kind)) none.1 c.remove_first.ensures.across c.remove_first-in-None.ensures.across
    (ap (λ (kind : LineKind). first_step_of c.args.binary M kind R C R) (sym c.requires.kind) ∙ none.0)
    c.remove_first-in-None.ensures.named c.remove_first-in-None.ensures.step
