use Rattle.std.proofs.Common.{◌≡◌, ◌<◌, ◌+◌, ◌++◌, [], ◌∷◌, ◌∙◌, sym, subst, ℕ, List, length}
use Rattle.cmr_base.specs.Matrix.{entry}
use Rattle.cmr_base.specs.Reductions.{removal_on, rows_without}
use Rattle.sp_reduce.specs.Changes.{removal_from}
use Rattle.sp_reduce.proofs.StatedOrder.{at_start, one_step, fewer_left, at_end, removal_is}
use Rattle.sp_reduce.proofs.removal.remove_all.Goals as goal

pub steps-init : goal.steps-init
steps-init c = record {
  kind = c.requires.kind;
  paired = c.requires.paired;
  way = rw c.new-steps.ensures (at_start c.args.binary (entry c.args.matrix.now) c.args.rows.now.stays.items c.args.columns.now.stays.items);
}

pub steps-smaller : goal.steps-smaller
steps-smaller c =
    let made = c.in-Some.ensures.step in
    let R = c.steps.rows.stays.items in
    let C = c.steps.columns.stays.items in
    subst (λ (rows : List ℕ). length rows + length c.next_step.new.columns.stays.items < length R + length C) (sym made.1)
    (subst (λ (columns : List ℕ). length (rows_without R c.in-Some.step.line) + length columns < length R + length C) (sym made.2)
    (fewer_left c.args.binary (entry c.args.matrix.now) (removal_on c.args.binary (entry c.args.matrix.now) 0 R C) c.steps.steps R C c.in-Some.step made.0))

pub steps-preserved : goal.steps-preserved
steps-preserved c =
    let end = removal_from c.args.binary c.args.matrix.now c.args.rows.now c.args.columns.now in
    let made = c.in-Some.ensures.step in
    let R = c.steps.rows.stays.items in
    let C = c.steps.columns.stays.items in
    let more : c.push.new.self ≡ c.steps.steps ++ c.in-Some.step ∷ [] = c.in_ok-push.ensures.ok in
    record {
      kind = c.in-Some.ensures.kind;
      paired = c.in-Some.ensures.paired;
      way = rw (more, made.1, made.2) (one_step c.args.binary (entry c.args.matrix.now) end c.steps.steps R C c.in-Some.step made.0 c.steps.invariant.way);
    }

pub returns-clause-end : goal.returns-clause-end
returns-clause-end c =
    let end = removal_from c.args.binary c.args.matrix.now c.args.rows.now c.args.columns.now in
    let left = c.in_default.ensures.step in
    let last = at_end c.args.binary (entry c.args.matrix.now) end c.steps.steps c.steps.rows.stays.items c.steps.columns.stays.items left.0 c.steps.invariant.way in
    removal_is end c.steps.steps c.next_step.new.rows.stays.items c.next_step.new.columns.stays.items last.0 (left.1 ∙ last.1) (left.2 ∙ last.2)
