use Rattle.std.proofs.Common.{◌∙◌, ◌<◌, arith, refl, subst, sym}
use Rattle.cmr_base.specs.Matrix.{Matrix}
use Rattle.camion_sign.specs.Walks.{HasValuesBefore, HasWalked}
use Rattle.cmr_base.proofs.Booleans.{true_is_false}
use Rattle.camion_sign.proofs.FirstFaults.{column_fault, one_more_last, zeros_last}
use Rattle.camion_sign.proofs.fault.fault_from.Goals as goal

pub returns-then-is_fault-clause-found : goal.returns-then-is_fault-clause-found
returns-then-is_fault-clause-found c = (
  refl,
  refl,
  column_fault c.args.matrix.now c.args.start.row c.args.start.column c.in-Some.last c.in_ok-path_to.field-0.items (c.is_fault.ensures.fault.0 c.if-is_fault.true) c.in_ok-path_to.ensures
      (zeros_last c.args.matrix.now c.by_rows-in-loop-last.result.now c.args.start.row c.args.start.column c.loop-last.from c.in-Some.last c.by_rows-in-loop-last.ensures.matrix c.loop-last.invariant.none c.in-Some.ensures.first.3),
)

pub loop-last-preserved : goal.loop-last-preserved
loop-last-preserved c =
    let m = c.args.matrix.now in
    let none = zeros_last m c.by_rows-in-loop-last.result.now c.args.start.row c.args.start.column c.loop-last.from c.in-Some.last c.by_rows-in-loop-last.ensures.matrix c.loop-last.invariant.none c.in-Some.ensures.first.3 in
    let inside : c.in-Some.last < m.width = subst (λ (a : Matrix). c.in-Some.last < a.width) c.by_rows-in-loop-last.ensures.matrix c.in-Some.ensures.first.1 in
    record {
      none = one_more_last m c.args.start.row c.args.start.column c.in-Some.last none (λ path f. true_is_false (sym (c.is_fault.ensures.fault.1 (path, f)) ∙ c.if-is_fault.false));
      low = omega (arith, c.loop-last.invariant.low, c.in-Some.ensures.first.0);
      inside = omega (arith, inside);
    }

pub walk_from-requires-clause-values : goal.walk_from-requires-clause-values
walk_from-requires-clause-values c =
    subst (λ (values : Matrix). HasValuesBefore c.args.matrix.now values c.args.start.row) (sym c.by_rows.ensures.matrix)
    (record { small = c.requires.fits.matrix.small; same_height = refl; same_width = refl; nonzero = λ i j l h. h })

pub is_fault-requires-clause-walked : goal.is_fault-requires-clause-walked
is_fault-requires-clause-walked c =
    subst (λ (values : Matrix). HasWalked c.args.matrix.now values c.args.start.row c.args.start.column c.walk_from.new.walk) c.by_rows.ensures.matrix c.in_ok-walk_from.ensures

pub path_to-requires-clause-walked : goal.path_to-requires-clause-walked
path_to-requires-clause-walked c = (c.by_rows.result.now, c.in_ok-walk_from.ensures)
