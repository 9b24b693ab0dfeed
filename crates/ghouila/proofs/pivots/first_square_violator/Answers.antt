use Rattle.std.proofs.Common.{ℕ, take, refl, subst, arith}
use Rattle.std.proofs.lemmas.List.{get_or-take, length-take}
use Rattle.cmr_base.specs.Matrix.{entry}
use Rattle.cmr_base.proofs.Lists.{all_at}
use Rattle.cmr_base.specs.PlacedPivots.{reduced}
use Rattle.ghouila.specs.Pivot.{IsTernaryRow}
use Rattle.ghouila.proofs.pivots.first_square_violator.Goals as goal

pub returns-in-Some-clause-first : goal.returns-in-Some-clause-first
returns-in-Some-clause-first c =
    let m = c.args.work.now in
    let left = c.args.left.now in
    let place = c.loop-other.other-index in
    let ternary = λ (i : ℕ). IsTernaryRow m.width (reduced (entry m) c.args.row c.args.column i) in (
      place,
      refl,
      record {
        within = c.loop-other-test.true;
        column_in = c.in-Some.ensures.some.column_in;
        two = c.in-Some.ensures.two;
        first_row = λ k h. subst ternary (get_or-take place left k 0 h) (all_at ternary (take place left) k 0 c.loop-other.invariant (let inside = c.loop-other-test.true in omega (arith, length-take place left)));
        first_column = c.in-Some.ensures.first;
      },
    )
