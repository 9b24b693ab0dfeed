use Rattle.std.proofs.Common.{◌≡◌, ◌∙◌, ap, sym, subst, arith}
use Rattle.cmr_base.specs.Matrix.{Matrix, height}
use Rattle.cmr_base.specs.LineSets.{AllBelow, set_numbered}
use Rattle.cmr_base.specs.Violator.{HasNoColumnSet}
use Rattle.cmr_base.proofs.SetNumbers.{row_set-numbered}
use Rattle.parity.specs.GivenColumns.{HasLeastColumnSet}
use Rattle.leaf_enumerate.proofs.RowSets.{least_has, none_more}
use Rattle.leaf_enumerate.proofs.violators.first_row_set.Goals as goal

pub has-requires : goal.has-requires
has-requires c =
    let m = c.args.matrix.now in
    let number = c.loop-number.number in
    let set : c.deref.result.now ≡ set_numbered (height m) 0 number = c.deref.ensures.value ∙ c.in_ok-write_set.ensures ∙ ap (λ n. set_numbered n 0 number) c.rows-count.ensures.rows in
    subst (λ (s : Matrix). AllBelow (height s) c.deref.result.now) (sym c.loop-number.invariant.same) (subst (AllBelow (height m)) (sym set) (row_set-numbered m number).in_range)

pub returns-then-branch : goal.returns-then-branch
returns-then-branch c =
    let m = c.args.matrix.now in
    let number = c.loop-number.number in
    let numbered = set_numbered (height m) 0 number in
    let searched : c.deref.result.now ≡ numbered = c.deref.ensures.value ∙ c.in_ok-write_set.ensures ∙ ap (λ n. set_numbered n 0 number) c.rows-count.ensures.rows in
    let found : HasLeastColumnSet m numbered =
    subst (λ (s : Matrix). HasLeastColumnSet s numbered) c.loop-number.invariant.same (subst (HasLeastColumnSet c.loop-number.search) searched (c.in_ok-has.ensures.yes c.if-branch.true)) in
    (omega (arith, c.loop-number.auto.number), omega (arith, c.loop-number-test.true), least_has m number found.0 found.1, c.loop-number.invariant.none)

pub loop-number-preserved : goal.loop-number-preserved
loop-number-preserved c =
    let m = c.args.matrix.now in
    let number = c.loop-number.number in
    let searched : c.deref.result.now ≡ set_numbered (height m) 0 number = c.deref.ensures.value ∙ c.in_ok-write_set.ensures ∙ ap (λ n. set_numbered n 0 number) c.rows-count.ensures.rows in
    let none : HasNoColumnSet m (set_numbered (height m) 0 number) =
    subst (λ (s : Matrix). HasNoColumnSet s (set_numbered (height m) 0 number)) c.loop-number.invariant.same (subst (HasNoColumnSet c.loop-number.search) searched (c.in_ok-has.ensures.no c.if-branch.false)) in
    record {
      same = c.in_ok-has.ensures.same ∙ c.loop-number.invariant.same;
      none = none_more m c.args.from number none c.loop-number.invariant.none;
    }

pub returns : goal.returns
returns c = λ k low high. c.loop-number.invariant.none k low (omega (arith, c.loop-number-test.false, c.loop-number.auto.number-end))
