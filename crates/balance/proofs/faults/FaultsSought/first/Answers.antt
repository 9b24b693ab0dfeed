use Rattle.std.proofs.Common.{◌≡◌, ◌∙◌, List, ℕ, ap, sym, subst, arith}
use Rattle.cmr_base.specs.Matrix.{height}
use Rattle.cmr_base.specs.LineSets.{IsRowSet, set_numbered}
use Rattle.cmr_base.proofs.SetNumbers.{row_set-numbered}
use Rattle.balance.specs.CandidateColumns.{MakeFault}
use Rattle.balance.proofs.FaultNumbers.{make_fault, one_more}
use Rattle.balance.proofs.faults.FaultsSought.first.Goals as goal

pub fault_columns-requires : goal.fault_columns-requires
fault_columns-requires c =
    let m = c.args.matrix.now in
    let number = c.loop-number.number in
    let set : c.deref.result.now ≡ set_numbered (height m) 0 number = c.deref.ensures.value ∙ c.in_ok-write_set.ensures ∙ ap (λ n. set_numbered n 0 number) c.rows-count.ensures.rows in
    subst (IsRowSet m) (sym set) (row_set-numbered m number)

pub returns-in-Some : goal.returns-in-Some
returns-in-Some c =
    let m = c.args.matrix.now in
    let number = c.loop-number.number in
    let set : c.deref.result.now ≡ set_numbered (height m) 0 number = c.deref.ensures.value ∙ c.in_ok-write_set.ensures ∙ ap (λ n. set_numbered n 0 number) c.rows-count.ensures.rows in
    let kept = rw c.in-Some.is at c.in_ok-_columns.ensures.kept in
    let fault = rw c.in-Some.is at c.in_ok-_columns.ensures.fault in
    (omega (arith, c.loop-number.auto.number), omega (arith, c.loop-number-test.true), subst (MakeFault m) set (make_fault m c.deref.result.now c.in-Some._columns kept fault), c.loop-number.invariant)

pub loop-number-preserved : goal.loop-number-preserved
loop-number-preserved c =
    let m = c.args.matrix.now in
    let number = c.loop-number.number in
    let set : c.deref.result.now ≡ set_numbered (height m) 0 number = c.deref.ensures.value ∙ c.in_ok-write_set.ensures ∙ ap (λ n. set_numbered n 0 number) c.rows-count.ensures.rows in
    let none = rw c.in_default.is at c.in_ok-_columns.ensures.none in
    one_more m c.args.from number (subst (λ (rs : List ℕ). ¬ (MakeFault m rs)) set none) c.loop-number.invariant
