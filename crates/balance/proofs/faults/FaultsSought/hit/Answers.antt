use Rattle.std.proofs.Common.{◌∙◌, refl, subst, sym}
use Rattle.std.proofs.lemmas.Bool.{false≢true}
use Rattle.balance.specs.CandidateColumns.{MakeFault}
use Rattle.balance.proofs.FaultNumbers.{make_fault}
use Rattle.balance.proofs.faults.FaultsSought.hit.Goals as goal

pub returns-in-Some : goal.returns-in-Some
returns-in-Some c =
    let m = c.args.matrix.now in
    let set = c.as_slice.ensures.items ∙ c.in_ok-rows.ensures.numbered in
    let kept = rw c.in-Some.is at c.in_ok-_columns.ensures.kept in
    let fault = rw c.in-Some.is at c.in_ok-_columns.ensures.fault in
    ((λ yes. subst (MakeFault m) set (make_fault m c.as_slice.result.now c.in-Some._columns kept fault)), (λ made. refl))

pub returns : goal.returns
returns c =
    let m = c.args.matrix.now in
    let set = c.as_slice.ensures.items ∙ c.in_ok-rows.ensures.numbered in
    let none = rw c.in-None.is at c.in_ok-_columns.ensures.none in
    ((λ no. absurd (false≢true no)), (λ made. absurd (none (subst (MakeFault m) (sym set) made))))
