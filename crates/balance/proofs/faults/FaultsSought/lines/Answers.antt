use Rattle.std.proofs.Common.{◌∙◌, ℕ, List, subst, sym}
use Rattle.cmr_base.specs.Matrix.{entry}
use Rattle.balance.specs.BalanceFaults.{IsBalanceFault}
use Rattle.balance.specs.CandidateColumns.{AreKept, MakeFault}
use Rattle.balance.proofs.FaultNumbers.{first_fault}
use Rattle.balance.proofs.faults.FaultsSought.lines.Goals as goal

pub returns : goal.returns
returns c =
    let m = c.args.matrix.now in
    let kept = rw c.in-Some.is at c.in_ok-columns.ensures.kept in
    let fault = rw c.in-Some.is at c.in_ok-columns.ensures.fault in
    let rows = c.as_slice.ensures.items in
    first_fault m c.in_ok-columns.ensures.shape c.args.number c.in_ok-rows.rows c.in-Some.columns c.requires.inside c.requires.first c.in_ok-rows.ensures.numbered
    (subst (λ (rs : List ℕ). AreKept m rs c.in-Some.columns) rows kept) (subst (λ (rs : List ℕ). IsBalanceFault (entry m) rs c.in-Some.columns) rows fault)

pub unreachable-requires : goal.unreachable-requires
unreachable-requires c =
    let none = rw c.in-None.is at c.in_ok-columns.ensures.none in
    none (subst (MakeFault c.args.matrix.now) (sym (c.as_slice.ensures.items ∙ c.in_ok-rows.ensures.numbered)) c.requires.here)
