use Rattle.std.proofs.Common.{Option, MatchOption, subst}
use Rattle.cmr_base.specs.declared.line_set.LineSet.{LineSet}
use Rattle.cmr_base.specs.CyclePlaces.{HasNoCycleFault, IsCycleFault}
use Rattle.cmr_base.specs.Matrix.{Matrix, entry}
use Rattle.decomp_tree.proofs.Said.{placed}
use Rattle.decomp_tree.proofs.faults.fault_from.Goals as goal

pub named_set-requires : goal.named_set-requires
named_set-requires c =
    let found = c.in-Some.found in
    let there = subst (λ (o : Option LineSet). MatchOption o (HasNoCycleFault (entry c.args.submatrix.now)) (λ lines. IsCycleFault c.args.submatrix.now lines.rows lines.columns)) c.in-Some.is c.in_ok-found.ensures.fault in
    let fault = subst (λ (n : Matrix). IsCycleFault n found.rows found.columns) c.requires.submatrix there in
    placed 0 c.args._matrix.now c.requires.shape c.args.lines.now c.requires.lines found.rows found.columns fault.row_set fault.column_set

pub returns-in_ok-named_set-in-Some : goal.returns-in_ok-named_set-in-Some
returns-in_ok-named_set-in-Some c =
    let found = c.in-Some.found in
    let there = subst (λ (o : Option LineSet). MatchOption o (HasNoCycleFault (entry c.args.submatrix.now)) (λ lines. IsCycleFault c.args.submatrix.now lines.rows lines.columns)) c.in-Some.is c.in_ok-found.ensures.fault in
    (found, subst (λ (n : Matrix). IsCycleFault n found.rows found.columns) c.requires.submatrix there, c.in_ok-named_set-in-Some.ensures)

pub returns-in-None : goal.returns-in-None
returns-in-None c =
    subst (λ (n : Matrix). HasNoCycleFault (entry n)) c.requires.submatrix
    (subst (λ (o : Option LineSet). MatchOption o (HasNoCycleFault (entry c.args.submatrix.now)) (λ lines. IsCycleFault c.args.submatrix.now lines.rows lines.columns)) c.in-None.is c.in_ok-found.ensures.fault)
