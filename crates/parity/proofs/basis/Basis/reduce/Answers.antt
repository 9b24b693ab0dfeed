use Rattle.std.proofs.Common.{◌∙◌, ◌+◌, ap, sym, drop, List}
use Rattle.parity.specs.declared.narrow.Equation.{Equation}
use Rattle.parity.specs.Equations.{number_of, reduced_by}
use Rattle.parity.proofs.BasisLemmas.{drop-equation}
use Rattle.parity.proofs.basis.Basis.reduce.Goals as goal

pub loop-place-preserved : goal.loop-place-preserved
loop-place-preserved c =
    let es = c.args.self.now.equations in
    let place = c.loop-place.place in
    let e : Equation = record { pivot = c.get-pivot.result.0; columns = number_of c.get-pivot.result.1.now } in
    ap (reduced_by (drop (place + 1) es)) c.clear_pivot.ensures
    ∙ ap (λ (fs : List Equation). reduced_by fs (number_of c.loop-place.columns)) (sym (drop-equation es place e c.get-pivot.ensures.equation))
    ∙ c.loop-place.invariant
