use Rattle.std.proofs.Common.{◌≡◌, ◌∙◌, ◌+◌, ◌-◌, ap, sym, drop, arith, List}
use Rattle.parity.specs.declared.narrow.Equation.{Equation}
use Rattle.parity.specs.Equations.{corrected_by, number_of, solved}
use Rattle.parity.proofs.BasisLemmas.{drop-equation}
use Rattle.parity.proofs.basis.Basis.solve.Goals as goal

pub loop-turn-preserved : goal.loop-turn-preserved
loop-turn-preserved c =
    let es = c.args.self.now.equations in
    let start = number_of c.args.columns.now in
    let place = c.len-count.result - 1 - c.loop-turn.turn in
    let e : Equation = record { pivot = c.get-pivot.result.0; columns = number_of c.get-pivot.result.1.now } in
    let before : c.len-count.result - c.loop-turn.turn ≡ place + 1 = omega arith in
    let after : place ≡ c.len-count.result - (c.loop-turn.turn + 1) = omega arith in
    c.correct.ensures
    ∙ ap (corrected_by e) (c.loop-turn.invariant ∙ ap (λ n. solved (drop n es) start) before)
    ∙ ap (λ (fs : List Equation). solved fs start) (sym (drop-equation es place e c.get-pivot.ensures.equation) ∙ ap (λ n. drop n es) after)
