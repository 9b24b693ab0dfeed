use Rattle.std.proofs.Common.{◌≡◌, ◌∙◌, ◌++◌, ◌∷◌, [], ap, ap₂, sym, List, ℕ, rules}
use Rattle.parity.specs.declared.narrow.Equation.{Equation}
use Rattle.parity.specs.Equations.{System, number_of}
use Rattle.parity.specs.BasisView.{paired}
use Rattle.parity.proofs.BasisLemmas.{paired-push}
use Rattle.parity.proofs.basis.Basis.push.Goals as goal

pub returns-clause-ok : goal.returns-clause-ok
returns-clause-ok c =
    let a = c.self.inside in
    let e : Equation = record { pivot = c.args.pivot; columns = number_of c.args.columns.now } in
    let pivots : c.push.new.self.items ≡ a.pivots.items ++ c.args.pivot ∷ [] = c.in_ok-push.ensures.items in
    let flat : c.extend_from_slice.new.self.items ≡ a.equations.items ++ c.args.columns.now = search rules in
    let words : c.args.self.now.words ≡ a.words = ap (λ (s : System). s.words) (sym c.self.view_is) in
    ap₂ (λ (ps flat : List ℕ). record { words = a.words; equations = paired a.words ps flat }) pivots flat
    ∙ ap (λ (es : List Equation). record { words = a.words; equations = es }) (paired-push a.words a.pivots.items a.equations.items c.args.pivot c.args.columns.now c.self.invariant.whole (c.requires.columns ∙ words))
    ∙ ap (λ (s : System). record { words = s.words; equations = s.equations ++ e ∷ [] }) c.self.view_is
