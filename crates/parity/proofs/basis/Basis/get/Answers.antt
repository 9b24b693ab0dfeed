use Rattle.std.proofs.Common.{◌≡◌, ◌<◌, ◌∙◌, ap, length, get_or, arith}
use Rattle.std.proofs.lemmas.List.{get_or_read}
use Rattle.parity.specs.Equations.{System}
use Rattle.parity.proofs.BasisLemmas.{count_is, ends_inside, equation_at, length_at}
use Rattle.parity.proofs.basis.Basis.get.Goals as goal

pub index-requires : goal.index-requires
index-requires c = omega (arith, c.requires, count_is c.self.inside c.args.self.now c.self.view_is, c.self.inside.pivots.ok)

pub words_at-requires : goal.words_at-requires
words_at-requires c = omega (arith, ends_inside c.self.inside c.args.self.now c.args.place c.self.view_is c.self.invariant c.requires, ap length c.deref.ensures.value)

pub returns-clause-equation : goal.returns-clause-equation
returns-clause-equation c =
    let a = c.self.inside in
    let here : c.args.place < length a.pivots.items = omega (arith, c.requires, count_is a c.args.self.now c.self.view_is) in
    rw (c.words_at.ensures, c.deref.ensures.value)
    (equation_at a c.args.self.now c.args.place c.index.result.now c.self.view_is c.requires (get_or_read a.pivots.items c.args.place c.index.result.now here c.index.ensures 0))

pub returns-clause-len : goal.returns-clause-len
returns-clause-len c = ap length c.words_at.ensures ∙ rw c.deref.ensures.value (length_at c.self.inside c.args.self.now c.args.place c.self.view_is c.self.invariant c.requires)

pub returns-clause-inside : goal.returns-clause-inside
returns-clause-inside c =
    let a = c.self.inside in
    let here : c.args.place < length a.pivots.items = omega (arith, c.requires, count_is a c.args.self.now c.self.view_is) in
    let pivot : c.index.result.now ≡ get_or a.pivots.items c.args.place 0 = get_or_read a.pivots.items c.args.place c.index.result.now here c.index.ensures 0 in
    let words : a.words ≡ c.args.self.now.words = ap (λ (s : System). s.words) c.self.view_is in
    omega (arith, pivot, words, c.self.invariant.inside c.args.place here)
