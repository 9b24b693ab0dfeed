use Rattle.std.proofs.Common.{◌≡◌, ◌∙◌, ap, rules, replicate}
use Rattle.parity.specs.Equations.{number_of}
use Rattle.parity.proofs.WordLemmas.{number_of-zeros}
use Rattle.parity.proofs.words.empty_set.Goals as goal

pub returns-clause-none : goal.returns-clause-none
returns-clause-none c =
    let e : c.in_ok-vec.field-0.items ≡ replicate c.args.words 0 = search rules in
    ap number_of e ∙ number_of-zeros c.args.words
