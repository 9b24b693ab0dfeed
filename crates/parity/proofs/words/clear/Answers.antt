use Rattle.std.proofs.Common.{◌≡◌, ◌∙◌, ap, length, rules, replicate}
use Rattle.parity.specs.Equations.{number_of}
use Rattle.parity.proofs.WordLemmas.{number_of-zeros}
use Rattle.parity.proofs.words.clear.Goals as goal

pub returns : goal.returns
returns c =
    let e : c.fill.new.self ≡ replicate (length c.args.words.now) 0 = search rules in
    ap number_of e ∙ number_of-zeros (length c.args.words.now)
