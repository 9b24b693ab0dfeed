use Rattle.std.proofs.Common.{◌∙◌, ℕ, List, length, get_or, ap, arith}
use Rattle.std.proofs.lemmas.List.FromFn.{length-range_with_len, get_or-range_with_len}
use Rattle.cuts.proofs.groups.Groups.new.Goals as goal

pub returns-clause-names : goal.returns-clause-names
returns-clause-names c = ap (λ (names : List ℕ). length names) c.in_ok-names.ensures ∙ length-range_with_len 0 _

pub returns-clause-apart : goal.returns-clause-apart
returns-clause-apart c = λ k l.
    ap (λ (names : List ℕ). get_or names k 0) c.in_ok-names.ensures
    ∙ (let f = get_or-range_with_len 0 _ k 0 l in omega (arith, f))
