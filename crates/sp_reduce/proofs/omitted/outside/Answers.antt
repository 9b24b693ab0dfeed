use Rattle.std.proofs.Common.{sym, subst, get_or, List, ℕ}
use Rattle.cmr_base.specs.Indices.{IsAbove}
use Rattle.cmr_base.proofs.LineSetLemmas.{kept_below}
use Rattle.minimal_sets.specs.LeftOut.{is_outside}
use Rattle.sp_reduce.proofs.omitted.outside.Goals as goal

pub push-requires : goal.push-requires
push-requires c =
    let numbers = c.args.numbers.now in
    let i = c.numbers.number-index in
    subst (λ (taken : List ℕ). IsAbove (get_or numbers i 0) taken) (sym c.numbers.invariant)
    (kept_below (is_outside c.args.before c.args.from c.args.count) numbers i c.requires.increasing c.numbers-test.true)
