use Rattle.std.proofs.Common.{ℕ, subst, arith}
use Rattle.first_hit.specs.First.{NoneBetween}
use Rattle.first_hit.proofs.RunLemmas.{first_of_round, none_longer}
use Rattle.first_hit.proofs.search.first_hit.Goals as goal

pub returns-in-Some : goal.returns-in-Some
returns-in-Some g c =
    let holds = g.P.Probe.holds c.args.probe.now in
    let round = c.new-round.result in
    let found = first_of_round holds round c.in_ok-index.field-0 c.in_ok-index.ensures in
    let here = rw c.in-Some.is at found in
    let before = subst (λ (n : ℕ). NoneBetween holds n c.in-Some.index) c.new-round.ensures.from here.3 in
    (omega arith, omega (arith, here.1, c.new-round.ensures.to), here.2, none_longer holds 0 c.loop-from.from c.in-Some.index c.loop-from.invariant.none before)

pub loop-from-preserved : goal.loop-from-preserved
loop-from-preserved g c =
    let holds = g.P.Probe.holds c.args.probe.now in
    let round = c.new-round.result in
    let found = first_of_round holds round c.in_ok-index.field-0 c.in_ok-index.ensures in
    let here = rw c.in-None.is at found in
    let before = subst (λ (n : ℕ). NoneBetween holds n round.to) c.new-round.ensures.from here in
    record {
      below = c.new-round.ensures.to;
      rows = c.more_rows-rows.ensures;
      none = none_longer holds 0 c.loop-from.from round.to c.loop-from.invariant.none before;
    }
