use Rattle.std.proofs.Common.{◌≡◌, SFits, get_or, to_z, of_z, w8, rules, ap, arith, pos, ◌∙◌, ap₂}
use Rattle.std.proofs.lemmas.List.{take_all}
use Rattle.std.proofs.lemmas.Int.{to_z-of_z}
use Rattle.cmr_base.specs.ReversedNetworks.{reversed_pair, reversed_pairs}
use Rattle.network_orient.proofs.ReversedPairs.{reversed_more}
use Rattle.network_orient.proofs.reversing.reversed_pairs.Goals as goal

pub loop-index-preserved : goal.loop-index-preserved
loop-index-preserved c =
    let sign = get_or c.args.signs.now c.loop-index.index (pos 0) in
    let fits : SFits w8 sign = search rules in
    let kept : to_z w8 (of_z w8 sign) ≡ sign = to_z-of_z w8 sign fits in
    reversed_more c.args.pairs.now c.args.signs.now c.loop-index.index (record { tail = 0; head = 0 }) (pos 0) c.loop-index.reversed c.push.new.self c.reversed_pair.result c.requires.each
    (omega (arith, c.loop-index-test.true)) c.loop-index.invariant c.in_ok-push.ensures.ok (c.reversed_pair.ensures ∙ ap (reversed_pair (get_or c.args.pairs.now c.loop-index.index (record { tail = 0; head = 0 }))) kept)

pub returns : goal.returns
returns c =
    c.loop-index.invariant
    ∙ ap₂ reversed_pairs (take_all c.loop-index.index c.args.pairs.now (omega (arith, c.loop-index-test.false))) (take_all c.loop-index.index c.args.signs.now (omega (arith, c.loop-index-test.false, c.requires.each)))
