use Rattle.std.proofs.Common.{◌≡◌, replicate, arith, rules}
use Rattle.cmr_base.proofs.CopiedRows.{no_places, one_place, all_places}
use Rattle.cmr_base.proofs.Parts.{length-increasing}
use Rattle.cmr_base.proofs.matrix.places_of.Goals as goal

pub loop-place-init : goal.loop-place-init
loop-place-init c =
    let filled : c.in_ok-places.places.items ≡ replicate c.args.columns 1000 = search rules in
    no_places c.args.columns c.args.chosen.now c.in_ok-places.places.items filled

pub overflow_cast-place : goal.overflow_cast-place
overflow_cast-place c = omega (arith, length-increasing c.args.chosen.now c.args.columns c.requires.increasing c.requires.below, c.requires.columns, c.loop-place-test.true)

pub loop-place-preserved : goal.loop-place-preserved
loop-place-preserved c =
    one_place c.args.columns c.args.chosen.now c.loop-place.places.items c.loop-place.place c.requires.increasing c.requires.below (omega (arith, c.loop-place-test.true)) c.loop-place.invariant

pub returns : goal.returns
returns c =
    all_places c.args.columns c.args.chosen.now c.loop-place.places.items c.loop-place.place c.requires.increasing c.requires.below c.requires.columns (omega (arith, c.loop-place-test.false)) c.loop-place.invariant
