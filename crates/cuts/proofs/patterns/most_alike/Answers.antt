use Rattle.std.proofs.Common.{refl}
use Rattle.cuts.proofs.PatternLemmas.{counted_all, counted_none}
use Rattle.cuts.proofs.patterns.most_alike.Goals as goal

pub loop-place-init : goal.loop-place-init
loop-place-init c = counted_none c.args.sorted.now _ refl refl refl refl

pub loop-place-preserved : goal.loop-place-preserved
loop-place-preserved c = c.runs_with-runs.ensures c.args.sorted.now c.loop-place.place c.requires.increasing c.loop-place-test.true refl c.loop-place.invariant

pub returns : goal.returns
returns c = counted_all c.args.sorted.now c.loop-place.runs c.loop-place.place c.loop-place-test.false c.loop-place.invariant
