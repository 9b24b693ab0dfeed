use Rattle.std.proofs.Common.{refl}
use Rattle.cuts.proofs.PatternLemmas.{counted_class, counted_zero}
use Rattle.cuts.proofs.patterns.runs_with.Goals as goal

pub returns-then-class-eq0 : goal.returns-then-class-eq0
returns-then-class-eq0 c = λ sorted place up l here so. counted_zero sorted place c.args.class c.args.runs up l here so _ c.if-class-eq0.true refl refl refl refl

pub returns : goal.returns
returns c = λ sorted place up l here so.
    counted_class sorted place c.args.class c.args.runs up l here so _ c.if-class-eq0.false refl c.run_with-run.ensures c.longer.ensures.one c.longer.ensures.other c.longer.ensures.either refl
