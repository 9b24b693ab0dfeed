use Rattle.std.proofs.Common.{◌≡◌, ◌<◌, ◌+◌, ◌∙◌, sym, refl, true, [], ◌∷◌, arith}
use Rattle.cmr_base.specs.Planes.{has_bit}
use Rattle.line_growth.specs.GrowingLines.{IsBitOf}
use Rattle.line_growth.proofs.LineSteps.{bit_in, found_until, found_all, grown_more}
use Rattle.line_growth.proofs.growing_lines.GrowingLines.add_word.Goals as goal

pub loop-bit-preserved : goal.loop-bit-preserved
loop-bit-preserved c =
    let lines = c.loop-bit.self in
    let so = c.loop-bit.invariant in
    let bit = c.in-Some.bit in
    let low : bit < 64 = let l = c.in-Some.ensures.1 in omega arith in
    let has : has_bit c.args.word bit ≡ true = sym (bit_in c.args.word bit low) ∙ c.in-Some.ensures.2 in
    let added = c.in_ok-add.ensures.added in
    record {
      from_in = omega arith;
      found = found_until (c.args.word ∷ []) lines c.add.new.self c.args.first c.loop-bit.from bit added.grown.kept so.found c.in-Some.ensures.3 added.line_in;
      grown = grown_more (IsBitOf c.args.first c.args.word) c.args.self.now lines c.add.new.self so.grown (c.args.first + bit) added (bit, low, has, refl);
    }

pub returns-clause-taken : goal.returns-clause-taken
returns-clause-taken c = λ k l e. found_all (c.args.word ∷ []) c.loop-bit.self c.args.first c.loop-bit.from c.loop-bit.invariant.found c.in_default.ensures k (bit_in c.args.word k l ∙ e)
