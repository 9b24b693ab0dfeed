use Rattle.std.proofs.Common.{refl, ◌∙◌, arith}
use Rattle.parity.proofs.ReducedWords.{reduced_none, reduced_more}
use Rattle.parity.proofs.narrow.eliminate.Goals as goal

pub loop-place-init : goal.loop-place-init
loop-place-init c = record { len = refl; so_far = reduced_none c.args.words.now }

pub loop-place-preserved : goal.loop-place-preserved
loop-place-preserved c =
    let so = c.loop-place.invariant in record {
      len = c.clear_later.ensures.len ∙ so.len;
      so_far = reduced_more c.loop-place.place c.args.words.now c.loop-place.words c.clear_later.new.words (omega (arith, c.loop-place-test.true, c.requires)) so.len so.so_far c.clear_later.ensures.cleared;
    }
