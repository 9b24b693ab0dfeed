use Rattle.std.proofs.Common.{◌≡◌, ◌+◌, ◌%◌, ◌<◌, ℕ, eqb, rules, arith}
use Rattle.std.specs.Prelude.{◌↔◌, IsTrue}
use Rattle.std.proofs.lemmas.Bool.Decides.{nat_tests}
use Rattle.parity.proofs.WordLemmas.{AreWords, ones_end, ones_more}
use Rattle.parity.proofs.words.have_odd_common.Goals as goal

pub loop-place-preserved : goal.loop-place-preserved
loop-place-preserved c =
    let left : AreWords c.args.left.now = λ k. search rules in
    let right : AreWords c.args.right.now = λ k. search rules in
    let more = ones_more c.args.left.now c.args.right.now c.loop-place.place left right c.requires c.loop-place-test.true in
    record { bit = omega arith; rest = omega (arith, more, c.loop-place.invariant.rest) }

tests_one : (x y z : ℕ) → (x + z) % 2 ≡ y → z ≡ 0 → x < 2 → IsTrue (eqb x 1) ↔ (y ≡ 1)
tests_one x y z e none small = (λ h. grind (arith, nat_tests), λ h. grind (arith, nat_tests))

pub returns : goal.returns
returns c =
    tests_one c.loop-place.odd _ _ c.loop-place.invariant.rest (ones_end c.args.left.now c.args.right.now c.loop-place.place c.requires c.loop-place-test.false) c.loop-place.invariant.bit
