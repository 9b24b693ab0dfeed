use Rattle.std.proofs.Common.{get_or, rules, arith, w64}
use Rattle.std.proofs.lemmas.Nat.Bits.{bit_at-trailing_zeros}
use Rattle.std.specs.Int.{trailing_zeros}
use Rattle.parity.proofs.WordLemmas.{AreWords, number_of-lowest, number_of-none}
use Rattle.parity.proofs.words.lowest.Goals as goal

pub returns-then-words-place-ne0-clause-some : goal.returns-then-words-place-ne0-clause-some
returns-then-words-place-ne0-clause-some c =
    let words = c.args.words.now in
    let place = c.loop-place.place in
    let are : AreWords words = λ k. search rules in
    let zeros = bit_at-trailing_zeros w64 (get_or words place 0) (omega arith) (are place) in
    number_of-lowest words place (trailing_zeros w64 (get_or words place 0)) are zeros.0 zeros.1 zeros.2 c.loop-place.invariant

pub returns-clause-none : goal.returns-clause-none
returns-clause-none c =
    let are : AreWords c.args.words.now = λ k. search rules in
    number_of-none c.args.words.now are (λ k h. c.loop-place.invariant k (omega arith))
