use Rattle.std.proofs.Common.{◌≡◌, ◌/◌, ◌%◌, ◌^◌, ◌∙◌, ℕ, eqb, get_or, rules, arith, sym}
use Rattle.std.specs.Prelude.{◌↔◌, IsTrue, bit_and}
use Rattle.std.specs.Int.{bit_at}
use Rattle.std.proofs.lemmas.Bool.Decides.{nat_tests}
use Rattle.std.proofs.lemmas.Nat.Bits.{shr_and_one}
use Rattle.parity.specs.Equations.{number_of}
use Rattle.parity.proofs.WordLemmas.{AreWords, bit_at-number_of}
use Rattle.parity.proofs.words.is_set.Goals as goal

tests_one : (x y : ℕ) → x ≡ y → IsTrue (eqb x 1) ↔ (y ≡ 1)
tests_one x y e = (λ h. grind (arith, nat_tests), λ h. grind (arith, nat_tests))

pub returns : goal.returns
returns c =
    let words = c.args.words.now in
    let column = c.args.column in
    let are : AreWords words = λ k. search rules in
    tests_one (bit_and (get_or words (column / 64) 0 / 2 ^ (column % 64)) 1) (bit_at (number_of words) column)
    (shr_and_one (get_or words (column / 64) 0) (column % 64) ∙ sym (bit_at-number_of words column are))
