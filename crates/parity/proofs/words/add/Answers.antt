use Rattle.std.proofs.Common.{◌∙◌, ap, get_or, length, ℕ, List, sym, rules, arith}
use Rattle.std.specs.Prelude.{bit_xor}
use Rattle.std.proofs.lemmas.Simd.{get_or-zip2, length-zip2}
use Rattle.parity.proofs.WordLemmas.{AreWords, number_of-xor}
use Rattle.parity.proofs.words.add.Goals as goal

pub returns : goal.returns
returns c =
    let xs = c.args.words.now in
    let ys = c.args.other.now in
    let x_words : AreWords c.args.words.now = λ k. search rules in
    let y_words : AreWords c.args.other.now = λ k. search rules in
    number_of-xor xs ys c.xor_words.new.into x_words y_words (sym c.requires) (ap length c.xor_words.ensures ∙ length-zip2 bit_xor xs ys c.requires)
    (λ k h. ap (λ (ws : List ℕ). get_or ws k 0) c.xor_words.ensures ∙ get_or-zip2 bit_xor xs ys k 0 0 0 h (omega (arith, c.requires)))
