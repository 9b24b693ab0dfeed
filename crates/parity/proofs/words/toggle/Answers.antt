use Rattle.std.proofs.Common.{◌≡◌, ◌<◌, ◌*◌, ◌%◌, ◌^◌, rules, arith}
use Rattle.std.proofs.lemmas.Nat.{one_shl}
use Rattle.parity.proofs.WordLemmas.{AreWords, number_of-toggle}
use Rattle.parity.proofs.words.toggle.Goals as goal

pub returns : goal.returns
returns c =
    let words = c.args.words.now in
    let column = c.args.column in
    let are : AreWords words = λ k. search rules in
    let low : column % 64 < 64 = omega arith in
    let one : (1 * 2 ^ (column % 64)) % 2 ^ 64 ≡ 2 ^ (column % 64) = one_shl (column % 64) 64 low in
    rw one (number_of-toggle words column are c.requires)
