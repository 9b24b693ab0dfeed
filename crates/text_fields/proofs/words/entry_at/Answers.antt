use Rattle.std.proofs.Common.{rules, ◌≡◌, ◌≢◌, ◌≤◌, ◌<◌, ◌+◌, ◌-◌, ◌∙◌, length, get_or, w8, SFits, sym, arith, pos, neg_ℤ}
use Rattle.std.proofs.lemmas.Int.{to_z-of_z}
use Rattle.text_fields.proofs.EntryWords.{entry_words}
use Rattle.text_fields.proofs.words.entry_at.Goals as goal

pub returns-then-digit-le49-clause-word : goal.returns-then-digit-le49-clause-word
returns-then-digit-le49-clause-word c =
    let bytes = c.args.bytes.now in
    let at = c.args.at in
    let minus = c.from.result in
    let digit = get_or bytes (at + 1 + minus) 0 in
    let e = c.from.ensures in
    let fits : SFits w8 c.with_sign.result = search rules in
    let inside : at + 3 < length bytes = omega arith in
    let small : minus ≤ 1 = omega (arith, c.minus_count-minus.ensures.small) in
    let none : get_or bytes (at + 1) 0 ≢ 45 → minus ≡ 0 = λ h. e ∙ c.minus_count-minus.ensures.none h in
    let from : 48 + minus ≤ digit = omega arith in
    let to : digit ≤ 49 = omega arith in
    let plus : minus ≡ 0 → c.with_sign.result ≡ pos (digit - 48) = λ h. c.with_sign.ensures.plus (sym e ∙ h) in
    let negative : minus ≡ 1 → c.with_sign.result ≡ neg_ℤ (pos (digit - 48)) = λ h. c.with_sign.ensures.minus (sym e ∙ h) in
    rw (to_z-of_z w8 c.with_sign.result fits) (entry_words bytes at minus c.with_sign.result inside (sym c.if-is_space.ensures) small none from to plus negative (sym c.if-is_space-2.ensures))
