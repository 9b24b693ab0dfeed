use Rattle.std.proofs.Common.{◌≡◌, ◌<◌, ◌∷◌, ℕ, List, pos, negsuc, ap, sym, arith}
use Rattle.std.proofs.lemmas.Fmt.{decimal_digit}
use Rattle.std.proofs.lemmas.Int.{ints}
use Rattle.text_fields.proofs.Entries.{minus_one_text}
use Rattle.text_fields.proofs.writer.spaced_entry.Goals as goal

pub returns-then-entry-lt0-clause-text : goal.returns-then-entry-lt0-clause-text
returns-then-entry-lt0-clause-text c =
    let size : c.unsigned_abs-digit.result ≡ 1 = omega (arith, ints) in
    let is : c.args.entry ≡ negsuc 0 = omega (arith, ints) in
    rw (size, is) (ap (λ (text : List ℕ). 32 ∷ text) (sym minus_one_text))

pub returns-else-entry-lt0-clause-text : goal.returns-else-entry-lt0-clause-text
returns-else-entry-lt0-clause-text c =
    let small : c.unsigned_abs-digit.result < 10 = omega (arith, ints) in
    let is : c.args.entry ≡ pos c.unsigned_abs-digit.result = omega (arith, ints) in
    rw is (ap (λ (text : List ℕ). 32 ∷ text) (sym (decimal_digit c.unsigned_abs-digit.result small)))
