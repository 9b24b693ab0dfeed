use Rattle.std.proofs.Common.{◌≡◌, ◌∙◌, Ok, true, true≢false, ap, sym}
use Rattle.std.specs.Fmt.{decimal}
use Rattle.std.specs.Str.{bytes_eq}
use Rattle.std.proofs.lemmas.Slice.Eq.{bytes_eq-Decides}
use Rattle.text_fields.specs.Numbers.{count_in}
use Rattle.text_fields.proofs.Decimals.{count_of_decimal}
use Rattle.netstrings.proofs.length.length_in.Goals as goal

pub returns-in_default-clause-none : goal.returns-in_default-clause-none
returns-in_default-clause-none c n small e =
    let read : count_in c.args.digits.now ≡ Ok n = ap count_in e ∙ count_of_decimal n small in
    let was = c.in_default.ensures.value ∙ read in
    cc

pub returns-else-eq-clause-none : goal.returns-else-eq-clause-none
returns-else-eq-clause-none c n small e =
    let read : count_in c.args.digits.now ≡ Ok n = ap count_in e ∙ count_of_decimal n small in
    let was : Ok c.in-Ok.count ≡ Ok n = c.in-Ok.ensures.value ∙ read in
    let same : c.in-Ok.count ≡ n = cc in
    let equal : c.as_bytes.result.now ≡ c.args.digits.now = c.as_bytes.ensures.value ∙ c.format.ensures.text ∙ ap decimal same ∙ sym e in
    let yes : bytes_eq c.as_bytes.result.now c.args.digits.now ≡ true = (bytes_eq-Decides c.as_bytes.result.now c.args.digits.now).1 equal in
    true≢false (sym yes ∙ sym c.eq.ensures ∙ c.if-eq.false)
