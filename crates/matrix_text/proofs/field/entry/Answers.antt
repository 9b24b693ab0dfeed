use Rattle.std.proofs.Common.{◌≡◌, ◌∙◌, ℤ, Result, ap, subst, sym, rules, SFits, w8}
use Rattle.std.specs.Fmt.{signed_decimal}
use Rattle.std.proofs.lemmas.Int.{to_z-of_z}
use Rattle.text_fields.specs.Result.{◌>>=◌, renamed}
use Rattle.text_fields.specs.Reading.{placed, Gives}
use Rattle.text_fields.proofs.Entries.{entry_again}
use Rattle.text_fields.proofs.Fields.{placed_reads}
use Rattle.matrix_text.specs.declared.error.TextKind.{TextKind}
use Rattle.matrix_text.specs.TextKinds.{text_kind}
use Rattle.matrix_text.specs.Values.{allowed, entry_in}
use Rattle.matrix_text.proofs.field.entry.Goals as goal

pub returns-in-Some-clause-read : goal.returns-in-Some-clause-read
returns-in-Some-clause-read c =
    let binary = c.args.binary in
    let z = c.in-Some.entry in
    let fits : SFits w8 z = search rules in
    let read = ap (λ r. renamed text_kind r >>= allowed binary) (entry_again z c.in-Some.ensures.small) in
    let parsed : c.allowed.result ≡ entry_in binary (signed_decimal z) = c.allowed.ensures.value ∙ ap (allowed binary) (to_z-of_z w8 z fits) ∙ sym read in
    let gives = subst (λ (p : Result ℤ TextKind). Gives (λ x. x) c.at_place.result (placed c.in-Some.place p)) parsed c.at_place.ensures in
    rw c.in-Some.ensures.taken (placed_reads c.in-Some.place (entry_in binary (signed_decimal z)) c.next_entry.new.self c.at_place.result gives)
