use Rattle.std.proofs.Common.{◌≡◌, ◌∷◌, ◌∙◌, ap, subst}
use Rattle.std.specs.Prelude.{OnOk, fold}
use Rattle.text_fields.specs.Written.{Draft, with_word}
use Rattle.tree_text.specs.CanonicalTrees.{number_of_line, set_words}
use Rattle.tree_text.proofs.WrittenLines.{ended_as}
use Rattle.tree_text.proofs.write.write_two.Goals as goal

pub returns : goal.returns
returns c =
    let start = c.args.text.now in
    let two = c.args.two.now in
    let set = set_words two.side in
    let before = c.in_ok-write_line-2.ensures ∙ ap (λ (d : Draft). with_word d (number_of_line two.column)) c.in_ok-write_line.ensures in
    subst (λ (d : Draft). OnOk c.end_line.result (c.end_line.new.self ≡ d)) (ended_as c.write_set.new.text start (number_of_line two.row ∷ number_of_line two.column ∷ set) (c.in_ok-write_set.ensures ∙ ap (λ (d : Draft). fold with_word d set) before) c.requires) c.end_line.ensures
