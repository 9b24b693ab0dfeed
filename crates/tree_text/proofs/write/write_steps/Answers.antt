use Rattle.std.proofs.Common.{◌≡◌, ◌∷◌, ◌∙◌, map, length, ap, subst}
use Rattle.std.specs.Prelude.{OnOk, fold}
use Rattle.std.specs.Fmt.{decimal}
use Rattle.text_fields.specs.Written.{Draft, with_word}
use Rattle.tree_text.specs.CanonicalTrees.{line_name}
use Rattle.tree_text.proofs.WrittenLines.{ended_as}
use Rattle.tree_text.proofs.write.write_steps.Goals as goal

pub returns : goal.returns
returns c =
    let start = c.args.text.now in
    let names = map line_name c.args.steps.now in
    subst (λ (d : Draft). OnOk c.end_line.result (c.end_line.new.self ≡ d)) (ended_as c.write_line_names.new.text start (decimal (length c.args.steps.now) ∷ names) (c.in_ok-write_line_names.ensures ∙ ap (λ (d : Draft). fold with_word d names) c.in_ok-write_count.ensures) c.requires) c.end_line.ensures
