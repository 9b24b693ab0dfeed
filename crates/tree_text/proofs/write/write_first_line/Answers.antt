use Rattle.std.proofs.Common.{◌≡◌, ◌∷◌, ◌∙◌, ap, subst}
use Rattle.std.specs.Prelude.{OnOk, fold}
use Rattle.text_fields.specs.Written.{Draft, with_word}
use Rattle.tree_text.specs.KindWords.{word_of_kind, kind_of}
use Rattle.tree_type.specs.DecompositionTrees.{tree_of, finding_of}
use Rattle.tree_text.specs.CanonicalTrees.{set_words}
use Rattle.tree_text.proofs.WrittenLines.{ended_as}
use Rattle.tree_text.proofs.write.write_first_line.Goals as goal

pub returns : goal.returns
returns c =
    let start = c.args.text.now in
    let set = set_words c.args.node.now.lines in
    let word = c.in_ok-word.ensures ∙ ap (with_word start) (c.word_of.ensures ∙ ap word_of_kind c.kind_of.ensures) in
    subst (λ (d : Draft). OnOk c.end_line.result (c.end_line.new.self ≡ d)) (ended_as c.write_set.new.text start (word_of_kind (kind_of (finding_of (tree_of c.args.node.now))) ∷ set) (c.in_ok-write_set.ensures ∙ ap (λ (d : Draft). fold with_word d set) word) c.requires) c.end_line.ensures
