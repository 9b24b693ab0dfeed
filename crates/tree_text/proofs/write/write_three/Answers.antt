use Rattle.std.proofs.Common.{◌≡◌, ◌++◌, ◌∙◌, ap, subst}
use Rattle.std.specs.Prelude.{OnOk, fold}
use Rattle.text_fields.specs.Written.{Draft, with_word}
use Rattle.tree_text.specs.CanonicalTrees.{set_words, connector_words}
use Rattle.tree_text.proofs.WrittenLines.{ended_as}
use Rattle.tree_text.proofs.write.write_three.Goals as goal

pub returns : goal.returns
returns c =
    let start = c.args.text.now in
    let three = c.args.three.now in
    let set = set_words three.side in
    let second = connector_words three.second in
    let before = c.in_ok-write_connector-2.ensures ∙ ap (λ (d : Draft). fold with_word d second) c.in_ok-write_connector.ensures in
    subst (λ (d : Draft). OnOk c.end_line.result (c.end_line.new.self ≡ d)) (ended_as c.write_set.new.text start (connector_words three.first ++ second ++ set) (c.in_ok-write_set.ensures ∙ ap (λ (d : Draft). fold with_word d set) before) c.requires) c.end_line.ensures
