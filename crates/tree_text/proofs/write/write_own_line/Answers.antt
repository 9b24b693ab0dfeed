use Rattle.std.proofs.Common.{◌≡◌, ◌∷◌, [], ◌∙◌, ap, subst}
use Rattle.std.specs.Prelude.{OnOk, fold}
use Rattle.std.specs.Fmt.{decimal}
use Rattle.text_fields.specs.Written.{Draft, with_line}
use Rattle.tree_text.proofs.WrittenLines.{one_sum_line}
use Rattle.tree_text.proofs.write.write_own_line.Goals as goal

pub returns-in-OneSum : goal.returns-in-OneSum
returns-in-OneSum c =
    subst (λ (d : Draft). OnOk c.write_children.result (c.write_children.new.text ≡ d)) (ap (λ n. with_line c.args.text.now (decimal n ∷ [])) c.len.ensures ∙ ap (fold with_line c.args.text.now) (one_sum_line c.args.node.now c.in-OneSum.children c.in-OneSum.is)) c.write_children.ensures
