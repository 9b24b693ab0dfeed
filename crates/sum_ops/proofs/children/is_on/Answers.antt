use Rattle.std.proofs.Common.{◌∙◌, ap, sym, Bool, List, ℕ, nat_eq}
use Rattle.std.specs.List.{list_any}
use Rattle.sum_ops.specs.Children.{on_list}
use Rattle.sum_ops.proofs.children.is_on.Goals as goal

pub returns-then-inside : goal.returns-then-inside
returns-then-inside c =
    c.contains.ensures.value
    ∙ ap (λ (items : List ℕ). list_any (λ y. nat_eq y c.args.line) items) c.as_slice.ensures.items
    ∙ ap (λ (b : Bool). on_list b c.args.side.now c.args.line) (sym c.if-inside.true)
