use Rattle.std.proofs.Common.{◌∙◌, ap, sym, subst}
use Rattle.std.specs.List.Sorted.{IsStrictlyIncreasing}
use Rattle.tree_type.specs.Sides.{is_among}
use Rattle.tree_type.proofs.Among.{searched_among}
use Rattle.tree_type.proofs.child_lines.has_line.Goals as goal

pub returns : goal.returns
returns c =
    let same = c.as_slice.ensures.items in
    c.is_ok.ensures.value ∙ searched_among c.as_slice.result.now c.args.line c.binary_search.result (subst IsStrictlyIncreasing (sym same) c.as_slice.ensures.increasing) c.binary_search.ensures.position ∙ ap (λ xs. is_among xs c.args.line) same
