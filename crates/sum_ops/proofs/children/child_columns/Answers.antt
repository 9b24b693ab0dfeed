use Rattle.std.proofs.Common.{◌||◌, ap, sym, subst, length, get_or, List, ℕ, arith}
use Rattle.std.specs.List.{list_any}
use Rattle.cmr_base.specs.declared.line.Line.TheVariants.{Column}
use Rattle.cmr_base.specs.Indices.{IsAbove}
use Rattle.cmr_base.specs.Separations.{is_same_line}
use Rattle.cmr_base.proofs.LineSetLemmas.{kept_below}
use Rattle.sum_ops.specs.Children.{on_list}
use Rattle.sum_ops.proofs.children.child_columns.Goals as goal

pub push-requires : goal.push-requires
push-requires c =
    let lines = c.args.columns.now in
    let i = c.loop-column.column-index in
    let same = c.as_slice-column-items.ensures.items in
    rw same (subst (λ (child : List ℕ). IsAbove (get_or lines i 0) child) (sym c.loop-column.invariant)
    (kept_below (λ line. on_list c.args.inside c.args.side.now line || list_any (is_same_line (Column line)) c.args.more.now) lines i c.as_slice-column-items.ensures.increasing (omega (arith, ap length same))))
