use Rattle.std.proofs.Common.{◌≡◌, ◌∙◌, ◌++◌, ◌*ℤ◌, ℤ, take, refl, ap₂, arith, subst}
use Rattle.cmr_base.specs.Matrix.{row_of}
use Rattle.cmr_base.proofs.SmallEntries.{entry_as_byte}
use Rattle.generate.proofs.JoinedRows.{times, one_more, all_taken}
use Rattle.generate.proofs.sums.push_multiple.Goals as goal

pub loop-column-preserved : goal.loop-column-preserved
loop-column-preserved c =
    one_more _ (row_of c.args.matrix.now c.args.row) c.loop-column.column c.args.cells.now.items c.loop-column.cells.items _ _
    (let e = c.columns-column-end.ensures.shape.rectangular c.args.row c.requires.row in let f = c.columns-column-end.ensures.columns in let t = c.loop-column-test.true in omega arith)
    c.loop-column.invariant
    (entry_as_byte c.product.result c.product.ensures.small ∙ c.product.ensures.value ∙ ap₂ (λ (x y : ℤ). x *ℤ y) refl (entry_as_byte c.entry.result c.entry.ensures.small ∙ c.entry.ensures.value))
    c.in_ok-push.ensures.items

pub returns : goal.returns
returns c =
    let row = row_of c.args.matrix.now c.args.row in
    let old = c.args.cells.now.items in
    all_taken c.args.factor row c.loop-column.column old c.loop-column.cells.items
    (let e = c.columns-column-end.ensures.shape.rectangular c.args.row c.requires.row in let f = c.columns-column-end.ensures.columns in let t = c.loop-column-test.false in omega arith)
    (subst (λ (s : ℤ). c.loop-column.cells.items ≡ old ++ times s (take c.loop-column.column row)) (entry_as_byte c.args.factor c.requires.factor) c.loop-column.invariant)
