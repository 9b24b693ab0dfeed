use Rattle.std.proofs.Common.{◌≡◌, ◌<◌, ◌+◌, ◌∙◌, map, ap, ap₂, sym, subst, arith, List, ℕ, get_or, cond, nat_eq}
use Rattle.std.proofs.lemmas.List.{get_or_default}
use Rattle.cmr_base.specs.declared.line.Line.TheVariants.{Row, Column}
use Rattle.cmr_base.specs.Matrix.{height}
use Rattle.cmr_base.proofs.Booleans.{eq_of}
use Rattle.block_ranks.specs.Links.{HaveLabelsUpTo}
use Rattle.block_ranks.proofs.LineLabels.{labels_at_zero, labels_joined}
use Rattle.block_ranks.proofs.places.place_in_row.Goals as goal
use Rattle.block_ranks.proofs.places.place_in_row.Goals.{then-is_nonzero+in_ok-is_before_cut+else-branch, else-is_nonzero}

pub is_before_cut-requires-clause-linked : goal.is_before_cut-requires-clause-linked
is_before_cut-requires-clause-linked c =
    let m = c.args.matrix.now in
    let i = c.args.row in
    let j = c.loop-column.column in
    let labels = c.loop-column.labels.items in
    let p = c.loop-column.invariant in
    let rows = c.rows-rows.ensures.rows in
    let column_in : j < m.width = let a = c.loop-column-test.true in let b = c.columns-column-end.ensures.columns in omega arith in
    let size = p.count in
    let label : get_or labels i 0 ≡ c.index-label.result.now = get_or_default labels i 0 c.index-label.result.now (let a = c.requires.row in omega arith) ∙ sym c.index-label.ensures in
    let other : get_or labels (height m + j) 0 ≡ c.index-other.result.now =
    ap (λ (k : ℕ). get_or labels (k + j) 0) (sym rows) ∙ get_or_default labels (c.rows-rows.result + j) 0 c.index-other.result.now (omega arith) ∙ sym c.index-other.ensures in
    λ e. p.labelled (Row i) (Column j) c.requires.row column_in (label ∙ eq_of c.index-label.result.now c.index-other.result.now e ∙ sym other)

pub loop-column-preserved : goal.loop-column-preserved
loop-column-preserved c =
    let m = c.args.matrix.now in
    let i = c.args.row in
    let j = c.loop-column.column in
    let labels = c.loop-column.labels.items in
    let p = c.loop-column.invariant in
    let rows = c.rows-rows.ensures.rows in
    let column_in : j < m.width = let a = c.loop-column-test.true in let b = c.columns-column-end.ensures.columns in omega arith in
    let size = p.count in
    elim c.if-is_nonzero.branch [
      | then-is_nonzero+in_ok-is_before_cut+else-branch w ↦
          let label : get_or labels i 0 ≡ w.index-label.result.now = get_or_default labels i 0 w.index-label.result.now (let a = c.requires.row in omega arith) ∙ sym w.index-label.ensures in
          let other : get_or labels (height m + j) 0 ≡ w.index-other.result.now =
          ap (λ (k : ℕ). get_or labels (k + j) 0) (sym rows) ∙ get_or_default labels (c.rows-rows.result + j) 0 w.index-other.result.now (omega arith) ∙ sym w.index-other.ensures in
          labels_joined m i j labels p c.requires.row column_in (c.is_nonzero.ensures.yes w.if-is_nonzero.true) (w.in_ok-is_before_cut.ensures.no w.if-branch.false) c.if-is_nonzero.labels.items
          (ap (λ v. v.items) w.labels-is ∙ w.join_labels.ensures ∙ ap₂ (λ (a b : ℕ). map (λ l. cond (nat_eq l a) b l) labels) (sym label) (sym other))
      | else-is_nonzero w ↦
          subst (λ (xs : List ℕ). HaveLabelsUpTo m i (j + 1) xs) (sym (ap (λ v. v.items) w.labels-is))
          (labels_at_zero m i j labels p (c.is_nonzero.ensures.no w.if-is_nonzero.false))
    ]
