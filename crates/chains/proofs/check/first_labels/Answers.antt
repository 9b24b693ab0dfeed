use Rattle.std.proofs.Common.{◌+◌, ◌∙◌, ℕ, List, length, slice_index, ap, ap₂, arith}
use Rattle.std.specs.List.{range_with_len}
use Rattle.std.proofs.lemmas.List.FromFn.{length-range_with_len, get_or-range_with_len}
use Rattle.std.proofs.lemmas.Result.{IfOk-weaker}
use Rattle.cmr_base.specs.Matrix.{height}
use Rattle.chains.proofs.ChainLabels.{own_labels_are}
use Rattle.chains.proofs.check.first_labels.Goals as goal

pub returns : goal.returns
returns c =
    let m = c.args.matrix.now in
    let sizes = ap₂ (λ (rows columns : ℕ). range_with_len 0 (rows + columns)) c.rows.ensures.rows c.columns.ensures.columns in
    IfOk-weaker c.own_labels.result _ _
    (λ labels e.
    let made = e ∙ sizes in
    let size = ap (λ (items : List ℕ). length items) made ∙ length-range_with_len 0 (height m + m.width) in
    own_labels_are m labels.items size (λ k l. ap (λ (items : List ℕ). slice_index items k) made ∙ (let f = get_or-range_with_len 0 (height m + m.width) k 0 (omega arith) in omega arith)))
    c.own_labels.ensures
