use Rattle.std.proofs.Common.{◌+◌, ◌∙◌, ap₂, ℕ}
use Rattle.std.specs.List.{range_with_len}
use Rattle.block_ranks.proofs.LineLabels.{own_labels_up_to}
use Rattle.block_ranks.proofs.places.place_before_cut.Goals as goal

pub loop-row-init : goal.loop-row-init
loop-row-init c =
    own_labels_up_to c.args.matrix.now c.rows.ensures.shape c.in_ok-labels.labels.items
    (c.in_ok-labels.ensures ∙ ap₂ (λ (a b : ℕ). range_with_len 0 (a + b)) c.rows.ensures.rows c.columns.ensures.columns)
