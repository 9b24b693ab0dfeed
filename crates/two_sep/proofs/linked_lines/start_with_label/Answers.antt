use Rattle.std.proofs.Common.{ℕ, ◌≡◌, ◌∙◌, ◌∷◌, [], get_or, subst, sym, ap}
use Rattle.cmr_base.specs.Matrix.{height}
use Rattle.cmr_base.specs.Seeds.{line_number}
use Rattle.line_growth.specs.declared.growing_set.GrowingSet.{GrowingSet}
use Rattle.line_growth.specs.GrowingSets.{HasSameSizes}
use Rattle.line_growth.proofs.SetSteps.{same_sizes, still_sized}
use Rattle.two_sep.specs.LinkedLines.{GrowsFromLabel}
use Rattle.two_sep.proofs.linked_lines.start_with_label.Goals as goal
use Rattle.two_sep.proofs.linked_lines.start_with_label.Goals.{then-labels-place+in_ok-add, else-labels-place}

pub loop-place-init : goal.loop-place-init
loop-place-init c = record {
  size = c.start.ensures.size;
  grows = record { start = []; labelled = tt; grows = λ upper lower. c.in_ok-start.ensures.growing c.args.matrix.now upper lower };
}

pub loop-place-preserved : goal.loop-place-preserved
loop-place-preserved c =
    let m = c.args.matrix.now in
    let labels = c.args.labels.now in
    let place = c.loop-place.place in
    let so = c.loop-place.invariant in
    elim c.if-labels-place.branch [
      | then-labels-place+in_ok-add w ↦
          let line = w.line_at.ensures in
          let same : get_or labels (line_number (height m) w.line_at.result) 0 ≡ c.args.label = ap (λ (k : ℕ). get_or labels k 0) line.number ∙ w.if-labels-place.true in
          record {
            size = subst (λ (set : GrowingSet). HasSameSizes c.args.set.now set) (sym w.set-is) (same_sizes c.args.set.now c.loop-place.set w.add.new.self so.size w.add.ensures.size);
            grows = subst (λ (set : GrowingSet). GrowsFromLabel m labels c.args.label set) (sym w.set-is) (record {
              start = w.line_at.result ∷ so.grows.start;
              labelled = (record { inside = line.line; same = same }, so.grows.labelled);
              grows = λ upper lower. w.in_ok-add.ensures.growing m upper lower so.grows.start (so.grows.grows upper lower);
            });
          }
      | else-labels-place w ↦ record {
        size = subst (λ (set : GrowingSet). HasSameSizes c.args.set.now set) (sym w.set-is) so.size;
        grows = subst (λ (set : GrowingSet). GrowsFromLabel m labels c.args.label set) (sym w.set-is) so.grows;
      }
    ]

pub add-requires : goal.add-requires
add-requires c =
    let sized = still_sized c.args.matrix.now c.args.set.now c.loop-place.set c.requires.size c.loop-place.invariant.size in
    rw (sized.rows, sized.columns) c.line_at.ensures.line
