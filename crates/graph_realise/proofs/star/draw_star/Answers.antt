use Rattle.std.proofs.Common.{◌≡◌, ◌<◌, ◌∙◌, ◌||◌, sym, ap, refl, subst, arith, List, ℕ, length, get_or}
use Rattle.cmr_base.specs.Members.{IsIn}
use Rattle.cmr_base.specs.Trees.{support}
use Rattle.graph_realise.specs.Rays.{IsRay, IsRayAfter}
use Rattle.cmr_base.specs.ColumnSets.{has_column}
use Rattle.graph_realise.proofs.SideLemmas.{redrawn_more, redrawn_all, redrawn_others}
use Rattle.graph_realise.proofs.Stars.{ray_after, ray_same, rays_clear, rays_cuts, seen_more, seen_none}
use Rattle.graph_realise.proofs.star.draw_star.Goals as goal

pub loop-row-init : goal.loop-row-init
loop-row-init c = record {
  tables = c.requires.tables;
  size = c.in_ok-seen.ensures.size ∙ c.columns.ensures.columns;
  seen = seen_none (support c.args.matrix.now) c.args.rows.now (has_column c.in_ok-seen.seen.words) c.in_ok-seen.ensures.none;
  drawn = record { done = λ k l. absurd (omega arith); kept = λ r n. record { arcs = λ other. refl; ends = λ end column. refl } };
}

pub loop-row-preserved : goal.loop-row-preserved
loop-row-preserved c =
    let M = support c.args.matrix.now in
    let S = c.args.rows.now in
    let p = c.loop-row.row-index in
    let so = c.loop-row.invariant in
    let items = c.as_slice-row-items.ensures.items in
    let at : get_or c.as_slice-row-items.result.now p 0 ≡ get_or S p 0 = ap (λ (xs : List ℕ). get_or xs p 0) items in
    let inside : p < length S = subst (λ (xs : List ℕ). p < length xs) items c.loop-row-test.true in
    let ray = subst (λ (z : ℕ). IsRayAfter M (has_column c.loop-row.seen.words) z c.draw_ray.new.sides) at c.draw_ray.ensures.drawn in
    record {
      tables = c.draw_ray.ensures.tables;
      size = c.add_words.ensures.size ∙ so.size;
      seen = seen_more M S p (has_column c.loop-row.seen.words) (has_column c.add_words.new.self.words) so.seen
          (λ column. c.add_words.ensures.columns column ∙ ap (λ t. has_column c.loop-row.seen.words column || t) (c.columns_of.ensures.columns column ∙ ap (λ (z : ℕ). M z column) at));
      drawn = redrawn_more (IsRay M S) (ray_same M S) c.as_slice-row-items.result.now p c.args.sides.now c.loop-row.sides c.draw_ray.new.sides so.drawn c.draw_ray.ensures.others
          (subst (λ (z : ℕ). IsRay M S z c.draw_ray.new.sides) (sym at) (ray_after M S p (has_column c.loop-row.seen.words) c.draw_ray.new.sides
          c.as_slice-row-items.ensures.increasing inside so.seen ray));
    }

pub returns-clause-cuts : goal.returns-clause-cuts
returns-clause-cuts c =
    let M = support c.args.matrix.now in
    rays_cuts M c.args.rows.now c.loop-row.sides c.requires.few
    (λ r h. redrawn_all (IsRay M c.args.rows.now) c.as_slice-row-items.result.now c.loop-row.row-index c.args.sides.now c.loop-row.sides (omega arith) c.loop-row.invariant.drawn r
    (subst (λ (xs : List ℕ). IsIn r xs) (sym c.as_slice-row-items.ensures.items) h))

pub returns-clause-clear : goal.returns-clause-clear
returns-clause-clear c =
    let M = support c.args.matrix.now in
    rays_clear M c.args.rows.now c.loop-row.sides
    (λ r h. redrawn_all (IsRay M c.args.rows.now) c.as_slice-row-items.result.now c.loop-row.row-index c.args.sides.now c.loop-row.sides (omega arith) c.loop-row.invariant.drawn r
    (subst (λ (xs : List ℕ). IsIn r xs) (sym c.as_slice-row-items.ensures.items) h))

pub returns-clause-others : goal.returns-clause-others
returns-clause-others c = λ r n.
    redrawn_others (IsRay (support c.args.matrix.now) c.args.rows.now) c.as_slice-row-items.result.now c.loop-row.row-index c.args.sides.now c.loop-row.sides (omega arith) c.loop-row.invariant.drawn r
    (λ h. n (subst (λ (xs : List ℕ). IsIn r xs) c.as_slice-row-items.ensures.items h))
