use Rattle.std.proofs.Common.{◌≡◌, ◌+◌, ℕ, sym, subst, arith, inl, inr, get_or}
use Rattle.std.proofs.lemmas.Bool.{cases_eq}
use Rattle.cmr_base.specs.Matrix.{height}
use Rattle.cmr_base.specs.Trees.{support}
use Rattle.cmr_base.proofs.Places.{members_below}
use Rattle.bridge_split.specs.PartNumbers.{number_at, IsBetweenParts}
use Rattle.bridge_split.specs.declared.part_walk.PartWalk.{PartWalk}
use Rattle.bridge_split.proofs.PartWalks.{all_numbered, some_or_none}
use Rattle.bridge_split.proofs.NumberSteps.{passed_more}
use Rattle.bridge_split.proofs.part_walk.PartWalk.number_parts.Goals as goal
use Rattle.bridge_split.proofs.part_walk.PartWalk.number_parts.Goals.{then-is_left, else-is_left}

pub set_zeros-requires-clause-row : goal.set_zeros-requires-clause-row
set_zeros-requires-clause-row c = members_below (height c.args.matrix.now) c.args.rows.now c.requires.rows c.args.row c.requires.row

pub loop-place-preserved : goal.loop-place-preserved
loop-place-preserved c =
    let m = c.args.matrix.now in
    let S = c.args.rows.now in
    let i = c.args.row in
    let p = c.loop-place.place in
    let so = c.loop-place.invariant in
    let s = c.loop-place.self in
    let at : (v : PartWalk) (count : ℕ) → c.if-is_left.self ≡ v → c.if-is_left.count ≡ count → IsBetweenParts m S i count (p + 1) v
    → IsBetweenParts m S i c.if-is_left.count (p + 1) c.if-is_left.self =
    λ v count e f h. subst (λ (u : PartWalk). IsBetweenParts m S i c.if-is_left.count (p + 1) u) (sym e)
    (subst (λ (k : ℕ). IsBetweenParts m S i k (p + 1) v) (sym f) h) in
    elim c.if-is_left.branch [
      | then-is_left w ↦
          at w.walk_from.new.self (c.loop-place.count + 1) w.self-is w.count-is (record {
            room = w.walk_from.ensures.room;
            between = w.walk_from.ensures.between;
            before = passed_more (support m) S i p (number_at s.part.items) (number_at w.walk_from.new.self.part.items) so.before w.walk_from.ensures.keeps (inr (c.loop-place.count, w.walk_from.ensures.first));
            fewer = let f = so.fewer in omega arith;
          })
      | else-is_left w ↦
          at s c.loop-place.count w.self-is w.count-is (record {
            room = so.room;
            between = so.between;
            before = passed_more (support m) S i p (number_at s.part.items) (number_at s.part.items) so.before (λ k a e. e) (elim (cases_eq (get_or S p 0) i) [
              | inl e ↦ inl e
              | inr n ↦ elim (some_or_none (number_at s.part.items (get_or S p 0))) [ inl e ↦ absurd (let f = w.if-is_left.ensures.1 (n, e) in cc) | inr f ↦ inr f ]
            ]);
            fewer = let f = so.fewer in omega arith;
          })
    ]

pub returns-clause-parts : goal.returns-clause-parts
returns-clause-parts c =
    all_numbered (support c.args.matrix.now) c.args.rows.now c.args.row (number_at c.loop-place.self.part.items) c.loop-place.count c.loop-place.place c.loop-place.invariant.between c.loop-place.invariant.before c.loop-place-test.false
