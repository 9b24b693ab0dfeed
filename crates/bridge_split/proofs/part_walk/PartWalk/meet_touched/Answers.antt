use Rattle.std.proofs.Common.{◌≡◌, ◌+◌, ℕ, sym, subst, get_or, refl}
use Rattle.cmr_base.specs.Trees.{support}
use Rattle.cmr_base.proofs.Members.{in_at}
use Rattle.cmr_base.proofs.Places.{all_placed}
use Rattle.cmr_base.specs.ColumnSets.{has_column}
use Rattle.bridge_split.specs.PartNumbers.{number_at, IsMeeting, IsTouched}
use Rattle.bridge_split.specs.declared.part_walk.PartWalk.{PartWalk}
use Rattle.bridge_split.proofs.NumberSteps.{meets_one, passes_one}
use Rattle.bridge_split.proofs.part_walk.PartWalk.meet_touched.Goals as goal
use Rattle.bridge_split.proofs.part_walk.PartWalk.meet_touched.Goals.{then-is_touched, else-is_touched}

pub loop-other-preserved : goal.loop-other-preserved
loop-other-preserved c =
    let m = c.args.matrix.now in
    let S = c.args.rows.now in
    let p = c.loop-other.other-index in
    let s = c.loop-other.self in
    let so = c.loop-other.invariant in
    let low = c.requires.rows p c.loop-other-test.true in
    let at : (v : PartWalk) (met : ℕ) → c.if-is_touched.self ≡ v → c.if-is_touched.met ≡ met → IsMeeting m S c.args.row c.args.number c.args.self.now v met (p + 1)
    → IsMeeting m S c.args.row c.args.number c.args.self.now c.if-is_touched.self c.if-is_touched.met (p + 1) =
    λ v met e f h. subst (λ (u : PartWalk). IsMeeting m S c.args.row c.args.number c.args.self.now u c.if-is_touched.met (p + 1)) (sym e)
    (subst (λ (k : ℕ). IsMeeting m S c.args.row c.args.number c.args.self.now v k (p + 1)) (sym f) h) in
    elim c.if-is_touched.branch [
      | then-is_touched w ↦
          let t = w.if-is_touched.ensures.0 refl in
          at w.meet.new.self (c.loop-other.met + 1) w.self-is w.met-is
          (meets_one m S c.args.row c.args.number (get_or S p 0) s w.meet.new.self (in_at S p c.loop-other-test.true) low t.0 so.room.room w.meet.ensures.part
          c.args.self.now c.loop-other.met p so w.meet.ensures.room t.1.0 t.1.1 t.1.2 w.meet.ensures.reached)
      | else-is_touched w ↦
          at s c.loop-other.met w.self-is w.met-is
          (passes_one m S c.args.row c.args.number c.args.self.now s c.loop-other.met p so (λ t. let e = w.if-is_touched.ensures.1 t in cc))
    ]

pub returns-clause-none : goal.returns-clause-none
returns-clause-none c = λ e.
    let s = c.loop-other.self in
    all_placed (λ x. IsTouched (support c.args.matrix.now) c.args.row (number_at s.part.items) (has_column s.reached.words) x → ⊥) c.args.rows.now c.loop-other.other-index c.loop-other-test.false (c.loop-other.invariant.none e)
