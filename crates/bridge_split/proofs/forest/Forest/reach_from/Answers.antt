use Rattle.std.proofs.Common.{◌<◌, ◌∙◌, sym, ap, arith, inl, inr}
use Rattle.bridge_split.specs.Forests.{joins}
use Rattle.bridge_split.proofs.ForestSteps.{part_low, depth_low, reaching_starts, reaching_more, reaching_passes, reaching_ends, reaching_conflict}
use Rattle.bridge_split.proofs.Forests.{few_reached}
use Rattle.bridge_split.proofs.forest.Forest.reach_from.Goals as goal
use Rattle.bridge_split.proofs.forest.Forest.reach_from.Goals.{then-other-part+then-disagree+then-far+in_ok-reach, then-other-part+then-disagree+else-far+else-far-depth, else-other-part, else-other-part-via-then-other-part+else-disagree, else-other-part-via-else-other-part}

pub index-depth-requires : goal.index-depth-requires
index-depth-requires c =
    let s = c.args.self.now in
    let l = part_low c.args.table.now s.depth.items s.parent.items s.reached.items c.args.head c.index-part.result.now c.requires.growing c.requires.head c.index-part.ensures in
    let e = c.requires.room.depths_are in omega arith

pub loop-other-init : goal.loop-other-init
loop-other-init c =
    let s = c.args.self.now in
    reaching_starts c.args.table.now s.depth.items s.parent.items s.reached.items c.args.head c.index-part.result.now c.index-depth.result.now c.requires.growing c.requires.room c.requires.head c.index-part.ensures c.index-depth.ensures

pub disagree-requires-clause-one : goal.disagree-requires-clause-one
disagree-requires-clause-one c =
    let s = c.args.self.now in
    part_low c.args.table.now s.depth.items s.parent.items s.reached.items c.args.head c.index-part.result.now c.requires.growing c.requires.head c.index-part.ensures

pub overflow_add-depth : goal.overflow_add-depth
overflow_add-depth c =
    let s = c.args.self.now in
    let l = depth_low c.args.table.now s.depth.items s.parent.items s.reached.items c.args.head c.index-part.result.now c.index-depth.result.now c.requires.growing c.requires.room c.requires.head c.index-part.ensures c.index-depth.ensures in
    let f = few_reached (joins c.args.table.now) c.args.table.now.count _ _ s.reached.items c.requires.growing.are in
    let k = c.requires.table.few in
    let h = c.requires.head in
    omega arith

pub returns-then-far-depth-clause-found : goal.returns-then-far-depth-clause-found
returns-then-far-depth-clause-found c =
    let s = c.loop-other.self in
    reaching_conflict c.args.table.now c.args.self.now.reached.items s.depth.items s.parent.items s.reached.items c.args.head c.index-part.result.now c.index-depth.result.now c.loop-other.other c.loop-other.invariant
    c.index-far.result.now (let e = c.len-other-end.ensures in let t = c.loop-other-test.true in omega arith) c.if-other-part.true (sym c.disagree.ensures ∙ c.if-disagree.true) c.index-far.ensures c.if-far.false c.if-far-depth.true

pub loop-other-preserved : goal.loop-other-preserved
loop-other-preserved c =
    let s = c.loop-other.self in
    let r = c.if-other-part.self in
    let inside : c.loop-other.other < c.args.table.now.count = let e = c.len-other-end.ensures in let t = c.loop-other-test.true in omega arith in
    elim c.if-other-part.branch [
      | then-other-part+then-disagree+then-far+in_ok-reach w ↦
          reaching_more c.args.table.now c.args.self.now.reached.items s.depth.items s.parent.items s.reached.items c.args.head c.index-part.result.now c.index-depth.result.now c.loop-other.other c.loop-other.invariant
          r.depth.items r.parent.items r.reached.items w.index-far.result.now inside (sym w.disagree.ensures ∙ w.if-disagree.true) w.index-far.ensures w.if-far.true
          (ap (λ v. v.depth.items) w.self-is ∙ w.in_ok-reach.ensures.depths) (ap (λ v. v.parent.items) w.self-is ∙ w.in_ok-reach.ensures.parents) (ap (λ v. v.reached.items) w.self-is ∙ w.in_ok-reach.ensures.reached)
      | then-other-part+then-disagree+else-far+else-far-depth w ↦
          reaching_passes c.args.table.now c.args.self.now.reached.items s.depth.items s.parent.items s.reached.items c.args.head c.index-part.result.now c.index-depth.result.now c.loop-other.other c.loop-other.invariant
          r.depth.items r.parent.items r.reached.items (inr (inr (w.index-far.result.now, w.index-far.ensures, w.if-far.false, w.if-far-depth.false, inside)))
          (ap (λ v. v.depth.items) w.self-is) (ap (λ v. v.parent.items) w.self-is) (ap (λ v. v.reached.items) w.self-is)
      | else-other-part w ↦
          reaching_passes c.args.table.now c.args.self.now.reached.items s.depth.items s.parent.items s.reached.items c.args.head c.index-part.result.now c.index-depth.result.now c.loop-other.other c.loop-other.invariant
          r.depth.items r.parent.items r.reached.items
          (elim w.else-other-part.branch [
            | else-other-part-via-then-other-part+else-disagree w' ↦ inr (inl (sym w'.disagree.ensures ∙ w'.if-disagree.false))
            | else-other-part-via-else-other-part w' ↦ inl w'.if-other-part.false
          ])
          (ap (λ v. v.depth.items) w.self-is) (ap (λ v. v.parent.items) w.self-is) (ap (λ v. v.reached.items) w.self-is)
    ]

pub returns-clause-found : goal.returns-clause-found
returns-clause-found c =
    let s = c.loop-other.self in
    reaching_ends c.args.table.now c.args.self.now.reached.items s.depth.items s.parent.items s.reached.items c.args.head c.index-part.result.now c.index-depth.result.now c.loop-other.other c.loop-other.invariant
    (let e = c.len-other-end.ensures in let t = c.loop-other-test.false in omega arith)
