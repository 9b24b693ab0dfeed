use Rattle.std.proofs.Common.{◌≡◌, ℕ, sym, subst, arith, length}
use Rattle.std.proofs.lemmas.Option.{MatchOption-at_none}
use Rattle.bridge_split.specs.Forests.{IsGrowingFrom}
use Rattle.bridge_split.proofs.ForestSteps.{growing_starts, growing_on, growing_few}
use Rattle.bridge_split.proofs.GrowingLists.{in_longer}
use Rattle.bridge_split.proofs.forest.Forest.grow_from.Goals as goal

pub loop-head-init : goal.loop-head-init
loop-head-init c =
    let s = c.args.self.now in
    let r = c.reach.new.self in
    let e : c.len-head.result ≡ length s.reached.items = let f = c.len-head.ensures in omega arith in
    subst (λ (h : ℕ). IsGrowingFrom c.args.table.now s.reached.items r.depth.items r.parent.items r.reached.items c.args.root h) (sym e)
    (growing_starts c.args.table.now s.depth.items s.parent.items s.reached.items r.depth.items r.parent.items r.reached.items c.args.root c.requires.table c.requires.room c.requires.root c.requires.unreached
    c.requires.grown c.in_ok-reach.ensures.depths c.in_ok-reach.ensures.parents c.in_ok-reach.ensures.reached)

pub returns-in-Some-clause-root : goal.returns-in-Some-clause-root
returns-in-Some-clause-root c = in_longer c.loop-head.self.reached.items c.reach_from.new.self.reached.items c.args.root c.in_ok-two.ensures.extends c.loop-head.invariant.start_in

pub loop-head-smaller : goal.loop-head-smaller
loop-head-smaller c =
    let s = c.loop-head.self in
    let few = growing_few c.args.table.now c.args.self.now.reached.items s.depth.items s.parent.items s.reached.items c.args.root c.loop-head.head c.loop-head.invariant in
    let e = c.len.ensures in let l = c.loop-head-test.true in omega arith

pub loop-head-preserved : goal.loop-head-preserved
loop-head-preserved c =
    let s = c.loop-head.self in
    let r = c.reach_from.new.self in
    growing_on c.args.table.now c.args.self.now.reached.items s.depth.items s.parent.items s.reached.items c.args.root c.loop-head.head c.loop-head.invariant
    r.depth.items r.parent.items r.reached.items c.in_ok-two.ensures.room c.in_ok-two.ensures.extends (MatchOption-at_none _ _ c.in_default.is c.in_ok-two.ensures.found)
