use Rattle.std.proofs.Common.{◌+◌, sym, ap, subst, arith}
use Rattle.std.proofs.lemmas.Option.{MatchOption-at_none}
use Rattle.bridge_split.specs.declared.forest.Forest.{Forest}
use Rattle.bridge_split.specs.Forests.{IsGrownTo}
use Rattle.bridge_split.proofs.ForestSteps.{grown_starts, grown_skips, grown_more, grown_ends}
use Rattle.bridge_split.proofs.forest.Forest.grow.Goals as goal
use Rattle.bridge_split.proofs.forest.Forest.grow.Goals.{then-index+in_ok-conflict+in_default, else-index}

pub loop-root-init : goal.loop-root-init
loop-root-init c =
    let s = c.args.self.now in
    grown_starts c.args.table.now s.depth.items s.parent.items s.reached.items c.requires.table c.requires.room c.requires.reached c.requires.unreached

pub loop-root-preserved : goal.loop-root-preserved
loop-root-preserved c =
    let s = c.loop-root.self in
    let r = c.if-index.self in
    let table = c.args.table.now in
    let place = c.loop-root.root in
    elim c.if-index.branch [
      | then-index+in_ok-conflict+in_default w ↦
          let n = w.grow_from.new.self in
          subst (λ (v : Forest). IsGrownTo table v.depth.items v.parent.items v.reached.items (place + 1)) (sym w.self-is)
          (grown_more table s.depth.items s.parent.items s.reached.items place c.loop-root.invariant n.depth.items n.parent.items n.reached.items
          w.in_ok-conflict.ensures.room w.in_ok-conflict.ensures.extends w.in_ok-conflict.ensures.root (MatchOption-at_none _ _ w.in_default.is w.in_ok-conflict.ensures.found))
      | else-index w ↦
          grown_skips table s.depth.items s.parent.items s.reached.items place c.loop-root.invariant r.depth.items r.parent.items r.reached.items
          c.index.result.now (let e = c.len-root-end.ensures in let t = c.loop-root-test.true in omega arith) c.index.ensures w.if-index.false
          (ap (λ v. v.depth.items) w.self-is) (ap (λ v. v.parent.items) w.self-is) (ap (λ v. v.reached.items) w.self-is)
    ]

pub returns-clause-found : goal.returns-clause-found
returns-clause-found c =
    let s = c.loop-root.self in
    grown_ends c.args.table.now s.depth.items s.parent.items s.reached.items c.loop-root.root c.loop-root.invariant (let e = c.len-root-end.ensures in let t = c.loop-root-test.false in omega arith)
