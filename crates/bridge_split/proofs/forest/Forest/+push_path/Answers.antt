use Rattle.std.proofs.Common.{◌≡◌, ◌≢◌, ◌<◌, ◌≤◌, ◌∙◌, ℕ, suc, List, get_or, sym, arith, length, true}
use Rattle.bridge_split.specs.declared.cuts.CutTable.{CutTable}
use Rattle.bridge_split.specs.Forests.{AreInOneTree, HasTreeRoom, joins, depth_at, parent_at}
use Rattle.bridge_split.proofs.CutTables.{disagree_back}
use Rattle.bridge_split.proofs.PathRoutes.{route_one, route_prefix, route_back, swapped, climbs}
use Rattle.bridge_split.proofs.forest.Forest.+push_path.Goals as goal
use Rattle.std.proofs.lemmas.List.{get_or_default}

module _ (table : CutTable) (depths parents reached : List ℕ) (room : HasTreeRoom table.count depths parents) where
  low : (x y : ℕ) → AreInOneTree (joins table) table.count (depth_at depths) (parent_at parents) reached x y → x < length depths
  low x y t = let l = t.are.inside x t.one_in in let r = room.depths_are in omega arith

  -- the values that the code reads for a part that is at least as deep as the other
  up_here : (x y v a b : ℕ) → AreInOneTree (joins table) table.count (depth_at depths) (parent_at parents) reached x y → x ≢ y → a ≡ get_or depths x a
      → b ≡ get_or depths y b → b ≤ a → v ≡ get_or parents x v
      → AreInOneTree (joins table) table.count (depth_at depths) (parent_at parents) reached v y × (x < table.count) × (joins table x v ≡ true) × (depth_at depths x ≡ suc (depth_at depths v))
  up_here x y v a b t n ea eb l ev =
      let f : a ≡ depth_at depths x = ea ∙ get_or_default depths x a 4294967295 (low x y t) in
      let g : b ≡ depth_at depths y = eb ∙ get_or_default depths y b 4294967295 (low y x (swapped (joins table) table.count (depth_at depths) (parent_at parents) reached x y t)) in
      climbs (joins table) table.count (depth_at depths) (parent_at parents) reached x y v t n (omega arith)
      (ev ∙ get_or_default parents x v 0 (let k = t.are.inside x t.one_in in let r = room.parents_are in omega arith))

pub index-requires : goal.index-requires
index-requires t c = let l = c.requires.tree.are.inside c.args.one c.requires.tree.one_in in let r = c.requires.room.depths_are in omega arith

pub index-requires-else-one-two : goal.index-requires-else-one-two
index-requires-else-one-two t c = let l = c.requires.tree.are.inside c.args.two c.requires.tree.two_in in let r = c.requires.room.depths_are in omega arith

pub index-requires-then-index : goal.index-requires-then-index
index-requires-then-index t c = let l = c.requires.tree.are.inside c.args.one c.requires.tree.one_in in let r = c.requires.room.parents_are in omega arith

pub index-requires-else-index : goal.index-requires-else-index
index-requires-else-index t c = let l = c.requires.tree.are.inside c.args.two c.requires.tree.two_in in let r = c.requires.room.parents_are in omega arith

pub push_path-requires : goal.push_path-requires
push_path-requires t c =
    let s = c.args.self.now in
    let u = up_here c.args.table.now s.depth.items s.parent.items s.reached.items c.requires.room c.args.one c.args.two c.index-then-index.result.now c.index.result.now c.index-else-one-two.result.now
    c.requires.tree c.if-one-two.false c.index.ensures c.index-else-one-two.ensures c.if-index.true c.index-then-index.ensures in
    ((let d = c.decreases in let e = u.3 in omega arith), (c.requires.room, u.0))

pub push_path-requires-else-index : goal.push_path-requires-else-index
push_path-requires-else-index t c =
    let s = c.args.self.now in
    let D = joins c.args.table.now in
    let n = c.args.table.now.count in
    let u = up_here c.args.table.now s.depth.items s.parent.items s.reached.items c.requires.room c.args.two c.args.one c.index-else-index.result.now c.index-else-one-two.result.now c.index.result.now
    (swapped D n (depth_at s.depth.items) (parent_at s.parent.items) s.reached.items c.args.one c.args.two c.requires.tree) (λ e. c.if-one-two.false (sym e))
    c.index-else-one-two.ensures c.index.ensures (let l = c.if-index.false in omega arith) c.index-else-index.ensures in
    ((let d = c.decreases in let e = u.3 in omega arith), (c.requires.room, swapped D n (depth_at s.depth.items) (parent_at s.parent.items) s.reached.items c.index-else-index.result.now c.args.one u.0))

pub returns-in_ok-push : goal.returns-in_ok-push
returns-in_ok-push t c =
    route_one (joins c.args.table.now) c.args.table.now.count (depth_at c.args.self.now.depth.items) c.args.path.now c.push.new.self c.args.one c.args.two
    (c.requires.tree.are.inside c.args.one c.requires.tree.one_in) (sym c.if-one-two.true) c.in_ok-push.ensures.ok

pub returns-in_ok-push_path : goal.returns-in_ok-push_path
returns-in_ok-push_path t c =
    let s = c.args.self.now in
    let u = up_here c.args.table.now s.depth.items s.parent.items s.reached.items c.requires.room c.args.one c.args.two c.index-then-index.result.now c.index.result.now c.index-else-one-two.result.now
    c.requires.tree c.if-one-two.false c.index.ensures c.index-else-one-two.ensures c.if-index.true c.index-then-index.ensures in
    route_prefix (joins c.args.table.now) c.args.table.now.count (depth_at s.depth.items) c.args.path.now c.push-then-index.new.self c.push_path.new.path
    c.args.one c.index-then-index.result.now c.args.two c.in_ok-push-2.ensures.ok c.in_ok-push_path.ensures u.1 u.2 u.3

pub returns-in_ok-push-3 : goal.returns-in_ok-push-3
returns-in_ok-push-3 t c =
    let s = c.args.self.now in
    let D = joins c.args.table.now in
    let n = c.args.table.now.count in
    let u = up_here c.args.table.now s.depth.items s.parent.items s.reached.items c.requires.room c.args.two c.args.one c.index-else-index.result.now c.index-else-one-two.result.now c.index.result.now
    (swapped D n (depth_at s.depth.items) (parent_at s.parent.items) s.reached.items c.args.one c.args.two c.requires.tree) (λ e. c.if-one-two.false (sym e))
    c.index-else-one-two.ensures c.index.ensures (let l = c.if-index.false in omega arith) c.index-else-index.ensures in
    route_back D n (depth_at s.depth.items) c.args.path.now c.push_path-else-index.new.path c.push-else-index.new.self
    c.args.one c.index-else-index.result.now c.args.two c.in_ok-push-3.ensures.ok c.in_ok-push_path-2.ensures u.1
    (disagree_back c.args.table.now.cuts.items n c.args.two c.index-else-index.result.now u.2) u.3
