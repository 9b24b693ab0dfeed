use Rattle.std.proofs.Common.{◌≡◌, ◌%◌, ◌<◌, ◌∙◌, List, ℕ, sym, ap, ap₂, subst, arith, length, map}
use Rattle.std.proofs.lemmas.Option.{MatchOption-at_none, MatchOption-at_some}
use Rattle.cmr_base.specs.LineSets.{AllBelow}
use Rattle.cmr_base.specs.Matrix.{height}
use Rattle.cmr_base.specs.Splits.{AreSides, IsOddClosed}
use Rattle.cmr_base.specs.Trees.{support}
use Rattle.cmr_base.proofs.Places.{members_below}
use Rattle.bridge_split.specs.Cutting.{rows_at_part, IsCutTable}
use Rattle.bridge_split.specs.Forests.{depth_at, parent_at, joins, HasRoute, IsTwoColoured}
use Rattle.bridge_split.proofs.SidesOfParts.{parts_few, parts_below, sides_are, path_low, odd_closed}
use Rattle.bridge_split.proofs.sides.sides_at.Goals as goal

pub new-requires-clause-row : goal.new-requires-clause-row
new-requires-clause-row c = members_below (height c.args.matrix.now) c.args.rows.now c.requires.rows c.args.row c.requires.row

pub new-requires-clause-few : goal.new-requires-clause-few
new-requires-clause-few c =
    let k = parts_few (support c.args.matrix.now) c.args.rows.now c.args.row c.args.parts.now c.requires.parts (height c.args.matrix.now) c.requires.rows in
    let e : length c.as_slice-parts.result.now ≡ length c.args.parts.now = ap length c.as_slice-parts.ensures in omega arith

pub new-requires-clause-rows : goal.new-requires-clause-rows
new-requires-clause-rows c =
    subst (λ (parts : List (List ℕ)). (a : ℕ) → a < length parts → AllBelow (height c.args.matrix.now) (rows_at_part parts a)) (sym c.as_slice-parts.ensures)
    (parts_below (support c.args.matrix.now) c.args.rows.now c.args.row c.args.parts.now c.requires.parts (height c.args.matrix.now) c.requires.rows)

pub returns-in-None : goal.returns-in-None
returns-in-None c =
    let M = support c.args.matrix.now in
    let parts = c.args.parts.now in
    let table = c.in_ok-table.table in
    let depths = c.grow.new.self.depth.items in
    let count = c.in_ok-table.ensures.count ∙ ap length c.as_slice-parts.ensures in
    let cuts = subst (λ (ps : List (List ℕ)). IsCutTable M c.args.row ps (length ps) table.cuts.items) c.as_slice-parts.ensures c.in_ok-table.ensures.cuts in
    let coloured : IsTwoColoured (joins table) table.count (depth_at depths) = MatchOption-at_none _ _ c.in-None.is c.in_ok-grow.ensures.found in
    subst (AreSides M c.args.row parts) (sym (c.in_ok-sides_by_depth-in-None.ensures ∙ ap (map (λ depth. depth % 2)) c.deref.ensures.value))
    (sides_are M c.args.rows.now c.args.row parts c.requires.parts table count cuts depths (c.in_ok-grow.ensures.room.depths_are ∙ count) coloured)

pub parts_at_places-requires : goal.parts_at_places-requires
parts_at_places-requires c =
    let M = support c.args.matrix.now in
    let parts = c.args.parts.now in
    let table = c.in_ok-table.table in
    let one = c.in-Some.conflict.one in
    let two = c.in-Some.conflict.two in
    let count = c.in_ok-table.ensures.count ∙ ap length c.as_slice-parts.ensures in
    let cuts = subst (λ (ps : List (List ℕ)). IsCutTable M c.args.row ps (length ps) table.cuts.items) c.as_slice-parts.ensures c.in_ok-table.ensures.cuts in
    let route = subst (λ (before : List ℕ). HasRoute (joins table) table.count (depth_at c.grow.new.self.depth.items) before c.push_path.new.path one two) c.new-path.ensures c.in_ok-push_path-in-Some.ensures in
    subst (AllBelow (length c.as_slice-parts.result.now)) (sym c.as_slice.ensures)
    (subst (λ (ps : List (List ℕ)). AllBelow (length ps) c.push_path.new.path) (sym c.as_slice-parts.ensures)
    (path_low M c.args.rows.now c.args.row parts c.requires.parts table count cuts (depth_at c.grow.new.self.depth.items) c.push_path.new.path one two route))

pub returns : goal.returns
returns c =
    let M = support c.args.matrix.now in
    let parts = c.args.parts.now in
    let table = c.in_ok-table.table in
    let forest = c.grow.new.self in
    let one = c.in-Some.conflict.one in
    let two = c.in-Some.conflict.two in
    let count = c.in_ok-table.ensures.count ∙ ap length c.as_slice-parts.ensures in
    let cuts = subst (λ (ps : List (List ℕ)). IsCutTable M c.args.row ps (length ps) table.cuts.items) c.as_slice-parts.ensures c.in_ok-table.ensures.cuts in
    let route = subst (λ (before : List ℕ). HasRoute (joins table) table.count (depth_at forest.depth.items) before c.push_path.new.path one two) c.new-path.ensures c.in_ok-push_path-in-Some.ensures in
    subst (IsOddClosed M c.args.rows.now c.args.row)
    (sym (c.in_ok-parts_at_places-in-Some.ensures ∙ ap₂ (λ (ps : List (List ℕ)) (path : List ℕ). map (rows_at_part ps) path) c.as_slice-parts.ensures c.as_slice.ensures))
    (odd_closed M c.args.rows.now c.args.row parts c.requires.parts table count cuts (depth_at forest.depth.items) (parent_at forest.parent.items) forest.reached.items c.push_path.new.path one two
    (MatchOption-at_some _ _ c.in-Some.conflict c.in-Some.is c.in_ok-grow.ensures.found) route)
