use Rattle.std.proofs.Common.{List, ℕ, subst, ap, ◌∙◌}
use Rattle.cmr_base.specs.LineSets.{first_lines}
use Rattle.cmr_base.specs.Matrix.{height}
use Rattle.cmr_base.specs.Trees.{support}
use Rattle.cmr_base.proofs.LineSetLemmas.{first_below}
use Rattle.graph_realise.specs.TreeSearches.{IsSearch}
use Rattle.graph_realise.specs.declared.side_search.TreeSearch.TheVariants.{Found, NoTree}
use Rattle.graph_realise.proofs.AllRows.{cuts_of_all, none_of_all}
use Rattle.graph_realise.proofs.realising.realise.Goals as goal

pub find_sides-requires-clause-rows : goal.find_sides-requires-clause-rows
find_sides-requires-clause-rows c = rw (c.in_ok-lines.ensures.rows, c.rows.ensures.rows) (first_below (height c.args.matrix.now))

pub grow_network-requires-clause-cuts : goal.grow_network-requires-clause-cuts
grow_network-requires-clause-cuts c =
    let m = c.args.matrix.now in
    let rows = c.in_ok-lines.ensures.rows ∙ ap first_lines c.rows.ensures.rows in
    cuts_of_all (support m) (height m) c.find_sides.new.sides
    (subst (λ (xs : List ℕ). IsSearch (support m) xs c.find_sides.new.sides Found) rows (subst (IsSearch (support m) c.in_ok-lines.lines.rows c.find_sides.new.sides) c.in-Found.is c.in_ok-find_sides.ensures.found)).cuts

pub returns : goal.returns
returns c = λ graphic.
    let m = c.args.matrix.now in
    let rows = c.in_ok-lines.ensures.rows ∙ ap first_lines c.rows.ensures.rows in
    none_of_all m c.rows.ensures.shape
    (subst (λ (xs : List ℕ). IsSearch (support m) xs c.find_sides.new.sides NoTree) rows (subst (IsSearch (support m) c.in_ok-lines.lines.rows c.find_sides.new.sides) c.in-NoTree.is c.in_ok-find_sides.ensures.found)) graphic
