use Rattle.std.proofs.Common.{◌≡◌, ◌∙◌, refl, ap, sym, subst}
use Rattle.cmr_base.specs.declared.line_set.LineSet.{LineSet}
use Rattle.cmr_base.specs.LineSets.{AllBelow}
use Rattle.cmr_base.specs.Matrix.{height}
use Rattle.tree_type.specs.DecompositionTrees.{tree_of}
use Rattle.tree_type.specs.Verdicts.{No, Yes, verdict_of, verdict_shown}
use Rattle.open_parts.specs.declared.rests.Turn.TheVariants.{Found, Kept}
use Rattle.open_parts.proofs.RestLines.{rest_lines}
use Rattle.open_parts.proofs.TurnSteps.{gives_turn, turn_placed}
use Rattle.open_parts.proofs.rests.take_turn.Goals as goal

pub part-requires-clause-rows : goal.part-requires-clause-rows
part-requires-clause-rows g c =
    let m = c.args.search.now.matrix.now in
    subst (λ (rest : LineSet). AllBelow (height m) rest.rows) (sym c.in_ok-rest.ensures) (rest_lines m c.args.kept c.args.line c.requires).rows.in_range

pub part-requires-clause-columns : goal.part-requires-clause-columns
part-requires-clause-columns g c =
    let m = c.args.search.now.matrix.now in
    subst (λ (rest : LineSet). AllBelow m.width rest.columns) (sym c.in_ok-rest.ensures) (rest_lines m c.args.kept c.args.line c.requires).columns.in_range

pub named_set-requires : goal.named_set-requires
named_set-requires g c =
    let search = c.args.search.now in
    let says : No c.in-No.fault.now ≡ verdict_of (tree_of c.in_ok-tree.tree.root) = sym (ap verdict_shown c.in-No.is) ∙ c.verdict.ensures in
    let placed = turn_placed search.limit search.matrix.now c.args.kept c.in_ok-rest.rest c.args.line c.in_ok-rest.ensures c.in_ok-part.part c.in_ok-part.ensures (tree_of c.in_ok-tree.tree.root) c.in_ok-tree.ensures.shape search.shape c.requires c.in-No.fault.now says in
    record { rows = placed.rows; columns = placed.columns }

pub returns-in-Yes : goal.returns-in-Yes
returns-in-Yes g c =
    let search = c.args.search.now in
    let says : Yes ≡ verdict_of (tree_of c.in_ok-tree.tree.root) = sym (ap verdict_shown c.in-Yes.is) ∙ c.verdict.ensures in
    gives_turn search.limit search.matrix.now c.args.kept c.in_ok-rest.rest c.args.line c.in_ok-rest.ensures c.in_ok-part.part c.in_ok-part.ensures (tree_of c.in_ok-tree.tree.root) c.in_ok-tree.ensures.shape Yes says (Kept c.args.kept) refl

pub returns-in_ok-found-in-No : goal.returns-in_ok-found-in-No
returns-in_ok-found-in-No g c =
    let search = c.args.search.now in
    let says : No c.in-No.fault.now ≡ verdict_of (tree_of c.in_ok-tree.tree.root) = sym (ap verdict_shown c.in-No.is) ∙ c.verdict.ensures in
    gives_turn search.limit search.matrix.now c.args.kept c.in_ok-rest.rest c.args.line c.in_ok-rest.ensures c.in_ok-part.part c.in_ok-part.ensures (tree_of c.in_ok-tree.tree.root) c.in_ok-tree.ensures.shape (No c.in-No.fault.now) says (Found c.in_ok-found-in-No.found)
    (ap Found c.in_ok-found-in-No.ensures)

pub returns-in-Undecided : goal.returns-in-Undecided
returns-in-Undecided g c =
    let search = c.args.search.now in
    gives_turn search.limit search.matrix.now c.args.kept c.in_ok-rest.rest c.args.line c.in_ok-rest.ensures c.in_ok-part.part c.in_ok-part.ensures (tree_of c.in_ok-tree.tree.root) c.in_ok-tree.ensures.shape _ (sym (ap verdict_shown c.in-Undecided.is) ∙ c.verdict.ensures) (Kept c.in_ok-rest.rest) refl
