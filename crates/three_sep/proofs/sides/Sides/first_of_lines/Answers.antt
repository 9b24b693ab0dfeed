use Rattle.std.proofs.Common.{◌≡◌, ◌∙◌, ◌∷◌, Bool, List, ap, sym, subst, arith}
use Rattle.std.specs.List.{AllByRecursion}
use Rattle.cmr_base.specs.declared.line.Line.{Line}
use Rattle.cmr_base.specs.declared.separation.Connector.{Connector}
use Rattle.cmr_base.specs.Matrix.{height}
use Rattle.cmr_base.specs.Separations.{connector_lines}
use Rattle.cmr_base.specs.Seeds.{IsLine}
use Rattle.cmr_base.proofs.Booleans.{not_both}
use Rattle.three_sep.specs.declared.sides.Sides.{Sides}
use Rattle.three_sep.specs.KeptSides.{KeepsSide}
use Rattle.three_sep.proofs.KeptSideLemmas.{decided_beside, kept_twice}
use Rattle.line_growth.specs.GrowingSets.{DecidesLeaving, set_of}
use Rattle.three_sep.specs.Connectors.{all_prefix, firsts, seconds}
use Rattle.three_sep.proofs.SearchLemmas.{level_found, level_ends, none_below_more, no_good_beside, three_is, found_here, place_below}
use Rattle.line_growth.proofs.SetSteps.{decided_no, decided_yes}
use Rattle.three_sep.proofs.SideLemmas.{good_from_leaving, no_good_line}
use Rattle.three_sep.proofs.sides.Sides.first_of_lines.Goals as goal
use Rattle.three_sep.proofs.sides.Sides.first_of_lines.Goals.{else-is_beside-via-then-is_beside+in_ok-leaves_beside+else-branch, else-is_beside-via-else-is_beside}

-- the lines that stay out are the lines of the second connector
second_is : (flat known : Bool) (second : Connector) (lines : List Line) → known ≡ flat → lines ≡ connector_lines known second → lines ≡ connector_lines flat second
second_is flat known second lines e is = is ∙ ap (λ (z : Bool). connector_lines z second) e

pub leaves_beside-requires-clause-second : goal.leaves_beside-requires-clause-second
leaves_beside-requires-clause-second c =
    let d = c.args.connectors.now in
    rw c.loop-place.invariant.0.matrix (subst (λ (xs : List Line). AllByRecursion (IsLine (height c.args.self.now.matrix.now) c.args.self.now.matrix.now.width) xs) (sym (second_is _ _ d.second _ c.second_is_flat.ensures c.lines-second.ensures))
    c.requires.connectors.pair.second_lines)

pub leaves_beside-requires-clause-rule : goal.leaves_beside-requires-clause-rule
leaves_beside-requires-clause-rule c = rw c.loop-place.invariant.0.matrix c.requires.connectors.inside

pub leaves_beside-requires-clause-line : goal.leaves_beside-requires-clause-line
leaves_beside-requires-clause-line c = rw c.loop-place.invariant.0.matrix c.line_at-line.ensures.line

pub line_at-line-requires : goal.line_at-line-requires
line_at-line-requires c = let l = c.loop-place-test.true in let r = c.rows.ensures.rows in let k = c.columns.ensures.columns in omega arith

pub returns-then-branch-clause-found : goal.returns-then-branch-clause-found
returns-then-branch-clause-found c =
    let m = c.args.self.now.matrix.now in
    let form = c.args.form in
    let d = c.args.connectors.now in
    let x = c.line_at-line.result in
    let S = set_of c.leaves_beside.new.self.grown in
    let three = c.in_ok-separation.field-0 in
    let second = second_is _ _ d.second _ c.second_is_flat.ensures c.lines-second.ensures in
    let decided : DecidesLeaving m c.args.rule (x ∷ firsts form d) (seconds form d) 4 c.in_ok-leaves_beside.field-0 S =
    subst (λ (xs : List Line). DecidesLeaving m c.args.rule (x ∷ firsts form d) xs 4 c.in_ok-leaves_beside.field-0 S) second (decided_beside c.args.self.now c.loop-place.self c.loop-place.invariant.0 c.args.rule (firsts form d) _ x _ c.leaves_beside.new.self.grown c.requires.growing c.in_ok-leaves_beside.ensures.decided) in
    let leaving = decided_yes m c.args.rule (x ∷ firsts form d) (seconds form d) 4 c.in_ok-leaves_beside.field-0 S decided c.if-branch.true in
    level_found m (all_prefix form d) c.loop-place.place three (omega arith) c.loop-place.invariant.1
    (found_here m form d c.loop-place.place x S three (three_is m form d c.loop-place.place x S three c.in_ok-separation.ensures.form c.in_ok-separation.ensures.first c.in_ok-separation.ensures.second)
    (good_from_leaving m form c.args.rule d c.requires.connectors x S c.line_at-line.ensures.line (c.is_beside.ensures.0 c.if-is_beside.true).0 (c.is_beside.ensures.0 c.if-is_beside.true).1 leaving)
    c.line_at-line.ensures.line c.line_at-line.ensures.number (rw (c.in_ok-leaves_beside.ensures.kept.matrix ∙ c.loop-place.invariant.0.matrix) at c.in_ok-separation.ensures.lines))

pub loop-place-preserved : goal.loop-place-preserved
loop-place-preserved c =
    let m = c.args.self.now.matrix.now in
    let form = c.args.form in
    let d = c.args.connectors.now in
    let x = c.line_at-line.result in
    let second = second_is _ _ d.second _ c.second_is_flat.ensures c.lines-second.ensures in
    elim c.else-is_beside.branch [
      | else-is_beside-via-then-is_beside+in_ok-leaves_beside+else-branch w ↦ (
        subst (λ (z : Sides). KeepsSide c.args.self.now z) (sym w.self-is) (kept_twice c.args.self.now c.loop-place.self _ c.loop-place.invariant.0 w.in_ok-leaves_beside.ensures.kept),
        none_below_more m (all_prefix form d) c.loop-place.place c.loop-place.invariant.1 (no_good_line m form c.args.rule d c.requires.connectors c.loop-place.place x c.line_at-line.ensures.line c.line_at-line.ensures.number
            (decided_no m c.args.rule (x ∷ firsts form d) (seconds form d) 4 w.in_ok-leaves_beside.field-0 (set_of w.leaves_beside.new.self.grown)
            (subst (λ (xs : List Line). DecidesLeaving m c.args.rule (x ∷ firsts form d) xs 4 w.in_ok-leaves_beside.field-0 (set_of w.leaves_beside.new.self.grown)) second (decided_beside c.args.self.now c.loop-place.self c.loop-place.invariant.0 c.args.rule (firsts form d) _ x _ w.leaves_beside.new.self.grown c.requires.growing w.in_ok-leaves_beside.ensures.decided)) w.if-branch.false)),
      )
      | else-is_beside-via-else-is_beside w ↦ (
        subst (λ (z : Sides). KeepsSide c.args.self.now z) (sym w.self-is) c.loop-place.invariant.0,
        none_below_more m (all_prefix form d) c.loop-place.place c.loop-place.invariant.1 (no_good_beside m form d c.loop-place.place x c.line_at-line.ensures.line c.line_at-line.ensures.number (λ beside. not_both c.is_beside.result (c.is_beside.ensures.1 beside) w.if-is_beside.false)),
      )
    ]

pub returns-clause-found : goal.returns-clause-found
returns-clause-found c =
    let d = c.args.connectors.now in
    level_ends c.args.self.now.matrix.now (all_prefix c.args.form d) c.loop-place.place (omega arith) c.loop-place.invariant.1
    (λ s S b g h. let k = place_below c.args.self.now.matrix.now c.args.form d c.rows.result c.columns.result c.rows.ensures.rows c.columns.ensures.columns s S b g h in let l = c.loop-place-test.false in omega arith)

pub returns-then-branch-clause-kept : goal.returns-then-branch-clause-kept
returns-then-branch-clause-kept c = kept_twice c.args.self.now c.loop-place.self _ c.loop-place.invariant.0 c.in_ok-leaves_beside.ensures.kept
