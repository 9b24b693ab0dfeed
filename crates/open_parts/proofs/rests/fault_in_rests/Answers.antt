use Rattle.std.proofs.Common.{◌+◌, ◌∙◌, List, Some, None, drop, get_or, refl, sym, subst}
use Rattle.std.proofs.lemmas.List.{drop_all, drop_more}
use Rattle.cmr_base.specs.declared.line.Line.{Line}
use Rattle.cmr_base.specs.declared.line.Line.TheVariants.{Row}
use Rattle.cmr_base.specs.declared.line_set.LineSet.{LineSet}
use Rattle.tree_type.specs.Invariant.{AreLines}
use Rattle.open_parts.specs.Rests.{RemovesInTurn, turns_of}
use Rattle.open_parts.specs.LineTurns.{IsTurnOfLine}
use Rattle.open_parts.proofs.TurnSteps.{turn_ends, turn_goes, turn_lines}
use Rattle.open_parts.proofs.rests.fault_in_rests.Goals as goal

pub loop-line-init : goal.loop-line-init
loop-line-init g c =
    let limit = c.args.search.now.limit in
    let m = c.args.search.now.matrix.now in
    record {
      are = subst (AreLines m) (sym c.in_ok-kept.ensures) c.requires;
      later = λ found f. subst (λ (kept : LineSet). RemovesInTurn limit m (turns_of c.args.lines.now) kept found) c.in_ok-kept.ensures
          (subst (λ (turns : List Line). RemovesInTurn limit m turns c.in_ok-kept.kept found) (c.as_slice-line-items.ensures ∙ c.in_ok-turns.ensures) f);
    }

pub returns-in-Found : goal.returns-in-Found
returns-in-Found g c =
    let limit = c.args.search.now.limit in
    let m = c.args.search.now.matrix.now in
    let items = c.as_slice-line-items.result.now in
    let i = c.loop-line.line-index in
    let kept = c.loop-line.kept in
    let turn = subst (IsTurnOfLine limit m kept (get_or items i (Row 0))) c.in-Found.is c.in_ok-next.ensures in
    c.loop-line.invariant.later (Some c.in-Found.fault) (subst (λ (turns : List Line). RemovesInTurn limit m turns kept (Some c.in-Found.fault)) (sym (drop_more items i (Row 0) c.loop-line-test.true))
    (turn_ends limit m kept (get_or items i (Row 0)) (drop (i + 1) items) c.in-Found.fault turn))

pub loop-line-preserved : goal.loop-line-preserved
loop-line-preserved g c =
    let limit = c.args.search.now.limit in
    let m = c.args.search.now.matrix.now in
    let items = c.as_slice-line-items.result.now in
    let i = c.loop-line.line-index in
    let kept = c.loop-line.kept in
    let turn = subst (IsTurnOfLine limit m kept (get_or items i (Row 0))) c.in-Kept.is c.in_ok-next.ensures in
    record {
      are = turn_lines limit m kept (get_or items i (Row 0)) (drop (i + 1) items) c.in-Kept.next turn c.loop-line.invariant.are;
      later = λ found f. c.loop-line.invariant.later found (subst (λ (turns : List Line). RemovesInTurn limit m turns kept found) (sym (drop_more items i (Row 0) c.loop-line-test.true))
          (turn_goes limit m kept (get_or items i (Row 0)) (drop (i + 1) items) c.in-Kept.next found turn f));
    }

pub returns : goal.returns
returns g c =
    let limit = c.args.search.now.limit in
    let m = c.args.search.now.matrix.now in
    c.loop-line.invariant.later None (subst (λ (turns : List Line). RemovesInTurn limit m turns c.loop-line.kept None) (sym (drop_all c.loop-line.line-index c.as_slice-line-items.result.now c.loop-line-test.false)) refl)
