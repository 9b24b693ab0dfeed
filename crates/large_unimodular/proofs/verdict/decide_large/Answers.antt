use Rattle.std.proofs.Common.{◌≡◌, ◌<◌, ◌+◌, ◌∙◌, length, ap, sym, subst, arith}
use Rattle.std.proofs.lemmas.List.{get_or_default}
use Rattle.cmr_base.specs.declared.line_set.LineSet.{LineSet}
use Rattle.cmr_base.specs.Components.{no_lines, part_at}
use Rattle.sparse_matrix.specs.SparseRows.{matrix_of_runs}
use Rattle.sparse_matrix.proofs.Matrices.{matrix_is_ternary}
use Rattle.tree_type.specs.Invariant.{AreLines}
use Rattle.tree_type.specs.Soundness.{part}
use Rattle.decomp_tree.specs.Shapes.{set_in}
use Rattle.large_unimodular.specs.PartVerdicts.{IsPartVerdict}
use Rattle.large_unimodular.specs.LargeVerdicts.{IsFirstNo}
use Rattle.large_unimodular.proofs.LargeMeaning.{fault_of_part, fault_placed, part_lines}
use Rattle.large_unimodular.proofs.PartsSoFar.{IsSoFar, so_far_no, so_far_open, so_far_yes}
use Rattle.large_unimodular.proofs.verdict.decide_large.Goals as goal
use Rattle.large_unimodular.proofs.verdict.decide_large.Goals.{in-Yes, in-Open}

pub named_set-requires : goal.named_set-requires
named_set-requires g c =
    let matrix = matrix_of_runs c.args.matrix.now in
    let sets = c.in_ok-parts.parts.sets.items in
    let index = c.loop-index.index in
    let lines = c.index-lines.result.now in
    let fault = c.in-No.fault in
    let inside : index < length sets = (let test = c.loop-index-test.true in let size = c.len-index-end.ensures in omega (arith, test, size)) in
    let here : lines ≡ part_at sets index = c.index-lines.ensures ∙ get_or_default sets index lines no_lines inside in
    let ternary = matrix_is_ternary c.args.matrix.now c.rows-height.ensures.shape in
    fault_placed matrix lines fault (subst (AreLines matrix) (sym here) (part_lines matrix sets index ternary c.in_ok-parts.ensures.parts inside))
    (fault_of_part c.args.limit c.args.pivots matrix c.requires ternary lines fault (subst (IsPartVerdict c.args.limit c.args.pivots (part matrix lines)) c.in-No.is c.in_ok-verdict_at.ensures))

pub returns-in-No : goal.returns-in-No
returns-in-No g c =
    let matrix = matrix_of_runs c.args.matrix.now in
    let sets = c.in_ok-parts.parts.sets.items in
    let index = c.loop-index.index in
    let lines = c.index-lines.result.now in
    let fault = c.in-No.fault in
    let inside : index < length sets = (let test = c.loop-index-test.true in let size = c.len-index-end.ensures in omega (arith, test, size)) in
    let here : lines ≡ part_at sets index = c.index-lines.ensures ∙ get_or_default sets index lines no_lines inside in
    let named = c.in_ok-named_set-in-No.ensures ∙ ap (λ (all : LineSet). set_in all fault) here in
    let decided = subst (λ (all : LineSet). IsPartVerdict c.args.limit c.args.pivots (part matrix all) c.in_ok-verdict_at.field-0) here c.in_ok-verdict_at.ensures in
    record {
      parts = sets;
      are = c.in_ok-parts.ensures.parts;
      verdict_is = subst (IsFirstNo c.args.limit c.args.pivots matrix sets) (sym named)
          (so_far_no c.args.limit c.args.pivots matrix sets index inside c.loop-index.first_open fault
          (subst (IsPartVerdict c.args.limit c.args.pivots (part matrix (part_at sets index))) c.in-No.is decided) c.loop-index.invariant);
    }

pub loop-index-preserved : goal.loop-index-preserved
loop-index-preserved g c =
    let limit = c.args.limit in
    let pivots = c.args.pivots in
    let matrix = matrix_of_runs c.args.matrix.now in
    let sets = c.in_ok-parts.parts.sets.items in
    let index = c.loop-index.index in
    let lines = c.index-lines.result.now in
    let inside : index < length sets = (let test = c.loop-index-test.true in let size = c.len-index-end.ensures in omega (arith, test, size)) in
    let here : lines ≡ part_at sets index = c.index-lines.ensures ∙ get_or_default sets index lines no_lines inside in
    let decided = subst (λ (all : LineSet). IsPartVerdict limit pivots (part matrix all) c.in_ok-verdict_at.field-0) here c.in_ok-verdict_at.ensures in
    elim c.match-branch-3.branch [
      | in-Yes w ↦ subst (IsSoFar limit pivots matrix sets (index + 1)) (sym w.first_open-is)
          (so_far_yes limit pivots matrix sets index inside c.loop-index.first_open (subst (IsPartVerdict limit pivots (part matrix (part_at sets index))) w.in-Yes.is decided) c.loop-index.invariant)
      | in-Open w ↦ subst (IsSoFar limit pivots matrix sets (index + 1)) (sym (w.first_open-is ∙ w.or-first_open.ensures))
          (so_far_open limit pivots matrix sets index inside c.loop-index.first_open (subst (IsPartVerdict limit pivots (part matrix (part_at sets index)))
          w.in-Open.is decided) c.loop-index.invariant)
    ]
