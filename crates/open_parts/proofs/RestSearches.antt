-- The search in the rests of some lines: its result is unique, and a fault is a violator.
use Rattle.std.proofs.Common.{◌≡◌, ◌≤◌, ◌∙◌, ℕ, List, [], ◌∷◌, Option, Some, refl, ap, sym, subst}
use Rattle.cmr_base.specs.declared.line.Line.{Line}
use Rattle.cmr_base.specs.declared.line_set.LineSet.{LineSet}
use Rattle.cmr_base.specs.Matrix.{Matrix, entry, IsMatrix}
use Rattle.cmr_base.specs.Violator.{IsViolator}
use Rattle.cmr_base.proofs.Options.{some_same}
use Rattle.tree_type.specs.DecompositionTrees.{Tree}
use Rattle.tree_type.specs.Invariant.{AreLines, AreLinesOf}
use Rattle.tree_type.specs.Soundness.{part}
use Rattle.tree_type.specs.Verdicts.{Verdict, Yes, No, Open, verdict_of}
use Rattle.decomp_tree.specs.Shapes.{IsShape, set_in}
use Rattle.decomp_tree.proofs.FaultLines.{lines_of_lines}
use Rattle.decomp_tree.proofs.OneTree.{one_shape}
use Rattle.decomp_tree.proofs.PlainVerdicts.{verdict_plain}
use Rattle.open_parts.specs.Rests.{GoesOnAfter, RemovesInTurn, rest_without}
use Rattle.open_parts.proofs.RestFaults.{fault_among, fault_violates}
use Rattle.open_parts.proofs.RestLines.{rest_among, rest_lines}

-- all decompositions of a matrix without pivots have one verdict
one_rest_verdict : (limit : ℕ) (n : Matrix) (tree other : Tree) → IsShape limit n tree → IsShape limit n other → verdict_of tree ≡ verdict_of other
one_rest_verdict limit n tree other shape shape' = verdict_plain tree ∙ ap verdict_of (one_shape limit n tree other shape shape') ∙ sym (verdict_plain other)

module _ (limit : ℕ) (m : Matrix) where
  one_result : (turns : List Line) (kept rest : LineSet) (v : Verdict) (one other : Option LineSet)
      → ((next : LineSet) → RemovesInTurn limit m turns next one → RemovesInTurn limit m turns next other → one ≡ other)
      → GoesOnAfter (RemovesInTurn limit m turns) kept rest v one → GoesOnAfter (RemovesInTurn limit m turns) kept rest v other → one ≡ other
  one_result turns kept rest Yes one other later f g = later kept f g
  one_result turns kept rest (No fault) one other later f g = f ∙ sym g
  one_result turns kept rest (Open left) one other later f g = later rest f g

  pub one_found : (turns : List Line) (kept : LineSet) (one other : Option LineSet) → RemovesInTurn limit m turns kept one → RemovesInTurn limit m turns kept other → one ≡ other
  one_found [] kept one other f g = f ∙ sym g
  one_found (line ∷ turns) kept one other (tree, shape, goes) (tree', shape', goes') =
      let rest = rest_without kept line in
      let same = one_rest_verdict limit (part m rest) tree' tree shape' shape in
      one_result turns kept rest (verdict_of tree) one other (λ next f g. one_found turns next one other f g) goes
      (subst (λ v. GoesOnAfter (RemovesInTurn limit m turns) kept rest v other) same goes')

  -- a fault is a violator on some of these lines
  pub record Violates (lines fault : LineSet) : Type 0 where
    pub among : AreLinesOf fault lines
    pub violator : limit ≤ 24 → IsViolator (entry m) fault.rows fault.columns

  module _ (is : IsMatrix m) where
    violates_after : (turns : List Line) (kept : LineSet) (line : Line) (are : AreLines m kept) (tree : Tree) (shape : IsShape limit (part m (rest_without kept line)) tree) (fault : LineSet) (v : Verdict)
        → verdict_of tree ≡ v
        → ((next : LineSet) → AreLines m next → RemovesInTurn limit m turns next (Some fault) → Violates next fault)
        → GoesOnAfter (RemovesInTurn limit m turns) kept (rest_without kept line) v (Some fault) → Violates kept fault
    violates_after turns kept line are tree shape fault Yes e later goes = later kept are goes
    violates_after turns kept line are tree shape fault (No found) e later goes =
        let rest = rest_without kept line in
        let rest_are = rest_lines m kept line are in
        subst (Violates kept) (sym (some_same fault (set_in rest found) goes)) (record {
          among = lines_of_lines (set_in rest found) rest kept (fault_among limit m rest is rest_are tree shape found e) (rest_among m kept line are);
          violator = fault_violates limit m rest is rest_are tree shape found e;
        })
    violates_after turns kept line are tree shape fault (Open left) e later goes =
        let rest = rest_without kept line in
        let found = later rest (rest_lines m kept line are) goes in
        record { among = lines_of_lines fault rest kept found.among (rest_among m kept line are); violator = found.violator }

    pub found_violates : (turns : List Line) (kept fault : LineSet) → AreLines m kept → RemovesInTurn limit m turns kept (Some fault) → Violates kept fault
    found_violates [] kept fault are e = absurd (cc)
    found_violates (line ∷ turns) kept fault are (tree, shape, goes) =
        violates_after turns kept line are tree shape fault (verdict_of tree) refl (λ next next_are f. found_violates turns next fault next_are f) goes
