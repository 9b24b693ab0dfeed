-- The turns of the search in the rests of some lines.
use Rattle.std.proofs.Common.{◌≡◌, ◌∙◌, ℕ, List, ◌∷◌, Option, Some, ap, sym, subst}
use Rattle.cmr_base.specs.declared.line.Line.{Line}
use Rattle.cmr_base.specs.declared.line_set.LineSet.{LineSet}
use Rattle.cmr_base.specs.Matrix.{Matrix, IsMatrix}
use Rattle.tree_type.specs.DecompositionTrees.{Tree}
use Rattle.tree_type.specs.Invariant.{AreLines}
use Rattle.tree_type.specs.Soundness.{part}
use Rattle.tree_type.specs.Verdicts.{Verdict, Yes, No, Open, verdict_of}
use Rattle.decomp_tree.specs.PivotedShapes.{IsShapeWith}
use Rattle.decomp_tree.specs.Seen.{IsPlacedSet}
use Rattle.decomp_tree.specs.Shapes.{IsShape, set_in}
use Rattle.decomp_tree.proofs.PivotedRoots.{no_pivots_change_nothing}
use Rattle.open_parts.specs.declared.rests.Turn.{Turn}
use Rattle.open_parts.specs.declared.rests.Turn.TheVariants.{Kept, Found}
use Rattle.open_parts.specs.Rests.{GoesOnAfter, RemovesInTurn, rest_without}
use Rattle.open_parts.specs.LineTurns.{IsTurnOfLine, turn_of}
use Rattle.open_parts.proofs.RestFaults.{fault_placed}
use Rattle.open_parts.proofs.RestLines.{rest_lines}

-- ---- what a turn gives

module _ (limit : ℕ) (m : Matrix) (kept rest : LineSet) (line : Line) (is_rest : rest ≡ rest_without kept line) (n : Matrix) (is_part : n ≡ part m rest) (tree : Tree) (shape : IsShapeWith limit 0 n tree) where
  rest_shape : IsShape limit (part m rest) tree
  rest_shape = subst (λ k. IsShape limit k tree) is_part ((no_pivots_change_nothing limit n tree).0 shape)

  pub gives_turn : (v : Verdict) → v ≡ verdict_of tree → (turn : Turn) → turn ≡ turn_of kept rest v → IsTurnOfLine limit m kept line turn
  gives_turn v e turn is =
      (tree, subst (λ r. IsShape limit (part m r) tree) is_rest rest_shape, is ∙ ap (turn_of kept rest) e ∙ ap (λ (r : LineSet). turn_of kept r (verdict_of tree)) is_rest)

  pub turn_placed : IsMatrix m → AreLines m kept → (fault : LineSet) → No fault ≡ verdict_of tree → IsPlacedSet rest fault
  turn_placed is are fault says = fault_placed limit m rest is (subst (AreLines m) (sym is_rest) (rest_lines m kept line are)) tree rest_shape fault (sym says)

-- ---- how the search goes on

module _ (limit : ℕ) (m : Matrix) (kept : LineSet) (line : Line) (turns : List Line) where
  abbrev rest : LineSet
  rest = rest_without kept line

  abbrev Later : LineSet → Option LineSet → Type 0
  Later = RemovesInTurn limit m turns

  ends : (fault : LineSet) (v : Verdict) → Found fault ≡ turn_of kept rest v → GoesOnAfter Later kept rest v (Some fault)
  ends fault Yes e = absurd (cc)
  ends fault (No found) e = let same : fault ≡ set_in rest found = cc in ap Some same
  ends fault (Open left) e = absurd (cc)

  pub turn_ends : (fault : LineSet) → IsTurnOfLine limit m kept line (Found fault) → RemovesInTurn limit m (line ∷ turns) kept (Some fault)
  turn_ends fault (tree, shape, e) = (tree, shape, ends fault (verdict_of tree) e)

  goes : (next : LineSet) (found : Option LineSet) (v : Verdict) → Kept next ≡ turn_of kept rest v → Later next found → GoesOnAfter Later kept rest v found
  goes next found Yes e later = let same : next ≡ kept = cc in subst (λ some. Later some found) same later
  goes next found (No fault) e later = absurd (cc)
  goes next found (Open left) e later = let same : next ≡ rest = cc in subst (λ some. Later some found) same later

  pub turn_goes : (next : LineSet) (found : Option LineSet) → IsTurnOfLine limit m kept line (Kept next) → Later next found → RemovesInTurn limit m (line ∷ turns) kept found
  turn_goes next found (tree, shape, e) later = (tree, shape, goes next found (verdict_of tree) e later)

  next_lines : (next : LineSet) (v : Verdict) → Kept next ≡ turn_of kept rest v → AreLines m kept → AreLines m next
  next_lines next Yes e are = let same : next ≡ kept = cc in subst (AreLines m) (sym same) are
  next_lines next (No fault) e are = absurd (cc)
  next_lines next (Open left) e are = let same : next ≡ rest = cc in subst (AreLines m) (sym same) (rest_lines m kept line are)

  pub turn_lines : (next : LineSet) → IsTurnOfLine limit m kept line (Kept next) → AreLines m kept → AreLines m next
  turn_lines next (tree, shape, e) are = next_lines next (verdict_of tree) e are
