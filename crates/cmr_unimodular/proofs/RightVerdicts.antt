-- The verdict of a decomposition is right.
use Rattle.std.proofs.Common.{◌≡◌, ◌∙◌, ℕ, length, refl, ap, sym}
use Rattle.std.proofs.lemmas.List.FromFn.{length-range_with_len}
use Rattle.cmr_base.specs.declared.line_set.LineSet.{LineSet}
use Rattle.cmr_base.specs.Matrix.{Matrix, height, IsMatrix}
use Rattle.open_parts.specs.TriedShapes.{IsTriedWith}
use Rattle.open_parts.proofs.TriedRoots.{root_is_all}
use Rattle.tree_type.specs.declared.tree.Node.{Node}
use Rattle.tree_type.specs.DecompositionTrees.{SizedTree, tree_of}
use Rattle.tree_type.specs.Verdicts as verdicts
use Rattle.tree_type.specs.Verdicts.{Verdict}
use Rattle.tree_laws.specs.Laws.{VerdictMeans}
use Rattle.cert_check.proofs.Answering.{lines_is}
use Rattle.tree_laws.proofs.SoundTrees.{verdict_means}
use Rattle.cmr_unimodular.specs.Verdict.{IsDecomposition, IsRightVerdict, verdict_in}
use Rattle.cmr_unimodular.proofs.OpenParts.{open_part}

pub verdict_is_right : (budget pivots : ℕ) (m : Matrix) → IsMatrix m → (tree : SizedTree) → IsDecomposition budget pivots m tree → IsRightVerdict budget pivots m (verdict_in tree)
verdict_is_right budget pivots m is tree d = go (verdict_in tree) refl (verdict_means m is tree.rows tree.columns (tree_of tree.root) d.is_tree d.sound)
  where
    go : (v : Verdict) → verdict_in tree ≡ v → VerdictMeans m v → IsRightVerdict budget pivots m v
    go verdicts.Yes e right = right
    go (verdicts.No fault) e right = right
    go (verdicts.Open lines) e right = open_part budget pivots m (tree_of tree.root) lines is d.shape e

-- the root of a decomposition has all rows
pub root_height : (budget pivots : ℕ) (m : Matrix) (root : Node) → IsTriedWith budget pivots m (tree_of root) → length root.lines.rows ≡ height m
root_height budget pivots m root shape =
    ap (λ (lines : LineSet). length lines.rows) (sym (lines_is root)) ∙ ap length (root_is_all budget pivots m (tree_of root) shape).0 ∙ length-range_with_len 0 (height m)
