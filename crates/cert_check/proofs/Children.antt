-- The children of a node, one after another.
use Rattle.std.proofs.Common.{◌≡◌, ◌≢◌, ◌<◌, ◌≤◌, ◌+◌, ◌-◌, ◌∙◌, ℕ, Bool, suc, List, [], ◌∷◌, ◌++◌, drop, get_or, length, Option, Some, None, ap, refl, sym, subst, arith}
use Rattle.std.proofs.lemmas.List.{drop_more}
use Rattle.std.specs.declared.alloc.Global.{Global}
use Rattle.std.specs.declared.boxed.Box.{Box}
use Rattle.cmr_base.specs.Matrix.{Matrix, height}
use Rattle.cmr_base.specs.declared.line_set.LineSet.{LineSet}
use Rattle.cmr_base.specs.declared.position.Position.{Position}
use Rattle.cmr_base.proofs.Parts.{length-increasing}
use Rattle.tree_type.specs.declared.refusal.Refusal.{Refusal}
use Rattle.tree_type.specs.declared.tree.Node.{Node}
use Rattle.tree_type.specs.declared.tree.Kind.TheOpen as open'
use Rattle.tree_type.specs.declared.tree.Kind.TheVariants as kind
use Rattle.tree_type.specs.declared.tree.Kind.TheViews.{roll-Kind}
use Rattle.tree_type.specs.DecompositionTrees.{Finding, OneSum, Tree, Trees, Branch, children_of, count_trees, finding_of, lines_at_root, list_of, trees_from, tree_of}
use Rattle.tree_type.specs.Invariant.{AreLines, AreTreesWithin, FitsLines, HasChildren, size_of}
use Rattle.tree_type.specs.Places.{MadePivot, pivots_below, places_from, places_below}
use Rattle.tree_type.proofs.Forests.{count_list}
use Rattle.tree_type.proofs.NodeChildren.{trees_back}
use Rattle.tree_type.proofs.OtherKinds.{KindCase, by_kind, finding_in}
use Rattle.tree_type.proofs.PlacedLines.{lines_within}
use Rattle.cert_check.specs.Answers.{AnswersOn, AnswersFrom, AnswersBelow, IsAfter, IsValidNode, nodes_below, due_child_of}
use Rattle.cert_check.proofs.Answering.{answers_after, broken_before}

-- the children from a number on satisfy `IsValidNode`, and an answer on them and the nodes below them is an answer on all
pub record AreLeft (here : Matrix) (below_pivot : Bool) (path : List ℕ) (tree : Tree) (number : ℕ) (rest : List Tree) : Type 0 where
  pub lines_are : AreLines here (lines_at_root tree)
  pub levels : ℕ
  pub within : AreTreesWithin (lines_at_root tree) levels (trees_from rest)
  pub answers : (m : Matrix) (pivots : List MadePivot) → IsAfter m pivots here below_pivot → (answer : Option Refusal)
      → AnswersOn m (places_below path pivots (lines_at_root tree) (finding_of tree) number (trees_from rest)) answer
      → AnswersOn m (nodes_below path pivots tree) answer

-- no pivot is made between a node of another kind and its children
abbrev pub IsNoPivot : Tree → Type 0
IsNoPivot tree = (pivots : List MadePivot) → pivots_below (lines_at_root tree) (finding_of tree) pivots ≡ pivots

pub no_pivot : (node : Node) → ((place : Position) (child : Box Node Global) → node.kind ≢ kind.Pivoted place child) → IsNoPivot (tree_of node)
no_pivot node other = by_kind node (λ finding. (pivots : List MadePivot) → pivots_below (lines_at_root (tree_of node)) finding pivots ≡ pivots) each
  where
    each : (case : KindCase) → roll-Kind case ≡ node.kind → (pivots : List MadePivot) → pivots_below (lines_at_root (tree_of node)) (finding_in case) pivots ≡ pivots
    each (open'.Pivoted place child) rolls pivots = absurd (other place child (sym rolls ∙ kind.rolls-Pivoted place child))
    each case rolls pivots = refl

pub all_left : (m : Matrix) (below_pivot : Bool) (path : List ℕ) (tree : Tree) → IsNoPivot tree → IsValidNode m tree → AreLeft m below_pivot path tree 0 (children_of tree)
all_left m below_pivot path (Branch lines finding trees) same (parent, levels, are, within) = record {
  lines_are = lines_within m lines parent within.1 are;
  levels = levels - 1;
  within = subst (AreTreesWithin lines (levels - 1)) (sym (trees_back trees)) within.4;
  answers = λ root pivots after answer h.
      subst (λ below. AnswersOn root (places_below path below lines finding 0 trees) answer) (sym (same pivots)) (subst (λ ts. AnswersOn root (places_below path pivots lines finding 0 ts) answer) (trees_back trees) h);
}

-- a node has at most two children, or as many as it has lines
few : (lines : LineSet) (finding : Finding) (trees : Trees) → FitsLines lines finding trees → HasChildren finding (count_trees trees) → count_trees trees ≤ 2 + size_of lines
few lines OneSum trees fits has = omega (arith, fits)
few lines finding trees fits has = omega (arith, has)

pub few_children : (m : Matrix) (tree : Tree) → IsValidNode m tree → length (children_of tree) ≤ 2 + (height m + m.width)
few_children m (Branch lines finding trees) (parent, levels, are, within) =
    let own = lines_within m lines parent within.1 are in
    let count : count_trees trees ≡ length (list_of trees) = ap count_trees (sym (trees_back trees)) ∙ count_list (list_of trees) in
    omega (arith, few lines finding trees within.2 within.3, count, length-increasing lines.rows (height m) own.rows.increasing own.rows.in_range, length-increasing lines.columns m.width own.columns.increasing own.columns.in_range)

module _ (here : Matrix) (below_pivot : Bool) (path : List ℕ) (tree : Tree) (number : ℕ) where
  module _ (child : Tree) (trees rest : List Tree) (order : trees ≡ child ∷ rest) (left : AreLeft here below_pivot path tree number trees) where
    opened_left : AreLeft here below_pivot path tree number (child ∷ rest)
    opened_left = subst (AreLeft here below_pivot path tree number) order left

    pub left_valid : IsValidNode here child
    left_valid = (lines_at_root tree, opened_left.levels, opened_left.lines_are, opened_left.within.0)

    pub left_refused : (refusal : Refusal) → AnswersFrom here below_pivot (path ++ number ∷ []) (due_child_of tree number) child (Some refusal) → AnswersBelow here below_pivot path tree (Some refusal)
    left_refused refusal h = λ m pivots after.
        opened_left.answers m pivots after (Some refusal) (broken_before m (places_from (path ++ number ∷ []) pivots (due_child_of tree number) child) (places_below path pivots (lines_at_root tree) (finding_of tree) (suc number) (trees_from rest)) refusal (h m pivots after))

    pub left_next : (next : ℕ) → next ≡ suc number → AnswersFrom here below_pivot (path ++ number ∷ []) (due_child_of tree number) child None → AreLeft here below_pivot path tree next rest
    left_next next f h = subst (λ n. AreLeft here below_pivot path tree n rest) (sym f) (record {
      lines_are = opened_left.lines_are;
      levels = opened_left.levels;
      within = opened_left.within.1;
      answers = λ m pivots after answer k.
          opened_left.answers m pivots after answer (answers_after m (places_from (path ++ number ∷ []) pivots (due_child_of tree number) child) (places_below path pivots (lines_at_root tree) (finding_of tree) (suc number) (trees_from rest)) answer (h m pivots after) k);
    })

  pub left_none : (trees : List Tree) → trees ≡ [] → AreLeft here below_pivot path tree number trees → AnswersBelow here below_pivot path tree None
  left_none trees e left = λ m pivots after. (subst (AreLeft here below_pivot path tree number) e left).answers m pivots after None tt

-- ---- the nodes of a list

pub child_first : (nodes : List Node) (i : ℕ) (child : Node) → i < length nodes → child ≡ get_or nodes i child → drop i nodes ≡ child ∷ drop (i + 1) nodes
child_first nodes i child l e = drop_more nodes i child l ∙ ap (λ node. node ∷ drop (i + 1) nodes) (sym e)
