-- The outline of a tree, node by node.
use Rattle.std.proofs.Common.{◌≡◌, ◌+◌, ◌-◌, ◌∙◌, ◌++◌, ◌∷◌, ℕ, List, append_assoc, ap, sym, subst, arith}
use Rattle.cmr_base.specs.declared.line_set.LineSet.{LineSet}
use Rattle.tree_type.specs.DecompositionTrees.{Tree, Branch, MoreTrees, children_of, finding_of, lines_at_root, trees_from}
use Rattle.tree_type.specs.Invariant.{AreTreesWithin, IsTreeFor}
use Rattle.tree_type.proofs.NodeChildren.{trees_back}
use Rattle.cmr_unimodular.specs.Outline.{AreAtDepth, IsAtDepth, outline_below, outline_from, outline_line}

-- ---- depths

pub root_depth : (rows columns : ℕ) (tree : Tree) → IsTreeFor rows columns tree → IsAtDepth 0 tree
root_depth rows columns tree is = record { parent = lines_at_root tree; levels = 2001; within = is.nodes; few = omega arith }

pub children_at_depth : (depth : ℕ) (tree : Tree) → IsAtDepth depth tree → AreAtDepth (depth + 1) (trees_from (children_of tree))
children_at_depth depth (Branch lines finding trees) is = record {
  parent = lines;
  levels = is.levels - 1;
  within = subst (AreTreesWithin lines (is.levels - 1)) (sym (trees_back trees)) is.within.4;
  few = (let some = is.within.0 in let bound = is.few in omega (arith, some, bound));
}

-- the first of some children, and the rest of them
pub next_at_depth : (depth : ℕ) (trees rest : List Tree) (tree : Tree) → trees ≡ tree ∷ rest → AreAtDepth depth (trees_from trees) → IsAtDepth depth tree × AreAtDepth depth (trees_from rest)
next_at_depth depth trees rest tree order are = split (subst (λ ts. AreAtDepth depth (trees_from ts)) order are)
  where
    split : AreAtDepth depth (MoreTrees tree (trees_from rest)) → IsAtDepth depth tree × AreAtDepth depth (trees_from rest)
    split all = (record { parent = all.parent; levels = all.levels; within = all.within.0; few = all.few }, record { parent = all.parent; levels = all.levels; within = all.within.1; few = all.few })

-- ---- lines

-- the line of a node and the outlines of its children
pub opening_outlined : (depth : ℕ) (text after : List ℕ) (lines : LineSet) (tree : Tree) → lines_at_root tree ≡ lines
    → after ≡ text ++ outline_line depth lines (finding_of tree) → after ++ outline_below (depth + 1) (trees_from (children_of tree)) ≡ text ++ outline_from depth tree
opening_outlined depth text after lines (Branch own finding trees) same written =
    ap (λ t. t ++ outline_below (depth + 1) (trees_from (children_of (Branch own finding trees)))) (written ∙ ap (λ ls. text ++ outline_line depth ls finding) (sym same))
    ∙ ap (λ ts. (text ++ outline_line depth own finding) ++ outline_below (depth + 1) ts) (trees_back trees)
    ∙ append_assoc text (outline_line depth own finding) (outline_below (depth + 1) trees)

-- the outline of one more child
pub child_outlined : (depth : ℕ) (text after total : List ℕ) (trees rest : List Tree) (tree : Tree) → trees ≡ tree ∷ rest → after ≡ text ++ outline_from depth tree
    → text ++ outline_below depth (trees_from trees) ≡ total → after ++ outline_below depth (trees_from rest) ≡ total
child_outlined depth text after total trees rest tree order written whole =
    ap (λ t. t ++ outline_below depth (trees_from rest)) written ∙ append_assoc text (outline_from depth tree) (outline_below depth (trees_from rest))
    ∙ ap (λ ts. text ++ outline_below depth (trees_from ts)) (sym order) ∙ whole
