-- Decompositions of some lines: their root, their nodes elsewhere in a tree, and how many children each node has.
use Rattle.std.proofs.Common.{◌≡◌, ◌++◌, ℕ, suc, List, [], ◌∷◌, sym, subst}
use Rattle.std.specs.List.{AllByRecursion}
use Rattle.cmr_base.specs.declared.line_set.LineSet.{LineSet}
use Rattle.cmr_base.specs.Matrix.{Matrix}
use Rattle.cmr_base.proofs.Lists.{all-append, all_prefix, all_back}
use Rattle.tree_type.specs.DecompositionTrees.{Finding, Tree, Trees, Branch, NoTrees, MoreTrees, count_trees, lines_at_root}
use Rattle.tree_type.specs.Invariant.{HasChildren}
use Rattle.tree_type.specs.Places.{Due, These, MadePivot, pivots_below, due_child, places_from, places_below}
use Rattle.tree_type.specs.Soundness.{HasItsLines}
use Rattle.decomp_tree.specs.Shapes.{IsShapedAt, IsShapeOn}
use Rattle.decomp_tree.proofs.OneTree.{count_is, due_here, set_same}

abbrev mutual
  -- each node has as many children as it is to have
  pub HasCounts : Tree → Type 0
  HasCounts (Branch lines finding trees) = HasChildren finding (count_trees trees) × HaveCounts trees

  pub HaveCounts : Trees → Type 0
  HaveCounts NoTrees = Unit {0}
  HaveCounts (MoreTrees tree trees) = HasCounts tree × HaveCounts trees

module _ (limit : ℕ) (m : Matrix) where
  -- the root has the lines
  pub shape_lines : (lines : LineSet) (tree : Tree) → IsShapeOn limit m lines tree → lines_at_root tree ≡ lines
  shape_lines lines tree shaped = set_same (lines_at_root tree) lines (due_here limit m [] [] (These lines) tree shaped)

  mutual
    moved : (path path' : List ℕ) (pivots : List MadePivot) (due due' : Due) (tree : Tree) → HasItsLines due' (lines_at_root tree)
        → AllByRecursion (IsShapedAt limit m) (places_from path pivots due tree)
        → AllByRecursion (IsShapedAt limit m) (places_from path' pivots due' tree)
    moved path path' pivots due due' (Branch lines finding trees) has shaped = (
      record {
        lines = has;
        unpivoted = shaped.0.unpivoted;
        case = shaped.0.case;
        first = shaped.0.first;
        found = shaped.0.found;
        parts = shaped.0.parts;
        says = shaped.0.says;
        finding = shaped.0.finding;
        children = shaped.0.children;
        count = shaped.0.count;
      },
      moved_below path path' (pivots_below lines finding pivots) lines finding 0 trees shaped.1,
    )

    moved_below : (path path' : List ℕ) (pivots : List MadePivot) (lines : LineSet) (finding : Finding) (k : ℕ) (trees : Trees)
        → AllByRecursion (IsShapedAt limit m) (places_below path pivots lines finding k trees)
        → AllByRecursion (IsShapedAt limit m) (places_below path' pivots lines finding k trees)
    moved_below path path' pivots lines finding k NoTrees shaped = tt
    moved_below path path' pivots lines finding k (MoreTrees tree trees) shaped =
        let due = due_child lines finding k in
        let here = places_from (path ++ k ∷ []) pivots due tree in
        let later = places_below path pivots lines finding (suc k) trees in
        let first = all_prefix (IsShapedAt limit m) here later shaped in
        all-append (IsShapedAt limit m) (places_from (path' ++ k ∷ []) pivots due tree) (places_below path' pivots lines finding (suc k) trees)
        (moved (path ++ k ∷ []) (path' ++ k ∷ []) pivots due due tree (due_here limit m (path ++ k ∷ []) pivots due tree first) first)
        (moved_below path path' pivots lines finding (suc k) trees (all_back (IsShapedAt limit m) here later shaped))

  -- the same tree as a child that is to have these lines, or as the tree of a matrix that has them
  pub shape_moved : (path : List ℕ) (due : Due) (lines : LineSet) (tree : Tree) → HasItsLines due lines → IsShapeOn limit m lines tree
      → AllByRecursion (IsShapedAt limit m) (places_from path [] due tree)
  shape_moved path due lines tree has shaped = moved [] path [] (These lines) due tree (subst (HasItsLines due) (sym (shape_lines lines tree shaped)) has) shaped

  -- a tree of a matrix is one of all its lines
  pub shape_from : (due : Due) (lines : LineSet) (tree : Tree) → HasItsLines (These lines) (lines_at_root tree)
      → AllByRecursion (IsShapedAt limit m) (places_from [] [] due tree) → IsShapeOn limit m lines tree
  shape_from due lines tree has shaped = moved [] [] [] due (These lines) tree has shaped

  mutual
    pub counts : (path : List ℕ) (pivots : List MadePivot) (due : Due) (tree : Tree) → AllByRecursion (IsShapedAt limit m) (places_from path pivots due tree) → HasCounts tree
    counts path pivots due (Branch lines finding trees) shaped =
        (subst (HasChildren finding) (count_is trees) shaped.0.count, counts_below path (pivots_below lines finding pivots) lines finding 0 trees shaped.1)

    counts_below : (path : List ℕ) (pivots : List MadePivot) (lines : LineSet) (finding : Finding) (k : ℕ) (trees : Trees)
        → AllByRecursion (IsShapedAt limit m) (places_below path pivots lines finding k trees) → HaveCounts trees
    counts_below path pivots lines finding k NoTrees shaped = tt
    counts_below path pivots lines finding k (MoreTrees tree trees) shaped =
        let here = places_from (path ++ k ∷ []) pivots (due_child lines finding k) tree in
        let later = places_below path pivots lines finding (suc k) trees in (
          counts (path ++ k ∷ []) pivots (due_child lines finding k) tree (all_prefix (IsShapedAt limit m) here later shaped),
          counts_below path pivots lines finding (suc k) trees (all_back (IsShapedAt limit m) here later shaped),
        )
