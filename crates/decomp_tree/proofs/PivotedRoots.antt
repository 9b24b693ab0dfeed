-- Decompositions of whole matrices with what pivots find.
use Rattle.std.proofs.Common.{◌≡◌, ◌≤◌, ◌<◌, ◌+◌, ◌∙◌, ◌⊎◌, inl, inr, ℕ, suc, Bool, true, false, List, [], refl, ap, ap₂, sym, subst, arith}
use Rattle.std.proofs.lemmas.Bool.{cases_lt}
use Rattle.std.proofs.lemmas.List.FromFn.{length-range_with_len}
use Rattle.cmr_base.specs.declared.line_set.LineSet.{LineSet}
use Rattle.cmr_base.specs.Matrix.{Matrix, height, IsMatrix}
use Rattle.cmr_base.specs.LineSets.{AllBelow, first_lines}
use Rattle.tree_type.specs.DecompositionTrees.{Finding, Undecided, Tree, Trees, Branch, NoTrees, MoreTrees, count_trees, lines_at_root}
use Rattle.tree_type.specs.Invariant.{AreLines, IsTreeFor, IsTreeWithin, HasChildren, size_of}
use Rattle.tree_type.specs.Places.{AllLines, These}
use Rattle.tree_type.specs.Soundness.{IsSoundTree}
use Rattle.decomp_tree.specs.Laws.{ShapesAreTrees, ShapesAreSound}
use Rattle.decomp_tree.specs.Refined.{is_undecided, Refines, AllRefine}
use Rattle.decomp_tree.specs.Shapes.{IsShape, IsShapeOn}
use Rattle.decomp_tree.specs.PivotedShapes.{IsDrawnWith, IsFound, IsShapeWith, all_lines, is_shallow}
use Rattle.decomp_tree.specs.PivotedLaws.{PivotedShapesAreTrees, PivotedShapesAreSound, NoPivotsChangeNothing}
use Rattle.decomp_tree.proofs.FaultLines.{lines_themselves}
use Rattle.decomp_tree.proofs.FoundTrees.{drawn_with_lines, drawn_with_within}
use Rattle.decomp_tree.proofs.FoundSound.{drawn_with_sound}
use Rattle.decomp_tree.proofs.LevelLemmas.{same_levels, within_levels}
use Rattle.decomp_tree.proofs.OnePivoted.{drawn_with_same}
use Rattle.decomp_tree.proofs.Roots.{root_lines}
use Rattle.decomp_tree.proofs.OneTree.{due_here}
use Rattle.decomp_tree.proofs.RefinedTrees.{RefinedNode, replaced, kept, refined_node, refined_kept}
use Rattle.decomp_tree.proofs.Settled.{only_undecided_is}
use Rattle.decomp_tree.proofs.ShapeTrees.{HasCounts, HaveCounts, counts, shape_from, shape_moved}

pub all_are_lines : (m : Matrix) → IsMatrix m → AreLines m (all_lines m)
all_are_lines m is = root_lines m is (all_lines m) refl refl

-- the root has all lines
pub root_is_whole : (limit pivots : ℕ) (m : Matrix) (tree : Tree) → IsShapeWith limit pivots m tree
    → ((lines_at_root tree).rows ≡ first_lines (height m)) × ((lines_at_root tree).columns ≡ first_lines m.width)
root_is_whole limit pivots m tree d =
    let same = drawn_with_lines limit d.made 1 m (all_lines m) tree d.drawn in
    (ap (λ (lines : LineSet). lines.rows) same, ap (λ (lines : LineSet). lines.columns) same)

-- the tree has lines of the matrix, on enough levels
drawn_with_all : (limit made levels : ℕ) (m : Matrix) (tree : Tree) → IsMatrix m → IsDrawnWith limit made 1 m (all_lines m) tree
    → size_of (all_lines m) + made < levels → IsTreeWithin (all_lines m) levels tree
drawn_with_all limit made levels m tree is d few =
    let are = all_are_lines m is in
    drawn_with_within limit made 1 m (all_lines m) tree (all_lines m) levels is d are (lines_themselves m (all_lines m) are) few

few_lines : (m : Matrix) → IsMatrix m → size_of (all_lines m) + 0 < 2001
few_lines m is =
    let a = is.height_in in
    let b = is.width_in in
    let rows = length-range_with_len 0 (height m) in
    let columns = length-range_with_len 0 m.width in
    omega (arith, a, b, rows, columns)

pub pivoted_shapes_are_trees : PivotedShapesAreTrees
pivoted_shapes_are_trees limit pivots m tree is d =
    let same = drawn_with_lines limit d.made 1 m (all_lines m) tree d.drawn in
    let are = all_are_lines m is in
    record {
      rows_in = is.height_in;
      columns_in = is.width_in;
      root_rows = subst (λ (lines : LineSet). AllBelow (height m) lines.rows) (sym same) are.rows.in_range;
      root_columns = subst (λ (lines : LineSet). AllBelow m.width lines.columns) (sym same) are.columns.in_range;
      nodes = subst (λ (lines : LineSet). IsTreeWithin lines 2001 tree) (sym same)
          (elim d.shallow [
            | inl none ↦ drawn_with_all limit 0 2001 m tree is (subst (λ made. IsDrawnWith limit made 1 m (all_lines m) tree) none d.drawn) (few_lines m is)
            | inr shallow ↦
                let levels = suc (size_of (all_lines m) + d.made) in
                within_levels (all_lines m) levels 2001 tree (drawn_with_all limit d.made levels m tree is d.drawn (omega arith)) shallow
          ]);
    }

pub pivoted_shapes_are_sound : PivotedShapesAreSound
pivoted_shapes_are_sound limit pivots m tree few is d =
    drawn_with_sound limit few d.made 1 m (all_lines m) tree is d.drawn (all_are_lines m is) [] (AllLines (height m) m.width) (refl, refl) (root_is_whole limit pivots m tree d)

-- a set of all lines
pub all_lines_are : (m : Matrix) (lines : LineSet) → lines.rows ≡ first_lines (height m) → lines.columns ≡ first_lines m.width → lines ≡ all_lines m
all_lines_are m lines rows columns = ap₂ (λ (r c : List ℕ). let set : LineSet = record { rows = r; columns = c } in set) rows columns

-- the tree of a matrix of these sizes
module _ (limit pivots : ℕ) (m : Matrix) (tree : Tree) (is : IsMatrix m) (r w : ℕ) (e : r ≡ height m) (f : w ≡ m.width) (d : IsShapeWith limit pivots m tree) where
  pub whole_tree : IsTreeFor r w tree
  whole_tree = subst (λ k. IsTreeFor k w tree) (sym e) (subst (λ k. IsTreeFor (height m) k tree) (sym f) (pivoted_shapes_are_trees limit pivots m tree is d))

  pub whole_sound : limit ≤ 24 → IsSoundTree m r w tree
  whole_sound few = subst (λ k. IsSoundTree m k w tree) (sym e) (subst (λ k. IsSoundTree m (height m) k tree) (sym f) (pivoted_shapes_are_sound limit pivots m tree few is d))

-- ---- the greatest number of pivots with which no node is too deep

module _ (limit : ℕ) (m : Matrix) (tree : Tree) where
  pub shape_with_all : (pivots : ℕ) → IsDrawnWith limit pivots 1 m (all_lines m) tree → (pivots ≡ 0) ⊎ (is_shallow tree ≡ true) → IsShapeWith limit pivots m tree
  shape_with_all pivots d shallow = record { made = pivots; few = omega arith; drawn = d; shallow = shallow; most = λ more other low high drawn. absurd (omega (arith, low, high)) }

  -- if some node is too deep with one pivot more
  pub shape_with_fewer : (pivots fewer : ℕ) → pivots ≡ suc fewer → (deep : Tree) → IsDrawnWith limit pivots 1 m (all_lines m) deep → is_shallow deep ≡ false
      → IsShapeWith limit fewer m tree → IsShapeWith limit pivots m tree
  shape_with_fewer pivots fewer e deep is too_deep d = record {
    made = d.made;
    few = let few = d.few in omega (arith, few, e);
    drawn = d.drawn;
    shallow = d.shallow;
    most = λ more other low high drawn. elim (cases_lt more pivots) [
      | inl less ↦ d.most more other low (omega (arith, less, e)) drawn
      | inr equal ↦
          let same : more ≡ pivots = omega (arith, equal, high) in
          same_levels 2001 other deep (drawn_with_same limit pivots 1 m (all_lines m) other deep (subst (λ k. IsDrawnWith limit k 1 m (all_lines m) other) same drawn) is) ∙ too_deep
    ];
  }

-- where nothing is found each undecided node stays
module _ (limit state : ℕ) (m : Matrix) where
  no_children : (trees : Trees) → count_trees trees ≡ 0 → trees ≡ NoTrees
  no_children NoTrees e = refl
  no_children (MoreTrees tree trees) e = cc

  mutual
    refined_is_same : (shape tree : Tree) → HasCounts shape → Refines (IsFound limit 0 state m) shape tree → tree ≡ shape
    refined_is_same (Branch lines finding trees) tree counted r = go (refined_node (IsFound limit 0 state m) lines finding trees tree r) (λ below all. each_is_same trees below counted.1 all)
      where
        go : RefinedNode (IsFound limit 0 state m) lines finding trees tree → ((below : Trees) → AllRefine (IsFound limit 0 state m) trees below → below ≡ trees) → tree ≡ Branch lines finding trees
        go (replaced e is) each =
            let none : trees ≡ NoTrees = no_children trees (subst (λ f. HasChildren f (count_trees trees)) e counted.0) in
            is ∙ ap₂ (λ (f : Finding) (ts : Trees). Branch lines f ts) (sym e) (sym none)
        go (kept e below is all) each = is ∙ ap (λ (ts : Trees). Branch lines finding ts) (each below all)

    each_is_same : (trees below : Trees) → HaveCounts trees → AllRefine (IsFound limit 0 state m) trees below → below ≡ trees
    each_is_same NoTrees below counted e = e
    each_is_same (MoreTrees tree trees) below counted (first, rest, e, r, all) =
        e ∙ ap₂ (λ (t : Tree) (ts : Trees). MoreTrees t ts) (refined_is_same tree first counted.0 r) (each_is_same trees rest counted.1 all)

  mutual
    refines_itself : (shape : Tree) → HasCounts shape → Refines (IsFound limit 0 state m) shape shape
    refines_itself (Branch lines finding trees) counted = go (is_undecided finding) refl (each_refines trees counted.1)
      where
        go : (b : Bool) → is_undecided finding ≡ b → AllRefine (IsFound limit 0 state m) trees trees → Refines (IsFound limit 0 state m) (Branch lines finding trees) (Branch lines finding trees)
        go true e all =
            let is = only_undecided_is finding e in
            let none : trees ≡ NoTrees = no_children trees (subst (λ f. HasChildren f (count_trees trees)) is counted.0) in
            subst (λ f. Refines (IsFound limit 0 state m) (Branch lines f trees) (Branch lines f trees)) (sym is) (ap (λ (ts : Trees). Branch lines Undecided ts) none)
        go false e all = refined_kept (IsFound limit 0 state m) lines finding trees trees e all

    each_refines : (trees : Trees) → HaveCounts trees → AllRefine (IsFound limit 0 state m) trees trees
    each_refines NoTrees counted = refl
    each_refines (MoreTrees tree trees) counted = (tree, trees, refl, refines_itself tree counted.0, each_refines trees counted.1)

pub no_pivots_change_nothing : NoPivotsChangeNothing
no_pivots_change_nothing limit m tree = (plain, pivoted)
  where
    plain : IsShapeWith limit 0 m tree → IsShape limit m tree
    plain d =
        let few = d.few in
        let none : d.made ≡ 0 = omega (arith, few) in
        let drawn = subst (λ made. IsDrawnWith limit made 1 m (all_lines m) tree) none d.drawn in
        let same = refined_is_same limit 1 m drawn.shape tree (counts limit m [] [] (These (all_lines m)) drawn.shape drawn.drawn) drawn.refines in
        shape_moved limit m [] (AllLines (height m) m.width) (all_lines m) tree (refl, refl) (subst (IsShapeOn limit m (all_lines m)) (sym same) drawn.drawn)

    pivoted : IsShape limit m tree → IsShapeWith limit 0 m tree
    pivoted shape = shape_with_all limit m tree 0 (record {
      shape = tree;
      drawn = shape_from limit m (AllLines (height m) m.width) (all_lines m) tree (due_here limit m [] [] (AllLines (height m) m.width) tree shape) shape;
      refines = refines_itself limit 1 m tree (counts limit m [] [] (AllLines (height m) m.width) tree shape);
    }) (inl refl)

pub shapes_are_trees : ShapesAreTrees
shapes_are_trees limit m tree is shape = pivoted_shapes_are_trees limit 0 m tree is ((no_pivots_change_nothing limit m tree).1 shape)

pub shapes_are_sound : ShapesAreSound
shapes_are_sound limit few m is tree shape = pivoted_shapes_are_sound limit 0 m tree few is ((no_pivots_change_nothing limit m tree).1 shape)
