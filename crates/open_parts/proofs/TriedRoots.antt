-- Decompositions of whole matrices whose open parts are tried.
use Rattle.std.proofs.Common.{◌≡◌, ◌≢◌, ◌<◌, ◌≤◌, ◌∙◌, true, false, ℕ, zero, suc, [], Option, Some, None, refl, ap, sym, subst, arith}
use Rattle.cmr_base.specs.declared.line_set.LineSet.{LineSet}
use Rattle.cmr_base.specs.LineSets.{AllBelow, first_lines}
use Rattle.cmr_base.specs.Matrix.{Matrix, height, IsMatrix}
use Rattle.tree_type.specs.declared.tree.Node.{Node}
use Rattle.tree_type.specs.DecompositionTrees.{Tree, lines_at_root, tree_of}
use Rattle.tree_type.specs.Invariant.{AreLines, IsTreeFor, IsTreeWithin}
use Rattle.tree_type.specs.Places.{AllLines}
use Rattle.tree_type.specs.Soundness.{IsSoundTree}
use Rattle.tree_type.specs.Verdicts.{Verdict, Yes, No, Open, first_in, fault_at, open_at, verdict_from, verdict_of}
use Rattle.decomp_tree.specs.PlainTrees.{plain_tree}
use Rattle.decomp_tree.specs.PivotedShapes.{IsShapeWith}
use Rattle.decomp_tree.specs.Refined.{Refines}
use Rattle.decomp_tree.proofs.OnePivoted.{one_pivoted_shape}
use Rattle.decomp_tree.proofs.OpenNodes.{open_case, open_end}
use Rattle.decomp_tree.proofs.PivotedRoots.{no_pivots_change_nothing, pivoted_shapes_are_sound, pivoted_shapes_are_trees, root_is_whole}
use Rattle.decomp_tree.proofs.PlainVerdicts.{verdict_plain}
use Rattle.decomp_tree.proofs.RefinedTrees.{refined_lines}
use Rattle.decomp_tree.proofs.Roots.{root_lines}
use Rattle.open_parts.specs.Laws.{FoundFaultsAreViolators, NoPivotsTryNothing, OneTriedShape, OpenLinesAreTried, TriedShapesAreSound, TriedShapesAreTrees}
use Rattle.open_parts.specs.LinesOfNodes.{HasLinesOf}
use Rattle.open_parts.specs.Rests.{IsFoundInRests, turns_of}
use Rattle.open_parts.specs.TriedShapes.{IsTriedIf, IsTriedIfOpen, IsTriedLeaf, IsTriedWith, is_open}
use Rattle.open_parts.proofs.RestSearches.{found_violates}
use Rattle.open_parts.proofs.TriedTrees.{tried_lines, tried_sound, tried_within}
use Rattle.open_parts.proofs.TriedVerdicts.{faultless_same, open_tried, tried_same}

-- ---- a tree stays, or each undecided node is tried

pub data TriedView (limit : ℕ) (m : Matrix) (drawn tree : Tree) : Type 0 where
  stays : tree ≡ drawn → TriedView limit m drawn tree
  tried : (left : LineSet) → verdict_of drawn ≡ Open left → Refines (IsTriedLeaf limit m) drawn tree → TriedView limit m drawn tree

module _ (limit : ℕ) (m : Matrix) (drawn tree : Tree) where
  view_of : (v : Verdict) → verdict_of drawn ≡ v → IsTriedIfOpen limit m drawn v tree → TriedView limit m drawn tree
  view_of Yes e t = stays t
  view_of (No fault) e t = stays t
  view_of (Open left) e t = tried left e t

  pub tried_view : (pivots : ℕ) → IsTriedIf pivots limit m drawn tree → TriedView limit m drawn tree
  tried_view zero t = stays t
  tried_view (suc more) t = view_of (verdict_of drawn) refl t

-- the decomposition itself, and the one whose undecided nodes are tried
module _ (limit : ℕ) (m : Matrix) (drawn tree : Tree) where
  by_open : (v : Verdict) → is_open v ≡ true → Refines (IsTriedLeaf limit m) drawn tree → IsTriedIfOpen limit m drawn v tree
  by_open Yes e r = absurd (cc)
  by_open (No fault) e r = absurd (cc)
  by_open (Open left) e r = r

  pub tried_if_open : (pivots : ℕ) → pivots ≢ 0 → is_open (verdict_of drawn) ≡ true → Refines (IsTriedLeaf limit m) drawn tree → IsTriedIf pivots limit m drawn tree
  tried_if_open zero some e r = absurd (some refl)
  tried_if_open (suc more) some e r = by_open (verdict_of drawn) e r

  by_decided : (v : Verdict) → is_open v ≡ false → tree ≡ drawn → IsTriedIfOpen limit m drawn v tree
  by_decided Yes e same = same
  by_decided (No fault) e same = same
  by_decided (Open left) e same = absurd (cc)

  pub stays_if_decided : (pivots : ℕ) → is_open (verdict_of drawn) ≡ false → tree ≡ drawn → IsTriedIf pivots limit m drawn tree
  stays_if_decided zero e same = same
  stays_if_decided (suc more) e same = by_decided (verdict_of drawn) e same

pub stays_without_pivots : (limit pivots : ℕ) (m : Matrix) (drawn tree : Tree) → pivots ≡ 0 → tree ≡ drawn → IsTriedIf pivots limit m drawn tree
stays_without_pivots limit pivots m drawn tree none same = subst (λ k. IsTriedIf k limit m drawn tree) (sym none) same

pub open_from : (fault undecided : Option LineSet) (lines : LineSet) → verdict_from fault undecided ≡ Open lines → (fault ≡ None) × (undecided ≡ Some lines)
open_from None None lines e = cc
open_from None (Some found) lines e = (refl, cc)
open_from (Some fault) undecided lines e = cc

pub open_verdict : (tree : Tree) (lines : LineSet) → verdict_of tree ≡ Open lines → (first_in fault_at tree ≡ None) × (first_in open_at tree ≡ Some lines)
open_verdict tree lines e = open_from (first_in fault_at tree) (first_in open_at tree) lines e

-- ---- trees

module _ (limit pivots : ℕ) (m : Matrix) (drawn tree : Tree) (is : IsMatrix m) (d : IsShapeWith limit pivots m drawn) where
  pub drawn_tree : IsTreeFor (height m) m.width drawn
  drawn_tree = pivoted_shapes_are_trees limit pivots m drawn is d

  root_are : AreLines m (lines_at_root drawn)
  root_are = let root = root_is_whole limit pivots m drawn d in root_lines m is (lines_at_root drawn) root.0 root.1

  module _ (r : Refines (IsTriedLeaf limit m) drawn tree) where
    same_root : lines_at_root tree ≡ lines_at_root drawn
    same_root = refined_lines (IsTriedLeaf limit m) (tried_lines limit m) drawn tree r

    tried_tree : IsTreeFor (height m) m.width tree
    tried_tree = record {
      rows_in = drawn_tree.rows_in;
      columns_in = drawn_tree.columns_in;
      root_rows = subst (λ (lines : LineSet). AllBelow (height m) lines.rows) (sym same_root) drawn_tree.root_rows;
      root_columns = subst (λ (lines : LineSet). AllBelow m.width lines.columns) (sym same_root) drawn_tree.root_columns;
      nodes = subst (λ (lines : LineSet). IsTreeWithin lines 2001 tree) (sym same_root) (tried_within limit m is (lines_at_root drawn) 2001 drawn tree root_are drawn_tree.nodes r);
    }

    tried_keeps : limit ≤ 24 → IsSoundTree m (height m) m.width tree
    tried_keeps few = tried_sound limit m is few [] [] (AllLines (height m) m.width) (lines_at_root drawn) 2001 drawn tree root_are drawn_tree.nodes (pivoted_shapes_are_sound limit pivots m drawn few is d) r

  tree_by : TriedView limit m drawn tree → IsTreeFor (height m) m.width tree
  tree_by (stays e) = subst (IsTreeFor (height m) m.width) (sym e) drawn_tree
  tree_by (tried left o r) = tried_tree r

  sound_by : limit ≤ 24 → TriedView limit m drawn tree → IsSoundTree m (height m) m.width tree
  sound_by few (stays e) = subst (IsSoundTree m (height m) m.width) (sym e) (pivoted_shapes_are_sound limit pivots m drawn few is d)
  sound_by few (tried left o r) = tried_keeps r few

  -- an open tree in which nothing is found stays
  pub open_stays : (lines : LineSet) → verdict_of tree ≡ Open lines → TriedView limit m drawn tree → tree ≡ drawn
  open_stays lines says (stays e) = e
  open_stays lines says (tried left o r) = faultless_same limit m (lines_at_root drawn) 2001 drawn tree drawn_tree.nodes (open_verdict tree lines says).0 r

pub tried_shapes_are_trees : TriedShapesAreTrees
tried_shapes_are_trees limit pivots m tree is d = tree_by limit pivots m d.drawn tree is d.shape (tried_view limit m d.drawn tree pivots d.tried)

pub tried_shapes_are_sound : TriedShapesAreSound
tried_shapes_are_sound limit pivots m tree few is d = sound_by limit pivots m d.drawn tree is d.shape few (tried_view limit m d.drawn tree pivots d.tried)

-- the root has all lines
pub root_is_all : (limit pivots : ℕ) (m : Matrix) (tree : Tree) → IsTriedWith limit pivots m tree
    → ((lines_at_root tree).rows ≡ first_lines (height m)) × ((lines_at_root tree).columns ≡ first_lines m.width)
root_is_all limit pivots m tree d = go (tried_view limit m d.drawn tree pivots d.tried)
  where
    all : ((lines_at_root d.drawn).rows ≡ first_lines (height m)) × ((lines_at_root d.drawn).columns ≡ first_lines m.width)
    all = root_is_whole limit pivots m d.drawn d.shape

    by_lines : lines_at_root tree ≡ lines_at_root d.drawn → ((lines_at_root tree).rows ≡ first_lines (height m)) × ((lines_at_root tree).columns ≡ first_lines m.width)
    by_lines same = (ap (λ (lines : LineSet). lines.rows) same ∙ all.0, ap (λ (lines : LineSet). lines.columns) same ∙ all.1)

    go : TriedView limit m d.drawn tree → ((lines_at_root tree).rows ≡ first_lines (height m)) × ((lines_at_root tree).columns ≡ first_lines m.width)
    go (stays e) = by_lines (ap lines_at_root e)
    go (tried left o r) = by_lines (refined_lines (IsTriedLeaf limit m) (tried_lines limit m) d.drawn tree r)

-- the tree of a matrix of these sizes
module _ (limit pivots : ℕ) (m : Matrix) (tree : Tree) (is : IsMatrix m) (r w : ℕ) (e : r ≡ height m) (f : w ≡ m.width) (d : IsTriedWith limit pivots m tree) where
  pub whole_tree : IsTreeFor r w tree
  whole_tree = subst (λ k. IsTreeFor k w tree) (sym e) (subst (λ k. IsTreeFor (height m) k tree) (sym f) (tried_shapes_are_trees limit pivots m tree is d))

  pub whole_sound : limit ≤ 24 → IsSoundTree m r w tree
  whole_sound few = subst (λ k. IsSoundTree m k w tree) (sym e) (subst (λ k. IsSoundTree m (height m) k tree) (sym f) (tried_shapes_are_sound limit pivots m tree few is d))

-- ---- one shape

module _ (limit : ℕ) (m : Matrix) (drawn drawn' tree other : Tree) (same : plain_tree drawn ≡ plain_tree drawn') where
  one_by : (v : Verdict) → IsTriedIfOpen limit m drawn v tree → IsTriedIfOpen limit m drawn' v other → plain_tree tree ≡ plain_tree other
  one_by Yes e e' = ap plain_tree e ∙ same ∙ sym (ap plain_tree e')
  one_by (No fault) e e' = ap plain_tree e ∙ same ∙ sym (ap plain_tree e')
  one_by (Open left) r r' = tried_same limit m drawn drawn' tree other same r r'

  pub same_verdict : verdict_of drawn ≡ verdict_of drawn'
  same_verdict = verdict_plain drawn ∙ ap verdict_of same ∙ sym (verdict_plain drawn')

  one_if : (pivots : ℕ) → IsTriedIf pivots limit m drawn tree → IsTriedIf pivots limit m drawn' other → plain_tree tree ≡ plain_tree other
  one_if zero e e' = ap plain_tree e ∙ same ∙ sym (ap plain_tree e')
  one_if (suc more) t t' = one_by (verdict_of drawn) t (subst (λ v. IsTriedIfOpen limit m drawn' v other) (sym same_verdict) t')

pub one_tried_shape : OneTriedShape
one_tried_shape limit pivots m tree other d d' = one_if limit m d.drawn d'.drawn tree other (one_pivoted_shape limit pivots m d.drawn d'.drawn d.shape d'.shape) pivots d.tried d'.tried

-- all decompositions of a matrix have one verdict
pub one_tried_verdict : (limit pivots : ℕ) (m : Matrix) (tree other : Tree) → IsTriedWith limit pivots m tree → IsTriedWith limit pivots m other → verdict_of tree ≡ verdict_of other
one_tried_verdict limit pivots m tree other d d' = verdict_plain tree ∙ ap verdict_of (one_tried_shape limit pivots m tree other d d') ∙ sym (verdict_plain other)

-- ---- no pivots

pub no_pivots_try_nothing : NoPivotsTryNothing
no_pivots_try_nothing limit m tree = (
  λ d. (no_pivots_change_nothing limit m tree).0 (subst (IsShapeWith limit 0 m) (sym d.tried) d.shape),
  λ shape. record { drawn = tree; shape = (no_pivots_change_nothing limit m tree).1 shape; tried = refl },
)

-- ---- open lines

module _ (limit : ℕ) (m : Matrix) (drawn tree : Tree) (lines : LineSet) (says : verdict_of tree ≡ Open lines) where
  left_by : (v : Verdict) → verdict_of drawn ≡ v → IsTriedIfOpen limit m drawn v tree → IsFoundInRests limit m lines None
  left_by Yes e t = absurd (let f = sym says ∙ ap verdict_of t ∙ e in cc)
  left_by (No fault) e t = absurd (let f = sym says ∙ ap verdict_of t ∙ e in cc)
  left_by (Open left) e r = let o = open_verdict tree lines says in open_tried limit m drawn tree lines o.0 o.1 r

  left_tried : (pivots : ℕ) → 0 < pivots → IsTriedIf pivots limit m drawn tree → IsFoundInRests limit m lines None
  left_tried zero l t = absurd (omega (arith, l))
  left_tried (suc more) l t = left_by (verdict_of drawn) refl t

pub open_lines_are_tried : OpenLinesAreTried
open_lines_are_tried limit pivots m tree lines is d says =
    let same = open_stays limit pivots m d.drawn tree is d.shape lines says (tried_view limit m d.drawn tree pivots d.tried) in
    let first = sym (ap (first_in open_at) same) ∙ (open_verdict tree lines says).1 in
    let left = open_case limit pivots m d.drawn lines is d.shape first in
    (left.0, left.1, (λ l. left_tried limit m d.drawn tree lines says pivots l d.tried), open_end limit pivots m d.drawn lines is d.shape first)

-- ---- faults

pub found_faults_are_violators : FoundFaultsAreViolators
found_faults_are_violators limit m lines fault few is are search =
    let v = found_violates limit m is (turns_of lines) lines fault are search in
    (v.among, v.violator few)

-- ---- what the code makes

pub drawn_has_lines : (limit pivots : ℕ) (m : Matrix) (drawn : Tree) → IsMatrix m → IsShapeWith limit pivots m drawn → HasLinesOf m drawn
drawn_has_lines limit pivots m drawn is d = record {
  parent = lines_at_root drawn;
  levels = 2001;
  are = (let root = root_is_whole limit pivots m drawn d in root_lines m is (lines_at_root drawn) root.0 root.1);
  within = (pivoted_shapes_are_trees limit pivots m drawn is d).nodes;
}

-- the tree of an open decomposition after its nodes are tried
pub open_is_tried : (limit pivots : ℕ) (m : Matrix) (drawn lent root : Node) → pivots ≢ 0 → is_open (verdict_of (tree_of drawn)) ≡ true → lent ≡ drawn → IsShapeWith limit pivots m (tree_of drawn)
    → Refines (IsTriedLeaf limit m) (tree_of lent) (tree_of root) → IsTriedWith limit pivots m (tree_of root)
open_is_tried limit pivots m drawn lent root some e same d r =
    record { drawn = tree_of drawn; shape = d; tried = tried_if_open limit m (tree_of drawn) (tree_of root) pivots some e (subst (λ (n : Node). Refines (IsTriedLeaf limit m) (tree_of n) (tree_of root)) same r) }
