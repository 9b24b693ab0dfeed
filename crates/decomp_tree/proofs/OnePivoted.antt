-- A matrix has one decomposition with pivots, except for its networks.
use Rattle.std.proofs.Common.{◌≡◌, ◌<◌, ◌∙◌, inl, inr, ℕ, zero, suc, List, [], Contains, Option, Some, None, refl, ap, ap₂, sym, subst, arith}
use Rattle.cmr_base.specs.declared.line_set.LineSet.{LineSet}
use Rattle.cmr_base.specs.Matrix.{Matrix, entry, IsEntry}
use Rattle.cmr_base.specs.PlacedPivots.{pivot_entry, pivoted_part}
use Rattle.cmr_base.specs.Members.{IsIn}
use Rattle.cmr_base.proofs.Booleans.{neither, not_both, same_or_not, true_is_false}
use Rattle.cmr_base.proofs.Places.{increasing_same}
use Rattle.pivots.specs.declared.drawn.DrawnPlace.{DrawnPlace}
use Rattle.cmr_base.specs.declared.position.Position.{Position}
use Rattle.pivots.specs.PivotedParts.{ShowsFirstTwoIn}
use Rattle.pivots.specs.ChosenLines.{two_lines}
use Rattle.tree_type.specs.DecompositionTrees.{Finding, Empty, Cycle, Reduced, OneSum, Network, Conetwork, R10, TwoSum, ThreeSum, Enumerated, Violator, Undecided, Pivoted, Tree, Trees, Branch, NoTrees, MoreTrees}
use Rattle.tree_type.specs.Places.{These}
use Rattle.tree_type.specs.Verdicts.{Verdict, Yes, No, Open, verdict_of}
use Rattle.decomp_tree.specs.PlainTrees.{plain_finding, plain_tree, plain_trees}
use Rattle.decomp_tree.specs.Shapes.{IsShapeOn}
use Rattle.decomp_tree.specs.Refined.{is_undecided, Refines, AllRefine}
use Rattle.decomp_tree.specs.PivotedLaws.{OnePivotedShape}
use Rattle.decomp_tree.specs.PivotedShapes.{AreBefore, IsMappedBack, IsFoundAt, IsFound, IsDrawnWith, IsShapeWith, all_lines, is_shallow}
use Rattle.separating_places.proofs.ChosenPlaces.{one_choice}
use Rattle.decomp_tree.proofs.OneTree.{one_tree}
use Rattle.decomp_tree.proofs.PlainVerdicts.{verdict_plain}
use Rattle.decomp_tree.proofs.RefinedTrees.{RefinedNode, replaced, kept, refined_node}
use Rattle.decomp_tree.proofs.ShapeTrees.{shape_lines}

-- ---- trees that others replace

undecided_plain : (f : Finding) → is_undecided (plain_finding f) ≡ is_undecided f
undecided_plain Empty = refl
undecided_plain (Cycle f) = refl
undecided_plain (Reduced steps) = refl
undecided_plain OneSum = refl
undecided_plain (Network n) = refl
undecided_plain (Conetwork n) = refl
undecided_plain R10 = refl
undecided_plain (TwoSum two) = refl
undecided_plain (ThreeSum three) = refl
undecided_plain Enumerated = refl
undecided_plain (Violator f) = refl
undecided_plain Undecided = refl
undecided_plain (Pivoted place) = refl

pub undecided_same : (f g : Finding) → plain_finding f ≡ plain_finding g → is_undecided f ≡ is_undecided g
undecided_same f g e = sym (undecided_plain f) ∙ ap is_undecided e ∙ undecided_plain g

module _ (Replaces : LineSet → Tree → Type 0) (same : (lines : LineSet) (tree other : Tree) → Replaces lines tree → Replaces lines other → plain_tree tree ≡ plain_tree other) where
  mutual
    pub refined_same : (shape shape' tree tree' : Tree) → plain_tree shape ≡ plain_tree shape' → Refines Replaces shape tree → Refines Replaces shape' tree' → plain_tree tree ≡ plain_tree tree'
    refined_same (Branch lines finding trees) (Branch lines' finding' trees') tree tree' e r r' =
        go (refined_node Replaces lines finding trees tree r) (refined_node Replaces lines' finding' trees' tree' r')
        (λ below below' all all'. let ts : plain_trees trees ≡ plain_trees trees' = cc in each_same trees trees' below below' ts all all')
      where
        one_lines : lines ≡ lines'
        one_lines = cc

        one_finding : plain_finding finding ≡ plain_finding finding'
        one_finding = cc

        go : RefinedNode Replaces lines finding trees tree → RefinedNode Replaces lines' finding' trees' tree'
            → ((below below' : Trees) → AllRefine Replaces trees below → AllRefine Replaces trees' below' → plain_trees below ≡ plain_trees below')
            → plain_tree tree ≡ plain_tree tree'
        go (replaced is replaces) (replaced is' replaces') each = same lines tree tree' replaces (subst (λ l. Replaces l tree') (sym one_lines) replaces')
        go (replaced is replaces) (kept is' below' at all') each = true_is_false (sym (ap is_undecided is) ∙ undecided_same finding finding' one_finding ∙ is')
        go (kept is below at all) (replaced is' replaces') each = true_is_false (sym (ap is_undecided is') ∙ sym (undecided_same finding finding' one_finding) ∙ is)
        go (kept is below at all) (kept is' below' at' all') each =
            ap plain_tree at ∙ ap (λ (l : LineSet). Branch l (plain_finding finding) (plain_trees below)) one_lines ∙ ap₂ (λ (f : Finding) (ts : Trees). Branch lines' f ts) one_finding (each below below' all all') ∙ sym (ap plain_tree at')

    each_same : (trees trees' below below' : Trees) → plain_trees trees ≡ plain_trees trees' → AllRefine Replaces trees below → AllRefine Replaces trees' below'
        → plain_trees below ≡ plain_trees below'
    each_same NoTrees NoTrees below below' e all all' = ap plain_trees (all ∙ sym all')
    each_same NoTrees (MoreTrees tree' trees') below below' e all all' = cc
    each_same (MoreTrees tree trees) NoTrees below below' e all all' = cc
    each_same (MoreTrees tree trees) (MoreTrees tree' trees') below below' e (first, rest, at, r, all) (first', rest', at', r', all') =
        let head : plain_tree tree ≡ plain_tree tree' = cc in
        let tail : plain_trees trees ≡ plain_trees trees' = cc in
        ap plain_trees at ∙ ap₂ (λ (t : Tree) (ts : Trees). MoreTrees t ts) (refined_same tree tree' first first' head r r') (each_same trees trees' rest rest' tail all all') ∙ sym (ap plain_trees at')

-- ---- what a pivot shows

line_set_same : (f g : LineSet) → f.rows ≡ g.rows → f.columns ≡ g.columns → f ≡ g
line_set_same f g e h = ap₂ (λ (rows columns : List ℕ). let set : LineSet = record { rows = rows; columns = columns } in set) e h

one_two : (m : Matrix) (lines : LineSet) (place : Position) (fault other : LineSet) → ShowsFirstTwoIn m lines place fault.rows fault.columns
    → ShowsFirstTwoIn m lines place other.rows other.columns → fault ≡ other
one_two m lines place fault other a b =
    line_set_same fault other (a.rows_are ∙ ap (two_lines place.row) one_row ∙ sym b.rows_are) (a.columns_are ∙ ap (two_lines place.column) one_column ∙ sym b.columns_are)
  where
    one_row : a.other_row ≡ b.other_row
    one_row = neither a.other_row b.other_row
        (λ l. a.two (b.rows_before a.other_row a.other_column a.row_in a.column_in l))
        (λ l. b.two (a.rows_before b.other_row b.other_column b.row_in b.column_in l))

    before_one : (j : ℕ) → Contains lines.columns j → j < b.other_column → IsEntry (pivot_entry (entry m) place.row place.column a.other_row j)
    before_one j is l = subst (λ i. IsEntry (pivot_entry (entry m) place.row place.column i j)) (sym one_row) (b.columns_before j is l)

    one_column : a.other_column ≡ b.other_column
    one_column = neither a.other_column b.other_column
        (λ l. a.two (before_one a.other_column a.column_in l))
        (λ l. b.two (subst (λ i. IsEntry (pivot_entry (entry m) place.row place.column i b.other_column)) one_row (a.columns_before b.other_column b.column_in l)))

-- the lines before the pivot are one set
before_same : (m : Matrix) (place : Position) (fault before other : LineSet) → AreBefore m place fault before → AreBefore m place fault other → before ≡ other
before_same m place fault before other a b =
    line_set_same before other
    (increasing_same before.rows other.rows a.row_set.increasing b.row_set.increasing (λ x h. rows_in a b x h) (λ x h. rows_in b a x h))
    (increasing_same before.columns other.columns a.column_set.increasing b.column_set.increasing (λ x h. columns_in a b x h) (λ x h. columns_in b a x h))
  where
    rows_in : {one another : LineSet} → AreBefore m place fault one → AreBefore m place fault another → (x : ℕ) → IsIn x one.rows → IsIn x another.rows
    rows_in {one} {another} a b x h = elim (same_or_not x place.row) [
      | inl e ↦ subst (λ i. IsIn i another.rows) (sym e) (b.lines.row_there.1 (a.lines.row_there.0 (subst (λ i. IsIn i one.rows) e h)))
      | inr n ↦ (b.lines.other_rows x n).1 ((a.lines.other_rows x n).0 h)
    ]

    columns_in : {one another : LineSet} → AreBefore m place fault one → AreBefore m place fault another → (x : ℕ) → IsIn x one.columns → IsIn x another.columns
    columns_in {one} {another} a b x h = elim (same_or_not x place.column) [
      | inl e ↦ subst (λ i. IsIn i another.columns) (sym e) (b.lines.column_there.1 (a.lines.column_there.0 (subst (λ i. IsIn i one.columns) e h)))
      | inr n ↦ (b.lines.other_columns x n).1 ((a.lines.other_columns x n).0 h)
    ]

pub mapped_same : (m : Matrix) (lines : LineSet) (place : Position) (after after' : Tree) → plain_tree after ≡ plain_tree after'
    → (v : Verdict) (tree tree' : Tree) → IsMappedBack m lines place after v tree → IsMappedBack m lines place after' v tree'
    → plain_tree tree ≡ plain_tree tree'
mapped_same m lines place after after' same Yes tree tree' e e' = ap plain_tree e ∙ ap (λ (t : Tree). Branch lines (Pivoted place) (MoreTrees t NoTrees)) same ∙ sym (ap plain_tree e')
mapped_same m lines place after after' same (No fault) tree tree' (before, b, e) (before', b', e') =
    ap plain_tree e ∙ ap (λ (f : LineSet). Branch lines (Violator f) NoTrees) (before_same m place fault before before' b b') ∙ sym (ap plain_tree e')
mapped_same m lines place after after' same (Open left) tree tree' e e' = ap plain_tree (e ∙ sym e')

-- ---- what pivots find

module _ (limit : ℕ) where
  abbrev IsOne : ℕ → Type 0
  IsOne pivots = (state : ℕ) (m : Matrix) (lines : LineSet) (tree tree' : Tree) → IsFound limit pivots state m lines tree → IsFound limit pivots state m lines tree' → plain_tree tree ≡ plain_tree tree'

  pub shape_same : (m : Matrix) (lines : LineSet) (shape shape' : Tree) → IsShapeOn limit m lines shape → IsShapeOn limit m lines shape' → plain_tree shape ≡ plain_tree shape'
  shape_same m lines shape shape' d d' = one_tree limit m [] [] [] [] (These lines) (These lines) shape shape' (shape_lines limit m lines shape d ∙ sym (shape_lines limit m lines shape' d')) d d'

  drawn_same : (pivots : ℕ) → IsOne pivots → (state : ℕ) (m : Matrix) (lines : LineSet) (tree tree' : Tree) → IsDrawnWith limit pivots state m lines tree
      → IsDrawnWith limit pivots state m lines tree' → plain_tree tree ≡ plain_tree tree'
  drawn_same pivots one state m lines tree tree' d d' =
      refined_same (IsFound limit pivots state m) (λ some t t' f f'. one state m some t t' f f') d.shape d'.shape tree tree' (shape_same m lines d.shape d'.shape d.drawn d'.drawn) d.refines d'.refines

  found_at_same : (pivots : ℕ) → IsOne pivots → (m : Matrix) (lines : LineSet) (chosen : Option DrawnPlace) (tree tree' : Tree)
      → IsFoundAt (λ next after found. (shape : Tree) × IsShapeOn limit after lines shape × Refines (IsFound limit pivots next after) shape found) m lines chosen tree
      → IsFoundAt (λ next after found. (shape : Tree) × IsShapeOn limit after lines shape × Refines (IsFound limit pivots next after) shape found) m lines chosen tree'
      → plain_tree tree ≡ plain_tree tree'
  found_at_same pivots one m lines None tree tree' e e' = ap plain_tree (e ∙ sym e')
  found_at_same pivots one m lines (Some chosen) tree tree' (inl (fault, shows, e)) (inl (fault', shows', e')) =
      ap plain_tree e ∙ ap (λ (f : LineSet). Branch lines (Violator f) NoTrees) (one_two m lines chosen.place fault fault' shows shows') ∙ sym (ap plain_tree e')
  found_at_same pivots one m lines (Some chosen) tree tree' (inl (fault, shows, e)) (inr (ternary, after', is', mapped')) = absurd (shows.two (ternary shows.other_row shows.other_column shows.row_in shows.column_in))
  found_at_same pivots one m lines (Some chosen) tree tree' (inr (ternary, after, is, mapped)) (inl (fault', shows', e')) = absurd (shows'.two (ternary shows'.other_row shows'.other_column shows'.row_in shows'.column_in))
  found_at_same pivots one m lines (Some chosen) tree tree' (inr (ternary, after, (shape, is, refines), mapped)) (inr (ternary', after', (shape', is', refines'), mapped')) =
      let same = drawn_same pivots one chosen.state (pivoted_part m lines chosen.place) lines after after' (record { shape = shape; drawn = is; refines = refines }) (record { shape = shape'; drawn = is'; refines = refines' }) in
      mapped_same m lines chosen.place after after' same (verdict_of after) tree tree' mapped
      (subst (λ v. IsMappedBack m lines chosen.place after' v tree') (verdict_plain after' ∙ ap verdict_of (sym same) ∙ sym (verdict_plain after)) mapped')

  found_same : (pivots : ℕ) → IsOne pivots
  found_same zero state m lines tree tree' e e' = ap plain_tree (e ∙ sym e')
  found_same (suc pivots) state m lines tree tree' (chosen, choice, found) (chosen', choice', found') =
      let one = one_choice m lines state chosen' chosen choice' choice in
      found_at_same pivots (found_same pivots) m lines chosen tree tree' found
      (subst (λ (some : Option DrawnPlace). IsFoundAt (λ next after found. (shape : Tree) × IsShapeOn limit after lines shape × Refines (IsFound limit pivots next after) shape found) m lines some tree') one found')

  -- two decompositions differ at most in their networks
  pub drawn_with_same : (pivots state : ℕ) (m : Matrix) (lines : LineSet) (tree tree' : Tree) → IsDrawnWith limit pivots state m lines tree
      → IsDrawnWith limit pivots state m lines tree' → plain_tree tree ≡ plain_tree tree'
  drawn_with_same pivots state m lines tree tree' d d' = drawn_same pivots (found_same pivots) state m lines tree tree' d d'

-- no more pivots are made in one decomposition than in another
no_more : (limit pivots : ℕ) (m : Matrix) (tree other : Tree) (d : IsShapeWith limit pivots m tree) (d' : IsShapeWith limit pivots m other) → ¬ (d.made < d'.made)
no_more limit pivots m tree other d d' fewer = elim d'.shallow [
  | inl none ↦ omega (arith, fewer, none)
  | inr shallow ↦ not_both (is_shallow other) shallow (d.most d'.made other fewer d'.few d'.drawn)
]

made_same : (limit pivots : ℕ) (m : Matrix) (tree other : Tree) (d : IsShapeWith limit pivots m tree) (d' : IsShapeWith limit pivots m other) → d.made ≡ d'.made
made_same limit pivots m tree other d d' = neither d.made d'.made (no_more limit pivots m tree other d d') (no_more limit pivots m other tree d' d)

pub one_pivoted_shape : OnePivotedShape
one_pivoted_shape limit pivots m tree other d d' =
    drawn_with_same limit d'.made 1 m (all_lines m) tree other (subst (λ made. IsDrawnWith limit made 1 m (all_lines m) tree) (made_same limit pivots m tree other d d') d.drawn) d'.drawn
