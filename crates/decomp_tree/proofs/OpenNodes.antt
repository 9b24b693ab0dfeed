-- The node that a decomposition leaves open comes to the last case, also where pivots were made.
use Rattle.std.proofs.Common.{◌≡◌, ◌≢◌, ◌⊎◌, ◌-◌, ◌∙◌, ◌++◌, inl, inr, ℕ, zero, suc, false, List, [], ◌∷◌, Option, Some, None, refl, ap, sym, subst, arith}
use Rattle.std.specs.List.{AllByRecursion}
use Rattle.std.specs.Option.{option_or}
use Rattle.cmr_base.specs.declared.line_set.LineSet.{LineSet}
use Rattle.cmr_base.specs.Matrix.{Matrix, IsMatrix}
use Rattle.cmr_base.specs.PlacedPivots.{pivoted_part}
use Rattle.cmr_base.proofs.Booleans.{same_or_not}
use Rattle.cmr_base.proofs.Lists.{all_prefix, all_back}
use Rattle.cmr_base.proofs.Options.{some_or, some_same}
use Rattle.pivots.specs.declared.drawn.DrawnPlace.{DrawnPlace}
use Rattle.cmr_base.specs.declared.position.Position.{Position}
use Rattle.tree_type.specs.DecompositionTrees.{Finding, Empty, Cycle, Reduced, OneSum, Network, Conetwork, R10, TwoSum, ThreeSum, Enumerated, Violator, Undecided, Pivoted, Tree, Trees, Branch, NoTrees, MoreTrees, lines_at_root}
use Rattle.tree_type.specs.Invariant.{AreLines, AreLinesOf, size_of, IsTreeWithin, AreTreesWithin}
use Rattle.tree_type.specs.Places.{Due, These, Place, places_from, places_below, due_child, lines_of_each}
use Rattle.tree_type.specs.Soundness.{part}
use Rattle.tree_type.specs.Verdicts.{Verdict, Yes, No, Open, fault_at, first_in, first_among, open_at, verdict_from, verdict_of}
use Rattle.tree_type.proofs.PlacedLines.{lines_within}
use Rattle.decomp_tree.specs.Refined.{is_undecided, Refines, AllRefine}
use Rattle.decomp_tree.specs.Shapes.{Case, HasNoLines, HasFault, IsReducible, IsApart, IsNetwork, IsConetwork, IsR10Matrix, IsTwoSum, IsThreeSum, IsShort, IsLeft, IsFirstCase, NodeSays, finding_in, IsShapedAt, IsShapeOn}
use Rattle.decomp_tree.specs.PivotedShapes.{IsMappedBack, IsFoundAt, IsFound, all_lines, undecided}
use Rattle.pivots.proofs.PartLaws.{part_pivots_stay_matrices}
use Rattle.separating_places.specs.declared.place.TheConstants.{LATE_STATE}
use Rattle.separating_places.specs.SeparatingPlaces.{IsChosenPlace}
use Rattle.tree_laws.proofs.PivotedMatrices.{lines_pivoted}
use Rattle.decomp_tree.specs.OpenEnds.{EndsOpen, IsLateEnd, LeavesOpen}
use Rattle.decomp_tree.specs.PivotedLaws.{OpenLinesAreLeft, OpenLinesEnd}
use Rattle.decomp_tree.proofs.FaultLines.{lines_of_lines, lines_themselves}
use Rattle.decomp_tree.proofs.LastCases.{no_separation_left, some_drawn}
use Rattle.decomp_tree.proofs.PivotedRoots.{all_are_lines}
use Rattle.decomp_tree.proofs.RefinedTrees.{RefinedNode, replaced, kept, refined_node}
use Rattle.decomp_tree.proofs.ShapeSound.{no_pivot}
use Rattle.decomp_tree.proofs.ShapeTrees.{shape_lines}
use Rattle.decomp_tree.proofs.ShapedNodes.{shape_within}
use Rattle.decomp_tree.proofs.YesTrees.{says_yes}

-- ---- an undecided node

only_undecided : (lines : LineSet) (f : Finding) → Undecided ≡ finding_in lines f → f ≡ Undecided
only_undecided lines Undecided e = refl
only_undecided lines Empty e = cc
only_undecided lines (Cycle f) e = cc
only_undecided lines (Reduced steps) e = cc
only_undecided lines OneSum e = cc
only_undecided lines (Network n) e = cc
only_undecided lines (Conetwork n) e = cc
only_undecided lines R10 e = cc
only_undecided lines (TwoSum two) e = cc
only_undecided lines (ThreeSum three) e = cc
only_undecided lines Enumerated e = cc
only_undecided lines (Violator f) e = cc
only_undecided lines (Pivoted place) e = cc

left_case : (n : Matrix) (case : Case) (parts : List LineSet) → NodeSays case n Undecided parts → case ≡ IsLeft
left_case n HasNoLines parts says = absurd says
left_case n HasFault parts says = absurd says
left_case n IsReducible parts says = absurd says
left_case n IsApart parts says = absurd says
left_case n IsNetwork parts says = absurd says
left_case n IsConetwork parts says = absurd says
left_case n IsR10Matrix parts says = absurd says
left_case n IsTwoSum parts says = absurd says
left_case n IsThreeSum parts says = absurd says
left_case n IsShort parts says = absurd says
left_case n IsLeft parts says = refl

left_here : (limit : ℕ) (m : Matrix) (place : Place) → place.finding ≡ Undecided → IsShapedAt limit m place → IsFirstCase limit (part m place.lines) IsLeft
left_here limit m place e shaped =
    let found : shaped.found ≡ Undecided = only_undecided place.lines shaped.found (sym e ∙ shaped.finding) in
    let says = subst (λ f. NodeSays shaped.case (part m place.lines) f shaped.parts) found shaped.says in
    subst (IsFirstCase limit (part m place.lines)) (left_case (part m place.lines) shaped.case shaped.parts says) shaped.first

-- ---- what replaces a node is open only if it is undecided

none_is_some : {A B : Type 0} (x : A) → None ≡ Some x → B
none_is_some x e = absurd (cc)

or_none : {A : Type 0} (a : Option A) → option_or a None ≡ a
or_none None = refl
or_none (Some x) = refl

undecided_open : (lines found : LineSet) → first_in open_at (undecided lines) ≡ Some found → found ≡ lines
undecided_open lines found e = sym (some_same lines found e)

mapped_open : (m : Matrix) (lines : LineSet) (place : Position) (after : Tree) (v : Verdict) → verdict_of after ≡ v → (tree : Tree) (found : LineSet)
    → IsMappedBack m lines place after v tree → first_in open_at tree ≡ Some found → found ≡ lines
mapped_open m lines place after Yes is tree found e first =
    none_is_some found (sym (says_yes after is).1 ∙ sym (or_none (first_in open_at after)) ∙ sym (ap (first_in open_at) e) ∙ first)
mapped_open m lines place after (No fault) is tree found (before, b, e) first = none_is_some found (sym (ap (first_in open_at) e) ∙ first)
mapped_open m lines place after (Open left) is tree found e first = undecided_open lines found (sym (ap (first_in open_at) e) ∙ first)

found_at_open : (IsTree : ℕ → Matrix → Tree → Type 0) (m : Matrix) (lines : LineSet) (chosen : Option DrawnPlace) (tree : Tree) (found : LineSet)
    → IsFoundAt IsTree m lines chosen tree → first_in open_at tree ≡ Some found → found ≡ lines
found_at_open IsTree m lines None tree found e first = undecided_open lines found (sym (ap (first_in open_at) e) ∙ first)
found_at_open IsTree m lines (Some chosen) tree found (inl (fault, shows, e)) first = none_is_some found (sym (ap (first_in open_at) e) ∙ first)
found_at_open IsTree m lines (Some chosen) tree found (inr (ternary, after, is, mapped)) first = mapped_open m lines chosen.place after (verdict_of after) refl tree found mapped first

found_open : (limit pivots state : ℕ) (m : Matrix) (lines : LineSet) (tree : Tree) (found : LineSet) → IsFound limit pivots state m lines tree → first_in open_at tree ≡ Some found → found ≡ lines
found_open limit zero state m lines tree found e first = undecided_open lines found (sym (ap (first_in open_at) e) ∙ first)
found_open limit (suc pivots) state m lines tree found (chosen, choice, is) first =
    found_at_open (λ next after t. (shape : Tree) × IsShapeOn limit after lines shape × Refines (IsFound limit pivots next after) shape t) m lines chosen tree found is first

-- ---- the nodes of a decomposition

pub open_kept : (lines : LineSet) (finding : Finding) → is_undecided finding ≡ false → open_at lines finding ≡ None
open_kept lines Undecided e = absurd (cc)
open_kept lines Empty e = refl
open_kept lines (Cycle fault) e = refl
open_kept lines (Reduced steps) e = refl
open_kept lines OneSum e = refl
open_kept lines (Network net) e = refl
open_kept lines (Conetwork net) e = refl
open_kept lines R10 e = refl
open_kept lines (TwoSum two) e = refl
open_kept lines (ThreeSum three) e = refl
open_kept lines Enumerated e = refl
open_kept lines (Violator fault) e = refl
open_kept lines (Pivoted place) e = refl

module _ (limit : ℕ) (m : Matrix) (top : LineSet) (Replaces : LineSet → Tree → Type 0) (Ends : LineSet → Type 0) (open_replaced : (lines : LineSet) (tree : Tree) (found : LineSet) → Replaces lines tree → first_in open_at tree ≡ Some found → found ≡ lines)
    (end_replaced : (lines : LineSet) (tree : Tree) (found : LineSet) → AreLines m lines → IsFirstCase limit (part m lines) IsLeft → Replaces lines tree → first_in open_at tree ≡ Some found → Ends lines) where
  abbrev IsOpen : LineSet → Type 0
  IsOpen found = AreLines m found × IsFirstCase limit (part m found) IsLeft × Ends found × AreLinesOf found top

  mutual
    open_refined : (path : List ℕ) (due : Due) (parent : LineSet) (levels : ℕ) (shape tree : Tree) (found : LineSet) → AreLines m parent → AreLinesOf parent top
        → IsTreeWithin parent levels shape → AllByRecursion (IsShapedAt limit m) (places_from path [] due shape)
        → Refines Replaces shape tree → first_in open_at tree ≡ Some found → IsOpen found
    open_refined path due parent levels (Branch lines finding trees) tree found are top_has within shaped r first =
        go (refined_node Replaces lines finding trees tree r) (λ below all e. open_each path lines finding (levels - 1) 0 trees below found here here_in within.4 below_shaped all e)
      where
        here_in : AreLinesOf lines top
        here_in = lines_of_lines lines parent top within.1 top_has

        here : AreLines m lines
        here = lines_within m lines parent within.1 are

        place : Place
        place = record { path = path; pivots = []; due = due; lines = lines; finding = finding; children = lines_of_each trees }

        below_shaped : AllByRecursion (IsShapedAt limit m) (places_below path [] lines finding 0 trees)
        below_shaped = subst (λ ps. AllByRecursion (IsShapedAt limit m) (places_below path ps lines finding 0 trees)) (no_pivot [] limit (part m lines) shaped.0.case shaped.0.found shaped.0.parts lines finding shaped.0.says shaped.0.finding) shaped.1

        go : RefinedNode Replaces lines finding trees tree → ((below : Trees) → AllRefine Replaces trees below → first_among open_at below ≡ Some found → IsOpen found) → IsOpen found
        go (replaced e replaces) each = subst IsOpen (sym (open_replaced lines tree found replaces first)) (let left = left_here limit m place e shaped.0 in (here, left, end_replaced lines tree found here left replaces first, here_in))
        go (kept e below is all) each = each below all (ap (λ (o : Option LineSet). option_or o (first_among open_at below)) (sym (open_kept lines finding e)) ∙ sym (ap (first_in open_at) is) ∙ first)

    open_each : (path : List ℕ) (lines : LineSet) (finding : Finding) (levels k : ℕ) (trees below : Trees) (found : LineSet) → AreLines m lines
        → AreLinesOf lines top → AreTreesWithin lines levels trees → AllByRecursion (IsShapedAt limit m) (places_below path [] lines finding k trees)
        → AllRefine Replaces trees below → first_among open_at below ≡ Some found → IsOpen found
    open_each path lines finding levels k NoTrees below found are top_has within shaped e first = none_is_some found (sym (ap (first_among open_at) e) ∙ first)
    open_each path lines finding levels k (MoreTrees tree trees) below found are top_has within shaped (one, rest, e, r, all) first =
        let now = places_from (path ++ k ∷ []) [] (due_child lines finding k) tree in
        let later = places_below path [] lines finding (suc k) trees in
        elim (some_or (first_in open_at one) (first_among open_at rest) found (sym (ap (first_among open_at) e) ∙ first)) [
          | inl h ↦ open_refined (path ++ k ∷ []) (due_child lines finding k) lines levels tree one found are top_has within.0 (all_prefix (IsShapedAt limit m) now later shaped) r h
          | inr h ↦ open_each path lines finding levels (suc k) trees rest found are top_has within.1 (all_back (IsShapedAt limit m) now later shaped) all h
        ]

-- ---- where the pivots end

first_open : (fault undecided : Option LineSet) (left : LineSet) → verdict_from fault undecided ≡ Open left → undecided ≡ Some left
first_open None None left e = cc
first_open None (Some found) left e = cc
first_open (Some fault) undecided left e = cc

-- the open lines of the decomposition of a submatrix
open_drawn : (limit pivots state : ℕ) (m : Matrix) (lines : LineSet) (shape tree : Tree) (found : LineSet) (Ends : LineSet → Type 0) → IsMatrix m
    → AreLines m lines → IsShapeOn limit m lines shape → Refines (IsFound limit pivots state m) shape tree
    → ((some : LineSet) (t : Tree) (f : LineSet) → AreLines m some → IsFirstCase limit (part m some) IsLeft → IsFound limit pivots state m some t → first_in open_at t ≡ Some f → Ends some)
    → first_in open_at tree ≡ Some found → AreLines m found × IsFirstCase limit (part m found) IsLeft × Ends found × AreLinesOf found lines
open_drawn limit pivots state m lines shape tree found Ends is are shaped refines ends first =
    open_refined limit m lines (IsFound limit pivots state m) Ends (λ some t f stands e. found_open limit pivots state m some t f stands e) ends
    [] (These lines) lines (suc (size_of (lines_at_root shape))) shape tree found are (lines_themselves m lines are)
    (shape_within limit m is [] (These lines) lines (suc (size_of (lines_at_root shape))) shape shaped are (subst (λ some. AreLinesOf some lines) (sym (shape_lines limit m lines shape shaped)) (lines_themselves m lines are)) (omega arith)) shaped refines first

-- what replaces undecided nodes is open only if the pivots have an end
abbrev AllEnd : (limit pivots state : ℕ) → Matrix → Type 0
AllEnd limit pivots state m = (some : LineSet) (t : Tree) (f : LineSet) → AreLines m some → IsFirstCase limit (part m some) IsLeft → IsFound limit pivots state m some t → first_in open_at t ≡ Some f → EndsOpen limit pivots state m some

ends_open : (limit pivots state : ℕ) (m : Matrix) (lines : LineSet) (tree : Tree) (found : LineSet) → IsMatrix m → AreLines m lines
    → IsFirstCase limit (part m lines) IsLeft → IsFound limit pivots state m lines tree → first_in open_at tree ≡ Some found
    → EndsOpen limit pivots state m lines
ends_open limit zero state m lines tree found is are case e first = tt
ends_open limit (suc pivots) state m lines tree found is are case (None, choice, e) first = absurd (some_drawn limit state m lines case choice.2)
ends_open limit (suc pivots) state m lines tree found is are case (Some chosen, choice, inl (fault, shows, e)) first = none_is_some found (sym (ap (first_in open_at) e) ∙ first)
ends_open limit (suc pivots) state m lines tree found is are case (Some chosen, choice, inr (ternary, after, (shape, shaped, refines), told)) first =
    late (λ some t f here left stands e. ends_open limit pivots chosen.state (pivoted_part m lines chosen.place) some t f (part_pivots_stay_matrices m lines chosen.place is ternary) here left stands e)
    (same_or_not state LATE_STATE) choice
  where
    go : AllEnd limit pivots chosen.state (pivoted_part m lines chosen.place) → (v : Verdict) → verdict_of after ≡ v
        → IsMappedBack m lines chosen.place after v tree → LeavesOpen limit state (EndsOpen limit pivots) m lines
    go below Yes says t = none_is_some found (sym (says_yes after says).1 ∙ sym (or_none (first_in open_at after)) ∙ sym (ap (first_in open_at) t) ∙ first)
    go below (No fault) says (before, b, e) = none_is_some found (sym (ap (first_in open_at) e) ∙ first)
    go below (Open left) says t =
        let opened = open_drawn limit pivots chosen.state (pivoted_part m lines chosen.place) lines shape after left (λ some. EndsOpen limit pivots chosen.state (pivoted_part m lines chosen.place) some)
        (part_pivots_stay_matrices m lines chosen.place is ternary) (lines_pivoted m lines chosen.place lines are) shaped refines
        below
        (first_open (first_in fault_at after) (first_in open_at after) left says) in
        record { chosen = chosen; at = choice; ternary = ternary; left = left; are = opened.0; within = opened.3; case = opened.1; ends = opened.2 }

    late : AllEnd limit pivots chosen.state (pivoted_part m lines chosen.place) → (state ≡ LATE_STATE) ⊎ (state ≢ LATE_STATE)
        → IsChosenPlace m lines state chosen → IsLateEnd limit state m lines ⊎ LeavesOpen limit state (EndsOpen limit pivots) m lines
    late below (inl e) (inr (none, inr (early, drawn))) = inl (record { late = e; no_place = none; no_cut = early e; case = case; no_separation = no_separation_left limit m lines is are case (early e) })
    late below (inl e) (inl at) = inr (go below (verdict_of after) refl told)
    late below (inl e) (inr (none, inl at)) = inr (go below (verdict_of after) refl told)
    late below (inr n) at = inr (go below (verdict_of after) refl told)

-- the lines that a decomposition leaves open come to the last case
pub open_case : OpenLinesAreLeft
open_case limit pivots m tree lines is d first =
    let opened = open_drawn limit d.made 1 m (all_lines m) d.drawn.shape tree lines (λ some. Unit {0}) is (all_are_lines m is) d.drawn.drawn d.drawn.refines (λ some t f here left replaces e. tt) first in
    (opened.0, opened.1)

pub open_end : OpenLinesEnd
open_end limit pivots m tree lines is d first =
    let opened = open_drawn limit d.made 1 m (all_lines m) d.drawn.shape tree lines (λ some. EndsOpen limit d.made 1 m some) is (all_are_lines m is) d.drawn.drawn d.drawn.refines
    (λ some t f here left replaces e. ends_open limit d.made 1 m some t f is here left replaces e) first in
    record { made = d.made; few = d.few; most = d.most; ends = opened.2 }
