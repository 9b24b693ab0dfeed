-- A decomposition is a tree: its nodes fit their lines, and each has fewer lines than its parent.
use Rattle.std.proofs.Common.{◌≡◌, ◌<◌, ◌≤◌, ◌-◌, ◌++◌, inl, inr, ℕ, false, suc, min, List, [], ◌∷◌, length, map, refl, sym, subst, arith}
use Rattle.std.specs.List.{AllByRecursion}
use Rattle.std.proofs.lemmas.Bool.{cases_lt}
use Rattle.cmr_base.specs.declared.line_set.LineSet.{LineSet}
use Rattle.cmr_base.specs.CyclePlaces.{HasNoCycleFault}
use Rattle.cmr_base.specs.Matrix.{Matrix, height, entry, IsMatrix}
use Rattle.cmr_base.specs.Reductions.{removal}
use Rattle.cmr_base.proofs.Lists.{all_prefix, all_back}
use Rattle.tree_type.specs.DecompositionTrees.{Finding, Empty, Cycle, Reduced, OneSum, Network, Conetwork, R10, TwoSum, ThreeSum, Enumerated, Violator, Undecided, Tree, Trees, Branch, NoTrees, MoreTrees, lines_at_root}
use Rattle.tree_type.specs.Invariant.{AreLines, AreLinesOf, size_of, HasChildren, IsTreeWithin, AreTreesWithin}
use Rattle.tree_type.specs.Places.{Due, MadePivot, Place, pivots_below, due_child, lines_of_each, places_from, places_below}
use Rattle.tree_type.specs.Sides.{two_one, two_two, three_one, three_two}
use Rattle.tree_type.specs.Soundness.{part}
use Rattle.tree_type.proofs.PlacedLines.{lines_within}
use Rattle.decomp_tree.specs.Shapes.{Case, HasNoLines, HasFault, IsReducible, IsApart, IsNetwork, IsConetwork, IsR10Matrix, IsTwoSum, IsThreeSum, IsShort, IsLeft, case_number, IsFirstCase, NodeSays, finding_in, numbered_line, set_in, two_in, three_in, HasParts, IsShapedAt}
use Rattle.decomp_tree.specs.Seen.{AreDue, AreFewer, HasNoneBefore, IsSaid}
use Rattle.decomp_tree.proofs.OneTree.{children_same, count_is, due_each}
use Rattle.decomp_tree.proofs.Said.{empty_from_length, not_reducible, seen_conetwork, seen_cycle, seen_empty, seen_enumerated, seen_network, seen_parts, seen_r10, seen_rest, seen_undecided, seen_violator}
use Rattle.decomp_tree.proofs.SaidSums.{said_two, said_three}

abbrev mutual
  -- each child has fewer lines than its parent
  pub IsFalling : Tree → Type 0
  IsFalling (Branch lines finding trees) = AreFalling lines trees

  pub AreFalling : LineSet → Trees → Type 0
  AreFalling lines NoTrees = Unit {0}
  AreFalling lines (MoreTrees tree trees) = AreFewer lines (lines_at_root tree) × IsFalling tree × AreFalling lines trees

module _ (limit : ℕ) (m : Matrix) (is : IsMatrix m) where
  -- ---- what a node says, and the lines of its children

  -- a node that says this with the children that it has in its case
  record IsSaidWith (lines : LineSet) (finding : Finding) (children : List LineSet) : Type 0 where
    known : List LineSet
    said : IsSaid limit m lines finding known
    parts : finding ≡ OneSum → known ≡ children

  module _ (lines : LineSet) (are : AreLines m lines) where
    pub none_before : (case : Case) → IsFirstCase limit (part m lines) case → HasNoneBefore limit (part m lines) (case_number case)
    none_before case first earlier l other = first.first earlier l

    pub no_fault : (case : Case) → IsFirstCase limit (part m lines) case → case_number HasFault < case_number case → HasNoCycleFault (entry (part m lines))
    no_fault case first l t c d path fault = first.first HasFault l (t, c, d, path, fault)

    pub reduced : IsFirstCase limit (part m lines) IsReducible → 0 < length (removal false (part m lines)).steps
    reduced first = elim (cases_lt 0 (length (removal false (part m lines)).steps)) [
      | inl some ↦ some
      | inr none ↦ absurd (not_reducible limit m is lines are (empty_from_length (removal false (part m lines)).steps none) first.applies)
    ]

    pub long : IsFirstCase limit (part m lines) IsLeft → limit < min (height (part m lines)) (length lines.columns)
    long first = elim (cases_lt limit (min (height (part m lines)) (length lines.columns))) [
      | inl l ↦ l
      | inr short ↦ absurd (first.first IsShort (omega arith) short)
    ]

    said_by : (case : Case) (found : Finding) (parts children : List LineSet) → IsFirstCase limit (part m lines) case → NodeSays case (part m lines) found parts
        → HasParts (finding_in lines found) children (map (set_in lines) parts)
        → IsSaidWith lines (finding_in lines found) children
    said_by HasNoLines Empty parts children first says has = record { known = []; said = seen_empty limit m is lines are first.applies.0 first.applies.1; parts = λ e. cc }
    said_by HasNoLines found parts children first says has = absurd says
    said_by HasFault (Cycle fault) parts children first says has = record { known = []; said = seen_cycle limit m is lines are fault says; parts = λ e. cc }
    said_by HasFault found parts children first says has = absurd says
    said_by IsReducible (Reduced steps) parts children first says has =
        let removed = removal false (part m lines) in
        let rest : LineSet = record { rows = removed.rows; columns = removed.columns } in
        record {
          known = set_in lines rest ∷ [];
          said = subst (λ some. IsSaid limit m lines (Reduced (map (numbered_line lines) some)) (set_in lines rest ∷ [])) (sym says)
              (seen_rest limit m is lines are removed.steps rest (none_before IsReducible first) (reduced first) refl refl refl);
          parts = λ e. cc;
        }
    said_by IsReducible found parts children first says has = absurd says
    said_by IsApart OneSum parts children first says has = record { known = map (set_in lines) parts; said = seen_parts limit m is lines are parts (none_before IsApart first) says.0 says.1; parts = λ e. sym has }
    said_by IsApart found parts children first says has = absurd says
    said_by IsNetwork (Network net) parts children first says has = record { known = []; said = seen_network limit m is lines are net (none_before IsNetwork first) says; parts = λ e. cc }
    said_by IsNetwork found parts children first says has = absurd says
    said_by IsConetwork (Conetwork net) parts children first says has = record { known = []; said = seen_conetwork limit m is lines are net (none_before IsConetwork first) says; parts = λ e. cc }
    said_by IsConetwork found parts children first says has = absurd says
    said_by IsR10Matrix R10 parts children first says has =
        record { known = []; said = seen_r10 limit m is lines are (none_before IsR10Matrix first) (no_fault IsR10Matrix first (omega arith)) first.applies; parts = λ e. cc }
    said_by IsR10Matrix found parts children first says has = absurd says
    said_by IsTwoSum (TwoSum two) parts children first says has =
        record { known = two_one lines (two_in lines two) ∷ two_two lines (two_in lines two) ∷ []; said = said_two limit m is lines are two says (none_before IsTwoSum first); parts = λ e. cc }
    said_by IsTwoSum found parts children first says has = absurd says
    said_by IsThreeSum (ThreeSum three) parts children first says has = record {
      known = three_one lines (three_in lines three) ∷ three_two lines (three_in lines three) ∷ [];
      said = said_three limit m is lines are three says (none_before IsThreeSum first) (no_fault IsThreeSum first (omega arith));
      parts = λ e. cc;
    }
    said_by IsThreeSum found parts children first says has = absurd says
    said_by IsShort (Violator fault) parts children first says has =
        record { known = []; said = seen_violator limit m is lines are fault (none_before IsShort first) (no_fault IsShort first (omega arith)) first.applies says; parts = λ e. cc }
    said_by IsShort Enumerated parts children first says has =
        record { known = []; said = seen_enumerated limit m is lines are (none_before IsShort first) (no_fault IsShort first (omega arith)) first.applies says; parts = λ e. cc }
    said_by IsShort found parts children first says has = absurd says
    said_by IsLeft Undecided parts children first says has =
        record { known = []; said = seen_undecided limit m is lines are (λ earlier l other. first.first earlier (omega (arith, l))) (no_fault IsLeft first (omega arith)) (long first); parts = λ e. cc }
    said_by IsLeft found parts children first says has = absurd says

  said_at : (place : Place) → AreLines m place.lines → AreDue place.lines place.finding 0 place.children → IsShapedAt limit m place → IsSaid limit m place.lines place.finding place.children
  said_at place are due shaped =
      let has = subst (λ f. HasParts f place.children (map (set_in place.lines) shaped.parts)) shaped.finding shaped.children in
      let with = said_by place.lines are shaped.case shaped.found shaped.parts place.children shaped.first shaped.says has in
      let count = subst (λ f. HasChildren f (length place.children)) shaped.finding shaped.count in
      let due' = subst (λ f. AreDue place.lines f 0 place.children) shaped.finding due in
      let same = children_same place.lines (finding_in place.lines shaped.found) with.known place.children with.said.count count with.said.due due' with.parts in
      subst (λ f. IsSaid limit m place.lines f place.children) (sym shaped.finding) (subst (IsSaid limit m place.lines (finding_in place.lines shaped.found)) same with.said)

  -- ---- levels

  mutual
    shape_fits : (path : List ℕ) (pivots : List MadePivot) (due : Due) (parent : LineSet) (levels : ℕ) (tree : Tree)
        → AllByRecursion (IsShapedAt limit m) (places_from path pivots due tree) → AreLines m parent → AreLinesOf (lines_at_root tree) parent
        → size_of (lines_at_root tree) < levels → IsTreeWithin parent levels tree × IsFalling tree
    shape_fits path pivots due parent levels (Branch lines finding trees) shaped are among l =
        let here = lines_within m lines parent among are in
        let said = said_at (record { path = path; pivots = pivots; due = due; lines = lines; finding = finding; children = lines_of_each trees }) here
        (due_each limit m path (pivots_below lines finding pivots) lines finding 0 trees shaped.1) shaped.0 in
        let below = each_fits path (pivots_below lines finding pivots) lines finding (levels - 1) 0 trees shaped.1 here said.fewer (omega (arith, l)) in (
          (omega (arith, l), among, said.fits trees (sym (count_is trees)), subst (HasChildren finding) (count_is trees) said.count, below.0),
          below.1,
        )

    each_fits : (path : List ℕ) (pivots : List MadePivot) (lines : LineSet) (finding : Finding) (levels k : ℕ) (trees : Trees)
        → AllByRecursion (IsShapedAt limit m) (places_below path pivots lines finding k trees) → AreLines m lines
        → AllByRecursion (AreFewer lines) (lines_of_each trees) → size_of lines ≤ levels → AreTreesWithin lines levels trees × AreFalling lines trees
    each_fits path pivots lines finding levels k NoTrees shaped are fewer l = (tt, tt)
    each_fits path pivots lines finding levels k (MoreTrees tree trees) shaped are fewer l =
        let first = places_from (path ++ k ∷ []) pivots (due_child lines finding k) tree in
        let later = places_below path pivots lines finding (suc k) trees in
        let one = shape_fits (path ++ k ∷ []) pivots (due_child lines finding k) lines levels tree (all_prefix (IsShapedAt limit m) first later shaped) are fewer.0.among (let n = fewer.0.fewer in omega (arith, n, l)) in
        let rest = each_fits path pivots lines finding levels (suc k) trees (all_back (IsShapedAt limit m) first later shaped) are fewer.1 l in
        ((one.0, rest.0), (fewer.0, one.1, rest.1))

  -- its nodes are within as many levels as lines and one more
  pub shape_within : (path : List ℕ) (due : Due) (parent : LineSet) (levels : ℕ) (tree : Tree)
      → AllByRecursion (IsShapedAt limit m) (places_from path [] due tree) → AreLines m parent → AreLinesOf (lines_at_root tree) parent
      → size_of (lines_at_root tree) < levels → IsTreeWithin parent levels tree
  shape_within path due parent levels tree shaped are among l = (shape_fits path [] due parent levels tree shaped are among l).0

  pub shape_falls : (path : List ℕ) (due : Due) (parent : LineSet) (tree : Tree) → AllByRecursion (IsShapedAt limit m) (places_from path [] due tree)
      → AreLines m parent → AreLinesOf (lines_at_root tree) parent → IsFalling tree
  shape_falls path due parent tree shaped are among = (shape_fits path [] due parent (suc (size_of (lines_at_root tree))) tree shaped are among (omega arith)).1
