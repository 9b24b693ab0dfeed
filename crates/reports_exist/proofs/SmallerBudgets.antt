-- The decomposition within a smaller budget, from one within a larger budget: a leaf that is enumerated above the smaller one is undecided.
use Rattle.std.proofs.Common.{◌≡◌, ◌≤◌, ◌<◌, ◌∙◌, ◌++◌, ℕ, suc, List, [], ◌∷◌, Bool, true, false, cond, Option, Some, None, length, min, nat_lt, refl, ap, ap₂, sym, subst, arith}
use Rattle.std.specs.List.{AllByRecursion}
use Rattle.std.specs.Option.{option_or}
use Rattle.cmr_base.specs.declared.line_set.LineSet.{LineSet}
use Rattle.cmr_base.specs.Matrix.{Matrix, height}
use Rattle.cmr_base.proofs.Booleans.{at_least_of, lt_of}
use Rattle.cmr_base.proofs.Lists.{all-append, all_back, all_prefix}
use Rattle.tree_type.specs.DecompositionTrees.{Finding, Empty, Cycle, Reduced, OneSum, Network, Conetwork, R10, TwoSum, ThreeSum, Enumerated, Violator, Undecided, Pivoted}
use Rattle.tree_type.specs.DecompositionTrees.{Tree, Trees, Branch, NoTrees, MoreTrees, lines_at_root}
use Rattle.tree_type.specs.Invariant.{HasChildren}
use Rattle.tree_type.specs.Places.{AllLines, Due, MadePivot, Place, due_child, lines_of_each, pivots_below, places_below, places_from}
use Rattle.tree_type.specs.Soundness.{part}
use Rattle.tree_type.specs.Verdicts.{Verdict, Open, fault_at, first_among, first_in, open_at, verdict_from, verdict_of}
use Rattle.tree_laws.proofs.SoundTrees.{none_or}
use Rattle.decomp_tree.specs.Shapes.{Case, HasNoLines, HasFault, IsReducible, IsApart, IsNetwork, IsConetwork, IsR10Matrix, IsTwoSum, IsThreeSum, IsShort, IsLeft}
use Rattle.decomp_tree.specs.Shapes.{Applies, IsFirstCase, IsShape, IsShapedAt, NodeSays, case_number, finding_in, set_in}
use Rattle.decomp_tree.proofs.OneTree.{one_shape}
use Rattle.decomp_tree.proofs.PlainVerdicts.{verdict_plain}

-- ---- the cases

applies_within : (limit more : ℕ) → limit ≤ more → (m : Matrix) (case : Case) → Applies limit m case → Applies more m case
applies_within limit more few m HasNoLines a = a
applies_within limit more few m HasFault a = a
applies_within limit more few m IsReducible a = a
applies_within limit more few m IsApart a = a
applies_within limit more few m IsNetwork a = a
applies_within limit more few m IsConetwork a = a
applies_within limit more few m IsR10Matrix a = a
applies_within limit more few m IsTwoSum a = a
applies_within limit more few m IsThreeSum a = a
applies_within limit more few m IsShort a = omega (arith, few, a)
applies_within limit more few m IsLeft a = a

applies_with_less : (limit more : ℕ) (m : Matrix) (case : Case) → ¬ (case ≡ IsShort) → Applies more m case → Applies limit m case
applies_with_less limit more m HasNoLines other a = a
applies_with_less limit more m HasFault other a = a
applies_with_less limit more m IsReducible other a = a
applies_with_less limit more m IsApart other a = a
applies_with_less limit more m IsNetwork other a = a
applies_with_less limit more m IsConetwork other a = a
applies_with_less limit more m IsR10Matrix other a = a
applies_with_less limit more m IsTwoSum other a = a
applies_with_less limit more m IsThreeSum other a = a
applies_with_less limit more m IsShort other a = absurd (other refl)
applies_with_less limit more m IsLeft other a = a

-- the case of the larger budget stays if it still applies
case_stays : (limit more : ℕ) → limit ≤ more → (m : Matrix) (case : Case) → IsFirstCase more m case → Applies limit m case → IsFirstCase limit m case
case_stays limit more few m case is applies = record {
  applies = applies;
  first = λ earlier before a. is.first earlier before (applies_within limit more few m earlier a);
}

-- a submatrix that is only short within the larger budget is left
case_is_left : (limit more : ℕ) → limit ≤ more → (m : Matrix) → IsFirstCase more m IsShort → limit < min (height m) m.width → IsFirstCase limit m IsLeft
case_is_left limit more few m is long = record { applies = tt; first = none }
  where
    before : (earlier : Case) → case_number earlier < 10 → ¬ (Applies limit m earlier)
    before earlier early a = is.first earlier early (applies_within limit more few m earlier a)

    none : (earlier : Case) → case_number earlier < 11 → ¬ (Applies limit m earlier)
    none IsShort early a = omega (arith, long, a)
    none IsLeft early a = absurd (omega (arith, early))
    none HasNoLines early a = before HasNoLines (omega arith) a
    none HasFault early a = before HasFault (omega arith) a
    none IsReducible early a = before IsReducible (omega arith) a
    none IsApart early a = before IsApart (omega arith) a
    none IsNetwork early a = before IsNetwork (omega arith) a
    none IsConetwork early a = before IsConetwork (omega arith) a
    none IsR10Matrix early a = before IsR10Matrix (omega arith) a
    none IsTwoSum early a = before IsTwoSum (omega arith) a
    none IsThreeSum early a = before IsThreeSum (omega arith) a

-- ---- the tree

-- the shorter side of the submatrix exceeds the budget
abbrev is_long : Matrix → ℕ → LineSet → Bool
is_long m limit lines = nat_lt limit (min (height (part m lines)) (part m lines).width)

abbrev less_finding : Matrix → ℕ → LineSet → Finding → Finding
less_finding m limit lines Enumerated = cond (is_long m limit lines) Undecided Enumerated
less_finding m limit lines (Violator fault) = cond (is_long m limit lines) Undecided (Violator fault)
less_finding m limit lines finding = finding

abbrev mutual
  less_tree : Matrix → ℕ → Tree → Tree
  less_tree m limit (Branch lines finding trees) = Branch lines (less_finding m limit lines finding) (less_trees m limit trees)

  less_trees : Matrix → ℕ → Trees → Trees
  less_trees m limit NoTrees = NoTrees
  less_trees m limit (MoreTrees tree trees) = MoreTrees (less_tree m limit tree) (less_trees m limit trees)

root_stays : (m : Matrix) (limit : ℕ) (tree : Tree) → lines_at_root (less_tree m limit tree) ≡ lines_at_root tree
root_stays m limit (Branch lines finding trees) = refl

children_stay : (m : Matrix) (limit : ℕ) (trees : Trees) → lines_of_each (less_trees m limit trees) ≡ lines_of_each trees
children_stay m limit NoTrees = refl
children_stay m limit (MoreTrees tree trees) = ap₂ (λ (lines : LineSet) (others : List LineSet). lines ∷ others) (root_stays m limit tree) (children_stay m limit trees)

due_stays : (m : Matrix) (limit : ℕ) (lines : LineSet) (finding : Finding) (k : ℕ) → due_child lines (less_finding m limit lines finding) k ≡ due_child lines finding k
due_stays m limit lines Empty k = refl
due_stays m limit lines (Cycle fault) k = refl
due_stays m limit lines (Reduced steps) k = refl
due_stays m limit lines OneSum k = refl
due_stays m limit lines (Network net) k = refl
due_stays m limit lines (Conetwork net) k = refl
due_stays m limit lines R10 k = refl
due_stays m limit lines (TwoSum two) k = refl
due_stays m limit lines (ThreeSum three) k = refl
due_stays m limit lines Enumerated k = go (is_long m limit lines)
  where
    go : (long : Bool) → due_child lines (cond long Undecided Enumerated) k ≡ due_child lines Enumerated k
    go true = refl
    go false = refl
due_stays m limit lines (Violator fault) k = go (is_long m limit lines)
  where
    go : (long : Bool) → due_child lines (cond long Undecided (Violator fault)) k ≡ due_child lines (Violator fault) k
    go true = refl
    go false = refl
due_stays m limit lines Undecided k = refl
due_stays m limit lines (Pivoted place) k = refl

pivots_stay : (m : Matrix) (limit : ℕ) (lines : LineSet) (finding : Finding) (pivots : List MadePivot)
    → pivots_below lines (less_finding m limit lines finding) pivots ≡ pivots_below lines finding pivots
pivots_stay m limit lines Empty pivots = refl
pivots_stay m limit lines (Cycle fault) pivots = refl
pivots_stay m limit lines (Reduced steps) pivots = refl
pivots_stay m limit lines OneSum pivots = refl
pivots_stay m limit lines (Network net) pivots = refl
pivots_stay m limit lines (Conetwork net) pivots = refl
pivots_stay m limit lines R10 pivots = refl
pivots_stay m limit lines (TwoSum two) pivots = refl
pivots_stay m limit lines (ThreeSum three) pivots = refl
pivots_stay m limit lines Enumerated pivots = go (is_long m limit lines)
  where
    go : (long : Bool) → pivots_below lines (cond long Undecided Enumerated) pivots ≡ pivots
    go true = refl
    go false = refl
pivots_stay m limit lines (Violator fault) pivots = go (is_long m limit lines)
  where
    go : (long : Bool) → pivots_below lines (cond long Undecided (Violator fault)) pivots ≡ pivots
    go true = refl
    go false = refl
pivots_stay m limit lines Undecided pivots = refl
pivots_stay m limit lines (Pivoted place) pivots = refl

-- ---- its nodes

-- no finding but that of a short submatrix changes
finding_stays : (m n : Matrix) (limit : ℕ) (lines : LineSet) (case : Case) (found : Finding) (parts : List LineSet) → ¬ (case ≡ IsShort) → NodeSays case n found parts
    → less_finding m limit lines (finding_in lines found) ≡ finding_in lines found
finding_stays m n limit lines HasNoLines Empty parts other says = refl
finding_stays m n limit lines HasNoLines found parts other says = absurd says
finding_stays m n limit lines HasFault (Cycle fault) parts other says = refl
finding_stays m n limit lines HasFault found parts other says = absurd says
finding_stays m n limit lines IsReducible (Reduced steps) parts other says = refl
finding_stays m n limit lines IsReducible found parts other says = absurd says
finding_stays m n limit lines IsApart OneSum parts other says = refl
finding_stays m n limit lines IsApart found parts other says = absurd says
finding_stays m n limit lines IsNetwork (Network net) parts other says = refl
finding_stays m n limit lines IsNetwork found parts other says = absurd says
finding_stays m n limit lines IsConetwork (Conetwork net) parts other says = refl
finding_stays m n limit lines IsConetwork found parts other says = absurd says
finding_stays m n limit lines IsR10Matrix R10 parts other says = refl
finding_stays m n limit lines IsR10Matrix found parts other says = absurd says
finding_stays m n limit lines IsTwoSum (TwoSum two) parts other says = refl
finding_stays m n limit lines IsTwoSum found parts other says = absurd says
finding_stays m n limit lines IsThreeSum (ThreeSum three) parts other says = refl
finding_stays m n limit lines IsThreeSum found parts other says = absurd says
finding_stays m n limit lines IsShort found parts other says = absurd (other refl)
finding_stays m n limit lines IsLeft Undecided parts other says = refl
finding_stays m n limit lines IsLeft found parts other says = absurd says

abbrev node_of : List ℕ → List MadePivot → Due → LineSet → Finding → List LineSet → Place
node_of path pivots due lines finding children = record { path = path; pivots = pivots; due = due; lines = lines; finding = finding; children = children }

module _ (m : Matrix) (limit more : ℕ) (few : limit ≤ more) where
  module _ (path : List ℕ) (pivots : List MadePivot) (due : Due) (lines : LineSet) (finding : Finding) (children : List LineSet)
      (node : IsShapedAt more m (node_of path pivots due lines finding children)) where
    abbrev HasLess : Finding → Type 0
    HasLess other = IsShapedAt limit m (node_of path pivots due lines other children)

    -- the same finding, in a case that still applies
    same_finding : (less_finding m limit lines finding ≡ finding) → Applies limit (part m lines) node.case → HasLess (less_finding m limit lines finding)
    same_finding same applies = subst HasLess (sym same) (record {
      lines = node.lines;
      unpivoted = node.unpivoted;
      case = node.case;
      first = case_stays limit more few (part m lines) node.case node.first applies;
      found = node.found;
      parts = node.parts;
      says = node.says;
      finding = node.finding;
      children = node.children;
      count = node.count;
    })

    -- nothing is found any more
    nothing_found : IsFirstCase limit (part m lines) IsLeft → length children ≡ 0 → HasLess Undecided
    nothing_found first none = record {
      lines = node.lines;
      unpivoted = node.unpivoted;
      case = IsLeft;
      first = first;
      found = Undecided;
      parts = [];
      says = tt;
      finding = refl;
      children = tt;
      count = none;
    }

    short_node : node.case ≡ IsShort → (found : Finding) (parts : List LineSet) → NodeSays IsShort (part m lines) found parts → finding ≡ finding_in lines found
        → (long : Bool) → is_long m limit lines ≡ long → HasLess (less_finding m limit lines finding)
    short_node short found parts says is true long =
        let first : IsFirstCase more (part m lines) IsShort = subst (IsFirstCase more (part m lines)) short node.first in
        let exceeds : limit < min (height (part m lines)) (part m lines).width = lt_of limit (min (height (part m lines)) (part m lines).width) long in
        subst HasLess (sym (changes found says is)) (nothing_found (case_is_left limit more few (part m lines) first exceeds) (none found says is))
      where
        changes : (found : Finding) → NodeSays IsShort (part m lines) found parts → finding ≡ finding_in lines found → less_finding m limit lines finding ≡ Undecided
        changes (Violator fault) says is = ap (less_finding m limit lines) is ∙ ap (λ (t : Bool). cond t Undecided (Violator (set_in lines fault))) long
        changes Enumerated says is = ap (less_finding m limit lines) is ∙ ap (λ (t : Bool). cond t Undecided Enumerated) long
        changes found says is = absurd says

        none : (found : Finding) → NodeSays IsShort (part m lines) found parts → finding ≡ finding_in lines found → length children ≡ 0
        none (Violator fault) says is = subst (λ (f : Finding). HasChildren f (length children)) is node.count
        none Enumerated says is = subst (λ (f : Finding). HasChildren f (length children)) is node.count
        none found says is = absurd says
    short_node short found parts says is false long =
        same_finding (stays found says is) (subst (Applies limit (part m lines)) (sym short) (at_least_of limit (min (height (part m lines)) (part m lines).width) long))
      where
        stays : (found : Finding) → NodeSays IsShort (part m lines) found parts → finding ≡ finding_in lines found → less_finding m limit lines finding ≡ finding
        stays (Violator fault) says is = ap (less_finding m limit lines) is ∙ ap (λ (t : Bool). cond t Undecided (Violator (set_in lines fault))) long ∙ sym is
        stays Enumerated says is = ap (less_finding m limit lines) is ∙ ap (λ (t : Bool). cond t Undecided Enumerated) long ∙ sym is
        stays found says is = absurd says

    other_node : ¬ (node.case ≡ IsShort) → HasLess (less_finding m limit lines finding)
    other_node other =
        same_finding (ap (less_finding m limit lines) node.finding ∙ finding_stays m (part m lines) limit lines node.case node.found node.parts other node.says ∙ sym node.finding)
        (applies_with_less limit more (part m lines) node.case other node.first.applies)

    less_node : HasLess (less_finding m limit lines finding)
    less_node = go node.case refl
      where
        short : node.case ≡ IsShort → HasLess (less_finding m limit lines finding)
        short is = short_node is node.found node.parts (subst (λ (case : Case). NodeSays case (part m lines) node.found node.parts) is node.says) node.finding (is_long m limit lines) refl

        go : (case : Case) → node.case ≡ case → HasLess (less_finding m limit lines finding)
        go IsShort is = short is
        go HasNoLines is = other_node (λ e. cc)
        go HasFault is = other_node (λ e. cc)
        go IsReducible is = other_node (λ e. cc)
        go IsApart is = other_node (λ e. cc)
        go IsNetwork is = other_node (λ e. cc)
        go IsConetwork is = other_node (λ e. cc)
        go IsR10Matrix is = other_node (λ e. cc)
        go IsTwoSum is = other_node (λ e. cc)
        go IsThreeSum is = other_node (λ e. cc)
        go IsLeft is = other_node (λ e. cc)

  mutual
    less_shape : (path : List ℕ) (pivots : List MadePivot) (due : Due) (tree : Tree) → AllByRecursion (IsShapedAt more m) (places_from path pivots due tree)
        → AllByRecursion (IsShapedAt limit m) (places_from path pivots due (less_tree m limit tree))
    less_shape path pivots due (Branch lines finding trees) shaped =
        let other = less_finding m limit lines finding in (
          subst (λ (children : List LineSet). IsShapedAt limit m (node_of path pivots due lines other children)) (sym (children_stay m limit trees))
              (less_node path pivots due lines finding (lines_of_each trees) shaped.0),
          subst (λ (below : List MadePivot). AllByRecursion (IsShapedAt limit m) (places_below path below lines other 0 (less_trees m limit trees))) (sym (pivots_stay m limit lines finding pivots))
              (less_shapes path (pivots_below lines finding pivots) lines finding 0 trees shaped.1),
        )

    less_shapes : (path : List ℕ) (pivots : List MadePivot) (lines : LineSet) (finding : Finding) (k : ℕ) (trees : Trees)
        → AllByRecursion (IsShapedAt more m) (places_below path pivots lines finding k trees)
        → AllByRecursion (IsShapedAt limit m) (places_below path pivots lines (less_finding m limit lines finding) k (less_trees m limit trees))
    less_shapes path pivots lines finding k NoTrees shaped = tt
    less_shapes path pivots lines finding k (MoreTrees tree trees) shaped =
        let first = places_from (path ++ k ∷ []) pivots (due_child lines finding k) tree in
        let rest = places_below path pivots lines finding (suc k) trees in
        let other = less_finding m limit lines finding in
        all-append (IsShapedAt limit m) (places_from (path ++ k ∷ []) pivots (due_child lines other k) (less_tree m limit tree))
        (places_below path pivots lines other (suc k) (less_trees m limit trees))
        (subst (λ (due : Due). AllByRecursion (IsShapedAt limit m) (places_from (path ++ k ∷ []) pivots due (less_tree m limit tree))) (sym (due_stays m limit lines finding k))
        (less_shape (path ++ k ∷ []) pivots (due_child lines finding k) tree (all_prefix (IsShapedAt more m) first rest shaped)))
        (less_shapes path pivots lines finding (suc k) trees (all_back (IsShapedAt more m) first rest shaped))

-- ---- its verdict

both_none : {A : Type 0} (a b : Option A) → a ≡ None → b ≡ None → option_or a b ≡ None
both_none a b e f = rw (e, f) refl

module _ (m : Matrix) (limit : ℕ) where
  no_fault_here : (lines : LineSet) (finding : Finding) → fault_at lines finding ≡ None → fault_at lines (less_finding m limit lines finding) ≡ None
  no_fault_here lines Empty none = refl
  no_fault_here lines (Cycle fault) none = none
  no_fault_here lines (Reduced steps) none = refl
  no_fault_here lines OneSum none = refl
  no_fault_here lines (Network net) none = refl
  no_fault_here lines (Conetwork net) none = refl
  no_fault_here lines R10 none = refl
  no_fault_here lines (TwoSum two) none = refl
  no_fault_here lines (ThreeSum three) none = refl
  no_fault_here lines Enumerated none = go (is_long m limit lines)
    where
      go : (long : Bool) → fault_at lines (cond long Undecided Enumerated) ≡ None
      go true = refl
      go false = refl
  no_fault_here lines (Violator fault) none = absurd (cc)
  no_fault_here lines Undecided none = refl
  no_fault_here lines (Pivoted place) none = refl

  nothing_open_here : (lines : LineSet) (finding : Finding) → open_at lines (less_finding m limit lines finding) ≡ None → open_at lines finding ≡ None
  nothing_open_here lines Empty none = refl
  nothing_open_here lines (Cycle fault) none = refl
  nothing_open_here lines (Reduced steps) none = refl
  nothing_open_here lines OneSum none = refl
  nothing_open_here lines (Network net) none = refl
  nothing_open_here lines (Conetwork net) none = refl
  nothing_open_here lines R10 none = refl
  nothing_open_here lines (TwoSum two) none = refl
  nothing_open_here lines (ThreeSum three) none = refl
  nothing_open_here lines Enumerated none = refl
  nothing_open_here lines (Violator fault) none = refl
  nothing_open_here lines Undecided none = none
  nothing_open_here lines (Pivoted place) none = refl

  mutual
    no_fault : (tree : Tree) → first_in fault_at tree ≡ None → first_in fault_at (less_tree m limit tree) ≡ None
    no_fault (Branch lines finding trees) none =
        let parts = none_or (fault_at lines finding) (first_among fault_at trees) none in
        both_none (fault_at lines (less_finding m limit lines finding)) (first_among fault_at (less_trees m limit trees)) (no_fault_here lines finding parts.0) (no_faults trees parts.1)

    no_faults : (trees : Trees) → first_among fault_at trees ≡ None → first_among fault_at (less_trees m limit trees) ≡ None
    no_faults NoTrees none = refl
    no_faults (MoreTrees tree trees) none =
        let parts = none_or (first_in fault_at tree) (first_among fault_at trees) none in
        both_none (first_in fault_at (less_tree m limit tree)) (first_among fault_at (less_trees m limit trees)) (no_fault tree parts.0) (no_faults trees parts.1)

  mutual
    nothing_open : (tree : Tree) → first_in open_at (less_tree m limit tree) ≡ None → first_in open_at tree ≡ None
    nothing_open (Branch lines finding trees) none =
        let parts = none_or (open_at lines (less_finding m limit lines finding)) (first_among open_at (less_trees m limit trees)) none in
        both_none (open_at lines finding) (first_among open_at trees) (nothing_open_here lines finding parts.0) (nothing_open_below trees parts.1)

    nothing_open_below : (trees : Trees) → first_among open_at (less_trees m limit trees) ≡ None → first_among open_at trees ≡ None
    nothing_open_below NoTrees none = refl
    nothing_open_below (MoreTrees tree trees) none =
        let parts = none_or (first_in open_at (less_tree m limit tree)) (first_among open_at (less_trees m limit trees)) none in
        both_none (first_in open_at tree) (first_among open_at trees) (nothing_open tree parts.0) (nothing_open_below trees parts.1)

abbrev IsOpen : Verdict → Type 0
IsOpen verdict = (lines : LineSet) × (verdict ≡ Open lines)

open_parts_of : (fault left : Option LineSet) → IsOpen (verdict_from fault left) → (fault ≡ None) × (left ≡ None → ⊥)
open_parts_of None None (lines, is) = cc
open_parts_of None (Some left) is = (refl, λ e. cc)
open_parts_of (Some fault) left (lines, is) = cc

open_from : (fault left : Option LineSet) → fault ≡ None → (left ≡ None → ⊥) → IsOpen (verdict_from fault left)
open_from None None none some = absurd (some refl)
open_from None (Some left) none some = (left, refl)
open_from (Some fault) left none some = cc

-- what is open within the larger budget is open within the smaller one
pub open_within_less : (limit more : ℕ) (m : Matrix) (tree other : Tree) → limit ≤ more → IsShape limit m tree → IsShape more m other → IsOpen (verdict_of other) → IsOpen (verdict_of tree)
open_within_less limit more m tree other few shape wider left =
    let less : Tree = less_tree m limit other in
    let parts = open_parts_of (first_in fault_at other) (first_in open_at other) left in
    let less_open : IsOpen (verdict_of less) = open_from (first_in fault_at less) (first_in open_at less) (no_fault m limit other parts.0) (λ none. parts.1 (nothing_open m limit other none)) in
    let same = one_shape limit m tree less shape (less_shape m limit more few [] [] (AllLines (height m) m.width) other wider) in
    (less_open.0, verdict_plain tree ∙ ap verdict_of same ∙ sym (verdict_plain less) ∙ less_open.1)
