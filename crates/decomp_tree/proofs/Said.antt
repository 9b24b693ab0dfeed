-- What a node says in each case without separation.
use Rattle.std.proofs.Common.{◌≡◌, ◌≢◌, ◌<◌, ◌≤◌, ◌+◌, ◌∙◌, ◌⊎◌, inl, inr, ℕ, zero, suc, true, false, min, List, [], ◌∷◌, length, map, get_or, Result, Ok, Err, IfOk, is_some, refl, ap, ap₂, sym, subst, arith}
use Rattle.std.proofs.lemmas.Bool.{cases_lt, true≢false}
use Rattle.std.proofs.lemmas.List.{length-map, get_or-map}
use Rattle.std.proofs.lemmas.List.FromFn.{length-range_with_len}
use Rattle.std.specs.List.{AllByRecursion}
use Rattle.std.specs.List.Sorted.{IsStrictlyIncreasing}
use Rattle.cmr_base.specs.declared.line.Line.{Line}
use Rattle.cmr_base.specs.declared.line.Line.TheVariants as line
use Rattle.cmr_base.specs.declared.line.Step.{Step}
use Rattle.cmr_base.specs.declared.line_set.LineSet.{LineSet}
use Rattle.cmr_base.specs.declared.network.Network as net
use Rattle.cmr_base.specs.Matrix.{Matrix, height, entry, transposed, IsMatrix}
use Rattle.cmr_base.specs.LineSets.{IsRowSet, IsColumnSet, AllBelow, first_lines}
use Rattle.cmr_base.specs.CyclePlaces.{IsCycleFault, HasNoCycleFault}
use Rattle.cmr_base.specs.Members.{IsIn}
use Rattle.cmr_base.specs.R10.{IsR10}
use Rattle.cmr_base.specs.Reductions.{HasLine, removal}
use Rattle.cmr_base.specs.Separations.{listed}
use Rattle.cmr_base.specs.Seeds.{IsLine}
use Rattle.cmr_base.specs.Components.{AreComponents, no_lines, part_at, first_number}
use Rattle.cmr_base.specs.Trees.{Reproduces, IsNetworkOf}
use Rattle.cmr_base.specs.Violator.{HasNoViolator, IsLeastViolator}
use Rattle.cmr_base.proofs.Lists.{all_by_places, all_at, all-map, all_weaker}
use Rattle.cmr_base.proofs.ListsWithout.{contains_from_in, in_from_contains, in-get_or, increasing_distinct}
use Rattle.cmr_base.proofs.Members.{distinct_few}
use Rattle.cmr_base.proofs.Parts.{height-transposed, length-increasing}
use Rattle.cmr_base.proofs.ListedLines.{has_line_from_listed, listed_from_has_line}
use Rattle.sp_reduce.specs.RowDigests.{HasNoReducibleLine}
use Rattle.tree_type.specs.DecompositionTrees.{Empty, Cycle, Reduced, OneSum, Network, Conetwork, R10, Enumerated, Violator, Undecided}
use Rattle.tree_type.specs.Invariant.{AreLines, AreLinesOf, HasArcsAndWalks, size_of}
use Rattle.tree_type.specs.Places.{lines_left}
use Rattle.tree_type.specs.Soundness.{part}
use Rattle.decomp_tree.specs.Shapes.{Case, HasNoLines, HasFault, IsReducible, IsApart, IsNetwork, IsConetwork, IsR10Matrix, IsTwoSum, IsThreeSum, IsShort, IsLeft, case_number, Applies, IsFirstCase, numbered, numbered_line, set_in}
use Rattle.decomp_tree.specs.declared.seen.Seen.{Seen}
use Rattle.decomp_tree.specs.Seen.{IsPlace, IsPlacedSet, IsOther, HasNoneBefore, IsNamedFault, AreDue, AreFewer, IsSaid, IsSeen}
use Rattle.decomp_tree.proofs.Numbered.{height_in}
use Rattle.decomp_tree.proofs.Apart.{IsPartOf, all_from_places, each_part}
use Rattle.decomp_tree.proofs.Kept.{below_members, named_contained, named_lines}
use Rattle.decomp_tree.proofs.Left.{reducible_from_removed, IsLeft as HasLeft, whole_left, all_named}
use Rattle.decomp_tree.proofs.Removed.{AreLeft}
use Rattle.decomp_tree.proofs.ShapeRules.{some_removed, some_line, least_violator}

-- ---- the order of the cases

case_numbered : ℕ → Case
case_numbered k = get_or (IsLeft ∷ HasNoLines ∷ HasFault ∷ IsReducible ∷ IsApart ∷ IsNetwork ∷ IsConetwork ∷ IsR10Matrix ∷ IsTwoSum ∷ IsThreeSum ∷ IsShort ∷ []) k IsLeft

numbered_back : (c : Case) → case_numbered (case_number c) ≡ c
unfolding case_numbered
numbered_back HasNoLines = refl
numbered_back HasFault = refl
numbered_back IsReducible = refl
numbered_back IsApart = refl
numbered_back IsNetwork = refl
numbered_back IsConetwork = refl
numbered_back IsR10Matrix = refl
numbered_back IsTwoSum = refl
numbered_back IsThreeSum = refl
numbered_back IsShort = refl
numbered_back IsLeft = refl

from_one : (c : Case) → 0 < case_number c
from_one HasNoLines = omega arith
from_one HasFault = omega arith
from_one IsReducible = omega arith
from_one IsApart = omega arith
from_one IsNetwork = omega arith
from_one IsConetwork = omega arith
from_one IsR10Matrix = omega arith
from_one IsTwoSum = omega arith
from_one IsThreeSum = omega arith
from_one IsShort = omega arith
from_one IsLeft = omega arith

pub none_first : (limit : ℕ) (n : Matrix) → HasNoneBefore limit n 1
none_first limit n earlier l other = let a = from_one earlier in absurd (omega (arith, l, a))

pub none_next : (limit : ℕ) (n : Matrix) (case : Case) → HasNoneBefore limit n (case_number case) → ¬ (Applies limit n case) → HasNoneBefore limit n (suc (case_number case))
none_next limit n case before here earlier l other = go (cases_lt (case_number earlier) (case_number case))
  where
    go : (case_number earlier < case_number case) ⊎ (case_number case ≤ case_number earlier) → ¬ (Applies limit n earlier)
    go (inl less) = before earlier less other
    go (inr more) =
        let same : case_number earlier ≡ case_number case = omega (arith, l, more) in
        subst (λ c. ¬ (Applies limit n c)) (sym (sym (numbered_back earlier) ∙ ap case_numbered same ∙ numbered_back case)) here

-- no line is reducible
pub none_reducible : (limit : ℕ) (n : Matrix) → HasNoReducibleLine false n → ¬ (Applies limit n IsReducible)
none_reducible limit n none (line, has, some) = true≢false (sym some ∙ ap is_some (none line has))

-- the case of a cycle fault does not count
pub none_after_fault : (limit : ℕ) (n : Matrix) → HasNoneBefore limit n 2 → HasNoneBefore limit n 3
none_after_fault limit n before earlier l other = go (cases_lt (case_number earlier) 2)
  where
    go : (case_number earlier < 2) ⊎ (2 ≤ case_number earlier) → ¬ (Applies limit n earlier)
    go (inl less) = before earlier less other
    go (inr more) =
        let same : case_number earlier ≡ 2 = omega (arith, l, more) in
        absurd (subst IsOther (sym (numbered_back earlier) ∙ ap case_numbered same ∙ numbered_back HasFault) other)

-- without a cycle fault it is the first case that applies
pub first_case : (limit : ℕ) (n : Matrix) (case : Case) → Applies limit n case → HasNoneBefore limit n (case_number case)
    → (2 < case_number case → HasNoCycleFault (entry n)) → IsFirstCase limit n case
first_case limit n case applies others no_fault = record { applies = applies; first = before }
  where
    before : (earlier : Case) → case_number earlier < case_number case → ¬ (Applies limit n earlier)
    before HasFault l = λ w. no_fault l w.0 w.1 w.2 w.3 w.4
    before HasNoLines l = others HasNoLines l tt
    before IsReducible l = others IsReducible l tt
    before IsApart l = others IsApart l tt
    before IsNetwork l = others IsNetwork l tt
    before IsConetwork l = others IsConetwork l tt
    before IsR10Matrix l = others IsR10Matrix l tt
    before IsTwoSum l = others IsTwoSum l tt
    before IsThreeSum l = others IsThreeSum l tt
    before IsShort l = others IsShort l tt
    before IsLeft l = others IsLeft l tt

pub empty_from_length : (steps : List Step) → length steps ≤ 0 → steps ≡ []
empty_from_length [] l = refl
empty_from_length (step ∷ steps) l = absurd (omega (arith, l))

-- ---- what a call made

pub seen_as : {E : Type 0} (limit : ℕ) (m : Matrix) (lines : LineSet) (seen : Seen) (made : Result Seen E) → IfOk made (λ found. found ≡ seen)
    → IsSeen limit m lines seen → IfOk made (IsSeen limit m lines)
seen_as limit m lines seen (Ok found) e said = subst (IsSeen limit m lines) (sym e) said
seen_as limit m lines seen (Err e) h said = tt

-- ---- the cases without children

module _ (limit : ℕ) (m : Matrix) (is : IsMatrix m) (lines : LineSet) (are : AreLines m lines) where
  pub placed : (R C : List ℕ) → IsRowSet (part m lines) R → IsColumnSet (part m lines) C → IsPlacedSet lines (record { rows = R; columns = C })
  placed R C rows columns = record { rows = subst (λ k. AllBelow k R) (height_in m lines) rows.in_range; columns = columns.in_range }

  named : (R C : List ℕ) → IsRowSet (part m lines) R → IsColumnSet (part m lines) C → AreLinesOf (set_in lines (record { rows = R; columns = C })) lines
  named R C rows columns = named_lines lines (record { rows = R; columns = C }) are.rows.increasing are.columns.increasing (placed R C rows columns) rows.increasing columns.increasing

  pub seen_empty : height (part m lines) ≡ 0 → (part m lines).width ≡ 0 → IsSaid limit m lines Empty []
  seen_empty e f = record {
    case = HasNoLines;
    applies = (e, f);
    others = none_first limit (part m lines);
    searched = λ e l. absurd (omega (arith, l));
    found = Empty;
    parts = [];
    says = tt;
    finding_is = refl;
    parts_are = tt;
    due = tt;
    count = refl;
    fewer = tt;
    fits = λ trees e. tt;
  }

  -- a matrix with a cycle fault has lines
  not_empty : (fault : LineSet) → IsCycleFault (part m lines) fault.rows fault.columns → ¬ (Applies limit (part m lines) HasNoLines)
  not_empty fault says none =
      let l = below_members fault.rows (height (part m lines)) says.row_set.in_range says.row ((says.rows_are says.row).1 (inl refl)) in
      let e = none.0 in
      omega (arith, l, e)

  pub seen_cycle : (fault : LineSet) → IsCycleFault (part m lines) fault.rows fault.columns → IsSaid limit m lines (Cycle (set_in lines fault)) []
  seen_cycle fault says = record {
    case = HasFault;
    applies = (says.row, says.first_column, says.last_column, says.path, says.fault);
    others = none_next limit (part m lines) HasNoLines (none_first limit (part m lines)) (not_empty fault says);
    searched = λ e l. absurd (omega (arith, l));
    found = Cycle fault;
    parts = [];
    says = says;
    finding_is = refl;
    parts_are = tt;
    due = tt;
    count = refl;
    fewer = tt;
    fits = λ trees e. named fault.rows fault.columns says.row_set says.column_set;
  }

  pub seen_fault : (fault : LineSet) → IsNamedFault m lines fault → IsSaid limit m lines (Cycle fault) []
  seen_fault fault (found, says, named) = subst (λ some. IsSaid limit m lines (Cycle some) []) (sym named) (seen_cycle found says)

  sizes : (n : net.Network) (arcs walks : ℕ) → IsNetworkOf n arcs walks → HasArcsAndWalks arcs walks n
  sizes n arcs walks network = record {
    arc_count = network.tree.count;
    walk_count = network.count;
    arc_nodes = all_by_places (λ pair. (pair.tail ≤ arcs) × (pair.head ≤ arcs)) n.arcs (record { tail = 0; head = 0 }) (λ k l. network.tree.nodes k (let c = network.tree.count in omega (arith, l, c)));
    walk_nodes = all_by_places (λ pair. (pair.tail ≤ arcs) × (pair.head ≤ arcs)) n.walks (record { tail = 0; head = 0 }) (λ k l. network.nodes k (let c = network.count in omega (arith, l, c)));
  }

  pub seen_network : (n : net.Network) → HasNoneBefore limit (part m lines) 5 → Reproduces n (part m lines) → IsSaid limit m lines (Network n) []
  seen_network n none says = record {
    case = IsNetwork;
    applies = (n, says);
    others = none;
    searched = λ e. absurd (true≢false e);
    found = Network n;
    parts = [];
    says = says;
    finding_is = refl;
    parts_are = tt;
    due = tt;
    count = refl;
    fewer = tt;
    fits = λ trees e. subst (λ k. HasArcsAndWalks k (length lines.columns) n) (height_in m lines) (sizes n (height (part m lines)) (length lines.columns) says.network);
  }

  pub seen_conetwork : (n : net.Network) → HasNoneBefore limit (part m lines) 6 → Reproduces n (transposed (part m lines)) → IsSaid limit m lines (Conetwork n) []
  seen_conetwork n none says = record {
    case = IsConetwork;
    applies = (n, says);
    others = none;
    searched = λ e. absurd (true≢false e);
    found = Conetwork n;
    parts = [];
    says = says;
    finding_is = refl;
    parts_are = tt;
    due = tt;
    count = refl;
    fewer = tt;
    fits = λ trees e. subst (λ k. HasArcsAndWalks (length lines.columns) k n) (height_in m lines) (subst (λ k. HasArcsAndWalks k (height (part m lines)) n) (height-transposed (part m lines)) (sizes n (height (transposed (part m lines))) (height (part m lines)) says.network));
  }

  pub seen_r10 : HasNoneBefore limit (part m lines) 7 → HasNoCycleFault (entry (part m lines)) → IsR10 (part m lines) → IsSaid limit m lines R10 []
  seen_r10 none no_fault says = record {
    case = IsR10Matrix;
    applies = says;
    others = none;
    searched = λ e l. no_fault;
    found = R10;
    parts = [];
    says = tt;
    finding_is = refl;
    parts_are = tt;
    due = tt;
    count = refl;
    fewer = tt;
    fits = λ trees e. tt;
  }

  pub seen_violator : (fault : LineSet) → HasNoneBefore limit (part m lines) 10 → HasNoCycleFault (entry (part m lines)) → min (height (part m lines)) (length lines.columns) ≤ limit
      → IsLeastViolator (part m lines) fault.rows fault.columns → IsSaid limit m lines (Violator (set_in lines fault)) []
  seen_violator fault none no_fault short says =
      let w = least_violator 0 (omega arith) m is lines are fault.rows fault.columns says in
      record {
        case = IsShort;
        applies = short;
        others = none;
        searched = λ e l. no_fault;
        found = Violator fault;
        parts = [];
        says = says;
        finding_is = refl;
        parts_are = tt;
        due = tt;
        count = refl;
        fewer = tt;
        fits = λ trees e. named fault.rows fault.columns w.0 w.1;
      }

  pub placed_violator : (fault : LineSet) → IsLeastViolator (part m lines) fault.rows fault.columns → IsPlacedSet lines fault
  placed_violator fault says = let w = least_violator 0 (omega arith) m is lines are fault.rows fault.columns says in placed fault.rows fault.columns w.0 w.1

  pub seen_enumerated : HasNoneBefore limit (part m lines) 10 → HasNoCycleFault (entry (part m lines))
      → min (height (part m lines)) (length lines.columns) ≤ limit → HasNoViolator (part m lines) → IsSaid limit m lines Enumerated []
  seen_enumerated none no_fault short says = record {
    case = IsShort;
    applies = short;
    others = none;
    searched = λ e l. no_fault;
    found = Enumerated;
    parts = [];
    says = says;
    finding_is = refl;
    parts_are = tt;
    due = tt;
    count = refl;
    fewer = tt;
    fits = λ trees e. tt;
  }

  pub seen_undecided : HasNoneBefore limit (part m lines) 10 → HasNoCycleFault (entry (part m lines)) → limit < min (height (part m lines)) (length lines.columns) → IsSaid limit m lines Undecided []
  seen_undecided none no_fault long = record {
    case = IsLeft;
    applies = tt;
    others = none_next limit (part m lines) IsShort none (λ short. omega (arith, long, short));
    searched = λ e l. no_fault;
    found = Undecided;
    parts = [];
    says = tt;
    finding_is = refl;
    parts_are = tt;
    due = tt;
    count = refl;
    fewer = tt;
    fits = λ trees e. tt;
  }

  -- ---- reductions

  pub steps_placed : (steps : List Step) → steps ≡ (removal false (part m lines)).steps → AllByRecursion (λ step. IsPlace lines step.line) steps
  steps_placed steps e = subst (AllByRecursion (λ step. IsPlace lines step.line)) (sym e) (whole_left m lines are).places

  pub rest_placed : (rest : LineSet) → rest.rows ≡ (removal false (part m lines)).rows → rest.columns ≡ (removal false (part m lines)).columns → IsPlacedSet lines rest
  rest_placed rest e f = record {
    rows = λ k l. (rest_left rest e f).rows_low (get_or rest.rows k 0) (in-get_or rest.rows k l);
    columns = λ k l. (rest_left rest e f).columns_low (get_or rest.columns k 0) (in-get_or rest.columns k l);
  }
    where
      rest_left : (rest : LineSet) → rest.rows ≡ (removal false (part m lines)).rows → rest.columns ≡ (removal false (part m lines)).columns → AreLeft m lines are rest.rows rest.columns
      rest_left rest e f = subst (λ C. AreLeft m lines are rest.rows C) (sym f) (subst (λ R. AreLeft m lines are R (removal false (part m lines)).columns) (sym e) (whole_left m lines are).left)

  line_among : (l : Line) → IsPlace lines l → HasLine lines.rows lines.columns (numbered_line lines l)
  line_among (line.Row k) h = named_contained lines.rows k h
  line_among (line.Column k) h = named_contained lines.columns k h

  lines_among : (steps : List Step) → AllByRecursion (λ step. IsPlace lines step.line) steps
      → AllByRecursion (HasLine lines.rows lines.columns) (map (numbered_line lines) (map (λ step. step.line) steps))
  lines_among [] h = tt
  lines_among (step ∷ steps) h = (line_among step.line h.0, lines_among steps h.1)

  pub not_reducible : (removal false (part m lines)).steps ≡ [] → ¬ (Applies limit (part m lines) IsReducible)
  not_reducible e (l, has, some) =
      let a = some_removed (entry (part m lines)) (height (part m lines) + length lines.columns) (first_lines (height (part m lines))) (first_lines (length lines.columns)) l (some_line (height (part m lines)) (length lines.columns) l has) has some in
      omega (arith, a, ap length e)

  pub seen_rest : (steps : List Step) (rest : LineSet) → HasNoneBefore limit (part m lines) 3 → 0 < length steps → steps ≡ (removal false (part m lines)).steps
      → rest.rows ≡ (removal false (part m lines)).rows → rest.columns ≡ (removal false (part m lines)).columns
      → IsSaid limit m lines (Reduced (map (numbered_line lines) (map (λ step. step.line) steps))) (set_in lines rest ∷ [])
  seen_rest steps rest none some e f g =
      let left = whole_left m lines are in
      let rows_count = height_in m lines in
      let placed_rest = rest_placed rest f g in
      record {
        case = IsReducible;
        applies = reducible_from_removed (entry (part m lines)) (height (part m lines) + length lines.columns) (first_lines (height (part m lines))) (first_lines (length lines.columns)) (subst (λ s. 0 < length s) e some);
        others = none;
        searched = λ e. absurd (true≢false e);
        found = Reduced (map (λ step. step.line) steps);
        parts = [];
        says = ap (map (λ step. step.line)) e;
        finding_is = refl;
        parts_are = tt;
        due = (
          (
            ap (map (numbered lines.rows)) f ∙ sym (rows_left left),
            ap (map (numbered lines.columns)) g ∙ sym (columns_left left),
          ),
          tt,
        );
        count = refl;
        fewer = (
          record {
            among = named_lines lines rest are.rows.increasing are.columns.increasing placed_rest (subst IsStrictlyIncreasing (sym f) left.left.rows_increase) (subst IsStrictlyIncreasing (sym g) left.left.columns_increase);
            fewer = let a = counted left in let b = length-map rest.rows (numbered lines.rows) in let c = length-map rest.columns (numbered lines.columns) in
                omega (arith, a, b, c, ap length f, ap length g, ap length e, some);
          },
          tt,
        );
        fits = λ trees h. (
          lines_among steps (steps_placed steps e),
          (let a = counted left in let b = length-map (map (λ step. step.line) steps) (numbered_line lines) in let c = length-map steps (λ step. step.line) in omega (arith, a, b, c, ap length e)),
        );
      }
    where
      Left : Type 0
      Left = HasLeft m lines are (first_lines (height (part m lines))) (first_lines (length lines.columns)) (removal false (part m lines)).steps (removal false (part m lines)).rows (removal false (part m lines)).columns

      rows_left : Left → (lines_left lines (map (numbered_line lines) (map (λ step. step.line) steps))).rows ≡ map (numbered lines.rows) (removal false (part m lines)).rows
      rows_left left = ap (λ s. (lines_left lines (map (numbered_line lines) (map (λ step. step.line) s))).rows) e ∙ sym (ap (λ (l : LineSet). (lines_left l (map (numbered_line lines) (map (λ step. step.line) (removal false (part m lines)).steps))).rows) (all_named m lines are)) ∙ left.rows_are

      columns_left : Left → (lines_left lines (map (numbered_line lines) (map (λ step. step.line) steps))).columns ≡ map (numbered lines.columns) (removal false (part m lines)).columns
      columns_left left = ap (λ s. (lines_left lines (map (numbered_line lines) (map (λ step. step.line) s))).columns) e ∙ sym (ap (λ (l : LineSet). (lines_left l (map (numbered_line lines) (map (λ step. step.line) (removal false (part m lines)).steps))).columns) (all_named m lines are)) ∙ left.columns_are

      counted : Left → length (removal false (part m lines)).rows + length (removal false (part m lines)).columns + length (removal false (part m lines)).steps ≤ size_of lines
      counted left = let a = left.count in let b = length-range_with_len 0 (height (part m lines)) in let c = length-range_with_len 0 (length lines.columns) in omega (arith, a, b, c, height_in m lines)

-- ---- parts

module _ (n : Matrix) where
  -- the lines of a part
  abbrev has_part_line : List LineSet → ℕ → Line → Type 0
  has_part_line parts a x = HasLine (part_at parts a).rows (part_at parts a).columns x

  -- a line that is not in a part
  missing : (parts : List LineSet) → AreComponents n parts → 2 ≤ length parts → (a : ℕ) → a < length parts → (x : Line) × IsLine (height n) n.width x × (has_part_line parts a x → ⊥)
  missing parts are more zero l = outside_of 1 (omega (arith, more)) (λ e. omega (arith, e))
    where
      outside_of : (b : ℕ) → b < length parts → 0 ≢ b → (x : Line) × IsLine (height n) n.width x × (has_part_line parts 0 x → ⊥)
      outside_of b k d = let f = (are.components b k).some in
          (f.0, f.1, λ h. d (are.once 0 b f.0 l k h (has_line_from_listed (part_at parts b).rows (part_at parts b).columns f.0 f.2)))
  missing parts are more (suc a) l = outside_of 0 (omega (arith, more)) (λ e. omega (arith, e))
    where
      outside_of : (b : ℕ) → b < length parts → suc a ≢ b → (x : Line) × IsLine (height n) n.width x × (has_part_line parts (suc a) x → ⊥)
      outside_of b k d = let f = (are.components b k).some in
          (f.0, f.1, λ h. d (are.once (suc a) b f.0 l k h (has_line_from_listed (part_at parts b).rows (part_at parts b).columns f.0 f.2)))

  few_lines : (xs : List ℕ) (high x : ℕ) → IsStrictlyIncreasing xs → AllBelow high xs → x < high → ¬ (IsIn x xs) → length xs < high
  few_lines xs high x increases low l d =
      let a = distinct_few high (x ∷ xs) (d, increasing_distinct xs increases) below in omega (arith, a)
    where
      below : (y : ℕ) → IsIn y (x ∷ xs) → y < high
      below y (inl e) = omega (arith, e, l)
      below y (inr h) = below_members xs high low y h

  fewer_in_part : (p : LineSet) → IsPartOf n p → (x : Line) → IsLine (height n) n.width x → (HasLine p.rows p.columns x → ⊥) → length p.rows + length p.columns < height n + n.width
  fewer_in_part p is (line.Row r) low d =
      let a = few_lines p.rows (height n) r is.rows.increasing is.rows.in_range low (λ h. d (contains_from_in p.rows r h)) in
      let b = length-increasing p.columns n.width is.columns.increasing is.columns.in_range in
      omega (arith, a, b)
  fewer_in_part p is (line.Column c) low d =
      let a = few_lines p.columns n.width c is.columns.increasing is.columns.in_range low (λ h. d (contains_from_in p.columns c h)) in
      let b = length-increasing p.rows (height n) is.rows.increasing is.rows.in_range in
      omega (arith, a, b)

  first_low : (p : LineSet) → IsPartOf n p → first_number (height n) p < height n + n.width
  first_low p is = go p.rows p.columns refl refl
    where
      by_lists : (rows columns : List ℕ) → p.rows ≡ rows → p.columns ≡ columns → first_number (height n) p ≡ first_number (height n) (record { rows = rows; columns = columns })
      by_lists rows columns e f = ap₂ (λ (a b : List ℕ). first_number (height n) (record { rows = a; columns = b })) e f

      go : (rows columns : List ℕ) → p.rows ≡ rows → p.columns ≡ columns → first_number (height n) p < height n + n.width
      go (r ∷ rows) columns e f = let l = below_members p.rows (height n) is.rows.in_range r (subst (IsIn r) (sym e) (inl refl)) in
          let a = by_lists (r ∷ rows) columns e f in omega (arith, l, a)
      go [] (c ∷ columns) e f = let l = below_members p.columns n.width is.columns.in_range c (subst (IsIn c) (sym f) (inl refl)) in
          let a = by_lists [] (c ∷ columns) e f in omega (arith, l, a)
      go [] [] e f = absurd (nothing is.connected.some.0 (has_line_from_listed p.rows p.columns is.connected.some.0 is.connected.some.2))
        where
          nothing : (x : Line) → HasLine p.rows p.columns x → ⊥
          nothing (line.Row r) h = subst (IsIn r) e (in_from_contains p.rows r h)
          nothing (line.Column c) h = subst (IsIn c) f (in_from_contains p.columns c h)

  few_parts : (parts : List LineSet) → AreComponents n parts → length parts ≤ height n + n.width
  few_parts parts are =
      let a = length-increasing (map (first_number (height n)) parts) (height n + n.width) increases (λ k l. all_at (λ y. y < height n + n.width) (map (first_number (height n)) parts) k 0 lows l) in
      let b = length-map parts (first_number (height n)) in
      omega (arith, a, b)
    where
      number_at : (k : ℕ) → k < length parts → get_or (map (first_number (height n)) parts) k 0 ≡ first_number (height n) (part_at parts k)
      number_at k l = get_or-map (first_number (height n)) parts k no_lines 0 l

      increases : IsStrictlyIncreasing (map (first_number (height n)) parts)
      increases k l =
          let b = length-map parts (first_number (height n)) in
          let more : k + 1 < length parts = omega (arith, l, b) in
          let low : k < length parts = omega (arith, more) in
          let less = are.ordered k (k + 1) (omega arith) more in
          omega (arith, less, number_at k low, number_at (k + 1) more)

      lows : AllByRecursion (λ y. y < height n + n.width) (map (first_number (height n)) parts)
      lows = all-map (λ y. y < height n + n.width) (first_number (height n)) parts (all_weaker (IsPartOf n) (λ p. first_number (height n) p < height n + n.width) first_low parts (each_part n parts are))

  in_one : (p : LineSet) → AreComponents n (p ∷ []) → (x : Line) → IsLine (height n) n.width x → listed p.rows p.columns x ≡ true
  in_one p are x low = let w = are.all x low in listed_from_has_line p.rows p.columns x (go w.0 w.1 w.2)
    where
      go : (a : ℕ) → a < 1 → has_part_line (p ∷ []) a x → HasLine p.rows p.columns x
      go zero l h = h
      go (suc a) l h = absurd (omega (arith, l))

  -- the parts are two or more, or they are not
  pub not_apart : (limit : ℕ) (parts : List LineSet) → AreComponents n parts → length parts < 2 → ¬ (Applies limit n IsApart)
  not_apart limit (a ∷ b ∷ parts) are l h = absurd (omega (arith, l))
  not_apart limit [] are l (others, other, more) =
      let f = (other.components 0 (omega (arith, more))).some in
      let w = are.all f.0 f.1 in
      let low = w.1 in
      omega (arith, low)
  not_apart limit (p ∷ []) are l (others, other, more) =
      let low : 0 < length others = omega (arith, more) in
      let next : 1 < length others = omega (arith, more) in
      let one = part_at others 0 in
      let two = part_at others 1 in
      let f = (other.components 0 low) in
      let g = (other.components 1 next).some in
      let in_first = (are.components 0 (omega arith)).least (listed one.rows one.columns) f.apart f.some (λ x is e. in_one p are x is) g.0 g.1 (in_one p are g.0 g.1) in
      let same = other.once 0 1 g.0 low next (has_line_from_listed one.rows one.columns g.0 in_first) (has_line_from_listed two.rows two.columns g.0 g.2) in
      omega (arith, same)

module _ (limit : ℕ) (m : Matrix) (is : IsMatrix m) (lines : LineSet) (are : AreLines m lines) where
  pub parts_placed : (parts : List LineSet) → AreComponents (part m lines) parts → AllByRecursion (IsPlacedSet lines) parts
  parts_placed parts apart = all_weaker (IsPartOf (part m lines)) (IsPlacedSet lines) (λ p is_p. placed limit m is lines are p.rows p.columns is_p.rows is_p.columns) parts (each_part (part m lines) parts apart)

  part_fewer : (parts : List LineSet) → AreComponents (part m lines) parts → 2 ≤ length parts → (a : ℕ) → a < length parts → AreFewer lines (set_in lines (part_at parts a))
  part_fewer parts apart more a l =
      let p = part_at parts a in
      let is_p : IsPartOf (part m lines) (part_at parts a) = record { rows = apart.row_sets a l; columns = apart.column_sets a l; connected = apart.components a l } in
      let w = missing (part m lines) parts apart more a l in
      let f = fewer_in_part (part m lines) p is_p w.0 w.1 w.2 in
      let b = length-map p.rows (numbered lines.rows) in
      let c = length-map p.columns (numbered lines.columns) in
      record {
        among = named_lines lines p are.rows.increasing are.columns.increasing (placed limit m is lines are p.rows p.columns is_p.rows is_p.columns) is_p.rows.increasing is_p.columns.increasing;
        fewer = omega (arith, f, b, c, height_in m lines);
      }

  any_due : (k : ℕ) (children : List LineSet) → AreDue lines OneSum k children
  any_due k [] = tt
  any_due k (child ∷ children) = (tt, any_due (suc k) children)

  pub seen_parts : (parts : List LineSet) → HasNoneBefore limit (part m lines) 4 → AreComponents (part m lines) parts → 2 ≤ length parts → IsSaid limit m lines OneSum (map (set_in lines) parts)
  seen_parts parts none apart more = record {
    case = IsApart;
    applies = (parts, apart, more);
    others = none;
    searched = λ e. absurd (true≢false e);
    found = OneSum;
    parts = parts;
    says = (apart, more);
    finding_is = refl;
    parts_are = refl;
    due = any_due 0 (map (set_in lines) parts);
    count = tt;
    fewer = all-map (AreFewer lines) (set_in lines) parts (all_from_places (λ p. AreFewer lines (set_in lines p)) parts (part_fewer parts apart more));
    fits = λ trees e. let a = few_parts (part m lines) parts apart in let b = length-map parts (set_in lines) in omega (arith, a, b, e, height_in m lines);
  }
