-- Consequences for the matrix if all nodes keep the rules.
use Rattle.std.proofs.Common.{◌≡◌, ◌<◌, ◌∙◌, ◌-◌, inl, inr, ℕ, suc, List, [], ◌∷◌, ◌++◌, length, get_or, Contains, Option, Some, None, is_some, refl, ap, sym, subst, arith}
use Rattle.std.specs.List.{AllByRecursion}
use Rattle.cmr_base.specs.PlacedPivots.{pivoted_part}
use Rattle.std.specs.Option.{option_or}
use Rattle.cmr_base.specs.declared.line_set.LineSet.{LineSet}
use Rattle.cmr_base.specs.Matrix.{Matrix, height, entry, IsMatrix}
use Rattle.cmr_base.specs.LineSets.{first_lines}
use Rattle.cmr_base.specs.Violator.{IsViolator, HasNoViolator}
use Rattle.cmr_base.proofs.Lists.{all_prefix, all_back}
use Rattle.cmr_base.proofs.ListsWithout.{true_is_false}
use Rattle.cmr_base.proofs.Options.{some_or, some_same}
use Rattle.ghouila.proofs.CamionLaw.{camion, unsigned}
use Rattle.r10_leaf.proofs.FreeR10.{fault_free_r10_has_no_violator}
use Rattle.ghouila.proofs.ViolatedLines.{FreeIn}
use Rattle.tree_type.specs.declared.refusal.Rule.{Rule}
use Rattle.tree_type.specs.declared.refusal.Rule.TheVariants as rule
use Rattle.tree_type.specs.DecompositionTrees.{Finding, Empty, Cycle, Reduced, OneSum, Network, Conetwork, R10, TwoSum, ThreeSum, Enumerated, Violator, Undecided, Pivoted, Tree, Trees, Branch, NoTrees, MoreTrees, count_trees, lines_at_root}
use Rattle.tree_type.specs.Verdicts.{first_in, first_among, fault_at, open_at, verdict_from, verdict_of}
use Rattle.tree_type.specs.Invariant.{AreLines, FitsLines, HasChildren, IsTreeWithin, AreTreesWithin, IsTreeFor}
use Rattle.tree_type.specs.Places.{Due, AllLines, MadePivot, matrix_after, pivots_below, places_from, places_below, due_child, lines_left, lines_of_each}
use Rattle.tree_type.specs.Soundness.{part, HasItsLines, Demands, MayStand, KeepsAll, IsSoundTree}
use Rattle.tree_laws.specs.Laws.{IsProved, IsRefuted, VerdictMeans}
use Rattle.tree_laws.proofs.FreeSets.{IsFreeOn, free_from_part, none_from_free}
use Rattle.tree_type.proofs.PlacedLines.{lines_within, part_is}
use Rattle.tree_laws.proofs.Leaves.{free_empty, free_network, free_conetwork}
use Rattle.tree_laws.proofs.Sums.{free_two, free_three}
use Rattle.tree_laws.proofs.OneSums.{free_apart}
use Rattle.tree_laws.proofs.Reductions.{free_reduced}
use Rattle.tree_laws.proofs.PivotedMatrices.{lines_after, free_pivoted, pivoted_is_matrix}

some_is_none : {A B : Type 0} (x : A) → Some x ≡ None → B
some_is_none x e = true_is_false (ap is_some e)

pub none_or : {A : Type 0} (a b : Option A) → option_or a b ≡ None → (a ≡ None) × (b ≡ None)
none_or None b e = (refl, e)
none_or (Some x) b e = some_is_none x e

free_same : (m : Matrix) (a b : LineSet) → a.rows ≡ b.rows → a.columns ≡ b.columns → IsFreeOn m a → IsFreeOn m b
free_same m a b e f free = subst (λ columns. IsFreeOn m (record { rows = b.rows; columns = columns })) f (subst (λ rows. IsFreeOn m (record { rows = rows; columns = a.columns })) e free)

-- the children have the lines that they must have
AreDue : LineSet → Finding → ℕ → Trees → Type 0
AreDue lines finding k NoTrees = Unit {0}
AreDue lines finding k (MoreTrees tree trees) = HasItsLines (due_child lines finding k) (lines_at_root tree) × AreDue lines finding (suc k) trees

-- a node, with the matrix after the pivots above it
module _ (root : Matrix) (pivots : List MadePivot) where
  -- the demand of a kept rule on a node
  demands : (path : List ℕ) (due : Due) (lines : LineSet) (finding : Finding) (trees : Trees) → KeepsAll root (record { path = path; pivots = pivots; due = due; lines = lines; finding = finding; children = lines_of_each trees }) → (broken : Rule) → Demands broken (matrix_after root pivots) lines finding (lines_of_each trees)
  demands path due lines finding trees keeps rule.Size = tt
  demands path due lines finding trees keeps rule.Lines = tt
  demands path due lines finding trees keeps rule.NotEmpty = keeps rule.NotEmpty
  demands path due lines finding trees keeps rule.NotViolator = keeps rule.NotViolator
  demands path due lines finding trees keeps rule.NotReducible = keeps rule.NotReducible
  demands path due lines finding trees keeps rule.NotApart = keeps rule.NotApart
  demands path due lines finding trees keeps rule.NotNetwork = keeps rule.NotNetwork
  demands path due lines finding trees keeps rule.NotR10 = keeps rule.NotR10
  demands path due lines finding trees keeps rule.CycleFault = keeps rule.CycleFault
  demands path due lines finding trees keeps rule.TooShort = keeps rule.TooShort
  demands path due lines finding trees keeps rule.BadConnector = keeps rule.BadConnector
  demands path due lines finding trees keeps rule.CornerSign = keeps rule.CornerSign
  demands path due lines finding trees keeps rule.BadBlock = keeps rule.BadBlock
  demands path due lines finding trees keeps rule.TooMany = keeps rule.TooMany
  demands path due lines finding trees keeps rule.NotClean = keeps rule.NotClean
  demands path due lines finding trees keeps rule.NotPivot = keeps rule.NotPivot
  demands path due lines finding trees keeps rule.BelowPivot = tt

module _ (root : Matrix) (pivots : List MadePivot) (is : IsMatrix (matrix_after root pivots)) where
  abbrev m : Matrix
  m = matrix_after root pivots

  -- a node whose children are free is free
  step : (lines : LineSet) (finding : Finding) (trees : Trees) → AreLines m lines → FitsLines lines finding trees → HasChildren finding (count_trees trees)
      → ((broken : Rule) → Demands broken m lines finding (lines_of_each trees))
      → fault_at lines finding ≡ None → open_at lines finding ≡ None → AreDue lines finding 0 trees
      → AllByRecursion (IsFreeOn (matrix_after root (pivots_below lines finding pivots))) (lines_of_each trees) → IsFreeOn m lines
  unfolding AreDue
  step lines Empty trees are fits count keeps no_fault no_open due free = free_empty m lines (keeps rule.NotEmpty)
  step lines (Cycle fault) trees are fits count keeps no_fault no_open due free = some_is_none fault no_fault
  step lines (Reduced steps) NoTrees are fits count keeps no_fault no_open due free = absurd (omega (arith, count))
  step lines (Reduced steps) (MoreTrees tree trees) are fits count keeps no_fault no_open due free =
      free_reduced m is lines steps (keeps rule.NotReducible).1
      (free_same m (lines_at_root tree) (lines_left lines steps) due.0.0 due.0.1 free.0)
  step lines OneSum trees are fits count keeps no_fault no_open due free = free_apart m lines (lines_of_each trees) (keeps rule.NotApart) free
  step lines (Network net) trees are fits count keeps no_fault no_open due free = free_network m lines is are (net, keeps rule.NotNetwork)
  step lines (Conetwork net) trees are fits count keeps no_fault no_open due free = free_conetwork m lines is are (net, keeps rule.NotNetwork)
  step lines R10 trees are fits count keeps no_fault no_open due free = free_from_part m lines (fault_free_r10_has_no_violator (part m lines) (part_is m lines is are).rectangular (part_is m lines is are).small (keeps rule.NotR10) (keeps rule.CycleFault))
  step lines (TwoSum two) NoTrees are fits count keeps no_fault no_open due free = absurd (omega (arith, count))
  step lines (TwoSum two) (MoreTrees tree NoTrees) are fits count keeps no_fault no_open due free = absurd (omega (arith, count))
  step lines (TwoSum two) (MoreTrees tree (MoreTrees tree' trees)) are fits count keeps no_fault no_open due free =
      free_two m is lines two (keeps rule.TooShort) (keeps rule.BadConnector) (keeps rule.BadBlock) (free_same m (lines_at_root tree) _ due.0.0 due.0.1 free.0) (free_same m (lines_at_root tree') _ due.1.0.0 due.1.0.1 free.1.0)
  step lines (ThreeSum three) NoTrees are fits count keeps no_fault no_open due free = absurd (omega (arith, count))
  step lines (ThreeSum three) (MoreTrees tree NoTrees) are fits count keeps no_fault no_open due free = absurd (omega (arith, count))
  step lines (ThreeSum three) (MoreTrees tree (MoreTrees tree' trees)) are fits count keeps no_fault no_open due free =
      free_three m is lines three (keeps rule.TooShort) (keeps rule.BadConnector) (keeps rule.CornerSign) (keeps rule.BadBlock) (free_same m (lines_at_root tree) _ due.0.0 due.0.1 free.0) (free_same m (lines_at_root tree') _ due.1.0.0 due.1.0.1 free.1.0)
  step lines Enumerated trees are fits count keeps no_fault no_open due free = free_from_part m lines (keeps rule.NotClean)
  step lines (Violator fault) trees are fits count keeps no_fault no_open due free = some_is_none fault no_fault
  step lines Undecided trees are fits count keeps no_fault no_open due free = some_is_none lines no_open
  step lines (Pivoted place) NoTrees are fits count keeps no_fault no_open due free = absurd (omega (arith, count))
  step lines (Pivoted place) (MoreTrees tree trees) are fits count keeps no_fault no_open due free =
      free_pivoted m lines place is are (record { row = fits.0; column = fits.1; nonzero = (keeps rule.NotPivot).0 })
      (free_same (pivoted_part m lines place) (lines_at_root tree) lines due.0.0 due.0.1 free.0)

  -- the current matrix at its children also satisfies `IsMatrix`
  goes_on : (lines : LineSet) (finding : Finding) (children : List LineSet) → ((broken : Rule) → Demands broken m lines finding children)
      → IsMatrix (matrix_after root (pivots_below lines finding pivots))
  goes_on lines (Pivoted place) children keeps = pivoted_is_matrix m lines place is (keeps rule.NotPivot).1
  goes_on lines Empty children keeps = is
  goes_on lines (Cycle fault) children keeps = is
  goes_on lines (Reduced steps) children keeps = is
  goes_on lines OneSum children keeps = is
  goes_on lines (Network net) children keeps = is
  goes_on lines (Conetwork net) children keeps = is
  goes_on lines R10 children keeps = is
  goes_on lines (TwoSum two) children keeps = is
  goes_on lines (ThreeSum three) children keeps = is
  goes_on lines Enumerated children keeps = is
  goes_on lines (Violator fault) children keeps = is
  goes_on lines Undecided children keeps = is

-- the faults of a matrix
module _ (m : Matrix) where
  -- a fault that a node names
  fault_here : (lines : LineSet) (finding : Finding) (trees : Trees) (fault : LineSet) → AreLines m lines → FitsLines lines finding trees
      → ((broken : Rule) → Demands broken m lines finding (lines_of_each trees)) → fault_at lines finding ≡ Some fault
      → AreLines m fault × IsViolator (entry m) fault.rows fault.columns
  fault_here lines (Cycle found) trees fault are fits keeps e =
      subst (λ f. AreLines m f × IsViolator (entry m) f.rows f.columns) (some_same found fault e) (lines_within m found lines fits are, keeps rule.NotViolator)
  fault_here lines (Violator found) trees fault are fits keeps e =
      subst (λ f. AreLines m f × IsViolator (entry m) f.rows f.columns) (some_same found fault e) (lines_within m found lines fits are, keeps rule.NotViolator)
  fault_here lines Empty trees fault are fits keeps e = some_is_none fault (sym e)
  fault_here lines (Reduced steps) trees fault are fits keeps e = some_is_none fault (sym e)
  fault_here lines OneSum trees fault are fits keeps e = some_is_none fault (sym e)
  fault_here lines (Network net) trees fault are fits keeps e = some_is_none fault (sym e)
  fault_here lines (Conetwork net) trees fault are fits keeps e = some_is_none fault (sym e)
  fault_here lines R10 trees fault are fits keeps e = some_is_none fault (sym e)
  fault_here lines (TwoSum two) trees fault are fits keeps e = some_is_none fault (sym e)
  fault_here lines (ThreeSum three) trees fault are fits keeps e = some_is_none fault (sym e)
  fault_here lines Enumerated trees fault are fits keeps e = some_is_none fault (sym e)
  fault_here lines Undecided trees fault are fits keeps e = some_is_none fault (sym e)
  fault_here lines (Pivoted place) trees fault are fits keeps e = some_is_none fault (sym e)

  -- a node that names a fault has no pivot above it
  root_fault : (pivots : List MadePivot) (lines : LineSet) (finding : Finding) (trees : Trees) (fault : LineSet) → AreLines m lines
      → FitsLines lines finding trees → ((broken : Rule) → Demands broken (matrix_after m pivots) lines finding (lines_of_each trees)) → MayStand pivots finding
      → fault_at lines finding ≡ Some fault → AreLines m fault × IsViolator (entry m) fault.rows fault.columns
  root_fault [] lines finding trees fault are fits keeps may e = fault_here lines finding trees fault are fits keeps e
  root_fault (last ∷ pivots) lines (Cycle found) trees fault are fits keeps may e = absurd may
  root_fault (last ∷ pivots) lines (Violator found) trees fault are fits keeps may e = absurd may
  root_fault (last ∷ pivots) lines Empty trees fault are fits keeps may e = some_is_none fault (sym e)
  root_fault (last ∷ pivots) lines (Reduced steps) trees fault are fits keeps may e = some_is_none fault (sym e)
  root_fault (last ∷ pivots) lines OneSum trees fault are fits keeps may e = some_is_none fault (sym e)
  root_fault (last ∷ pivots) lines (Network net) trees fault are fits keeps may e = some_is_none fault (sym e)
  root_fault (last ∷ pivots) lines (Conetwork net) trees fault are fits keeps may e = some_is_none fault (sym e)
  root_fault (last ∷ pivots) lines R10 trees fault are fits keeps may e = some_is_none fault (sym e)
  root_fault (last ∷ pivots) lines (TwoSum two) trees fault are fits keeps may e = some_is_none fault (sym e)
  root_fault (last ∷ pivots) lines (ThreeSum three) trees fault are fits keeps may e = some_is_none fault (sym e)
  root_fault (last ∷ pivots) lines Enumerated trees fault are fits keeps may e = some_is_none fault (sym e)
  root_fault (last ∷ pivots) lines Undecided trees fault are fits keeps may e = some_is_none fault (sym e)
  root_fault (last ∷ pivots) lines (Pivoted place) trees fault are fits keeps may e = some_is_none fault (sym e)

-- the trees of a matrix
module _ (m : Matrix) where
  due_here : (path : List ℕ) (pivots : List MadePivot) (due : Due) (tree : Tree) → AllByRecursion (KeepsAll m) (places_from path pivots due tree) → HasItsLines due (lines_at_root tree)
  due_here path pivots due (Branch lines finding trees) keeps = keeps.0 rule.Lines

  due_each : (path : List ℕ) (pivots : List MadePivot) (lines : LineSet) (finding : Finding) (k : ℕ) (trees : Trees)
      → AllByRecursion (KeepsAll m) (places_below path pivots lines finding k trees) → AreDue lines finding k trees
  unfolding AreDue
  due_each path pivots lines finding k NoTrees keeps = tt
  due_each path pivots lines finding k (MoreTrees tree trees) keeps = (
    due_here (path ++ k ∷ []) pivots (due_child lines finding k) tree (all_prefix (KeepsAll m) (places_from (path ++ k ∷ []) pivots (due_child lines finding k) tree) (places_below path pivots lines finding (suc k) trees) keeps),
    due_each path pivots lines finding (suc k) trees (all_back (KeepsAll m) (places_from (path ++ k ∷ []) pivots (due_child lines finding k) tree) (places_below path pivots lines finding (suc k) trees) keeps),
  )

  mutual
    pub free_tree : (path : List ℕ) (pivots : List MadePivot) (due : Due) (parent : LineSet) (levels : ℕ) (tree : Tree) → IsMatrix (matrix_after m pivots)
        → AreLines m parent → IsTreeWithin parent levels tree → AllByRecursion (KeepsAll m) (places_from path pivots due tree)
        → first_in fault_at tree ≡ None → first_in open_at tree ≡ None → IsFreeOn (matrix_after m pivots) (lines_at_root tree)
    free_tree path pivots due parent levels (Branch lines finding trees) is are fits keeps no_fault no_open =
        let here = lines_within m lines parent fits.1 are in
        let faults = none_or (fault_at lines finding) (first_among fault_at trees) no_fault in
        let opens = none_or (open_at lines finding) (first_among open_at trees) no_open in
        let below = pivots_below lines finding pivots in
        let own = λ (broken : Rule). demands m pivots path due lines finding trees keeps.0 broken in
        step m pivots is lines finding trees (lines_after m pivots lines here) fits.2 fits.3 own faults.0 opens.0 (due_each path below lines finding 0 trees keeps.1)
        (free_trees path below lines finding (levels - 1) 0 trees (goes_on m pivots is lines finding (lines_of_each trees) own) here fits.4 keeps.1 faults.1 opens.1)

    pub free_trees : (path : List ℕ) (pivots : List MadePivot) (lines : LineSet) (finding : Finding) (levels k : ℕ) (trees : Trees)
        → IsMatrix (matrix_after m pivots) → AreLines m lines → AreTreesWithin lines levels trees
        → AllByRecursion (KeepsAll m) (places_below path pivots lines finding k trees)
        → first_among fault_at trees ≡ None → first_among open_at trees ≡ None → AllByRecursion (IsFreeOn (matrix_after m pivots)) (lines_of_each trees)
    free_trees path pivots lines finding levels k NoTrees is are fits keeps no_fault no_open = tt
    free_trees path pivots lines finding levels k (MoreTrees tree trees) is are fits keeps no_fault no_open =
        let faults = none_or (first_in fault_at tree) (first_among fault_at trees) no_fault in
        let opens = none_or (first_in open_at tree) (first_among open_at trees) no_open in (
          free_tree (path ++ k ∷ []) pivots (due_child lines finding k) lines levels tree is are fits.0
              (all_prefix (KeepsAll m) (places_from (path ++ k ∷ []) pivots (due_child lines finding k) tree) (places_below path pivots lines finding (suc k) trees) keeps) faults.0 opens.0,
          free_trees path pivots lines finding levels (suc k) trees is are fits.1
              (all_back (KeepsAll m) (places_from (path ++ k ∷ []) pivots (due_child lines finding k) tree) (places_below path pivots lines finding (suc k) trees) keeps) faults.1 opens.1,
        )

  mutual
    -- the first fault that a tree names is a violator
    pub fault_tree : (path : List ℕ) (pivots : List MadePivot) (due : Due) (parent : LineSet) (levels : ℕ) (tree : Tree) (fault : LineSet) → AreLines m parent
        → IsTreeWithin parent levels tree → AllByRecursion (KeepsAll m) (places_from path pivots due tree)
        → first_in fault_at tree ≡ Some fault → AreLines m fault × IsViolator (entry m) fault.rows fault.columns
    fault_tree path pivots due parent levels (Branch lines finding trees) fault are fits keeps found =
        let here = lines_within m lines parent fits.1 are in
        elim (some_or (fault_at lines finding) (first_among fault_at trees) fault found) [
          | inl e ↦ root_fault m pivots lines finding trees fault here fits.2 (λ broken. demands m pivots path due lines finding trees keeps.0 broken) (keeps.0 rule.BelowPivot) e
          | inr e ↦ fault_trees path (pivots_below lines finding pivots) lines finding (levels - 1) 0 trees fault here fits.4 keeps.1 e
        ]

    pub fault_trees : (path : List ℕ) (pivots : List MadePivot) (lines : LineSet) (finding : Finding) (levels k : ℕ) (trees : Trees) (fault : LineSet)
        → AreLines m lines → AreTreesWithin lines levels trees → AllByRecursion (KeepsAll m) (places_below path pivots lines finding k trees)
        → first_among fault_at trees ≡ Some fault → AreLines m fault × IsViolator (entry m) fault.rows fault.columns
    fault_trees path pivots lines finding levels k NoTrees fault are fits keeps found = some_is_none fault (sym found)
    fault_trees path pivots lines finding levels k (MoreTrees tree trees) fault are fits keeps found =
        elim (some_or (first_in fault_at tree) (first_among fault_at trees) fault found) [
          | inl e ↦ fault_tree (path ++ k ∷ []) pivots (due_child lines finding k) lines levels tree fault are fits.0
              (all_prefix (KeepsAll m) (places_from (path ++ k ∷ []) pivots (due_child lines finding k) tree) (places_below path pivots lines finding (suc k) trees) keeps) e
          | inr e ↦ fault_trees path pivots lines finding levels (suc k) trees fault are fits.1
              (all_back (KeepsAll m) (places_from (path ++ k ∷ []) pivots (due_child lines finding k) tree) (places_below path pivots lines finding (suc k) trees) keeps) e
        ]

module _ (m : Matrix) (is : IsMatrix m) where
  -- all lines of the matrix
  whole : (rows columns : ℕ) (tree : Tree) → IsTreeFor rows columns tree → IsSoundTree m rows columns tree
      → AreLines m (lines_at_root tree) × ((lines_at_root tree).rows ≡ first_lines (height m)) × ((lines_at_root tree).columns ≡ first_lines m.width)
  whole rows columns (Branch lines finding trees) tree keeps =
      let sizes = keeps.0 rule.Size in
      let all = keeps.0 rule.Lines in (
        record {
          rows = record { increasing = tree.nodes.1.rows_increase; in_range = subst (λ n. (k : ℕ) → k < length lines.rows → get_or lines.rows k 0 < n) sizes.0 tree.root_rows };
          columns = record { increasing = tree.nodes.1.columns_increase; in_range = subst (λ n. (k : ℕ) → k < length lines.columns → get_or lines.columns k 0 < n) sizes.1 tree.root_columns };
        },
        all.0 ∙ ap first_lines sizes.0,
        all.1 ∙ ap first_lines sizes.1,
      )

  -- the verdict of a tree that keeps all rules is right
  pub verdict_means : (rows columns : ℕ) (tree : Tree) → IsTreeFor rows columns tree → IsSoundTree m rows columns tree → VerdictMeans m (verdict_of tree)
  verdict_means rows columns tree within keeps = go (first_in fault_at tree) (first_in open_at tree) refl refl
    where
      all : AreLines m (lines_at_root tree) × ((lines_at_root tree).rows ≡ first_lines (height m)) × ((lines_at_root tree).columns ≡ first_lines m.width)
      all = whole rows columns tree within keeps

      proved : HasNoViolator m → IsProved m
      proved none = record { unimodular = (camion m is.small).1 none; none = none }

      refuted : (fault : LineSet) → AreLines m fault × IsViolator (entry m) fault.rows fault.columns → IsRefuted m fault
      refuted fault (lines, v) = record {
        row_set = lines.rows;
        column_set = lines.columns;
        violator = v;
        unsigned = unsigned m fault.rows fault.columns lines.columns v;
        not_unimodular = λ unimodular. let s = unimodular fault.rows lines.rows in unsigned m fault.rows fault.columns lines.columns v s.0 s.1;
      }

      go : (f o : Option LineSet) → first_in fault_at tree ≡ f → first_in open_at tree ≡ o → VerdictMeans m (verdict_from f o)
      go (Some fault) o e h = (refuted fault (fault_tree m [] [] (AllLines rows columns) (lines_at_root tree) 2001 tree fault all.0 within.nodes keeps e))
      go None (Some lines) e h = tt
      go None None e h = (proved (none_from_free m (subst (λ xs. FreeIn (entry m) (Contains xs) (Contains (first_lines m.width))) all.1
          (subst (λ xs. FreeIn (entry m) (Contains (lines_at_root tree).rows) (Contains xs)) all.2
          (free_tree m [] [] (AllLines rows columns) (lines_at_root tree) 2001 tree is all.0 within.nodes keeps e h)))))
