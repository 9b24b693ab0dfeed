-- More pivots lose no answer, also if open parts are tried.
use Rattle.std.proofs.Common.{◌≡◌, ◌≤◌, ◌+◌, ◌-◌, ◌∙◌, ◌++◌, inl, inr, ℕ, zero, suc, false, List, [], ◌∷◌, Option, Some, None, refl, ap, sym, subst, arith}
use Rattle.std.specs.List.{AllByRecursion}
use Rattle.std.specs.Option.{option_or}
use Rattle.cmr_base.specs.declared.line_set.LineSet.{LineSet}
use Rattle.cmr_base.specs.Matrix.{Matrix, height, entry, IsMatrix}
use Rattle.cmr_base.specs.Violator.{IsViolator}
use Rattle.cmr_base.proofs.Booleans.{true_is_false}
use Rattle.cmr_base.proofs.Lists.{all_prefix, all_back}
use Rattle.cmr_base.proofs.Options.{some_or}
use Rattle.cmr_base.specs.declared.position.Position.{Position}
use Rattle.pivots.specs.declared.drawn.DrawnPlace.{DrawnPlace}
use Rattle.tree_type.specs.DecompositionTrees.{Finding, Undecided, Violator, Tree, Trees, Branch, NoTrees, MoreTrees, lines_at_root}
use Rattle.tree_type.specs.Invariant.{AreLines, AreLinesOf, size_of, IsTreeWithin, AreTreesWithin}
use Rattle.tree_type.specs.Places.{Due, These, Place, due_child, lines_of_each, places_from, places_below}
use Rattle.tree_type.specs.Soundness.{part}
use Rattle.tree_type.specs.Verdicts.{Verdict, Yes, No, Open, first_in, first_among, fault_at, open_at, verdict_from, verdict_of}
use Rattle.tree_type.proofs.PlacedLines.{lines_within}
use Rattle.tree_laws.specs.Laws.{VerdictMeans}
use Rattle.tree_laws.proofs.FreeSets.{IsFreeOn}
use Rattle.tree_laws.proofs.SoundTrees.{free_tree, none_or, verdict_means}
use Rattle.decomp_tree.specs.PlainTrees.{plain_finding, plain_tree, plain_trees}
use Rattle.decomp_tree.specs.Shapes.{IsShapedAt, IsShapeOn}
use Rattle.decomp_tree.specs.Refined.{is_undecided, Refines, AllRefine}
use Rattle.decomp_tree.specs.PivotedShapes.{IsDrawnWith, IsFound, IsFoundAt, IsMappedBack, all_lines, undecided}
use Rattle.decomp_tree.specs.PivotedLaws.{KeepsAnswer}
use Rattle.decomp_tree.proofs.FaultLines.{among_lines, lines_themselves}
use Rattle.decomp_tree.proofs.FoundSound.{drawn_with_sound}
use Rattle.decomp_tree.proofs.FoundTrees.{drawn_with_lines, drawn_with_within}
use Rattle.decomp_tree.proofs.MorePivots.{more_pivots_keep_answers}
use Rattle.decomp_tree.proofs.OnePivoted.{shape_same, undecided_same}
use Rattle.decomp_tree.proofs.PivotedRoots.{all_are_lines}
use Rattle.decomp_tree.proofs.PlainVerdicts.{verdict_plain}
use Rattle.decomp_tree.proofs.RefinedTrees.{RefinedNode, replaced, kept, refined_node, refined_kept}
use Rattle.decomp_tree.proofs.ShapeSound.{no_pivot}
use Rattle.decomp_tree.proofs.ShapeTrees.{shape_lines}
use Rattle.decomp_tree.proofs.ShapedNodes.{shape_within}
use Rattle.decomp_tree.proofs.YesTrees.{SaysYes, says_yes}
use Rattle.open_parts.specs.Laws.{MorePivotsKeepTriedAnswers}
use Rattle.open_parts.specs.Rests.{IsFoundInRests, turns_of}
use Rattle.open_parts.specs.TriedShapes.{IsTriedIf, IsTriedIfOpen, IsTriedLeaf, IsTriedWith, leaf_with}
use Rattle.open_parts.proofs.RestSearches.{found_violates}
use Rattle.open_parts.proofs.TriedRoots.{TriedView, drawn_tree, open_verdict, stays, tried, tried_shapes_are_sound, tried_shapes_are_trees, tried_view}
use Rattle.open_parts.proofs.TriedVerdicts.{closed_same, faultless_same, none_is_some, one_leaf}

-- ---- what pivots find: an undecided leaf, a leaf with a fault, or a tree that says yes

data FoundForm (lines : LineSet) (tree : Tree) : Type 0 where
  is_left : tree ≡ undecided lines → FoundForm lines tree
  is_fault : (fault : LineSet) → tree ≡ Branch lines (Violator fault) NoTrees → FoundForm lines tree
  is_yes : SaysYes tree → FoundForm lines tree

or_none : {A : Type 0} (a : Option A) → option_or a None ≡ a
or_none None = refl
or_none (Some x) = refl

mapped_form : (m : Matrix) (lines : LineSet) (place : Position) (after : Tree) (v : Verdict) → verdict_of after ≡ v → (tree : Tree) → IsMappedBack m lines place after v tree → FoundForm lines tree
mapped_form m lines place after Yes is tree e =
    let says = says_yes after is in
    is_yes (ap (first_in fault_at) e ∙ or_none (first_in fault_at after) ∙ says.0, ap (first_in open_at) e ∙ or_none (first_in open_at after) ∙ says.1)
mapped_form m lines place after (No fault) is tree (before, b, e) = is_fault before e
mapped_form m lines place after (Open left) is tree e = is_left e

found_at_form : (IsTree : ℕ → Matrix → Tree → Type 0) (m : Matrix) (lines : LineSet) (chosen : Option DrawnPlace) (tree : Tree) → IsFoundAt IsTree m lines chosen tree → FoundForm lines tree
found_at_form IsTree m lines None tree e = is_left e
found_at_form IsTree m lines (Some chosen) tree (inl (fault, shows, e)) = is_fault fault e
found_at_form IsTree m lines (Some chosen) tree (inr (ternary, after, is, mapped)) = mapped_form m lines chosen.place after (verdict_of after) refl tree mapped

found_form : (limit pivots state : ℕ) (m : Matrix) (lines : LineSet) (tree : Tree) → IsFound limit pivots state m lines tree → FoundForm lines tree
found_form limit zero state m lines tree e = is_left e
found_form limit (suc pivots) state m lines tree (chosen, choice, found) =
    found_at_form (λ next after t. (shape : Tree) × IsShapeOn limit after lines shape × Refines (IsFound limit pivots next after) shape t) m lines chosen tree found

-- ---- the undecided nodes of a decomposition without pivots

-- what replaces a node, and that only its lines would be left undecided
pub record ReplacesOpen (limit : ℕ) (m : Matrix) (Replaces : LineSet → Tree → Type 0) (lines : LineSet) (tree : Tree) : Type 0 where
  pub replaces : Replaces lines tree
  pub are : AreLines m lines
  pub leaf : IsShapeOn limit m lines (undecided lines)

module _ (limit : ℕ) (m : Matrix) (Replaces : LineSet → Tree → Type 0) where
  leaf_shape : (lines : LineSet) (finding : Finding) (place : Place) → place.lines ≡ lines → place.finding ≡ Undecided → IsShapedAt limit m place → IsShapeOn limit m lines (undecided lines)
  leaf_shape lines finding place same e shaped = subst (λ l. IsShapeOn limit m l (undecided l)) same (
    record {
      lines = (refl, refl);
      unpivoted = refl;
      case = shaped.case;
      first = shaped.first;
      found = shaped.found;
      parts = shaped.parts;
      says = shaped.says;
      finding = sym e ∙ shaped.finding;
      children = tt;
      count = refl;
    },
    tt,
  )

  mutual
    open_refined : (path : List ℕ) (due : Due) (parent : LineSet) (levels : ℕ) (shape tree : Tree) → AreLines m parent → IsTreeWithin parent levels shape
        → AllByRecursion (IsShapedAt limit m) (places_from path [] due shape)
        → Refines Replaces shape tree → Refines (ReplacesOpen limit m Replaces) shape tree
    open_refined path due parent levels (Branch lines finding trees) tree are within shaped r =
        go (refined_node Replaces lines finding trees tree r) (λ below all. open_each path lines finding (levels - 1) 0 trees below here within.4 below_shaped all)
      where
        here : AreLines m lines
        here = lines_within m lines parent within.1 are

        place : Place
        place = record { path = path; pivots = []; due = due; lines = lines; finding = finding; children = lines_of_each trees }

        below_shaped : AllByRecursion (IsShapedAt limit m) (places_below path [] lines finding 0 trees)
        below_shaped = subst (λ ps. AllByRecursion (IsShapedAt limit m) (places_below path ps lines finding 0 trees)) (no_pivot [] limit (part m lines) shaped.0.case shaped.0.found shaped.0.parts lines finding shaped.0.says shaped.0.finding) shaped.1

        go : RefinedNode Replaces lines finding trees tree
            → ((below : Trees) → AllRefine Replaces trees below → AllRefine (ReplacesOpen limit m Replaces) trees below)
            → Refines (ReplacesOpen limit m Replaces) (Branch lines finding trees) tree
        go (replaced e replaces) each =
            subst (λ f. Refines (ReplacesOpen limit m Replaces) (Branch lines f trees) tree) (sym e) (record { replaces = replaces; are = here; leaf = leaf_shape lines finding place refl e shaped.0 })
        go (kept e below is all) each = subst (Refines (ReplacesOpen limit m Replaces) (Branch lines finding trees)) (sym is) (refined_kept (ReplacesOpen limit m Replaces) lines finding trees below e (each below all))

    open_each : (path : List ℕ) (lines : LineSet) (finding : Finding) (levels k : ℕ) (trees below : Trees) → AreLines m lines
        → AreTreesWithin lines levels trees → AllByRecursion (IsShapedAt limit m) (places_below path [] lines finding k trees)
        → AllRefine Replaces trees below → AllRefine (ReplacesOpen limit m Replaces) trees below
    open_each path lines finding levels k NoTrees below are within shaped e = e
    open_each path lines finding levels k (MoreTrees tree trees) below are within shaped (first, rest, e, r, all) =
        let now = places_from (path ++ k ∷ []) [] (due_child lines finding k) tree in
        let later = places_below path [] lines finding (suc k) trees in (
          first,
          rest,
          e,
          open_refined (path ++ k ∷ []) (due_child lines finding k) lines levels tree first are within.0 (all_prefix (IsShapedAt limit m) now later shaped) r,
          open_each path lines finding levels (suc k) trees rest are within.1 (all_back (IsShapedAt limit m) now later shaped) all,
        )

-- ---- a tree that says yes has no violator

module _ (limit : ℕ) (few : limit ≤ 24) (m : Matrix) (is : IsMatrix m) (made : ℕ) (lines : LineSet) (tree : Tree) (open' : ReplacesOpen limit m (IsFound limit made 1 m) lines tree) where
  drawn_there : IsDrawnWith limit made 1 m lines tree
  drawn_there = record { shape = undecided lines; drawn = open'.leaf; refines = open'.replaces }

  free_there : SaysYes tree → IsFreeOn m lines
  free_there says =
      let same = drawn_with_lines limit made 1 m lines tree drawn_there in
      let within = drawn_with_within limit made 1 m lines tree lines (suc (size_of lines + made)) is drawn_there open'.are (lines_themselves m lines open'.are) (omega arith) in
      let keeps = drawn_with_sound limit few made 1 m lines tree is drawn_there open'.are [] (These lines) tt (ap (λ (some : LineSet). some.rows) same, ap (λ (some : LineSet). some.columns) same) in
      subst (IsFreeOn m) same (free_tree m [] [] (These lines) lines (suc (size_of lines + made)) tree is open'.are within keeps says.0 says.1)

  no_violator : SaysYes tree → (fault : LineSet) → AreLinesOf fault lines → IsViolator (entry m) fault.rows fault.columns → ⊥
  no_violator says fault among v =
      let in_lines = among_lines fault lines among in
      free_there says (record { R = fault.rows; C = fault.columns; rows = in_lines.rows; columns = in_lines.columns; violator = v })

-- ---- two decompositions of a matrix, each with its open parts tried

abbrev HasFault : Tree → Type 0
HasFault tree = (fault : LineSet) × (first_in fault_at tree ≡ Some fault)

or_later : (a b : Option LineSet) (x : LineSet) → b ≡ Some x → (y : LineSet) × (option_or a b ≡ Some y)
or_later None b x e = (x, e)
or_later (Some y) b x e = (y, refl)

or_first : (a b : Option LineSet) (x : LineSet) → a ≡ Some x → (y : LineSet) × (option_or a b ≡ Some y)
or_first None b x e = none_is_some x e
or_first (Some y) b x e = (y, refl)

module _ (limit : ℕ) (few : limit ≤ 24) (m : Matrix) (is : IsMatrix m) (made made' : ℕ) where
  abbrev Drawn : LineSet → Tree → Type 0
  Drawn = ReplacesOpen limit m (IsFound limit made 1 m)

  abbrev Drawn' : LineSet → Tree → Type 0
  Drawn' = ReplacesOpen limit m (IsFound limit made' 1 m)

  abbrev Tried : LineSet → Tree → Type 0
  Tried = IsTriedLeaf limit m

  -- a node at which a fault is found does not say yes with more pivots
  left_is_no_yes : (lines : LineSet) (other one : Tree) (found : Option LineSet) → Drawn' lines other → SaysYes other → IsFoundInRests limit m lines found
      → one ≡ leaf_with lines found → (fault : LineSet) → first_in fault_at one ≡ Some fault → ⊥
  left_is_no_yes lines other one None replaces says search e fault is_named = none_is_some fault (sym (ap (first_in fault_at) e) ∙ is_named)
  left_is_no_yes lines other one (Some found) replaces says search e fault is_named =
      let v = found_violates limit m is (turns_of lines) lines found replaces.are search in
      no_violator limit few m is made' lines other replaces says found v.among (v.violator few)

  module _ (lines : LineSet) (drawn drawn' tree other : Tree) (replaces : Drawn lines drawn) (replaces' : Drawn' lines drawn') (none : first_in fault_at drawn ≡ None) (r : Refines Tried drawn tree) (r' : Refines Tried drawn' other) (fault : LineSet) (names : first_in fault_at tree ≡ Some fault) where
    both_forms : FoundForm lines drawn → FoundForm lines drawn' → HasFault other
    both_forms (is_fault found e) form = none_is_some found (sym none ∙ ap (first_in fault_at) e)
    both_forms (is_yes says) form = none_is_some fault (sym says.0 ∙ sym (ap (first_in fault_at) (closed_same limit m drawn tree says.1 r)) ∙ names)
    both_forms (is_left e) (is_fault found e') =
        let t = subst (λ t. Refines Tried t other) e' r' in
        (found, ap (first_in fault_at) t.1)
    both_forms (is_left e) (is_left e') =
        let same = one_leaf limit m lines tree other (subst (λ t. Refines Tried t tree) e r) (subst (λ t. Refines Tried t other) e' r') in
        (fault, ap (first_in fault_at) (sym same) ∙ names)
    both_forms (is_left e) (is_yes says) =
        let t = subst (λ t. Refines Tried t tree) e r in
        absurd (left_is_no_yes lines drawn' tree t.0 replaces' says t.1 t.2 fault names)

    node_keeps : HasFault other
    node_keeps = both_forms (found_form limit made 1 m lines drawn replaces.replaces) (found_form limit made' 1 m lines drawn' replaces'.replaces)

  -- the children of a node that stays are tried
  kept_below : (lines : LineSet) (finding : Finding) (below : Trees) (tree : Tree) → is_undecided finding ≡ false
      → Refines Tried (Branch lines finding below) tree → (trees : Trees) × (tree ≡ Branch lines finding trees) × AllRefine Tried below trees
  kept_below lines finding below tree e r = go (refined_node Tried lines finding below tree r)
    where
      go : RefinedNode Tried lines finding below tree → (trees : Trees) × (tree ≡ Branch lines finding trees) × AllRefine Tried below trees
      go (replaced is' leaf) = true_is_false (sym (ap is_undecided is') ∙ e)
      go (kept is' trees at all) = (trees, at, all)

  -- below a node that stays in both, a fault is kept if it is kept among the children
  fault_below : (lines lines' : LineSet) (finding finding' : Finding) (below below' : Trees) (drawn drawn' tree other : Tree) → is_undecided finding ≡ false
      → is_undecided finding' ≡ false → drawn ≡ Branch lines finding below → drawn' ≡ Branch lines' finding' below'
      → first_in fault_at drawn ≡ None → Refines Tried drawn tree → Refines Tried drawn' other → (fault : LineSet) → first_in fault_at tree ≡ Some fault
      → ((trees others : Trees) → AllRefine Tried below trees → AllRefine Tried below' others → first_among fault_at below ≡ None → first_among fault_at trees ≡ Some fault → (named : LineSet) × (first_among fault_at others ≡ Some named))
      → HasFault other
  fault_below lines lines' finding finding' below below' drawn drawn' tree other e e' at at' none r r' fault names each =
      let t = kept_below lines finding below tree e (subst (λ d. Refines Tried d tree) at r) in
      let t' = kept_below lines' finding' below' other e' (subst (λ d. Refines Tried d other) at' r') in
      let faults = none_or (fault_at lines finding) (first_among fault_at below) (sym (ap (first_in fault_at) at) ∙ none) in
      let there : first_among fault_at t.0 ≡ Some fault = ap (λ (o : Option LineSet). option_or o (first_among fault_at t.0)) (sym faults.0) ∙ sym (ap (first_in fault_at) t.1) ∙ names in
      let found = each t.0 t'.0 t.2 t'.2 faults.1 there in
      let here = or_later (fault_at lines' finding') (first_among fault_at t'.0) found.0 found.1 in
      (here.0, ap (first_in fault_at) t'.1 ∙ here.1)

  mutual
    keeps_fault : (shape shape' drawn drawn' tree other : Tree) → plain_tree shape ≡ plain_tree shape' → Refines Drawn shape drawn
        → Refines Drawn' shape' drawn' → first_in fault_at drawn ≡ None → Refines Tried drawn tree → Refines Tried drawn' other
        → (fault : LineSet) → first_in fault_at tree ≡ Some fault → HasFault other
    keeps_fault (Branch lines finding trees) (Branch lines' finding' trees') drawn drawn' tree other e d d' none r r' fault names =
        go (refined_node Drawn lines finding trees drawn d) (refined_node Drawn' lines' finding' trees' drawn' d')
        (λ below below' all all' ts ts' a a' free there. let same : plain_trees trees ≡ plain_trees trees' = cc in keep_fault trees trees' below below' ts ts' same all all' free a a' fault there)
      where
        one_lines : lines ≡ lines'
        one_lines = cc

        one_finding : plain_finding finding ≡ plain_finding finding'
        one_finding = cc

        go : RefinedNode Drawn lines finding trees drawn → RefinedNode Drawn' lines' finding' trees' drawn'
            → ((below below' : Trees) → AllRefine Drawn trees below → AllRefine Drawn' trees' below' → (ts ts' : Trees) → AllRefine Tried below ts → AllRefine Tried below' ts' → first_among fault_at below ≡ None → first_among fault_at ts ≡ Some fault → (named : LineSet) × (first_among fault_at ts' ≡ Some named))
            → HasFault other
        go (replaced is replaces) (replaced is' replaces') each = node_keeps lines drawn drawn' tree other replaces (subst (λ l. Drawn' l drawn') (sym one_lines) replaces') none r r' fault names
        go (replaced is replaces) (kept is' below' at' all') each = true_is_false (sym (ap is_undecided is) ∙ undecided_same finding finding' one_finding ∙ is')
        go (kept is below at all) (replaced is' replaces') each = true_is_false (sym (ap is_undecided is') ∙ sym (undecided_same finding finding' one_finding) ∙ is)
        go (kept is below at all) (kept is' below' at' all') each =
            fault_below lines lines' finding finding' below below' drawn drawn' tree other is is' at at' none r r' fault names (λ ts ts' a a' free there. each below below' all all' ts ts' a a' free there)

    keep_fault : (shapes shapes' drawn drawn' trees others : Trees) → plain_trees shapes ≡ plain_trees shapes' → AllRefine Drawn shapes drawn
        → AllRefine Drawn' shapes' drawn' → first_among fault_at drawn ≡ None → AllRefine Tried drawn trees → AllRefine Tried drawn' others
        → (fault : LineSet) → first_among fault_at trees ≡ Some fault → (named : LineSet) × (first_among fault_at others ≡ Some named)
    keep_fault NoTrees shapes' drawn drawn' trees others e d d' none r r' fault names =
        none_is_some fault (sym (ap (first_among fault_at) (subst (λ t. AllRefine Tried t trees) d r)) ∙ names)
    keep_fault (MoreTrees shape shapes) NoTrees drawn drawn' trees others e d d' none r r' fault names = absurd (cc)
    keep_fault (MoreTrees shape shapes) (MoreTrees shape' shapes') drawn drawn' trees others e (first, rest, at, one, all) (first', rest', at', one', all') none r r' fault names =
        let head : plain_tree shape ≡ plain_tree shape' = cc in
        let tail : plain_trees shapes ≡ plain_trees shapes' = cc in
        let t = subst (λ t. AllRefine Tried t trees) at r in
        let t' = subst (λ t. AllRefine Tried t others) at' r' in
        let free = none_or (first_in fault_at first) (first_among fault_at rest) (sym (ap (first_among fault_at) at) ∙ none) in
        elim (some_or (first_in fault_at t.0) (first_among fault_at t.1) fault (sym (ap (first_among fault_at) t.2) ∙ names)) [
          | inl h ↦
              let found = keeps_fault shape shape' first first' t.0 t'.0 head one one' free.0 t.3 t'.3 fault h in
              let here = or_first (first_in fault_at t'.0) (first_among fault_at t'.1) found.0 found.1 in
              (here.0, ap (first_among fault_at) t'.2 ∙ here.1)
          | inr h ↦
              let found = keep_fault shapes shapes' rest rest' t.1 t'.1 tail all all' free.1 t.4 t'.4 fault h in
              let here = or_later (first_in fault_at t'.0) (first_among fault_at t'.1) found.0 found.1 in
              (here.0, ap (first_among fault_at) t'.2 ∙ here.1)
        ]

-- ---- whole matrices

-- the undecided nodes of the decomposition without pivots, with what replaces them
root_open : (limit made : ℕ) (m : Matrix) (is : IsMatrix m) (tree : Tree) (d : IsDrawnWith limit made 1 m (all_lines m) tree) → Refines (ReplacesOpen limit m (IsFound limit made 1 m)) d.shape tree
root_open limit made m is tree d =
    let all = all_lines m in
    let are = all_are_lines m is in
    open_refined limit m (IsFound limit made 1 m) [] (These all) all (suc (size_of (lines_at_root d.shape))) d.shape tree are
    (shape_within limit m is [] (These all) all (suc (size_of (lines_at_root d.shape))) d.shape d.drawn are (subst (λ some. AreLinesOf some all) (sym (shape_lines limit m all d.shape d.drawn)) (lines_themselves m all are)) (omega arith))
    d.drawn d.refines

no_from : (fault undecided : Option LineSet) (found : LineSet) → verdict_from fault undecided ≡ No found → fault ≡ Some found
no_from None None found e = cc
no_from None (Some left) found e = cc
no_from (Some fault) undecided found e = cc

module _ (limit pivots more : ℕ) (few : limit ≤ 24) (m : Matrix) (is : IsMatrix m) (tree other : Tree) (d : IsTriedWith limit pivots m tree) (d' : IsTriedWith limit more m other) where
  abbrev Answered : Verdict → Type 0
  Answered v = KeepsAnswer v tree other

  -- a decomposition with another verdict than open stays
  other_stays : (v : Verdict) → verdict_of d'.drawn ≡ v → ((left : LineSet) → ¬ (v ≡ Open left)) → other ≡ d'.drawn
  other_stays v e decided = go (tried_view limit m d'.drawn other more d'.tried)
    where
      go : TriedView limit m d'.drawn other → other ≡ d'.drawn
      go (stays same) = same
      go (tried left o r) = absurd (decided left (sym e ∙ o))

  named_there : (named : LineSet) → first_in fault_at other ≡ Some named → (some : LineSet) × (verdict_of other ≡ No some)
  named_there named e = (named, ap (λ (f : Option LineSet). verdict_from f (first_in open_at other)) e)

  -- the tree stays
  stays_answered : tree ≡ d.drawn → (v : Verdict) → verdict_of d.drawn ≡ v → KeepsAnswer v d.drawn d'.drawn → KeepsAnswer v tree other
  stays_answered same Yes e kept_answer =
      let yes = sym (verdict_plain d'.drawn ∙ ap verdict_of (sym kept_answer) ∙ sym (verdict_plain d.drawn) ∙ e) in
      ap plain_tree same ∙ kept_answer ∙ sym (ap plain_tree (other_stays Yes (sym yes) (λ left f. cc)))
  stays_answered same (No fault) e kept_answer = (kept_answer.0, ap verdict_of (other_stays (No kept_answer.0) kept_answer.1 (λ left f. cc)) ∙ kept_answer.1)
  stays_answered same (Open left) e kept_answer = tt

  -- a fault is found in the rests of an undecided node
  found_answered : (left fault : LineSet) → verdict_of d.drawn ≡ Open left → Refines (IsTriedLeaf limit m) d.drawn tree → verdict_of tree ≡ No fault
      → (w : Verdict) → verdict_of d'.drawn ≡ w → IsTriedIfOpen limit m d'.drawn w other → (some : LineSet) × (verdict_of other ≡ No some)
  found_answered left fault open' r says Yes e same =
      let yes = subst (VerdictMeans m) (ap verdict_of same ∙ e) (verdict_means m is (height m) m.width other (tried_shapes_are_trees limit more m other is d') (tried_shapes_are_sound limit more m other few is d')) in
      let refuted = subst (VerdictMeans m) says (verdict_means m is (height m) m.width tree (tried_shapes_are_trees limit pivots m tree is d) (tried_shapes_are_sound limit pivots m tree few is d)) in
      absurd (refuted.not_unimodular yes.unimodular)
  found_answered left fault open' r says (No named) e same = (named, ap verdict_of same ∙ e)
  found_answered left fault open' r says (Open left') e r' =
      let made = d.shape.made in
      let made' = d'.shape.made in
      let named = keeps_fault limit few m is made made' d.shape.drawn.shape d'.shape.drawn.shape d.drawn d'.drawn tree other (shape_same limit m (all_lines m) d.shape.drawn.shape d'.shape.drawn.shape d.shape.drawn.drawn d'.shape.drawn.drawn)
      (root_open limit made m is d.drawn d.shape.drawn) (root_open limit made' m is d'.drawn d'.shape.drawn) (open_verdict d.drawn left open').0 r r' fault (no_from (first_in fault_at tree) (first_in open_at tree) fault says) in
      named_there named.0 named.1

  -- the undecided nodes are tried
  tried_answered : (left : LineSet) → verdict_of d.drawn ≡ Open left → Refines (IsTriedLeaf limit m) d.drawn tree
      → IsTriedIfOpen limit m d'.drawn (verdict_of d'.drawn) other → (u : Verdict) → verdict_of tree ≡ u → KeepsAnswer u tree other
  tried_answered left open' r t' Yes e =
      let says = says_yes tree e in
      let same = faultless_same limit m (lines_at_root d.drawn) 2001 d.drawn tree (drawn_tree limit pivots m d.drawn tree is d.shape).nodes says.0 r in
      absurd (let f = sym open' ∙ ap verdict_of (sym same) ∙ e in cc)
  tried_answered left open' r t' (No fault) e = found_answered left fault open' r e (verdict_of d'.drawn) refl t'
  tried_answered left open' r t' (Open left') e = tt

  answered_if_open : (v : Verdict) → verdict_of d.drawn ≡ v → KeepsAnswer v d.drawn d'.drawn → IsTriedIfOpen limit m d.drawn v tree
      → IsTriedIfOpen limit m d'.drawn (verdict_of d'.drawn) other → KeepsAnswer (verdict_of tree) tree other
  answered_if_open Yes e law same t' = subst (λ v. KeepsAnswer v tree other) (sym (ap verdict_of same ∙ e)) (stays_answered same Yes e law)
  answered_if_open (No fault) e law same t' = subst (λ v. KeepsAnswer v tree other) (sym (ap verdict_of same ∙ e)) (stays_answered same (No fault) e law)
  answered_if_open (Open left) e law r t' = tried_answered left e r t' (verdict_of tree) refl

  answered_if : (p q : ℕ) → p ≤ q → KeepsAnswer (verdict_of d.drawn) d.drawn d'.drawn → IsTriedIf p limit m d.drawn tree → IsTriedIf q limit m d'.drawn other → KeepsAnswer (verdict_of tree) tree other
  answered_if zero q l law same t' = subst (λ v. KeepsAnswer v tree other) (sym (ap verdict_of same)) (stays_answered same (verdict_of d.drawn) refl law)
  answered_if (suc p) zero l law t t' = absurd (omega (arith, l))
  answered_if (suc p) (suc q) l law t t' = answered_if_open (verdict_of d.drawn) refl law t t'

pub more_pivots_keep_tried_answers : MorePivotsKeepTriedAnswers
more_pivots_keep_tried_answers limit pivots more m tree other few is l d d' =
    answered_if limit pivots more few m is tree other d d' pivots more l (more_pivots_keep_answers limit pivots more m d.drawn d'.drawn l d.shape d'.shape) d.tried d'.tried
