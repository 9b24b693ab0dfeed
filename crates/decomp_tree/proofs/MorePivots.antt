-- More pivots lose no answer: a yes stays with its tree, and a no stays a no.
use Rattle.std.proofs.Common.{◌≡◌, ◌≤◌, ◌∙◌, inl, inr, ℕ, zero, suc, Option, Some, None, refl, ap, ap₂, sym, subst, arith}
use Rattle.std.specs.Option.{option_or}
use Rattle.std.proofs.lemmas.Bool.{cases_lt}
use Rattle.cmr_base.specs.declared.line_set.LineSet.{LineSet}
use Rattle.cmr_base.specs.Matrix.{Matrix}
use Rattle.cmr_base.proofs.Booleans.{not_both, true_is_false}
use Rattle.cmr_base.proofs.Options.{some_or}
use Rattle.tree_laws.proofs.SoundTrees.{none_or}
use Rattle.pivots.specs.declared.drawn.DrawnPlace.{DrawnPlace}
use Rattle.cmr_base.specs.declared.position.Position.{Position}
use Rattle.cmr_base.specs.PlacedPivots.{pivoted_part}
use Rattle.tree_type.specs.DecompositionTrees.{Finding, Violator, Tree, Trees, Branch, NoTrees, MoreTrees}
use Rattle.tree_type.specs.Verdicts.{Yes, first_in, first_among, fault_at, open_at, verdict_from, verdict_of}
use Rattle.decomp_tree.specs.PlainTrees.{plain_finding, plain_tree, plain_trees}
use Rattle.decomp_tree.specs.Shapes.{IsShapeOn}
use Rattle.decomp_tree.specs.Refined.{is_undecided, Refines, AllRefine}
use Rattle.decomp_tree.specs.PivotedLaws.{KeepsAnswer, MorePivotsKeepAnswers}
use Rattle.decomp_tree.specs.PivotedShapes.{IsMappedBack, IsFoundAt, IsFound, IsDrawnWith, IsShapeWith, all_lines, is_shallow, undecided}
use Rattle.separating_places.proofs.ChosenPlaces.{one_choice}
use Rattle.decomp_tree.proofs.OnePivoted.{shape_same, mapped_same, undecided_same}
use Rattle.decomp_tree.proofs.PlainVerdicts.{fault_plain, verdict_plain}
use Rattle.decomp_tree.proofs.RefinedTrees.{RefinedNode, replaced, kept, refined_node}

-- where no fault and nothing open is in the one tree the other is the same, and where a fault is one is in the other
record Keeps (tree other : Tree) : Type 0 where
  yes : first_in fault_at tree ≡ None → first_in open_at tree ≡ None → plain_tree tree ≡ plain_tree other
  no : (fault : LineSet) → first_in fault_at tree ≡ Some fault → (named : LineSet) × (first_in fault_at other ≡ Some named)

record KeepEach (trees others : Trees) : Type 0 where
  yes : first_among fault_at trees ≡ None → first_among open_at trees ≡ None → plain_trees trees ≡ plain_trees others
  no : (fault : LineSet) → first_among fault_at trees ≡ Some fault → (named : LineSet) × (first_among fault_at others ≡ Some named)

none_is_some : {A B : Type 0} (x : A) → None ≡ Some x → B
none_is_some x e = absurd (cc)

or_later : {A : Type 0} (a b : Option A) (x : A) → b ≡ Some x → (y : A) × (option_or a b ≡ Some y)
or_later None b x e = (x, e)
or_later (Some y) b x e = (y, refl)

or_first : {A : Type 0} (a b : Option A) (x : A) → a ≡ Some x → option_or a b ≡ Some x
or_first None b x e = none_is_some x e
or_first (Some y) b x e = e

keeps_same : (tree other tree' other' : Tree) → tree ≡ tree' → other ≡ other' → Keeps tree' other' → Keeps tree other
keeps_same tree other tree' other' e f k = subst (λ t. Keeps t other) (sym e) (subst (Keeps tree') (sym f) k)

fault_same : (lines lines' : LineSet) (f g : Finding) → plain_finding f ≡ plain_finding g → lines ≡ lines' → (fault : LineSet) → fault_at lines f ≡ Some fault → fault_at lines' g ≡ Some fault
fault_same lines lines' f g e same fault is =
    fault_plain lines' g ∙ sym (ap (fault_at lines') e) ∙ sym (fault_plain lines' f) ∙ subst (λ l. fault_at l f ≡ Some fault) same is

node_keeps : (lines lines' : LineSet) (f g : Finding) (below below' : Trees) → lines ≡ lines' → plain_finding f ≡ plain_finding g → KeepEach below below'
    → Keeps (Branch lines f below) (Branch lines' g below')
node_keeps lines lines' f g below below' one_lines one_finding each = record {
  yes = λ e u.
      let faults = none_or (fault_at lines f) (first_among fault_at below) e in
      let lefts = none_or (open_at lines f) (first_among open_at below) u in
      ap (λ (l : LineSet). Branch l (plain_finding f) (plain_trees below)) one_lines ∙ ap₂ (λ (h : Finding) (ts : Trees). Branch lines' h ts) one_finding (each.yes faults.1 lefts.1);
  no = λ fault e. elim (some_or (fault_at lines f) (first_among fault_at below) fault e) [
    | inl h ↦ (fault, or_first (fault_at lines' g) (first_among fault_at below') fault (fault_same lines lines' f g one_finding one_lines fault h))
    | inr h ↦ or_later (fault_at lines' g) (first_among fault_at below') (each.no fault h).0 (each.no fault h).1
  ];
}

each_keep : (tree other : Tree) (trees others : Trees) → Keeps tree other → KeepEach trees others → KeepEach (MoreTrees tree trees) (MoreTrees other others)
each_keep tree other trees others k ks = record {
  yes = λ e u.
      let faults = none_or (first_in fault_at tree) (first_among fault_at trees) e in
      let lefts = none_or (first_in open_at tree) (first_among open_at trees) u in
      ap₂ (λ (t : Tree) (ts : Trees). MoreTrees t ts) (k.yes faults.0 lefts.0) (ks.yes faults.1 lefts.1);
  no = λ fault e. elim (some_or (first_in fault_at tree) (first_among fault_at trees) fault e) [
    | inl h ↦ ((k.no fault h).0, or_first (first_in fault_at other) (first_among fault_at others) (k.no fault h).0 (k.no fault h).1)
    | inr h ↦ or_later (first_in fault_at other) (first_among fault_at others) (ks.no fault h).0 (ks.no fault h).1
  ];
}

no_trees_keep : KeepEach NoTrees NoTrees
no_trees_keep = record { yes = λ e u. refl; no = λ fault e. none_is_some fault e }

-- ---- trees that others replace

module _ (Replaces More : LineSet → Tree → Type 0) (keeps : (lines : LineSet) (tree other : Tree) → Replaces lines tree → More lines other → Keeps tree other) where
  mutual
    refined_keeps : (shape shape' tree tree' : Tree) → plain_tree shape ≡ plain_tree shape' → Refines Replaces shape tree → Refines More shape' tree' → Keeps tree tree'
    refined_keeps (Branch lines finding trees) (Branch lines' finding' trees') tree tree' e r r' =
        go (refined_node Replaces lines finding trees tree r) (refined_node More lines' finding' trees' tree' r')
        (λ below below' all all'. let ts : plain_trees trees ≡ plain_trees trees' = cc in all_keep trees trees' below below' ts all all')
      where
        one_lines : lines ≡ lines'
        one_lines = cc

        one_finding : plain_finding finding ≡ plain_finding finding'
        one_finding = cc

        go : RefinedNode Replaces lines finding trees tree → RefinedNode More lines' finding' trees' tree'
            → ((below below' : Trees) → AllRefine Replaces trees below → AllRefine More trees' below' → KeepEach below below') → Keeps tree tree'
        go (replaced is replaces) (replaced is' replaces') each = keeps lines tree tree' replaces (subst (λ l. More l tree') (sym one_lines) replaces')
        go (replaced is replaces) (kept is' below' at all') each = true_is_false (sym (ap is_undecided is) ∙ undecided_same finding finding' one_finding ∙ is')
        go (kept is below at all) (replaced is' replaces') each = true_is_false (sym (ap is_undecided is') ∙ sym (undecided_same finding finding' one_finding) ∙ is)
        go (kept is below at all) (kept is' below' at' all') each =
            keeps_same tree tree' (Branch lines finding below) (Branch lines' finding' below') at at' (node_keeps lines lines' finding finding' below below' one_lines one_finding (each below below' all all'))

    all_keep : (trees trees' below below' : Trees) → plain_trees trees ≡ plain_trees trees' → AllRefine Replaces trees below → AllRefine More trees' below' → KeepEach below below'
    all_keep NoTrees NoTrees below below' e all all' = subst (λ ts. KeepEach ts below') (sym all) (subst (KeepEach NoTrees) (sym all') no_trees_keep)
    all_keep NoTrees (MoreTrees tree' trees') below below' e all all' = absurd (cc)
    all_keep (MoreTrees tree trees) NoTrees below below' e all all' = absurd (cc)
    all_keep (MoreTrees tree trees) (MoreTrees tree' trees') below below' e (first, rest, at, r, all) (first', rest', at', r', all') =
        let head : plain_tree tree ≡ plain_tree tree' = cc in
        let tail : plain_trees trees ≡ plain_trees trees' = cc in
        subst (λ ts. KeepEach ts below') (sym at) (subst (KeepEach (MoreTrees first rest)) (sym at')
        (each_keep first first' rest rest' (refined_keeps tree tree' first first' head r r') (all_keep trees trees' rest rest' tail all all')))

-- ---- a verdict mapped back through a pivot

undecided_keeps : (lines : LineSet) (tree other : Tree) → tree ≡ undecided lines → Keeps tree other
undecided_keeps lines tree other e = record {
  yes = λ f u. none_is_some lines (sym u ∙ ap (first_in open_at) e);
  no = λ fault f. none_is_some fault (sym (ap (first_in fault_at) e) ∙ f);
}

violators_keep : (lines : LineSet) (fault named : LineSet) (tree other : Tree) → tree ≡ Branch lines (Violator fault) NoTrees → other ≡ Branch lines (Violator named) NoTrees → Keeps tree other
violators_keep lines fault named tree other e f = record {
  yes = λ h u. none_is_some fault (sym h ∙ ap (first_in fault_at) e);
  no = λ some h. (named, ap (first_in fault_at) f);
}

same_keeps : (tree other : Tree) → plain_tree tree ≡ plain_tree other → (first_in fault_at tree ≡ None) → Keeps tree other
same_keeps tree other e none = record { yes = λ h u. e; no = λ fault h. none_is_some fault (sym none ∙ h) }

or_none : {A : Type 0} (a : Option A) → option_or a None ≡ a
or_none None = refl
or_none (Some x) = refl

mapped_keeps : (m : Matrix) (lines : LineSet) (place : Position) (after after' : Tree) → Keeps after after' → (fault left fault' left' : Option LineSet)
    → first_in fault_at after ≡ fault → first_in open_at after ≡ left → first_in fault_at after' ≡ fault' → first_in open_at after' ≡ left'
    → (tree tree' : Tree) → IsMappedBack m lines place after (verdict_from fault left) tree → IsMappedBack m lines place after' (verdict_from fault' left') tree' → Keeps tree tree'
mapped_keeps m lines place after after' k None None fault' left' e u e' u' tree tree' mapped mapped' =
    same_keeps tree tree' (mapped_same m lines place after after' (k.yes e u) Yes tree tree' mapped (subst (λ v. IsMappedBack m lines place after' v tree') yes mapped')) (ap (first_in fault_at) mapped ∙ or_none (first_in fault_at after) ∙ e)
  where
    yes : verdict_from fault' left' ≡ Yes
    yes = sym (ap₂ verdict_from e' u') ∙ verdict_plain after' ∙ ap verdict_of (sym (k.yes e u)) ∙ sym (verdict_plain after) ∙ ap₂ verdict_from e u
mapped_keeps m lines place after after' k None (Some left) fault' left' e u e' u' tree tree' mapped mapped' = undecided_keeps lines tree tree' mapped
mapped_keeps m lines place after after' k (Some fault) left None left' e u e' u' tree tree' mapped mapped' = none_is_some (k.no fault e).0 (sym e' ∙ (k.no fault e).1)
mapped_keeps m lines place after after' k (Some fault) left (Some named) left' e u e' u' tree tree' (before, b, is) (before', b', is') = violators_keep lines before before' tree tree' is is'

-- ---- what pivots find

module _ (limit : ℕ) where
  abbrev Keep : ℕ → ℕ → Type 0
  Keep pivots more = (state : ℕ) (m : Matrix) (lines : LineSet) (tree tree' : Tree) → IsFound limit pivots state m lines tree → IsFound limit more state m lines tree' → Keeps tree tree'

  drawn_keeps : (pivots more : ℕ) → Keep pivots more → (state : ℕ) (m : Matrix) (lines : LineSet) (tree tree' : Tree)
      → IsDrawnWith limit pivots state m lines tree → IsDrawnWith limit more state m lines tree' → Keeps tree tree'
  drawn_keeps pivots more keep state m lines tree tree' d d' =
      refined_keeps (IsFound limit pivots state m) (IsFound limit more state m) (λ some t t' f f'. keep state m some t t' f f') d.shape d'.shape tree tree'
      (shape_same limit m lines d.shape d'.shape d.drawn d'.drawn) d.refines d'.refines

  found_at_keeps : (pivots more : ℕ) → Keep pivots more → (m : Matrix) (lines : LineSet) (chosen : Option DrawnPlace) (tree tree' : Tree)
      → IsFoundAt (λ next after found. (shape : Tree) × IsShapeOn limit after lines shape × Refines (IsFound limit pivots next after) shape found) m lines chosen tree
      → IsFoundAt (λ next after found. (shape : Tree) × IsShapeOn limit after lines shape × Refines (IsFound limit more next after) shape found) m lines chosen tree' → Keeps tree tree'
  found_at_keeps pivots more keep m lines None tree tree' e e' = undecided_keeps lines tree tree' e
  found_at_keeps pivots more keep m lines (Some chosen) tree tree' (inl (fault, shows, e)) (inl (fault', shows', e')) = violators_keep lines fault fault' tree tree' e e'
  found_at_keeps pivots more keep m lines (Some chosen) tree tree' (inl (fault, shows, e)) (inr (ternary, after', is', mapped')) = absurd (shows.two (ternary shows.other_row shows.other_column shows.row_in shows.column_in))
  found_at_keeps pivots more keep m lines (Some chosen) tree tree' (inr (ternary, after, is, mapped)) (inl (fault', shows', e')) = absurd (shows'.two (ternary shows'.other_row shows'.other_column shows'.row_in shows'.column_in))
  found_at_keeps pivots more keep m lines (Some chosen) tree tree' (inr (ternary, after, (shape, is, refines), mapped)) (inr (ternary', after', (shape', is', refines'), mapped')) =
      mapped_keeps m lines chosen.place after after'
      (drawn_keeps pivots more keep chosen.state (pivoted_part m lines chosen.place) lines after after' (record { shape = shape; drawn = is; refines = refines }) (record { shape = shape'; drawn = is'; refines = refines' }))
      (first_in fault_at after) (first_in open_at after) (first_in fault_at after') (first_in open_at after') refl refl refl refl tree tree' mapped mapped'

  found_keeps : (pivots more : ℕ) → pivots ≤ more → Keep pivots more
  found_keeps zero more few state m lines tree tree' e f' = undecided_keeps lines tree tree' e
  found_keeps (suc pivots) zero few state m lines tree tree' f f' = absurd (omega (arith, few))
  found_keeps (suc pivots) (suc more) few state m lines tree tree' (chosen, choice, found) (chosen', choice', found') =
      let one = one_choice m lines state chosen' chosen choice' choice in
      found_at_keeps pivots more (found_keeps pivots more (omega (arith, few))) m lines chosen tree tree' found
      (subst (λ (some : Option DrawnPlace). IsFoundAt (λ next after found. (shape : Tree) × IsShapeOn limit after lines shape × Refines (IsFound limit more next after) shape found) m lines some tree') one found')

answer_kept : (tree other : Tree) → Keeps tree other → (fault left : Option LineSet) → first_in fault_at tree ≡ fault → first_in open_at tree ≡ left → KeepsAnswer (verdict_from fault left) tree other
answer_kept tree other k None None e u = k.yes e u
answer_kept tree other k None (Some left) e u = tt
answer_kept tree other k (Some fault) left e u = ((k.no fault e).0, ap (λ (f : Option LineSet). verdict_from f (first_in open_at other)) (k.no fault e).1)

-- if more pivots may be made, no fewer are made
no_fewer : (limit pivots more : ℕ) (m : Matrix) (tree other : Tree) → pivots ≤ more → (d : IsShapeWith limit pivots m tree) (d' : IsShapeWith limit more m other) → d.made ≤ d'.made
no_fewer limit pivots more m tree other few d d' = elim (cases_lt d'.made d.made) [
  | inl fewer ↦ elim d.shallow [
    | inl none ↦ absurd (omega (arith, fewer, none))
    | inr shallow ↦ absurd (not_both (is_shallow tree) shallow (d'.most d.made tree fewer (let low = d.few in omega (arith, low, few)) d.drawn))
  ]
  | inr enough ↦ enough
]

pub more_pivots_keep_answers : MorePivotsKeepAnswers
more_pivots_keep_answers limit pivots more m tree other few d d' =
    answer_kept tree other
    (drawn_keeps limit d.made d'.made (found_keeps limit d.made d'.made (no_fewer limit pivots more m tree other few d d')) 1 m (all_lines m) tree other d.drawn d'.drawn)
    (first_in fault_at tree) (first_in open_at tree) refl refl
