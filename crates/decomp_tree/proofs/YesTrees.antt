-- Trees that say yes, the only trees that are allowed below pivots.
use Rattle.std.proofs.Common.{◌≡◌, ◌⊎◌, inl, inr, List, [], ◌∷◌, Option, Some, None, refl, sym, subst}
use Rattle.cmr_base.specs.declared.line_set.LineSet.{LineSet}
use Rattle.tree_type.specs.DecompositionTrees.{Finding, Empty, Cycle, Reduced, OneSum, Network, Conetwork, R10, TwoSum, ThreeSum, Enumerated, Violator, Undecided, Pivoted, Tree, Trees, Branch, MoreTrees}
use Rattle.tree_type.specs.Places.{MadePivot}
use Rattle.tree_type.specs.Soundness.{MayStand}
use Rattle.tree_laws.proofs.SoundTrees.{none_or}
use Rattle.tree_type.specs.Verdicts.{Yes, first_in, first_among, fault_at, open_at, verdict_from, verdict_of}

-- no node of the tree names a fault, and none is undecided
abbrev pub SaysYes : Tree → Type 0
SaysYes tree = (first_in fault_at tree ≡ None) × (first_in open_at tree ≡ None)

abbrev pub AllSayYes : Trees → Type 0
AllSayYes trees = (first_among fault_at trees ≡ None) × (first_among open_at trees ≡ None)

says_yes_from : (fault left : Option LineSet) → verdict_from fault left ≡ Yes → (fault ≡ None) × (left ≡ None)
says_yes_from None None e = (refl, refl)
says_yes_from None (Some left) e = cc
says_yes_from (Some fault) left e = cc

pub says_yes : (tree : Tree) → verdict_of tree ≡ Yes → SaysYes tree
says_yes tree e = says_yes_from (first_in fault_at tree) (first_in open_at tree) e

-- a tree that says yes is allowed below these pivots
abbrev pub MayBelow : List MadePivot → Tree → Type 0
MayBelow pivots tree = (pivots ≡ []) ⊎ SaysYes tree

yes_here : (pivots : List MadePivot) (lines : LineSet) (finding : Finding) → fault_at lines finding ≡ None → open_at lines finding ≡ None → MayStand pivots finding
yes_here [] lines finding e f = tt
yes_here (last ∷ pivots) lines Empty e f = tt
yes_here (last ∷ pivots) lines (Cycle fault) e f = absurd (cc)
yes_here (last ∷ pivots) lines (Reduced steps) e f = tt
yes_here (last ∷ pivots) lines OneSum e f = tt
yes_here (last ∷ pivots) lines (Network net) e f = tt
yes_here (last ∷ pivots) lines (Conetwork net) e f = tt
yes_here (last ∷ pivots) lines R10 e f = tt
yes_here (last ∷ pivots) lines (TwoSum two) e f = tt
yes_here (last ∷ pivots) lines (ThreeSum three) e f = tt
yes_here (last ∷ pivots) lines Enumerated e f = tt
yes_here (last ∷ pivots) lines (Violator fault) e f = absurd (cc)
yes_here (last ∷ pivots) lines Undecided e f = absurd (cc)
yes_here (last ∷ pivots) lines (Pivoted place) e f = tt

pub may_stand : (pivots : List MadePivot) (lines : LineSet) (finding : Finding) (trees : Trees) → MayBelow pivots (Branch lines finding trees) → MayStand pivots finding
may_stand pivots lines finding trees (inl e) = subst (λ ps. MayStand ps finding) (sym e) tt
may_stand pivots lines finding trees (inr says) =
    yes_here pivots lines finding (none_or (fault_at lines finding) (first_among fault_at trees) says.0).0 (none_or (open_at lines finding) (first_among open_at trees) says.1).0

abbrev pub AllMayBelow : List MadePivot → Trees → Type 0
AllMayBelow pivots trees = (pivots ≡ []) ⊎ AllSayYes trees

pub may_children : (pivots : List MadePivot) (lines : LineSet) (finding : Finding) (trees : Trees) → MayBelow pivots (Branch lines finding trees) → AllMayBelow pivots trees
may_children pivots lines finding trees (inl e) = inl e
may_children pivots lines finding trees (inr says) = inr (
  (none_or (fault_at lines finding) (first_among fault_at trees) says.0).1,
  (none_or (open_at lines finding) (first_among open_at trees) says.1).1,
)

pub may_first : (pivots : List MadePivot) (tree : Tree) (trees : Trees) → AllMayBelow pivots (MoreTrees tree trees) → MayBelow pivots tree × AllMayBelow pivots trees
may_first pivots tree trees (inl e) = (inl e, inl e)
may_first pivots tree trees (inr says) =
    let faults = none_or (first_in fault_at tree) (first_among fault_at trees) says.0 in
    let lefts = none_or (first_in open_at tree) (first_among open_at trees) says.1 in
    (inr (faults.0, lefts.0), inr (faults.1, lefts.1))
