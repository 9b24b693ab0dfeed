-- A matrix has a decomposition.
use Rattle.std.proofs.Common.{◌≡◌, ◌<◌, inl, inr, ℕ, zero, suc, false, List, [], ◌∷◌, refl, arith}
use Rattle.std.specs.List.{AllByRecursion}
use Rattle.cmr_base.specs.declared.line_set.LineSet.{LineSet}
use Rattle.cmr_base.specs.CyclePlaces.{HasNoCycleFault}
use Rattle.cmr_base.specs.Matrix.{Matrix, height, entry, IsMatrix}
use Rattle.cmr_base.specs.Reductions.{removal}
use Rattle.tree_type.specs.DecompositionTrees.{Finding, Empty, Cycle, Tree, Branch, NoTrees, trees_from}
use Rattle.tree_type.specs.Invariant.{AreLines, size_of}
use Rattle.tree_type.specs.Soundness.{part}
use Rattle.decomp_tree.specs.Shapes.{Case, HasNoLines, HasFault, IsReducible, IsApart, IsNetwork, IsConetwork, IsR10Matrix, IsTwoSum, IsThreeSum, IsShort, IsLeft, case_number, Applies, IsFirstCase, set_in, IsShape, IsShapeOn}
use Rattle.decomp_tree.specs.Seen.{AreFewer, IsSaid}
use Rattle.decomp_tree.proofs.Children.{child_lines}
use Rattle.decomp_tree.proofs.Drawn.{AreDrawn, drawn}
use Rattle.decomp_tree.proofs.Said.{seen_conetwork, seen_enumerated, seen_network, seen_parts, seen_r10, seen_rest, seen_undecided, seen_violator}
use Rattle.decomp_tree.proofs.SaidSums.{said_two, said_three}
use Rattle.tree_type.proofs.PlacedLines.{part_is}
use Rattle.decomp_tree.specs.PivotedShapes.{all_lines}
use Rattle.decomp_tree.proofs.PivotedRoots.{all_are_lines}
use Rattle.decomp_tree.proofs.ShapeTrees.{shape_moved}
use Rattle.decomp_tree.proofs.ShapedNodes.{long, no_fault, none_before, reduced}
use Rattle.tree_type.specs.Places.{AllLines}
use Rattle.decompositions_exist.proofs.NotExcluded.{NotExcluded}
use Rattle.decompositions_exist.proofs.LeastKeys.{least_number}
use Rattle.decompositions_exist.proofs.FaultsExist.{first_fault}
use Rattle.decompositions_exist.proofs.SeparationsExist.{two_exists, three_exists}
use Rattle.decompositions_exist.proofs.ViolatorsExist.{least_or_none}

-- the case with this number applies
record AppliesAt (limit : ℕ) (n : Matrix) (number : ℕ) : Type 0 where
  case : Case
  number_is : case_number case ≡ number
  applies : Applies limit n case

pub first_case_exists : (limit : ℕ) (n : Matrix) → NotExcluded ((case : Case) × IsFirstCase limit n case)
first_case_exists limit n none = least_number (AppliesAt limit n) 11 (record { case = IsLeft; number_is = refl; applies = tt }) (λ found.
    let at = found.1.has in
    let number = at.number_is in
    none (at.case, record { applies = at.applies; first = λ earlier l applies. found.1.least (case_number earlier) (omega (arith, l, number)) (record { case = earlier; number_is = refl; applies = applies }) }))

module _ (limit : ℕ) (m : Matrix) (is : IsMatrix m) where
  HasShape : LineSet → Type 0
  HasShape lines = (tree : Tree) × IsShapeOn limit m lines tree

  module _ (lines : LineSet) (are : AreLines m lines) (below : (child : LineSet) → AreFewer lines child → NotExcluded (HasShape child)) where
    children_exist : (children : List LineSet) → AllByRecursion (AreFewer lines) children → NotExcluded ((trees : List Tree) × AreDrawn limit m children trees)
    unfolding HasShape
    children_exist [] fewer none = none ([], tt)
    children_exist (child ∷ children) fewer none = below child fewer.0 (λ tree. children_exist children fewer.1 (λ trees. none (tree.0 ∷ trees.0, (tree.1, trees.1))))

    from_said : (finding : Finding) (children : List LineSet) → IsSaid limit m lines finding children → HasNoCycleFault (entry (part m lines)) → NotExcluded (HasShape lines)
    unfolding HasShape
    from_said finding children said no_fault none = children_exist children said.fewer (λ trees.
        none (Branch lines finding (trees_from trees.0), drawn limit m lines finding children trees.0 said (λ l. no_fault) trees.1))

    by_case : (case : Case) → IsFirstCase limit (part m lines) case → NotExcluded (HasShape lines)
    unfolding HasShape
    by_case HasNoLines first none = none (
      Branch lines Empty NoTrees,
      (record { lines = (refl, refl); unpivoted = refl; case = HasNoLines; first = first; found = Empty; parts = []; says = tt; finding = refl; children = tt; count = refl }, tt),
    )
    by_case HasFault first none =
        let a = first.applies in
        first_fault (part m lines) (part_is m lines is are) a.0 a.1 a.2 a.3 a.4 (λ fault. none (
          Branch lines (Cycle (set_in lines fault.0)) NoTrees,
          (record { lines = (refl, refl); unpivoted = refl; case = HasFault; first = first; found = Cycle fault.0; parts = []; says = fault.1; finding = refl; children = tt; count = refl }, tt),
        ))
    by_case IsReducible first none =
        let removed = removal false (part m lines) in
        let rest : LineSet = record { rows = removed.rows; columns = removed.columns } in
        let said = seen_rest limit m is lines are removed.steps rest (none_before limit m is lines are IsReducible first) (reduced limit m is lines are first) refl refl refl in
        from_said _ _ said (no_fault limit m is lines are IsReducible first (omega arith)) none
    by_case IsApart first none =
        let parts = first.applies in
        from_said _ _ (seen_parts limit m is lines are parts.0 (none_before limit m is lines are IsApart first) parts.1 parts.2) (no_fault limit m is lines are IsApart first (omega arith)) none
    by_case IsNetwork first none = from_said _ _ (seen_network limit m is lines are first.applies.0 (none_before limit m is lines are IsNetwork first) first.applies.1) (no_fault limit m is lines are IsNetwork first (omega arith)) none
    by_case IsConetwork first none = from_said _ _ (seen_conetwork limit m is lines are first.applies.0 (none_before limit m is lines are IsConetwork first) first.applies.1) (no_fault limit m is lines are IsConetwork first (omega arith)) none
    by_case IsR10Matrix first none =
        let clean = no_fault limit m is lines are IsR10Matrix first (omega arith) in
        from_said _ _ (seen_r10 limit m is lines are (none_before limit m is lines are IsR10Matrix first) clean first.applies) clean none
    by_case IsTwoSum first none =
        let a = first.applies in
        two_exists (part m lines) a.0 a.1 a.2 a.3 (λ two. from_said _ _ (said_two limit m is lines are two.0 two.1 (none_before limit m is lines are IsTwoSum first)) (no_fault limit m is lines are IsTwoSum first (omega arith)) none)
    by_case IsThreeSum first none =
        let a = first.applies in
        let clean = no_fault limit m is lines are IsThreeSum first (omega arith) in
        three_exists (part m lines) a.0 a.1 a.2 a.3 a.4 (λ three. from_said _ _ (said_three limit m is lines are three.0 three.1 (none_before limit m is lines are IsThreeSum first) clean) clean none)
    by_case IsShort first none =
        let clean = no_fault limit m is lines are IsShort first (omega arith) in
        least_or_none (part m lines) (λ either. elim either [
          | inl fault ↦ from_said _ _ (seen_violator limit m is lines are fault.0 (none_before limit m is lines are IsShort first) clean first.applies fault.1) clean none
          | inr free ↦ from_said _ _ (seen_enumerated limit m is lines are (none_before limit m is lines are IsShort first) clean first.applies free) clean none
        ])
    by_case IsLeft first none =
        let clean = no_fault limit m is lines are IsLeft first (omega arith) in
        from_said _ _ (seen_undecided limit m is lines are (λ earlier l other. first.first earlier (omega (arith, l))) clean (long limit m is lines are first)) clean none

    shape_here : NotExcluded (HasShape lines)
    shape_here none = first_case_exists limit (part m lines) (λ case. by_case case.0 case.1 none)

  shape_by_size : (bound : ℕ) (lines : LineSet) → AreLines m lines → size_of lines < bound → NotExcluded (HasShape lines)
  shape_by_size zero lines are l = absurd (omega (arith, l))
  shape_by_size (suc bound) lines are l = shape_here lines are (λ child fewer. let n = fewer.fewer in shape_by_size bound child (child_lines m lines child are fewer) (omega (arith, l, n)))

  -- the submatrix on some lines has a decomposition
  pub shape_exists : (lines : LineSet) → AreLines m lines → NotExcluded ((tree : Tree) × IsShapeOn limit m lines tree)
  unfolding HasShape
  shape_exists lines are = shape_by_size (suc (size_of lines)) lines are (omega arith)

  -- the matrix has a decomposition
  pub whole_shape_exists : NotExcluded ((tree : Tree) × IsShape limit m tree)
  whole_shape_exists none = shape_exists (all_lines m) (all_are_lines m is) (λ tree. none (tree.0, shape_moved limit m [] (AllLines (height m) m.width) (all_lines m) tree.0 (refl, refl) tree.1))
