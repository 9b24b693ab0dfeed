-- Nodes without children that have no violator.
use Rattle.std.proofs.Common.{◌≡◌, ℕ, List, [], ◌∷◌, length, Contains, arith, ◌↔◌}
use Rattle.std.specs.List.{AllByRecursion}
use Rattle.cmr_base.specs.declared.line_set.LineSet.{LineSet}
use Rattle.cmr_base.specs.Matrix.{Matrix, entry, IsMatrix}
use Rattle.cmr_base.specs.Trees.{IsNetworkMatrix, IsConetworkMatrix}
use Rattle.ghouila.proofs.NetworkSignings.{network_matrices, conetwork_matrices}
use Rattle.cmr_base.specs.CyclePlaces.{HasNoCycleFault}
use Rattle.cmr_base.specs.Violator.{HasNoViolator}
use Rattle.cmr_base.specs.R10.{IsR10}
use Rattle.ghouila.proofs.SignsUnique.{no_violator_no_fault}
use Rattle.r10_leaf.proofs.FreeR10.{fault_free_r10_has_no_violator}
use Rattle.cmr_base.specs.Sums.{sum_over, IsTwoModFour}
use Rattle.cmr_base.proofs.Integers.{sums}
use Rattle.tree_type.specs.Invariant.{AreLines, size_of}
use Rattle.tree_type.proofs.PlacedLines.{part_is}
use Rattle.tree_type.specs.Soundness.{part}
use Rattle.tree_laws.proofs.FreeSets.{IsFreeOn, free_from_part}

none_left : (xs : List ℕ) → length xs ≡ 0 → (x : ℕ) → Contains xs x → ⊥
none_left xs e x (k, l, h) = omega (arith, e, l)

pub free_empty : (m : Matrix) (lines : LineSet) → size_of lines ≡ 0 → IsFreeOn m lines
free_empty m lines e v = go v.R v.C v.rows v.violator.two_mod_four
  where
    go : (R C : List ℕ) → AllByRecursion (Contains lines.rows) R → IsTwoModFour (sum_over R (λ i. sum_over C (λ j. entry m i j))) → ⊥
    go [] C h (k, two) = omega (arith, sums, two)
    go (r ∷ R) C h two = none_left lines.rows (omega (arith, e)) r h.0

pub free_network : (m : Matrix) (lines : LineSet) → IsMatrix m → AreLines m lines → IsNetworkMatrix (part m lines) → IsFreeOn m lines
free_network m lines is are net = free_from_part m lines (network_matrices (part m lines) (part_is m lines is are) net).1

pub free_conetwork : (m : Matrix) (lines : LineSet) → IsMatrix m → AreLines m lines → IsConetworkMatrix (part m lines) → IsFreeOn m lines
free_conetwork m lines is are net = free_from_part m lines (conetwork_matrices (part m lines) (part_is m lines is are) net).1

-- an R10 matrix has no violator if and only if it has no cycle fault
pub r10_same : (m : Matrix) → IsMatrix m → IsR10 m → HasNoViolator m ↔ HasNoCycleFault (entry m)
r10_same m is r10 = (no_violator_no_fault m is.rectangular is.small, fault_free_r10_has_no_violator m is.rectangular is.small r10)
