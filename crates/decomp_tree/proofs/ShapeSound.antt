-- What the rules demand of a node of a decomposition.
use Rattle.std.proofs.Common.{◌≡◌, ◌≤◌, ℕ, zero, suc, List, map, refl, sym, subst}
use Rattle.cmr_base.specs.declared.line_set.LineSet.{LineSet}
use Rattle.cmr_base.specs.Matrix.{Matrix, IsMatrix}
use Rattle.tree_type.specs.declared.refusal.Rule.{Rule}
use Rattle.tree_type.specs.declared.refusal.Rule.TheVariants as rule
use Rattle.tree_type.specs.DecompositionTrees.{Finding, Empty, Cycle, Reduced, OneSum, Network, Conetwork, R10, TwoSum, ThreeSum, Enumerated, Violator, Undecided, Pivoted}
use Rattle.tree_type.specs.Invariant.{AreLines}
use Rattle.tree_type.specs.Places.{MadePivot, Place, matrix_after, pivots_below, due_child}
use Rattle.tree_type.specs.Soundness.{HasItsSizes, HasItsLines, Demands, MayStand, KeepsAll}
use Rattle.decomp_tree.specs.Shapes.{Case, HasNoLines, HasFault, IsReducible, IsApart, IsNetwork, IsConetwork, IsR10Matrix, IsTwoSum, IsThreeSum, IsShort, IsLeft, NodeSays, finding_in, IsShapedAt, HasParts, set_in}
use Rattle.decomp_tree.proofs.ShapeRules.{keeps}

-- a node that meets what each rule demands keeps all
pub keeps_all : (m : Matrix) (place : Place) → HasItsSizes m place.due → HasItsLines place.due place.lines
    → ((broken : Rule) → Demands broken (matrix_after m place.pivots) place.lines place.finding place.children) → MayStand place.pivots place.finding → KeepsAll m place
keeps_all m place sizes lines demands may rule.Size = sizes
keeps_all m place sizes lines demands may rule.Lines = lines
keeps_all m place sizes lines demands may rule.NotEmpty = demands rule.NotEmpty
keeps_all m place sizes lines demands may rule.NotViolator = demands rule.NotViolator
keeps_all m place sizes lines demands may rule.NotReducible = demands rule.NotReducible
keeps_all m place sizes lines demands may rule.NotApart = demands rule.NotApart
keeps_all m place sizes lines demands may rule.NotNetwork = demands rule.NotNetwork
keeps_all m place sizes lines demands may rule.NotR10 = demands rule.NotR10
keeps_all m place sizes lines demands may rule.CycleFault = demands rule.CycleFault
keeps_all m place sizes lines demands may rule.TooShort = demands rule.TooShort
keeps_all m place sizes lines demands may rule.BadConnector = demands rule.BadConnector
keeps_all m place sizes lines demands may rule.CornerSign = demands rule.CornerSign
keeps_all m place sizes lines demands may rule.BadBlock = demands rule.BadBlock
keeps_all m place sizes lines demands may rule.TooMany = demands rule.TooMany
keeps_all m place sizes lines demands may rule.NotClean = demands rule.NotClean
keeps_all m place sizes lines demands may rule.NotPivot = demands rule.NotPivot
keeps_all m place sizes lines demands may rule.BelowPivot = may

-- a child is no root
pub sizes_child : (m : Matrix) (lines : LineSet) (finding : Finding) (k : ℕ) → HasItsSizes m (due_child lines finding k)
sizes_child m lines (Reduced steps) k = tt
sizes_child m lines (TwoSum two) zero = tt
sizes_child m lines (TwoSum two) (suc k) = tt
sizes_child m lines (ThreeSum three) zero = tt
sizes_child m lines (ThreeSum three) (suc k) = tt
sizes_child m lines Empty k = tt
sizes_child m lines (Cycle fault) k = tt
sizes_child m lines OneSum k = tt
sizes_child m lines (Network net) k = tt
sizes_child m lines (Conetwork net) k = tt
sizes_child m lines R10 k = tt
sizes_child m lines Enumerated k = tt
sizes_child m lines (Violator fault) k = tt
sizes_child m lines Undecided k = tt
sizes_child m lines (Pivoted place) k = tt

module _ (limit : ℕ) (few : limit ≤ 24) (m : Matrix) (is : IsMatrix m) where
  -- what the rules demand of a node of a decomposition, that is, of a node below no pivot
  pub demanded : (place : Place) → AreLines m place.lines → IsShapedAt limit m place → (broken : Rule) → Demands broken m place.lines place.finding place.children
  demanded place are shaped broken = subst (λ f. Demands broken m place.lines f place.children) (sym shaped.finding)
      (keeps limit few m is place.lines are shaped.case shaped.found shaped.parts place.children shaped.first shaped.says
      (subst (λ f. HasParts f place.children (map (set_in place.lines) shaped.parts)) shaped.finding shaped.children) broken)

-- no node of a decomposition makes a pivot
pub no_pivot : (pivots : List MadePivot) (limit : ℕ) (n : Matrix) (case : Case) (found : Finding) (parts : List LineSet) (lines : LineSet) (finding : Finding)
    → NodeSays case n found parts → finding ≡ finding_in lines found → pivots_below lines finding pivots ≡ pivots
no_pivot pivots limit n case found parts lines finding says e = subst (λ f. pivots_below lines f pivots ≡ pivots) (sym e) (go case found says)
  where
    go : (case : Case) (found : Finding) → NodeSays case n found parts → pivots_below lines (finding_in lines found) pivots ≡ pivots
    go case Empty says = refl
    go case (Cycle fault) says = refl
    go case (Reduced steps) says = refl
    go case OneSum says = refl
    go case (Network net) says = refl
    go case (Conetwork net) says = refl
    go case R10 says = refl
    go case (TwoSum two) says = refl
    go case (ThreeSum three) says = refl
    go case Enumerated says = refl
    go case (Violator fault) says = refl
    go case Undecided says = refl
    go HasNoLines (Pivoted place) says = absurd says
    go HasFault (Pivoted place) says = absurd says
    go IsReducible (Pivoted place) says = absurd says
    go IsApart (Pivoted place) says = absurd says
    go IsNetwork (Pivoted place) says = absurd says
    go IsConetwork (Pivoted place) says = absurd says
    go IsR10Matrix (Pivoted place) says = absurd says
    go IsTwoSum (Pivoted place) says = absurd says
    go IsThreeSum (Pivoted place) says = absurd says
    go IsShort (Pivoted place) says = absurd says
    go IsLeft (Pivoted place) says = absurd says
