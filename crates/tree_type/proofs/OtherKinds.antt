-- The finding of a node, by the kind of the node.
use Rattle.std.proofs.Common.{◌≡◌, ◌≢◌, ◌∙◌, None, ap, refl, subst, sym}
use Rattle.cmr_base.specs.declared.line_set.LineSet.{LineSet}
use Rattle.tree_type.specs.declared.tree.Node.{Node}
use Rattle.tree_type.specs.declared.tree.NodeList.{NodeList}
use Rattle.tree_type.specs.declared.tree.Kind.{Kind}
use Rattle.tree_type.specs.declared.tree.Kind.TheViews.{out-Kind, roll-Kind, roll-out-Kind}
use Rattle.tree_type.specs.declared.tree.Kind.TheFolds.{fold-roll-Kind}
use Rattle.tree_type.specs.declared.tree.Kind.TheOpen as open'
use Rattle.tree_type.specs.declared.tree.Kind.TheVariants as kind
use Rattle.tree_type.specs.DecompositionTrees.{Finding, Empty, Cycle, Reduced, OneSum, Network, Conetwork, R10, TwoSum, ThreeSum, Enumerated, Violator, Undecided, Pivoted, Tree, Trees, finding_of, tree_of, kind_step, node_step, list_step}
use Rattle.tree_type.specs.Verdicts.{fault_at, open_at}
use Rattle.tree_type.proofs.NodeTrees.{said, tree_is}

-- a kind, as a value by whose cases a proof goes
abbrev pub KindCase : Type 0
KindCase = open'.Kind-F Kind Node NodeList

abbrev pub finding_in : KindCase → Finding
finding_in open'.Empty = Empty
finding_in (open'.Cycle fault) = Cycle fault
finding_in (open'.Reduced steps child) = Reduced steps
finding_in (open'.OneSum children) = OneSum
finding_in (open'.Network net) = Network net
finding_in (open'.Conetwork net) = Conetwork net
finding_in open'.R10 = R10
finding_in (open'.TwoSum two one_child two_child) = TwoSum two
finding_in (open'.ThreeSum three one_child two_child) = ThreeSum three
finding_in open'.Enumerated = Enumerated
finding_in (open'.Violator fault) = Violator fault
finding_in open'.Undecided = Undecided
finding_in (open'.Pivoted place child) = Pivoted place

said_in : (case : KindCase) → (said (roll-Kind case)).0 ≡ finding_in case
said_in open'.Empty = ap (λ (s : Finding × Trees). s.0) (fold-roll-Kind (Finding × Trees) Tree Trees kind_step node_step list_step open'.Empty)
said_in case = ap (λ (s : Finding × Trees). s.0) (fold-roll-Kind (Finding × Trees) Tree Trees kind_step node_step list_step case)

-- what holds of the finding in each case that the kind of a node can be, holds of the finding of the node
pub by_kind : (node : Node) (P : Finding → Type 0) → ((case : KindCase) → roll-Kind case ≡ node.kind → P (finding_in case)) → P (finding_of (tree_of node))
by_kind node P each =
    let case = out-Kind node.kind in
    let rolls = roll-out-Kind node.kind in
    subst P (sym (ap finding_of (tree_is node) ∙ ap (λ (k : Kind). (said k).0) (sym rolls) ∙ said_in case)) (each case rolls)

pub names_no_fault : (node : Node) (lines : LineSet) → ((fault : LineSet) → node.kind ≢ kind.Cycle fault)
    → ((fault : LineSet) → node.kind ≢ kind.Violator fault) → fault_at lines (finding_of (tree_of node)) ≡ None
names_no_fault node lines no_cycle no_violator = by_kind node (λ finding. fault_at lines finding ≡ None) each
  where
    each : (case : KindCase) → roll-Kind case ≡ node.kind → fault_at lines (finding_in case) ≡ None
    each (open'.Cycle fault) rolls = absurd (no_cycle fault (sym rolls ∙ kind.rolls-Cycle fault))
    each (open'.Violator fault) rolls = absurd (no_violator fault (sym rolls ∙ kind.rolls-Violator fault))
    each case rolls = refl

pub leaves_none_open : (node : Node) (lines : LineSet) → node.kind ≢ kind.Undecided → open_at lines (finding_of (tree_of node)) ≡ None
leaves_none_open node lines decided = by_kind node (λ finding. open_at lines finding ≡ None) each
  where
    each : (case : KindCase) → roll-Kind case ≡ node.kind → open_at lines (finding_in case) ≡ None
    each open'.Undecided rolls = absurd (decided (sym rolls ∙ kind.rolls-Undecided))
    each case rolls = refl
