-- The finding of a node, in the code's form and as a plain value.
use Rattle.tree_type.specs.DecompositionTrees.{Finding, Empty, Cycle, Reduced, OneSum, Network, Conetwork, R10, TwoSum, ThreeSum, Enumerated, Violator, Undecided, Pivoted}
use Rattle.tree_type.specs.declared.finding.Finding.{Finding as Held}
use Rattle.tree_type.specs.declared.finding.Finding.TheVariants as held

abbrev pub finding_shown : Held → Finding
finding_shown held.Empty = Empty
finding_shown (held.Cycle fault) = Cycle fault
finding_shown (held.Reduced steps) = Reduced steps
finding_shown held.OneSum = OneSum
finding_shown (held.Network net) = Network net
finding_shown (held.Conetwork net) = Conetwork net
finding_shown held.R10 = R10
finding_shown (held.TwoSum two) = TwoSum two
finding_shown (held.ThreeSum three) = ThreeSum three
finding_shown held.Enumerated = Enumerated
finding_shown (held.Violator fault) = Violator fault
finding_shown held.Undecided = Undecided
finding_shown (held.Pivoted place) = Pivoted place
