-- The verdict of a tree does not depend on what its networks say.
use Rattle.std.proofs.Common.{◌≡◌, Option, refl, ap₂}
use Rattle.std.specs.Option.{option_or}
use Rattle.cmr_base.specs.declared.line_set.LineSet.{LineSet}
use Rattle.tree_type.specs.DecompositionTrees.{Finding, Empty, Cycle, Reduced, OneSum, Network, Conetwork, R10, TwoSum, ThreeSum, Enumerated, Violator, Undecided, Pivoted, Tree, Trees, Branch, NoTrees, MoreTrees}
use Rattle.tree_type.specs.Verdicts.{first_in, first_among, fault_at, open_at, verdict_from, verdict_of}
use Rattle.decomp_tree.specs.PlainTrees.{plain_finding, plain_tree, plain_trees}

pub fault_plain : (lines : LineSet) (f : Finding) → fault_at lines f ≡ fault_at lines (plain_finding f)
fault_plain lines Empty = refl
fault_plain lines (Cycle f) = refl
fault_plain lines (Reduced steps) = refl
fault_plain lines OneSum = refl
fault_plain lines (Network n) = refl
fault_plain lines (Conetwork n) = refl
fault_plain lines R10 = refl
fault_plain lines (TwoSum two) = refl
fault_plain lines (ThreeSum three) = refl
fault_plain lines Enumerated = refl
fault_plain lines (Violator f) = refl
fault_plain lines Undecided = refl
fault_plain lines (Pivoted place) = refl

open_plain : (lines : LineSet) (f : Finding) → open_at lines f ≡ open_at lines (plain_finding f)
open_plain lines Empty = refl
open_plain lines (Cycle f) = refl
open_plain lines (Reduced steps) = refl
open_plain lines OneSum = refl
open_plain lines (Network n) = refl
open_plain lines (Conetwork n) = refl
open_plain lines R10 = refl
open_plain lines (TwoSum two) = refl
open_plain lines (ThreeSum three) = refl
open_plain lines Enumerated = refl
open_plain lines (Violator f) = refl
open_plain lines Undecided = refl
open_plain lines (Pivoted place) = refl

module _ (mapped : LineSet → Finding → Option LineSet) (same : (lines : LineSet) (f : Finding) → mapped lines f ≡ mapped lines (plain_finding f)) where
  mutual
    first_plain : (tree : Tree) → first_in mapped tree ≡ first_in mapped (plain_tree tree)
    first_plain (Branch lines finding trees) = ap₂ option_or (same lines finding) (first_of_plain trees)

    first_of_plain : (trees : Trees) → first_among mapped trees ≡ first_among mapped (plain_trees trees)
    first_of_plain NoTrees = refl
    first_of_plain (MoreTrees tree trees) = ap₂ option_or (first_plain tree) (first_of_plain trees)

pub verdict_plain : (tree : Tree) → verdict_of tree ≡ verdict_of (plain_tree tree)
verdict_plain tree = ap₂ verdict_from (first_plain fault_at fault_plain tree) (first_plain open_at open_plain tree)
