-- A node has no violator among its lines where none of its children has one, by what it says.
use Rattle.std.proofs.Common.{◌≡◌, ◌<◌, ◌≤◌, ℕ, true, false, List, [], ◌∷◌, length, map, refl, sym, subst, arith}
use Rattle.std.proofs.lemmas.Bool.{true≢false}
use Rattle.std.specs.List.{AllByRecursion}
use Rattle.cmr_base.specs.declared.line_set.LineSet.{LineSet}
use Rattle.cmr_base.specs.Matrix.{Matrix, entry, IsMatrix}
use Rattle.cmr_base.specs.CyclePlaces.{HasNoCycleFault}
use Rattle.cmr_base.proofs.Lists.{all_weaker}
use Rattle.r10_leaf.proofs.FreeR10.{fault_free_r10_has_no_violator}
use Rattle.tree_laws.proofs.FreeSets.{IsFreeOn, free_from_part}
use Rattle.tree_laws.proofs.Leaves.{free_empty, free_network, free_conetwork}
use Rattle.tree_laws.proofs.Sums.{free_two, free_three}
use Rattle.tree_laws.proofs.OneSums.{free_apart}
use Rattle.tree_laws.proofs.Reductions.{free_reduced}
use Rattle.tree_type.specs.DecompositionTrees.{Finding, Empty, Cycle, Reduced, OneSum, Network, Conetwork, R10, TwoSum, ThreeSum, Enumerated, Violator, Undecided}
use Rattle.tree_type.specs.Invariant.{AreLines, HasChildren}
use Rattle.tree_type.specs.Places.{These, lines_left}
use Rattle.tree_type.specs.Soundness.{part, AreApart, HasItsLines}
use Rattle.tree_type.proofs.PlacedLines.{part_is}
use Rattle.decomp_tree.specs.Shapes.{Case, HasNoLines, HasFault, IsReducible, IsApart, IsNetwork, IsConetwork, IsR10Matrix, IsTwoSum, IsThreeSum, IsShort, IsLeft, case_number, Applies, NodeSays, numbered_line, set_in, two_in, three_in, finding_in, HasParts}
use Rattle.decomp_tree.specs.Seen.{HasNoneAmong, is_unsearched, keeps_free, AreDue, IsSaid}
use Rattle.decomp_tree.proofs.Apart.{parts_apart}
use Rattle.decomp_tree.proofs.NoFaults.{none_from_free, free_from_none}
use Rattle.decomp_tree.proofs.Numbered.{height_in}
use Rattle.decomp_tree.proofs.ShapeRules.{reductions, short_two, reference_two, blocks_two, keeps_three}

-- a child has the lines that it is to have
free_due : (m : Matrix) (due child : LineSet) → HasItsLines (These due) child → IsFreeOn m child → IsFreeOn m due
free_due m due child has free = subst (λ columns. IsFreeOn m (record { rows = due.rows; columns = columns })) has.1 (subst (λ rows. IsFreeOn m (record { rows = rows; columns = child.columns })) has.0 free)

module _ (limit : ℕ) (few : limit ≤ 24) (m : Matrix) (is : IsMatrix m) (lines : LineSet) (are : AreLines m lines) where
  abbrev submatrix : Matrix
  submatrix = part m lines

  free_by : (case : Case) (found : Finding) (parts children : List LineSet) → Applies limit submatrix case → NodeSays case submatrix found parts
      → (is_unsearched (finding_in lines found) ≡ false → case_number HasFault < case_number case → HasNoCycleFault (entry submatrix))
      → HasParts (finding_in lines found) children (map (set_in lines) parts)
      → AreDue lines (finding_in lines found) 0 children → HasChildren (finding_in lines found) (length children) → keeps_free (finding_in lines found) ≡ true
      → AllByRecursion (IsFreeOn m) children → IsFreeOn m lines
  free_by HasNoLines Empty parts children applies says searched has due count keeps free = free_empty m lines (let a = applies.0 in let b = applies.1 in omega (arith, a, b, height_in m lines))
  free_by HasFault (Cycle fault) parts children applies says searched has due count keeps free = absurd (true≢false (sym keeps))
  free_by IsReducible (Reduced steps) parts [] applies says searched has due count keeps free = absurd (omega (arith, count))
  free_by IsReducible (Reduced steps) parts (child ∷ children) applies says searched has due count keeps free =
      free_reduced m is lines (map (numbered_line lines) steps) (reductions limit few m is lines are steps says applies).1 (free_due m (lines_left lines (map (numbered_line lines) steps)) child due.0 free.0)
  free_by IsApart OneSum parts children applies says searched has due count keeps free = free_apart m lines children (subst (AreApart (entry m) lines) (sym has) (parts_apart m lines are parts says.0 says.1)) free
  free_by IsNetwork (Network net) parts children applies says searched has due count keeps free = free_network m lines is are (net, says)
  free_by IsConetwork (Conetwork net) parts children applies says searched has due count keeps free = free_conetwork m lines is are (net, says)
  free_by IsR10Matrix R10 parts children applies says searched has due count keeps free =
      free_from_part m lines (fault_free_r10_has_no_violator submatrix (part_is m lines is are).rectangular (part_is m lines is are).small applies (searched refl (omega arith)))
  free_by IsTwoSum (TwoSum two) parts [] applies says searched has due count keeps free = absurd (omega (arith, count))
  free_by IsTwoSum (TwoSum two) parts (one ∷ []) applies says searched has due count keeps free = absurd (omega (arith, count))
  free_by IsTwoSum (TwoSum two) parts (one ∷ other ∷ children) applies says searched has due count keeps free =
      free_two m is lines (two_in lines two) (short_two limit few m is lines are two says) (reference_two limit few m is lines are two says) (blocks_two limit few m is lines are two says)
      (free_due m _ one due.0 free.0) (free_due m _ other due.1.0 free.1.0)
  free_by IsThreeSum (ThreeSum t) parts [] applies says searched has due count keeps free = absurd (omega (arith, count))
  free_by IsThreeSum (ThreeSum t) parts (one ∷ []) applies says searched has due count keeps free = absurd (omega (arith, count))
  free_by IsThreeSum (ThreeSum t) parts (one ∷ other ∷ children) applies says searched has due count keeps free =
      let rules = keeps_three limit few m is lines are t (searched refl (omega arith)) says in
      free_three m is lines (three_in lines t) rules.short rules.joined rules.corner rules.blocks (free_due m _ one due.0 free.0) (free_due m _ other due.1.0 free.1.0)
  free_by IsShort (Violator fault) parts children applies says searched has due count keeps free = absurd (true≢false (sym keeps))
  free_by IsShort Enumerated parts children applies says searched has due count keeps free = free_from_part m lines says
  free_by IsLeft Undecided parts children applies says searched has due count keeps free = absurd (true≢false (sym keeps))
  free_by case found parts children applies says searched has due count keeps free = absurd says

  pub none_by_children : (finding : Finding) (children : List LineSet) → IsSaid limit m lines finding children → keeps_free finding ≡ true
      → AllByRecursion (HasNoneAmong m) children → HasNoneAmong m lines
  none_by_children finding children said keeps none =
      none_from_free m lines
      (free_by said.case said.found said.parts children said.applies said.says
      (subst (λ f. is_unsearched f ≡ false → case_number HasFault < case_number said.case → HasNoCycleFault (entry submatrix)) said.finding_is said.searched)
      (subst (λ f. HasParts f children (map (set_in lines) said.parts)) said.finding_is said.parts_are)
      (subst (λ f. AreDue lines f 0 children) said.finding_is said.due) (subst (λ f. HasChildren f (length children)) said.finding_is said.count)
      (subst (λ f. keeps_free f ≡ true) said.finding_is keeps) (all_weaker (HasNoneAmong m) (IsFreeOn m) (free_from_none m) children none))
