-- Row sets tested in the order of their numbers.
use Rattle.std.proofs.Common.{◌≡◌, ◌<◌, ◌≤◌, ◌+◌, ◌^◌, ◌∙◌, ℕ, zero, suc, pos, List, ◌↔◌, inl, inr, ap, subst, sym, arith}
use Rattle.std.proofs.lemmas.Bool.{cases_lt}
use Rattle.cmr_base.specs.Matrix.{Matrix, height, entry, IsMatrix}
use Rattle.cmr_base.specs.LineSets.{set_number, set_numbered}
use Rattle.cmr_base.specs.Members.{IsIn}
use Rattle.cmr_base.proofs.Integers.{sums}
use Rattle.cmr_base.proofs.Members.{increasing_are_distinct, sum_over_members}
use Rattle.cmr_base.proofs.IncreasingLists.{IncreasesIn, column_set_increases}
use Rattle.cmr_base.proofs.SetNumbers.{number_of_numbered, numbered_same, row_set-numbered}
use Rattle.first_hit.specs.First.{NoneBetween}
use Rattle.balance.specs.BalanceFaults.{IsBalanced, IsBalanceFault, HasNoFaultColumns, IsLeastFaultByRows}
use Rattle.balance.specs.CandidateColumns.{AreKept, MakeFault, MakeFaultAt}
use Rattle.balance.specs.SearchedFaults.{HasNoFaultBelow}
use Rattle.balance.proofs.FaultSets.{none_more, none_at_all, least_found}
use Rattle.balance.proofs.KeptColumns.{kept_fault, kept_least, sum_number}

-- increasing lists with the same members are equal
same_set : (high : ℕ) (xs ys : List ℕ) → IncreasesIn 0 high xs → IncreasesIn 0 high ys → ((x : ℕ) → IsIn x xs ↔ IsIn x ys) → xs ≡ ys
same_set high xs ys r s same =
    let sum = sum_over_members xs ys (λ x. pos (2 ^ x)) (increasing_are_distinct 0 high xs r) (increasing_are_distinct 0 high ys s) (λ x. (same x).0) (λ x. (same x).1) in
    let number : set_number xs ≡ set_number ys = let a = sum_number xs in let b = sum_number ys in omega (arith, sums) in
    sym (numbered_same high xs r) ∙ ap (set_numbered high 0) number ∙ numbered_same high ys s

kept_same : (m : Matrix) (rows xs ys : List ℕ) → AreKept m rows xs → AreKept m rows ys → xs ≡ ys
kept_same m rows xs ys a b = same_set m.width xs ys (column_set_increases m xs a.column_set) (column_set_increases m ys b.column_set) (λ x. ((λ h. (b.members x).1 ((a.members x).0 h)), (λ h. (a.members x).1 ((b.members x).0 h))))

pub make_fault : (m : Matrix) (rows columns : List ℕ) → AreKept m rows columns → IsBalanceFault (entry m) rows columns → MakeFault m rows
make_fault m rows columns kept fault others k = subst (IsBalanceFault (entry m) rows) (kept_same m rows columns others kept k) fault

none_here : (m : Matrix) → IsMatrix m → (number : ℕ) → number < 2 ^ height m → ¬ (MakeFaultAt m number) → HasNoFaultBelow m number → HasNoFaultColumns m (set_numbered (height m) 0 number)
none_here m is number inside none before columns column_set f = none (λ others kept.
    kept_fault m is.small (set_numbered (height m) 0 number) columns (row_set-numbered m number) column_set f (subst (HasNoFaultBelow m) (sym (number_of_numbered (height m) number inside)) before) others kept)

-- if the kept columns of no smaller set make a fault, no smaller set has a fault
pub none_before : (m : Matrix) → IsMatrix m → (number : ℕ) → number ≤ 2 ^ height m → NoneBetween (MakeFaultAt m) 0 number → HasNoFaultBelow m number
none_before m is zero inside none = λ others row_set l. absurd (omega arith)
none_before m is (suc number) inside none =
    let next : number + 1 ≡ suc number = omega arith in
    let before : HasNoFaultBelow m number = none_before m is number (omega arith) (λ k low high. none k low (omega arith)) in
    subst (HasNoFaultBelow m) next (none_more m number (none_here m is number (omega arith) (none number (omega arith) (omega arith)) before) before)

pub balanced_after : (m : Matrix) → IsMatrix m → (total : ℕ) → total ≡ 2 ^ height m → NoneBetween (MakeFaultAt m) 0 total → IsBalanced m
balanced_after m is total all none = none_at_all m total (omega (arith, all)) (none_before m is total (omega (arith, all)) none)

pub one_more : (m : Matrix) (from number : ℕ) → ¬ (MakeFaultAt m number) → NoneBetween (MakeFaultAt m) from number → NoneBetween (MakeFaultAt m) from (number + 1)
one_more m from number none before k low high has = elim (cases_lt k number) [
  | inl less ↦ before k low less has
  | inr past ↦ let same : k ≡ number = omega arith in none (subst (MakeFaultAt m) same has)
]

-- the first set whose kept columns make a fault, with these columns
pub first_fault : (m : Matrix) → IsMatrix m → (number : ℕ) (rows columns : List ℕ) → number < 2 ^ height m → NoneBetween (MakeFaultAt m) 0 number
    → rows ≡ set_numbered (height m) 0 number → AreKept m rows columns → IsBalanceFault (entry m) rows columns
    → IsLeastFaultByRows m rows columns
first_fault m is number rows columns inside none same kept fault = subst (λ (rs : List ℕ). IsLeastFaultByRows m rs columns) (sym same)
    (least_found m number columns inside before (record {
      column_set = kept.column_set;
      fault = subst (λ (rs : List ℕ). IsBalanceFault (entry m) rs columns) same fault;
      least = λ others column_set f. kept_least m is.small (set_numbered (height m) 0 number) others (row_set-numbered m number) column_set f (subst (HasNoFaultBelow m) (sym (number_of_numbered (height m) number inside)) before) columns (subst (λ (rs : List ℕ). AreKept m rs columns) same kept);
    }))
  where
    before : HasNoFaultBelow m number
    before = none_before m is number (omega arith) none
