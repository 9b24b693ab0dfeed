-- The common columns of a part and their consequences for the part.
use Rattle.std.proofs.Common.{◌≡◌, ◌<◌, ◌≤◌, ◌+◌, ◌*◌, ◌↔◌, ◌∙◌, ◌++◌, ◌==◌, ◌&&◌, get_or, ℕ, Bool, true, false, not, cond, count_by, List, [], ◌∷◌, length, sym, ap, refl, arith, subst, length-append, MatchOption, Option, Some, None}
use Rattle.std.proofs.lemmas.List.{get_or_append_left, get_or_at}
use Rattle.std.proofs.lemmas.List.Sums.{length-filter}
use Rattle.std.specs.Prelude.{slice_index_or}
use Rattle.cmr_base.specs.BitSets.{Bits, IsNextOf}
use Rattle.cmr_base.specs.LineSets.{first_lines}
use Rattle.cmr_base.specs.Seeds.{count}
use Rattle.cmr_base.specs.Splits.{IsCommon, IsUncutBy}
use Rattle.cmr_base.proofs.LineCounts.{count-filter}
use Rattle.cmr_base.proofs.Booleans.{and_is, is_and}
use Rattle.cmr_base.proofs.Members.{in_at}
use Rattle.cmr_base.proofs.Places.{each_more, found_at}
use Rattle.cmr_base.proofs.RowLists.{not_both}
use Rattle.cmr_base.specs.ColumnSets.{has_column, Denies}
use Rattle.bridge_split.specs.Cutting.{AreCommonColumns, AreUncutIn}
use Rattle.bridge_split.proofs.CutTables.{by_uncut, uncut_by}
use Rattle.graph_realise.specs.Branches.{AreBranches, IsBranch, branch_at}
use Rattle.graph_realise.specs.Joints.{AreColumnsOf}
use Rattle.graph_realise.specs.Merging.{IsWeight}
use Rattle.graph_realise.specs.declared.branches.Branch.{Branch}

-- the columns that row i has in common with a part
module _ (M : ℕ → ℕ → Bool) (i : ℕ) (P : List ℕ) where
  pub common_of_rows : (met common : ℕ → Bool) → AreColumnsOf M P (length P) met → ((column : ℕ) → common column ≡ (met column && M i column)) → AreCommonColumns M i P common
  common_of_rows met common are is column = (
    (λ e. let both = and_is (met column) (M i column) (sym (is column) ∙ e) in let (p, l, on) = are.into column both.0 in (both.1, (get_or P p 0, in_at P p l, on))),
    (λ (own, (k, inside, on)). is column ∙ is_and (met column) (M i column) (at k on (found_at P k inside)) own),
  )
    where
      at : (k : ℕ) → M k column ≡ true → (p : ℕ) × (p < length P) × (get_or P p 0 ≡ k) → met column ≡ true
      at k on (p, l, e) = are.from p column l (ap (λ (z : ℕ). M z column) e ∙ on)

  uncut : (columns : ℕ → Bool) (cut : Bool) → AreCommonColumns M i P columns → Denies cut (AreUncutIn M columns P) → (not cut ≡ true) ↔ IsUncutBy M i P P
  uncut columns true exact d = ((λ e. cc), (λ u. absurd (d (by_uncut M i P P columns exact u))))
  uncut columns false exact d = ((λ e. uncut_by M i P P columns exact d), (λ u. refl))

  pub weight_by_count : (n : ℕ) (columns : ℕ → Bool) (cut : Bool) (weight : ℕ) → AreCommonColumns M i P columns → Denies cut (AreUncutIn M columns P)
      → weight ≡ 2 * count columns n + cond (not cut) 1 0 → IsWeight M n i P weight
  weight_by_count n columns cut weight exact d w = record {
    common = columns;
    exact = λ column l. exact column;
    whole = not cut;
    uncut = uncut columns cut exact d;
    value = let e : count columns n ≡ count_by columns (first_lines n) = sym (count-filter columns n) ∙ length-filter columns (first_lines n) in omega (arith, w, e);
  }

  pub common_by_next : (set : Bits) (found : Option ℕ) → AreCommonColumns M i P (has_column set.words)
      → MatchOption found ((column : ℕ) → 0 ≤ column → has_column set.words column ≡ false) (IsNextOf set 0)
      → MatchOption found ((column : ℕ) → ¬ (IsCommon M i P column)) (IsCommon M i P)
  common_by_next set None exact h = λ column u. not_both (has_column set.words column) ((exact column).1 u) (h column (omega arith))
  common_by_next set (Some column) exact h = (exact column).0 h.member

pub branches_more : (M : ℕ → ℕ → Bool) (n i : ℕ) (parts : List (List ℕ)) (ends : List ℕ) (place : ℕ) (branches : List Branch) (branch : Branch) → AreBranches M n i parts ends place branches
    → IsBranch M n i (slice_index_or parts place []) (slice_index_or ends place 0 == 1) branch → AreBranches M n i parts ends (place + 1) (branches ++ branch ∷ [])
branches_more M n i parts ends place branches branch so here = record {
  many = length-append branches (branch ∷ []) ∙ ap (λ (z : ℕ). z + 1) so.many;
  each = each_more (λ a. IsBranch M n i (slice_index_or parts a []) (slice_index_or ends a 0 == 1) (branch_at (branches ++ branch ∷ []) a)) place
      (λ a l. subst (IsBranch M n i (slice_index_or parts a []) (slice_index_or ends a 0 == 1)) (sym (get_or_append_left branches (branch ∷ []) none a (let k = so.many in omega arith))) (so.each a l))
      (subst (IsBranch M n i (slice_index_or parts place []) (slice_index_or ends place 0 == 1)) (sym (get_or_at branches branch [] none place so.many)) here);
}
  where
    none : Branch
    none = record { end = false; weight = 0; common = None }
