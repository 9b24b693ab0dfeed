-- A matrix is graphic by splitting if and only if it has cuts.
use Rattle.std.proofs.Common.{ℕ, zero, suc, Bool, true, false, List, [], ◌∷◌, ◌≡◌, ◌≢◌, ◌<◌, ◌↔◌, ◌∙◌, sym, ap, refl, arith, subst, ◌⊎◌, inl, inr, Option, Some, None}
use Rattle.std.proofs.lemmas.List.FromFn.{length-range_with_len}
use Rattle.cmr_base.specs.Matrix.{Matrix, IsRectangular, height}
use Rattle.cmr_base.specs.LineSets.{first_lines}
use Rattle.cmr_base.specs.Members.{IsIn}
use Rattle.cmr_base.specs.Trees.{support}
use Rattle.cmr_base.specs.Splits.{IsCommon, Agree, IsNaming, part_rows, with_row, SplitsGraphically, IsGraphicBySplitting}
use Rattle.cmr_base.specs.Cuts.{HasCuts, IsCuts}
use Rattle.bridge_split.proofs.PartWalks.{no_number}
use Rattle.cmr_base.proofs.Booleans.{false_is}
use Rattle.cmr_base.proofs.Options.{some_same}
use Rattle.cmr_base.proofs.RemovedLines.{in_first_lines, first_lines_in}
use Rattle.cmr_base.proofs.RowLists.{not_both, two_cases, same_or_not, search_rows}
use Rattle.graph_realise.specs.Merging as formula
use Rattle.graph_realise.specs.Merging.{Hanging, heavier, reversed_side, reversed_lies}
use Rattle.graph_realise.proofs.CutTables.{is_fewer, has_fewer}
use Rattle.graph_realise.proofs.CutsSplit.{cuts_split}
use Rattle.graph_realise.proofs.PartRows.{part_in, with_in}
use Rattle.graph_realise.proofs.StarCuts.{star_cuts}
use Rattle.graph_realise.proofs.Weights.{a_column, weighed}
use Rattle.graph_realise.proofs.HangingParts.{names_hang}
use Rattle.graph_realise.proofs.MergedTables.{IsWith, merged_by_names}
use Rattle.cmr_base.proofs.GraphicMatrices.{nonzero_in_range}

module _ (M : ℕ → ℕ → Bool) (n : ℕ) (short : (r c : ℕ) → M r c ≡ true → c < n) (S : List ℕ) (i : ℕ) (here : IsIn i S) (part : ℕ → ℕ) (named : IsNaming M S i part)
    (side : ℕ → Bool) (whole : (j k : ℕ) → IsIn j S → IsIn k S → j ≢ i → k ≢ i → part j ≡ part k → side j ≡ side k)
    (agree : (j k : ℕ) → IsIn j S → IsIn k S → j ≢ i → k ≢ i → part j ≢ part k → side j ≡ side k → Agree M i (part_rows part i (part j) S) (part_rows part i (part k) S))
    (rest : (j : ℕ) → IsIn j S → j ≢ i → HasCuts M (λ r. IsIn r (with_row part i (part j) S))) where
  -- a row of part p, or there is none
  abbrev Found : ℕ → Type 0
  Found p = ((x : ℕ) × IsIn x S × ((x ≢ i) × (part x ≡ p))) ⊎ ((x : ℕ) → IsIn x S → x ≢ i → part x ≢ p)

  found : (p : ℕ) → Found p
  found p = search_rows (λ x. (x ≢ i) × (part x ≡ p)) (λ x. x ≢ i → part x ≢ p) (λ x. go x (same_or_not x i) (same_or_not (part x) p)) S
    where
      go : (x : ℕ) → (x ≡ i) ⊎ (x ≢ i) → (part x ≡ p) ⊎ (part x ≢ p) → ((x ≢ i) × (part x ≡ p)) ⊎ (x ≢ i → part x ≢ p)
      go x (inl e) q = inr (λ m. absurd (m e))
      go x (inr m) (inl e) = inl (m, e)
      go x (inr m) (inr e) = inr (λ z. e)

  side_by : (p : ℕ) → Found p → ℕ → ℕ → Bool
  side_by p (inl (x, hx, (nx, e))) r s = (rest x hx nx).side r s
  side_by p (inr none) r s = false

  lies_by : (p : ℕ) → Found p → Bool → ℕ → ℕ → Bool
  lies_by p (inl (x, hx, (nx, e))) end r c = (rest x hx nx).lies end r c
  lies_by p (inr none) end r c = false

  half_by : (p : ℕ) → Found p → Bool
  half_by p (inl (x, hx, q)) = side x
  half_by p (inr none) = false

  tables : (x : ℕ) → IsIn x S → x ≢ i → IsCuts M (IsWith S i part (part x)) (side_by (part x) (found (part x))) (lies_by (part x) (found (part x)))
  unfolding side_by lies_by
  tables x hx nx = go (found (part x))
    where
      go : (f : Found (part x)) → IsCuts M (IsWith S i part (part x)) (side_by (part x) f) (lies_by (part x) f)
      go (inr none) = absurd (none x hx nx refl)
      go (inl (y, hy, (ny, e))) = is_fewer M (λ r. IsIn r (with_row part i (part y) S)) (IsWith S i part (part x)) (λ r s. (rest y hy ny).side r s) (λ end r c. (rest y hy ny).lies end r c)
          (λ r h. with_in part i (part y) r S h.0 (subst (λ (p : ℕ). (r ≡ i) ⊎ (part r ≡ p)) (sym e) h.1)) (rest y hy ny).cuts

  half_is : (x : ℕ) → IsIn x S → x ≢ i → half_by (part x) (found (part x)) ≡ side x
  unfolding half_by
  half_is x hx nx = go (found (part x))
    where
      go : (f : Found (part x)) → half_by (part x) f ≡ side x
      go (inr none) = absurd (none x hx nx refl)
      go (inl (y, hy, (ny, e))) = whole y x hy hx ny nx e

  -- a common column of part p, or there is none
  abbrev Column : ℕ → Type 0
  Column p = ((c : ℕ) × IsCommon M i (part_rows part i p S) c) ⊎ ((c : ℕ) → ¬ (IsCommon M i (part_rows part i p S) c))

  common_by : (p : ℕ) → Column p → Option ℕ
  common_by p (inl (c, u)) = Some c
  common_by p (inr none) = None

  column : (p c : ℕ) (f : Column p) → common_by p f ≡ Some c → IsCommon M i (part_rows part i p S) c
  unfolding common_by
  column p c (inl (d, u)) e = subst (IsCommon M i (part_rows part i p S)) (some_same d c e) u
  column p c (inr none) e = absurd (no_number None c refl e)

  no_column : (s c : ℕ) → IsIn s S → s ≢ i → (f : Column (part s)) → common_by (part s) f ≡ None → M i c ≡ true → M s c ≡ false
  unfolding common_by
  no_column s c hs ns (inl (d, u)) h w = absurd (no_number (Some d) d h refl)
  no_column s c hs ns (inr none) h w = false_is (M s c) (λ e. none c (w, (s, part_in part i (part s) s S hs ns refl, e)))

  -- a row except i with a nonzero in the column, or there is none
  abbrev Touch : ℕ → Type 0
  Touch c = ((r : ℕ) × IsIn r S × ((r ≢ i) × (M r c ≡ true))) ⊎ ((r : ℕ) → IsIn r S → r ≢ i → M r c ≡ false)

  touch : (c : ℕ) → Touch c
  touch c = search_rows (λ r. (r ≢ i) × (M r c ≡ true)) (λ r. r ≢ i → M r c ≡ false) (λ r. go r (same_or_not r i) (two_cases (M r c))) S
    where
      go : (r : ℕ) → (r ≡ i) ⊎ (r ≢ i) → (M r c ≡ true) ⊎ (M r c ≡ false) → ((r ≢ i) × (M r c ≡ true)) ⊎ (r ≢ i → M r c ≡ false)
      go r (inl e) q = inr (λ m. absurd (m e))
      go r (inr m) (inl e) = inl (m, e)
      go r (inr m) (inr e) = inr (λ z. e)

  touched_by : (c : ℕ) → Touch c → Option ℕ
  touched_by c (inl (r, h, q)) = Some (part r)
  touched_by c (inr none) = None

  touches : (r c : ℕ) → IsIn r S → r ≢ i → M i c ≡ false → M r c ≡ true → (f : Touch c) → touched_by c f ≡ Some (part r)
  unfolding touched_by
  touches r c hr nr off e (inr none) = absurd (not_both (M r c) e (none r hr nr))
  touches r c hr nr off e (inl (s, hs, (ns, f))) = ap Some ((named s r hs hr ns nr).1 (r ∷ [], (hr, (c, off, f, e), refl)))

  half : ℕ → Bool
  half p = half_by p (found p)

  weight : ℕ → ℕ
  weight p = (weighed M n short i (part_rows part i p S)).0

  hanging : Hanging
  hanging = record {
    part = part;
    half = half;
    above = heavier weight;
    common = λ p. common_by p (a_column M n short i (part_rows part i p S));
    touched = λ c. touched_by c (touch c);
  }

  split_cuts : HasCuts M (λ r. IsIn r S)
  unfolding hanging half weight
  split_cuts = record {
    side = formula.merged_side M i hanging (reversed_side i side_of);
    lies = formula.merged_lies M i hanging (reversed_lies i side_of lies_of);
    cuts = merged_by_names M S i here hanging named
        (names_hang M n short S i part half
        (λ j k hj hk nj nk ne e. agree j k hj hk nj nk ne (sym (half_is j hj nj) ∙ e ∙ half_is k hk nk))
        weight (λ r hr nr. (weighed M n short i (part_rows part i (part r) S)).1)
        hanging.common (λ p c e. column p c (a_column M n short i (part_rows part i p S)) e)
        (λ s c hs ns e w. no_column s c hs ns (a_column M n short i (part_rows part i (part s) S)) e w)
        hanging.touched (λ r c hr nr off e. touches r c hr nr off e (touch c)))
        (λ p. side_by p (found p)) (λ p. lies_by p (found p)) tables side_of lies_of
        (λ r s hr nr hs m. refl) (λ end r c hr nr w. refl);
  }
    where
      side_of : ℕ → ℕ → Bool
      side_of r s = side_by (part r) (found (part r)) r s

      lies_of : Bool → ℕ → ℕ → Bool
      lies_of end r c = lies_by (part r) (found (part r)) end r c

-- rows that are graphic by splitting have cuts
pub splits_cut : (M : ℕ → ℕ → Bool) (n : ℕ) → ((r c : ℕ) → M r c ≡ true → c < n) → (m : ℕ) (S : List ℕ) → SplitsGraphically M m S → HasCuts M (λ r. IsIn r S)
splits_cut M n short zero S h = star_cuts M S h
splits_cut M n short (suc m) S (inl h) = star_cuts M S h
splits_cut M n short (suc m) S (inr a) =
    split_cuts M n short S a.row a.first.splits.here a.part a.naming a.side a.whole a.agree (λ j hj nj. splits_cut M n short m (with_row a.part a.row (a.part j) S) (a.rest j hj nj))

-- a matrix is graphic by splitting if and only if it has cuts
pub splitting_is_cuts : (m : Matrix) → IsRectangular m → IsGraphicBySplitting m ↔ HasCuts (support m) (λ row. row < height m)
splitting_is_cuts m is = (
  λ h. has_fewer (support m) (λ row. IsIn row (first_lines (height m))) (λ row. row < height m) (λ row l. in_first_lines (height m) row l)
      (splits_cut (support m) m.width (nonzero_in_range m is) (height m) (first_lines (height m)) h),
  λ K. cuts_split (support m) m.width (nonzero_in_range m is) (height m) (first_lines (height m)) (let e = length-range_with_len 0 (height m) in omega arith)
      (has_fewer (support m) (λ row. row < height m) (λ row. IsIn row (first_lines (height m))) (λ row h. first_lines_in (height m) row h) K),
)
