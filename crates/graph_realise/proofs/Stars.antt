-- The code draws the star of the rows.
use Rattle.std.proofs.Common.{◌≡◌, ◌<◌, ◌≤◌, ◌∙◌, ◌&&◌, ◌||◌, ◌+◌, ◌==◌, if◌then◌else◌, not, nat_eq, zero, suc, length, get_or, cond, ℕ, Bool, true, false, List, [], ◌∷◌, sym, ap, refl, arith, ◌⊎◌, inl, inr}
use Rattle.cmr_base.specs.Cuts.{differ, IsCuts}
use Rattle.cmr_base.specs.Members.{IsIn}
use Rattle.cmr_base.specs.Splits.{HasNoThree}
use Rattle.std.specs.List.Sorted.{IsStrictlyIncreasing}
use Rattle.cmr_base.proofs.ListsWithout.{head_below, increasing_tail}
use Rattle.cmr_base.proofs.Members.{in_at}
use Rattle.cmr_base.proofs.Booleans.{eq_swapped, not_not}
use Rattle.cmr_base.proofs.RowLists.{not_both, is_eq, is_ne}
use Rattle.std.proofs.lemmas.Bool.{cases_lt}
use Rattle.graph_realise.specs.BitTables.{IsRowFilled}
use Rattle.graph_realise.specs.SideTables.{side_in, end_in, AreClear, KeepsOtherArcs, KeepsRow}
use Rattle.graph_realise.proofs.TableLemmas.{cell_past}
use Rattle.graph_realise.specs.Rays.{is_first, star_end, AreSeen, IsRay, IsRayAfter}
use Rattle.graph_realise.specs.declared.arc_sides.ArcSides.{ArcSides}
use Rattle.graph_realise.specs.Stars.{lead, star_lies}
use Rattle.graph_realise.proofs.StarCuts.{star_is}
use Rattle.graph_realise.proofs.CutTables.{is_same}

first_is : (M : ℕ → ℕ → Bool) (rows : List ℕ) (row column : ℕ) → IsIn row rows → M row column ≡ true → is_first M rows row column ≡ nat_eq row (lead M rows column)
first_is M [] row column h e = absurd h
first_is M (r ∷ rows) row column h e = go (M r column) refl h (λ q. first_is M rows row column q e)
  where
    go : (t : Bool) → M r column ≡ t → (row ≡ r) ⊎ IsIn row rows → (IsIn row rows → is_first M rows row column ≡ nat_eq row (lead M rows column))
        → (if t then r == row else is_first M rows row column) ≡ nat_eq row (cond t r (lead M rows column))
    go true f h rest = eq_swapped r row
    go false f (inl q) rest = absurd (not_both (M row column) e (ap (λ (z : ℕ). M z column) q ∙ f))
    go false f (inr q) rest = rest q

end_is : (M : ℕ → ℕ → Bool) (rows : List ℕ) (row : ℕ) (end : Bool) (column : ℕ) → IsIn row rows → star_end M rows row end column ≡ star_lies M rows end row column
end_is M rows row end column h = go (M row column) refl end
  where
    go : (t : Bool) → M row column ≡ t → (end : Bool)
        → (t && (if end then is_first M rows row column else not (is_first M rows row column))) ≡ cond t (not (differ end (nat_eq row (lead M rows column)))) false
    go true e true = first_is M rows row column h e ∙ sym (not_not (nat_eq row (lead M rows column)))
    go true e false = ap not (first_is M rows row column h e)
    go false e end = refl

pub ray_same : (M : ℕ → ℕ → Bool) (rows : List ℕ) (r : ℕ) (a b : ArcSides) → KeepsRow a b r → IsRay M rows r a → IsRay M rows r b
ray_same M rows r a b k h = record {
  arcs = λ other. k.arcs other ∙ h.arcs other;
  ends = λ end column. k.ends end column ∙ h.ends end column;
}

pub rays_cuts : (M : ℕ → ℕ → Bool) (rows : List ℕ) (sides : ArcSides) → HasNoThree M rows → ((r : ℕ) → IsIn r rows → IsRay M rows r sides) → IsCuts M (λ r. IsIn r rows) (side_in sides) (end_in sides)
rays_cuts M rows sides none rays = is_same M (λ r. IsIn r rows) (λ r s. false) (side_in sides) (star_lies M rows) (end_in sides)
    (λ r s hr hs n. (rays r hr).arcs s) (λ end r c hr. (rays r hr).ends end c ∙ end_is M rows r end c hr) (star_is M rows none)

pub rays_clear : (M : ℕ → ℕ → Bool) (rows : List ℕ) (sides : ArcSides) → ((r : ℕ) → IsIn r rows → IsRay M rows r sides) → AreClear M rows sides
rays_clear M rows sides rays = record {
  arcs = λ r s hr n. (rays r hr).arcs s;
  ends = λ end r c hr none. (rays r hr).ends end c ∙ ap (λ t. t && (if end then is_first M rows r c else not (is_first M rows r c))) (none r hr);
}

-- ---- the columns that were seen

module _ (M : ℕ → ℕ → Bool) where
  -- a row is not the first row of a column that an earlier row has
  not_first : (S : List ℕ) (p q c : ℕ) → IsStrictlyIncreasing S → q < p → p < length S → M (get_or S q 0) c ≡ true → is_first M S (get_or S p 0) c ≡ false
  not_first [] p q c increases l k e = absurd (omega arith)
  not_first (r ∷ S) zero q c increases l k e = absurd (omega arith)
  not_first (r ∷ S) (suc p) q c increases l k e = go (M r c) refl q l e (λ q' l' e'. not_first S p q' c (increasing_tail r S increases) l' (omega arith) e')
    where
      go : (t : Bool) → M r c ≡ t → (q : ℕ) → q < suc p → M (get_or (r ∷ S) q 0) c ≡ true → ((q' : ℕ) → q' < p → M (get_or S q' 0) c ≡ true → is_first M S (get_or S p 0) c ≡ false)
          → (if t then nat_eq r (get_or S p 0) else is_first M S (get_or S p 0) c) ≡ false
      go true f q l e more = let b = head_below r (get_or S p 0) S increases (in_at S p (omega arith)) in is_ne r (get_or S p 0) (λ q. absurd (omega arith))
      go false f zero l e more = absurd (not_both (M r c) e f)
      go false f (suc q) l e more = more q (omega arith) e

  first_here : (S : List ℕ) (p c : ℕ) → p < length S → ((q : ℕ) → q < p → M (get_or S q 0) c ≡ false) → M (get_or S p 0) c ≡ true → is_first M S (get_or S p 0) c ≡ true
  first_here [] p c l none e = absurd (omega arith)
  first_here (r ∷ S) zero c l none e = go (M r c) e
    where
      go : (t : Bool) → t ≡ true → (if t then nat_eq r r else is_first M S r c) ≡ true
      go true f = is_eq r r refl
      go false f = cc
  first_here (r ∷ S) (suc p) c l none e = go (M r c) (none 0 (omega arith)) (first_here S p c (omega arith) (λ q k. none (suc q) (omega arith)) e)
    where
      go : (t : Bool) → t ≡ false → is_first M S (get_or S p 0) c ≡ true → (if t then nat_eq r (get_or S p 0) else is_first M S (get_or S p 0) c) ≡ true
      go true f more = cc
      go false f more = more

  -- the ray drawn by `seen` is the ray of the star
  pub ray_after : (S : List ℕ) (p : ℕ) (seen : ℕ → Bool) (sides : ArcSides) → IsStrictlyIncreasing S → p < length S → AreSeen M S p seen
      → IsRayAfter M seen (get_or S p 0) sides → IsRay M S (get_or S p 0) sides
  ray_after S p seen sides increases l were ray = record {
    arcs = ray.arcs;
    ends = λ end c. ray.ends end c ∙ pick end c (M (get_or S p 0) c) refl;
  }
    where
      first : (c : ℕ) → M (get_or S p 0) c ≡ true → is_first M S (get_or S p 0) c ≡ not (seen c)
      first c e = go (seen c) refl
        where
          free : (q : ℕ) → q < p → seen c ≡ false → (t : Bool) → M (get_or S q 0) c ≡ t → t ≡ false
          free q k f true g = absurd (not_both (seen c) (were.from q c k g) f)
          free q k f false g = refl

          go : (t : Bool) → seen c ≡ t → is_first M S (get_or S p 0) c ≡ not t
          go true f = let h = were.into c f in not_first S p h.0 c increases h.1 l h.2
          go false f = first_here S p c l (λ q k. free q k f (M (get_or S q 0) c) refl) e

      twice : (t : Bool) → t ≡ not (not t)
      twice true = refl
      twice false = refl

      pick : (end : Bool) (c : ℕ) (t : Bool) → M (get_or S p 0) c ≡ t
          → (t && (if end then not (seen c) else seen c)) ≡ (t && (if end then is_first M S (get_or S p 0) c else not (is_first M S (get_or S p 0) c)))
      pick true c true e = sym (first c e)
      pick false c true e = twice (seen c) ∙ ap not (sym (first c e))
      pick end c false e = refl

  pub seen_none : (S : List ℕ) (seen : ℕ → Bool) → ((c : ℕ) → seen c ≡ false) → AreSeen M S 0 seen
  seen_none S seen none = record { into = λ c e. absurd (not_both (seen c) e (none c)); from = λ q c l. absurd (omega arith) }

  pub seen_more : (S : List ℕ) (p : ℕ) (seen seen' : ℕ → Bool) → AreSeen M S p seen → ((c : ℕ) → seen' c ≡ (seen c || M (get_or S p 0) c)) → AreSeen M S (p + 1) seen'
  seen_more S p seen seen' were more = record {
    into = λ c e. into c (seen c) (M (get_or S p 0) c) refl refl (sym (more c) ∙ e);
    from = λ q c l e. more c ∙ elim (cases_lt q p) [
      | inl k ↦ ap (λ t. t || M (get_or S p 0) c) (were.from q c k e)
      | inr k ↦ let s : q ≡ p = omega arith in ap (λ t. seen c || t) (ap (λ (z : ℕ). M (get_or S z 0) c) (sym s) ∙ e) ∙ right (seen c)
    ];
  }
    where
      right : (t : Bool) → (t || true) ≡ true
      right true = refl
      right false = refl

      into : (c : ℕ) (s t : Bool) → seen c ≡ s → M (get_or S p 0) c ≡ t → (s || t) ≡ true → (q : ℕ) × (q < p + 1) × (M (get_or S q 0) c ≡ true)
      into c true t e f g = let h = were.into c e in (h.0, (let k = h.1 in omega arith), h.2)
      into c false true e f g = (p, omega arith, f)
      into c false false e f g = cc

-- one arc, drawn by sets of columns
module _ (M : ℕ → ℕ → Bool) (n : ℕ) (short : (r c : ℕ) → M r c ≡ true → c < n) (columns seen : ℕ → Bool) (row : ℕ) (same : (c : ℕ) → columns c ≡ M row c) (old new : ArcSides) (first_wide : old.first.width ≡ n) (last_wide : old.last.width ≡ n)
    (cleared : IsRowFilled (λ column. false) old.arcs new.arcs row old.arcs.width) (first : IsRowFilled (λ column. columns column && not (seen column)) old.first new.first row old.first.width)
    (last : IsRowFilled (λ column. columns column && seen column) old.last new.last row old.last.width) where
  pub ray_others : KeepsOtherArcs old new row
  ray_others r off = record { arcs = λ other. cleared.rows.others r other off; ends = λ end column. tip end column }
    where
      tip : (end : Bool) (column : ℕ) → end_in new end r column ≡ end_in old end r column
      tip true column = first.rows.others r column off
      tip false column = last.rows.others r column off

  pub ray_drawn : IsRayAfter M seen row new
  ray_drawn = record {
    arcs = λ other. pick other (cases_lt other old.arcs.width);
    ends = λ end column. tip end column (cases_lt column n);
  }
    where
      pick : (other : ℕ) → (other < old.arcs.width) ⊎ (old.arcs.width ≤ other) → side_in new row other ≡ false
      pick other (inl l) = cleared.done other l l
      pick other (inr l) = cell_past new.arcs row other (let e = cleared.rows.width in omega arith)

      unused : (column : ℕ) → n ≤ column → (t : Bool) → M row column ≡ t → M row column ≡ false
      unused column l true e = let k = short row column e in absurd (omega arith)
      unused column l false e = e

      tip : (end : Bool) (column : ℕ) → (column < n) ⊎ (n ≤ column) → end_in new end row column ≡ (M row column && (if end then not (seen column) else seen column))
      tip true column (inl l) = first.done column (omega arith) (omega arith) ∙ ap (λ t. t && not (seen column)) (same column)
      tip false column (inl l) = last.done column (omega arith) (omega arith) ∙ ap (λ t. t && seen column) (same column)
      tip true column (inr l) = cell_past new.first row column (let e = first.rows.width in omega arith) ∙ sym (ap (λ t. t && not (seen column)) (unused column l (M row column) refl))
      tip false column (inr l) = cell_past new.last row column (let e = last.rows.width in omega arith) ∙ sym (ap (λ t. t && seen column) (unused column l (M row column) refl))
