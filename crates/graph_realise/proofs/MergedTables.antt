-- From the tables of row i with each part to the tables of all rows.
use Rattle.std.proofs.Common.{ℕ, Bool, true, false, not, cond, List, [], ◌∷◌, ◌≡◌, ◌≢◌, ◌<◌, ◌≤◌, arith, ◌∙◌, sym, ap, ap₂, refl, subst, ◌⊎◌, inl, inr, Option, Some, None, if◌then◌else◌, nat_eq, slice_index_or, length}
use Rattle.std.proofs.lemmas.Bool.{cases_lt}
use Rattle.cmr_base.specs.Members.{IsIn}
use Rattle.cmr_base.specs.Splits.{AreJoined, LeadsTo, IsNaming, AreParts, AreSides, with_row}
use Rattle.cmr_base.specs.Cuts.{differ, IsCuts}
use Rattle.bridge_split.proofs.Links.{joined_off}
use Rattle.cmr_base.proofs.RowLists.{two_cases, same_or_not, is_eq, is_ne}
use Rattle.graph_realise.specs.Merging as formula
use Rattle.graph_realise.specs.Merging.{Hanging, DescribesParts, KeepsCuts, hanging_by, reversed_side, reversed_lies}
use Rattle.graph_realise.proofs.CutTables.{is_fewer, is_same}
use Rattle.graph_realise.proofs.MiddleArcs.{joined_side}
use Rattle.graph_realise.proofs.HungCuts.{IsHung, hung_is, hung_same}
use Rattle.graph_realise.proofs.PartRows.{in_with, with_in}
use Rattle.graph_realise.proofs.PartLists.{numbers_name}
use Rattle.graph_realise.proofs.MergedCuts.{IsHanging, InPart, merged_is}
use Rattle.graph_realise.proofs.HangingParts.{lists_hang}

-- row i or a row of part p
abbrev pub IsWith : List ℕ → ℕ → (ℕ → ℕ) → ℕ → ℕ → Type 0
IsWith S i part p r = IsIn r S × ((r ≡ i) ⊎ (part r ≡ p))

-- ss p, sl p: the tables of row i with part p
module _ (M : ℕ → ℕ → Bool) (S : List ℕ) (i : ℕ) (here : IsIn i S) (hanging : Hanging) (named : IsNaming M S i hanging.part) (P : IsHanging M i (λ r. IsIn r S) hanging)
    (ss : ℕ → ℕ → ℕ → Bool) (sl : ℕ → Bool → ℕ → ℕ → Bool)
    (K : (x : ℕ) → IsIn x S → x ≢ i → IsCuts M (IsWith S i hanging.part (hanging.part x)) (ss (hanging.part x)) (sl (hanging.part x))) where
  abbrev part : ℕ → ℕ
  part = hanging.part

  one_part : (j k : ℕ) → IsIn j S → IsIn k S → AreJoined M i j k → part j ≡ part k
  one_part j k hj hk (c, off, a, b) = (named j k hj hk (joined_off M S i k j (c, off, b, a)) (joined_off M S i j k (c, off, a, b))).1 (k ∷ [], (hk, (c, off, a, b), refl))

  -- a part lies on one side of arc i in its tree
  on_side : (x j k : ℕ) (path : List ℕ) → IsIn x S → x ≢ i → IsIn j S → part j ≡ part x → LeadsTo M S i j path k → ss (part x) i j ≡ ss (part x) i k
  on_side x j k [] hx nx hj e l = ap (ss (part x) i) l
  on_side x j k (y ∷ path) hx nx hj e (hy, join, l) =
      let f : part y ≡ part x = sym (one_part j y hj hy join) ∙ e in
      joined_side M (with_row part i (part x) S)
      (record { side = ss (part x); lies = sl (part x); cuts = is_fewer M (IsWith S i part (part x)) (λ r. IsIn r (with_row part i (part x) S)) (ss (part x)) (sl (part x)) (λ r h. in_with part i (part x) r S h) (K x hx nx) }) i j y
      (with_in part i (part x) i S here (inl refl)) (with_in part i (part x) j S hj (inr e)) (with_in part i (part x) y S hy (inr f)) join
      ∙ on_side x y k path hx nx hy f l

  abbrev hung_side : ℕ → ℕ → Bool
  hung_side r s = differ (ss (part r) r i) (ss (part r) r s)

  abbrev hung_lies : Bool → ℕ → ℕ → Bool
  hung_lies end r c = differ (ss (part r) r i) (sl (part r) (differ (cond (M i c) (not (differ (sl (part r) false i c) (ss (part r) i r))) false) end) r c)

  hung_at : (x : ℕ) → IsIn x S → x ≢ i → IsHung M i (InPart (λ r. IsIn r S) i part (part x)) hung_side hung_lies
  hung_at x hx nx = hung_same M i (InPart (λ r. IsIn r S) i part (part x)) own_side hung_side own_lies hung_lies
      (λ r s hr hs n. ap (λ (p : ℕ). differ (ss p r i) (ss p r s)) hr.2)
      (λ end r c h. ap₂ (λ (p : ℕ) (y : Bool). differ (ss p r i) (sl p (differ (cond (M i c) (not (differ (sl p false i c) y)) false) end) r c)) h.2 (ap (λ (p : ℕ). ss p i r) h.2 ∙ on r h))
      (hung_is M i (IsWith S i part (part x)) (InPart (λ r. IsIn r S) i part (part x)) (ss (part x)) (sl (part x)) (K x hx nx)
      (here, inl refl) (λ r h. (h.0, inr h.2)) (λ r h e. h.1 (sym e)) (ss (part x) i x) on)
    where
      on : (r : ℕ) → InPart (λ r. IsIn r S) i part (part x) r → ss (part x) i r ≡ ss (part x) i x
      on r h = let l = (named r x h.0 hx h.1 nx).0 h.2 in on_side x r x l.0 hx nx h.0 h.2 l.1

      own_side : ℕ → ℕ → Bool
      own_side r s = differ (ss (part x) r i) (ss (part x) r s)

      own_lies : Bool → ℕ → ℕ → Bool
      own_lies end r c = differ (ss (part x) r i) (sl (part x) (differ (cond (M i c) (not (differ (sl (part x) false i c) (ss (part x) i x))) false) end) r c)

  hung_each : (p : ℕ) → IsHung M i (InPart (λ r. IsIn r S) i part p) hung_side hung_lies
  hung_each p = record {
    cuts = record {
      meet = λ end r s c hr hs n. (at r hr).cuts.meet end r s c hr hs n;
      three = λ r s t hr hs ht rs rt st. (at r hr).cuts.three r s t hr hs ht rs rt st;
      uses = λ r c h. (at r h).cuts.uses r c h;
    };
    root = λ r s hr hs n. (at r hr).root r s hr hs n;
    start = λ r c h w. (at r h).start r c h w;
  }
    where
      at : (r : ℕ) → InPart (λ r. IsIn r S) i part p r → IsHung M i (InPart (λ r. IsIn r S) i part p) hung_side hung_lies
      at r h = subst (λ (q : ℕ). IsHung M i (InPart (λ r. IsIn r S) i part q) hung_side hung_lies) h.2 (hung_at r h.0 h.1)

  -- one table for all parts, which agrees with the table of each part on the entries that are read
  module _ (side : ℕ → ℕ → Bool) (lies : Bool → ℕ → ℕ → Bool)
      (kept_side : (r s : ℕ) → IsIn r S → r ≢ i → IsWith S i part (part r) s → r ≢ s → side r s ≡ ss (part r) r s)
      (kept_lies : (end : Bool) (r c : ℕ) → IsIn r S → r ≢ i → M i c ≡ false → lies end r c ≡ sl (part r) end r c) where
    abbrev merged_side : ℕ → ℕ → Bool
    merged_side = formula.merged_side M i hanging (reversed_side i side)

    abbrev merged_lies : Bool → ℕ → ℕ → Bool
    merged_lies = formula.merged_lies M i hanging (reversed_lies i side lies)

    to_row : (r : ℕ) → IsIn r S → r ≢ i → side r i ≡ ss (part r) r i
    to_row r hr nr = kept_side r i hr nr (here, inl refl) nr

    same_side : (r s : ℕ) → IsIn r S → IsIn s S → r ≢ s → merged_side r s ≡ formula.merged_side M i hanging hung_side r s
    same_side r s hr hs n = go (same_or_not r i) (same_or_not s i) (same_or_not (part r) (part s))
      where
        go : (r ≡ i) ⊎ (r ≢ i) → (s ≡ i) ⊎ (s ≢ i) → (part r ≡ part s) ⊎ (part r ≢ part s) → merged_side r s ≡ formula.merged_side M i hanging hung_side r s
        go (inl a) b c = rw (is_eq r i a) refl
        go (inr a) (inl b) c = rw (is_ne r i a, is_eq s i b) refl
        go (inr a) (inr b) (inl c) = rw (is_ne r i a, is_ne s i b, is_eq (part r) (part s) c) (ap₂ differ (to_row r hr a) (kept_side r s hr a (hs, inr (sym c)) n))
        go (inr a) (inr b) (inr c) = rw (is_ne r i a, is_ne s i b, is_ne (part r) (part s) c) refl

    same_lies : (end : Bool) (r c : ℕ) → IsIn r S → merged_lies end r c ≡ formula.merged_lies M i hanging hung_lies end r c
    same_lies end r c hr = go (same_or_not r i) (two_cases (M i c))
      where
        off : r ≢ i → M i c ≡ false → reversed_lies i side lies end r c ≡ hung_lies end r c
        off a w = ap₂ differ (to_row r hr a) (kept_lies end r c hr a w ∙ sym (rw w refl))

        go : (r ≡ i) ⊎ (r ≢ i) → (M i c ≡ true) ⊎ (M i c ≡ false) → merged_lies end r c ≡ formula.merged_lies M i hanging hung_lies end r c
        go (inl a) w = rw (is_eq r i a) refl
        go (inr a) (inl w) = rw (is_ne r i a, w) refl
        go (inr a) (inr w) = rw (is_ne r i a, w) (touch (hanging.touched c))
          where
            touch : (o : Option ℕ) → formula.end_off M i hanging (reversed_lies i side lies) end r c o ≡ formula.end_off M i hanging hung_lies end r c o
            touch None = refl
            touch (Some q) = ap (λ (z : Bool). if nat_eq (part r) q then z else formula.spot M i hanging r q) (off a w)

    pub merged_by_names : IsCuts M (λ r. IsIn r S) (formula.merged_side M i hanging (reversed_side i side)) (formula.merged_lies M i hanging (reversed_lies i side lies))
    merged_by_names = is_same M (λ r. IsIn r S) (formula.merged_side M i hanging hung_side) merged_side (formula.merged_lies M i hanging hung_lies) merged_lies same_side same_lies
        (merged_is M i (λ r. IsIn r S) hanging P hung_side hung_lies hung_each)

-- Parts as lists. ss a and sl a are tables of row i with part a. side and lies are one table for all parts, which agrees with
-- each part's table on the entries that are read.
module _ (M : ℕ → ℕ → Bool) (n : ℕ) (short : (r c : ℕ) → M r c ≡ true → c < n) (S : List ℕ) (i : ℕ) (here : IsIn i S) (parts : List (List ℕ)) (all : AreParts M S i parts)
    (sides : List ℕ) (fit : AreSides M i parts sides) (part weight : ℕ → ℕ) (common touched : ℕ → Option ℕ) (D : DescribesParts M n S i parts part weight common touched)
    (ss : ℕ → ℕ → ℕ → Bool) (sl : ℕ → Bool → ℕ → ℕ → Bool)
    (K : (a : ℕ) → a < length parts → IsCuts M (λ r. (r ≡ i) ⊎ IsIn r (slice_index_or parts a [])) (ss a) (sl a))
    (side : ℕ → ℕ → Bool) (lies : Bool → ℕ → ℕ → Bool)
    (kept_side : (a r s : ℕ) → a < length parts → IsIn r (slice_index_or parts a []) → (s ≡ i) ⊎ IsIn s (slice_index_or parts a []) → r ≢ s → side r s ≡ ss a r s)
    (kept_lies : (a : ℕ) (end : Bool) (r c : ℕ) → a < length parts → IsIn r (slice_index_or parts a []) → M i c ≡ false → lies end r c ≡ sl a end r c) where
  in_list : (x r : ℕ) → IsWith S i part (part x) r → (r ≡ i) ⊎ IsIn r (slice_index_or parts (part x) [])
  in_list x r h = go (same_or_not r i) h.1
    where
      go : (r ≡ i) ⊎ (r ≢ i) → (r ≡ i) ⊎ (part r ≡ part x) → (r ≡ i) ⊎ IsIn r (slice_index_or parts (part x) [])
      go (inl e) q = inl e
      go (inr n) (inl e) = inl e
      go (inr n) (inr e) = inr (subst (λ (z : ℕ). IsIn r (slice_index_or parts z [])) e (D.numbers r h.0 n).1)

  pub merged_cuts : IsCuts M (λ r. IsIn r S)
      (formula.merged_side M i (hanging_by sides part weight common touched) (reversed_side i side))
      (formula.merged_lies M i (hanging_by sides part weight common touched) (reversed_lies i side lies))
  merged_cuts = merged_by_names M S i here (hanging_by sides part weight common touched) (numbers_name M S i parts all part D.numbers)
      (lists_hang M n short S i parts all sides fit part weight common touched D) ss sl
      (λ x hx nx. is_fewer M (λ r. (r ≡ i) ⊎ IsIn r (slice_index_or parts (part x) [])) (IsWith S i part (part x)) (ss (part x)) (sl (part x)) (in_list x) (K (part x) (D.numbers x hx nx).0))
      side lies
      (λ r s hr nr hs m. let q = D.numbers r hr nr in kept_side (part r) r s q.0 q.1 (in_list r s hs) m)
      (λ end r c hr nr w. let q = D.numbers r hr nr in kept_lies (part r) end r c q.0 q.1 w)

-- ---- the same, if one table was filled part by part

pub keeps_own : (M : ℕ → ℕ → Bool) (i : ℕ) (P : List ℕ) (side : ℕ → ℕ → Bool) (lies : Bool → ℕ → ℕ → Bool) → IsCuts M (λ r. (r ≡ i) ⊎ IsIn r P) side lies → KeepsCuts M i P side lies
keeps_own M i P side lies K = record { own_side = side; own_lies = lies; cuts = K; side_kept = λ r s hr hs n. refl; lies_kept = λ end r c h w. refl }

-- other entries may change
pub keeps_after : (M : ℕ → ℕ → Bool) (i : ℕ) (P : List ℕ) (side side' : ℕ → ℕ → Bool) (lies lies' : Bool → ℕ → ℕ → Bool)
    → ((r s : ℕ) → IsIn r P → (s ≡ i) ⊎ IsIn s P → r ≢ s → side' r s ≡ side r s) → ((end : Bool) (r c : ℕ) → IsIn r P → M i c ≡ false → lies' end r c ≡ lies end r c)
    → KeepsCuts M i P side lies → KeepsCuts M i P side' lies'
keeps_after M i P side side' lies lies' a b K = record {
  own_side = K.own_side;
  own_lies = K.own_lies;
  cuts = K.cuts;
  side_kept = λ r s hr hs n. a r s hr hs n ∙ K.side_kept r s hr hs n;
  lies_kept = λ end r c h w. b end r c h w ∙ K.lies_kept end r c h w;
}

module _ (M : ℕ → ℕ → Bool) (n : ℕ) (short : (r c : ℕ) → M r c ≡ true → c < n) (S : List ℕ) (i : ℕ) (here : IsIn i S) (parts : List (List ℕ)) (all : AreParts M S i parts)
    (sides : List ℕ) (fit : AreSides M i parts sides) (part weight : ℕ → ℕ) (common touched : ℕ → Option ℕ) (D : DescribesParts M n S i parts part weight common touched)
    (side : ℕ → ℕ → Bool) (lies : Bool → ℕ → ℕ → Bool) (K : (a : ℕ) → a < length parts → KeepsCuts M i (slice_index_or parts a []) side lies) where
  side_by : (a : ℕ) → (a < length parts) ⊎ (length parts ≤ a) → ℕ → ℕ → Bool
  side_by a (inl l) = (K a l).own_side
  side_by a (inr l) = side

  lies_by : (a : ℕ) → (a < length parts) ⊎ (length parts ≤ a) → Bool → ℕ → ℕ → Bool
  lies_by a (inl l) = (K a l).own_lies
  lies_by a (inr l) = lies

  cuts_by : (a : ℕ) → a < length parts → (d : (a < length parts) ⊎ (length parts ≤ a)) → IsCuts M (λ r. (r ≡ i) ⊎ IsIn r (slice_index_or parts a [])) (side_by a d) (lies_by a d)
  unfolding side_by lies_by
  cuts_by a l (inl m) = (K a m).cuts
  cuts_by a l (inr m) = absurd (omega arith)

  side_is : (a r s : ℕ) → a < length parts → (d : (a < length parts) ⊎ (length parts ≤ a)) → IsIn r (slice_index_or parts a []) → (s ≡ i) ⊎ IsIn s (slice_index_or parts a []) → r ≢ s
      → side r s ≡ side_by a d r s
  unfolding side_by
  side_is a r s l (inl m) hr hs n = (K a m).side_kept r s hr hs n
  side_is a r s l (inr m) hr hs n = refl

  lies_is : (a : ℕ) (end : Bool) (r c : ℕ) → a < length parts → (d : (a < length parts) ⊎ (length parts ≤ a)) → IsIn r (slice_index_or parts a []) → M i c ≡ false → lies end r c ≡ lies_by a d end r c
  unfolding lies_by
  lies_is a end r c l (inl m) hr w = (K a m).lies_kept end r c hr w
  lies_is a end r c l (inr m) hr w = refl

  pub merged_kept : IsCuts M (λ r. IsIn r S)
      (formula.merged_side M i (hanging_by sides part weight common touched) (reversed_side i side))
      (formula.merged_lies M i (hanging_by sides part weight common touched) (reversed_lies i side lies))
  merged_kept = merged_cuts M n short S i here parts all sides fit part weight common touched D
      (λ a. side_by a (cases_lt a (length parts))) (λ a. lies_by a (cases_lt a (length parts))) (λ a l. cuts_by a l (cases_lt a (length parts))) side lies
      (λ a r s l hr hs n. side_is a r s l (cases_lt a (length parts)) hr hs n) (λ a end r c l hr w. lies_is a end r c l (cases_lt a (length parts)) hr w)
