-- Trees hung at an end of arc i: all their arcs have that end on side false, and the columns that use i start there.
use Rattle.std.proofs.Common.{ℕ, Bool, true, false, not, cond, ◌≡◌, ◌≢◌, ◌∙◌, sym, ap, refl, ◌⊎◌, inl, inr}
use Rattle.cmr_base.specs.Cuts.{differ, IsCuts}
use Rattle.cmr_base.proofs.RowLists.{no_not, differ_true}
use Rattle.graph_realise.proofs.CutTables.{is_same}
use Rattle.graph_realise.proofs.Booleans.{differ_swap, not_swap, either}
use Rattle.cmr_base.proofs.CutTrees.{differ_self, differ_both}

pub record IsHung (M : ℕ → ℕ → Bool) (i : ℕ) (R : ℕ → Type 0) (side : ℕ → ℕ → Bool) (lies : Bool → ℕ → ℕ → Bool) : Type 0 where
  pub cuts : IsCuts M R side lies
  pub root : (r s : ℕ) → R r → R s → r ≢ s → (side r s ≡ false) ⊎ (side s r ≡ false)
  pub start : (r c : ℕ) → R r → M i c ≡ true → lies false r c ≡ false

-- other tables with the same entries at the rows
pub hung_same : (M : ℕ → ℕ → Bool) (i : ℕ) (R : ℕ → Type 0) (side side' : ℕ → ℕ → Bool) (lies lies' : Bool → ℕ → ℕ → Bool)
    → ((r s : ℕ) → R r → R s → r ≢ s → side' r s ≡ side r s) → ((end : Bool) (r c : ℕ) → R r → lies' end r c ≡ lies end r c)
    → IsHung M i R side lies → IsHung M i R side' lies'
hung_same M i R side side' lies lies' a b H = record {
  cuts = is_same M R side side' lies lies' a b H.cuts;
  root = λ r s hr hs n. either (side' r s) (side r s) false false (side' s r) (side s r) false false (a r s hr hs n) refl (a s r hs hr (λ e. n (sym e))) refl (H.root r s hr hs n);
  start = λ r c h w. b false r c h ∙ H.start r c h w;
}

-- The arcs Q of a tree with arc i, all on side y of i, hang at that end of i.
module _ (M : ℕ → ℕ → Bool) (i : ℕ) (R Q : ℕ → Type 0) (side : ℕ → ℕ → Bool) (lies : Bool → ℕ → ℕ → Bool) (K : IsCuts M R side lies)
    (here : R i) (sub : (x : ℕ) → Q x → R x) (other : (x : ℕ) → Q x → i ≢ x) (y : Bool) (on : (x : ℕ) → Q x → side i x ≡ y) where
  -- the ends of a column that uses arc i are swapped if the last end is on side y
  abbrev pub turns : ℕ → Bool
  turns c = cond (M i c) (not (differ (lies false i c) y)) false

  abbrev pub hung_side : ℕ → ℕ → Bool
  hung_side r s = differ (side r i) (side r s)

  abbrev pub hung_lies : Bool → ℕ → ℕ → Bool
  hung_lies end r c = differ (side r i) (lies (differ (turns c) end) r c)

  hung_uses : (r c : ℕ) → Q r → M r c ≡ differ (hung_lies true r c) (hung_lies false r c)
  hung_uses r c h = K.uses r c (sub r h) ∙ go (turns c) ∙ sym (differ_both (side r i) (lies (differ (turns c) true) r c) (lies (differ (turns c) false) r c))
    where
      go : (t : Bool) → differ (lies true r c) (lies false r c) ≡ differ (lies (differ t true) r c) (lies (differ t false) r c)
      go true = differ_swap (lies true r c) (lies false r c)
      go false = refl

  hung_meet : (end : Bool) (r s c : ℕ) → Q r → Q s → r ≢ s → (hung_lies end r c ≡ hung_side r s) ⊎ (hung_lies end s c ≡ hung_side s r)
  hung_meet end r s c hr hs n = go (K.meet (differ (turns c) end) r s c (sub r hr) (sub s hs) n)
    where
      go : (lies (differ (turns c) end) r c ≡ side r s) ⊎ (lies (differ (turns c) end) s c ≡ side s r) → (hung_lies end r c ≡ hung_side r s) ⊎ (hung_lies end s c ≡ hung_side s r)
      go (inl a) = inl (ap (differ (side r i)) a)
      go (inr a) = inr (ap (differ (side s i)) a)

  hung_three : (r s t : ℕ) → Q r → Q s → Q t → r ≢ s → r ≢ t → s ≢ t → (hung_side r t ≡ hung_side r s) ⊎ (hung_side s t ≡ hung_side s r)
  hung_three r s t hr hs ht rs rt st = go (K.three r s t (sub r hr) (sub s hs) (sub t ht) rs rt st)
    where
      go : (side r t ≡ side r s) ⊎ (side s t ≡ side s r) → (hung_side r t ≡ hung_side r s) ⊎ (hung_side s t ≡ hung_side s r)
      go (inl a) = inl (ap (differ (side r i)) a)
      go (inr a) = inr (ap (differ (side s i)) a)

  hung_root : (r s : ℕ) → Q r → Q s → r ≢ s → (hung_side r s ≡ false) ⊎ (hung_side s r ≡ false)
  hung_root r s hr hs n = go (K.three r s i (sub r hr) (sub s hs) here n (λ e. other r hr (sym e)) (λ e. other s hs (sym e)))
    where
      go : (side r i ≡ side r s) ⊎ (side s i ≡ side s r) → (hung_side r s ≡ false) ⊎ (hung_side s r ≡ false)
      go (inl a) = inl (ap (differ (side r i)) (sym a) ∙ differ_self (side r i))
      go (inr a) = inr (ap (differ (side s i)) (sym a) ∙ differ_self (side s i))

  hung_start : (r c : ℕ) → Q r → M i c ≡ true → hung_lies false r c ≡ false
  hung_start r c h w = ap (differ (side r i)) (near (K.meet start r i c (sub r h) here (λ e. other r h (sym e)))) ∙ differ_self (side r i)
    where
      start : Bool
      start = differ (turns c) false

      far : (a b : Bool) (f : Bool → Bool) → f true ≡ not (f false) → f false ≡ a → f (differ (not (differ a b)) false) ≡ not b
      far true true f k m = k ∙ ap not m
      far true false f k m = m
      far false true f k m = m
      far false false f k m = k ∙ ap not m

      away : lies start i c ≡ not y
      away = ap (λ (t : Bool). lies (differ (cond t (not (differ (lies false i c) y)) false) false) i c) w
          ∙ far (lies false i c) y (λ end. lies end i c) (not_swap (lies false i c) (lies true i c) (differ_true (lies true i c) (lies false i c) (sym w ∙ K.uses i c here))) refl

      near : (lies start r c ≡ side r i) ⊎ (lies start i c ≡ side i r) → lies start r c ≡ side r i
      near (inl a) = a
      near (inr a) = absurd (no_not y (sym (on r h) ∙ sym a ∙ away))

  pub hung_is : IsHung M i Q hung_side hung_lies
  hung_is = record { cuts = record { meet = hung_meet; three = hung_three; uses = hung_uses }; root = hung_root; start = hung_start }
