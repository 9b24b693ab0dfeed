-- Breadth-first trees, step by step.
use Rattle.std.proofs.Common.{ℕ, suc, ◌%◌, Bool, true, false, cond, nat_eq, List, [], ◌∷◌, ◌++◌, ◌≡◌, ◌≢◌, ◌<◌, ◌≤◌, ◌∙◌, sym, ap, refl, arith, subst, ◌⊎◌, inl, inr, length, get_or}
use Rattle.std.proofs.lemmas.Bool.{cases_lt}
use Rattle.std.proofs.lemmas.List.{get_or_append_left}
use Rattle.std.proofs.Math.Seq.{get_or-append_seam}
use Rattle.cmr_base.specs.Members.{IsIn}
use Rattle.cmr_base.proofs.ListsWithout.{place_of, IsPlaceOf, place_is}
use Rattle.cmr_base.proofs.Members.{distinct_few, in-append, in_at}
use Rattle.cmr_base.proofs.RowLists.{in_or_not, not_both, is_eq, is_ne}
use Rattle.cmr_base.proofs.Lists.{length-more}
use Rattle.bridge_split.specs.Forests.{IsForest, IsSettledPair, AreSettledPairs, IsGrowingForest, IsGrownForest, IsReachingForest, IsConflict, IsTwoColoured}
use Rattle.bridge_split.proofs.GrowingLists.{once-append}

module _ (D : ℕ → ℕ → Bool) (count : ℕ) where
  -- the search reaches at most all numbers
  pub few_reached : (depth parent : ℕ → ℕ) (reached : List ℕ) → IsForest D count depth parent reached → length reached ≤ count
  few_reached depth parent reached are = distinct_few count reached are.once are.inside

  -- numbers that are reached, and numbers that are not
  pub not_reached : (depth parent : ℕ → ℕ) (reached : List ℕ) (x : ℕ) → IsForest D count depth parent reached → depth x ≡ 4294967295 → ¬ (IsIn x reached)
  not_reached depth parent reached x are e h = go (place_is x reached h)
    where
      go : IsPlaceOf x reached (place_of x reached) → ⊥
      go p =
          let l = are.low (place_of x reached) p.in_range in
          let f : depth (get_or reached (place_of x reached) 0) ≡ depth x = ap depth p.there in
          let m = p.in_range in
          let s = few_reached depth parent reached are in
          let k = are.few in omega arith

  pub was_reached : (depth parent : ℕ → ℕ) (reached : List ℕ) (x : ℕ) → IsForest D count depth parent reached → depth x ≢ 4294967295 → IsIn x reached
  was_reached depth parent reached x are n = elim (in_or_not x reached) [ inl h ↦ h | inr m ↦ absurd (n (are.unreached x m)) ]

  module _ (depth parent : ℕ → ℕ) (reached : List ℕ) (are : IsForest D count depth parent reached) (x k d : ℕ) (depth' parent' : ℕ → ℕ)
      (inside : x < count) (none : depth x ≡ 4294967295) (now : depth' x ≡ d) (same : (z : ℕ) → z ≢ x → depth' z ≡ depth z) (now_up : parent' x ≡ k) (same_up : (z : ℕ) → z ≢ x → parent' z ≡ parent z) where
    new : ¬ (IsIn x reached)
    new = not_reached depth parent reached x are none

    other_than : (z : ℕ) → IsIn z reached → z ≢ x
    other_than z h e = new (subst (λ (v : ℕ). IsIn v reached) e h)

    old : (z : ℕ) → IsIn z reached → depth' z ≡ depth z
    old z h = same z (other_than z h)

    there : (z : ℕ) → IsIn z reached ⊎ (z ≡ x) → IsIn z (reached ++ x ∷ [])
    there z h = (in-append reached x z).1 h

    at_place : (p : ℕ) → p < length reached → get_or (reached ++ x ∷ []) p 0 ≡ get_or reached p 0
    at_place p l = get_or_append_left reached (x ∷ []) 0 p l

    len : length (reached ++ x ∷ []) ≡ suc (length reached)
    len = length-more reached x

    still_settled : (a y : ℕ) → IsIn a reached → IsSettledPair D count depth reached a y → IsSettledPair D count depth' (reached ++ x ∷ []) a y
    still_settled a y h s = record { there = there y (inl s.there); parity = λ e. s.parity (ap (λ (v : ℕ). v % 2) (sym (old y s.there)) ∙ e ∙ ap (λ (v : ℕ). v % 2) (old a h)) }

    all_settled : (head : ℕ) → head ≤ length reached → AreSettledPairs D count depth reached head → AreSettledPairs D count depth' (reached ++ x ∷ []) head
    all_settled head l settled p y m inside n e =
        let q = at_place p (omega arith) in
        subst (λ (a : ℕ). IsSettledPair D count depth' (reached ++ x ∷ []) a y) (sym q)
        (still_settled (get_or reached p 0) y (in_at reached p (omega arith))
        (settled p y m inside (λ f. n (q ∙ f)) (subst (λ (a : ℕ). D a y ≡ true) q e)))

    -- with a root for the new number
    module _ (r : ℕ) (low : d ≤ length reached) (top : d ≡ 0 → r ≡ x) (up : 0 < d → IsIn k reached × (d ≡ suc (depth k)) × (D x k ≡ true) × (r ≡ are.root k)) where
      root' : ℕ → ℕ
      root' z = cond (nat_eq z x) r (are.root z)

      root_now : root' x ≡ r
      unfolding root'
      root_now = ap (λ (t : Bool). cond t r (are.root x)) (is_eq x x refl)

      root_same : (z : ℕ) → z ≢ x → root' z ≡ are.root z
      unfolding root'
      root_same z n = ap (λ (t : Bool). cond t r (are.root z)) (is_ne z x n)

      pub reach_more : (w : IsForest D count depth' parent' (reached ++ x ∷ [])) × (w.root x ≡ r) × ((z : ℕ) → IsIn z reached → w.root z ≡ are.root z)
      reach_more = (
        record {
          root = root';
          inside = λ z h. elim ((in-append reached x z).0 h) [ inl g ↦ are.inside z g | inr e ↦ subst (λ (v : ℕ). v < count) (sym e) inside ];
          once = once-append reached x are.once new;
          low = λ p l. elim (cases_lt p (length reached)) [
            | inl lt ↦
                let e : depth' (get_or (reached ++ x ∷ []) p 0) ≡ depth (get_or reached p 0) = ap depth' (at_place p lt) ∙ old (get_or reached p 0) (in_at reached p lt) in
                let m = are.low p lt in omega arith
            | inr ge ↦
                let q : p ≡ length reached = let m = len in omega arith in
                let e : depth' (get_or (reached ++ x ∷ []) p 0) ≡ d = ap (λ (v : ℕ). depth' (get_or (reached ++ x ∷ []) v 0)) q ∙ ap depth' (get_or-append_seam reached x [] 0) ∙ now in omega arith
          ];
          unreached = λ z h. same z (λ e. h (there z (inr e))) ∙ are.unreached z (λ g. h (there z (inl g)));
          top = λ z h e. tops z ((in-append reached x z).0 h) e;
          up = λ z h l. ups z ((in-append reached x z).0 h) l;
          few = are.few;
        },
        root_now,
        λ z h. root_same z (other_than z h),
      )
        where
          tops : (z : ℕ) → IsIn z reached ⊎ (z ≡ x) → depth' z ≡ 0 → root' z ≡ z
          tops z (inl h) e = root_same z (other_than z h) ∙ are.top z h (sym (old z h) ∙ e)
          tops z (inr q) e = ap root' q ∙ root_now ∙ top (sym now ∙ ap depth' (sym q) ∙ e) ∙ sym q

          ups : (z : ℕ) → IsIn z reached ⊎ (z ≡ x) → 0 < depth' z
              → IsIn (parent' z) (reached ++ x ∷ []) × (depth' z ≡ suc (depth' (parent' z))) × (D z (parent' z) ≡ true) × (root' z ≡ root' (parent' z))
          ups z (inl h) l =
              let n = other_than z h in
              let u = are.up z h (subst (λ (v : ℕ). 0 < v) (old z h) l) in
              let e : parent' z ≡ parent z = same_up z n in
              subst (λ (v : ℕ). IsIn v (reached ++ x ∷ []) × (depth' z ≡ suc (depth' v)) × (D z v ≡ true) × (root' z ≡ root' v)) (sym e)
              (there (parent z) (inl u.0), old z h ∙ u.1 ∙ ap suc (sym (old (parent z) u.0)), u.2, root_same z n ∙ u.3 ∙ sym (root_same (parent z) (other_than (parent z) u.0)))
          ups z (inr q) l =
              let u = up (let e : depth' z ≡ d = ap depth' q ∙ now in omega arith) in
              subst (λ (v : ℕ). IsIn (parent' v) (reached ++ x ∷ []) × (depth' v ≡ suc (depth' (parent' v))) × (D v (parent' v) ≡ true) × (root' v ≡ root' (parent' v))) (sym q)
              (subst (λ (v : ℕ). IsIn v (reached ++ x ∷ []) × (depth' x ≡ suc (depth' v)) × (D x v ≡ true) × (root' x ≡ root' v)) (sym now_up)
              (there k (inl u.0), now ∙ u.1 ∙ ap suc (sym (old k u.0)), u.2, root_now ∙ u.3 ∙ sym (root_same k (other_than k u.0))))

    -- a root
    pub root_reached : d ≡ 0 → AreSettledPairs D count depth reached (length reached) → IsGrowingForest D count depth' parent' (reached ++ x ∷ []) (length reached)
    root_reached e settled =
        let more = reach_more x (omega arith) (λ f. refl) (λ l. absurd (omega arith)) in
        record {
          are = more.0;
          settled = all_settled (length reached) (omega arith) settled;
          origin = x;
          current = λ p l m.
              let q : p ≡ length reached = let f = len in omega arith in
              ap (λ (v : ℕ). more.0.root (get_or (reached ++ x ∷ []) v 0)) q ∙ ap more.0.root (get_or-append_seam reached x [] 0) ∙ more.1;
          fits = let f = len in omega arith;
        }

  -- ---- among the numbers joined to the number at head

  module _ (depth parent : ℕ → ℕ) (reached : List ℕ) (head upto : ℕ) (w : IsReachingForest D count depth parent reached head upto) (l : head < length reached) where
    -- the search reaches another number
    pub joined_reached : (k d : ℕ) (depth' parent' : ℕ → ℕ) → upto < count → depth upto ≡ 4294967295 → depth' upto ≡ d
        → ((z : ℕ) → z ≢ upto → depth' z ≡ depth z) → parent' upto ≡ k → ((z : ℕ) → z ≢ upto → parent' z ≡ parent z)
        → k ≡ get_or reached head 0 → d ≡ suc (depth k) → D upto k ≡ true → IsReachingForest D count depth' parent' (reached ++ upto ∷ []) head (suc upto)
    joined_reached k d depth' parent' inside none now same now_up same_up k_is d_is join =
        let are = w.growing.are in
        let kin : IsIn k reached = subst (λ (v : ℕ). IsIn v reached) (sym k_is) (in_at reached head l) in
        let low : depth k ≤ head = subst (λ (v : ℕ). depth v ≤ head) (sym k_is) (are.low head l) in
        let more = reach_more depth parent reached are upto k d depth' parent' inside none now same now_up same_up (are.root k) (omega arith) (λ e. absurd (omega arith)) (λ m. (kin, d_is, join, refl)) in
        let at = at_place depth parent reached are upto k d depth' parent' inside none now same now_up same_up in
        let size = length-more reached upto in
        record {
          growing = record {
            are = more.0;
            settled = all_settled depth parent reached are upto k d depth' parent' inside none now same now_up same_up head (omega arith) w.growing.settled;
            origin = w.growing.origin;
            current = λ p m n. elim (cases_lt p (length reached)) [
              | inl lt ↦ ap more.0.root (at p lt) ∙ more.2 (get_or reached p 0) (in_at reached p lt) ∙ w.growing.current p m lt
              | inr ge ↦ let q : p ≡ length reached = omega arith in
                  ap (λ (v : ℕ). more.0.root (get_or (reached ++ upto ∷ []) v 0)) q ∙ ap more.0.root (get_or-append_seam reached upto [] 0) ∙ more.1 ∙ ap are.root k_is ∙ w.growing.current head (omega arith) l
            ];
            fits = omega arith;
          };
          so_far = λ y m n e.
              let f = at head l in
              subst (λ (a : ℕ). IsSettledPair D count depth' (reached ++ upto ∷ []) a y) (sym f) (elim (cases_lt y upto) [
                | inl lt ↦ still_settled depth parent reached are upto k d depth' parent' inside none now same now_up same_up (get_or reached head 0) y (in_at reached head l)
                    (w.so_far y lt (λ g. n (f ∙ g)) (subst (λ (a : ℕ). D a y ≡ true) f e))
                | inr ge ↦
                    let q : y ≡ upto = omega arith in
                    let a : depth' y ≡ d = ap depth' q ∙ now in
                    let b : depth' (get_or reached head 0) ≡ depth k = old depth parent reached are upto k d depth' parent' inside none now same now_up same_up (get_or reached head 0) (in_at reached head l) ∙ ap depth (sym k_is) in
                    record { there = (in-append reached upto y).1 (inr q); parity = λ g. odd (depth k) (sym (ap (λ (v : ℕ). v % 2) (a ∙ d_is)) ∙ g ∙ ap (λ (v : ℕ). v % 2) b) }
              ]);
        }
      where
        odd : (n : ℕ) → suc n % 2 ≡ n % 2 → ⊥
        odd n e = omega arith

    -- a number that is not joined, or is settled
    pub passes : (get_or reached head 0 ≡ upto) ⊎ ((D (get_or reached head 0) upto ≡ false) ⊎ IsSettledPair D count depth reached (get_or reached head 0) upto)
        → IsReachingForest D count depth parent reached head (suc upto)
    passes h = record {
      growing = w.growing;
      so_far = λ y m n e. elim (cases_lt y upto) [
        | inl lt ↦ w.so_far y lt n e
        | inr ge ↦
            let q : upto ≡ y = omega arith in
            elim h [
              | inl f ↦ absurd (n (f ∙ q))
              | inr g ↦ elim g [
                | inl f ↦ absurd (not_both (D (get_or reached head 0) y) e (ap (D (get_or reached head 0)) (sym q) ∙ f))
                | inr s ↦ subst (IsSettledPair D count depth reached (get_or reached head 0)) q s
              ]
            ]
      ];
    }

    -- all numbers are settled
    pub head_settled : count ≤ upto → IsGrowingForest D count depth parent reached (suc head)
    head_settled m = record {
      are = w.growing.are;
      settled = λ p y k inside n e. elim (cases_lt p head) [
        | inl lt ↦ w.growing.settled p y lt inside n e
        | inr ge ↦
            let q : head ≡ p = omega arith in
            subst (λ (v : ℕ). IsSettledPair D count depth reached (get_or reached v 0) y) q
            (w.so_far y (omega arith) (λ f. n (ap (λ (v : ℕ). get_or reached v 0) (sym q) ∙ f)) (ap (λ (v : ℕ). D (get_or reached v 0) y) q ∙ e))
      ];
      origin = w.growing.origin;
      current = λ p k n. w.growing.current p (omega arith) n;
      fits = omega arith;
    }

    -- a number with a depth of the same parity
    pub conflict_here : D (get_or reached head 0) upto ≡ true → D upto (get_or reached head 0) ≡ true → get_or reached head 0 ≢ upto → depth upto ≢ 4294967295
        → depth upto % 2 ≡ depth (get_or reached head 0) % 2
        → IsConflict D count depth parent reached (get_or reached head 0) upto
    conflict_here join back other some parity =
        let h = was_reached depth parent reached upto w.growing.are some in
        record {
          tree = record { are = w.growing.are; one_in = in_at reached head l; two_in = h; same = w.growing.current head (omega arith) l ∙ sym (in_tree (place_is upto reached h)) };
          other = other;
          joined = join;
          parity = parity;
        }
      where
        in_tree : IsPlaceOf upto reached (place_of upto reached) → w.growing.are.root upto ≡ w.growing.origin
        in_tree p = elim (cases_lt (place_of upto reached) head) [
          | inl lt ↦
              let s = w.growing.settled (place_of upto reached) (get_or reached head 0) lt (w.growing.are.inside (get_or reached head 0) (in_at reached head l)) (λ e. other (sym e ∙ p.there))
              (subst (λ (v : ℕ). D v (get_or reached head 0) ≡ true) (sym p.there) back) in
              absurd (s.parity (sym parity ∙ ap (λ (v : ℕ). depth v % 2) (sym p.there)))
          | inr ge ↦ ap w.growing.are.root (sym p.there) ∙ w.growing.current (place_of upto reached) ge p.in_range
        ]

  -- ---- from one tree to the next

  pub none_reached : (depth parent : ℕ → ℕ) → count ≤ 1000 → ((x : ℕ) → depth x ≡ 4294967295) → IsGrownForest D count depth parent []
  none_reached depth parent few free = record {
    are = record {
      root = λ x. x;
      inside = λ x h. absurd h;
      once = tt;
      low = λ p l. absurd (omega arith);
      unreached = λ x h. free x;
      top = λ x h. absurd h;
      up = λ x h. absurd h;
      few = few;
    };
    settled = λ p y l. absurd (omega arith);
  }

  pub tree_grown : (depth parent : ℕ → ℕ) (reached : List ℕ) (head : ℕ) → IsGrowingForest D count depth parent reached head → length reached ≤ head → IsGrownForest D count depth parent reached
  tree_grown depth parent reached head w l = record { are = w.are; settled = λ p y m. w.settled p y (omega arith) }

  pub all_grown : (depth parent : ℕ → ℕ) (reached : List ℕ) → IsGrownForest D count depth parent reached → ((x : ℕ) → x < count → IsIn x reached) → IsTwoColoured D count depth
  all_grown depth parent reached w all = record { parity = λ x y lx ly n e. go x y ly n e (place_is x reached (all x lx)) }
    where
      go : (x y : ℕ) → y < count → x ≢ y → D x y ≡ true → IsPlaceOf x reached (place_of x reached) → depth y % 2 ≢ depth x % 2
      go x y ly n e p f =
          (w.settled (place_of x reached) y p.in_range ly (λ g. n (sym p.there ∙ g)) (subst (λ (v : ℕ). D v y ≡ true) (sym p.there) e)).parity
          (f ∙ ap (λ (v : ℕ). depth v % 2) (sym p.there))
