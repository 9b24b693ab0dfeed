-- The walk over joined rows, step by step.
use Rattle.std.proofs.Common.{ℕ, suc, Bool, true, false, not, List, [], ◌∷◌, ◌≡◌, ◌≢◌, ◌<◌, ◌≤◌, ◌∙◌, ◌&&◌, ◌||◌, sym, ap, refl, arith, subst, ◌⊎◌, inl, inr, length, get_or, cond, Option, Some, None}
use Rattle.std.specs.List.{filter}
use Rattle.std.specs.List.Sorted.{IsStrictlyIncreasing}
use Rattle.std.proofs.lemmas.Bool.{cases_lt, cases_eq, true≢false}
use Rattle.cmr_base.specs.Members.{IsIn}
use Rattle.cmr_base.specs.Splits.{AreJoined, AreLinked}
use Rattle.cmr_base.proofs.Places.{found_at}
use Rattle.cmr_base.proofs.RowLists.{not_both}
use Rattle.cmr_base.proofs.Submatrices.{increasing_places}
use Rattle.cmr_base.proofs.Booleans.{and_is, is_and, is_not, not_is, or_is, or_left, or_right}
use Rattle.bridge_split.specs.PartNumbers.{is_none, left_in, KeepsParts, IsPast, ArePartNumbers, AreMet, AreClosed, IsWalkingPart, IsBetween, ArePassedRows, IsTouched}
use Rattle.bridge_split.proofs.Links.{joined_back, linked_on, linked_from}

-- ---- optional numbers

abbrev value : Option ℕ → ℕ
value None = 0
value (Some a) = a

pub same_number : (o : Option ℕ) (a b : ℕ) → o ≡ Some a → o ≡ Some b → a ≡ b
same_number o a b e f = ap value (sym e ∙ f)

pub no_number : (o : Option ℕ) (a : ℕ) → o ≡ None → o ≡ Some a → ⊥
no_number o a e f = true≢false (ap is_none (sym e ∙ f))

pub some_or_none : (o : Option ℕ) → (o ≡ None) ⊎ ((a : ℕ) × (o ≡ Some a))
some_or_none None = inl refl
some_or_none (Some a) = inr (a, refl)

-- ---- the number of rows without a number decreases

module _ (part part' : ℕ → Option ℕ) (keeps : KeepsParts part part') where
  replaced : (k : ℕ) → is_none (part k) ≡ false → is_none (part' k) ≡ false
  replaced k e = go (some_or_none (part k))
    where
      go : (part k ≡ None) ⊎ ((a : ℕ) × (part k ≡ Some a)) → is_none (part' k) ≡ false
      go (inl f) = absurd (true≢false (sym (ap is_none f) ∙ e))
      go (inr (a, f)) = ap is_none (keeps k a f)

  pub not_more_left : (S : List ℕ) → left_in S part' ≤ left_in S part
  not_more_left [] = omega arith
  not_more_left (y ∷ ys) = go (is_none (part y)) (is_none (part' y)) (replaced y) (not_more_left ys)
    where
      go : (s t : Bool) → (s ≡ false → t ≡ false) → left_in ys part' ≤ left_in ys part
          → length (cond t (y ∷ filter (λ k. is_none (part' k)) ys) (filter (λ k. is_none (part' k)) ys)) ≤ length (cond s (y ∷ filter (λ k. is_none (part k)) ys) (filter (λ k. is_none (part k)) ys))
      go true true f l = omega arith
      go true false f l = omega arith
      go false true f l = absurd (true≢false (f refl))
      go false false f l = l

  pub one_less_left : (S : List ℕ) (x a : ℕ) → IsIn x S → part x ≡ None → part' x ≡ Some a → left_in S part' < left_in S part
  one_less_left [] x a h e f = absurd h
  one_less_left (y ∷ ys) x a h e f = go (is_none (part y)) (is_none (part' y)) refl refl h (replaced y) (not_more_left ys) (λ g. one_less_left ys x a g e f)
    where
      go : (s t : Bool) → is_none (part y) ≡ s → is_none (part' y) ≡ t → (x ≡ y) ⊎ IsIn x ys → (s ≡ false → t ≡ false) → left_in ys part' ≤ left_in ys part
          → (IsIn x ys → left_in ys part' < left_in ys part)
          → length (cond t (y ∷ filter (λ k. is_none (part' k)) ys) (filter (λ k. is_none (part' k)) ys)) < length (cond s (y ∷ filter (λ k. is_none (part k)) ys) (filter (λ k. is_none (part k)) ys))
      go true false p q h g l r = omega arith
      go true true p q (inl u) g l r = absurd (true≢false (sym q ∙ ap (λ k. is_none (part' k)) (sym u) ∙ ap is_none f))
      go true true p q (inr u) g l r = let k = r u in omega arith
      go false true p q h g l r = absurd (true≢false (g refl))
      go false false p q (inl u) g l r = absurd (true≢false (sym (ap is_none e) ∙ ap (λ k. is_none (part k)) u ∙ p))
      go false false p q (inr u) g l r = r u

module _ (M : ℕ → ℕ → Bool) (S : List ℕ) (i : ℕ) where
  -- ---- another row gets a number

  module _ (part : ℕ → Option ℕ) (number x : ℕ) (part' : ℕ → Option ℕ) (hx : IsIn x S) (off : x ≢ i) (none : part x ≡ None) (now : part' x ≡ Some number) (same : (z : ℕ) → z ≢ x → part' z ≡ part z) where
    pub kept : KeepsParts part part'
    kept k a e = same k (λ q. no_number (part x) a none (ap part (sym q) ∙ e)) ∙ e

    was : (k a : ℕ) → part' k ≡ Some a → (part k ≡ Some a) ⊎ ((k ≡ x) × (a ≡ number))
    was k a e = elim (cases_eq k x) [
      | inl q ↦ inr (q, same_number (part' x) a number (ap part' (sym q) ∙ e) now)
      | inr n ↦ inl (sym (same k n) ∙ e)
    ]

    past : (k a : ℕ) → IsPast a (part' k) → IsPast a (part k)
    past k a p = elim (cases_eq k x) [
      | inl q ↦ inl (ap part q ∙ none)
      | inr n ↦ subst (IsPast a) (same k n) p
    ]

    module _ (top : ℕ) (are : AreMet M S i part top) (low : top ≤ suc number) where
      others' : (k a : ℕ) → part' k ≡ Some a → IsIn k S × (k ≢ i) × (a < suc number)
      others' k a e = elim (was k a e) [
        | inl f ↦ let o = are.others k a f in (o.0, o.1, (let l = o.2 in omega arith))
        | inr p ↦ (subst (λ (v : ℕ). IsIn v S) (sym p.0) hx, (λ f. off (sym p.0 ∙ f)), (let l = p.1 in omega arith))
      ]

      links' : ((j : ℕ) → part j ≡ Some number → AreLinked M S i j x × AreLinked M S i x j) → (j k a : ℕ) → part' j ≡ Some a → part' k ≡ Some a → AreLinked M S i j k
      links' link j k a e f = go (was j a e) (was k a f)
        where
          go : (part j ≡ Some a) ⊎ ((j ≡ x) × (a ≡ number)) → (part k ≡ Some a) ⊎ ((k ≡ x) × (a ≡ number)) → AreLinked M S i j k
          go (inl g) (inl h) = are.linked j k a g h
          go (inl g) (inr p) = subst (AreLinked M S i j) (sym p.0) (link j (g ∙ ap Some p.1)).0
          go (inr p) (inl h) = subst (λ (v : ℕ). AreLinked M S i v k) (sym p.0) (link k (h ∙ ap Some p.1)).1
          go (inr p) (inr q) = ([], p.0 ∙ sym q.0)

      ordered' : (k a : ℕ) → IsIn k S → k ≢ i → a < top → IsPast a (part' k) → (j : ℕ) × (part' j ≡ Some a) × (j < k)
      ordered' k a hk nk l p = let r = are.ordered k a hk nk l (past k a p) in (r.0, kept r.0 a r.1, r.2)

      closed' : AreClosed M S i part number → AreClosed M S i part' number
      closed' closed j k a e l hk join = elim (was j a e) [
        | inl f ↦ kept k a (closed j k a f l hk join)
        | inr p ↦ absurd (let f = p.1 in omega arith)
      ]

    -- within a part
    pub meets : (reached reached' : ℕ → Bool) → IsWalkingPart M S i part number reached → (column : ℕ) → reached column ≡ true → M x column ≡ true
        → ((c : ℕ) → reached' c ≡ (reached c || (M x c && not (M i c)))) → IsWalkingPart M S i part' number reached'
    meets reached reached' w column here meet more = record {
      are = record {
        others = others' (suc number) w.are (omega arith);
        linked = links' (suc number) w.are (omega arith) link;
        filled = λ a l. let f = w.are.filled a l in (f.0, kept f.0 a f.1);
        ordered = ordered' (suc number) w.are (omega arith);
        few = w.are.few;
      };
      closed = closed' (suc number) w.are (omega arith) w.closed;
      into = λ c e. elim (or_is (reached c) (M x c && not (M i c)) (sym (more c) ∙ e)) [
        | inl f ↦ let k = w.into c f in (k.0, kept k.0 number k.1, k.2, k.3)
        | inr f ↦ let g = and_is (M x c) (not (M i c)) f in (x, now, g.0, not_is (M i c) g.1)
      ];
      from = λ k c e mk mi. more c ∙ elim (was k number e) [
        | inl f ↦ or_left (reached c) (M x c && not (M i c)) (w.from k c f mk mi)
        | inr p ↦ or_right (reached c) (M x c && not (M i c)) (is_and (M x c) (not (M i c)) (ap (λ (v : ℕ). M v c) (sym p.0) ∙ mk) (is_not (M i c) mi))
      ];
    }
      where
        link : (j : ℕ) → part j ≡ Some number → AreLinked M S i j x × AreLinked M S i x j
        link j e =
            let k = w.into column here in
            let join : AreJoined M i k.0 x = (column, k.3, k.2, meet) in
            let hk = (w.are.others k.0 number k.1).0 in (
              linked_on M S i j k.0 x (w.are.linked j k.0 number e k.1) hx join,
              linked_from M S i x k.0 j hk (joined_back M S i k.0 x join) (w.are.linked k.0 j number k.1 e),
            )

    -- the first row of a part
    pub starts : (reached' : ℕ → Bool) → IsStrictlyIncreasing S → IsBetween M S i part number → (place : ℕ) → place < length S → x ≡ get_or S place 0 → ArePassedRows M S i part place → number < 1000
        → ((c : ℕ) → reached' c ≡ (M x c && not (M i c))) → IsWalkingPart M S i part' number reached'
    starts reached' increases b place inside at before few more = record {
      are = record {
        others = others' number b.are (omega arith);
        linked = links' number b.are (omega arith) (λ j e. absurd (let l = (b.are.others j number e).2 in omega arith));
        filled = λ a l. elim (cases_lt a number) [
          | inl k ↦ let f = b.are.filled a k in (f.0, kept f.0 a f.1)
          | inr k ↦ let q : number ≡ a = omega arith in (x, now ∙ ap Some q)
        ];
        ordered = λ k a hk nk l p. elim (cases_lt a number) [
          | inl h ↦ ordered' number b.are (omega arith) k a hk nk h p
          | inr h ↦ let q : number ≡ a = omega arith in (x, now ∙ ap Some q, least k hk nk (subst (λ (v : ℕ). IsPast v (part' k)) (sym q) p))
        ];
        few = omega arith;
      };
      closed = closed' number b.are (omega arith) b.closed;
      into = λ c e. let g = and_is (M x c) (not (M i c)) (sym (more c) ∙ e) in (x, now, g.0, not_is (M i c) g.1);
      from = λ k c e mk mi. more c ∙ elim (was k number e) [
        | inl f ↦ absurd (let l = (b.are.others k number f).2 in omega arith)
        | inr p ↦ is_and (M x c) (not (M i c)) (ap (λ (v : ℕ). M v c) (sym p.0) ∙ mk) (is_not (M i c) mi)
      ];
    }
      where
        least : (k : ℕ) → IsIn k S → k ≢ i → IsPast number (part' k) → x < k
        least k hk nk p = go (found_at S k hk) (past k number p)
          where
            go : (q : ℕ) × (q < length S) × (get_or S q 0 ≡ k) → IsPast number (part k) → x < k
            go (q, l, e) (inr (b2, f, h)) = absurd (let m = (b.are.others k b2 f).2 in omega arith)
            go (q, l, e) (inl f) = elim (cases_lt q place) [
              | inl m ↦ elim (before.passed q m) [
                | inl g ↦ absurd (nk (sym e ∙ g))
                | inr g ↦ absurd (no_number (part k) g.0 f (ap part (sym e) ∙ g.1))
              ]
              | inr m ↦ elim (cases_lt place q) [
                | inl n ↦ let h = increasing_places S place q increases n l in omega (arith, h, e, at)
                | inr n ↦ absurd (let s : q ≡ place = omega arith in itself p (sym e ∙ ap (λ (v : ℕ). get_or S v 0) s ∙ sym at))
              ]
            ]
              where
                itself : IsPast number (part' k) → k ≡ x → ⊥
                itself (inl g) r = no_number (part' k) number g (ap part' r ∙ now)
                itself (inr (b2, g, h)) r = let s = same_number (part' k) b2 number g (ap part' r ∙ now) in omega arith

  -- ---- from one part to the next

  -- a part is complete if no row is touched
  pub part_done : (part : ℕ → Option ℕ) (number : ℕ) (reached : ℕ → Bool) → IsWalkingPart M S i part number reached
      → ((x : ℕ) → IsIn x S → ¬ (IsTouched M i part reached x)) → IsBetween M S i part (suc number)
  part_done part number reached w none = record {
    are = w.are;
    closed = λ j k a e l hk join. elim (cases_lt a number) [
      | inl m ↦ w.closed j k a e m hk join
      | inr m ↦ let q : a ≡ number = omega arith in go j k hk join (e ∙ ap Some q) (some_or_none (part k)) ∙ ap Some (sym q)
    ];
  }
    where
      go : (j k : ℕ) → IsIn k S → AreJoined M i j k → part j ≡ Some number → (part k ≡ None) ⊎ ((b : ℕ) × (part k ≡ Some b)) → part k ≡ Some number
      go j k hk (column, mi, mj, mk) e (inl f) = absurd (none k hk (((λ q. not_both (M i column) (subst (λ (v : ℕ). M v column ≡ true) q mk) mi), f), (column, w.from j column e mj mi, mk)))
      go j k hk (column, mi, mj, mk) e (inr (b, f)) = elim (cases_lt b number) [
        | inl l ↦ absurd (let s = same_number (part j) b number (w.closed k j b f l (w.are.others j number e).0 (column, mi, mk, mj)) e in omega arith)
        | inr l ↦ let o = (w.are.others k b f).2 in let q : b ≡ number = omega arith in f ∙ ap Some q
      ]

  -- the walk has passed all rows
  pub all_numbered : (part : ℕ → Option ℕ) (count place : ℕ) → IsBetween M S i part count → ArePassedRows M S i part place → length S ≤ place → ArePartNumbers M S i part count
  all_numbered part count place b before l = record {
    numbered = λ k h n. let f = every k h n in (f.0, (b.are.others k f.0 f.1).2, f.1);
    own = elim (some_or_none (part i)) [ inl e ↦ e | inr f ↦ absurd ((b.are.others i f.0 f.1).1 refl) ];
    linked = b.are.linked;
    joined = λ j k hj hk nj nk join. let f = every j hj nj in f.1 ∙ sym (b.closed j k f.0 f.1 (b.are.others j f.0 f.1).2 hk join);
    filled = λ a m. let f = b.are.filled a m in let o = b.are.others f.0 a f.1 in (f.0, o.0, o.1, f.1);
    ordered = λ k a c e m.
        let o = b.are.others k c e in
        let r = b.are.ordered k a o.0 o.1 (let h = o.2 in omega arith) (inr (c, e, m)) in
        let s = b.are.others r.0 a r.1 in (r.0, s.0, s.1, r.1, r.2);
    few = b.are.few;
  }
    where
      every : (k : ℕ) → IsIn k S → k ≢ i → (a : ℕ) × (part k ≡ Some a)
      every k h n = go (found_at S k h)
        where
          go : (q : ℕ) × (q < length S) × (get_or S q 0 ≡ k) → (a : ℕ) × (part k ≡ Some a)
          go (q, m, e) = elim (before.passed q (omega arith)) [
            | inl f ↦ absurd (n (sym e ∙ f))
            | inr f ↦ (f.0, ap part (sym e) ∙ f.1)
          ]
