-- Trails and their order.
use Rattle.std.proofs.Common.{ℕ, suc, List, [], ◌∷◌, ◌++◌, ◌≡◌, ◌≢◌, ◌<◌, ℤ, pos, ◌+ℤ◌, length, ◌⊎◌, inl, inr, ◌∙◌, sym, ap, refl, arith, subst}
use Rattle.std.proofs.lemmas.List.{append_cancel_right}
use Rattle.cmr_base.specs.CyclePlaces.{IsPath, IsNotAfter, path_sum}
use Rattle.cmr_base.proofs.Integers.{sums}
use Rattle.cmr_base.proofs.Lists.{length-more}
use Rattle.camion_sign.specs.Trails.{IsLess, IsShortlexBefore, IsUpTo, GoesOn, IsTrail, trail_end, trail_sum}

less_trans : (xs ys zs : List ℕ) → IsLess xs ys → IsLess ys zs → IsLess xs zs
less_trans [] ys zs a b = absurd a
less_trans (x ∷ xs) [] zs a b = absurd a
less_trans (x ∷ xs) (y ∷ ys) [] a b = absurd b
less_trans (x ∷ xs) (y ∷ ys) (z ∷ zs) (inl l) (inl m) = inl (omega arith)
less_trans (x ∷ xs) (y ∷ ys) (z ∷ zs) (inl l) (inr m) = inl (let e = m.0 in omega arith)
less_trans (x ∷ xs) (y ∷ ys) (z ∷ zs) (inr l) (inl m) = inl (let e = l.0 in omega arith)
less_trans (x ∷ xs) (y ∷ ys) (z ∷ zs) (inr l) (inr m) = inr (l.0 ∙ m.0, less_trans xs ys zs l.1 m.1)

pub before_trans : (xs ys zs : List ℕ) → IsShortlexBefore xs ys → IsShortlexBefore ys zs → IsShortlexBefore xs zs
before_trans xs ys zs (inl l) (inl m) = inl (omega arith)
before_trans xs ys zs (inl l) (inr m) = inl (let e = m.0 in omega arith)
before_trans xs ys zs (inr l) (inl m) = inl (let e = l.0 in omega arith)
before_trans xs ys zs (inr l) (inr m) = inr (l.0 ∙ m.0, less_trans xs ys zs l.1 m.1)

pub up_to_before : (xs ys zs : List ℕ) → IsUpTo xs ys → IsShortlexBefore ys zs → IsShortlexBefore xs zs
up_to_before xs ys zs (inl a) b = before_trans xs ys zs a b
up_to_before xs ys zs (inr e) b = subst (λ (v : List ℕ). IsShortlexBefore v zs) (sym e) b

pub before_up_to : (xs ys zs : List ℕ) → IsShortlexBefore xs ys → IsUpTo ys zs → IsShortlexBefore xs zs
before_up_to xs ys zs a (inl b) = before_trans xs ys zs a b
before_up_to xs ys zs a (inr e) = subst (IsShortlexBefore xs) e a

pub up_to_trans : (xs ys zs : List ℕ) → IsUpTo xs ys → IsUpTo ys zs → IsUpTo xs zs
up_to_trans xs ys zs (inl a) b = inl (before_up_to xs ys zs a b)
up_to_trans xs ys zs (inr e) b = subst (λ (v : List ℕ). IsUpTo v zs) (sym e) b

pub length_more : (xs : List ℕ) (r x : ℕ) → length (xs ++ r ∷ x ∷ []) ≡ suc (suc (length xs))
length_more [] r x = refl
length_more (y ∷ ys) r x = let e = length_more ys r x in omega arith

less_more : (xs ys us vs : List ℕ) → IsLess xs ys → IsLess (xs ++ us) (ys ++ vs)
less_more [] ys us vs l = absurd l
less_more (x ∷ xs) [] us vs l = absurd l
less_more (x ∷ xs) (y ∷ ys) us vs (inl l) = inl l
less_more (x ∷ xs) (y ∷ ys) us vs (inr l) = inr (l.0, less_more xs ys us vs l.1)

pub before_more : (xs ys : List ℕ) (r x s y : ℕ) → IsShortlexBefore xs ys → IsShortlexBefore (xs ++ r ∷ x ∷ []) (ys ++ s ∷ y ∷ [])
before_more xs ys r x s y (inl l) = inl (omega (arith, length_more xs r x, length_more ys s y))
before_more xs ys r x s y (inr l) = inr (length_more xs r x ∙ ap (λ (n : ℕ). suc (suc n)) l.0 ∙ sym (length_more ys s y), less_more xs ys (r ∷ x ∷ []) (s ∷ y ∷ []) l.1)

pub up_to_more : (xs ys : List ℕ) (r x : ℕ) → IsUpTo xs ys → IsUpTo (xs ++ r ∷ x ∷ []) (ys ++ r ∷ x ∷ [])
up_to_more xs ys r x (inl b) = inl (before_more xs ys r x r x b)
up_to_more xs ys r x (inr e) = inr (ap (λ (v : List ℕ). v ++ r ∷ x ∷ []) e)

next_less : (xs : List ℕ) (r x s y : ℕ) → (r < s) ⊎ ((r ≡ s) × (x < y)) → IsLess (xs ++ r ∷ x ∷ []) (xs ++ s ∷ y ∷ [])
next_less [] r x s y (inl l) = inl l
next_less [] r x s y (inr l) = inr (l.0, inl l.1)
next_less (z ∷ zs) r x s y l = inr (refl, next_less zs r x s y l)

-- of two trails that extend the same trail, the trail with the lesser row, or the lesser column, is before the other
pub next_before : (xs : List ℕ) (r x s y : ℕ) → (r < s) ⊎ ((r ≡ s) × (x < y)) → IsShortlexBefore (xs ++ r ∷ x ∷ []) (xs ++ s ∷ y ∷ [])
next_before xs r x s y l = inr (length_more xs r x ∙ sym (length_more xs s y), next_less xs r x s y l)

pub longer_before : (xs : List ℕ) (r x : ℕ) → IsShortlexBefore xs (xs ++ r ∷ x ∷ [])
longer_before xs r x = inl (omega (arith, length_more xs r x))

not_after_same : (xs : List ℕ) → IsNotAfter xs xs
not_after_same [] = tt
not_after_same (x ∷ xs) = inr (refl, not_after_same xs)

less_not_after : (xs ys : List ℕ) (d : ℕ) → length xs ≡ length ys → IsLess (xs ++ d ∷ []) (ys ++ d ∷ []) → IsNotAfter xs ys
less_not_after [] ys d e l = tt
less_not_after (x ∷ xs) [] d e l = absurd (omega arith)
less_not_after (x ∷ xs) (y ∷ ys) d e (inl l) = inl l
less_not_after (x ∷ xs) (y ∷ ys) d e (inr l) = inr (l.0, less_not_after xs ys d (omega arith) l.1)

-- the order of two trails restricts the lines before their last column
pub not_after : (xs ys : List ℕ) (d : ℕ) → IsUpTo (xs ++ d ∷ []) (ys ++ d ∷ []) → (length xs < length ys) ⊎ ((length xs ≡ length ys) × IsNotAfter xs ys)
not_after xs ys d (inr e) = let same = append_cancel_right xs ys (d ∷ []) e in inr (ap length same, subst (IsNotAfter xs) same (not_after_same xs))
not_after xs ys d (inl (inl l)) = inl (omega (arith, length-more xs d, length-more ys d))
not_after xs ys d (inl (inr l)) =
    let e : length xs ≡ length ys = let f = l.0 in omega (arith, length-more xs d, length-more ys d) in
    inr (e, less_not_after xs ys d e l.1)

module _ (M : ℕ → ℕ → ℤ) (t : ℕ) where
  goes_on : (x : ℕ) (lines : List ℕ) → M t x ≡ pos 0 → GoesOn M t x lines
  goes_on x [] z = tt
  goes_on x (r ∷ lines) z = z

  goes_is : (x : ℕ) (lines : List ℕ) (d : ℕ) → GoesOn M t x (lines ++ d ∷ []) → M t x ≡ pos 0
  goes_is x [] d g = g
  goes_is x (r ∷ lines) d g = g

  pub trail_more : (c : ℕ) (lines : List ℕ) (r x : ℕ) → IsTrail M t c lines → (lines ≡ []) ⊎ (M t (trail_end c lines) ≡ pos 0) → r < t
      → M r (trail_end c lines) ≢ pos 0 → M r x ≢ pos 0 → IsTrail M t c (lines ++ r ∷ x ∷ [])
  trail_more c [] r x h g l a b = (l, a, b, tt, tt)
  trail_more c (s ∷ []) r x h g l a b = absurd h
  trail_more c (s ∷ y ∷ lines) r x (k, d, e, o, more) (inl q) l a b = absurd (let n = ap length q in omega arith)
  trail_more c (s ∷ y ∷ lines) r x (k, d, e, o, more) (inr z) l a b = (k, d, e, go lines o z, trail_more y lines r x more (inr z) l a b)
    where
      go : (lines : List ℕ) → GoesOn M t y lines → M t (trail_end y lines) ≡ pos 0 → GoesOn M t y (lines ++ r ∷ x ∷ [])
      go [] o z = z
      go (v ∷ vs) o z = o

  pub end_more : (c : ℕ) (lines : List ℕ) (r x : ℕ) → IsTrail M t c lines → trail_end c (lines ++ r ∷ x ∷ []) ≡ x
  end_more c [] r x h = refl
  end_more c (s ∷ []) r x h = absurd h
  end_more c (s ∷ y ∷ lines) r x (k, d, e, o, more) = end_more y lines r x more

  pub sum_more : (V : ℕ → ℕ → ℤ) (c : ℕ) (lines : List ℕ) (r x : ℕ) → IsTrail M t c lines → trail_sum V c (lines ++ r ∷ x ∷ []) ≡ trail_sum V c lines +ℤ (V r (trail_end c lines) +ℤ V r x)
  sum_more V c [] r x h = plain (V r c +ℤ V r x)
    where
      plain : (a : ℤ) → a +ℤ pos 0 ≡ pos 0 +ℤ a
      plain a = omega (arith, sums)
  sum_more V c (s ∷ []) r x h = absurd h
  sum_more V c (s ∷ y ∷ lines) r x (k, d, e, o, more) =
      ap (λ (z : ℤ). (V s c +ℤ V s y) +ℤ z) (sum_more V y lines r x more)
      ∙ plain (V s c +ℤ V s y) (trail_sum V y lines) (V r (trail_end y lines) +ℤ V r x)
    where
      plain : (a b c : ℤ) → a +ℤ (b +ℤ c) ≡ (a +ℤ b) +ℤ c
      plain a b c = omega (arith, sums)

  -- a trail and its last step
  pub record HasLast (c : ℕ) (lines : List ℕ) : Type 0 where
    pub prefix : List ℕ
    pub row : ℕ
    pub column : ℕ
    pub lines_are : lines ≡ prefix ++ row ∷ column ∷ []
    pub trail : IsTrail M t c prefix
    pub goes : (prefix ≡ []) ⊎ (M t (trail_end c prefix) ≡ pos 0)
    pub early : row < t
    pub from : M row (trail_end c prefix) ≢ pos 0
    pub to : M row column ≢ pos 0

  pub last_step : (c : ℕ) (lines : List ℕ) → IsTrail M t c lines → (lines ≡ []) ⊎ HasLast c lines
  last_step c [] h = inl refl
  last_step c (r ∷ []) h = absurd h
  last_step c (r ∷ x ∷ []) (l, a, b, o, more) = inr (record { prefix = []; row = r; column = x; lines_are = refl; trail = tt; goes = inl refl; early = l; from = a; to = b })
  last_step c (r ∷ x ∷ s ∷ lines) (l, a, b, o, more) = go (last_step x (s ∷ lines) more)
    where
      go : (s ∷ lines ≡ []) ⊎ HasLast x (s ∷ lines) → (r ∷ x ∷ s ∷ lines ≡ []) ⊎ HasLast c (r ∷ x ∷ s ∷ lines)
      go (inl e) = absurd (let n = ap length e in omega arith)
      go (inr h) = inr (record {
        prefix = r ∷ x ∷ h.prefix;
        row = h.row;
        column = h.column;
        lines_are = ap (λ (v : List ℕ). r ∷ x ∷ v) h.lines_are;
        trail = (l, a, b, goes_on x h.prefix o, h.trail);
        goes = inr (elim h.goes [ inl e ↦ ap (λ (v : List ℕ). M t (trail_end x v)) e ∙ o | inr z ↦ z ]);
        early = h.early;
        from = h.from;
        to = h.to;
      })

  -- a path and its last column are a trail
  pub path_trail : (c d : ℕ) (lines : List ℕ) → IsPath M t c d lines → IsTrail M t c (lines ++ d ∷ []) × (trail_end c (lines ++ d ∷ []) ≡ d)
  path_trail c d [] h = absurd h
  path_trail c d (r ∷ []) (l, a, b) = ((l, a, b, tt, tt), refl)
  path_trail c d (r ∷ j ∷ lines) (l, a, b, z, more) = let v = path_trail j d lines more in ((l, a, b, goes_on j (lines ++ d ∷ []) z, v.0), v.1)

  pub trail_path : (V : ℕ → ℕ → ℤ) (c d : ℕ) (lines : List ℕ) → IsTrail M t c (lines ++ d ∷ []) → IsPath M t c d lines × (trail_sum V c (lines ++ d ∷ []) ≡ path_sum V c d lines)
  trail_path V c d [] h = absurd h
  trail_path V c d (r ∷ []) (l, a, b, o, more) = ((l, a, b), plain (V r c +ℤ V r d))
    where
      plain : (a : ℤ) → a +ℤ pos 0 ≡ a
      plain a = omega (arith, sums)
  trail_path V c d (r ∷ j ∷ lines) (l, a, b, o, more) = let v = trail_path V j d lines more in
      ((l, a, b, goes_is j lines d o, v.0), ap (λ (z : ℤ). (V r c +ℤ V r j) +ℤ z) v.1)
