-- Rows in sequence: signs of the columns, and the columns that the rows so far link.
use Rattle.std.proofs.Common.{ℕ, zero, suc, Bool, true, false, cond, ℤ, pos, List, [], ◌∷◌, ◌≡◌, ◌≢◌, ◌<◌, ◌*ℤ◌, ◌∙◌, sym, ap, refl, arith, subst, ◌⊎◌, inl, inr, nat_eq}
use Rattle.std.proofs.lemmas.Bool.{cases_lt}
use Rattle.cmr_base.specs.Signing.{IsSign}
use Rattle.cmr_base.specs.Matrix.{IsEntry}
use Rattle.cmr_base.proofs.Integers.{products}
use Rattle.ghouila.proofs.SignedSums.{zero_or_sign}
use Rattle.cmr_base.specs.CyclePlaces.{IsPath}
use Rattle.cmr_base.specs.Supports.{AgreeUpToSigns}
use Rattle.cmr_base.specs.Matrix.{is_nonzero}
use Rattle.ghouila.proofs.SignProducts.{sign-mul, sign_square, sign_nonzero}
use Rattle.ghouila.proofs.Ratios.{ratio}
use Rattle.cmr_base.proofs.Booleans.{eq_of, is_eq, is_nonzero_is, nonzero_is, true_is_false}

-- f at the greatest number below n that satisfies the test, and 1 if there is none
abbrev pub pick : (ℕ → Bool) → (ℕ → ℤ) → ℕ → ℤ
pick test f zero = pos 1
pick test f (suc n) = cond (test n) (f n) (pick test f n)

abbrev pub found : (ℕ → Bool) → ℕ → Bool
found test zero = false
found test (suc n) = cond (test n) true (found test n)

pub pick_unit : (test : ℕ → Bool) (f : ℕ → ℤ) (n : ℕ) → ((c : ℕ) → test c ≡ true → IsSign (f c)) → IsSign (pick test f n)
pick_unit test f zero h = inl refl
pick_unit test f (suc n) h = go (test n) refl (pick_unit test f n h)
  where
    go : (b : Bool) → test n ≡ b → IsSign (pick test f n) → IsSign (cond b (f n) (pick test f n))
    go true e rest = h n e
    go false e rest = rest

pub pick_is : (test : ℕ → Bool) (f : ℕ → ℤ) (n : ℕ) (v : ℤ) → ((c : ℕ) → test c ≡ true → f c ≡ v) → (c : ℕ) → c < n → test c ≡ true → pick test f n ≡ v
pick_is test f zero v h c l e = absurd (omega arith)
pick_is test f (suc n) v h c l e = go (test n) refl (λ lt. pick_is test f n v h c lt e)
  where
    go : (b : Bool) → test n ≡ b → (c < n → pick test f n ≡ v) → cond b (f n) (pick test f n) ≡ v
    go true z rest = h n z
    go false z rest = elim (cases_lt c n) [
      | inl lt ↦ rest lt
      | inr ge ↦ let q : c ≡ n = omega arith in true_is_false (sym e ∙ ap test q ∙ z)
    ]

pub found_is : (test : ℕ → Bool) (n : ℕ) → found test n ≡ true → (c : ℕ) × (c < n) × (test c ≡ true)
found_is test zero e = true_is_false (sym e)
found_is test (suc n) e = go (test n) refl e (found_is test n)
  where
    go : (b : Bool) → test n ≡ b → cond b true (found test n) ≡ true → (found test n ≡ true → (c : ℕ) × (c < n) × (test c ≡ true)) → (c : ℕ) × (c < suc n) × (test c ≡ true)
    go true z e again = (n, omega arith, z)
    go false z e again = let w = again e in (w.0, let l = w.1 in omega arith, w.2)

pub is_found : (test : ℕ → Bool) (n c : ℕ) → c < n → test c ≡ true → found test n ≡ true
is_found test zero c l e = absurd (omega arith)
is_found test (suc n) c l e = go (test n) refl (λ lt. is_found test n c lt e)
  where
    go : (b : Bool) → test n ≡ b → (c < n → found test n ≡ true) → cond b true (found test n) ≡ true
    go true z rest = refl
    go false z rest = elim (cases_lt c n) [
      | inl lt ↦ rest lt
      | inr ge ↦ let q : c ≡ n = omega arith in true_is_false (sym e ∙ ap test q ∙ z)
    ]

and_both : (a b : Bool) → cond a b false ≡ true → (a ≡ true) × (b ≡ true)
and_both true b e = (refl, e)
and_both false b e = true_is_false (sym e)

both_and : (a b : Bool) → a ≡ true → b ≡ true → cond a b false ≡ true
both_and a b e f = rw (e, f) refl

module _ (n : ℕ) (M N : ℕ → ℕ → ℤ)
    (small_m : (i j : ℕ) → IsEntry (M i j)) (small_n : (i j : ℕ) → IsEntry (N i j))
    (ends : (i j : ℕ) → M i j ≢ pos 0 → j < n)
    (same : (i j : ℕ) → M i j ≢ pos 0 → N i j ≢ pos 0)
    (back : (i j : ℕ) → M i j ≡ pos 0 → N i j ≡ pos 0)
    (forced : (s : ℕ → ℤ) (t c d : ℕ) (path : List ℕ) → ((j : ℕ) → IsSign (s j))
    → ((i : ℕ) → i < t → (a b : ℕ) → M i a ≢ pos 0 → M i b ≢ pos 0 → ratio M N s i a ≡ ratio M N s i b)
    → M t c ≢ pos 0 → M t d ≢ pos 0 → IsPath M t c d path → ratio M N s t c ≡ ratio M N s t d) where
  unit_m : (i j : ℕ) → M i j ≢ pos 0 → IsSign (M i j)
  unit_m i j h = elim (zero_or_sign (M i j) (small_m i j)) [ inl z ↦ absurd (h z) | inr u ↦ u ]

  unit_n : (i j : ℕ) → N i j ≢ pos 0 → IsSign (N i j)
  unit_n i j h = elim (zero_or_sign (N i j) (small_n i j)) [ inl z ↦ absurd (h z) | inr u ↦ u ]

  unit_ratio : (s : ℕ → ℤ) → ((j : ℕ) → IsSign (s j)) → (i j : ℕ) → M i j ≢ pos 0 → IsSign (ratio M N s i j)
  unit_ratio s units i j h = sign-mul (s j *ℤ M i j) (N i j) (sign-mul (s j) (M i j) (units j) (unit_m i j h)) (unit_n i j (same i j h))

  -- k steps, each by a row before t, from column c to column d
  abbrev Steps : ℕ → ℕ → ℕ → ℕ → Type 0
  Steps t zero c d = c ≡ d
  Steps t (suc k) c d = (r : ℕ) × (j : ℕ) × (r < t) × (M r c ≢ pos 0) × (M r j ≢ pos 0) × Steps t k j d

  abbrev Walk : ℕ → ℕ → ℕ → Type 0
  Walk t c d = (k : ℕ) × Steps t k c d

  append : (t k c e d : ℕ) → Steps t k c e → Walk t e d → Walk t c d
  append t zero c e d h w = subst (λ (x : ℕ). Walk t x d) (sym h) w
  append t (suc k) c e d (r, j, l, a, b, rest) w = let v = append t k j e d rest w in (suc v.0, (r, j, l, a, b, v.1))

  wider : (t k c d : ℕ) → Steps t k c d → Steps (suc t) k c d
  wider t zero c d h = h
  wider t (suc k) c d (r, j, l, a, b, rest) = (r, j, omega arith, a, b, wider t k j d rest)

  -- the rows before t agree up to the signs of the columns; columns have one part if these rows link them
  record Fitted (t : ℕ) : Type 0 where
    s : ℕ → ℤ
    units : (j : ℕ) → IsSign (s j)
    rows : (i : ℕ) → i < t → (a b : ℕ) → M i a ≢ pos 0 → M i b ≢ pos 0 → ratio M N s i a ≡ ratio M N s i b
    part : ℕ → ℕ
    joins : (i : ℕ) → i < t → (a b : ℕ) → M i a ≢ pos 0 → M i b ≢ pos 0 → part a ≡ part b
    links : (a b : ℕ) → part a ≡ part b → Walk t a b

  start : Fitted 0
  start = record {
    s = λ j. pos 1;
    units = λ j. inl refl;
    rows = λ i l. absurd (omega arith);
    part = λ x. x;
    joins = λ i l. absurd (omega arith);
    links = λ a b e. (0, e);
  }

  module _ (t : ℕ) (f : Fitted t) where
    -- a walk from column j, through columns in which row t is 0, to a column with the ratio of d
    record Reach (j d : ℕ) : Type 0 where
      e : ℕ
      touched : M t e ≢ pos 0
      near : ratio M N f.s t e ≡ ratio M N f.s t d
      way : (j ≡ e) ⊎ ((path : List ℕ) × IsPath M t j e path)

    reach : (k j d : ℕ) → M t d ≢ pos 0 → Steps t k j d → Reach j d
    reach zero j d touched h = record { e = d; touched = touched; near = refl; way = inl h }
    reach (suc k) j d touched (r, j', l, a, b, rest) = go (reach k j' d touched rest) (zero_or_sign (M t j') (small_m t j'))
      where
        go : Reach j' d → (M t j' ≡ pos 0) ⊎ IsSign (M t j') → Reach j d
        go w kind = elim w.way [
          | inl q ↦ record { e = w.e; touched = w.touched; near = w.near; way = inr (r ∷ [], (l, a, subst (λ (x : ℕ). M r x ≢ pos 0) q b)) }
          | inr p ↦ elim kind [
            | inl z ↦ record { e = w.e; touched = w.touched; near = w.near; way = inr (r ∷ j' ∷ p.0, (l, a, b, z, p.1)) }
            | inr u ↦ record {
              e = j';
              touched = sign_nonzero (M t j') u;
              near = forced f.s t j' w.e p.0 f.units f.rows (sign_nonzero (M t j') u) w.touched p.1 ∙ w.near;
              way = inr (r ∷ [], (l, a, b));
            }
          ]
        ]

    near : (c d : ℕ) → M t c ≢ pos 0 → M t d ≢ pos 0 → f.part c ≡ f.part d → ratio M N f.s t c ≡ ratio M N f.s t d
    near c d h g e = let v = f.links c d e in go (reach v.0 c d g v.1)
      where
        go : Reach c d → ratio M N f.s t c ≡ ratio M N f.s t d
        go w = elim w.way [
          | inl q ↦ ap (λ (x : ℕ). ratio M N f.s t x) q ∙ w.near
          | inr p ↦ forced f.s t c w.e p.0 f.units f.rows h w.touched p.1 ∙ w.near
        ]

    -- row t has a nonzero in column c, which is in part p
    abbrev hit : ℕ → ℕ → Bool
    hit p c = cond (is_nonzero (M t c)) (nat_eq (f.part c) p) false

    hit_is : (p c : ℕ) → hit p c ≡ true → (M t c ≢ pos 0) × (f.part c ≡ p)
    hit_is p c e = let w = and_both (is_nonzero (M t c)) (nat_eq (f.part c) p) e in (nonzero_is (M t c) w.0, eq_of (f.part c) p w.1)

    is_hit : (p c : ℕ) → M t c ≢ pos 0 → f.part c ≡ p → hit p c ≡ true
    is_hit p c h e = both_and (is_nonzero (M t c)) (nat_eq (f.part c) p) (is_nonzero_is (M t c) h) (is_eq (f.part c) p e)

    -- the factor of the columns of part p
    factor : ℕ → ℤ
    factor p = pick (hit p) (ratio M N f.s t) n

    factor_unit : (p : ℕ) → IsSign (factor p)
    unfolding factor
    factor_unit p = pick_unit (hit p) (ratio M N f.s t) n (λ c e. unit_ratio f.s f.units t c (hit_is p c e).0)

    factor_is : (j : ℕ) → M t j ≢ pos 0 → factor (f.part j) ≡ ratio M N f.s t j
    unfolding factor
    factor_is j h = pick_is (hit (f.part j)) (ratio M N f.s t) n (ratio M N f.s t j)
        (λ c e. let w = hit_is (f.part j) c e in near c j w.0 h w.1) j (ends t j h) (is_hit (f.part j) j h refl)

    abbrev s' : ℕ → ℤ
    s' j = f.s j *ℤ factor (f.part j)

    ratio_more : (m s q y : ℤ) → ((s *ℤ q) *ℤ m) *ℤ y ≡ ((s *ℤ m) *ℤ y) *ℤ q
    ratio_more m s q y = simp products

    rows' : (i : ℕ) → i < suc t → (a b : ℕ) → M i a ≢ pos 0 → M i b ≢ pos 0 → ratio M N s' i a ≡ ratio M N s' i b
    rows' i l a b h g = ratio_more (M i a) (f.s a) (factor (f.part a)) (N i a) ∙ go ∙ sym (ratio_more (M i b) (f.s b) (factor (f.part b)) (N i b))
      where
        one : (j : ℕ) → M t j ≢ pos 0 → ratio M N f.s t j *ℤ factor (f.part j) ≡ pos 1
        one j h = ap (λ (z : ℤ). ratio M N f.s t j *ℤ z) (factor_is j h) ∙ sign_square (ratio M N f.s t j) (unit_ratio f.s f.units t j h)

        at : i ≡ t → ratio M N f.s i a *ℤ factor (f.part a) ≡ ratio M N f.s i b *ℤ factor (f.part b)
        at e = subst (λ (x : ℕ). M x a ≢ pos 0 → M x b ≢ pos 0 → ratio M N f.s x a *ℤ factor (f.part a) ≡ ratio M N f.s x b *ℤ factor (f.part b)) (sym e) (λ h g. one a h ∙ sym (one b g)) h g

        go : ratio M N f.s i a *ℤ factor (f.part a) ≡ ratio M N f.s i b *ℤ factor (f.part b)
        go = elim (cases_lt i t) [
          | inl lt ↦ rw (f.rows i lt a b h g, f.joins i lt a b h g) refl
          | inr ge ↦ at (omega arith)
        ]

    units' : (j : ℕ) → IsSign (s' j)
    units' j = sign-mul (f.s j) (factor (f.part j)) (f.units j) (factor_unit (f.part j))

    -- the parts in which row t has a nonzero become the part of c0
    module _ (c0 : ℕ) (first : M t c0 ≢ pos 0) where
      met : ℕ → Bool
      met p = found (hit p) n

      met_is : (p : ℕ) → met p ≡ true → (c : ℕ) × (M t c ≢ pos 0) × (f.part c ≡ p)
      unfolding met
      met_is p e = let w = found_is (hit p) n e in let v = hit_is p w.0 w.2 in (w.0, v.0, v.1)

      is_met : (c : ℕ) → M t c ≢ pos 0 → met (f.part c) ≡ true
      unfolding met
      is_met c h = is_found (hit (f.part c)) n c (ends t c h) (is_hit (f.part c) c h refl)

      abbrev part' : ℕ → ℕ
      part' j = cond (met (f.part j)) (f.part c0) (f.part j)

      joins' : (i : ℕ) → i < suc t → (a b : ℕ) → M i a ≢ pos 0 → M i b ≢ pos 0 → part' a ≡ part' b
      joins' i l a b h g = elim (cases_lt i t) [
        | inl lt ↦ ap (λ (p : ℕ). cond (met p) (f.part c0) p) (f.joins i lt a b h g)
        | inr ge ↦ at (omega arith)
      ]
        where
          one : (j : ℕ) → M t j ≢ pos 0 → part' j ≡ f.part c0
          one j h = ap (λ (z : Bool). cond z (f.part c0) (f.part j)) (is_met j h)

          at : i ≡ t → part' a ≡ part' b
          at e = subst (λ (x : ℕ). M x a ≢ pos 0 → M x b ≢ pos 0 → part' a ≡ part' b) (sym e) (λ h g. one a h ∙ sym (one b g)) h g

      walk : (a b : ℕ) → f.part a ≡ f.part b → Walk (suc t) a b
      walk a b e = let w = f.links a b e in (w.0, wider t w.0 a b w.1)

      links' : (a b : ℕ) → part' a ≡ part' b → Walk (suc t) a b
      links' a b = go (met (f.part a)) (met (f.part b)) refl refl
        where
          through : (c : ℕ) × (M t c ≢ pos 0) × (f.part c ≡ f.part a) → (c : ℕ) × (M t c ≢ pos 0) × (f.part c ≡ f.part b) → Walk (suc t) a b
          through (c, h, e) (d, g, q) =
              let w = walk a c (sym e) in
              append (suc t) w.0 a c b w.1 (let v = walk d b q in (suc v.0, (t, d, omega arith, h, g, v.1)))

          go : (x y : Bool) → met (f.part a) ≡ x → met (f.part b) ≡ y → cond x (f.part c0) (f.part a) ≡ cond y (f.part c0) (f.part b) → Walk (suc t) a b
          go true true p q e = through (met_is (f.part a) p) (met_is (f.part b) q)
          go false false p q e = walk a b e
          go true false p q e = true_is_false (sym (is_met c0 first) ∙ ap met e ∙ q)
          go false true p q e = true_is_false (sym (is_met c0 first) ∙ ap met (sym e) ∙ p)

    no_row : ((c : ℕ) → M t c ≡ pos 0) → Fitted (suc t)
    no_row none = record {
      s = f.s;
      units = f.units;
      rows = λ i l a b h g. elim (cases_lt i t) [
        | inl lt ↦ f.rows i lt a b h g
        | inr ge ↦ absurd (let e : t ≡ i = omega arith in h (subst (λ (x : ℕ). M x a ≡ pos 0) e (none a)))
      ];
      part = f.part;
      joins = λ i l a b h g. elim (cases_lt i t) [
        | inl lt ↦ f.joins i lt a b h g
        | inr ge ↦ absurd (let e : t ≡ i = omega arith in h (subst (λ (x : ℕ). M x a ≡ pos 0) e (none a)))
      ];
      links = λ a b e. let w = f.links a b e in (w.0, wider t w.0 a b w.1);
    }

    some_row : (c0 : ℕ) → M t c0 ≢ pos 0 → Fitted (suc t)
    some_row c0 first = record { s = s'; units = units'; rows = rows'; part = part' c0 first; joins = joins' c0 first; links = links' c0 first }

    more : Fitted (suc t)
    more = go (found (λ c. is_nonzero (M t c)) n) refl
      where
        zero_or : (c : ℕ) → found (λ c. is_nonzero (M t c)) n ≡ false → M t c ≡ pos 0
        zero_or c e = elim (zero_or_sign (M t c) (small_m t c)) [
          | inl z ↦ z
          | inr u ↦ let h = sign_nonzero (M t c) u in true_is_false (sym (is_found (λ c. is_nonzero (M t c)) n c (ends t c h) (is_nonzero_is (M t c) h)) ∙ e)
        ]

        go : (b : Bool) → found (λ c. is_nonzero (M t c)) n ≡ b → Fitted (suc t)
        go true e = let w = found_is (λ c. is_nonzero (M t c)) n e in some_row w.0 (nonzero_is (M t w.0) w.2)
        go false e = no_row (λ c. zero_or c e)

  fitted : (t : ℕ) → Fitted t
  fitted zero = start
  fitted (suc t) = more t (fitted t)

  -- all rows agree, up to the signs of rows and columns
  pub agree : (m : ℕ) → ((i j : ℕ) → M i j ≢ pos 0 → i < m) → AgreeUpToSigns M N
  agree m rows_end = go (fitted m)
    where
      go : Fitted m → AgreeUpToSigns M N
      go f = record {
        row_sign = λ i. pick (λ c. is_nonzero (M i c)) (ratio M N f.s i) n;
        column_sign = f.s;
        row_signs = λ i. pick_unit (λ c. is_nonzero (M i c)) (ratio M N f.s i) n (λ c e. unit_ratio f.s f.units i c (nonzero_is (M i c) e));
        column_signs = f.units;
        entries = λ i j. elim (zero_or_sign (M i j) (small_m i j)) [
          | inl z ↦ rw (z, back i j z) (sym (plain_zero (pick (λ c. is_nonzero (M i c)) (ratio M N f.s i) n) (f.s j)))
          | inr u ↦ let h = sign_nonzero (M i j) u in
              rw (pick_is (λ c. is_nonzero (M i c)) (ratio M N f.s i) n (ratio M N f.s i j) (λ c e. f.rows i (rows_end i j h) c j (nonzero_is (M i c) e) h) j (ends i j h) (is_nonzero_is (M i j) h))
              (plain (M i j) (f.s j) (N i j) u (f.units j) (unit_n i j (same i j h)))
        ];
      }
        where
          plain_zero : (r s : ℤ) → r *ℤ (s *ℤ pos 0) ≡ pos 0
          plain_zero r s = simp products

          plain : (m s y : ℤ) → IsSign m → IsSign s → IsSign y → y ≡ ((s *ℤ m) *ℤ y) *ℤ (s *ℤ m)
          plain m s y (inl e) (inl f) (inl g) = rw (e, f, g) refl
          plain m s y (inl e) (inl f) (inr g) = rw (e, f, g) refl
          plain m s y (inl e) (inr f) (inl g) = rw (e, f, g) refl
          plain m s y (inl e) (inr f) (inr g) = rw (e, f, g) refl
          plain m s y (inr e) (inl f) (inl g) = rw (e, f, g) refl
          plain m s y (inr e) (inl f) (inr g) = rw (e, f, g) refl
          plain m s y (inr e) (inr f) (inl g) = rw (e, f, g) refl
          plain m s y (inr e) (inr f) (inr g) = rw (e, f, g) refl
