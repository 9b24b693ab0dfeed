-- Links of two columns by a sequence of rows, and the rows that a chord of the sequence skips.
use Rattle.std.proofs.Common.{◌≡◌, ◌≢◌, ◌<◌, ◌≤◌, ◌+◌, ◌⊎◌, inl, inr, ◌∙◌, ℕ, zero, suc, Bool, true, false, cond, nat_le, nat_lt, ℤ, pos, sym, ap, subst, arith}
use Rattle.std.proofs.lemmas.Bool.{cases_lt}
use Rattle.std.proofs.lemmas.Bool.Decides.{nat_tests}
use Rattle.cmr_base.specs.Signing.{IsSign}
use Rattle.cmr_base.specs.Matrix.{IsEntry}
use Rattle.ghouila.proofs.SignedSums.{zero_or_sign}

module _ (M : ℕ → ℕ → ℤ) (small : (i j : ℕ) → IsEntry (M i j)) (P : ℕ → Type 0) (Q : ℕ → Type 0) where
  -- k rows, each of which joins two consecutive columns; the rows are in P and the inner columns in Q
  pub record Linked (x y k : ℕ) : Type 0 where
    pub row : ℕ → ℕ
    pub col : ℕ → ℕ
    pub here : (i : ℕ) → i < k → IsSign (M (row i) (col i))
    pub next : (i : ℕ) → i < k → IsSign (M (row i) (col (suc i)))
    pub starts : col 0 ≡ x
    pub ends : col k ≡ y
    pub rows : (i : ℕ) → i < k → P (row i)
    pub inner : (j : ℕ) → 0 < j → j < k → Q (col j)

  -- columns up to i, then columns from i + 1 + d on
  column_jump : ℕ → ℕ → (ℕ → ℕ) → ℕ → ℕ
  column_jump i d f x = cond (nat_le x i) (f x) (f (x + d))

  column_jump_low : (i d : ℕ) (f : ℕ → ℕ) (x : ℕ) → x ≤ i → column_jump i d f x ≡ f x
  unfolding column_jump
  column_jump_low i d f x l = ap (λ (t : Bool). cond t (f x) (f (x + d))) (test x i l)
    where
      test : (x i : ℕ) → x ≤ i → nat_le x i ≡ true
      test x i l = grind (arith, nat_tests)

  column_jump_high : (i d : ℕ) (f : ℕ → ℕ) (x : ℕ) → i < x → column_jump i d f x ≡ f (x + d)
  unfolding column_jump
  column_jump_high i d f x l = ap (λ (t : Bool). cond t (f x) (f (x + d))) (test x i l)
    where
      test : (x i : ℕ) → i < x → nat_le x i ≡ false
      test x i l = grind (arith, nat_tests)

  -- rows before i, then rows from i + d on
  row_jump : ℕ → ℕ → (ℕ → ℕ) → ℕ → ℕ
  row_jump i d f x = cond (nat_lt x i) (f x) (f (x + d))

  row_jump_low : (i d : ℕ) (f : ℕ → ℕ) (x : ℕ) → x < i → row_jump i d f x ≡ f x
  unfolding row_jump
  row_jump_low i d f x l = ap (λ (t : Bool). cond t (f x) (f (x + d))) (test x i l)
    where
      test : (x i : ℕ) → x < i → nat_lt x i ≡ true
      test x i l = grind (arith, nat_tests)

  row_jump_high : (i d : ℕ) (f : ℕ → ℕ) (x : ℕ) → i ≤ x → row_jump i d f x ≡ f (x + d)
  unfolding row_jump
  row_jump_high i d f x l = ap (λ (t : Bool). cond t (f x) (f (x + d))) (test x i l)
    where
      test : (x i : ℕ) → i ≤ x → nat_lt x i ≡ false
      test x i l = grind (arith, nat_tests)

  -- row i reaches a later column i + 1 + d, so the link can skip the columns between
  pub forward : (x y n k i b d : ℕ) → n ≡ k + d → b ≡ suc i + d → (w : Linked x y n) → i < k → IsSign (M (w.row i) (w.col b)) → Linked x y k
  forward x y n k i b d long far w l chord = record {
    row = column_jump i d w.row;
    col = column_jump i d w.col;
    here = λ a m. elim (cases_lt i a) [
      | inl lt ↦ rw (column_jump_high i d w.row a lt, column_jump_high i d w.col a lt) (w.here (a + d) (omega arith))
      | inr ge ↦ rw (column_jump_low i d w.row a ge, column_jump_low i d w.col a ge) (w.here a (omega arith))
    ];
    next = λ a m. elim (cases_lt i a) [
      | inl lt ↦ rw (column_jump_high i d w.row a lt, column_jump_high i d w.col (suc a) (omega arith)) (shifted a (w.next (a + d) (omega arith)))
      | inr ge ↦ elim (cases_lt a i) [
        | inl lt ↦ rw (column_jump_low i d w.row a ge, column_jump_low i d w.col (suc a) lt) (w.next a (omega arith))
        | inr ge' ↦ let e : i ≡ a = omega arith in
            rw (column_jump_low i d w.row a ge, column_jump_high i d w.col (suc a) (omega arith)) (subst (λ (z : ℕ). IsSign (M (w.row z) (w.col (suc z + d)))) e (subst (λ (z : ℕ). IsSign (M (w.row i) (w.col z))) far chord))
      ]
    ];
    starts = column_jump_low i d w.col 0 (omega arith) ∙ w.starts;
    ends = column_jump_high i d w.col k l ∙ (ap w.col (sym long) ∙ w.ends);
    rows = λ a m. elim (cases_lt i a) [
      | inl lt ↦ rw (column_jump_high i d w.row a lt) (w.rows (a + d) (omega arith))
      | inr ge ↦ rw (column_jump_low i d w.row a ge) (w.rows a (omega arith))
    ];
    inner = λ a p m. elim (cases_lt i a) [
      | inl lt ↦ rw (column_jump_high i d w.col a lt) (w.inner (a + d) (omega arith) (omega arith))
      | inr ge ↦ rw (column_jump_low i d w.col a ge) (w.inner a p (omega arith))
    ];
  }
    where
      shifted : (a : ℕ) → IsSign (M (w.row (a + d)) (w.col (suc (a + d)))) → IsSign (M (w.row (a + d)) (w.col (suc a + d)))
      shifted a h = let e : suc (a + d) ≡ suc a + d = omega arith in subst (λ (b : ℕ). IsSign (M (w.row (a + d)) (w.col b))) e h

  -- row j + d reaches an earlier column j, so the link can skip the columns between
  pub backward : (x y n k j b d : ℕ) → n ≡ k + d → b ≡ j + d → (w : Linked x y n) → 0 < d → j < k → IsSign (M (w.row b) (w.col j)) → Linked x y k
  backward x y n k j b d long far w p l chord = record {
    row = row_jump j d w.row;
    col = column_jump j d w.col;
    here = λ a m. elim (cases_lt j a) [
      | inl lt ↦ rw (row_jump_high j d w.row a (omega arith), column_jump_high j d w.col a lt) (w.here (a + d) (omega arith))
      | inr ge ↦ elim (cases_lt a j) [
        | inl lt ↦ rw (row_jump_low j d w.row a lt, column_jump_low j d w.col a ge) (w.here a (omega arith))
        | inr ge' ↦ let e : j ≡ a = omega arith in
            rw (row_jump_high j d w.row a (omega arith), column_jump_low j d w.col a ge) (subst (λ (z : ℕ). IsSign (M (w.row (z + d)) (w.col z))) e (subst (λ (z : ℕ). IsSign (M (w.row z) (w.col j))) far chord))
      ]
    ];
    next = λ a m. elim (cases_lt a j) [
      | inl lt ↦ rw (row_jump_low j d w.row a lt, column_jump_low j d w.col (suc a) lt) (w.next a (omega arith))
      | inr ge ↦ rw (row_jump_high j d w.row a ge, column_jump_high j d w.col (suc a) (omega arith)) (shifted a (w.next (a + d) (omega arith)))
    ];
    starts = column_jump_low j d w.col 0 (omega arith) ∙ w.starts;
    ends = column_jump_high j d w.col k l ∙ (ap w.col (sym long) ∙ w.ends);
    rows = λ a m. elim (cases_lt a j) [
      | inl lt ↦ rw (row_jump_low j d w.row a lt) (w.rows a (omega arith))
      | inr ge ↦ rw (row_jump_high j d w.row a ge) (w.rows (a + d) (omega arith))
    ];
    inner = λ a p m. elim (cases_lt j a) [
      | inl lt ↦ rw (column_jump_high j d w.col a lt) (w.inner (a + d) (omega arith) (omega arith))
      | inr ge ↦ rw (column_jump_low j d w.col a ge) (w.inner a p (omega arith))
    ];
  }
    where
      shifted : (a : ℕ) → IsSign (M (w.row (a + d)) (w.col (suc (a + d)))) → IsSign (M (w.row (a + d)) (w.col (suc a + d)))
      shifted a h = let e : suc (a + d) ≡ suc a + d = omega arith in subst (λ (b : ℕ). IsSign (M (w.row (a + d)) (w.col b))) e h

  -- a chord: a row with a nonzero in a column that is not one of its two columns
  pub record Chord (row col : ℕ → ℕ) (k : ℕ) : Type 0 where
    pub at : ℕ
    pub to : ℕ
    pub at_in : at < k
    pub to_in : to ≤ k
    pub apart : (to ≢ at) × (to ≢ suc at)
    pub unit : IsSign (M (row at) (col to))

  row_chord : (row col : ℕ → ℕ) (k i : ℕ) → i < k → (n : ℕ) → n ≤ suc k → Chord row col k ⊎ ((j : ℕ) → j < n → j ≢ i → j ≢ suc i → M (row i) (col j) ≡ pos 0)
  row_chord row col k i l zero m = inr (λ j z d e. absurd (omega arith))
  row_chord row col k i l (suc n) m = elim (row_chord row col k i l n (omega arith)) [
    | inl c ↦ inl c
    | inr none ↦ here none (zero_or_sign (M (row i) (col n)) (small (row i) (col n))) (same n i) (same n (suc i))
  ]
    where
      same : (a b : ℕ) → (a ≡ b) ⊎ (a ≢ b)
      same a b = elim (cases_lt a b) [ inl lt ↦ inr (omega arith) | inr ge ↦ elim (cases_lt b a) [ inl lt ↦ inr (omega arith) | inr ge' ↦ inl (omega arith) ] ]

      more : ((j : ℕ) → j < n → j ≢ i → j ≢ suc i → M (row i) (col j) ≡ pos 0) → (n ≢ i → n ≢ suc i → M (row i) (col n) ≡ pos 0)
          → (j : ℕ) → j < suc n → j ≢ i → j ≢ suc i → M (row i) (col j) ≡ pos 0
      more none now j z d e = elim (cases_lt j n) [
        | inl lt ↦ none j lt d e
        | inr ge ↦ let q : n ≡ j = omega arith in subst (λ (x : ℕ). M (row i) (col x) ≡ pos 0) q (now (omega arith) (omega arith))
      ]

      here : ((j : ℕ) → j < n → j ≢ i → j ≢ suc i → M (row i) (col j) ≡ pos 0) → (M (row i) (col n) ≡ pos 0) ⊎ IsSign (M (row i) (col n)) → (n ≡ i) ⊎ (n ≢ i) → (n ≡ suc i) ⊎ (n ≢ suc i)
          → Chord row col k ⊎ ((j : ℕ) → j < suc n → j ≢ i → j ≢ suc i → M (row i) (col j) ≡ pos 0)
      here none (inl z) s t = inr (more none (λ d e. z))
      here none (inr u) (inl s) t = inr (more none (λ d e. absurd (d s)))
      here none (inr u) (inr s) (inl t) = inr (more none (λ d e. absurd (e t)))
      here none (inr u) (inr s) (inr t) = inl (record { at = i; to = n; at_in = l; to_in = omega arith; apart = (s, t); unit = u })

  pub find_chord : (row col : ℕ → ℕ) (k n : ℕ) → n ≤ k → Chord row col k ⊎ ((i j : ℕ) → i < n → j ≤ k → j ≢ i → j ≢ suc i → M (row i) (col j) ≡ pos 0)
  find_chord row col k zero l = inr (λ i j m z d e. absurd (omega arith))
  find_chord row col k (suc n) l = elim (find_chord row col k n (omega arith)) [
    | inl c ↦ inl c
    | inr none ↦ elim (row_chord row col k n l (suc k) (omega arith)) [
      | inl c ↦ inl c
      | inr now ↦ inr (λ i j m z d e. more none now i j m z d e)
    ]
  ]
    where
      more : ((i j : ℕ) → i < n → j ≤ k → j ≢ i → j ≢ suc i → M (row i) (col j) ≡ pos 0) → ((j : ℕ) → j < suc k → j ≢ n → j ≢ suc n → M (row n) (col j) ≡ pos 0)
          → (i j : ℕ) → i < suc n → j ≤ k → j ≢ i → j ≢ suc i → M (row i) (col j) ≡ pos 0
      more none now i j m z d e = elim (cases_lt i n) [
        | inl lt ↦ none i j lt z d e
        | inr ge ↦ let q : n ≡ i = omega arith in subst (λ (x : ℕ). M (row x) (col j) ≡ pos 0) q (now j (omega arith) (omega arith) (omega arith))
      ]
