-- Paths as lists of line numbers, and as functions of the position.
use Rattle.std.proofs.Common.{ℕ, zero, suc, ℤ, pos, List, [], ◌∷◌, ◌≡◌, ◌≢◌, ◌<◌, ◌≤◌, ◌+◌, ◌-◌, ◌+ℤ◌, ◌∙◌, sym, ap, refl, arith, subst, ◌⊎◌, inl, inr, length, map}
use Rattle.std.proofs.lemmas.Bool.{cases_lt}
use Rattle.std.specs.List.{AllByRecursion}
use Rattle.cmr_base.specs.Sums.{sum_over}
use Rattle.cmr_base.specs.Signing.{IsSign}
use Rattle.cmr_base.specs.Matrix.{IsEntry}
use Rattle.ghouila.proofs.Cycles.{below}
use Rattle.ghouila.proofs.Cycles.{IsCycle}
use Rattle.cmr_base.proofs.Integers.{sums}
use Rattle.cmr_base.proofs.SumLaws.{sum_over-map, sum_over_same}
use Rattle.cmr_base.proofs.Lists.{all_of}
use Rattle.ghouila.proofs.SignProducts.{sign_nonzero}
use Rattle.ghouila.proofs.Cycles.{two_terms, cycle_sum, by_places, same_below}
use Rattle.ghouila.proofs.SignedSums.{zero_or_sign}
use Rattle.ghouila.proofs.Chords.{Linked, Chord, find_chord, forward, backward}
use Rattle.cmr_base.specs.Members.{IsIn, IsDistinct}
use Rattle.cmr_base.proofs.Members.{all_in}
use Rattle.cmr_base.specs.CyclePlaces.{IsPath, IsCyclePlace, path_rows, path_columns, path_sum, cycle_rows, cycle_columns}

-- x, then the values of f
abbrev pub before : ℕ → (ℕ → ℕ) → ℕ → ℕ
before x f zero = x
before x f (suc i) = f i

below_first : (n : ℕ) (f : ℕ → ℤ) → sum_over (below (suc n)) f ≡ f 0 +ℤ sum_over (below n) (λ i. f (suc i))
below_first zero f = refl
below_first (suc n) f = ap (λ (z : ℤ). f (suc n) +ℤ z) (below_first n f) ∙ swap (f (suc n)) (f 0) (sum_over (below n) (λ i. f (suc i)))
  where
    swap : (a b c : ℤ) → a +ℤ (b +ℤ c) ≡ b +ℤ (a +ℤ c)
    swap a b c = omega (arith, sums)

module _ (M : ℕ → ℕ → ℤ) (small : (i j : ℕ) → IsEntry (M i j)) (t : ℕ) where
  unit : (i j : ℕ) → M i j ≢ pos 0 → IsSign (M i j)
  unit i j h = elim (zero_or_sign (M i j) (small i j)) [ inl z ↦ absurd (h z) | inr u ↦ u ]

  abbrev Way : ℕ → ℕ → ℕ → Type 0
  Way x y k = Linked M small (λ r. r < t) (λ j. M t j ≡ pos 0) x y k

  -- a path by positions
  pub record Route (c d : ℕ) (path : List ℕ) : Type 1 where
    pub k : ℕ
    pub way : Way c d k
    pub long : 0 < k
    pub size : length path + 1 ≡ k + k
    pub rows_are : (f : ℕ → ℤ) → sum_over (path_rows path) f ≡ sum_over (below k) (λ i. f (way.row i))
    pub columns_are : (f : ℕ → ℤ) → sum_over (c ∷ d ∷ path_columns path) f ≡ sum_over (below (suc k)) (λ j. f (way.col j))
    pub rows_all : (P : ℕ → Type 0) → ((i : ℕ) → i < k → P (way.row i)) → AllByRecursion P (path_rows path)
    pub sum_is : (N : ℕ → ℕ → ℤ) → path_sum N c d path ≡ sum_over (below k) (λ i. N (way.row i) (way.col (suc i)) +ℤ N (way.row i) (way.col i))
    pub rows_distinct : ((i j : ℕ) → i < j → j < k → way.row i ≢ way.row j) → IsDistinct (path_rows path)
    pub columns_distinct : ((i j : ℕ) → i < j → j < suc k → way.col i ≢ way.col j) → IsDistinct (c ∷ d ∷ path_columns path)
    pub columns_all : (P : ℕ → Type 0) → ((j : ℕ) → j < suc k → P (way.col j)) → AllByRecursion P (c ∷ d ∷ path_columns path)

  single : (c d r : ℕ) → r < t → M r c ≢ pos 0 → M r d ≢ pos 0 → Route c d (r ∷ [])
  single c d r l a b = record {
    k = 1;
    way = record {
      row = λ i. r;
      col = before c (λ i. d);
      here = here;
      next = λ i m. unit r d b;
      starts = refl;
      ends = refl;
      rows = λ i m. l;
      inner = λ j p m. absurd (omega arith);
    };
    long = omega arith;
    size = refl;
    rows_are = λ f. refl;
    columns_are = λ f. turn (f c) (f d);
    rows_all = λ P h. (h 0 (omega arith), tt);
    sum_is = λ N. turn' (N r c) (N r d);
    rows_distinct = λ h. ((λ x. x), tt);
    columns_distinct = λ h. (one h, ((λ x. x), tt));
    columns_all = λ P h. (h 0 (omega arith), (h 1 (omega arith), tt));
  }
    where
      here : (i : ℕ) → i < 1 → IsSign (M r (before c (λ i. d) i))
      here zero m = unit r c a
      here (suc i) m = absurd (omega arith)

      turn' : (a b : ℤ) → a +ℤ b ≡ (b +ℤ a) +ℤ pos 0
      turn' a b = omega (arith, sums)

      one : ((i j : ℕ) → i < j → j < 2 → before c (λ i. d) i ≢ before c (λ i. d) j) → (c ≡ d) ⊎ ⊥ → ⊥
      one h (inl e) = h 0 1 (omega arith) (omega arith) e
      one h (inr x) = x

      turn : (a b : ℤ) → a +ℤ (b +ℤ pos 0) ≡ b +ℤ (a +ℤ pos 0)
      turn a b = omega (arith, sums)

  longer : (c d r j : ℕ) (rest : List ℕ) → r < t → M r c ≢ pos 0 → M r j ≢ pos 0 → M t j ≡ pos 0 → Route j d rest → Route c d (r ∷ j ∷ rest)
  longer c d r j rest l a b z q = record {
    k = suc q.k;
    way = record {
      row = before r q.way.row;
      col = before c q.way.col;
      here = here;
      next = next;
      starts = refl;
      ends = q.way.ends;
      rows = rows;
      inner = inner;
    };
    long = omega arith;
    size = let e = q.size in omega arith;
    rows_are = λ f. ap (λ (z : ℤ). f r +ℤ z) (q.rows_are f) ∙ sym (below_first q.k (λ i. f (before r q.way.row i)));
    columns_are = λ f. turn (f c) (f d) (f j) (sum_over (path_columns rest) f) (sum_over (below (suc q.k)) (λ i. f (q.way.col i))) (q.columns_are f) ∙ sym (below_first (suc q.k) (λ i. f (before c q.way.col i)));
    rows_all = λ P h. (h 0 (omega arith), q.rows_all P (λ i m. h (suc i) (omega arith)));
    sum_is = λ N. turn' (N r c) (N r j) (N r (q.way.col 0)) (path_sum N j d rest) (sum_over (below q.k) (λ i. N (q.way.row i) (q.way.col (suc i)) +ℤ N (q.way.row i) (q.way.col i))) (ap (N r) q.way.starts) (q.sum_is N)
        ∙ sym (below_first q.k (λ i. N (before r q.way.row i) (q.way.col i) +ℤ N (before r q.way.row i) (before c q.way.col i)));
    rows_distinct = λ h. (
      (λ g. all_in (λ x. r ≢ x) (path_rows rest) (q.rows_all (λ x. r ≢ x) (λ i m. h 0 (suc i) (omega arith) (omega arith))) r g refl),
      q.rows_distinct (λ i i' l m. h (suc i) (suc i') (omega arith) (omega arith)),
    );
    columns_distinct = λ h. columns_apart h (q.columns_distinct (λ i i' l m. h (suc i) (suc i') (omega arith) (omega arith))) (q.columns_all (λ x. c ≢ x) (λ i m. h 0 (suc i) (omega arith) (omega arith)));
    columns_all = λ P h. let w = q.columns_all P (λ i m. h (suc i) (omega arith)) in (h 0 (omega arith), (w.1.0, (w.0, w.1.1)));
  }
    where
      here : (i : ℕ) → i < suc q.k → IsSign (M (before r q.way.row i) (before c q.way.col i))
      here zero m = unit r c a
      here (suc i) m = q.way.here i (omega arith)

      next : (i : ℕ) → i < suc q.k → IsSign (M (before r q.way.row i) (q.way.col i))
      next zero m = subst (λ (x : ℕ). IsSign (M r x)) (sym q.way.starts) (unit r j b)
      next (suc i) m = q.way.next i (omega arith)

      rows : (i : ℕ) → i < suc q.k → before r q.way.row i < t
      rows zero m = l
      rows (suc i) m = q.way.rows i (omega arith)

      inner : (i : ℕ) → 0 < i → i < suc q.k → M t (before c q.way.col i) ≡ pos 0
      inner zero p m = absurd (omega arith)
      inner (suc zero) p m = subst (λ (x : ℕ). M t x ≡ pos 0) (sym q.way.starts) z
      inner (suc (suc i)) p m = q.way.inner (suc i) (omega arith) (omega arith)

      turn' : (a b e x v : ℤ) → e ≡ b → x ≡ v → (a +ℤ b) +ℤ x ≡ (e +ℤ a) +ℤ v
      turn' a b e x v f g = omega (arith, sums)

      columns_apart : ((i i' : ℕ) → i < i' → i' < suc (suc q.k) → before c q.way.col i ≢ before c q.way.col i') → IsDistinct (j ∷ d ∷ path_columns rest)
          → AllByRecursion (λ x. c ≢ x) (j ∷ d ∷ path_columns rest) → IsDistinct (c ∷ d ∷ j ∷ path_columns rest)
      columns_apart h (a, (b, e)) (x, (y, z)) = (first, (second, ((λ g. a (inr g)), e)))
        where
          first : (c ≡ d) ⊎ ((c ≡ j) ⊎ IsIn c (path_columns rest)) → ⊥
          first (inl g) = y g
          first (inr (inl g)) = x g
          first (inr (inr g)) = all_in (λ x. c ≢ x) (path_columns rest) z c g refl

          second : (d ≡ j) ⊎ IsIn d (path_columns rest) → ⊥
          second (inl g) = a (inl (sym g))
          second (inr g) = b g

      turn : (c d j x v : ℤ) → j +ℤ (d +ℤ x) ≡ v → c +ℤ (d +ℤ (j +ℤ x)) ≡ c +ℤ v
      turn c d j x v e = omega (arith, sums)

  pub route : (c d : ℕ) (path : List ℕ) → IsPath M t c d path → Route c d path
  route c d [] h = absurd h
  route c d (r ∷ []) (l, a, b) = single c d r l a b
  route c d (r ∷ j ∷ rest) (l, a, b, z, h) = longer c d r j rest l a b z (route j d rest h)

  -- the list of a path that functions describe
  pub path_of : (k x y : ℕ) → Way x y (suc k) → (path : List ℕ) × IsPath M t x y path × (length path ≡ suc (k + k))
  path_of zero x y w = (
    w.row 0 ∷ [],
    (
      w.rows 0 (omega arith),
      subst (λ (v : ℕ). M (w.row 0) v ≢ pos 0) w.starts (sign_nonzero (M (w.row 0) (w.col 0)) (w.here 0 (omega arith))),
      subst (λ (v : ℕ). M (w.row 0) v ≢ pos 0) w.ends (sign_nonzero (M (w.row 0) (w.col 1)) (w.next 0 (omega arith))),
    ),
    refl,
  )
  path_of (suc k) x y w = go (path_of k (w.col 1) y tail)
    where
      tail : Way (w.col 1) y (suc k)
      tail = record {
        row = λ i. w.row (suc i);
        col = λ i. w.col (suc i);
        here = λ i l. w.here (suc i) (omega arith);
        next = λ i l. w.next (suc i) (omega arith);
        starts = refl;
        ends = w.ends;
        rows = λ i l. w.rows (suc i) (omega arith);
        inner = λ j p l. w.inner (suc j) (omega arith) (omega arith);
      }

      go : ((path : List ℕ) × IsPath M t (w.col 1) y path × (length path ≡ suc (k + k))) → (path : List ℕ) × IsPath M t x y path × (length path ≡ suc (suc k + suc k))
      go (p, h, e) = (
        w.row 0 ∷ w.col 1 ∷ p,
        (
          w.rows 0 (omega arith),
          subst (λ (v : ℕ). M (w.row 0) v ≢ pos 0) w.starts (sign_nonzero (M (w.row 0) (w.col 0)) (w.here 0 (omega arith))),
          sign_nonzero (M (w.row 0) (w.col 1)) (w.next 0 (omega arith)),
          w.inner 1 (omega arith) (omega arith),
          h,
        ),
        omega arith,
      )

  -- the reversed path
  back : (k x y : ℕ) → Way x y k → Way y x k
  back k x y w = record {
    row = λ i. w.row (k - suc i);
    col = λ j. w.col (k - j);
    here = λ i l. subst (λ (v : ℕ). IsSign (M (w.row (k - suc i)) (w.col v))) (step k i l) (w.next (k - suc i) (omega arith));
    next = λ i l. w.here (k - suc i) (omega arith);
    starts = ap w.col (all k) ∙ w.ends;
    ends = ap w.col (none k) ∙ w.starts;
    rows = λ i l. w.rows (k - suc i) (omega arith);
    inner = λ j p l. w.inner (k - j) (omega arith) (omega arith);
  }
    where
      step : (k i : ℕ) → i < k → suc (k - suc i) ≡ k - i
      step k i l = omega arith

      all : (k : ℕ) → k - 0 ≡ k
      all k = omega arith

      none : (k : ℕ) → k - k ≡ 0
      none k = omega arith

  pub reversed : (c d : ℕ) (path : List ℕ) → IsPath M t c d path → (other : List ℕ) × IsPath M t d c other
  reversed c d path h = let q = route c d path h in go q.k q.long q.way
    where
      go : (k : ℕ) → 0 < k → Way c d k → (other : List ℕ) × IsPath M t d c other
      go zero l w = absurd (omega arith)
      go (suc k) l w = let v = path_of k d c (back (suc k) c d w) in (v.0, v.1)

  -- a shortest path has no chord
  no_shorter : (c d : ℕ) (path : List ℕ) → ((other : List ℕ) → IsPath M t c d other → length path ≤ length other) → (k : ℕ) → length path + 1 ≡ k + k → (n : ℕ) → 0 < n → n < k → Way c d n → ⊥
  no_shorter c d path short k size zero p l w = omega arith
  no_shorter c d path short k size (suc n) p l w = let v = path_of n c d w in let h = short v.0 v.1 in let e = v.2 in omega arith

  straight : (c d : ℕ) (path : List ℕ) → ((other : List ℕ) → IsPath M t c d other → length path ≤ length other) → (q : Route c d path)
      → (i j : ℕ) → i < q.k → j ≤ q.k → j ≢ i → j ≢ suc i → M (q.way.row i) (q.way.col j) ≡ pos 0
  straight c d path short q = go (find_chord M small (λ r. r < t) (λ j. M t j ≡ pos 0) q.way.row q.way.col q.k q.k (omega arith))
    where
      go : Chord M small (λ r. r < t) (λ j. M t j ≡ pos 0) q.way.row q.way.col q.k ⊎ ((i j : ℕ) → i < q.k → j ≤ q.k → j ≢ i → j ≢ suc i → M (q.way.row i) (q.way.col j) ≡ pos 0)
          → (i j : ℕ) → i < q.k → j ≤ q.k → j ≢ i → j ≢ suc i → M (q.way.row i) (q.way.col j) ≡ pos 0
      go (inr none) = none
      go (inl ch) = absurd (elim (cases_lt ch.at ch.to) [
        | inl lt ↦ no_shorter c d path short q.k q.size (q.k - (ch.to - suc ch.at)) (some ch.at ch.to q.k ch.at_in ch.to_in lt) (less ch.at ch.to q.k ch.at_in ch.to_in ch.apart lt)
            (forward M small (λ r. r < t) (λ j. M t j ≡ pos 0) c d q.k (q.k - (ch.to - suc ch.at)) ch.at ch.to (ch.to - suc ch.at) (whole ch.at ch.to q.k ch.at_in ch.to_in lt) (far ch.at ch.to lt) q.way (inside ch.at ch.to q.k ch.at_in ch.to_in lt) ch.unit)
        | inr ge ↦ no_shorter c d path short q.k q.size (q.k - (ch.at - ch.to)) (some' ch.at ch.to q.k ch.at_in ge) (less' ch.at ch.to q.k ch.at_in ch.apart ge)
            (backward M small (λ r. r < t) (λ j. M t j ≡ pos 0) c d q.k (q.k - (ch.at - ch.to)) ch.to ch.at (ch.at - ch.to) (whole' ch.at ch.to q.k ch.at_in ge) (far' ch.at ch.to ge) q.way (positive ch.at ch.to ch.apart ge) (inside' ch.at ch.to q.k ch.at_in ge) ch.unit)
      ])
        where
          some : (a b k : ℕ) → a < k → b ≤ k → a < b → 0 < k - (b - suc a)
          some a b k l m p = omega arith

          less : (a b k : ℕ) → a < k → b ≤ k → (b ≢ a) × (b ≢ suc a) → a < b → k - (b - suc a) < k
          less a b k l m p q = let d : b ≢ suc a = p.1 in omega arith

          whole : (a b k : ℕ) → a < k → b ≤ k → a < b → k ≡ (k - (b - suc a)) + (b - suc a)
          whole a b k l m q = omega arith

          far : (a b : ℕ) → a < b → b ≡ suc a + (b - suc a)
          far a b q = omega arith

          inside : (a b k : ℕ) → a < k → b ≤ k → a < b → a < k - (b - suc a)
          inside a b k l m q = omega arith

          some' : (a b k : ℕ) → a < k → b ≤ a → 0 < k - (a - b)
          some' a b k l q = omega arith

          less' : (a b k : ℕ) → a < k → (b ≢ a) × (b ≢ suc a) → b ≤ a → k - (a - b) < k
          less' a b k l p q = let d : b ≢ a = p.0 in omega arith

          whole' : (a b k : ℕ) → a < k → b ≤ a → k ≡ (k - (a - b)) + (a - b)
          whole' a b k l q = omega arith

          far' : (a b : ℕ) → b ≤ a → a ≡ b + (a - b)
          far' a b q = omega arith

          positive : (a b : ℕ) → (b ≢ a) × (b ≢ suc a) → b ≤ a → 0 < a - b
          positive a b p q = let d : b ≢ a = p.0 in omega arith

          inside' : (a b k : ℕ) → a < k → b ≤ a → b < k - (a - b)
          inside' a b k l q = omega arith

  -- each cycle place gives a cycle without chords
  pub place_cycle : (c d : ℕ) (path : List ℕ) → IsCyclePlace M t c d path → (q : Route c d path) → IsCycle M t q.k q.way.row q.way.col
  place_cycle c d path h q = record {
    long = q.long;
    here = q.way.here;
    next = q.way.next;
    none = straight c d path (λ other g. elim (h.least other g) [ inl lt ↦ omega arith | inr e ↦ let f = e.0 in omega arith ]) q;
    first = subst (λ (x : ℕ). IsSign (M t x)) (sym q.way.starts) (unit t c h.first);
    last = subst (λ (x : ℕ). IsSign (M t x)) (sym q.way.ends) (unit t d h.last);
    inner = q.way.inner;
  }

  -- the lines of the cycle are distinct
  pub rows_apart : (c d : ℕ) (path : List ℕ) → IsCyclePlace M t c d path → (q : Route c d path) → IsDistinct (cycle_rows t path)
  rows_apart c d path h q = (
    (λ g. let l : t < t = all_in (λ x. x < t) (path_rows path) (q.rows_all (λ x. x < t) q.way.rows) t g in omega arith),
    q.rows_distinct (λ i j l m e. sign_nonzero (M (q.way.row i) (q.way.col i)) (q.way.here i (omega arith))
        (subst (λ (x : ℕ). M x (q.way.col i) ≡ pos 0) (sym e) ((place_cycle c d path h q).none j i m (omega arith) (omega arith) (omega arith)))),
  )

  pub columns_apart : (c d : ℕ) (path : List ℕ) → IsCyclePlace M t c d path → (q : Route c d path) → IsDistinct (cycle_columns c d path)
  columns_apart c d path h q = q.columns_distinct (λ i j l m. apart (place_cycle c d path h q) i j l (omega arith))
    where
      -- row i meets column i; it meets column j only if j is i + 1, and then the row after it or row t separates the columns
      apart : IsCycle M t q.k q.way.row q.way.col → (i j : ℕ) → i < j → j ≤ q.k → q.way.col i ≢ q.way.col j
      apart y zero j l m e = elim (cases_lt j q.k) [
        | inl lt ↦ sign_nonzero (M t (q.way.col 0)) y.first (subst (λ (x : ℕ). M t x ≡ pos 0) (sym e) (y.inner j l lt))
        | inr ge ↦ first_last y j l m e (omega arith)
      ]
        where
          first_last : IsCycle M t q.k q.way.row q.way.col → (j : ℕ) → 0 < j → j ≤ q.k → q.way.col 0 ≡ q.way.col j → j ≡ q.k → ⊥
          first_last y j l m e f = let o = h.order in let g : c ≡ d = sym q.way.starts ∙ e ∙ ap q.way.col f ∙ q.way.ends in omega arith
      apart y (suc i) j l m e = sign_nonzero (M (q.way.row i) (q.way.col (suc i))) (y.next i (omega arith)) (subst (λ (x : ℕ). M (q.way.row i) x ≡ pos 0) (sym e) (y.none i j (omega arith) m (omega arith) (omega arith)))

  -- the sums of any function are the same by positions
  pub sum_by_places : (c d : ℕ) (path : List ℕ) (q : Route c d path) (N : ℕ → ℕ → ℤ)
      → sum_over (cycle_rows t path) (λ i. sum_over (cycle_columns c d path) (λ j. N i j)) ≡ cycle_sum N t q.k q.way.row q.way.col
  sum_by_places c d path q N =
      sum_over_same (t ∷ path_rows path) (λ i. sum_over (c ∷ d ∷ path_columns path) (λ j. N i j)) (λ i. sum_over (map q.way.col (below (suc q.k))) (λ j. N i j))
      (all_of _ (λ i. q.columns_are (λ j. N i j) ∙ sym (sum_over-map q.way.col (below (suc q.k)) (λ j. N i j))) (t ∷ path_rows path))
      ∙ ap (λ (z : ℤ). sum_over (map q.way.col (below (suc q.k))) (λ j. N t j) +ℤ z)
      (q.rows_are (λ i. sum_over (map q.way.col (below (suc q.k))) (λ j. N i j)) ∙ sym (sum_over-map q.way.row (below q.k) (λ i. sum_over (map q.way.col (below (suc q.k))) (λ j. N i j))))

  -- the sum of a cycle is the sum of row t plus the sum of the path
  pub place_sum : (c d : ℕ) (path : List ℕ) → IsCyclePlace M t c d path → (q : Route c d path)
      → sum_over (cycle_rows t path) (λ i. sum_over (cycle_columns c d path) (λ j. M i j)) ≡ (M t c +ℤ M t d) +ℤ path_sum M c d path
  place_sum c d path h q =
      sum_by_places c d path q M ∙ by_places M t q.k q.way.row q.way.col (place_cycle c d path h q)
      ∙ plain (M t (q.way.col q.k)) (M t (q.way.col 0)) (M t c) (M t d) (sum_over (below q.k) (λ i. sum_over (below (suc q.k)) (λ j. M (q.way.row i) (q.way.col j)))) (path_sum M c d path)
      (ap (M t) q.way.starts) (ap (M t) q.way.ends) (inner (place_cycle c d path h q) ∙ sym (q.sum_is M))
    where
      plain : (a b c d p s : ℤ) → b ≡ c → a ≡ d → p ≡ s → (a +ℤ b) +ℤ p ≡ (c +ℤ d) +ℤ s
      plain a b c d p s e f g = omega (arith, sums)

      inner : IsCycle M t q.k q.way.row q.way.col
          → sum_over (below q.k) (λ i. sum_over (below (suc q.k)) (λ j. M (q.way.row i) (q.way.col j))) ≡ sum_over (below q.k) (λ i. M (q.way.row i) (q.way.col (suc i)) +ℤ M (q.way.row i) (q.way.col i))
      inner y = same_below q.k (λ i. sum_over (below (suc q.k)) (λ j. M (q.way.row i) (q.way.col j))) (λ i. M (q.way.row i) (q.way.col (suc i)) +ℤ M (q.way.row i) (q.way.col i))
          (λ i l. two_terms (λ j. M (q.way.row i) (q.way.col j)) (suc q.k) i (omega arith) (λ j m a b. y.none i j l (omega arith) a b))
