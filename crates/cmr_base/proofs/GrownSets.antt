-- Each start has a closure: a least closed set that contains it.
use Rattle.std.proofs.Common.{◌≡◌, ◌<◌, ◌≤◌, ◌+◌, ◌⊎◌, inl, inr, ◌∙◌, ℕ, ℤ, zero, suc, Bool, true, false, not, cond, nat_eq, List, [], ◌∷◌, ap, ap₂, sym, subst, refl, arith}
use Rattle.std.proofs.lemmas.Bool.{false≢true}
use Rattle.std.proofs.lemmas.Bool.Decides.{nat_tests, Decides-int_eq}
use Rattle.std.specs.Ordering.{int_eq}
use Rattle.cmr_base.specs.declared.line.Line.{Line}
use Rattle.cmr_base.specs.declared.line.Line.TheVariants.{Row, Column}
use Rattle.cmr_base.specs.Separations.{Lines}
use Rattle.cmr_base.specs.Seeds.{IsLine, IsClosed, HasAll, IsGrown}
use Rattle.cmr_base.proofs.Booleans.{eq_of}
use Rattle.cmr_base.proofs.Lists.{all_weaker}
use Rattle.cmr_base.proofs.ListedLines.{contains_first_lines, first_lines_contain}
use Rattle.cmr_base.proofs.LineCounts.{count_outside, count_same, inside_more, same, same_line, line_same}

pub int_dec : (a b : ℤ) → (a ≡ b) ⊎ (a ≡ b → ⊥)
int_dec a b = go (int_eq a b) refl
  where
    go : (t : Bool) → int_eq a b ≡ t → (a ≡ b) ⊎ (a ≡ b → ⊥)
    go true e = inl ((Decides-int_eq a b).0 e)
    go false e = inr (λ f. false≢true (sym e ∙ (Decides-int_eq a b).1 f))

-- P is true of each number below k, or false of one of them
below_all : (P : ℕ → Type 0) (k : ℕ) → ((x : ℕ) → P x ⊎ (P x → ⊥)) → ((x : ℕ) → x < k → P x) ⊎ ((x : ℕ) × (x < k) × (P x → ⊥))
below_all P zero d = inl (λ x l. absurd (omega arith))
below_all P (suc k) d = go (d k) (below_all P k d)
  where
    at_most : (x : ℕ) → P k → ((x : ℕ) → x < k → P x) → x < suc k → P x
    at_most x p h l = pick (nat_eq x k) refl
      where
        pick : (t : Bool) → nat_eq x k ≡ t → P x
        pick true e = subst P (sym (eq_of x k e)) p
        pick false e = h x (small x k l e)
          where
            small : (x k : ℕ) → x < suc k → nat_eq x k ≡ false → x < k
            small x k l e = grind (arith, nat_tests)

    go : P k ⊎ (P k → ⊥) → ((x : ℕ) → x < k → P x) ⊎ ((x : ℕ) × (x < k) × (P x → ⊥)) → ((x : ℕ) → x < suc k → P x) ⊎ ((x : ℕ) × (x < suc k) × (P x → ⊥))
    go (inr h) rest = inr (k, omega arith, h)
    go (inl p) (inr (x, l, h)) = inr (x, omega arith, h)
    go (inl p) (inl h) = inl (λ x l. at_most x p h l)

module _ (m n : ℕ) (M : ℕ → ℕ → ℤ) (upper lower : ℕ → ℕ → ℤ) where
  abbrev Keeps : Lines → ℕ → ℕ → Type 0
  Keeps T r c = (T (Row r) ≡ true → T (Column c) ≡ false → M r c ≡ upper r c) × (T (Row r) ≡ false → T (Column c) ≡ true → M r c ≡ lower r c)

  keeps : (T : Lines) (r c : ℕ) → Keeps T r c ⊎ (Keeps T r c → ⊥)
  keeps T r c = go (T (Row r)) (T (Column c)) (int_dec (M r c) (upper r c)) (int_dec (M r c) (lower r c))
    where
      go : (s t : Bool) → (M r c ≡ upper r c) ⊎ (M r c ≡ upper r c → ⊥) → (M r c ≡ lower r c) ⊎ (M r c ≡ lower r c → ⊥)
          → ((s ≡ true → t ≡ false → M r c ≡ upper r c) × (s ≡ false → t ≡ true → M r c ≡ lower r c)) ⊎ ((s ≡ true → t ≡ false → M r c ≡ upper r c) × (s ≡ false → t ≡ true → M r c ≡ lower r c) → ⊥)
      go true true x y = inl (λ e f. absurd (false≢true (sym f)), λ e f. absurd (false≢true (sym e)))
      go false false x y = inl (λ e f. absurd (false≢true e), λ e f. absurd (false≢true f))
      go true false (inl h) y = inl (λ e f. h, λ e f. absurd (false≢true f))
      go true false (inr h) y = inr (λ k. h (k.0 refl refl))
      go false true x (inl h) = inl (λ e f. absurd (false≢true e), λ e f. h)
      go false true x (inr h) = inr (λ k. h (k.1 refl refl))

  -- a line outside T that each closed set with T contains
  record Forced (T : Lines) : Type 0 where
    line : Line
    is : IsLine m n line
    out : T line ≡ false
    forced : (U : Lines) → IsClosed m n M upper lower U → ((x : Line) → IsLine m n x → T x ≡ true → U x ≡ true) → U line ≡ true

  next : (T : Lines) → IsClosed m n M upper lower T ⊎ Forced T
  next T = go (below_all (λ r. (c : ℕ) → c < n → Keeps T r c) m (λ r. each r (below_all (λ c. Keeps T r c) n (λ c. keeps T r c))))
    where
      each : (r : ℕ) → ((c : ℕ) → c < n → Keeps T r c) ⊎ ((c : ℕ) × (c < n) × (Keeps T r c → ⊥)) → ((c : ℕ) → c < n → Keeps T r c) ⊎ (((c : ℕ) → c < n → Keeps T r c) → ⊥)
      each r (inl h) = inl h
      each r (inr (c, l, h)) = inr (λ k. h (k c l))

      found : (r c : ℕ) → r < m → c < n → (s t : Bool) → T (Row r) ≡ s → T (Column c) ≡ t → (Keeps T r c → ⊥) → Forced T
      found r c l k true true e f h = absurd (h (λ _ g. absurd (false≢true (sym g ∙ f)), λ g _. absurd (false≢true (sym g ∙ e))))
      found r c l k false false e f h = absurd (h (λ g _. absurd (false≢true (sym e ∙ g)), λ _ g. absurd (false≢true (sym f ∙ g))))
      found r c l k true false e f h = record {
        line = Column c;
        is = k;
        out = f;
        forced = λ U closed has. yes (U (Column c)) refl (λ g. h (λ _ _. closed.upper r c (contains_first_lines m r l) (contains_first_lines n c k) (has (Row r) l e) g, λ g' _. absurd (false≢true (sym g' ∙ e))));
      }
        where
          yes : (t : Bool) {u : Bool} → u ≡ t → (u ≡ false → ⊥) → u ≡ true
          yes true e f = e
          yes false e f = absurd (f e)
      found r c l k false true e f h = record {
        line = Row r;
        is = l;
        out = e;
        forced = λ U closed has. yes (U (Row r)) refl (λ g. h (λ g' _. absurd (false≢true (sym e ∙ g')), λ _ _. closed.lower r c (contains_first_lines m r l) (contains_first_lines n c k) g (has (Column c) k f)));
      }
        where
          yes : (t : Bool) {u : Bool} → u ≡ t → (u ≡ false → ⊥) → u ≡ true
          yes true e f = e
          yes false e f = absurd (f e)

      column : (r : ℕ) → r < m → ((c : ℕ) → c < n → Keeps T r c) ⊎ ((c : ℕ) × (c < n) × (Keeps T r c → ⊥)) → (((c : ℕ) → c < n → Keeps T r c) → ⊥) → Forced T
      column r l (inl h) k = absurd (k h)
      column r l (inr (c, i, h)) k = found r c l i (T (Row r)) (T (Column c)) refl refl h

      go : ((r : ℕ) → r < m → (c : ℕ) → c < n → Keeps T r c) ⊎ ((r : ℕ) × (r < m) × (((c : ℕ) → c < n → Keeps T r c) → ⊥)) → IsClosed m n M upper lower T ⊎ Forced T
      go (inl h) = inl (record { upper = λ r c l k e f. (h r (first_lines_contain m r l) c (first_lines_contain n c k)).0 e f; lower = λ r c l k e f. (h r (first_lines_contain m r l) c (first_lines_contain n c k)).1 e f })
      go (inr (r, l, h)) = inr (column r l (below_all (λ c. Keeps T r c) n (λ c. keeps T r c)) h)

  -- the set with the line
  abbrev plus : Line → Lines → Lines
  plus x T y = cond (same x y) true (T y)

  fewer : (x : Line) (T : Lines) → IsLine m n x → T x ≡ false → count_outside m n T ≡ suc (count_outside m n (plus x T))
  fewer x T l e =
      inside_more m n x (λ y. not (T y)) l (ap not e)
      ∙ ap₂ (λ (a b : ℕ). suc (a + b))
      (count_same (λ r. cond (same x (Row r)) false (not (T (Row r)))) (λ r. not (cond (same x (Row r)) true (T (Row r)))) m (λ r _. turn (same x (Row r)) (T (Row r))))
      (count_same (λ c. cond (same x (Column c)) false (not (T (Column c)))) (λ c. not (cond (same x (Column c)) true (T (Column c)))) n (λ c _. turn (same x (Column c)) (T (Column c))))
    where
      turn : (s t : Bool) → cond s false (not t) ≡ not (cond s true t)
      turn true t = refl
      turn false t = refl

  plus_old : (x y : Line) (T : Lines) → T y ≡ true → plus x T y ≡ true
  plus_old x y T e = go (same x y)
    where
      go : (s : Bool) → cond s true (T y) ≡ true
      go true = refl
      go false = e

  plus_is : (x y : Line) (T : Lines) (P : Line → Type 0) → plus x T y ≡ true → P x → (T y ≡ true → P y) → P y
  plus_is x y T P e p f = go (same x y) refl e
    where
      go : (s : Bool) → same x y ≡ s → cond s true (T y) ≡ true → P y
      go true g h = subst P (line_same x y g) p
      go false g h = f h

  grow : (start : List Line) (k : ℕ) (T : Lines) → count_outside m n T ≤ k → HasAll T start
      → ((U : Lines) → IsClosed m n M upper lower U → HasAll U start → (x : Line) → IsLine m n x → T x ≡ true → U x ≡ true)
      → (S : Lines) × IsGrown m n M upper lower start S
  grow start zero T l has least = go (next T)
    where
      go : IsClosed m n M upper lower T ⊎ Forced T → (S : Lines) × IsGrown m n M upper lower start S
      go (inl closed) = (T, record { closed = closed; has = has; least = least })
      go (inr f) = absurd (plain (count_outside m n T) (count_outside m n (plus f.line T)) l (fewer f.line T f.is f.out))
        where
          plain : (a b : ℕ) → a ≤ 0 → a ≡ suc b → ⊥
          plain a b l e = omega arith
  grow start (suc k) T l has least = go (next T) (λ f. grow start k (plus f.line T) (plain (count_outside m n T) (count_outside m n (plus f.line T)) k l (fewer f.line T f.is f.out)) (all_weaker (λ x. T x ≡ true) (λ x. plus f.line T x ≡ true) (λ x e. plus_old f.line x T e) start has)
      (λ U closed hasU x i e. plus_is f.line x T (λ y. U y ≡ true) e (f.forced U closed (least U closed hasU)) (λ g. least U closed hasU x i g)))
    where
      plain : (a b k : ℕ) → a ≤ suc k → a ≡ suc b → b ≤ k
      plain a b k l e = omega arith

      go : IsClosed m n M upper lower T ⊎ Forced T → (Forced T → (S : Lines) × IsGrown m n M upper lower start S) → (S : Lines) × IsGrown m n M upper lower start S
      go (inl closed) more = (T, record { closed = closed; has = has; least = least })
      go (inr f) more = more f

  -- whether the line is in the list
  member : List Line → Lines
  member [] y = false
  member (z ∷ zs) y = cond (same z y) true (member zs y)

  all_members : (start : List Line) → HasAll (member start) start
  unfolding member
  all_members [] = tt
  all_members (z ∷ zs) = (rw (same_line z z refl) refl, all_weaker (λ x. member zs x ≡ true) (λ x. cond (same z x) true (member zs x) ≡ true) (λ x e. later (same z x) (member zs x) e) zs (all_members zs))
    where
      later : (s t : Bool) → t ≡ true → cond s true t ≡ true
      later true t e = refl
      later false t e = e

  members_within : (start : List Line) (U : Lines) → HasAll U start → (x : Line) → member start x ≡ true → U x ≡ true
  unfolding member
  members_within [] U has x e = absurd (false≢true e)
  members_within (z ∷ zs) U has x e = go (same z x) refl e (members_within zs U has.1 x)
    where
      go : (s : Bool) → same z x ≡ s → cond s true (member zs x) ≡ true → (member zs x ≡ true → U x ≡ true) → U x ≡ true
      go true f g more = subst (λ y. U y ≡ true) (line_same z x f) has.0
      go false f g more = more g

  pub grown_exists : (start : List Line) → (S : Lines) × IsGrown m n M upper lower start S
  grown_exists start = grow start (count_outside m n (member start)) (member start) (omega arith) (all_members start) (λ U closed has x l e. members_within start U has x e)
