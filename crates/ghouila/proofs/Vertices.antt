-- Vertices of linear programs with a totally unimodular matrix are integral.
use Rattle.std.proofs.Common.{◌≡◌, ◌<◌, ◌⊎◌, inl, inr, ◌+◌, ◌∙◌, ℕ, zero, suc, Bool, true, false, not, cond, ℤ, pos, negsuc, neg_ℤ, ◌+ℤ◌, ◌*ℤ◌, ◌-ℤ◌, ◌≤ℤ◌, ◌<ℤ◌, List, [], ◌∷◌, refl, ap, sym, subst, arith}
use Rattle.std.specs.List.{AllByRecursion}
use Rattle.std.proofs.lemmas.Bool.{cases_lt}
use Rattle.cmr_base.specs.Matrix.{Matrix, height, entry, is_nonzero}
use Rattle.cmr_base.specs.LineSets.{first_lines}
use Rattle.cmr_base.specs.Signing.{IsTotallyUnimodular}
use Rattle.cmr_base.specs.Sums.{sum_over}
use Rattle.cmr_base.proofs.Integers.{sums, products}
use Rattle.cmr_base.proofs.SumLaws.{sum_over-add, sum_over-scale, sum_over_same}
use Rattle.cmr_base.proofs.Lists.{all_of, all_weaker}
use Rattle.cmr_base.proofs.Members.{all_in}
use Rattle.cmr_base.proofs.IncreasingLists.{IncreasesIn, increases_from_lower, increases-range, increasing_below, increasing_row_set, increasing_column_set}
use Rattle.cmr_base.proofs.RemovedLines.{in_first_lines}
use Rattle.cmr_base.proofs.RowLists.{two_cases}
use Rattle.ghouila.specs.IntegralLaws.{IsMultiple, row_value, BasicSolutionsAreIntegral, IsFeasible, IsVertex, HasIntegralVertices}
use Rattle.ghouila.proofs.Expansions.{determinant_is}
use Rattle.ghouila.proofs.DeterminantLaw.{ghouila_houri, minors_on}
use Rattle.ghouila.proofs.Eliminations.{eliminated_regular, multiples, IsIndependent, eliminated_independent}
use Rattle.cmr_base.proofs.Booleans.{zero_is}

-- ---- basic solutions

pub basic_solutions : BasicSolutionsAreIntegral
basic_solutions m unimodular rows columns b y d s = multiples columns rows (entry m) b y d
    (eliminated_regular columns rows (entry m) (minors_on m ((ghouila_houri m).0 unimodular) rows columns s.row_set s.column_set)
    (λ e. s.regular (determinant_is (entry m) columns rows s.square ∙ e))) s.solves

-- ---- the lines that a test chooses

chosen : (ℕ → Bool) → List ℕ → List ℕ
chosen p [] = []
chosen p (x ∷ xs) = cond (p x) (x ∷ chosen p xs) (chosen p xs)

chosen_increases : (p : ℕ → Bool) (low high : ℕ) (xs : List ℕ) → IncreasesIn low high xs → IncreasesIn low high (chosen p xs)
unfolding chosen
chosen_increases p low high [] increases = tt
chosen_increases p low high (x ∷ xs) increases = go (p x) (chosen_increases p (x + 1) high xs increases.2)
  where
    go : (t : Bool) → IncreasesIn (x + 1) high (chosen p xs) → IncreasesIn low high (cond t (x ∷ chosen p xs) (chosen p xs))
    go true h = (increases.0, increases.1, h)
    go false h = increases_from_lower low (x + 1) high (chosen p xs) (omega (arith, increases.0)) h

-- all chosen lines have a property
all_chosen : (P : ℕ → Type 0) (p : ℕ → Bool) (xs : List ℕ) → AllByRecursion (λ x. p x ≡ true → P x) xs → AllByRecursion P (chosen p xs)
unfolding chosen
all_chosen P p [] h = tt
all_chosen P p (x ∷ xs) h = go (p x) refl (all_chosen P p xs h.1)
  where
    go : (t : Bool) → p x ≡ t → AllByRecursion P (chosen p xs) → AllByRecursion P (cond t (x ∷ chosen p xs) (chosen p xs))
    go true e all = (h.0 e, all)
    go false e all = all

from_chosen : (P : ℕ → Type 0) (p : ℕ → Bool) (xs : List ℕ) → AllByRecursion P (chosen p xs) → AllByRecursion (λ x. p x ≡ true → P x) xs
unfolding chosen
from_chosen P p [] h = tt
from_chosen P p (x ∷ xs) h = (first (p x) refl h, from_chosen P p xs (rest (p x) h))
  where
    first : (t : Bool) → p x ≡ t → AllByRecursion P (cond t (x ∷ chosen p xs) (chosen p xs)) → p x ≡ true → P x
    first true e all f = all.0
    first false e all f = absurd (clash (p x) e f)
      where
        clash : (t : Bool) → t ≡ false → t ≡ true → ⊥
        clash t e f = cc

    rest : (t : Bool) → AllByRecursion P (cond t (x ∷ chosen p xs) (chosen p xs)) → AllByRecursion P (chosen p xs)
    rest true all = all.1
    rest false all = all

-- the lines that are not chosen give 0
sum_chosen : (p : ℕ → Bool) (f : ℕ → ℤ) → ((x : ℕ) → p x ≡ false → f x ≡ pos 0) → (xs : List ℕ) → sum_over xs f ≡ sum_over (chosen p xs) f
unfolding chosen
sum_chosen p f zeros [] = refl
sum_chosen p f zeros (x ∷ xs) = go (p x) refl (sum_chosen p f zeros xs)
  where
    less : (a s t : ℤ) → a ≡ pos 0 → s ≡ t → a +ℤ s ≡ t
    less a s t e g = omega (arith, sums)

    go : (t : Bool) → p x ≡ t → sum_over xs f ≡ sum_over (chosen p xs) f → f x +ℤ sum_over xs f ≡ sum_over (cond t (x ∷ chosen p xs) (chosen p xs)) f
    go true e same = ap (λ z. f x +ℤ z) same
    go false e same = less (f x) (sum_over xs f) (sum_over (chosen p xs) f) (zeros x e) same

-- ---- integers

positive_by_test : (s : ℤ) → pos 0 ≤ℤ s → is_nonzero s ≡ true → pos 1 ≤ℤ s
positive_by_test (pos zero) l e = cc
positive_by_test (pos (suc n)) l e = omega (arith, sums)
positive_by_test (negsuc n) l e = absurd (omega (arith, sums))

pub product_not_below : (a b : ℤ) → pos 0 ≤ℤ a → pos 0 ≤ℤ b → pos 0 ≤ℤ (a *ℤ b)
product_not_below (pos a) (pos b) l k = omega (arith, sums)
product_not_below (pos a) (negsuc b) l k = absurd (omega (arith, sums))
product_not_below (negsuc a) b l k = absurd (omega (arith, sums))

-- a positive multiple is not smaller
pub multiple_at_least : (e s : ℤ) → pos 0 ≤ℤ e → pos 1 ≤ℤ s → e ≤ℤ (e *ℤ s)
multiple_at_least e s l k = plain e s (product_not_below e (s -ℤ pos 1) l (omega (arith, sums))) (split e s)
  where
    split : (e s : ℤ) → e *ℤ (s -ℤ pos 1) ≡ e *ℤ s -ℤ e
    split e s = simp products (omega (arith, sums))

    plain : (e s : ℤ) → pos 0 ≤ℤ (e *ℤ (s -ℤ pos 1)) → e *ℤ (s -ℤ pos 1) ≡ e *ℤ s -ℤ e → e ≤ℤ (e *ℤ s)
    plain e s l f = omega (arith, sums)

-- a bound on the absolute values of the first n numbers
pub record HasBound (n : ℕ) (f : ℕ → ℤ) : Type 0 where
  pub bound : ℤ
  pub positive : pos 1 ≤ℤ bound
  pub high : (k : ℕ) → k < n → f k ≤ℤ bound
  pub low : (k : ℕ) → k < n → neg_ℤ bound ≤ℤ f k

pub size : ℤ → ℤ
size (pos n) = pos n
size (negsuc n) = pos (suc n)

pub size_bounds : (z : ℤ) → (pos 0 ≤ℤ size z) × (z ≤ℤ size z) × (neg_ℤ (size z) ≤ℤ z)
unfolding size
size_bounds (pos n) = (omega (arith, sums), omega (arith, sums), omega (arith, sums))
size_bounds (negsuc n) = (omega (arith, sums), omega (arith, sums), omega (arith, sums))

pub has_bound : (n : ℕ) (f : ℕ → ℤ) → HasBound n f
has_bound zero f = record { bound = pos 1; positive = omega (arith, sums); high = λ k l. absurd (omega arith); low = λ k l. absurd (omega arith) }
has_bound (suc n) f = more (has_bound n f) (size_bounds (f n))
  where
    more : HasBound n f → (pos 0 ≤ℤ size (f n)) × (f n ≤ℤ size (f n)) × (neg_ℤ (size (f n)) ≤ℤ f n) → HasBound (suc n) f
    more h (least, up, down) = record {
      bound = h.bound +ℤ size (f n);
      positive = let p = h.positive in omega (arith, sums);
      high = λ k l. elim (below_or_last k l) [
        | inl lt ↦ let p = h.high k lt in omega (arith, sums)
        | inr e ↦ let p = h.positive in subst (λ (x : ℕ). f x ≤ℤ (h.bound +ℤ size (f n))) (sym e) (omega (arith, sums))
      ];
      low = λ k l. elim (below_or_last k l) [
        | inl lt ↦ let p = h.low k lt in omega (arith, sums)
        | inr e ↦ let p = h.positive in subst (λ (x : ℕ). neg_ℤ (h.bound +ℤ size (f n)) ≤ℤ f x) (sym e) (omega (arith, sums))
      ];
    }
      where
        below_or_last : (k : ℕ) → k < suc n → (k < n) ⊎ (k ≡ n)
        below_or_last k l = elim (cases_lt k n) [ inl lt ↦ inl lt | inr ge ↦ inr (omega arith) ]

-- ---- a vertex

module _ (m : Matrix) (unimodular : IsTotallyUnimodular m) (b y : ℕ → ℤ) (d : ℤ) (v : IsVertex m b y d) where
  abbrev all_columns : List ℕ
  all_columns = first_lines m.width

  -- the difference between the row's bound and its value
  abbrev slack : ℕ → ℤ
  slack i = d *ℤ b i -ℤ row_value m (first_lines m.width) y i

  abbrev is_tight : ℕ → Bool
  is_tight i = not (is_nonzero (d *ℤ b i -ℤ row_value m (first_lines m.width) y i))

  abbrev C : List ℕ
  C = chosen (λ j. is_nonzero (y j)) (first_lines m.width)

  abbrev R : List ℕ
  R = chosen is_tight (first_lines (height m))

  slack_not_below : (i : ℕ) → i < height m → pos 0 ≤ℤ slack i
  slack_not_below i l = plain (row_value m (first_lines m.width) y i) (d *ℤ b i) (v.feasible.rows i l)
    where
      plain : (a x : ℤ) → a ≤ℤ x → pos 0 ≤ℤ (x -ℤ a)
      plain a x l = omega (arith, sums)

  columns_increase : IncreasesIn 0 m.width C
  columns_increase = chosen_increases (λ j. is_nonzero (y j)) 0 m.width (first_lines m.width) (increases-range 0 m.width m.width (omega arith))

  rows_increase : IncreasesIn 0 (height m) R
  rows_increase = chosen_increases is_tight 0 (height m) (first_lines (height m)) (increases-range 0 (height m) (height m) (omega arith))

  -- a small move that keeps the tight rows and the zeros also keeps the point feasible
  moved : (e : ℤ) (z : ℕ → ℤ) → pos 1 ≤ℤ e
      → ((j : ℕ) → j < m.width → neg_ℤ e ≤ℤ z j) → ((j : ℕ) → is_nonzero (y j) ≡ false → z j ≡ pos 0)
      → ((i : ℕ) → i < height m → row_value m (first_lines m.width) z i ≤ℤ e) → ((i : ℕ) → i < height m → is_tight i ≡ true → row_value m (first_lines m.width) z i ≡ pos 0)
      → IsFeasible m b (λ j. e *ℤ y j +ℤ z j) (e *ℤ d)
  moved e z positive low zeros high tight = record {
    positive = long d v.feasible.positive;
    rows = λ i l. row i l (two_cases (is_nonzero (slack i)));
    columns = λ j l. column j l (two_cases (is_nonzero (y j)));
  }
    where
      least : pos 0 ≤ℤ e
      least = omega (arith, sums)

      long : (d : ℤ) → pos 0 <ℤ d → pos 0 <ℤ (e *ℤ d)
      long d l = let k = multiple_at_least e d least (omega (arith, sums)) in omega (arith, sums)

      column : (j : ℕ) → j < m.width → (is_nonzero (y j) ≡ true) ⊎ (is_nonzero (y j) ≡ false) → pos 0 ≤ℤ (e *ℤ y j +ℤ z j)
      column j l (inl t) = plain (e *ℤ y j) (z j) (multiple_at_least e (y j) least (positive_by_test (y j) (v.feasible.columns j l) t)) (low j l)
        where
          plain : (x z : ℤ) → e ≤ℤ x → neg_ℤ e ≤ℤ z → pos 0 ≤ℤ (x +ℤ z)
          plain x z l k = omega (arith, sums)
      column j l (inr t) = plain (y j) (z j) (zero_is (y j) t) (zeros j t)
        where
          plain : (y z : ℤ) → y ≡ pos 0 → z ≡ pos 0 → pos 0 ≤ℤ (e *ℤ y +ℤ z)
          plain y z f g = rw (f, g) (simp products (omega (arith, sums)))

      value : (i : ℕ) → row_value m (first_lines m.width) (λ j. e *ℤ y j +ℤ z j) i ≡ e *ℤ row_value m (first_lines m.width) y i +ℤ row_value m (first_lines m.width) z i
      value i =
          sum_over_same (first_lines m.width) (λ j. entry m i j *ℤ (e *ℤ y j +ℤ z j)) (λ j. e *ℤ (entry m i j *ℤ y j) +ℤ entry m i j *ℤ z j)
          (all_of (λ j. entry m i j *ℤ (e *ℤ y j +ℤ z j) ≡ e *ℤ (entry m i j *ℤ y j) +ℤ entry m i j *ℤ z j) (λ j. opened (entry m i j) (y j) (z j)) (first_lines m.width))
          ∙ sum_over-add (first_lines m.width) (λ j. e *ℤ (entry m i j *ℤ y j)) (λ j. entry m i j *ℤ z j)
          ∙ ap (λ x. x +ℤ row_value m (first_lines m.width) z i) (sum_over-scale (first_lines m.width) e (λ j. entry m i j *ℤ y j))
        where
          opened : (a y z : ℤ) → a *ℤ (e *ℤ y +ℤ z) ≡ e *ℤ (a *ℤ y) +ℤ a *ℤ z
          opened a y z = simp products

      split : (a b : ℤ) → e *ℤ (d *ℤ b -ℤ a) ≡ (e *ℤ d) *ℤ b -ℤ e *ℤ a
      split a b = simp products

      row : (i : ℕ) → i < height m → (is_nonzero (slack i) ≡ true) ⊎ (is_nonzero (slack i) ≡ false) → row_value m (first_lines m.width) (λ j. e *ℤ y j +ℤ z j) i ≤ℤ ((e *ℤ d) *ℤ b i)
      row i l (inl t) = plain (row_value m (first_lines m.width) (λ j. e *ℤ y j +ℤ z j) i) (e *ℤ row_value m (first_lines m.width) y i) (row_value m (first_lines m.width) z i) (e *ℤ slack i) ((e *ℤ d) *ℤ b i)
          (value i) (split (row_value m (first_lines m.width) y i) (b i)) (high i l) (multiple_at_least e (slack i) least (positive_by_test (slack i) (slack_not_below i l) t))
        where
          plain : (x a z s t : ℤ) → x ≡ a +ℤ z → s ≡ t -ℤ a → z ≤ℤ e → e ≤ℤ s → x ≤ℤ t
          plain x a z s t f g l k = omega (arith, sums)
      row i l (inr t) = plain (row_value m (first_lines m.width) (λ j. e *ℤ y j +ℤ z j) i) (e *ℤ row_value m (first_lines m.width) y i) (row_value m (first_lines m.width) z i) (e *ℤ slack i) ((e *ℤ d) *ℤ b i)
          (value i) (split (row_value m (first_lines m.width) y i) (b i)) (tight i l (ap not t)) (nothing (slack i) (zero_is (slack i) t))
        where
          nothing : (s : ℤ) → s ≡ pos 0 → e *ℤ s ≡ pos 0
          nothing s f = rw f (simp products)

          plain : (x a z s t : ℤ) → x ≡ a +ℤ z → s ≡ t -ℤ a → z ≡ pos 0 → s ≡ pos 0 → x ≤ℤ t
          plain x a z s t f g h k = omega (arith, sums)

  -- the only such move is 0
  unmoved : (e : ℤ) (z : ℕ → ℤ) → IsFeasible m b (λ j. e *ℤ y j +ℤ z j) (e *ℤ d) → IsFeasible m b (λ j. e *ℤ y j -ℤ z j) (e *ℤ d) → (j : ℕ) → j < m.width → z j ≡ pos 0
  unmoved e z p q j l = plain (e *ℤ y j) (z j) (v.extreme (λ j. e *ℤ y j +ℤ z j) (λ j. e *ℤ y j -ℤ z j) (e *ℤ d) p q (λ j l. middle (y j) (z j)) j l)
    where
      middle : (x z : ℤ) → pos 2 *ℤ ((e *ℤ d) *ℤ x) ≡ d *ℤ ((e *ℤ x +ℤ z) +ℤ (e *ℤ x -ℤ z))
      middle x z = simp products (omega (arith, sums))

      plain : (x z : ℤ) → x +ℤ z ≡ x -ℤ z → z ≡ pos 0
      plain x z e = omega (arith, sums)

  module _ (z : ℕ → ℤ) (h : AllByRecursion (λ i. sum_over C (λ j. entry m i j *ℤ z j) ≡ pos 0) R) where
    -- the numbers, with 0 outside the columns
    abbrev z' : ℕ → ℤ
    z' j = cond (is_nonzero (y j)) (z j) (pos 0)

    abbrev value : ℕ → ℤ
    value i = row_value m (first_lines m.width) z' i

    kept : (j : ℕ) → is_nonzero (y j) ≡ true → z' j ≡ z j
    kept j t = rw t refl

    gone : (j : ℕ) → is_nonzero (y j) ≡ false → z' j ≡ pos 0
    gone j t = rw t refl

    value_is : (i : ℕ) → value i ≡ sum_over C (λ j. entry m i j *ℤ z j)
    value_is i =
        sum_chosen (λ j. is_nonzero (y j)) (λ j. entry m i j *ℤ z' j) (λ j t. nothing (entry m i j) (z' j) (gone j t)) (first_lines m.width)
        ∙ sum_over_same C (λ j. entry m i j *ℤ z' j) (λ j. entry m i j *ℤ z j)
        (all_chosen (λ j. entry m i j *ℤ z' j ≡ entry m i j *ℤ z j) (λ j. is_nonzero (y j)) (first_lines m.width)
        (all_of (λ j. is_nonzero (y j) ≡ true → entry m i j *ℤ z' j ≡ entry m i j *ℤ z j) (λ j t. ap (λ x. entry m i j *ℤ x) (kept j t)) (first_lines m.width)))
      where
        nothing : (a x : ℤ) → x ≡ pos 0 → a *ℤ x ≡ pos 0
        nothing a x f = rw f (simp products)

    tight : (i : ℕ) → i < height m → is_tight i ≡ true → value i ≡ pos 0
    tight i l t = value_is i ∙ all_in (λ i. is_tight i ≡ true → sum_over C (λ j. entry m i j *ℤ z j) ≡ pos 0) (first_lines (height m))
        (from_chosen (λ i. sum_over C (λ j. entry m i j *ℤ z j) ≡ pos 0) is_tight (first_lines (height m)) h) i (in_first_lines (height m) i l) t

    turned_value : (i : ℕ) → row_value m (first_lines m.width) (λ j. neg_ℤ (z' j)) i ≡ neg_ℤ (value i)
    turned_value i = go (first_lines m.width)
      where
        plain : (a x s t : ℤ) → s ≡ neg_ℤ t → a *ℤ neg_ℤ x +ℤ s ≡ neg_ℤ (a *ℤ x +ℤ t)
        plain a x s t e = rw e (simp products (omega (arith, sums)))

        go : (W : List ℕ) → sum_over W (λ j. entry m i j *ℤ neg_ℤ (z' j)) ≡ neg_ℤ (sum_over W (λ j. entry m i j *ℤ z' j))
        go [] = refl
        go (j ∷ W) = plain (entry m i j) (z' j) (sum_over W (λ j'. entry m i j' *ℤ neg_ℤ (z' j'))) (sum_over W (λ j'. entry m i j' *ℤ z' j')) (go W)

    still : (j : ℕ) → j < m.width → z' j ≡ pos 0
    still = at (has_bound m.width z') (has_bound (height m) value)
      where
        at : HasBound m.width z' → HasBound (height m) value → (j : ℕ) → j < m.width → z' j ≡ pos 0
        at f g = unmoved (f.bound +ℤ g.bound) z'
            (moved (f.bound +ℤ g.bound) z' least (λ j l. low_enough f.bound g.bound (z' j) g.positive (f.low j l)) gone
            (λ i l. high_enough f.bound g.bound (value i) f.positive (g.high i l)) tight)
            (moved (f.bound +ℤ g.bound) (λ j. neg_ℤ (z' j)) least (λ j l. low_turned f.bound g.bound (z' j) g.positive (f.high j l)) (λ j t. ap neg_ℤ (gone j t))
            (λ i l. high_turned f.bound g.bound (value i) (row_value m (first_lines m.width) (λ j. neg_ℤ (z' j)) i) f.positive (g.low i l) (turned_value i)) (λ i l t. turned_value i ∙ ap neg_ℤ (tight i l t)))
          where
            least : pos 1 ≤ℤ (f.bound +ℤ g.bound)
            least = let p = f.positive in let q = g.positive in omega (arith, sums)

            low_enough : (a c x : ℤ) → pos 1 ≤ℤ c → neg_ℤ a ≤ℤ x → neg_ℤ (a +ℤ c) ≤ℤ x
            low_enough a c x p q = omega (arith, sums)

            high_enough : (a c x : ℤ) → pos 1 ≤ℤ a → x ≤ℤ c → x ≤ℤ (a +ℤ c)
            high_enough a c x p q = omega (arith, sums)

            low_turned : (a c x : ℤ) → pos 1 ≤ℤ c → x ≤ℤ a → neg_ℤ (a +ℤ c) ≤ℤ neg_ℤ x
            low_turned a c x p q = omega (arith, sums)

            high_turned : (a c x w : ℤ) → pos 1 ≤ℤ a → neg_ℤ c ≤ℤ x → w ≡ neg_ℤ x → w ≤ℤ (a +ℤ c)
            high_turned a c x w p q e = omega (arith, sums)

  independent : IsIndependent (entry m) R C
  independent z h = all_chosen (λ j. z j ≡ pos 0) (λ j. is_nonzero (y j)) (first_lines m.width)
      (all_weaker (λ j. j < m.width) (λ j. is_nonzero (y j) ≡ true → z j ≡ pos 0) (λ j l t. sym (kept z h j t) ∙ still z h j l) (first_lines m.width)
      (increasing_below 0 m.width (first_lines m.width) (increases-range 0 m.width m.width (omega arith))))

  solves : AllByRecursion (λ i. sum_over C (λ j. entry m i j *ℤ y j) ≡ d *ℤ b i) R
  solves = all_chosen (λ i. sum_over C (λ j. entry m i j *ℤ y j) ≡ d *ℤ b i) is_tight (first_lines (height m))
      (all_of (λ i. is_tight i ≡ true → sum_over C (λ j. entry m i j *ℤ y j) ≡ d *ℤ b i) at (first_lines (height m)))
    where
      nothing : (a x : ℤ) → x ≡ pos 0 → a *ℤ x ≡ pos 0
      nothing a x f = rw f (simp products)

      plain : (a t x : ℤ) → a ≡ t → x -ℤ a ≡ pos 0 → t ≡ x
      plain a t x e f = omega (arith, sums)

      tight_is : (t : Bool) → not t ≡ true → t ≡ false
      tight_is true e = cc
      tight_is false e = refl

      at : (i : ℕ) → is_tight i ≡ true → sum_over C (λ j. entry m i j *ℤ y j) ≡ d *ℤ b i
      at i t = plain (row_value m (first_lines m.width) y i) (sum_over C (λ j. entry m i j *ℤ y j)) (d *ℤ b i)
          (sum_chosen (λ j. is_nonzero (y j)) (λ j. entry m i j *ℤ y j) (λ j e. nothing (entry m i j) (y j) (zero_is (y j) e)) (first_lines m.width))
          (zero_is (slack i) (tight_is (is_nonzero (slack i)) t))

  pub vertex_is_integral : (column : ℕ) → column < m.width → IsMultiple d (y column)
  vertex_is_integral j l = elim (two_cases (is_nonzero (y j))) [
    | inr t ↦ (pos 0, zero_is (y j) t ∙ zero d)
    | inl t ↦ all_in (λ j. is_nonzero (y j) ≡ true → IsMultiple d (y j)) (first_lines m.width)
        (from_chosen (λ j. IsMultiple d (y j)) (λ j. is_nonzero (y j)) (first_lines m.width) all) j (in_first_lines m.width j l) t
  ]
    where
      zero : (d : ℤ) → pos 0 ≡ d *ℤ pos 0
      zero d = simp products

      all : AllByRecursion (λ j. IsMultiple d (y j)) C
      all = multiples C R (entry m) b y d
          (eliminated_independent C R 0 m.width (entry m) columns_increase
          (minors_on m ((ghouila_houri m).0 unimodular) R C (increasing_row_set m R rows_increase) (increasing_column_set m C columns_increase)) independent) solves

pub integral_vertices : (m : Matrix) → IsTotallyUnimodular m → HasIntegralVertices m
integral_vertices m unimodular b y d v = vertex_is_integral m unimodular b y d v
