-- Systems of equations, solved by pivots at signs, and their solutions.
use Rattle.std.proofs.Common.{◌≡◌, ◌≢◌, inl, inr, ◌+◌, ◌∙◌, ℕ, cond, nat_eq, ℤ, pos, neg_ℤ, ◌+ℤ◌, ◌*ℤ◌, ◌-ℤ◌, List, [], ◌∷◌, refl, ap, sym, arith}
use Rattle.std.specs.List.{AllByRecursion}
use Rattle.cmr_base.specs.Signing.{IsSign}
use Rattle.cmr_base.specs.Sums.{sum_over}
use Rattle.cmr_base.proofs.Integers.{sums, products}
use Rattle.cmr_base.proofs.SumLaws.{sum_over_same, sum_over-zero}
use Rattle.cmr_base.proofs.Lists.{all_of, all_weaker, all_both, all_without, all-one_more, item_of_one_more}
use Rattle.cmr_base.proofs.IncreasingLists.{IncreasesIn, increasing_apart}
use Rattle.cmr_base.proofs.RowLists.{self_eq, is_ne}
use Rattle.cmr_base.specs.PlacedPivots.{reduced}
use Rattle.ghouila.specs.IntegralLaws.{IsMultiple}
use Rattle.ghouila.proofs.Expansions.{expansion_zero_column, minor, schur}
use Rattle.ghouila.proofs.Sublists.{HasSignIn, zeros_or_sign}
use Rattle.ghouila.proofs.Minors.{HasMinorsOn, first_column_entries, pivoted_minors, sign_twice}
use Rattle.cmr_base.proofs.SignEntries.{sign_square}

-- the columns can be eliminated one after another, each by a row in which it has a sign
abbrev pub IsEliminated : List ℕ → (ℕ → ℕ → ℤ) → List ℕ → Type 0
IsEliminated [] M R = Unit {0}
IsEliminated (c ∷ C) M R = (s : HasSignIn (λ i. M i c) R) × IsEliminated C (reduced M s.row c) s.others

-- ---- nonzero determinants

pub eliminated_regular : (C R : List ℕ) (M : ℕ → ℕ → ℤ) → HasMinorsOn M R C → minor M C R ≢ pos 0 → IsEliminated C M R
eliminated_regular [] R M minors regular = tt
eliminated_regular (c ∷ C) R M minors regular = elim (zeros_or_sign (λ i. M i c) R (first_column_entries M R c C minors)) [
  | inl zeros ↦ absurd (regular (expansion_zero_column (λ i. M i c) (minor M C) R zeros))
  | inr s ↦ (
    s,
    eliminated_regular C s.others (reduced M s.row c) (pivoted_minors M s.row c s.others R C s.sign s.more minors)
        (λ e. let w = schur M s.row c C s.others R s.sign s.more in regular (w.equal ∙ zero w.sign (M s.row c) (minor (reduced M s.row c) C s.others) e)),
  )
]
  where
    zero : (s a z : ℤ) → z ≡ pos 0 → s *ℤ (a *ℤ z) ≡ pos 0
    zero s a z e = rw e (simp products)

-- ---- solutions of the equations

pub product_reduced : (M : ℕ → ℕ → ℤ) (r c i : ℕ) (y : ℕ → ℤ) (C : List ℕ)
    → sum_over C (λ j. reduced M r c i j *ℤ y j) ≡ sum_over C (λ j. M i j *ℤ y j) -ℤ M r c *ℤ (M i c *ℤ sum_over C (λ j. M r j *ℤ y j))
product_reduced M r c i y [] = simp products
product_reduced M r c i y (j ∷ C) = plain (M i j) (M r c) (M i c) (M r j) (y j) (sum_over C (λ j'. M i j' *ℤ y j')) (sum_over C (λ j'. M r j' *ℤ y j')) (sum_over C (λ j'. reduced M r c i j' *ℤ y j'))
    (product_reduced M r c i y C)
  where
    plain : (x a p q t s w z : ℤ) → z ≡ s -ℤ a *ℤ (p *ℤ w) → (x -ℤ a *ℤ (p *ℤ q)) *ℤ t +ℤ z ≡ (x *ℤ t +ℤ s) -ℤ a *ℤ (p *ℤ (q *ℤ t +ℤ w))
    plain x a p q t s w z e = rw e (simp products (omega (arith, sums)))

multiple_sum : (d : ℤ) (f y : ℕ → ℤ) (C : List ℕ) → AllByRecursion (λ j. IsMultiple d (y j)) C → IsMultiple d (sum_over C (λ j. f j *ℤ y j))
multiple_sum d f y [] h = (pos 0, zero d)
  where
    zero : (d : ℤ) → pos 0 ≡ d *ℤ pos 0
    zero d = simp products
multiple_sum d f y (j ∷ C) h = let m = multiple_sum d f y C h.1 in (f j *ℤ h.0.0 +ℤ m.0, plain (f j) (y j) (sum_over C (λ j'. f j' *ℤ y j')) d h.0.0 m.0 h.0.1 m.1)
  where
    plain : (p t s d k l : ℤ) → t ≡ d *ℤ k → s ≡ d *ℤ l → p *ℤ t +ℤ s ≡ d *ℤ (p *ℤ k +ℤ l)
    plain p t s d k l e f = rw (e, f) (simp products)

-- the solutions for multiples of d are multiples of d
pub multiples : (C R : List ℕ) (M : ℕ → ℕ → ℤ) (b y : ℕ → ℤ) (d : ℤ) → IsEliminated C M R → AllByRecursion (λ i. sum_over C (λ j. M i j *ℤ y j) ≡ d *ℤ b i) R
    → AllByRecursion (λ j. IsMultiple d (y j)) C
multiples [] R M b y d done h = tt
multiples (c ∷ C) R M b y d (s, rest) h = all (multiples C s.others (reduced M s.row c) (λ i. b i -ℤ M s.row c *ℤ (M i c *ℤ b s.row)) y d rest others)
  where
    top : M s.row c *ℤ y c +ℤ sum_over C (λ j. M s.row j *ℤ y j) ≡ d *ℤ b s.row
    top = item_of_one_more (λ i. M i c *ℤ y c +ℤ sum_over C (λ j. M i j *ℤ y j) ≡ d *ℤ b i) s.row s.others R s.more h

    plain : (p t x a w d k l : ℤ) → IsSign a → p *ℤ t +ℤ x ≡ d *ℤ k → a *ℤ t +ℤ w ≡ d *ℤ l → x -ℤ a *ℤ (p *ℤ w) ≡ d *ℤ (k -ℤ a *ℤ (p *ℤ l))
    plain p t x a w d k l u e f =
        let one : a *ℤ a ≡ pos 1 = sign_square a u in
        let x_is : x ≡ d *ℤ k -ℤ p *ℤ t = omega (arith, sums) in
        let w_is : w ≡ d *ℤ l -ℤ a *ℤ t = omega (arith, sums) in
        rw (x_is, w_is) (simp (products, one) (omega (arith, sums)))

    others : AllByRecursion (λ i. sum_over C (λ j. reduced M s.row c i j *ℤ y j) ≡ d *ℤ (b i -ℤ M s.row c *ℤ (M i c *ℤ b s.row))) s.others
    others =
        all_weaker (λ i. M i c *ℤ y c +ℤ sum_over C (λ j. M i j *ℤ y j) ≡ d *ℤ b i) (λ i. sum_over C (λ j. reduced M s.row c i j *ℤ y j) ≡ d *ℤ (b i -ℤ M s.row c *ℤ (M i c *ℤ b s.row)))
        (λ i e. product_reduced M s.row c i y C ∙ plain (M i c) (y c) (sum_over C (λ j. M i j *ℤ y j)) (M s.row c) (sum_over C (λ j. M s.row j *ℤ y j)) d (b i) (b s.row) s.sign e top)
        s.others (all_without (λ i. M i c *ℤ y c +ℤ sum_over C (λ j. M i j *ℤ y j) ≡ d *ℤ b i) s.row s.others R s.more h)

    first : (a t w l : ℤ) → IsSign a → a *ℤ t +ℤ w ≡ d *ℤ l → IsMultiple d w → IsMultiple d t
    first a t w l u f (k, e) = (a *ℤ (l -ℤ k), solved a t w l k d (sign_twice a t u) f e)
      where
        solved : (a t w l k d : ℤ) → a *ℤ (a *ℤ t) ≡ t → a *ℤ t +ℤ w ≡ d *ℤ l → w ≡ d *ℤ k → t ≡ d *ℤ (a *ℤ (l -ℤ k))
        solved a t w l k d twice f e =
            let a_t : a *ℤ t ≡ d *ℤ l -ℤ d *ℤ k = omega (arith, sums) in
            sym twice ∙ ap (λ z. a *ℤ z) a_t ∙ turned a d l k
          where
            turned : (a d l k : ℤ) → a *ℤ (d *ℤ l -ℤ d *ℤ k) ≡ d *ℤ (a *ℤ (l -ℤ k))
            turned a d l k = simp products

    all : AllByRecursion (λ j. IsMultiple d (y j)) C → IsMultiple d (y c) × AllByRecursion (λ j. IsMultiple d (y j)) C
    all m = (first (M s.row c) (y c) (sum_over C (λ j. M s.row j *ℤ y j)) (b s.row) s.sign top (multiple_sum d (M s.row) y C m), m)

-- ---- independent columns

-- a linear combination of the columns that is 0 in these rows has only coefficients 0
abbrev pub IsIndependent : (ℕ → ℕ → ℤ) → List ℕ → List ℕ → Type 0
IsIndependent M R C = (z : ℕ → ℤ) → AllByRecursion (λ i. sum_over C (λ j. M i j *ℤ z j) ≡ pos 0) R → AllByRecursion (λ j. z j ≡ pos 0) C

-- the numbers with a new number at c
abbrev pub placed : ℕ → ℤ → (ℕ → ℤ) → ℕ → ℤ
placed c t z j = cond (nat_eq j c) t (z j)

placed_at : (c : ℕ) (t : ℤ) (z : ℕ → ℤ) → placed c t z c ≡ t
placed_at c t z = rw (self_eq c) refl

pub placed_apart : (c : ℕ) (t : ℤ) (z : ℕ → ℤ) (j : ℕ) → j ≢ c → placed c t z j ≡ z j
placed_apart c t z j h = rw (is_ne j c h) refl

pub sum_placed : (c : ℕ) (t : ℤ) (z f : ℕ → ℤ) (C : List ℕ) → AllByRecursion (λ j. j ≢ c) C
    → f c *ℤ placed c t z c +ℤ sum_over C (λ j. f j *ℤ placed c t z j) ≡ f c *ℤ t +ℤ sum_over C (λ j. f j *ℤ z j)
sum_placed c t z f C apart = both (f c) (placed c t z c) t (sum_over C (λ j. f j *ℤ placed c t z j)) (sum_over C (λ j. f j *ℤ z j)) (placed_at c t z)
    (sum_over_same C (λ j. f j *ℤ placed c t z j) (λ j. f j *ℤ z j)
    (all_weaker (λ j. j ≢ c) (λ j. f j *ℤ placed c t z j ≡ f j *ℤ z j) (λ j h. ap (λ x. f j *ℤ x) (placed_apart c t z j h)) C apart))
  where
    both : (p x t s w : ℤ) → x ≡ t → s ≡ w → p *ℤ x +ℤ s ≡ p *ℤ t +ℤ w
    both p x t s w e f = rw (e, f) refl

pub at_row : (a w : ℤ) → IsSign a → a *ℤ neg_ℤ (a *ℤ w) +ℤ w ≡ pos 0
at_row a w u = let twice : a *ℤ (a *ℤ w) ≡ w = sign_twice a w u in simp (products, twice) (omega (arith, sums))

pub eliminated_independent : (C R : List ℕ) (low high : ℕ) (M : ℕ → ℕ → ℤ) → IncreasesIn low high C → HasMinorsOn M R C → IsIndependent M R C → IsEliminated C M R
eliminated_independent [] R low high M increases minors free = tt
eliminated_independent (c ∷ C) R low high M increases minors free = elim (zeros_or_sign (λ i. M i c) R (first_column_entries M R c C minors)) [
  | inl zeros ↦ absurd (no_zeros zeros)
  | inr s ↦ (s, eliminated_independent C s.others (c + 1) high (reduced M s.row c) increases.2 (pivoted_minors M s.row c s.others R C s.sign s.more minors) (still_free s))
]
  where
    apart : AllByRecursion (λ j. j ≢ c) C
    apart = increasing_apart (c + 1) high c C (omega arith) increases.2

    no_zeros : AllByRecursion (λ i. M i c ≡ pos 0) R → ⊥
    no_zeros zeros = clash (placed c (pos 1) (λ j. pos 0) c) (placed_at c (pos 1) (λ j. pos 0)) (free (placed c (pos 1) (λ j. pos 0))
        (all_weaker (λ i. M i c ≡ pos 0) (λ i. M i c *ℤ placed c (pos 1) (λ j. pos 0) c +ℤ sum_over C (λ j. M i j *ℤ placed c (pos 1) (λ j'. pos 0) j) ≡ pos 0)
        (λ i e. sum_placed c (pos 1) (λ j. pos 0) (M i) C apart ∙ plain (M i c) (sum_over C (λ j. M i j *ℤ pos 0)) e (vanished i C)) R zeros)).0
      where
        clash : (x : ℤ) → x ≡ pos 1 → x ≡ pos 0 → ⊥
        clash x e f = omega (arith, sums)

        plain : (p s : ℤ) → p ≡ pos 0 → s ≡ pos 0 → p *ℤ pos 1 +ℤ s ≡ pos 0
        plain p s e f = rw (e, f) refl

        vanished : (i : ℕ) (C : List ℕ) → sum_over C (λ j. M i j *ℤ pos 0) ≡ pos 0
        vanished i C = sum_over_same C (λ j. M i j *ℤ pos 0) (λ j. pos 0) (all_of (λ j. M i j *ℤ pos 0 ≡ pos 0) (λ j. zero (M i j)) C) ∙ sum_over-zero C
          where
            zero : (x : ℤ) → x *ℤ pos 0 ≡ pos 0
            zero x = simp products

    still_free : (s : HasSignIn (λ i. M i c) R) → IsIndependent (reduced M s.row c) s.others C
    still_free s z h = all_both (λ j. j ≢ c) (λ j. placed c t z j ≡ pos 0) (λ j. z j ≡ pos 0) (λ j other e. sym (placed_apart c t z j other) ∙ e) C apart (free (placed c t z) rows).1
      where
        top : ℤ
        top = sum_over C (λ j. M s.row j *ℤ z j)

        t : ℤ
        t = neg_ℤ (M s.row c *ℤ sum_over C (λ j. M s.row j *ℤ z j))

        at_other : (a p x w : ℤ) → x -ℤ a *ℤ (p *ℤ w) ≡ pos 0 → p *ℤ neg_ℤ (a *ℤ w) +ℤ x ≡ pos 0
        at_other a p x w e = let x_is : x ≡ a *ℤ (p *ℤ w) = omega (arith, sums) in rw x_is (simp products (omega (arith, sums)))

        rows : AllByRecursion (λ i. M i c *ℤ placed c t z c +ℤ sum_over C (λ j. M i j *ℤ placed c t z j) ≡ pos 0) R
        rows = all-one_more (λ i. M i c *ℤ placed c t z c +ℤ sum_over C (λ j. M i j *ℤ placed c t z j) ≡ pos 0) s.row s.others R s.more
            (sum_placed c t z (M s.row) C apart ∙ at_row (M s.row c) (sum_over C (λ j. M s.row j *ℤ z j)) s.sign)
            (all_weaker (λ i. sum_over C (λ j. reduced M s.row c i j *ℤ z j) ≡ pos 0) (λ i. M i c *ℤ placed c t z c +ℤ sum_over C (λ j. M i j *ℤ placed c t z j) ≡ pos 0)
            (λ i e. sum_placed c t z (M i) C apart ∙ at_other (M s.row c) (M i c) (sum_over C (λ j. M i j *ℤ z j)) (sum_over C (λ j. M s.row j *ℤ z j)) (sym (product_reduced M s.row c i z C) ∙ e))
            s.others h)
