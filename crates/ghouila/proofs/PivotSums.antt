-- Sums of rows and columns after a pivot.
use Rattle.std.proofs.Common.{◌≡◌, ◌≢◌, ◌∙◌, ℕ, ℤ, neg_ℤ, ◌+ℤ◌, ◌*ℤ◌, ◌-ℤ◌, List, [], ◌∷◌, refl, ap, arith}
use Rattle.std.specs.List.{AllByRecursion}
use Rattle.cmr_base.specs.Sums.{sum_over}
use Rattle.cmr_base.proofs.Integers.{sums, products}
use Rattle.cmr_base.proofs.SumLaws.{sum_over-sub, sum_over-scale, sum_over-scale_right, sum_over_same}
use Rattle.cmr_base.proofs.Lists.{all_weaker}
use Rattle.cmr_base.specs.PlacedPivots.{reduced, pivoted}
use Rattle.cmr_base.proofs.Booleans.{is_ne, self_eq}

pub pivoted_apart : (M : ℕ → ℕ → ℤ) (r c i j : ℕ) → j ≢ c → pivoted M r c i j ≡ reduced M r c i j
pivoted_apart M r c i j h = rw (is_ne j c h) refl

pub pivoted_at : (M : ℕ → ℕ → ℤ) (r c i : ℕ) → pivoted M r c i c ≡ neg_ℤ (M r c *ℤ M i c)
pivoted_at M r c i = rw (self_eq c) refl

pub sum_over_row : (M : ℕ → ℕ → ℤ) (r c i : ℕ) (C : List ℕ) → AllByRecursion (λ j. j ≢ c) C → sum_over C (pivoted M r c i) ≡ sum_over C (M i) -ℤ M r c *ℤ (M i c *ℤ sum_over C (M r))
sum_over_row M r c i C h =
    sum_over_same C (pivoted M r c i) (reduced M r c i) (all_weaker (λ j. j ≢ c) (λ j. pivoted M r c i j ≡ reduced M r c i j) (pivoted_apart M r c i) C h)
    ∙ sum_over-sub C (M i) (λ j. M r c *ℤ (M i c *ℤ M r j))
    ∙ ap (λ (z : ℤ). sum_over C (M i) -ℤ z) (sum_over-scale C (M r c) (λ j. M i c *ℤ M r j) ∙ ap (λ (z : ℤ). M r c *ℤ z) (sum_over-scale C (M i c) (M r)))

pub sum_over_column : (M : ℕ → ℕ → ℤ) (r c j : ℕ) (R : List ℕ) → j ≢ c → sum_over R (λ i. pivoted M r c i j) ≡ sum_over R (λ i. M i j) -ℤ M r c *ℤ (sum_over R (λ i. M i c) *ℤ M r j)
sum_over_column M r c j R h = rw (is_ne j c h) (
    sum_over-sub R (λ i. M i j) (λ i. M r c *ℤ (M i c *ℤ M r j))
    ∙ ap (λ (z : ℤ). sum_over R (λ i. M i j) -ℤ z) (sum_over-scale R (M r c) (λ i. M i c *ℤ M r j) ∙ ap (λ (z : ℤ). M r c *ℤ z) (sum_over-scale_right R (M r j) (λ i. M i c))))

pub sum_over_pivot_column : (M : ℕ → ℕ → ℤ) (r c : ℕ) (R : List ℕ) → sum_over R (λ i. pivoted M r c i c) ≡ neg_ℤ (M r c *ℤ sum_over R (λ i. M i c))
sum_over_pivot_column M r c R = rw (self_eq c) (negated R)
  where
    negated : (R : List ℕ) → sum_over R (λ i. neg_ℤ (M r c *ℤ M i c)) ≡ neg_ℤ (M r c *ℤ sum_over R (λ i. M i c))
    negated [] = simp products
    negated (i ∷ R) = rw (negated R) (add (M r c) (M i c) (sum_over R (λ i'. M i' c)))
      where
        add : (a p g : ℤ) → neg_ℤ (a *ℤ p) +ℤ neg_ℤ (a *ℤ g) ≡ neg_ℤ (a *ℤ (p +ℤ g))
        add a p g = simp products (omega (arith, sums))
