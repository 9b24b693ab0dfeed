-- One side of a matrix of blocks, and the lines of the other side as one column and one row with multiplicities.
use Rattle.std.proofs.Common.{ℕ, ℤ, pos, negsuc, Bool, true, false, List, ◌≡◌, ◌+ℤ◌, ◌*ℤ◌, ◌-ℤ◌, ◌∙◌, sym, ap, ap₂, refl, arith, subst, inl, inr}
use Rattle.std.specs.List.{AllByRecursion}
use Rattle.cmr_base.specs.Sums.{sum_over, IsEven}
use Rattle.cmr_base.specs.Signing.{IsSign}
use Rattle.cmr_base.proofs.Integers.{sums}
use Rattle.cmr_base.proofs.SumLaws.{sum_over-add, sum_over-scale, sum_over-scale_right, sum_over-exchange}
use Rattle.cmr_base.proofs.Parity.{even-sum_over}
use Rattle.ghouila.proofs.ParityBits.{Bit, bit, when, even_bit, even_bit_left}
use Rattle.cmr_base.proofs.Lists.{all_weaker}

-- the lines have even sums if column a counts x times and row c counts y times
pub record Counted (M : ℕ → ℕ → ℤ) (R C : List ℕ) (a : ℕ → ℤ) (x : ℤ) (c : ℕ → ℤ) (y : ℤ) : Type 0 where
  pub rows : AllByRecursion (λ r. IsEven (sum_over C (λ z. M r z) +ℤ a r *ℤ x)) R
  pub columns : AllByRecursion (λ z. IsEven (sum_over R (λ r. M r z) +ℤ y *ℤ c z)) C

-- the total with row c added if s, column a added if t, and w at their crossing
abbrev pub grown : ℤ → ℤ → ℤ → ℤ → Bool → Bool → ℤ
grown total column row w s t = (total +ℤ when t column) +ℤ when s (row +ℤ when t w)

pub record Lines (M : ℕ → ℕ → ℤ) (R C : List ℕ) (a c : ℕ → ℤ) (w : ℤ) (s t : Bool) : Type 0 where
  pub rows : AllByRecursion (λ r. IsEven (sum_over C (λ z. M r z) +ℤ when t (a r))) R
  pub columns : AllByRecursion (λ z. IsEven (sum_over R (λ r. M r z) +ℤ when s (c z))) C
  pub row : s ≡ true → IsEven (sum_over C c +ℤ when t w)
  pub column : t ≡ true → IsEven (sum_over R a +ℤ when s w)
  pub even : IsEven (grown (sum_over R (λ r. sum_over C (λ z. M r z))) (sum_over R a) (sum_over C c) w s t)

-- ---- arithmetic

row_even : (total al ga e : ℤ) (s t : Bool) (ba : Bit al) → IsSign e → IsEven (total +ℤ when t al) → IsEven (total +ℤ when s ga) → s ≡ true → IsEven (ga +ℤ when t (when ba.odd e))
row_even total al ga e s t ba unit p q on = go t ba.odd p (subst (λ (b : Bool). IsEven (total +ℤ when b ga)) on q) ba.half ba.is unit
  where
    go : (t u : Bool) → IsEven (total +ℤ when t al) → IsEven (total +ℤ ga) → (h : ℤ) → al ≡ bit u +ℤ (h +ℤ h) → IsSign e → IsEven (ga +ℤ when t (when u e))
    go false u p q h f unit = plain total ga p q
      where
        plain : (n g : ℤ) → IsEven (n +ℤ pos 0) → IsEven (n +ℤ g) → IsEven (g +ℤ pos 0)
        plain n g (k, e) (l, f) = (l -ℤ k, omega (arith, sums))
    go true false p q h f unit = plain total al ga h f p q
      where
        plain : (n a g h : ℤ) → a ≡ pos 0 +ℤ (h +ℤ h) → IsEven (n +ℤ a) → IsEven (n +ℤ g) → IsEven (g +ℤ pos 0)
        plain n a g h d (k, e) (l, f) = ((l -ℤ k) +ℤ h, omega (arith, sums))
    go true true p q h f (inl unit) = plain total al ga h e f unit p q
      where
        plain : (n a g h u : ℤ) → a ≡ pos 1 +ℤ (h +ℤ h) → u ≡ pos 1 → IsEven (n +ℤ a) → IsEven (n +ℤ g) → IsEven (g +ℤ u)
        plain n a g h u d o (k, e) (l, f) = (((l -ℤ k) +ℤ h) +ℤ pos 1, omega (arith, sums))
    go true true p q h f (inr unit) = plain total al ga h e f unit p q
      where
        plain : (n a g h u : ℤ) → a ≡ pos 1 +ℤ (h +ℤ h) → u ≡ negsuc 0 → IsEven (n +ℤ a) → IsEven (n +ℤ g) → IsEven (g +ℤ u)
        plain n a g h u d o (k, e) (l, f) = ((l -ℤ k) +ℤ h, omega (arith, sums))

column_even : (total al ga e : ℤ) (s t : Bool) (ba : Bit al) → IsSign e → IsEven (total +ℤ when t al) → IsEven (total +ℤ when s ga) → t ≡ true → IsEven (al +ℤ when s (when ba.odd e))
column_even total al ga e s t ba unit p q on = go s ba.odd (subst (λ (b : Bool). IsEven (total +ℤ when b al)) on p) q ba.half ba.is unit
  where
    go : (s u : Bool) → IsEven (total +ℤ al) → IsEven (total +ℤ when s ga) → (h : ℤ) → al ≡ bit u +ℤ (h +ℤ h) → IsSign e → IsEven (al +ℤ when s (when u e))
    go false u p q h f unit = plain total al p q
      where
        plain : (n a : ℤ) → IsEven (n +ℤ a) → IsEven (n +ℤ pos 0) → IsEven (a +ℤ pos 0)
        plain n a (k, e) (l, f) = (k -ℤ l, omega (arith, sums))
    go true false p q h f unit = plain al h f
      where
        plain : (a h : ℤ) → a ≡ pos 0 +ℤ (h +ℤ h) → IsEven (a +ℤ pos 0)
        plain a h e = (h, omega (arith, sums))
    go true true p q h f (inl unit) = plain al h e f unit
      where
        plain : (a h u : ℤ) → a ≡ pos 1 +ℤ (h +ℤ h) → u ≡ pos 1 → IsEven (a +ℤ u)
        plain a h u e f = (h +ℤ pos 1, omega (arith, sums))
    go true true p q h f (inr unit) = plain al h e f unit
      where
        plain : (a h u : ℤ) → a ≡ pos 1 +ℤ (h +ℤ h) → u ≡ negsuc 0 → IsEven (a +ℤ u)
        plain a h u e f = (h, omega (arith, sums))

grown_even : (total al ga w : ℤ) (s t : Bool) → IsEven (total +ℤ when t al) → (s ≡ true → IsEven (ga +ℤ when t w)) → IsEven (grown total al ga w s t)
grown_even total al ga w false t p q = plain (total +ℤ when t al) p
  where
    plain : (n : ℤ) → IsEven n → IsEven (n +ℤ pos 0)
    plain n (k, e) = (k, omega (arith, sums))
grown_even total al ga w true t p q = plain (total +ℤ when t al) (ga +ℤ when t w) p (q refl)
  where
    plain : (n m : ℤ) → IsEven n → IsEven m → IsEven (n +ℤ m)
    plain n m (k, e) (l, f) = (k +ℤ l, omega (arith, sums))

-- ---- the added lines make all sums even

module _ (M : ℕ → ℕ → ℤ) (R C : List ℕ) (a : ℕ → ℤ) (x : ℤ) (c : ℕ → ℤ) (y e : ℤ) (unit : IsSign e) (v : Counted M R C a x c y) (bx : Bit x) (by : Bit y) (ba : Bit (sum_over R a)) where
  pub by_rows : IsEven (sum_over R (λ r. sum_over C (λ z. M r z)) +ℤ when bx.odd (sum_over R a))
  by_rows = even_bit (sum_over R (λ r. sum_over C (λ z. M r z))) (sum_over R a) x bx
      (subst IsEven (sum_over-add R (λ r. sum_over C (λ z. M r z)) (λ r. a r *ℤ x) ∙ ap (λ (n : ℤ). sum_over R (λ r. sum_over C (λ z. M r z)) +ℤ n) (sum_over-scale_right R x a))
      (even-sum_over R (λ r. sum_over C (λ z. M r z) +ℤ a r *ℤ x) v.rows))

  pub by_columns : IsEven (sum_over R (λ r. sum_over C (λ z. M r z)) +ℤ when by.odd (sum_over C c))
  by_columns = even_bit_left (sum_over R (λ r. sum_over C (λ z. M r z))) y (sum_over C c) by
      (subst IsEven (sum_over-add C (λ z. sum_over R (λ r. M r z)) (λ z. y *ℤ c z) ∙ ap₂ (λ (n m : ℤ). n +ℤ m) (sym (sum_over-exchange R C (λ r z. M r z))) (sum_over-scale C y c))
      (even-sum_over C (λ z. sum_over R (λ r. M r z) +ℤ y *ℤ c z) v.columns))

  row_in : by.odd ≡ true → IsEven (sum_over C c +ℤ when bx.odd (when ba.odd e))
  row_in = row_even (sum_over R (λ r. sum_over C (λ z. M r z))) (sum_over R a) (sum_over C c) e by.odd bx.odd ba unit by_rows by_columns

  pub counted_lines : Lines M R C a c (when ba.odd e) by.odd bx.odd
  counted_lines = record {
    rows = all_weaker (λ r. IsEven (sum_over C (λ z. M r z) +ℤ a r *ℤ x)) (λ r. IsEven (sum_over C (λ z. M r z) +ℤ when bx.odd (a r))) (λ r h. even_bit (sum_over C (λ z. M r z)) (a r) x bx h) R v.rows;
    columns = all_weaker (λ z. IsEven (sum_over R (λ r. M r z) +ℤ y *ℤ c z)) (λ z. IsEven (sum_over R (λ r. M r z) +ℤ when by.odd (c z))) (λ z h. even_bit_left (sum_over R (λ r. M r z)) y (c z) by h) C v.columns;
    row = row_in;
    column = column_even (sum_over R (λ r. sum_over C (λ z. M r z))) (sum_over R a) (sum_over C c) e by.odd bx.odd ba unit by_rows by_columns;
    even = grown_even (sum_over R (λ r. sum_over C (λ z. M r z))) (sum_over R a) (sum_over C c) (when ba.odd e) by.odd bx.odd by_rows row_in;
  }
