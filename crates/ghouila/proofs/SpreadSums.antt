-- Sums over the block that two rows and two columns make; the entries at their crossings are x y; z w.
use Rattle.std.proofs.Common.{ℕ, ℤ, pos, List, [], ◌∷◌, ◌≡◌, ◌+ℤ◌, ◌*ℤ◌, ◌-ℤ◌, ◌∙◌, sym, ap, ap₂, arith}
use Rattle.cmr_base.specs.Sums.{sum_over, IsEven}
use Rattle.cmr_base.specs.Signing.{IsSign}
use Rattle.cmr_base.specs.Separations.{spread}
use Rattle.cmr_base.proofs.Integers.{sums, products}
use Rattle.cmr_base.proofs.Parity.{even-mul_right, even-sub}
use Rattle.cmr_base.proofs.SignedProducts.{sign_square}

module _ (d x y z w : ℤ) where
  -- the multiplicity of each of the two columns in the sum of columns in which the two rows have the sums v1 and v2
  abbrev pub first_column_count : ℤ → ℤ → ℤ
  first_column_count v1 v2 = d *ℤ (w *ℤ v1 -ℤ y *ℤ v2)

  abbrev pub second_column_count : ℤ → ℤ → ℤ
  second_column_count v1 v2 = d *ℤ (x *ℤ v2 -ℤ z *ℤ v1)

  -- the multiplicity of each of the two rows in the sum of rows in which the two columns have the sums u1 and u2
  abbrev pub first_row_count : ℤ → ℤ → ℤ
  first_row_count u1 u2 = d *ℤ (w *ℤ u1 -ℤ z *ℤ u2)

  abbrev pub second_row_count : ℤ → ℤ → ℤ
  second_row_count u1 u2 = d *ℤ (x *ℤ u2 -ℤ y *ℤ u1)

  pub column_sum : (R : List ℕ) (rp rq : ℕ → ℤ) (kc oc : ℤ)
      → sum_over R (λ r. spread d x y z w (rp r) (rq r) kc oc) ≡ first_row_count (sum_over R rp) (sum_over R rq) *ℤ kc +ℤ second_row_count (sum_over R rp) (sum_over R rq) *ℤ oc
  column_sum [] rp rq kc oc = plain d x y z w kc oc
    where
      plain : (d x y z w kc oc : ℤ) → pos 0 ≡ (d *ℤ (w *ℤ pos 0 -ℤ z *ℤ pos 0)) *ℤ kc +ℤ (d *ℤ (x *ℤ pos 0 -ℤ y *ℤ pos 0)) *ℤ oc
      plain d x y z w kc oc = simp products
  column_sum (r ∷ R) rp rq kc oc = ap (λ (n : ℤ). spread d x y z w (rp r) (rq r) kc oc +ℤ n) (column_sum R rp rq kc oc) ∙ plain d x y z w kc oc (rp r) (rq r) (sum_over R rp) (sum_over R rq)
    where
      plain : (d x y z w kc oc p q u1 u2 : ℤ) → d *ℤ (p *ℤ (w *ℤ kc -ℤ y *ℤ oc) +ℤ q *ℤ (x *ℤ oc -ℤ z *ℤ kc)) +ℤ ((d *ℤ (w *ℤ u1 -ℤ z *ℤ u2)) *ℤ kc +ℤ (d *ℤ (x *ℤ u2 -ℤ y *ℤ u1)) *ℤ oc)
          ≡ (d *ℤ (w *ℤ (p +ℤ u1) -ℤ z *ℤ (q +ℤ u2))) *ℤ kc +ℤ (d *ℤ (x *ℤ (q +ℤ u2) -ℤ y *ℤ (p +ℤ u1))) *ℤ oc
      plain d x y z w kc oc p q u1 u2 = simp products (omega (arith, sums))

  pub row_sum : (C : List ℕ) (rp rq : ℤ) (kc oc : ℕ → ℤ)
      → sum_over C (λ c. spread d x y z w rp rq (kc c) (oc c)) ≡ rp *ℤ first_column_count (sum_over C kc) (sum_over C oc) +ℤ rq *ℤ second_column_count (sum_over C kc) (sum_over C oc)
  row_sum [] rp rq kc oc = plain d x y z w rp rq
    where
      plain : (d x y z w p q : ℤ) → pos 0 ≡ p *ℤ (d *ℤ (w *ℤ pos 0 -ℤ y *ℤ pos 0)) +ℤ q *ℤ (d *ℤ (x *ℤ pos 0 -ℤ z *ℤ pos 0))
      plain d x y z w p q = simp products
  row_sum (c ∷ C) rp rq kc oc = ap (λ (n : ℤ). spread d x y z w rp rq (kc c) (oc c) +ℤ n) (row_sum C rp rq kc oc) ∙ plain d x y z w (kc c) (oc c) rp rq (sum_over C kc) (sum_over C oc)
    where
      plain : (d x y z w kc oc p q v1 v2 : ℤ) → d *ℤ (p *ℤ (w *ℤ kc -ℤ y *ℤ oc) +ℤ q *ℤ (x *ℤ oc -ℤ z *ℤ kc)) +ℤ (p *ℤ (d *ℤ (w *ℤ v1 -ℤ y *ℤ v2)) +ℤ q *ℤ (d *ℤ (x *ℤ v2 -ℤ z *ℤ v1)))
          ≡ p *ℤ (d *ℤ (w *ℤ (kc +ℤ v1) -ℤ y *ℤ (oc +ℤ v2))) +ℤ q *ℤ (d *ℤ (x *ℤ (oc +ℤ v2) -ℤ z *ℤ (kc +ℤ v1)))
      plain d x y z w kc oc p q v1 v2 = simp products (omega (arith, sums))

  pub spread_sum : (R C : List ℕ) (rp rq kc oc : ℕ → ℤ) → sum_over R (λ r. sum_over C (λ c. spread d x y z w (rp r) (rq r) (kc c) (oc c)))
      ≡ first_row_count (sum_over R rp) (sum_over R rq) *ℤ sum_over C kc +ℤ second_row_count (sum_over R rp) (sum_over R rq) *ℤ sum_over C oc
  spread_sum [] C rp rq kc oc = column_sum [] rp rq (sum_over C kc) (sum_over C oc)
  spread_sum (r ∷ R) C rp rq kc oc = ap₂ (λ (m n : ℤ). m +ℤ n) (row_sum C (rp r) (rq r) kc oc) (spread_sum R C rp rq kc oc) ∙ plain d x y z w (sum_over C kc) (sum_over C oc) (rp r) (rq r) (sum_over R rp) (sum_over R rq)
    where
      plain : (d x y z w v1 v2 p q u1 u2 : ℤ) → (p *ℤ (d *ℤ (w *ℤ v1 -ℤ y *ℤ v2)) +ℤ q *ℤ (d *ℤ (x *ℤ v2 -ℤ z *ℤ v1))) +ℤ ((d *ℤ (w *ℤ u1 -ℤ z *ℤ u2)) *ℤ v1 +ℤ (d *ℤ (x *ℤ u2 -ℤ y *ℤ u1)) *ℤ v2)
          ≡ (d *ℤ (w *ℤ (p +ℤ u1) -ℤ z *ℤ (q +ℤ u2))) *ℤ v1 +ℤ (d *ℤ (x *ℤ (q +ℤ u2) -ℤ y *ℤ (p +ℤ u1))) *ℤ v2
      plain d x y z w v1 v2 p q u1 u2 = simp products (omega (arith, sums))

  pub even_count : (m n a b : ℤ) → IsEven m → IsEven n → IsEven (d *ℤ (a *ℤ m -ℤ b *ℤ n))
  even_count m n a b h k = even-mul_right d (a *ℤ m -ℤ b *ℤ n) (even-sub (a *ℤ m) (b *ℤ n) (even-mul_right a m h) (even-mul_right b n k))

-- a determinant that is 1 or -1, used twice
pub times_square : (d n v : ℤ) → IsSign d → d ≡ n → v ≡ (d *ℤ n) *ℤ v
times_square d n v sign e = plain v ∙ ap (λ (m : ℤ). m *ℤ v) (sym (ap (λ (m : ℤ). d *ℤ m) (sym e) ∙ sign_square d sign))
  where
    plain : (v : ℤ) → v ≡ pos 1 *ℤ v
    plain v = simp products

-- the sums from the multiplicities of the lines
pub first_row_solved : (d x y z w v1 v2 : ℤ) → (d *ℤ (x *ℤ w -ℤ y *ℤ z)) *ℤ v1 ≡ x *ℤ (d *ℤ (w *ℤ v1 -ℤ y *ℤ v2)) +ℤ y *ℤ (d *ℤ (x *ℤ v2 -ℤ z *ℤ v1))
first_row_solved d x y z w v1 v2 = simp products (omega (arith, sums))

pub second_row_solved : (d x y z w v1 v2 : ℤ) → (d *ℤ (x *ℤ w -ℤ y *ℤ z)) *ℤ v2 ≡ z *ℤ (d *ℤ (w *ℤ v1 -ℤ y *ℤ v2)) +ℤ w *ℤ (d *ℤ (x *ℤ v2 -ℤ z *ℤ v1))
second_row_solved d x y z w v1 v2 = simp products (omega (arith, sums))

pub first_column_solved : (d x y z w u1 u2 : ℤ) → (d *ℤ (x *ℤ w -ℤ y *ℤ z)) *ℤ u1 ≡ x *ℤ (d *ℤ (w *ℤ u1 -ℤ z *ℤ u2)) +ℤ z *ℤ (d *ℤ (x *ℤ u2 -ℤ y *ℤ u1))
first_column_solved d x y z w u1 u2 = simp products (omega (arith, sums))

pub second_column_solved : (d x y z w u1 u2 : ℤ) → (d *ℤ (x *ℤ w -ℤ y *ℤ z)) *ℤ u2 ≡ y *ℤ (d *ℤ (w *ℤ u1 -ℤ z *ℤ u2)) +ℤ w *ℤ (d *ℤ (x *ℤ u2 -ℤ y *ℤ u1))
second_column_solved d x y z w u1 u2 = simp products (omega (arith, sums))
