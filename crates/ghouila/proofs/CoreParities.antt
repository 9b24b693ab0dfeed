-- The added lines of the core of a concentrated separation, by the parities of four numbers.
use Rattle.std.proofs.Common.{ℤ, pos, negsuc, Bool, true, false, cond, ◌≡◌, ◌+ℤ◌, ◌*ℤ◌, ◌-ℤ◌, ◌∙◌, ap, refl, arith, subst, inl, inr}
use Rattle.std.proofs.lemmas.Bool.{false≢true}
use Rattle.cmr_base.specs.Sums.{IsEven, IsTwoModFour}
use Rattle.cmr_base.specs.Signing.{IsSign}
use Rattle.cmr_base.proofs.Integers.{sums, products}
use Rattle.cmr_base.proofs.Parity.{IsFour, even_or_odd, even-mul_right, four-mul_right}
use Rattle.ghouila.proofs.ParityBits.{Bit, bit, when, even_bit, mixed_product}

-- A line is added if both of two other lines are added, and also one of the two lines that it crosses.
abbrev pub comes_in : Bool → Bool → Bool → Bool → Bool
comes_in a b e f = cond a (cond b (cond e true f) false) false

not_both : (z : ℤ) (b : Bit z) → b.odd ≡ true → IsEven z → ⊥
not_both z b e (k, h) = plain z b.half k (b.is ∙ ap (λ (s : Bool). bit s +ℤ (b.half +ℤ b.half)) e) h
  where
    plain : (z h k : ℤ) → z ≡ pos 1 +ℤ (h +ℤ h) → z ≡ k +ℤ k → ⊥
    plain z h k e f = omega (arith, sums)

even_of : (z : ℤ) (b : Bit z) → b.odd ≡ false → IsEven z
even_of z b e = (b.half, b.is ∙ (ap (λ (s : Bool). bit s +ℤ (b.half +ℤ b.half)) e ∙ plain b.half))
  where
    plain : (h : ℤ) → pos 0 +ℤ (h +ℤ h) ≡ h +ℤ h
    plain h = omega (arith, sums)

-- The sums v1 and v2 of two rows are the products of x y; z w with p, q. They are even if p and q are even.
pub core_rows_even : (v1 v2 x y z w p q s t : ℤ) (a b : Bool) (bp : Bit p) (bq : Bit q) → v1 ≡ x *ℤ p +ℤ y *ℤ q → v2 ≡ z *ℤ p +ℤ w *ℤ q → (IsEven v1 → IsEven v2 → IsEven p × IsEven q)
    → IsEven (when a v1 +ℤ when b v2) → IsSign s → IsSign t
    → (a ≡ true → IsEven (v1 +ℤ when (comes_in a b bp.odd bq.odd) s)) × (b ≡ true → IsEven (v2 +ℤ when (comes_in a b bp.odd bq.odd) t))
core_rows_even v1 v2 x y z w p q s t a b bp bq is1 is2 back even us ut = go a b bp.odd bq.odd refl refl even
  where
    left_only : (v : ℤ) → IsEven (v +ℤ pos 0) → IsEven (v +ℤ pos 0)
    left_only v h = h

    right_only : (v : ℤ) → IsEven (pos 0 +ℤ v) → IsEven (v +ℤ pos 0)
    right_only v (k, e) = (k, omega (arith, sums))

    none : (v x y : ℤ) → v ≡ x *ℤ p +ℤ y *ℤ q → IsEven p → IsEven q → IsEven (v +ℤ pos 0)
    none v x y e h k = plain v (x *ℤ p) (y *ℤ q) e (even-mul_right x p h) (even-mul_right y q k)
      where
        plain : (v m n : ℤ) → v ≡ m +ℤ n → IsEven m → IsEven n → IsEven (v +ℤ pos 0)
        plain v m n e (k, f) (l, g) = (k +ℤ l, omega (arith, sums))

    odd_unit : (v s : ℤ) → IsSign s → IsEven (v +ℤ pos 1) → IsEven (v +ℤ s)
    odd_unit v s (inl e) (k, f) = (k, omega (arith, sums))
    odd_unit v s (inr e) (k, f) = (k -ℤ pos 1, omega (arith, sums))

    other_odd : (v w : ℤ) → IsEven (v +ℤ pos 1) → IsEven (v +ℤ w) → IsEven (w +ℤ pos 1)
    other_odd v w (k, e) (l, f) = ((l -ℤ k) +ℤ pos 1, omega (arith, sums))

    other_even : (v w : ℤ) → IsEven v → IsEven (v +ℤ w) → IsEven w
    other_even v w (k, e) (l, f) = (l -ℤ k, omega (arith, sums))

    both_odd : (IsEven p × IsEven q → ⊥) → IsEven (v1 +ℤ v2) → (true ≡ true → IsEven (v1 +ℤ s)) × (true ≡ true → IsEven (v2 +ℤ t))
    both_odd never h = elim (even_or_odd v1) [
      | inl k ↦ absurd (never (back k (other_even v1 v2 k h)))
      | inr k ↦ (λ _. odd_unit v1 s us k, λ _. odd_unit v2 t ut (other_odd v1 v2 k h))
    ]

    go : (a b e f : Bool) → bp.odd ≡ e → bq.odd ≡ f → IsEven (when a v1 +ℤ when b v2)
        → (a ≡ true → IsEven (v1 +ℤ when (comes_in a b e f) s)) × (b ≡ true → IsEven (v2 +ℤ when (comes_in a b e f) t))
    go false false e f pe qf h = (λ k. absurd (false≢true k), λ k. absurd (false≢true k))
    go false true e f pe qf h = (λ k. absurd (false≢true k), λ _. right_only v2 h)
    go true false e f pe qf h = (λ _. h, λ k. absurd (false≢true k))
    go true true false false pe qf h = (λ _. none v1 x y is1 (even_of p bp pe) (even_of q bq qf), λ _. none v2 z w is2 (even_of p bp pe) (even_of q bq qf))
    go true true true f pe qf h = both_odd (λ k. not_both p bp pe k.0) h
    go true true false true pe qf h = both_odd (λ k. not_both q bq qf k.1) h

-- the sum x*p + y*q, plus x if p is odd and plus y if q is odd, is even
pub even_with_parts : (v x y p q : ℤ) (bp : Bit p) (bq : Bit q) → v ≡ x *ℤ p +ℤ y *ℤ q → IsEven (v +ℤ (when bp.odd x +ℤ when bq.odd y))
even_with_parts v x y p q bp bq e =
    let one : IsEven ((v +ℤ x *ℤ p) +ℤ when bq.odd y) = even_bit (v +ℤ x *ℤ p) y q bq (double v (x *ℤ p) (y *ℤ q) e) in
    turn v (when bp.odd x) (when bq.odd y) (even_bit (v +ℤ when bq.odd y) x p bp (move v (x *ℤ p) (when bq.odd y) one))
  where
    double : (v m n : ℤ) → v ≡ m +ℤ n → IsEven ((v +ℤ m) +ℤ n)
    double v m n e = (v, omega (arith, sums))

    move : (v m n : ℤ) → IsEven ((v +ℤ m) +ℤ n) → IsEven ((v +ℤ n) +ℤ m)
    move v m n (k, e) = (k, omega (arith, sums))

    turn : (v m n : ℤ) → IsEven ((v +ℤ n) +ℤ m) → IsEven (v +ℤ (m +ℤ n))
    turn v m n (k, e) = (k, omega (arith, sums))

pub signs_even : (a b e f : Bool) (s t : ℤ) → IsSign s → IsSign t → comes_in a b e f ≡ true → IsEven (when a s +ℤ when b t)
signs_even false b e f s t us ut h = absurd (false≢true h)
signs_even true false e f s t us ut h = absurd (false≢true h)
signs_even true true e f s t (inl i) (inl j) h = (pos 1, rw (i, j) refl)
signs_even true true e f s t (inl i) (inr j) h = (pos 0, rw (i, j) refl)
signs_even true true e f s t (inr i) (inl j) h = (pos 0, rw (i, j) refl)
signs_even true true e f s t (inr i) (inr j) h = (negsuc 0, rw (i, j) refl)

-- t*x*s is equal modulo 4 to the sum of x*s if t is odd, x*t if s is odd, and -x if both are odd
term_four : (x t s : ℤ) (bt : Bit t) (bs : Bit s) → IsFour ((t *ℤ (x *ℤ s) +ℤ when bt.odd (when bs.odd x)) -ℤ (when bt.odd (x *ℤ s) +ℤ when bs.odd (x *ℤ t)))
term_four x t s bt bs = go bt.odd bs.odd (mixed_product t s bt bs)
  where
    e00 : (x t s : ℤ) → x *ℤ ((t *ℤ s +ℤ pos 0) -ℤ (pos 0 +ℤ pos 0)) ≡ (t *ℤ (x *ℤ s) +ℤ pos 0) -ℤ (pos 0 +ℤ pos 0)
    e00 x t s = simp products (omega (arith, sums))

    e01 : (x t s : ℤ) → x *ℤ ((t *ℤ s +ℤ pos 0) -ℤ (t +ℤ pos 0)) ≡ (t *ℤ (x *ℤ s) +ℤ pos 0) -ℤ (pos 0 +ℤ x *ℤ t)
    e01 x t s = simp products (omega (arith, sums))

    e10 : (x t s : ℤ) → x *ℤ ((t *ℤ s +ℤ pos 0) -ℤ (pos 0 +ℤ s)) ≡ (t *ℤ (x *ℤ s) +ℤ pos 0) -ℤ (x *ℤ s +ℤ pos 0)
    e10 x t s = simp products (omega (arith, sums))

    e11 : (x t s : ℤ) → x *ℤ ((t *ℤ s +ℤ pos 1) -ℤ (t +ℤ s)) ≡ (t *ℤ (x *ℤ s) +ℤ x) -ℤ (x *ℤ s +ℤ x *ℤ t)
    e11 x t s = simp products (omega (arith, sums))

    go : (a e : Bool) → IsFour ((t *ℤ s +ℤ when a (when e (pos 1))) -ℤ (when e t +ℤ when a s)) → IsFour ((t *ℤ (x *ℤ s) +ℤ when a (when e x)) -ℤ (when a (x *ℤ s) +ℤ when e (x *ℤ t)))
    go false false h = subst IsFour (e00 x t s) (four-mul_right x ((t *ℤ s +ℤ pos 0) -ℤ (pos 0 +ℤ pos 0)) h)
    go false true h = subst IsFour (e01 x t s) (four-mul_right x ((t *ℤ s +ℤ pos 0) -ℤ (t +ℤ pos 0)) h)
    go true false h = subst IsFour (e10 x t s) (four-mul_right x ((t *ℤ s +ℤ pos 0) -ℤ (pos 0 +ℤ s)) h)
    go true true h = subst IsFour (e11 x t s) (four-mul_right x ((t *ℤ s +ℤ pos 1) -ℤ (t +ℤ s)) h)

when_add : (s : Bool) (v m n : ℤ) → v ≡ m +ℤ n → when s v ≡ when s m +ℤ when s n
when_add false v m n e = refl
when_add true v m n e = e

-- the sum over the core, without the last lines
abbrev pub core_sum : ℤ → ℤ → ℤ → ℤ → Bool → Bool → Bool → Bool → ℤ
core_sum x y z w a b e f = (when a (when e x) +ℤ when a (when f y)) +ℤ (when b (when e z) +ℤ when b (when f w))

pub total_four : (x y z w t o p q v1 v2 u1 u2 : ℤ) (bt : Bit t) (bo : Bit o) (bp : Bit p) (bq : Bit q) → v1 ≡ x *ℤ p +ℤ y *ℤ q → v2 ≡ z *ℤ p +ℤ w *ℤ q → u1 ≡ x *ℤ t +ℤ z *ℤ o → u2 ≡ y *ℤ t +ℤ w *ℤ o
    → IsFour (((t *ℤ v1 +ℤ o *ℤ v2) +ℤ core_sum x y z w bt.odd bo.odd bp.odd bq.odd) -ℤ ((when bt.odd v1 +ℤ when bo.odd v2) +ℤ (when bp.odd u1 +ℤ when bq.odd u2)))
total_four x y z w t o p q v1 v2 u1 u2 bt bo bp bq e1 e2 f1 f2 =
    plain (t *ℤ v1) (t *ℤ (x *ℤ p)) (t *ℤ (y *ℤ q)) (o *ℤ v2) (o *ℤ (z *ℤ p)) (o *ℤ (w *ℤ q))
    (when bt.odd (when bp.odd x)) (when bt.odd (when bq.odd y)) (when bo.odd (when bp.odd z)) (when bo.odd (when bq.odd w))
    (when bt.odd v1) (when bt.odd (x *ℤ p)) (when bt.odd (y *ℤ q)) (when bo.odd v2) (when bo.odd (z *ℤ p)) (when bo.odd (w *ℤ q))
    (when bp.odd u1) (when bp.odd (x *ℤ t)) (when bp.odd (z *ℤ o)) (when bq.odd u2) (when bq.odd (y *ℤ t)) (when bq.odd (w *ℤ o))
    (ap (λ (n : ℤ). t *ℤ n) e1 ∙ distributed t (x *ℤ p) (y *ℤ q)) (ap (λ (n : ℤ). o *ℤ n) e2 ∙ distributed o (z *ℤ p) (w *ℤ q))
    (when_add bt.odd v1 (x *ℤ p) (y *ℤ q) e1) (when_add bo.odd v2 (z *ℤ p) (w *ℤ q) e2) (when_add bp.odd u1 (x *ℤ t) (z *ℤ o) f1) (when_add bq.odd u2 (y *ℤ t) (w *ℤ o) f2)
    (term_four x t p bt bp) (term_four y t q bt bq) (term_four z o p bo bp) (term_four w o q bo bq)
  where
    distributed : (t m n : ℤ) → t *ℤ (m +ℤ n) ≡ t *ℤ m +ℤ t *ℤ n
    distributed t m n = simp products

    plain : (s1 s2 s3 s4 s5 s6 x1 x2 x3 x4 a1 a2 a3 b1 b2 b3 c1 c2 c3 d1 d2 d3 : ℤ) → s1 ≡ s2 +ℤ s3 → s4 ≡ s5 +ℤ s6 → a1 ≡ a2 +ℤ a3 → b1 ≡ b2 +ℤ b3 → c1 ≡ c2 +ℤ c3 → d1 ≡ d2 +ℤ d3
        → IsFour ((s2 +ℤ x1) -ℤ (a2 +ℤ c2)) → IsFour ((s3 +ℤ x2) -ℤ (a3 +ℤ d2)) → IsFour ((s5 +ℤ x3) -ℤ (b2 +ℤ c3)) → IsFour ((s6 +ℤ x4) -ℤ (b3 +ℤ d3))
        → IsFour (((s1 +ℤ s4) +ℤ ((x1 +ℤ x2) +ℤ (x3 +ℤ x4))) -ℤ ((a1 +ℤ b1) +ℤ (c1 +ℤ d1)))
    plain s1 s2 s3 s4 s5 s6 x1 x2 x3 x4 a1 a2 a3 b1 b2 b3 c1 c2 c3 d1 d2 d3 e1 e2 e3 e4 e5 e6 (k, f) (l, g) (m, h) (n, i) = (((k +ℤ l) +ℤ m) +ℤ n, omega (arith, sums))

-- a row of the core
abbrev pub core_line : ℤ → ℤ → ℤ → Bool → Bool → Bool → ℤ
core_line s x y j e f = when j s +ℤ (when e x +ℤ (when f y +ℤ pos 0))

pub total_two : (x y z w g h s t n v1 v2 u1 u2 t1 t2 sum : ℤ) (a b e f : Bool) → n ≡ pos 0
    → IsTwoModFour ((t1 +ℤ sum) +ℤ t2)
    → IsFour ((sum +ℤ core_sum x y z w a b e f) -ℤ ((when a v1 +ℤ when b v2) +ℤ (when e u1 +ℤ when f u2)))
    → IsTwoModFour ((((t1 +ℤ when a (v1 +ℤ when (comes_in a b e f) s)) +ℤ when b (v2 +ℤ when (comes_in a b e f) t))
    +ℤ ((t2 +ℤ when e (u1 +ℤ when (comes_in e f a b) g)) +ℤ when f (u2 +ℤ when (comes_in e f a b) h)))
    -ℤ (when (comes_in e f a b) (core_line n g h (comes_in a b e f) e f) +ℤ (when a (core_line s x y (comes_in a b e f) e f) +ℤ (when b (core_line t z w (comes_in a b e f) e f) +ℤ pos 0))))
total_two x y z w g h s t n v1 v2 u1 u2 t1 t2 sum a b e f zero two four = go a b e f two four
  where
    go : (a b e f : Bool) → IsTwoModFour ((t1 +ℤ sum) +ℤ t2)
        → IsFour ((sum +ℤ core_sum x y z w a b e f) -ℤ ((when a v1 +ℤ when b v2) +ℤ (when e u1 +ℤ when f u2)))
        → IsTwoModFour ((((t1 +ℤ when a (v1 +ℤ when (comes_in a b e f) s)) +ℤ when b (v2 +ℤ when (comes_in a b e f) t))
        +ℤ ((t2 +ℤ when e (u1 +ℤ when (comes_in e f a b) g)) +ℤ when f (u2 +ℤ when (comes_in e f a b) h)))
        -ℤ (when (comes_in e f a b) (core_line n g h (comes_in a b e f) e f) +ℤ (when a (core_line s x y (comes_in a b e f) e f) +ℤ (when b (core_line t z w (comes_in a b e f) e f) +ℤ pos 0))))
    go false false false false (k, l) (m, i) = (k -ℤ m, omega (arith, sums))
    go false false false true (k, l) (m, i) = (k -ℤ m, omega (arith, sums))
    go false false true false (k, l) (m, i) = (k -ℤ m, omega (arith, sums))
    go false false true true (k, l) (m, i) = (k -ℤ m, omega (arith, sums))
    go false true false false (k, l) (m, i) = (k -ℤ m, omega (arith, sums))
    go false true false true (k, l) (m, i) = (k -ℤ m, omega (arith, sums))
    go false true true false (k, l) (m, i) = (k -ℤ m, omega (arith, sums))
    go false true true true (k, l) (m, i) = (k -ℤ m, omega (arith, sums))
    go true false false false (k, l) (m, i) = (k -ℤ m, omega (arith, sums))
    go true false false true (k, l) (m, i) = (k -ℤ m, omega (arith, sums))
    go true false true false (k, l) (m, i) = (k -ℤ m, omega (arith, sums))
    go true false true true (k, l) (m, i) = (k -ℤ m, omega (arith, sums))
    go true true false false (k, l) (m, i) = (k -ℤ m, omega (arith, sums))
    go true true false true (k, l) (m, i) = (k -ℤ m, omega (arith, sums))
    go true true true false (k, l) (m, i) = (k -ℤ m, omega (arith, sums))
    go true true true true (k, l) (m, i) = (k -ℤ m, omega (arith, sums))
