-- Added lines of the core have even sums.
use Rattle.std.proofs.Common.{ℕ, ℤ, pos, Bool, true, false, List, ◌≡◌, ◌+ℤ◌, ◌*ℤ◌, ◌-ℤ◌, ◌∙◌, sym, ap₂, refl, arith, subst, ◌⊎◌, inl, inr}
use Rattle.std.specs.List.{AllByRecursion}
use Rattle.cmr_base.specs.Sums.{sum_over, IsEven, IsTwoModFour}
use Rattle.cmr_base.proofs.Integers.{sums, products}
use Rattle.cmr_base.proofs.SumLaws.{sum_over-add, sum_over-zero, sum_over-exchange}
use Rattle.cmr_base.proofs.Parity.{even_or_odd, even-sum_over}
use Rattle.ghouila.proofs.ParityBits.{Bit, when, even_bit_left}
use Rattle.ghouila.proofs.JoinedSides.{two_or}
use Rattle.ghouila.proofs.CoreParities.{core_line}

pub sum_over-when : (xs : List ℕ) (s : Bool) (f : ℕ → ℤ) → sum_over xs (λ x. when s (f x)) ≡ when s (sum_over xs f)
sum_over-when xs true f = refl
sum_over-when xs false f = sum_over-zero xs

pub even_bits : (n t o m l : ℤ) (bt : Bit t) (bo : Bit o) → IsEven (n +ℤ (t *ℤ m +ℤ o *ℤ l)) → IsEven (n +ℤ (when bt.odd m +ℤ when bo.odd l))
even_bits n t o m l bt bo h =
    turn n (when bt.odd m) (when bo.odd l) (even_bit_left (n +ℤ when bo.odd l) t m bt (move n (t *ℤ m) (when bo.odd l) (even_bit_left (n +ℤ t *ℤ m) o l bo (apart n (t *ℤ m) (o *ℤ l) h))))
  where
    apart : (n m l : ℤ) → IsEven (n +ℤ (m +ℤ l)) → IsEven ((n +ℤ m) +ℤ l)
    apart n m l (k, e) = (k, omega (arith, sums))

    move : (n m l : ℤ) → IsEven ((n +ℤ m) +ℤ l) → IsEven ((n +ℤ l) +ℤ m)
    move n m l (k, e) = (k, omega (arith, sums))

    turn : (n m l : ℤ) → IsEven ((n +ℤ l) +ℤ m) → IsEven (n +ℤ (m +ℤ l))
    turn n m l (k, e) = (k, omega (arith, sums))

pub even_bits_right : (n t o m l : ℤ) (bt : Bit t) (bo : Bit o) → IsEven ((m *ℤ t +ℤ l *ℤ o) +ℤ n) → IsEven (n +ℤ (when bt.odd m +ℤ when bo.odd l))
even_bits_right n t o m l bt bo h = even_bits n t o m l bt bo (subst IsEven (same n t o m l) h)
  where
    same : (n t o m l : ℤ) → (m *ℤ t +ℤ l *ℤ o) +ℤ n ≡ n +ℤ (t *ℤ m +ℤ o *ℤ l)
    same n t o m l = simp products (omega (arith, sums))

pub less_even : (n m : ℤ) → IsEven n → IsEven (n +ℤ m) → IsEven m
less_even n m (k, e) (l, f) = (l -ℤ k, omega (arith, sums))

-- the added lines together have an even sum
pub incoming_even : (M : ℕ → ℕ → ℤ) (R C : List ℕ) (k o : ℕ) (a b : Bool) → AllByRecursion (λ r. IsEven (sum_over C (λ c. M r c))) R
    → AllByRecursion (λ c. IsEven (sum_over R (λ r. M r c) +ℤ (when a (M k c) +ℤ when b (M o c)))) C
    → IsEven (when a (sum_over C (λ c. M k c)) +ℤ when b (sum_over C (λ c. M o c)))
incoming_even M R C k o a b rows columns = less_even (sum_over R (λ r. sum_over C (λ c. M r c))) (when a (sum_over C (λ c. M k c)) +ℤ when b (sum_over C (λ c. M o c))) (even-sum_over R (λ r. sum_over C (λ c. M r c)) rows)
    (subst IsEven (sum_over-add C (λ c. sum_over R (λ r. M r c)) (λ c. when a (M k c) +ℤ when b (M o c))
    ∙ ap₂ (λ (m n : ℤ). m +ℤ n) (sym (sum_over-exchange R C (λ r c. M r c))) (sum_over-add C (λ c. when a (M k c)) (λ c. when b (M o c)) ∙ ap₂ (λ (m n : ℤ). m +ℤ n) (sum_over-when C a (λ c. M k c)) (sum_over-when C b (λ c. M o c))))
    (even-sum_over C (λ c. sum_over R (λ r. M r c) +ℤ (when a (M k c) +ℤ when b (M o c))) columns))

even_when : (s : Bool) (m : ℤ) → (s ≡ true → IsEven m) → IsEven (when s m)
even_when true m f = f refl
even_when false m f = (pos 0, refl)

pub added_even : (n m l : ℤ) (a b : Bool) → IsEven n → (a ≡ true → IsEven m) → (b ≡ true → IsEven l) → IsEven ((n +ℤ when a m) +ℤ when b l)
added_even n m l a b h f g = plain n (when a m) (when b l) h (even_when a m f) (even_when b l g)
  where
    plain : (n m l : ℤ) → IsEven n → IsEven m → IsEven l → IsEven ((n +ℤ m) +ℤ l)
    plain n m l (k, e) (i, f) (j, g) = ((k +ℤ i) +ℤ j, omega (arith, sums))

pub core_even : (n m l : ℤ) (s a b : Bool) → (s ≡ true → IsEven n) → (a ≡ true → IsEven m) → (b ≡ true → IsEven l) → IsEven (when s n +ℤ (when a m +ℤ (when b l +ℤ pos 0)))
core_even n m l s a b f g h = plain (when s n) (when a m) (when b l) (even_when s n f) (even_when a m g) (even_when b l h)
  where
    plain : (n m l : ℤ) → IsEven n → IsEven m → IsEven l → IsEven (n +ℤ (m +ℤ (l +ℤ pos 0)))
    plain n m l (k, e) (i, f) (j, g) = ((k +ℤ i) +ℤ j, omega (arith, sums))

-- the line of the core through its entry 0, if the two other lines that cross it together have an even sum
pub last_core_line : (n m l : ℤ) (t e f : Bool) → n ≡ pos 0 → IsEven (when e m +ℤ when f l) → IsEven (core_line n m l t e f)
last_core_line n m l t e f zero h = go t
  where
    plain : (n m l : ℤ) → n ≡ pos 0 → IsEven (m +ℤ l) → IsEven (n +ℤ (m +ℤ (l +ℤ pos 0)))
    plain n m l e (k, f) = (k, omega (arith, sums))

    go : (t : Bool) → IsEven (core_line n m l t e f)
    go true = plain n (when e m) (when f l) zero h
    go false = plain (pos 0) (when e m) (when f l) refl h

-- another line of the core
pub inner_core_line : (v s m n : ℤ) (j e f : Bool) → IsEven (v +ℤ (when e m +ℤ when f n)) → IsEven (v +ℤ when j s) → IsEven (core_line s m n j e f)
inner_core_line v s m n j e f h k = plain v (when j s) (when e m) (when f n) h k
  where
    plain : (v s m n : ℤ) → IsEven (v +ℤ (m +ℤ n)) → IsEven (v +ℤ s) → IsEven (s +ℤ (m +ℤ (n +ℤ pos 0)))
    plain v s m n (k, f) (l, g) = ((k +ℤ l) -ℤ v, omega (arith, sums))

pub one_of_three : (m n x : ℤ) → IsTwoModFour ((m +ℤ n) -ℤ x) → IsEven m → IsEven x → IsTwoModFour m ⊎ (IsTwoModFour n ⊎ IsTwoModFour x)
one_of_three m n x (k, e) h (l, f) = elim (even_or_odd l) [
  | inl p ↦ split (two_or m n ((k +ℤ p.0), let q = p.1 in omega (arith, sums)) h)
  | inr p ↦ inr (inr (p.0 -ℤ pos 1, let q = p.1 in omega (arith, sums)))
]
  where
    split : IsTwoModFour m ⊎ IsTwoModFour n → IsTwoModFour m ⊎ (IsTwoModFour n ⊎ IsTwoModFour x)
    split (inl h) = inl h
    split (inr h) = inr (inl h)
