-- Rows and columns in numbered parts without a nonzero between two parts. A violator has all its lines in one part.
use Rattle.std.proofs.Common.{ℕ, zero, suc, ◌<◌, ℤ, pos, true, false, nat_eq, List, [], ◌∷◌, ◌≡◌, ◌≢◌, ◌+ℤ◌, arith, ◌⊎◌, inl, inr}
use Rattle.std.proofs.lemmas.Bool.Decides.{nat_tests}
use Rattle.std.specs.List.{AllByRecursion}
use Rattle.cmr_base.specs.Sums.{sum_over, IsTwoModFour}
use Rattle.cmr_base.proofs.Integers.{sums}
use Rattle.cmr_base.proofs.Booleans.{eq_of}
use Rattle.ghouila.proofs.ViolatedLines.{ViolatedIn, FreeIn, widened}
use Rattle.ghouila.proofs.Sides.{On}
use Rattle.ghouila.proofs.ConnectedParts.{one_children}

less_number : (x y : ℕ) → nat_eq x y ≡ false → x < suc y → x < y
less_number x y e l = grind (arith, nat_tests)

two_numbers : (x y k : ℕ) → nat_eq x k ≡ true → nat_eq y k ≡ false → x ≢ y
two_numbers x y k e f = grind (arith, nat_tests)

two_numbers' : (x y k : ℕ) → nat_eq x k ≡ false → nat_eq y k ≡ true → x ≢ y
two_numbers' x y k e f = grind (arith, nat_tests)

one_part : (M : ℕ → ℕ → ℤ) (row_part column_part : ℕ → ℕ) (k : ℕ) (P Q : ℕ → Type 0) → ((r : ℕ) → P r → row_part r < k) → ((c : ℕ) → Q c → column_part c < k)
    → ((r c : ℕ) → P r → Q c → row_part r ≢ column_part c → M r c ≡ pos 0)
    → ViolatedIn M P Q → (part : ℕ) × (part < k) × ViolatedIn M (λ r. P r × (row_part r ≡ part)) (λ c. Q c × (column_part c ≡ part))
one_part M row_part column_part zero P Q rows columns zeros v = absurd (none v.R v.rows v.violator.two_mod_four)
  where
    none : (R : List ℕ) → AllByRecursion P R → IsTwoModFour (sum_over R (λ r. sum_over v.C (λ c. M r c))) → ⊥
    none [] h (k, e) = plain k e
      where
        plain : (k : ℤ) → pos 0 ≡ pos 2 +ℤ ((k +ℤ k) +ℤ (k +ℤ k)) → ⊥
        plain k e = omega (arith, sums)
    none (r ∷ R) h two = let l = rows r h.0 in omega arith
one_part M row_part column_part (suc k) P Q rows columns zeros v =
    go (one_children M P Q (λ r. nat_eq (row_part r) k) (λ c. nat_eq (column_part c) k)
    (λ r c p q. zeros r c p.0 q.0 (two_numbers (row_part r) (column_part c) k p.1 q.1)) (λ r c p q. zeros r c p.0 q.0 (two_numbers' (row_part r) (column_part c) k p.1 q.1)) v)
    (λ w. one_part M row_part column_part k (On P (λ r. nat_eq (row_part r) k) false) (On Q (λ c. nat_eq (column_part c) k) false)
    (λ r p. less_number (row_part r) k p.1 (rows r p.0)) (λ c q. less_number (column_part c) k q.1 (columns c q.0)) (λ r c p q n. zeros r c p.0 q.0 n) w)
  where
    more : (x k : ℕ) → x < k → x < suc k
    more x k l = omega arith

    go : ViolatedIn M (On P (λ r. nat_eq (row_part r) k) true) (On Q (λ c. nat_eq (column_part c) k) true) ⊎ ViolatedIn M (On P (λ r. nat_eq (row_part r) k) false) (On Q (λ c. nat_eq (column_part c) k) false)
        → (ViolatedIn M (On P (λ r. nat_eq (row_part r) k) false) (On Q (λ c. nat_eq (column_part c) k) false)
        → (part : ℕ) × (part < k) × ViolatedIn M (λ r. On P (λ r. nat_eq (row_part r) k) false r × (row_part r ≡ part)) (λ c. On Q (λ c. nat_eq (column_part c) k) false c × (column_part c ≡ part)))
        → (part : ℕ) × (part < suc k) × ViolatedIn M (λ r. P r × (row_part r ≡ part)) (λ c. Q c × (column_part c ≡ part))
    go (inl w) rest = (
      k,
      omega arith,
      widened M (λ r. P r × (row_part r ≡ k)) (λ c. Q c × (column_part c ≡ k)) (On P (λ r. nat_eq (row_part r) k) true) (On Q (λ c. nat_eq (column_part c) k) true)
          (λ r h. (h.0, eq_of (row_part r) k h.1)) (λ c h. (h.0, eq_of (column_part c) k h.1)) w,
    )
    go (inr w) rest = let h = rest w in (
      h.0,
      more h.0 k h.1,
      widened M (λ r. P r × (row_part r ≡ h.0)) (λ c. Q c × (column_part c ≡ h.0))
          (λ r. On P (λ r. nat_eq (row_part r) k) false r × (row_part r ≡ h.0)) (λ c. On Q (λ c. nat_eq (column_part c) k) false c × (column_part c ≡ h.0)) (λ r x. (x.0.0, x.1)) (λ c x. (x.0.0, x.1)) h.2,
    )

pub free_from_parts : (M : ℕ → ℕ → ℤ) (P Q : ℕ → Type 0) (row_part column_part : ℕ → ℕ) (k : ℕ) → ((r : ℕ) → P r → row_part r < k) → ((c : ℕ) → Q c → column_part c < k)
    → ((r c : ℕ) → P r → Q c → row_part r ≢ column_part c → M r c ≡ pos 0)
    → ((part : ℕ) → part < k → FreeIn M (λ r. P r × (row_part r ≡ part)) (λ c. Q c × (column_part c ≡ part))) → FreeIn M P Q
free_from_parts M P Q row_part column_part k rows columns zeros all v = let h = one_part M row_part column_part k P Q rows columns zeros v in all h.0 h.1 h.2
