-- Numbers in increasing lists.
use Rattle.std.proofs.Common.{◌<◌, ◌≤◌, ◌+◌, ℕ, zero, suc, List, [], ◌∷◌, ◌++◌, length, get_or, arith}

-- another number above all others
pub below_push : (xs : List ℕ) (x bound : ℕ) → ((k : ℕ) → k < length xs → get_or xs k 0 < bound) → bound ≤ x → (k : ℕ) → k < length (xs ++ x ∷ []) → get_or (xs ++ x ∷ []) k 0 < x + 1
below_push [] x bound below le zero h = omega arith
below_push [] x bound below le (suc k) h = absurd (omega (arith, h))
below_push (y ∷ xs) x bound below le zero h = let first = below 0 (omega arith) in omega (arith, first)
below_push (y ∷ xs) x bound below le (suc k) h = below_push xs x bound (λ j l. below (suc j) (omega (arith, l))) le k (omega (arith, h))
