-- Listed calls.
use Rattle.std.proofs.Common.{◌≡◌, ◌≤◌, ◌&&◌, ℕ, true, false, leb, eqb, not, List, [], ◌∷◌, refl, arith}
use Rattle.std.specs.List.{list_all, list_any}
use Rattle.std.proofs.lemmas.Bool.Decides.{nat_tests}
use Rattle.cmr_base.proofs.Booleans.{and_is}
use Rattle.cmr_io.specs.Calls.{last_count, next_number}

passed_later : (n k m : ℕ) → k ≤ m → (leb n k && not (eqb n last_count)) ≡ true → (leb n m && not (eqb n last_count)) ≡ true
passed_later n k m h e = grind (arith, nat_tests)

is_other : (n k : ℕ) → (leb n k && not (eqb n last_count)) ≡ true → eqb n (next_number k) ≡ false
is_other n k e = grind (arith, nat_tests)

-- a quiet device is quiet after further calls
pub quiet_later : (listed : List ℕ) (k m : ℕ) → k ≤ m → list_all (λ n. leb n k && not (eqb n last_count)) listed ≡ true → list_all (λ n. leb n m && not (eqb n last_count)) listed ≡ true
quiet_later [] k m h e = refl
quiet_later (n ∷ listed) k m h e =
    let p = and_is (leb n k && not (eqb n last_count)) (list_all (λ n. leb n k && not (eqb n last_count)) listed) e in
    rw (passed_later n k m h p.0) (quiet_later listed k m h p.1)

-- the next call of a quiet device is not listed
pub quiet_next : (listed : List ℕ) (k : ℕ) → list_all (λ n. leb n k && not (eqb n last_count)) listed ≡ true → list_any (λ n. eqb n (next_number k)) listed ≡ false
quiet_next [] k e = refl
quiet_next (n ∷ listed) k e =
    let p = and_is (leb n k && not (eqb n last_count)) (list_all (λ n. leb n k && not (eqb n last_count)) listed) e in
    rw (is_other n k p.0) (quiet_next listed k p.1)
