-- One signing of each table, which has no violator: the proof tries all sets of its rows and of its columns.
use Rattle.std.proofs.Common.{◌≡◌, ℕ, zero, suc, ℤ, pos, negsuc, ◌+◌, ◌%◌, ◌+ℤ◌, Bool, true, false, not, cond, ◌&&◌, nat_eq, List, [], ◌∷◌, map, length, refl, arith}
use Rattle.cmr_base.proofs.Booleans.{and_is}

abbrev pub circulant : List (List ℤ)
circulant =
    (pos 1 ∷ negsuc 0 ∷ pos 0 ∷ pos 0 ∷ negsuc 0 ∷ [])
    ∷ (negsuc 0 ∷ pos 1 ∷ negsuc 0 ∷ pos 0 ∷ pos 0 ∷ [])
    ∷ (pos 0 ∷ negsuc 0 ∷ pos 1 ∷ negsuc 0 ∷ pos 0 ∷ [])
    ∷ (pos 0 ∷ pos 0 ∷ negsuc 0 ∷ pos 1 ∷ negsuc 0 ∷ [])
    ∷ (negsuc 0 ∷ pos 0 ∷ pos 0 ∷ negsuc 0 ∷ pos 1 ∷ [])
    ∷ []

abbrev pub bordered : List (List ℤ)
bordered =
    (pos 1 ∷ pos 1 ∷ pos 1 ∷ pos 1 ∷ pos 1 ∷ [])
    ∷ (pos 1 ∷ pos 1 ∷ pos 1 ∷ pos 0 ∷ pos 0 ∷ [])
    ∷ (pos 1 ∷ pos 0 ∷ pos 1 ∷ pos 1 ∷ pos 0 ∷ [])
    ∷ (pos 1 ∷ pos 0 ∷ pos 0 ∷ pos 1 ∷ pos 1 ∷ [])
    ∷ (pos 1 ∷ pos 1 ∷ pos 0 ∷ pos 0 ∷ pos 1 ∷ [])
    ∷ []

-- the sum of the chosen numbers
abbrev pub chosen_sum : List Bool → List ℤ → ℤ
chosen_sum [] zs = pos 0
chosen_sum (b ∷ bs) [] = pos 0
chosen_sum (b ∷ bs) (z ∷ zs) = cond b z (pos 0) +ℤ chosen_sum bs zs

abbrev pub rests : ℤ → ℕ → ℕ → Bool
rests (pos n) d r = nat_eq (n % d) r
rests (negsuc n) d r = nat_eq ((n + 1) % d) r

abbrev pub row_sums : List (List ℤ) → List Bool → List ℤ
row_sums table columns = map (chosen_sum columns) table

-- each chosen number is even
abbrev pub chosen_even : List Bool → List ℤ → Bool
chosen_even [] zs = true
chosen_even (b ∷ bs) [] = true
chosen_even (b ∷ bs) (z ∷ zs) = cond b (rests z 2 0) true && chosen_even bs zs

-- the sums of the columns over the chosen rows
abbrev pub added : List ℤ → List ℤ → List ℤ
added [] ys = ys
added (x ∷ xs) [] = x ∷ xs
added (x ∷ xs) (y ∷ ys) = (x +ℤ y) ∷ added xs ys

abbrev pub column_sums : List ℤ → List (List ℤ) → List Bool → List ℤ
column_sums start [] rows = start
column_sums start (line ∷ table) [] = start
column_sums start (line ∷ table) (b ∷ rows) = cond b (added line (column_sums start table rows)) (column_sums start table rows)

abbrev pub zeros : List ℤ
zeros = pos 0 ∷ pos 0 ∷ pos 0 ∷ pos 0 ∷ pos 0 ∷ []

abbrev pub is_clean : List (List ℤ) → List Bool → List Bool → Bool
is_clean table rows columns = not (chosen_even rows (row_sums table columns) && chosen_even columns (column_sums zeros table rows) && rests (chosen_sum rows (row_sums table columns)) 4 2)

-- the test holds for all choices of `n` booleans
abbrev pub always : ℕ → (List Bool → Bool) → Bool
always zero test = test []
always (suc n) test = always n (λ bs. test (true ∷ bs)) && always n (λ bs. test (false ∷ bs))

-- a test that always holds is true for each choice
pub always_holds : (n : ℕ) (test : List Bool → Bool) → always n test ≡ true → (bs : List Bool) → length bs ≡ n → test bs ≡ true
always_holds zero test h [] e = h
always_holds zero test h (b ∷ bs) e = absurd (omega arith)
always_holds (suc n) test h [] e = absurd (omega arith)
always_holds (suc n) test h (true ∷ bs) e = always_holds n (λ cs. test (true ∷ cs)) (and_is (always n (λ cs. test (true ∷ cs))) (always n (λ cs. test (false ∷ cs))) h).0 bs (omega arith)
always_holds (suc n) test h (false ∷ bs) e = always_holds n (λ cs. test (false ∷ cs)) (and_is (always n (λ cs. test (true ∷ cs))) (always n (λ cs. test (false ∷ cs))) h).1 bs (omega arith)

pub circulant_clean : always 5 (λ rows. always 5 (λ columns. is_clean circulant rows columns)) ≡ true
circulant_clean = refl

pub bordered_clean : always 5 (λ rows. always 5 (λ columns. is_clean bordered rows columns)) ≡ true
bordered_clean = refl
