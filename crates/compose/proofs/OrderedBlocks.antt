-- Four blocks that are the blocks of a matrix with its lines in an order.
use Rattle.std.proofs.Common.{◌≡◌, ◌<◌, ◌≤◌, ◌+◌, ◌-◌, ◌∙◌, ◌++◌, ℕ, zero, suc, ℤ, Bool, true, false, cond, nat_lt, List, [], ◌∷◌, map, length, get_or, ap, ap₂, sym, refl, arith, zero-add}
use Rattle.std.specs.List.{range_with_len}
use Rattle.cmr_base.specs.Matrix.{Matrix, entry}
use Rattle.cmr_base.specs.LineSets.{first_lines, submatrix}
use Rattle.cmr_base.specs.MatrixSums.{filled, four_blocks}
use Rattle.cmr_base.proofs.Booleans.{lt_of, at_least_of}

pub get_left : (xs ys : List ℕ) (i : ℕ) → i < length xs → get_or (xs ++ ys) i 0 ≡ get_or xs i 0
get_left [] ys i l = absurd (omega arith)
get_left (x ∷ xs) ys zero l = refl
get_left (x ∷ xs) ys (suc i) l = get_left xs ys i (omega arith)

pub get_after : (xs ys : List ℕ) (i t : ℕ) → i ≡ length xs + t → get_or (xs ++ ys) i 0 ≡ get_or ys t 0
get_after [] ys i t e = ap (λ (k : ℕ). get_or ys k 0) (plainly i t e)
  where
    plainly : (i t : ℕ) → i ≡ 0 + t → i ≡ t
    plainly i t e = omega arith
get_after (x ∷ xs) ys zero t e = absurd (omega arith)
get_after (x ∷ xs) ys (suc i) t e = get_after xs ys i t (omega arith)

pub get_right : (xs ys : List ℕ) (i : ℕ) → length xs ≤ i → get_or (xs ++ ys) i 0 ≡ get_or ys (i - length xs) 0
get_right xs ys i l = get_after xs ys i (i - length xs) (omega arith)

within : (r m u : ℕ) → r < m + u → m ≤ r → r - m < u
within r m u l k = omega arith

pub blocks_ordered : (M : ℕ → ℕ → ℤ) (R1 C1 R2 C2 : List ℕ) (up left : ℕ) (first right below second : ℕ → ℕ → ℤ)
    → ((a b : ℕ) → a < length R1 → b < length C1 → first a b ≡ M (get_or R1 a 0) (get_or C1 b 0))
    → ((a b : ℕ) → a < length R1 → b < length C2 → right a (left + b) ≡ M (get_or R1 a 0) (get_or C2 b 0))
    → ((a b : ℕ) → a < length R2 → b < length C1 → below (up + a) b ≡ M (get_or R2 a 0) (get_or C1 b 0))
    → ((a b : ℕ) → a < length R2 → b < length C2 → second (up + a) (left + b) ≡ M (get_or R2 a 0) (get_or C2 b 0))
    → (a b : ℕ) → a < length R1 + length R2 → b < length C1 + length C2
    → four_blocks (length R1) (length C1) up left first right below second a b ≡ M (get_or (R1 ++ R2) a 0) (get_or (C1 ++ C2) b 0)
blocks_ordered M R1 C1 R2 C2 up left first right below second one two three four a b la lb = go (nat_lt a (length R1)) (nat_lt b (length C1)) refl refl
  where
    go : (s t : Bool) → nat_lt a (length R1) ≡ s → nat_lt b (length C1) ≡ t
        → cond s (cond t (first a b) (right a (left + (b - length C1)))) (cond t (below (up + (a - length R1)) b) (second (up + (a - length R1)) (left + (b - length C1)))) ≡ M (get_or (R1 ++ R2) a 0) (get_or (C1 ++ C2) b 0)
    go true true e f = one a b (lt_of a (length R1) e) (lt_of b (length C1) f) ∙ sym (ap₂ M (get_left R1 R2 a (lt_of a (length R1) e)) (get_left C1 C2 b (lt_of b (length C1) f)))
    go true false e f = two a (b - length C1) (lt_of a (length R1) e) (within b (length C1) (length C2) lb (at_least_of b (length C1) f)) ∙ sym (ap₂ M (get_left R1 R2 a (lt_of a (length R1) e)) (get_right C1 C2 b (at_least_of b (length C1) f)))
    go false true e f = three (a - length R1) b (within a (length R1) (length R2) la (at_least_of a (length R1) e)) (lt_of b (length C1) f) ∙ sym (ap₂ M (get_right R1 R2 a (at_least_of a (length R1) e)) (get_left C1 C2 b (lt_of b (length C1) f)))
    go false false e f = four (a - length R1) (b - length C1) (within a (length R1) (length R2) la (at_least_of a (length R1) e)) (within b (length C1) (length C2) lb (at_least_of b (length C1) f)) ∙ sym (ap₂ M (get_right R1 R2 a (at_least_of a (length R1) e)) (get_right C1 C2 b (at_least_of b (length C1) f)))

-- the values at consecutive positions are the values at the items of a list
map_places : {A : Type 0} (g k : ℕ → A) (xs : List ℕ) (from : ℕ) → ((i : ℕ) → i < length xs → g (from + i) ≡ k (get_or xs i 0)) → map g (range_with_len from (length xs)) ≡ map k xs
map_places g k [] from h = refl
map_places {A = A} g k (x ∷ xs) from h = ap₂ (λ (y : A) (ys : List A). y ∷ ys) (ap g (at_from from) ∙ h zero (omega arith)) (map_places g k xs (from + 1) (λ i l. ap g (later from i) ∙ h (suc i) (omega arith)))
  where
    at_from : (from : ℕ) → from ≡ from + 0
    at_from from = omega arith

    later : (from i : ℕ) → (from + 1) + i ≡ from + suc i
    later from i = omega arith

pub filled_is : (m : Matrix) (rows columns : List ℕ) (h w : ℕ) (f : ℕ → ℕ → ℤ) → h ≡ length rows → w ≡ length columns
    → ((a b : ℕ) → a < length rows → b < length columns → f a b ≡ entry m (get_or rows a 0) (get_or columns b 0)) → filled h w f ≡ submatrix m rows columns
filled_is m rows columns h w f eh ew each =
    ap₂ (λ (a b : ℕ). filled a b f) eh ew
    ∙ ap (λ (rs : List (List ℤ)). record { rows = rs; width = length columns })
    (map_places (λ row. map (f row) (first_lines (length columns))) (λ row. map (entry m row) columns) rows 0
    (λ a l. map_places (f (0 + a)) (entry m (get_or rows a 0)) columns 0 (λ b k. ap₂ f (zero-add a) (zero-add b) ∙ each a b l k)))
