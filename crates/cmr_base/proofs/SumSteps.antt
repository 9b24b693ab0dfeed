-- Sums in a loop.
use Rattle.std.proofs.Common.{ℕ, ◌+◌, ◌*◌, ◌<◌, ◌≤◌, SFits, ℤ, pos, List, [], ◌∷◌, ap, ◌∙◌, ◌≡◌, ◌+ℤ◌, ◌≤ℤ◌, get_or, drop, take, length, arith, w8, w32, to_z, of_z, neg_ℤ}
use Rattle.std.proofs.lemmas.Int.{ints}
use Rattle.std.proofs.lemmas.List.{drop_more, take_more}
use Rattle.cmr_base.specs.declared.limits.TheConstants.{MAX_COLUMNS, MAX_ROWS}
use Rattle.cmr_base.specs.Matrix.{IsEntry}
use Rattle.cmr_base.specs.Sums.{sum_over}
use Rattle.cmr_base.proofs.Integers.{sums}
use Rattle.cmr_base.proofs.SumLaws.{sum_over-append}

-- one more item
pub sum_over-drop_more : (xs : List ℕ) (i : ℕ) (f : ℕ → ℤ) (old new : ℤ) → i < length xs → new ≡ old +ℤ f (get_or xs i 0) → old +ℤ sum_over (drop i xs) f ≡ sum_over xs f
    → new +ℤ sum_over (drop (i + 1) xs) f ≡ sum_over xs f
sum_over-drop_more xs i f old new h e so_far = step old new (f (get_or xs i 0)) (sum_over (drop (i + 1) xs) f) (sum_over (drop i xs) f) (sum_over xs f) e (first (drop_more xs i 0 h)) so_far
  where
    first : drop i xs ≡ get_or xs i 0 ∷ drop (i + 1) xs → sum_over (drop i xs) f ≡ f (get_or xs i 0) +ℤ sum_over (drop (i + 1) xs) f
    first e = rw e (λ j. f (get_or xs i 0) +ℤ sum_over (drop (i + 1) xs) f)

    step : (o n x r d t : ℤ) → n ≡ o +ℤ x → d ≡ x +ℤ r → o +ℤ d ≡ t → n +ℤ r ≡ t
    step o n x r d t e f g = omega (arith, sums)

pub sum_over-take_more : (xs : List ℕ) (f : ℕ → ℤ) (k : ℕ) → k < length xs → sum_over (take (k + 1) xs) f ≡ sum_over (take k xs) f +ℤ f (get_or xs k 0)
sum_over-take_more xs f k h =
    let plain : f (get_or xs k 0) +ℤ pos 0 ≡ f (get_or xs k 0) = omega (arith, sums) in
    ap (λ (ys : List ℕ). sum_over ys f) (take_more xs k 0 h) ∙ sum_over-append (take k xs) (get_or xs k 0 ∷ []) f ∙ ap (λ (z : ℤ). sum_over (take k xs) f +ℤ z) plain

-- an i32 represents a sum of at most a thousand entries
pub kept_entry : (old x : ℤ) (i : ℕ) → i ≤ MAX_COLUMNS → neg_ℤ (pos i) ≤ℤ old → old ≤ℤ pos i → IsEntry x → to_z w32 (of_z w32 (old +ℤ to_z w32 (of_z w32 (to_z w8 (of_z w8 x))))) ≡ old +ℤ x
kept_entry old x i few low high small = let l = small.low in let h = small.high in omega (arith, ints)

-- it also represents a sum of at most a thousand rows with a thousand entries each
pub kept_row : (old x : ℤ) (i : ℕ) → i < MAX_ROWS → neg_ℤ (pos (MAX_COLUMNS * i)) ≤ℤ old → old ≤ℤ pos (MAX_COLUMNS * i) → neg_ℤ (pos MAX_COLUMNS) ≤ℤ x
    → x ≤ℤ pos MAX_COLUMNS → to_z w32 (of_z w32 (old +ℤ to_z w32 (of_z w32 x))) ≡ old +ℤ x
kept_row old x i few low high from to = omega (arith, ints)

pub row_fits : (old x : ℤ) (i : ℕ) → i < MAX_ROWS → neg_ℤ (pos (MAX_COLUMNS * i)) ≤ℤ old → old ≤ℤ pos (MAX_COLUMNS * i) → neg_ℤ (pos MAX_COLUMNS) ≤ℤ x
    → x ≤ℤ pos MAX_COLUMNS → SFits w32 (old +ℤ to_z w32 (of_z w32 x))
row_fits old x i few low high from to = omega (arith, ints)

pub lower_row : (old x new : ℤ) (i : ℕ) → new ≡ old +ℤ x → neg_ℤ (pos (MAX_COLUMNS * i)) ≤ℤ old → neg_ℤ (pos MAX_COLUMNS) ≤ℤ x → neg_ℤ (pos (MAX_COLUMNS * (i + 1))) ≤ℤ new
lower_row old x new i e low from = omega (arith, ints)

pub higher_row : (old x new : ℤ) (i : ℕ) → new ≡ old +ℤ x → old ≤ℤ pos (MAX_COLUMNS * i) → x ≤ℤ pos MAX_COLUMNS → new ≤ℤ pos (MAX_COLUMNS * (i + 1))
higher_row old x new i e high to = omega (arith, ints)
