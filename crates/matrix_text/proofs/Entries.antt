-- Lists of entries.
use Rattle.std.proofs.Common.{ℕ, zero, suc, ℤ, pos, List, [], ◌∷◌, ◌++◌, length, get_or, ◌≡◌, ◌<◌, arith}
use Rattle.std.specs.List.{AllByRecursion}
use Rattle.cmr_base.specs.Matrix.{IsEntry}

-- one more small entry
pub all_small_push : (zs : List ℤ) (z : ℤ) → ((k : ℕ) → IsEntry (get_or zs k (pos 0))) → IsEntry z → (k : ℕ) → IsEntry (get_or (zs ++ z ∷ []) k (pos 0))
all_small_push [] z all small zero = small
all_small_push [] z all small (suc k) = all 0
all_small_push (x ∷ zs) z all small zero = all 0
all_small_push (x ∷ zs) z all small (suc k) = all_small_push zs z (λ j. all (suc j)) small k

-- a property of 0 and of each entry is a property of all items of the row
row_entries : (P : ℤ → Type 0) (row : List ℤ) → ((k : ℕ) → P (get_or row k (pos 0))) → AllByRecursion P row
row_entries P [] each = tt
row_entries P (z ∷ row) each = (each 0, row_entries P row (λ k. each (suc k)))

pub all_entries : (P : ℤ → Type 0) (rows : List (List ℤ)) → ((r k : ℕ) → P (get_or (get_or rows r []) k (pos 0))) → AllByRecursion (AllByRecursion P) rows
all_entries P [] each = tt
all_entries P (row ∷ rows) each = (row_entries P row (each 0), all_entries P rows (λ r. each (suc r)))

pub all_widths : (width : ℕ) (rows : List (List ℤ)) → ((r : ℕ) → r < length rows → length (get_or rows r []) ≡ width) → AllByRecursion (λ row. length row ≡ width) rows
all_widths width [] each = tt
all_widths width (row ∷ rows) each = (each 0 (omega arith), all_widths width rows (λ r h. each (suc r) (omega arith)))
