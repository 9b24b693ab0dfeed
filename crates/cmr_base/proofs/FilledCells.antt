-- The cells of a matrix that a function of rows and columns defines, one after another.
use Rattle.std.proofs.Common.{◌≡◌, ◌≤◌, ◌+◌, ◌*◌, ◌∙◌, ◌++◌, ℕ, ℤ, pos, List, [], ◌∷◌, map, length, get_or, ap, sym, subst, refl, inl, inr, zero-add, arith}
use Rattle.std.specs.List.{flat_map}
use Rattle.std.proofs.lemmas.Bool.{cases_lt}
use Rattle.std.proofs.lemmas.List.{append-nil, append_assoc, length-map, get_or-map, get_or_past}
use Rattle.std.proofs.lemmas.List.Concat.{flat_map-append}
use Rattle.std.proofs.lemmas.List.FromFn.{length-range_with_len}
use Rattle.cmr_base.specs.Matrix.{Matrix, height, entry, rows_of, IsEntry, HasTernaryEntries}
use Rattle.cmr_base.specs.LineSets.{first_lines}
use Rattle.cmr_base.specs.MatrixSums.{filled}
use Rattle.cmr_base.proofs.FilledMatrices.{height-filled}
use Rattle.cmr_base.proofs.LineSetLemmas.{range_more}
use Rattle.cmr_base.proofs.Parts.{length-cells, rows_of-flat_map, each-flat_map, each-map}
use Rattle.cmr_base.proofs.SmallEntries.{zero_is_entry}

-- one more number
pub lines_more : {A : Type 0} (f : ℕ → A) (k : ℕ) → map f (first_lines (k + 1)) ≡ map f (first_lines k) ++ f k ∷ []
lines_more f k = ap (map f) (range_more 0 k k (zero-add k)) ∙ map_more (first_lines k)
  where
    map_more : (xs : List ℕ) → map f (xs ++ k ∷ []) ≡ map f xs ++ f k ∷ []
    map_more [] = refl
    map_more (x ∷ xs) = ap (λ ys. f x ∷ ys) (map_more xs)

-- one more entry
pub entry_pushed : (f : ℕ → ℤ) (k : ℕ) (old cells : List ℤ) (value : ℤ) → value ≡ f k → cells ≡ old ++ map f (first_lines k) → cells ++ value ∷ [] ≡ old ++ map f (first_lines (k + 1))
entry_pushed f k old cells value e h =
    ap (λ v. cells ++ v ∷ []) e ∙ ap (λ (xs : List ℤ). xs ++ f k ∷ []) h ∙ append_assoc old (map f (first_lines k)) (f k ∷ []) ∙ ap (λ xs. old ++ xs) (sym (lines_more f k))

pub cells_more : (f : ℕ → List ℤ) (k : ℕ) → flat_map f (first_lines (k + 1)) ≡ flat_map f (first_lines k) ++ f k
cells_more f k =
    ap (flat_map f) (range_more 0 k k (zero-add k)) ∙ flat_map-append f (first_lines k) (k ∷ []) ∙ ap (λ last. flat_map f (first_lines k) ++ last) (append-nil (f k))

module _ (m n : ℕ) (entries : ℕ → ℕ → ℤ) where
  row_length : (row : ℕ) → length (map (entries row) (first_lines n)) ≡ n
  row_length row = length-map (first_lines n) (entries row) ∙ length-range_with_len 0 n

  pub whole : length (flat_map (λ row. map (entries row) (first_lines n)) (first_lines m)) ≡ m * n
  whole = length-cells (λ row. map (entries row) (first_lines n)) n (first_lines m) row_length ∙ ap (λ (k : ℕ). k * n) (length-range_with_len 0 m)

  pub cut : rows_of m n (flat_map (λ row. map (entries row) (first_lines n)) (first_lines m)) ≡ (filled m n entries).rows
  cut = ap (λ (k : ℕ). rows_of k n (flat_map (λ row. map (entries row) (first_lines n)) (first_lines m))) (sym (length-range_with_len 0 m))
      ∙ rows_of-flat_map (λ row. map (entries row) (first_lines n)) n (first_lines m) row_length

  pub small : IsEntry (pos 0) → ((r c : ℕ) → IsEntry (entries r c)) → (k : ℕ) → IsEntry (get_or (flat_map (λ row. map (entries row) (first_lines n)) (first_lines m)) k (pos 0))
  small none each = each-flat_map IsEntry (λ row. map (entries row) (first_lines n)) (first_lines m) none (λ row j. each-map IsEntry (entries row) (first_lines n) none (each row) j)

-- past the last row entries are 0
pub entry-past : (m : Matrix) (r c : ℕ) → height m ≤ r → entry m r c ≡ pos 0
entry-past m r c l = ap (λ (row : List ℤ). get_or row c (pos 0)) (get_or_past m.rows r [] l)

pub filled_small : (m n : ℕ) (entries : ℕ → ℕ → ℤ) → ((r c : ℕ) → IsEntry (entries r c)) → HasTernaryEntries (filled m n entries)
filled_small m n entries small r c = elim (cases_lt r m) [
  | inl lt ↦ subst (λ (row : List ℤ). IsEntry (get_or row c (pos 0))) (sym (get_or-map (λ row. map (entries row) (first_lines n)) (first_lines m) r 0 [] (let e = length-range_with_len 0 m in omega arith)))
      (each-map IsEntry (entries (get_or (first_lines m) r 0)) (first_lines n) zero_is_entry (small (get_or (first_lines m) r 0)) c)
  | inr ge ↦ subst IsEntry (sym (entry-past (filled m n entries) r c (let e = height-filled m n entries in omega arith))) zero_is_entry
]
