-- Consecutive runs, and the rows and planes that they form.
use Rattle.std.proofs.Common.{◌≡◌, ◌≢◌, ◌<◌, ◌≤◌, ◌+◌, ◌-◌, ◌*◌, ◌/◌, ◌%◌, ◌||◌, ◌∙◌, ◌⊎◌, ℕ, zero, suc, Bool, false, cond, eqb, ℤ, pos, List, [], length, map, take, drop, get_or, ap, ap₂, sym, subst, inl, inr, arith}
use Rattle.std.specs.Int.{bit_at}
use Rattle.std.specs.List.{flat_map}
use Rattle.std.proofs.lemmas.Bool.{cases_lt, cases_eq}
use Rattle.std.proofs.lemmas.List.{get_or_past, get_or-take, get_or-drop, get_or-map, length-map}
use Rattle.std.proofs.lemmas.Nat.Bits.{bit_at-lt}
use Rattle.std.proofs.Math.Nat.{mul-le-mul_right}
use Rattle.cmr_base.specs.declared.runs.Run.{Run}
use Rattle.cmr_base.specs.ColumnSets.{has_column}
use Rattle.cmr_base.specs.LineSets.{AllBelow, submatrix}
use Rattle.cmr_base.specs.Matrix.{Matrix, height, entry}
use Rattle.cmr_base.specs.MatrixLayout.{is_in}
use Rattle.cmr_base.specs.Planes.{has_bit, words_for, words_of}
use Rattle.cmr_base.specs.Runs.{IsPlaneChosen, IsRowChosen, IsRun, IsRunAdded, end_before, run_at}
use Rattle.cmr_base.proofs.ColumnWords.{column_at}
use Rattle.cmr_base.proofs.Parts.{entry-submatrix}
use Rattle.cmr_base.proofs.PlaneWords.{in_rows, words_from_bits}

-- ---- a row

module _ (words columns : List ℕ) (start : ℕ) (before : List ℕ) where
  pub run_chosen : (column place size : ℕ) (now after : List ℕ) → IsRowChosen words columns start place before now
      → IsRunAdded words column size (start + place) now after → IsRun columns column place size
      → ((k : ℕ) → k < length columns → has_column before (start + k) ≡ false) → IsRowChosen words columns start (place + size) before after
  run_chosen column place size now after so added is empty = record {
    long = added.long ∙ so.long;
    are_words = λ each. added.are_words (so.are_words each);
    chosen = λ k l. elim (cases_lt k place) [
      | inl low ↦ added.others (start + k) (inl (omega arith)) ∙ so.chosen k low
      | inr high ↦
          let at : place + (k - place) ≡ k = omega arith in
          subst (λ j. has_column after (start + j) ≡ has_column words (get_or columns j 0)) at (new (k - place) (omega arith))
    ];
    others = λ c h. added.others c (further c h) ∙ so.others c (before_all c h);
  }
    where
      new : (j : ℕ) → j < size → has_column after (start + (place + j)) ≡ has_column words (get_or columns (place + j) 0)
      new j l =
          let at : start + place + j ≡ start + (place + j) = omega arith in
          let inside = is.inside in
          subst (λ c. has_column after c ≡ (has_column now c || has_column words (column + j))) at (added.added j l)
          ∙ ap (λ b. b || has_column words (column + j)) (so.others (start + (place + j)) (inr (omega arith)) ∙ empty (place + j) (omega arith))
          ∙ ap (has_column words) (sym (is.follows j l))

      further : (c : ℕ) → (c < start) ⊎ (start + (place + size) ≤ c) → (c < start + place) ⊎ (start + place + size ≤ c)
      further c (inl l) = inl (omega arith)
      further c (inr l) = inr (omega arith)

      before_all : (c : ℕ) → (c < start) ⊎ (start + (place + size) ≤ c) → (c < start) ⊎ (start + place ≤ c)
      before_all c (inl l) = inl l
      before_all c (inr l) = inr (omega arith)

pub end_after : (runs : List Run) (k : ℕ) → end_before runs (k + 1) ≡ (run_at runs k).place + (run_at runs k).size
end_after runs k = let next : k + 1 ≡ suc k = omega arith in ap (end_before runs) next

-- the columns of a run are in the words
pub run_inside : (columns : List ℕ) (column place size bound : ℕ) → IsRun columns column place size → AllBelow bound columns → column + size ≤ bound
run_inside columns column place size bound is below =
    let some = is.some in
    let inside = is.inside in
    let last = is.follows (size - 1) (omega arith) in
    let low = below (place + (size - 1)) (omega arith) in
    omega (arith, some, last, low)

-- ---- a plane

module _ (width : ℕ) (plane rows columns : List ℕ) where
  abbrev to : ℕ
  to = words_for (length columns)

  -- the words of a chosen row precede the words of the next chosen row
  rows_before : (i n : ℕ) → i < n → i * to + to ≤ n * to
  rows_before i n l = let all : (i + 1) * to ≤ n * to = mul-le-mul_right to (omega arith) in omega (arith, all)

  taken : (row c : ℕ) → c < 64 * words_for width → has_column (take (words_for width) (drop (row * words_for width) plane)) c ≡ has_column plane (64 * (row * words_for width) + c)
  taken row c l =
      let chunk : row * words_for width + c / 64 ≡ (64 * (row * words_for width) + c) / 64 = omega arith in
      let place : c % 64 ≡ (64 * (row * words_for width) + c) % 64 = omega arith in
      ap (λ w. has_bit w (c % 64)) (get_or-take (words_for width) (drop (row * words_for width) plane) (c / 64) 0 (omega arith) ∙ get_or-drop (row * words_for width) plane (c / 64) 0)
      ∙ ap₂ (λ b p. has_bit (get_or plane b 0) p) chunk place

  module _ (count : ℕ) (made after : List ℕ) (so : IsPlaneChosen width plane rows columns count made) (inside : count < length rows) (below : AllBelow width columns)
      (row : IsRowChosen (take (words_for width) (drop (get_or rows count 0 * words_for width) plane)) columns (64 * (count * words_for (length columns))) (length columns) made after) where
    pub row_chosen : IsPlaneChosen width plane rows columns (count + 1) after
    row_chosen = record {
      long = row.long ∙ so.long;
      are_words = row.are_words so.are_words;
      chosen = λ i k l h. elim (cases_eq i count) [
        | inl e ↦
            subst (λ j. has_column after (64 * (j * to) + k) ≡ has_column plane (64 * (get_or rows j 0 * words_for width) + get_or columns k 0)) (sym e)
            (row.chosen k h ∙ taken (get_or rows count 0) (get_or columns k 0) (let b = below k h in omega arith))
        | inr d ↦ earlier i k (omega (arith, l, d)) (omega (arith, h)) ∙ so.chosen i k (omega (arith, l, d)) h
      ];
      empty = λ i k l h past. elim (cases_eq i count) [
        | inl e ↦ here i k e (beyond i k e past) ∙ so.empty i k l h (inr (beyond i k e past))
        | inr d ↦ apart i k l h d past (cases_lt i count)
      ];
    }
      where
        earlier : (i k : ℕ) → i < count → k < 64 * to → has_column after (64 * (i * to) + k) ≡ has_column made (64 * (i * to) + k)
        earlier i k l h = row.others (64 * (i * to) + k) (inl (omega (arith, h, rows_before i count l)))

        beyond : (i k : ℕ) → i ≡ count → (count + 1 ≤ i) ⊎ (length columns ≤ k) → length columns ≤ k
        beyond i k e (inl l) = absurd (omega (arith, e, l))
        beyond i k e (inr l) = l

        here : (i k : ℕ) → i ≡ count → length columns ≤ k → has_column after (64 * (i * to) + k) ≡ has_column made (64 * (i * to) + k)
        here i k e l = row.others (64 * (i * to) + k) (inr (let same = ap (λ j. j * to) e in omega (arith, l, same)))

        apart : (i k : ℕ) → i < length rows → k < 64 * to → i ≢ count → (count + 1 ≤ i) ⊎ (length columns ≤ k) → (i < count) ⊎ (count ≤ i) → has_column after (64 * (i * to) + k) ≡ false
        apart i k l h d past (inl low) = earlier i k low h ∙ so.empty i k l h (inr (short past))
          where
            short : (count + 1 ≤ i) ⊎ (length columns ≤ k) → length columns ≤ k
            short (inl p) = absurd (omega (arith, p, low))
            short (inr p) = p
        apart i k l h d past (inr high) =
            row.others (64 * (i * to) + k) (inr (omega (arith, rows_before count i (omega (arith, high, d))))) ∙ so.empty i k l h (inl high)

-- ---- the words of a submatrix

pub bit_from : (n k : ℕ) (b : Bool) → has_bit n k ≡ b → bit_at n k ≡ cond b 1 0
bit_from n k b e = go (bit_at n k) (bit_at-lt n k) b e
  where
    go : (bit : ℕ) → bit < 2 → (b : Bool) → eqb bit 1 ≡ b → bit ≡ cond b 1 0
    go zero l b e = ap (λ t. cond t 1 0) e
    go (suc zero) l b e = ap (λ t. cond t 1 0) e
    go (suc (suc n)) l b e = absurd (omega arith)

module _ (m : Matrix) (test : ℤ → Bool) (none : test (pos 0) ≡ false) (rows columns plane made : List ℕ) (is : plane ≡ flat_map (words_of (words_for m.width) test) m.rows)
    (in_height : AllBelow (height m) rows) (in_width : AllBelow m.width columns) (all : IsPlaneChosen m.width plane rows columns (length rows) made) where
  abbrev part : Matrix
  part = submatrix m rows columns

  high : height part ≡ length rows
  high = length-map rows (λ row. map (entry m row) columns)

  in_plane : (i k : ℕ) → i < length rows → k < length columns → has_column plane (64 * (get_or rows i 0 * words_for m.width) + get_or columns k 0) ≡ test (entry part i k)
  in_plane i k l h =
      let row = get_or rows i 0 in
      let column = get_or columns k 0 in
      let low = in_height i l in
      let inside = in_width k h in
      let chunk : (64 * (row * words_for m.width) + column) / 64 ≡ row * words_for m.width + column / 64 = omega arith in
      let place : (64 * (row * words_for m.width) + column) % 64 ≡ column % 64 = omega arith in
      ap₂ (λ b p. has_bit (get_or plane b 0) p) chunk place
      ∙ ap (λ (ws : List ℕ). is_in (words_for m.width) ws row column) is
      ∙ in_rows (words_for m.width) test m.rows row column none low (omega arith)
      ∙ ap test (sym (entry-submatrix m rows columns i k l h))

  in_made : (i k : ℕ) → i < length rows → k < 64 * words_for (length columns) → has_column made (64 * (i * words_for (length columns)) + k) ≡ test (entry part i k)
  in_made i k l h = elim (cases_lt k (length columns)) [
    | inl inside ↦ all.chosen i k l inside ∙ in_plane i k l inside
    | inr past ↦ all.empty i k l h (inr past) ∙ sym (ap test (get_or_past (get_or part.rows i []) k (pos 0) (omega (arith, past, wide i l))) ∙ none)
  ]
    where
      wide : (i : ℕ) → i < length rows → length (get_or part.rows i []) ≡ length columns
      wide i l = ap length (get_or-map (λ row. map (entry m row) columns) rows i 0 [] l) ∙ length-map columns (entry m (get_or rows i 0))

  pub chosen_words : made ≡ flat_map (words_of (words_for (length columns)) test) (submatrix m rows columns).rows
  chosen_words =
      words_from_bits (words_for (length columns)) test part.rows made none (all.long ∙ ap (λ n. n * words_for (length columns)) (sym high)) all.are_words
      (λ row chunk place l b small.
      let at : 64 * (row * words_for (length columns)) + (64 * chunk + place) ≡ 64 * (row * words_for (length columns) + chunk) + place = omega arith in
      bit_from (get_or made (row * words_for (length columns) + chunk) 0) place (test (entry part row (64 * chunk + place)))
      (sym (column_at made (row * words_for (length columns) + chunk) place small) ∙ ap (has_column made) (sym at) ∙ in_made row (64 * chunk + place) (omega (arith, l, high)) (omega (arith, b, small))))
