-- A matrix that is read from a text is within the limits.
use Rattle.std.proofs.Common.{◌≡◌, ◌∙◌, ◌+◌, ℕ, zero, suc, ℤ, pos, negsuc, Bool, true, false, List, [], ◌∷◌, map, length, Ok, get_or, refl, ap, sym, subst, arith}
use Rattle.std.specs.List.{range_with_len}
use Rattle.std.proofs.lemmas.Int.{ints}
use Rattle.std.proofs.lemmas.List.FromFn.{length-map-range_with_len, get_or-map-range_with_len}
use Rattle.cmr_base.specs.declared.limits.TheConstants.{MAX_COLUMNS, MAX_ROWS}
use Rattle.cmr_base.specs.Matrix.{Matrix, IsEntry, IsMatrix}
use Rattle.cmr_base.proofs.Parts.{each-map}
use Rattle.cmr_base.proofs.Views.{is_matrix-cells}
use Rattle.text_fields.specs.Numbers.{signed_in}
use Rattle.text_fields.specs.Result.{renamed}
use Rattle.text_fields.specs.TextWords.{Text}
use Rattle.text_fields.proofs.Results.{bind_ok}
use Rattle.matrix_text.specs.TextKinds.{text_kind}
use Rattle.matrix_text.specs.Values.{allowed, entry_in}
use Rattle.matrix_text.specs.Dense.{dense}
use Rattle.matrix_text.specs.Sparse.{sparse, value_at}
use Rattle.matrix_text.proofs.DenseTexts.{dense_found}
use Rattle.matrix_text.proofs.Places.{zero_small}
use Rattle.matrix_text.proofs.SparseTexts.{sparse_found}
use Rattle.matrix_text.proofs.SpelledEntries.{spelled_cells, spelled_values}

allowed_small : (binary : Bool) (y z : ℤ) → allowed binary y ≡ Ok z → IsEntry z
allowed_small binary (pos zero) z e = let same : z ≡ pos 0 = cc in subst IsEntry (sym same) zero_small
allowed_small binary (pos (suc zero)) z e = let same : z ≡ pos 1 = cc in record { low = omega (arith, ints); high = omega (arith, ints) }
allowed_small binary (pos (suc (suc n))) z e = cc
allowed_small true (negsuc zero) z e = cc
allowed_small false (negsuc zero) z e = let same : z ≡ negsuc 0 = cc in record { low = omega (arith, ints); high = omega (arith, ints) }
allowed_small binary (negsuc (suc n)) z e = cc

word_small : (binary : Bool) (word : List ℕ) (z : ℤ) → entry_in binary word ≡ Ok z → IsEntry z
word_small binary word z e =
    let b = bind_ok (renamed text_kind (signed_in word)) (allowed binary) z e in
    allowed_small binary b.0 z b.2

pub dense_is_matrix : (binary : Bool) (text : Text) (m : Matrix) → dense binary text ≡ Ok m → IsMatrix m
dense_is_matrix binary text m read =
    let is = dense_found MAX_ROWS MAX_COLUMNS binary text m read in
    subst IsMatrix (sym is.matrix) (is_matrix-cells is.height is.width is.cells is.height_in is.width_in is.count (spelled_cells IsEntry binary zero_small (word_small binary) is.entry_words is.cells is.entries_are))

pub sparse_is_matrix : (binary : Bool) (text : Text) (m : Matrix) → sparse binary text ≡ Ok m → IsMatrix m
sparse_is_matrix binary text m read =
    let is = sparse_found MAX_ROWS MAX_COLUMNS binary text m read in
    let value = value_at is.triples in
    let row : ℕ → List ℤ = λ i. map (value i) (range_with_len 1 is.width) in
    let tall = length-map-range_with_len row 1 is.height in
    let small : (i j : ℕ) → IsEntry (get_or (row i) j (pos 0)) = λ i j. each-map IsEntry (value i) (range_with_len 1 is.width) zero_small (spelled_values IsEntry binary zero_small (word_small binary) is.triple_words is.triples is.triples_are i) j in
    subst IsMatrix (sym is.matrix) (record {
      rectangular = λ i h. ap length (get_or-map-range_with_len row 1 is.height i (1 + i) [] (omega (arith, tall)) refl) ∙ length-map-range_with_len (value (1 + i)) 1 is.width;
      small = each_row row small (range_with_len 1 is.height);
      height_in = omega (arith, is.height_in, tall);
      width_in = is.width_in;
    })
  where
    each_row : (row : ℕ → List ℤ) → ((i j : ℕ) → IsEntry (get_or (row i) j (pos 0))) → (lines : List ℕ) → (i j : ℕ) → IsEntry (get_or (get_or (map row lines) i []) j (pos 0))
    each_row row small [] i j = zero_small
    each_row row small (line ∷ lines) zero j = small line j
    each_row row small (line ∷ lines) (suc i) j = each_row row small lines i j
