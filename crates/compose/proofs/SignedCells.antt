-- The cells of a matrix on signed lines.
use Rattle.std.proofs.Common.{◌≡◌, ◌<◌, ◌≤◌, ◌*◌, ◌∙◌, ◌*ℤ◌, ℕ, ℤ, pos, List, [], ◌∷◌, map, length, take, get_or, ap, sym, subst}
use Rattle.std.specs.List.{AllByRecursion, flat_map}
use Rattle.std.proofs.lemmas.List.{take_all, length-map}
use Rattle.cmr_base.specs.Matrix.{Matrix, height, entry, rows_of, IsEntry, IsMatrix}
use Rattle.cmr_base.specs.Signing.{IsSign}
use Rattle.cmr_base.proofs.Lists.{all-append, all-map, all_weaker}
use Rattle.cmr_base.proofs.Parts.{length-cells, rows_of-flat_map}
use Rattle.cmr_base.proofs.SignEntries.{sign_is_entry, product_is_entry}
use Rattle.cmr_base.proofs.SmallEntries.{entry_at}
use Rattle.compose.specs.declared.signed_line.SignedLine.{SignedLine}
use Rattle.compose.specs.Arrangements.{signed_entry, signed_submatrix, AreSignedLines}

all_flat : {A : Type 0} (P : ℤ → Type 0) (f : A → List ℤ) (xs : List A) → AllByRecursion (λ x. AllByRecursion P (f x)) xs → AllByRecursion P (flat_map f xs)
all_flat P f [] h = tt
all_flat P f (x ∷ xs) h = all-append P (f x) (flat_map f xs) h.0 (all_flat P f xs h.1)

pub record AreSignedCells (m : Matrix) (rows columns : List SignedLine) (cells : List ℤ) : Type 0 where
  pub whole : length cells ≡ length rows * length columns
  pub small : (k : ℕ) → IsEntry (get_or cells k (pos 0))
  pub cut : rows_of (length rows) (length columns) cells ≡ (signed_submatrix m rows columns).rows

module _ (m : Matrix) (rows columns : List SignedLine) (is : IsMatrix m) (r : AreSignedLines (height m) rows) (c : AreSignedLines m.width columns) where
  abbrev row_cells : SignedLine → List ℤ
  row_cells row = map (signed_entry (entry m) row) columns

  small_row : (row : SignedLine) → IsSign row.sign → AllByRecursion IsEntry (row_cells row)
  small_row row u = all-map IsEntry (signed_entry (entry m) row) columns
      (all_weaker (λ line. (line.line < m.width) × IsSign line.sign) (λ line. IsEntry (signed_entry (entry m) row line))
      (λ line h. product_is_entry row.sign (line.sign *ℤ entry m row.line line.line) (sign_is_entry row.sign u) (product_is_entry line.sign (entry m row.line line.line) (sign_is_entry line.sign h.1) (is.small row.line line.line))) columns c.each)

  signed_cells : AreSignedCells m rows columns (flat_map row_cells rows)
  signed_cells =
      let each : (row : SignedLine) → length (row_cells row) ≡ length columns = λ row. length-map columns (signed_entry (entry m) row) in
      record {
        whole = length-cells row_cells (length columns) rows each;
        small = entry_at (flat_map row_cells rows) (all_flat IsEntry row_cells rows
            (all_weaker (λ line. (line.line < height m) × IsSign line.sign) (λ row. AllByRecursion IsEntry (row_cells row)) (λ row h. small_row row h.1) rows r.each));
        cut = rows_of-flat_map row_cells (length columns) rows each;
      }

  pub all_cells : (cells : List ℤ) (i : ℕ) → cells ≡ flat_map row_cells (take i rows) → length rows ≤ i → AreSignedCells m rows columns cells
  all_cells cells i so_far all = subst (AreSignedCells m rows columns) (sym (so_far ∙ ap (flat_map row_cells) (take_all i rows all))) signed_cells
