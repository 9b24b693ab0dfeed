-- Other lines of connectors, by the columns of a matrix and of its transposed matrix.
use Rattle.std.proofs.Common.{◌≡◌, ◌≢◌, ◌+◌, ◌<◌, ◌∙◌, ℕ, pos, ap, subst, sym, zero-add, slice_index_or}
use Rattle.cmr_base.specs.Matrix.{IsMatrix, Matrix, entry, height, transposed}
use Rattle.cmr_base.proofs.TransposedLines.{transposed_entry}
use Rattle.cuts.specs.declared.groups.Groups.{Groups}
use Rattle.three_sep.specs.Searches.{HasNoColumn, HasNoRow}

pub no_column : (m : Matrix) (groups : Groups) (rows own across : ℕ) → rows ≡ height m
    → ((x : ℕ) → x < m.width → entry m own x ≡ pos 0 → entry m across x ≢ pos 0 → slice_index_or groups.names.items (rows + x) 0 ≡ slice_index_or groups.names.items (0 + across) 0)
    → HasNoColumn m groups own across
no_column m groups rows own across is h = λ x l z n. ap (λ (r : ℕ). slice_index_or groups.names.items (r + x) 0) (sym is) ∙ h x l z n ∙ ap (λ (y : ℕ). slice_index_or groups.names.items y 0) (zero-add across)

module _ (m n : Matrix) (e : n ≡ transposed m) (shape : IsMatrix m) where
  pub no_row : (groups : Groups) (rows own across : ℕ) → rows ≡ height m
      → ((x : ℕ) → x < n.width → entry n own x ≡ pos 0 → entry n across x ≢ pos 0 → slice_index_or groups.names.items (0 + x) 0 ≡ slice_index_or groups.names.items (rows + across) 0)
      → HasNoRow m groups own across
  no_row groups rows own across is h = λ r l z nonzero.
      ap (λ (y : ℕ). slice_index_or groups.names.items y 0) (sym (zero-add r))
      ∙ h r (subst (λ (k : Matrix). r < k.width) (sym e) l) (transposed_entry m n e r own shape ∙ z) (λ q. nonzero (sym (transposed_entry m n e r across shape) ∙ q))
      ∙ ap (λ (y : ℕ). slice_index_or groups.names.items (y + across) 0) is

  -- a row that is 0 in one column and not in another
  pub tall_from_flat : (own across other : ℕ) → (entry n own other ≡ pos 0) × (entry n across other ≢ pos 0) → (entry m other own ≡ pos 0) × (entry m other across ≢ pos 0)
  tall_from_flat own across other (zero, nonzero) = (sym (transposed_entry m n e other own shape) ∙ zero, λ q. nonzero (transposed_entry m n e other across shape ∙ q))

  pub flat_from_tall : (own across other : ℕ) → (entry m other own ≡ pos 0) × (entry m other across ≢ pos 0) → (entry n own other ≡ pos 0) × (entry n across other ≢ pos 0)
  flat_from_tall own across other (zero, nonzero) = (transposed_entry m n e other own shape ∙ zero, λ q. nonzero (sym (transposed_entry m n e other across shape) ∙ q))
