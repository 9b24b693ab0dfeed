-- The entries of a matrix after a change of one entry, and entries that are 0 or 1.
use Rattle.std.proofs.Common.{◌≡◌, ◌≢◌, ◌<◌, ◌∙◌, inl, inr, ℕ, ℤ, pos, negsuc, [], length, get_or, set, ap, sym, subst, arith}
use Rattle.std.proofs.lemmas.List.{length-set, set_past, get_or-set_same, get_or-set_other}
use Rattle.std.proofs.lemmas.Bool.{cases_eq, cases_lt}
use Rattle.cmr_base.specs.Matrix.{Matrix, height, row_of, entry, with_entry, IsMatrix, IsEntry}
use Rattle.cmr_base.specs.Trees.{IsBinary}

pub height-with_entry : (m : Matrix) (row column : ℕ) (value : ℤ) → height (with_entry m row column value) ≡ height m
height-with_entry m row column value = length-set m.rows row (set (row_of m row) column value)

module _ (m : Matrix) (row column : ℕ) (value : ℤ) (inside : row < height m) where
  changed_row : row_of (with_entry m row column value) row ≡ set (row_of m row) column value
  changed_row = get_or-set_same m.rows row (set (row_of m row) column value) [] inside

  pub entry-with_entry_same : IsMatrix m → column < m.width → entry (with_entry m row column value) row column ≡ value
  entry-with_entry_same is in_row =
      ap (λ r. get_or r column (pos 0)) changed_row
      ∙ get_or-set_same (row_of m row) column value (pos 0) (let e = is.rectangular row inside in omega arith)

  pub entry-with_entry_other_column : (j : ℕ) → j ≢ column → entry (with_entry m row column value) row j ≡ entry m row j
  entry-with_entry_other_column j other = ap (λ r. get_or r j (pos 0)) changed_row ∙ get_or-set_other (row_of m row) column j value (pos 0) other

pub entry-with_entry_other_row : (m : Matrix) (row column : ℕ) (value : ℤ) (i j : ℕ) → i ≢ row → entry (with_entry m row column value) i j ≡ entry m i j
entry-with_entry_other_row m row column value i j other = ap (λ r. get_or r j (pos 0)) (get_or-set_other m.rows row i (set (row_of m row) column value) [] other)

pub is_matrix-with_entry : (m : Matrix) (row column : ℕ) (value : ℤ) → row < height m → IsEntry value → IsMatrix m → IsMatrix (with_entry m row column value)
is_matrix-with_entry m row column value inside small is = record {
  rectangular = λ i h. elim (cases_eq i row) [
    | inl e ↦ subst (λ k. length (row_of (with_entry m row column value) k) ≡ m.width) (sym e)
        (ap length (changed_row m row column value inside) ∙ length-set (row_of m row) column value ∙ is.rectangular row inside)
    | inr other ↦ ap length (get_or-set_other m.rows row i (set (row_of m row) column value) [] other) ∙ is.rectangular i (omega (arith, height-with_entry m row column value))
  ];
  small = λ i j. elim (cases_eq i row) [
    | inl e ↦ subst (λ k. IsEntry (entry (with_entry m row column value) k j)) (sym e) (in_row j)
    | inr other ↦ subst IsEntry (sym (entry-with_entry_other_row m row column value i j other)) (is.small i j)
  ];
  height_in = omega (arith, height-with_entry m row column value, is.height_in);
  width_in = is.width_in;
}
  where
    in_row : (j : ℕ) → IsEntry (entry (with_entry m row column value) row j)
    in_row j = elim (cases_eq j column) [
      | inr other ↦ subst IsEntry (sym (entry-with_entry_other_column m row column value inside j other)) (is.small row j)
      | inl e ↦ elim (cases_lt column m.width) [
        | inl l ↦ subst (λ k. IsEntry (entry (with_entry m row column value) row k)) (sym e) (subst IsEntry (sym (entry-with_entry_same m row column value inside is l)) small)
        | inr past ↦ subst IsEntry (sym (ap (λ r. get_or r j (pos 0)) (changed_row m row column value inside ∙ set_past (row_of m row) column value (let w = is.rectangular row inside in omega arith)))) (is.small row j)
      ]
    ]

-- ---- entries 0 and 1

pub no_minus : (m : Matrix) → IsBinary m → (row column : ℕ) → entry m row column ≢ negsuc 0
no_minus m binary row column e = elim (binary row column) [ inl z ↦ cc (sym e, z) | inr o ↦ cc (sym e, o) ]
