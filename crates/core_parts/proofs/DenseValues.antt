-- Values of a run that are written into a row of a matrix.
use Rattle.std.proofs.Common.{◌≡◌, ◌<◌, ◌≤◌, ◌+◌, ◌∙◌, inl, inr, take, to_z, of_z, w8, ℕ, ℤ, pos, List, [], ◌∷◌, length, get_or, replicate, refl, ap, sym, subst, arith}
use Rattle.std.proofs.lemmas.Bool.{cases_lt}
use Rattle.std.proofs.lemmas.List.{get_or-replicate, get_or_past, length-map, length-replicate, take_more}
use Rattle.std.specs.List.{AllByRecursion}
use Rattle.cmr_base.specs.Matrix.{Matrix, entry, height, with_entry, IsMatrix}
use Rattle.cmr_base.proofs.Booleans.{same_or_not}
use Rattle.cmr_base.proofs.Entries.{entry-with_entry_other_column, entry-with_entry_other_row, entry-with_entry_same, height-with_entry}
use Rattle.cmr_base.proofs.Lists.{all-take, all_at, get_or-replicated}
use Rattle.cmr_base.proofs.WholeMatrices.{same_matrix}
use Rattle.sparse_matrix.specs.declared.nonzero.Nonzero.{Nonzero}
use Rattle.sparse_matrix.specs.SparseRows.{SparseRows, AreInDistinctLines, AreSparseRows, IsNonzeroWithin, matrix_of_runs, run_of, sparse_entry, value_in}
use Rattle.sparse_matrix.proofs.MarkedLines.{no_nonzero}
use Rattle.sparse_matrix.proofs.Matrices.{matrix_entry, matrix_is_ternary}
use Rattle.sparse_matrix.proofs.Runs.{byte_sign, first_nonzero, first_nonzero_zero, free_line, signs_within, value_in-more, value_other, value_same}
use Rattle.core_parts.specs.DenseRuns.{HasValues}

-- ---- one more value

module _ (before m : Matrix) (row k width : ℕ) (run : List Nonzero) (below : k < length run) (within : AllByRecursion (IsNonzeroWithin width) run) where
  abbrev here : Nonzero
  here = get_or run k no_nonzero

  value_more : (column : ℕ) → value_in (take (k + 1) run) column ≡ first_nonzero (value_in (take k run) column) (value_in (here ∷ []) column)
  value_more column = ap (λ (r : List Nonzero). value_in r column) (take_more run k no_nonzero below)
      ∙ value_in-more (take k run) here column (signs_within width (take k run) (all-take (IsNonzeroWithin width) k run within))

  pub values_more : (next : Matrix) → IsMatrix m → HasValues before row (take k run) m → AreInDistinctLines run → row < height m → here.line < m.width
      → next ≡ with_entry m row here.line (to_z w8 (of_z w8 here.value)) → HasValues before row (take (k + 1) run) next
  values_more next shape has distinct inside in_width e = subst (HasValues before row (take (k + 1) run)) (sym next_is) (record {
    rows = height-with_entry m row here.line here.value ∙ has.rows;
    width = has.width;
    here = λ column. elim (same_or_not column here.line) [
      | inl f ↦ ap (entry after row) f ∙ entry-with_entry_same m row here.line here.value inside shape in_width
          ∙ sym (ap (value_in (take (k + 1) run)) f ∙ value_more here.line
          ∙ ap (λ z. first_nonzero z (value_in (here ∷ []) here.line)) (free_line run k no_nonzero below distinct) ∙ value_same here here.line refl)
      | inr n ↦ entry-with_entry_other_column m row here.line here.value inside column n ∙ has.here column
          ∙ sym (value_more column ∙ ap (first_nonzero (value_in (take k run) column)) (value_other here column (λ f. n (sym f))) ∙ first_nonzero_zero (value_in (take k run) column))
    ];
    others = λ other column n. entry-with_entry_other_row m row here.line here.value other column n ∙ has.others other column n;
  })
    where
      after : Matrix
      after = with_entry m row here.line here.value

      next_is : next ≡ after
      next_is = e ∙ ap (with_entry m row here.line) (byte_sign here.value (all_at (IsNonzeroWithin width) run k no_nonzero within below).sign)

-- ---- the rows

-- the rows before one have their values, and the others are zero
pub record IsDenseBelow (sparse : SparseRows) (row : ℕ) (m : Matrix) : Type 0 where
  pub rows : height m ≡ length sparse.runs
  pub width : m.width ≡ sparse.width
  pub written : (other column : ℕ) → other < row → entry m other column ≡ sparse_entry sparse other column
  pub rest : (other column : ℕ) → row ≤ other → entry m other column ≡ pos 0

module _ (sparse : SparseRows) where
  pub dense_first : (m : Matrix) (rows columns : ℕ) → rows ≡ length sparse.runs → columns ≡ sparse.width → m ≡ record { rows = replicate rows (replicate columns (pos 0)); width = columns }
      → IsDenseBelow sparse 0 m
  dense_first m rows columns e f is = subst (IsDenseBelow sparse 0) (sym is) (record {
    rows = length-replicate rows (replicate columns (pos 0)) ∙ e;
    width = f;
    written = λ other column l. absurd (omega (arith, l));
    rest = λ other column l. zero_entry other column;
  })
    where
      zero_entry : (other column : ℕ) → get_or (get_or (replicate rows (replicate columns (pos 0))) other []) column (pos 0) ≡ pos 0
      zero_entry other column = elim (cases_lt other rows) [
        | inl l ↦ ap (λ (xs : List ℤ). get_or xs column (pos 0)) (get_or-replicate rows other (replicate columns (pos 0)) [] l) ∙ get_or-replicated columns column (pos 0)
        | inr l ↦ ap (λ (xs : List ℤ). get_or xs column (pos 0)) (get_or_past (replicate rows (replicate columns (pos 0))) other [] (let long = length-replicate rows
            (replicate columns (pos 0)) in omega (arith, long, l)))
      ]

  pub dense_more : (m next : Matrix) (row : ℕ) → IsDenseBelow sparse row m → HasValues m row (run_of sparse row) next → IsDenseBelow sparse (row + 1) next
  dense_more m next row are has = record {
    rows = has.rows ∙ are.rows;
    width = has.width ∙ are.width;
    written = λ other column l. elim (same_or_not other row) [
      | inl e ↦ ap (λ k. entry next k column) e ∙ has.here column ∙ ap (λ k. sparse_entry sparse k column) (sym e)
      | inr n ↦ has.others other column n ∙ are.written other column (omega (arith, l, n))
    ];
    rest = λ other column l. has.others other column (λ e. absurd (omega (arith, l, e))) ∙ are.rest other column (omega (arith, l));
  }

  pub dense_is : (m : Matrix) (row : ℕ) → AreSparseRows sparse → IsMatrix m → length sparse.runs ≤ row → IsDenseBelow sparse row m → m ≡ matrix_of_runs sparse
  dense_is m row shape is last are = same_matrix m (matrix_of_runs sparse) is.rectangular (matrix_is_ternary sparse shape).rectangular
      (are.rows ∙ sym (length-map sparse.runs _)) are.width
      (λ other column l h. are.written other column (let same = are.rows in omega (arith, l, same, last)) ∙ sym (matrix_entry sparse shape other column))
