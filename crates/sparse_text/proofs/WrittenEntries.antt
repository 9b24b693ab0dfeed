-- An entry that is written into a matrix.
use Rattle.std.proofs.Common.{◌≡◌, ◌≢◌, ◌<◌, ◌&&◌, ◌++◌, ◌∙◌, inl, inr, ℕ, ℤ, pos, Bool, nat_eq, if◌then◌else◌, List, [], ◌∷◌, length, refl, ap, ap₂, sym, subst}
use Rattle.std.proofs.lemmas.List.{get_or-set_same, get_or-set_other, length-set}
use Rattle.cmr_base.proofs.Booleans.{two_cases, eq_of, ne_of}
use Rattle.cmr_base.proofs.Lists.{all_at}
use Rattle.sparse_matrix.specs.declared.nonzero.Nonzero.{Nonzero}
use Rattle.sparse_matrix.specs.SparseRows.{SparseRows, AreSparseRows, run_of, value_in, sparse_entry, with_nonzero}
use Rattle.sparse_matrix.proofs.Runs.{AreSigns, first_nonzero, first_nonzero_zero, signs_within, value_in-more}
use Rattle.sparse_text.specs.WrittenEntries.{HasNewEntry}

module _ (m : SparseRows) (at_row at_column : ℕ) (value : ℤ) (shape : AreSparseRows m) (inside : at_row < length m.runs) where
  abbrev pub written : Nonzero
  written = record { line = at_column; value = value }

  pub run_here : run_of (with_nonzero m at_row written) at_row ≡ run_of m at_row ++ written ∷ []
  run_here = get_or-set_same m.runs at_row (run_of m at_row ++ written ∷ []) [] inside

  pub run_elsewhere : (row : ℕ) → at_row ≢ row → run_of (with_nonzero m at_row written) row ≡ run_of m row
  run_elsewhere row differ = get_or-set_other m.runs at_row row (run_of m at_row ++ written ∷ []) [] (λ e. differ (sym e))

  pub signs_here : AreSigns (run_of m at_row)
  signs_here = signs_within m.width (run_of m at_row) (all_at _ m.runs at_row [] shape.runs_in inside)

  entry_here : sparse_entry m at_row at_column ≡ pos 0 → (column : ℕ)
      → sparse_entry (with_nonzero m at_row written) at_row column ≡ (if nat_eq at_column column then value else sparse_entry m at_row column)
  entry_here free column =
      ap (λ (run : List Nonzero). value_in run column) run_here
      ∙ value_in-more (run_of m at_row) written column signs_here
      ∙ elim (two_cases (nat_eq at_column column)) [
        | inl e ↦ ap₂ first_nonzero (ap (sparse_entry m at_row) (sym (eq_of at_column column e)) ∙ free) (ap (λ (b : Bool). if b then value else pos 0) e)
            ∙ ap (λ (b : Bool). if b then value else sparse_entry m at_row column) (sym e)
        | inr f ↦ ap (first_nonzero (sparse_entry m at_row column)) (ap (λ (b : Bool). if b then value else pos 0) f) ∙ first_nonzero_zero (sparse_entry m at_row column)
            ∙ ap (λ (b : Bool). if b then value else sparse_entry m at_row column) (sym f)
      ]

  pub nonzero_written : sparse_entry m at_row at_column ≡ pos 0 → HasNewEntry at_row at_column value m (with_nonzero m at_row written)
  nonzero_written free = record {
    rows = length-set m.runs at_row (run_of m at_row ++ written ∷ []);
    width = refl;
    entries = λ row column. elim (two_cases (nat_eq at_row row)) [
      | inl e ↦ subst (λ (r : ℕ). sparse_entry (with_nonzero m at_row written) r column ≡ (if nat_eq at_row row && nat_eq at_column column then value else sparse_entry m r column))
          (eq_of at_row row e)
          (entry_here free column ∙ ap (λ (b : Bool). if b && nat_eq at_column column then value else sparse_entry m at_row column) (sym e))
      | inr f ↦ ap (λ (run : List Nonzero). value_in run column) (run_elsewhere row (ne_of at_row row f))
          ∙ ap (λ (b : Bool). if b && nat_eq at_column column then value else sparse_entry m row column) (sym f)
    ];
  }
