-- The first nonzeros of a row with one more nonzero.
use Rattle.std.proofs.Common.{◌≡◌, ◌<◌, ◌≤◌, ◌&&◌, ◌||◌, ◌++◌, ◌∙◌, inl, inr, ℕ, suc, zero, ℤ, pos, negsuc, Bool, true, false, nat_eq, if◌then◌else◌, List, [], ◌∷◌, length, take, refl, ap, sym, subst, arith}
use Rattle.std.proofs.lemmas.List.{length_push, take-append-le, take_all}
use Rattle.cmr_base.specs.Matrix.{is_nonzero}
use Rattle.cmr_base.proofs.Booleans.{eq_of, ne_of, same_or_not, two_cases}
use Rattle.sparse_matrix.specs.declared.nonzero.Nonzero.{Nonzero}
use Rattle.sparse_matrix.specs.SparseRows.{SparseRows, AreSparseRows, run_of, value_in, with_nonzero}
use Rattle.sparse_matrix.proofs.Runs.{first_nonzero, value_in-more}
use Rattle.sparse_text.specs.NamedPositions.{is_scanned}
use Rattle.sparse_text.specs.declared.named.TheConstants.{SCANNED}
use Rattle.sparse_text.proofs.WrittenEntries.{run_elsewhere, run_here, signs_here, written}

nonzero_added : (test : Bool) (value other : ℤ) → is_nonzero value ≡ true → is_nonzero (first_nonzero other (if test then value else pos 0)) ≡ (test || is_nonzero other)
nonzero_added true value (pos zero) nonzero = nonzero
nonzero_added true value (pos (suc n)) nonzero = refl
nonzero_added true value (negsuc n) nonzero = refl
nonzero_added false value (pos zero) nonzero = refl
nonzero_added false value (pos (suc n)) nonzero = refl
nonzero_added false value (negsuc n) nonzero = refl

module _ (m : SparseRows) (at_row at_column : ℕ) (value : ℤ) (shape : AreSparseRows m) (inside : at_row < length m.runs) where
  abbrev run : List Nonzero
  run = run_of m at_row

  abbrev next : SparseRows
  next = with_nonzero m at_row (record { line = at_column; value = value })

  pub scan_stays : SCANNED ≤ length run → (row column : ℕ) → is_scanned next row column ≡ is_scanned m row column
  scan_stays full row column = ap (λ (first : List Nonzero). is_nonzero (value_in first column)) (elim (same_or_not at_row row) [
    | inl e ↦ subst (λ (r : ℕ). take SCANNED (run_of next r) ≡ take SCANNED (run_of m r)) e
        (ap (take SCANNED) (run_here m at_row at_column value shape inside) ∙ take-append-le SCANNED run (written m at_row at_column value shape inside ∷ []) full)
    | inr differ ↦ ap (take SCANNED) (run_elsewhere m at_row at_column value shape inside row differ)
  ])

  scan_here : is_nonzero value ≡ true → length run < SCANNED → (column : ℕ) → is_scanned next at_row column ≡ (nat_eq at_column column || is_scanned m at_row column)
  scan_here nonzero few column =
      let longer = length_push run (written m at_row at_column value shape inside) in
      let all : take SCANNED (run_of next at_row) ≡ run ++ written m at_row at_column value shape inside ∷ [] =
      ap (take SCANNED) (run_here m at_row at_column value shape inside) ∙ take_all SCANNED (run ++ written m at_row at_column value shape inside ∷ []) (omega (arith, longer, few)) in
      ap (λ (first : List Nonzero). is_nonzero (value_in first column)) all
      ∙ ap is_nonzero (value_in-more run (written m at_row at_column value shape inside) column (signs_here m at_row at_column value shape inside))
      ∙ nonzero_added (nat_eq at_column column) value (value_in run column) nonzero
      ∙ ap (λ (first : List Nonzero). nat_eq at_column column || is_nonzero (value_in first column)) (sym (take_all SCANNED run (omega (arith, few))))

  pub scan_grows : is_nonzero value ≡ true → length run < SCANNED → (row column : ℕ) → is_scanned next row column ≡ ((nat_eq at_row row && nat_eq at_column column) || is_scanned m row column)
  scan_grows nonzero few row column = elim (two_cases (nat_eq at_row row)) [
    | inl e ↦ subst (λ (r : ℕ). is_scanned next r column ≡ ((nat_eq at_row row && nat_eq at_column column) || is_scanned m r column)) (eq_of at_row row e)
        (scan_here nonzero few column ∙ ap (λ (b : Bool). (b && nat_eq at_column column) || is_scanned m at_row column) (sym e))
    | inr f ↦ ap (λ (run : List Nonzero). is_nonzero (value_in (take SCANNED run) column)) (run_elsewhere m at_row at_column value shape inside row (ne_of at_row row f))
        ∙ ap (λ (b : Bool). (b && nat_eq at_column column) || is_scanned m row column) (sym f)
  ]
