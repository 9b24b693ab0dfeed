-- Matrices that signs split, and cycles that do not cancel.
use Rattle.std.proofs.Common.{◌≢◌, ℕ, ℤ, pos, ◌+ℤ◌, ◌*ℤ◌, ◌-ℤ◌, List, [], ◌∷◌, map, sym, subst, arith}
use Rattle.std.proofs.lemmas.List.{length-map}
use Rattle.std.proofs.Math.Path.{fun_ext}
use Rattle.std.specs.List.{AllByRecursion}
use Rattle.cmr_base.specs.Matrix.{Matrix, height, entry, IsEntry, IsTernary, transposed}
use Rattle.cmr_base.specs.LineSets.{IsRowSet}
use Rattle.cmr_base.specs.Signing.{IsSign, IsSigning, IsTotallyUnimodular}
use Rattle.cmr_base.specs.Sums.{sum_over, IsEven, IsTwoModFour}
use Rattle.cmr_base.specs.Violator.{HasNoViolator}
use Rattle.cmr_base.proofs.Integers.{sums, products}
use Rattle.cmr_base.proofs.IncreasingLists.{row_set_increases}
use Rattle.cmr_base.proofs.Lists.{all_of, all_weaker}
use Rattle.cmr_base.proofs.Parity.{IsFour}
use Rattle.cmr_base.proofs.Parts.{entry-transposed_rectangular, is_ternary-transposed}
use Rattle.cmr_base.proofs.SignEntries.{sign_is_entry, product_is_entry}
use Rattle.cmr_base.proofs.TransposedLemmas.{none_from_transposed_rectangular}
use Rattle.ghouila.proofs.CamionLaw.{camion}
use Rattle.ghouila.proofs.NamedRows.{signed_sum-map}
use Rattle.ghouila.proofs.SignedSums.{signed, even_change-signed, four_change-signed, signed-sum_over}
use Rattle.split_laws.specs.SignSplits.{CancelsColumns, signed_column}
use Rattle.split_laws.specs.SplitLaws.{SplitsAreUnimodular, ColumnSplitsAreUnimodular, UncancelledCyclesAreViolators}
use Rattle.split_laws.proofs.SplitSums.{small_sum}

signs-map : (sign : ℕ → ℤ) (rows : List ℕ) → ((row : ℕ) → IsSign (sign row)) → AllByRecursion IsSign (map sign rows)
signs-map sign [] h = tt
signs-map sign (row ∷ rows) h = (h row, signs-map sign rows h)

-- ---- splits

module _ (m : Matrix) (sign : ℕ → ℤ) (is : IsTernary m) (split : CancelsColumns (entry m) sign) where
  abbrev value : ℕ → ℕ → ℤ
  value column row = sign row *ℤ entry m row column

  factor_nonzero : (s z : ℤ) → s *ℤ z ≢ pos 0 → z ≢ pos 0
  factor_nonzero s z h e = h (rw e (simp products))

  signing : (rows : List ℕ) → IsRowSet m rows → IsSigning m rows (map sign rows)
  signing rows row_set = record {
    one_each = length-map rows sign;
    each = signs-map sign rows split.signs;
    sums = λ column l. subst IsEntry (signed_sum-map m rows sign column)
        (small_sum (value column) (λ row. product_is_entry (sign row) (entry m row column) (sign_is_entry (sign row) (split.signs row)) (is.small row column))
        (λ row other l g h. split.cancel row other column l (factor_nonzero (sign row) (entry m row column) g) (factor_nonzero (sign other) (entry m other column) h))
        0 (height m) rows (row_set_increases m rows row_set));
  }

pub splits_are_unimodular : SplitsAreUnimodular
splits_are_unimodular m sign is split =
    let signed : IsTotallyUnimodular m = λ rows row_set. (map sign rows, signing m sign is split rows row_set) in
    (signed, (camion m is.small).0 signed)

column_splits_are_unimodular : (m : Matrix) (sign : ℕ → ℤ) → IsTernary m → CancelsColumns (entry (transposed m)) sign → IsTotallyUnimodular m × HasNoViolator m
column_splits_are_unimodular m sign is split =
    let none = none_from_transposed_rectangular m is.rectangular (splits_are_unimodular (transposed m) sign (is_ternary-transposed m is) split).1 in
    ((camion m is.small).1 none, none)

pub splits_of_columns_are_unimodular : ColumnSplitsAreUnimodular
splits_of_columns_are_unimodular m sign is split = column_splits_are_unimodular m sign is
    (subst (λ (M : ℕ → ℕ → ℤ). CancelsColumns M sign) (sym (fun_ext (λ column. fun_ext (λ row. entry-transposed_rectangular m row column is.rectangular)))) split)

-- ---- cycles

pub uncancelled_cycles_are_violators : UncancelledCyclesAreViolators
uncancelled_cycles_are_violators M sign rows columns cycle = record {
  even_rows = cycle.even_rows;
  even_columns = all_weaker (λ column. IsEven (signed_column M sign rows column)) (λ column. IsEven (sum_over rows (λ row. M row column)))
      (λ column even. even_by_change (sum_over rows (λ row. M row column)) (signed_column M sign rows column) (even_change-signed sign rows (λ row. M row column) signs) even)
      columns cycle.even_columns;
  two_mod_four = two_by_change (sum_over rows (λ row. sum_over columns (M row))) (signed sign rows (λ row. sum_over columns (M row)))
      (four_change-signed sign rows (λ row. sum_over columns (M row)) signs cycle.even_rows)
      (subst IsTwoModFour (sym (signed-sum_over sign rows columns M)) cycle.two_mod_four);
}
  where
    signs : AllByRecursion (λ row. IsSign (sign row)) rows
    signs = all_of (λ row. IsSign (sign row)) cycle.signs rows

    even_by_change : (a b : ℤ) → IsEven (a -ℤ b) → IsEven b → IsEven a
    even_by_change a b (k, e) (l, f) = (k +ℤ l, omega (arith, sums))

    two_by_change : (a b : ℤ) → IsFour (a -ℤ b) → IsTwoModFour b → IsTwoModFour a
    two_by_change a b (k, e) (l, f) = (k +ℤ l, omega (arith, sums))
