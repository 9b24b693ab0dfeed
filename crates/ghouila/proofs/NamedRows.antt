-- The results for rows of a matrix, by the rows' numbers.
use Rattle.std.proofs.Common.{◌≡◌, ◌∙◌, ℕ, true, false, ℤ, pos, ◌+ℤ◌, ◌*ℤ◌, List, [], ◌∷◌, get_or, map, refl, ap, sym, subst, arith}
use Rattle.std.specs.List.{Contains}
use Rattle.std.proofs.lemmas.List.{length-map}
use Rattle.std.proofs.lemmas.List.Elements.{All-from_recursion}
use Rattle.cmr_base.specs.Matrix.{Matrix, height, entry, IsEntry}
use Rattle.cmr_base.specs.Signing.{IsSign, signed_sum, IsSigning}
use Rattle.cmr_base.specs.Sums.{sum_over}
use Rattle.cmr_base.proofs.Lists.{all-map}
use Rattle.cmr_base.proofs.IncreasingLists.{increasing_row_set, increasing_column_set}
use Rattle.ghouila.specs.declared.by_pivots.MarkedSigning.{MarkedSigning}
use Rattle.ghouila.specs.declared.by_pivots.MarkedSigning.TheVariants.{Signed, Violated}
use Rattle.ghouila.specs.declared.by_pivots.SigningOrViolator.{SigningOrViolator}
use Rattle.ghouila.specs.declared.by_pivots.SigningOrViolator.TheVariants as signings
use Rattle.ghouila.specs.Found.{marked}
use Rattle.ghouila.specs.MarkedSignings.{IsOutcome, NamesLines}
use Rattle.ghouila.specs.Answer.{SignsOrViolates}
use Rattle.ghouila.proofs.Marks.{all_marked, marked_increases}

pub signed_sum-map : (m : Matrix) (rows : List ℕ) (sign : ℕ → ℤ) (column : ℕ) → sum_over rows (λ row. sign row *ℤ entry m row column) ≡ signed_sum m rows (map sign rows) column
signed_sum-map m [] sign column = refl
signed_sum-map m (row ∷ rows) sign column = ap (λ z. sign row *ℤ entry m row column +ℤ z) (signed_sum-map m rows sign column)

pub named_right : (m : Matrix) (rows : List ℕ) (outcome : MarkedSigning) (signing : SigningOrViolator) → IsOutcome m rows outcome → NamesLines rows outcome signing → SignsOrViolates m rows signing
named_right m rows (Signed s) (signings.Signed signs) is e = subst (IsSigning m rows) (sym e) (record {
  one_each = length-map rows (λ row. get_or s.signs.items row (pos 0));
  each = all-map IsSign (λ row. get_or s.signs.items row (pos 0)) rows is.each;
  sums = λ column h. subst IsEntry (is.sums_are column h ∙ signed_sum-map m rows (λ row. get_or s.signs.items row (pos 0)) column) (is.entries column h);
})
named_right m rows (Signed s) (signings.Violated lines) is e = absurd e
named_right m rows (Violated v) (signings.Signed signs) is e = absurd e
named_right m rows (Violated v) (signings.Violated lines) is e = rw (e.0, e.1) (record {
  row_set = increasing_row_set m (marked v.rows.items) (marked_increases 0 (height m) v.rows.items (let h = is.row_each in omega arith));
  column_set = increasing_column_set m (marked v.columns.items) (marked_increases 0 m.width v.columns.items (let h = is.column_each in omega arith));
  among = All-from_recursion (Contains rows) (marked v.rows.items) (all_marked (Contains rows) 0 v.rows.items (λ k n same mark. is.among n (subst (λ i. get_or v.rows.items i false ≡ true) (let i : k ≡ n = omega arith in i) mark)));
  violator = is.violator;
})
