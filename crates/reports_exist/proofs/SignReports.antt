-- `sign` has a report on each matrix and each set of its rows.
use Rattle.std.proofs.Common.{◌≡◌, ◌*ℤ◌, ◌+ℤ◌, ℕ, suc, ℤ, pos, Bool, true, false, ◌∙◌, List, ◌∷◌, Contains, Ok, length, map, get_or, refl, subst, arith}
use Rattle.std.proofs.lemmas.List.{length-map}
use Rattle.std.proofs.lemmas.List.Elements.{All-from_recursion}
use Rattle.cmr_base.specs.declared.line_set.LineSet.{LineSet}
use Rattle.cmr_base.specs.LineSets.{IsRowSet}
use Rattle.cmr_base.specs.Matrix.{IsEntry, IsMatrix, Matrix, height}
use Rattle.cmr_base.specs.Signing.{IsSign, IsSigning}
use Rattle.cmr_base.proofs.IncreasingLists.{increasing_column_set, increasing_row_set, row_set_increases}
use Rattle.cmr_base.proofs.Lists.{all-map}
use Rattle.cmr_base.proofs.Members.{increasing_are_distinct}
use Rattle.matrix_text.proofs.SubmatrixTexts.{found}
use Rattle.text_fields.specs.TextWords.{text_of}
use Rattle.ghouila.specs.Answer.{IsViolatorAmong}
use Rattle.ghouila.specs.Found.{MarksViolator, SignsRows, marked}
use Rattle.ghouila.proofs.Marks.{all_marked, marked_increases}
use Rattle.ghouila.proofs.NamedRows.{signed_sum-map}
use Rattle.sign_tool.specs.declared.signing.SetSigning.TheVariants.{Signed, Violated}
use Rattle.sign_tool.proofs.StepRows.{names_each_once}
use Rattle.cmr_front.specs.declared.outcome.FaultKind.TheVariants as faults
use Rattle.cmr_front.specs.MatrixText.{matrix_in}
use Rattle.cmr_front.specs.Texts.{ReportsText}
use Rattle.cmr_front.proofs.MatrixText.{read_is_matrix}
use Rattle.cmr_reach.specs.RowSet.{set_of_text}
use Rattle.cmr_reach.specs.Sign.{SignDecides, SignOrder, SignReports, sign_report, sign_tool}
use Rattle.reports_exist.proofs.RunsExist.{Ends, ends_exist, signed, violated}
use Rattle.reports_exist.proofs.TextReports.{HasReport, on_pair, on_text}

module _ (m : Matrix) (rows : List ℕ) (is : IsRowSet m rows) where
  signing : (signs sums : List ℤ) → SignsRows m rows signs sums → IsSigning m rows (map (λ row. get_or signs row (pos 0)) rows)
  signing signs sums s = record {
    one_each = length-map rows (λ row. get_or signs row (pos 0));
    each = all-map IsSign (λ row. get_or signs row (pos 0)) rows s.each;
    sums = λ column l. subst IsEntry (s.sums_are column l ∙ signed_sum-map m rows (λ row. get_or signs row (pos 0)) column) (s.entries column l);
  }

  violator : (row_marks column_marks odd : List Bool) → MarksViolator m rows row_marks column_marks odd → IsViolatorAmong m rows (marked row_marks) (marked column_marks)
  violator row_marks column_marks odd v = record {
    row_set = increasing_row_set m (marked row_marks) (marked_increases 0 (height m) row_marks (let h = v.row_each in omega (arith, h)));
    column_set = increasing_column_set m (marked column_marks) (marked_increases 0 m.width column_marks (let h = v.column_each in omega (arith, h)));
    among = All-from_recursion (Contains rows) (marked row_marks) (all_marked (Contains rows) 0 row_marks (λ k n same mark. v.among n (subst (λ i. get_or row_marks i false ≡ true) (let i : k ≡ n = omega (arith, same) in i) mark)));
    violator = v.violator;
  }

  by_end : Ends m rows → HasReport (SignDecides m rows)
  by_end (signed steps signs sums s run) none =
      let sign = λ (row : ℕ). get_or signs row (pos 0) in
      let answer = Signed (map sign rows) steps in
      none (
        sign_report m rows answer,
        record {
          answer = answer;
          is_answer = record {
            right = signing signs sums s;
            run = (sign, refl, run);
            steps = names_each_once steps sign m rows run (increasing_are_distinct 0 (height m) rows (row_set_increases m rows is));
          };
          report_is = refl;
        },
      )
  by_end (violated steps row_marks column_marks odd v run) none =
      let lines : LineSet = record { rows = marked row_marks; columns = marked column_marks } in
      none (
        sign_report m rows (Violated lines),
        record {
          answer = Violated lines;
          is_answer = record { right = violator row_marks column_marks odd v; run = (steps, run); steps = tt };
          report_is = refl;
        },
      )

  decided : IsMatrix m → HasReport (SignDecides m rows)
  decided matrix none = ends_exist (suc (length rows)) m rows (omega arith) is (λ row h column l. matrix.small row column) (λ ends. by_end ends none)

rows_in : (m : Matrix) (bytes : List ℕ) (lines : LineSet) → set_of_text m bytes ≡ Ok lines → IsRowSet m lines.rows
rows_in m bytes lines e = let named = found (height m) m.width (text_of bytes) (Ok lines) e in record { increasing = named.rows_increase; in_range = named.rows_in }

pub sign_has_report : (o : SignOrder) (texts : List (List ℕ)) → length texts ≡ 2 → HasReport ((sign_tool o).Reports texts)
sign_has_report o texts count = on_pair (SignReports o)
    (λ matrix rows. on_text faults.Matrix o.matrix (λ m. ReportsText faults.Matrix o.rows (λ lines. SignDecides m lines.rows) (set_of_text m rows)) (matrix_in o.form false matrix)
    (λ m e. on_text faults.Matrix o.rows (λ lines. SignDecides m lines.rows) (set_of_text m rows) (λ lines f. decided m lines.rows (rows_in m rows lines f) (read_is_matrix o.form false matrix m e))))
    texts count
