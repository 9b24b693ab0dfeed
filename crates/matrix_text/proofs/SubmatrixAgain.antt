-- A submatrix text that was written is read back as the same lines.
use Rattle.std.proofs.Common.{◌≡◌, ◌<◌, ◌+◌, ◌^◌, ◌∙◌, ℕ, suc, List, [], ◌∷◌, ◌++◌, length, map, Ok, ap, arith}
use Rattle.std.specs.Fmt.{decimal}
use Rattle.std.specs.List.{AllByRecursion}
use Rattle.std.specs.List.Sorted.{IsStrictlyIncreasing}
use Rattle.std.proofs.lemmas.List.{append-nil}
use Rattle.cmr_base.specs.LineSets.{AllBelow}
use Rattle.cmr_base.specs.declared.line_set.LineSet.{LineSet}
use Rattle.cmr_base.proofs.IncreasingLists.{increasing_count}
use Rattle.text_fields.specs.TextWords.{text_of, words_from}
use Rattle.text_fields.specs.Numbers.{count_in}
use Rattle.text_fields.specs.Spelling.{Spell}
use Rattle.text_fields.proofs.LineWords.{IsWord, words_in_lines}
use Rattle.text_fields.proofs.Decimals.{decimal_word, count_of_decimal}
use Rattle.matrix_text.specs.Submatrix.{numbers_of, named_lines}
use Rattle.matrix_text.specs.CanonicalMatrices.{submatrix_lines, submatrix_text}
use Rattle.matrix_text.proofs.SubmatrixTexts.{submatrix_only}
use Rattle.text_fields.specs.LineNumbers.{number_of_line}

line_words : (bound : ℕ) (lines : List ℕ) → bound < 2 ^ 31 → AllBelow bound lines → AllByRecursion IsWord (map number_of_line lines)
line_words bound [] few below = tt
line_words bound (line ∷ lines) few below = (decimal_word (line + 1) (let h = below 0 (omega arith) in omega (arith, h)), line_words bound lines few (λ k h. below (suc k) (omega arith)))

lines_spelled : (bound : ℕ) (lines : List ℕ) → bound < 2 ^ 31 → AllBelow bound lines → Spell count_in (map number_of_line lines) (numbers_of lines)
lines_spelled bound [] few below = tt
lines_spelled bound (line ∷ lines) few below = (count_of_decimal (line + 1) (let h = below 0 (omega arith) in omega (arith, h)), lines_spelled bound lines few (λ k h. below (suc k) (omega arith)))

pub submatrix_again : (height width : ℕ) (lines : LineSet) → height < 2 ^ 31 → width < 2 ^ 31 → IsStrictlyIncreasing lines.rows
    → IsStrictlyIncreasing lines.columns → AllBelow height lines.rows → AllBelow width lines.columns
    → named_lines height width (text_of (submatrix_text height width lines)) ≡ Ok lines
submatrix_again height width lines few_rows few_columns rows_increase columns_increase rows_in columns_in =
    let row_count = increasing_count height lines.rows rows_increase rows_in in
    let column_count = increasing_count width lines.columns columns_increase columns_in in
    submatrix_only height width (length (submatrix_text height width lines)) (words_from 0 (submatrix_text height width lines)) lines (record {
      height_word = decimal height;
      width_word = decimal width;
      row_count_word = decimal (length lines.rows);
      column_count_word = decimal (length lines.columns);
      row_words = map number_of_line lines.rows;
      column_words = map number_of_line lines.columns;
      words_are =
          words_in_lines (submatrix_lines height width lines) (
            (decimal_word height (omega arith), (decimal_word width (omega arith), (decimal_word (length lines.rows) (omega arith), (decimal_word (length lines.columns) (omega arith), tt)))),
            (line_words height lines.rows few_rows rows_in, (line_words width lines.columns few_columns columns_in, tt)),
          )
          ∙ ap (λ ws. decimal height ∷ decimal width ∷ decimal (length lines.rows) ∷ decimal (length lines.columns) ∷ (map number_of_line lines.rows ++ ws)) (append-nil (map number_of_line lines.columns));
      height_is = count_of_decimal height (omega arith);
      width_is = count_of_decimal width (omega arith);
      row_count = count_of_decimal (length lines.rows) (omega arith);
      column_count = count_of_decimal (length lines.columns) (omega arith);
      rows_are = lines_spelled height lines.rows few_rows rows_in;
      columns_are = lines_spelled width lines.columns few_columns columns_in;
      rows_increase = rows_increase;
      columns_increase = columns_increase;
      rows_in = rows_in;
      columns_in = columns_in;
    })
