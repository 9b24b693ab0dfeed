-- Reading the written words of a tree gives their values.
use Rattle.std.proofs.Common.{◌≡◌, ◌<◌, ◌≤◌, ◌+◌, ◌-◌, ℕ, true, leb, eqb, List, [], ◌∷◌, ◌++◌, length, map, get_or, Contains, Option, Some, None, Ok, refl, sym, subst, append_assoc, arith}
use Rattle.std.specs.List.{AllByRecursion}
use Rattle.std.specs.Fmt.{decimal}
use Rattle.std.proofs.lemmas.Bool.{le-leb}
use Rattle.std.proofs.lemmas.Bool.Decides.{nat_tests}
use Rattle.std.proofs.lemmas.List.{append-nil}
use Rattle.std.proofs.lemmas.List.Folds.{list_any_at}
use Rattle.std.proofs.lemmas.List.Sums.{fold_push}
use Rattle.cmr_base.specs.declared.line.Line.{Line}
use Rattle.cmr_base.specs.declared.line.Line.TheVariants.{Row, Column}
use Rattle.cmr_base.specs.declared.line_set.LineSet.{LineSet}
use Rattle.cmr_base.specs.Reductions.{HasLine}
use Rattle.tree_type.specs.Sides.{is_among}
use Rattle.cmr_base.proofs.IncreasingLists.{IncreasesIn}
use Rattle.text_fields.specs.TextWords.{Text}
use Rattle.text_fields.specs.Reading.{field, times}
use Rattle.text_fields.proofs.Decimals.{count_of_decimal}
use Rattle.text_fields.proofs.Limits as numbers
use Rattle.text_fields.proofs.ReadAgain.{Again, again_done, again_field, again_bind, again_wrap}
use Rattle.tree_text.specs.declared.error.TreeKind.{TreeKind}
use Rattle.tree_text.specs.declared.error.TreeKind.TheVariants.{Short}
use Rattle.tree_text.specs.declared.value.Sizes.{Sizes}
use Rattle.tree_text.specs.Faults.{tree_kind}
use Rattle.tree_text.specs.TreeValues.{limited, line_in, among, line_of, last_number, next_line, step_in}
use Rattle.tree_text.specs.TreeReading.{another_line}
use Rattle.tree_text.specs.CanonicalTrees.{number_of_line, line_name}
use Rattle.tree_text.proofs.WordsRead.{IsAmong}

pub limited_again : (most n : ℕ) → n ≤ most → most ≤ 2000 → limited most (decimal n) ≡ Ok n
limited_again most n le small = numbers.limited_again tree_kind most (decimal n) n (count_of_decimal n (omega arith)) le

pub line_in_again : (most line : ℕ) → line < most → most ≤ 1000 → line_in most (number_of_line line) ≡ Ok line
line_in_again most line below small =
    let back : line + 1 - 1 ≡ line = omega arith in
    rw (numbers.line_in_again tree_kind most (number_of_line line) (line + 1) (count_of_decimal (line + 1) (omega arith)) (omega arith) (omega arith), back) refl

pub among_again : (whole : Option (List ℕ)) (line : ℕ) → IsAmong whole line → among whole line ≡ Ok line
among_again None line is = refl
among_again (Some lines) line (k, l, e) =
    let t : is_among lines line ≡ true = list_any_at (λ y. eqb line y) lines k line l (let same : get_or lines k line ≡ line = e in rw same (grind (arith, nat_tests))) in
    rw t refl

pub line_of_again : (most : ℕ) (lines : List ℕ) (line : ℕ) → line < most → most ≤ 1000 → Contains lines line → line_of most lines (number_of_line line) ≡ Ok line
line_of_again most lines line below small is = rw (line_in_again most line below small) (among_again (Some lines) line is)

pub next_line_again : (most : ℕ) (whole : Option (List ℕ)) (before line : ℕ) → before ≤ line → line < most → most ≤ 1000 → IsAmong whole line
    → next_line most whole before (number_of_line line) ≡ Ok line
next_line_again most whole before line above below small is =
    let t : leb before line ≡ true = le-leb before line above in
    rw (line_in_again most line below small, t) (among_again whole line is)

-- increasing lines
pub again_lines : (most : ℕ) (whole : Option (List ℕ)) → most ≤ 1000 → (before lines : List ℕ) → IncreasesIn (last_number before) most lines → AllByRecursion (IsAmong whole) lines
    → Again (times (another_line most whole) (length lines) before) (map number_of_line lines) (before ++ lines)
again_lines most whole small before [] increases within = subst (λ xs. Again {K = TreeKind} (λ text. Ok (before, text)) [] xs) (sym (append-nil before)) (again_done before)
again_lines most whole small before (line ∷ lines) increases within =
    let last : last_number (before ++ line ∷ []) ≡ line + 1 = fold_push (λ (before line : ℕ). line + 1) 0 before line in
    let one = again_wrap (field Short (next_line most whole (last_number before))) (λ l. before ++ l ∷ []) (number_of_line line ∷ []) line (again_field Short (next_line most whole (last_number before)) (number_of_line line) line (next_line_again most whole (last_number before) line increases.0 increases.1 small within.0)) in
    subst (Again (times (another_line most whole) (length (line ∷ lines)) before) (map number_of_line (line ∷ lines))) (append_assoc before (line ∷ []) lines)
    (again_bind (another_line most whole before) (λ (next : List ℕ × Text). times (another_line most whole) (length lines) next.0 next.1) (number_of_line line ∷ []) (map number_of_line lines) (before ++ line ∷ []) ((before ++ line ∷ []) ++ lines) one (again_lines most whole small (before ++ line ∷ []) lines (subst (λ low. IncreasesIn low most lines) (sym last) increases.2) within.1))

pub step_again : (sizes : Sizes) (lines : LineSet) (line : Line) → sizes.rows ≤ 1000 → sizes.columns ≤ 1000
    → ((row : ℕ) → Contains lines.rows row → row < sizes.rows) → ((column : ℕ) → Contains lines.columns column → column < sizes.columns)
    → HasLine lines.rows lines.columns line → step_in sizes lines (line_name line) ≡ Ok line
step_again sizes lines (Row row) few_rows few_columns rows columns is = rw (line_of_again sizes.rows lines.rows row (rows row is) few_rows is) refl
step_again sizes lines (Column column) few_rows few_columns rows columns is = rw (line_of_again sizes.columns lines.columns column (columns column is) few_columns is) refl
