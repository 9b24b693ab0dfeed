use Rattle.std.proofs.Common.{◌≡◌, ◌∙◌, ◌++◌, ◌+◌, ◌-◌, ◌*◌, ◌<◌, ℕ, ℤ, Bool, List, [], take, drop, length, get_or, ap, sym, arith}
use Rattle.std.specs.List.{flat_map}
use Rattle.std.proofs.lemmas.List.{take_all}
use Rattle.cmr_base.specs.Matrix.{is_nonzero, rows_of}
use Rattle.cmr_base.specs.Planes.{is_minus, words_of}
use Rattle.cmr_base.proofs.PlaneWords.{more_rows}
use Rattle.cmr_base.proofs.Rows.{length-rows_of, row-rows_of}
use Rattle.cmr_base.proofs.planes.planes_of.Goals as goal

-- one more row in one plane
one_more : (test : ℤ → Bool) (cells : List ℤ) (rows columns words row : ℕ) (prefix later : List ℕ) → row < rows
    → later ≡ prefix ++ words_of words test (take (row * columns + columns - row * columns) (drop (row * columns) cells))
    → prefix ≡ flat_map (words_of words test) (take row (rows_of rows columns cells))
    → later ≡ flat_map (words_of words test) (take (row + 1) (rows_of rows columns cells))
one_more test cells rows columns words row prefix later inside pushed so_far =
    let count : row * columns + columns - row * columns ≡ columns = omega arith in
    pushed
    ∙ ap (λ (n : ℕ). prefix ++ words_of words test (take n (drop (row * columns) cells))) count
    ∙ ap (λ (line : List ℤ). prefix ++ words_of words test line) (sym (row-rows_of rows columns cells row inside))
    ∙ ap (λ (bits : List ℕ). bits ++ words_of words test (get_or (rows_of rows columns cells) row [])) so_far
    ∙ sym (more_rows (words_of words test) (rows_of rows columns cells) row (omega (arith, inside, length-rows_of rows columns cells)))

pub loop-row-preserved : goal.loop-row-preserved
loop-row-preserved c = record {
  support_is = one_more is_nonzero c.args.cells.now c.args.rows c.args.columns c.words_for-words.result c.loop-row.row c.loop-row.support.items c.push_row.new.support.items
      (omega (arith, c.loop-row-test.true)) c.in_ok-push_row.ensures.support c.loop-row.invariant.support_is;
  minus_is = one_more is_minus c.args.cells.now c.args.rows c.args.columns c.words_for-words.result c.loop-row.row c.loop-row.minus.items c.push_row.new.minus.items
      (omega (arith, c.loop-row-test.true)) c.in_ok-push_row.ensures.minus c.loop-row.invariant.minus_is;
}

-- all rows
all_rows : (test : ℤ → Bool) (rows : List (List ℤ)) (words wanted row : ℕ) (bits : List ℕ) → words ≡ wanted → length rows ≡ row
    → bits ≡ flat_map (words_of words test) (take row rows) → bits ≡ flat_map (words_of wanted test) rows
all_rows test rows words wanted row bits e end so_far =
    so_far ∙ ap (flat_map (words_of words test)) (take_all row rows (omega (arith, end))) ∙ ap (λ (n : ℕ). flat_map (words_of n test) rows) e

pub returns-clause-support : goal.returns-clause-support
returns-clause-support c =
    all_rows is_nonzero (rows_of c.args.rows c.args.columns c.args.cells.now) c.words_for-words.result _ c.loop-row.row c.loop-row.support.items c.words_for-words.ensures
    (length-rows_of c.args.rows c.args.columns c.args.cells.now ∙ omega (arith, c.loop-row-test.false)) c.loop-row.invariant.support_is

pub returns-clause-minus : goal.returns-clause-minus
returns-clause-minus c =
    all_rows is_minus (rows_of c.args.rows c.args.columns c.args.cells.now) c.words_for-words.result _ c.loop-row.row c.loop-row.minus.items c.words_for-words.ensures
    (length-rows_of c.args.rows c.args.columns c.args.cells.now ∙ omega (arith, c.loop-row-test.false)) c.loop-row.invariant.minus_is
