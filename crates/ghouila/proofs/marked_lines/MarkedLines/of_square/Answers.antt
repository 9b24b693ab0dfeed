use Rattle.std.proofs.Common.{◌≡◌, ◌∙◌, [], ◌∷◌, ◌+ℤ◌, ℕ, List, Bool, length, replicate, inl, inr, false, true, not, eqb, get_or, set, ap, sym, subst, arith, refl, w8, of_z}
use mathlib.Core.Bool.{beq}
use Rattle.std.proofs.lemmas.Bool.{cases_eq}
use Rattle.std.proofs.lemmas.List.{length-set, length-replicate, get_or-set_same, get_or-set_other}
use Rattle.cmr_base.specs.Matrix.{entry}
use Rattle.std.specs.Prelude.{◌↔◌}
use Rattle.cmr_base.specs.Matrix.{height}
use Rattle.cmr_base.specs.Members.{IsIn}
use Rattle.ghouila.specs.Found.{HasParity, marked}
use Rattle.ghouila.proofs.MarkedMembers.{in_two_marks}
use Rattle.ghouila.proofs.SquareMarks.{odd_pair, square_marks}
use Rattle.ghouila.proofs.marked_lines.MarkedLines.of_square.Goals as goal

-- the number of marks
marks_length : (marks : List Bool) (n : ℕ) → marks ≡ replicate n false → length marks ≡ n
marks_length marks n is = ap length is ∙ length-replicate n false

pub index_mut-requires : goal.index_mut-requires
index_mut-requires c = let rows = c.in_ok-lines.lines.rows in omega (arith, c.requires.row, rows.ok.0, marks_length rows.items (height c.args.work.now) c.in_ok-lines.ensures.rows)

pub index_mut-requires-2 : goal.index_mut-requires-2
index_mut-requires-2 c = let rows = c.in_ok-lines.lines.rows in omega (arith, c.requires.square.row_in, rows.ok.0, marks_length rows.items (height c.args.work.now) c.in_ok-lines.ensures.rows)

pub index_mut-requires-3 : goal.index_mut-requires-3
index_mut-requires-3 c = let columns = c.in_ok-lines.lines.columns in omega (arith, c.requires.column, columns.ok.0, marks_length columns.items c.args.work.now.width c.in_ok-lines.ensures.columns)

pub index_mut-requires-4 : goal.index_mut-requires-4
index_mut-requires-4 c = let columns = c.in_ok-lines.lines.columns in omega (arith, c.requires.square.column_in, columns.ok.0, marks_length columns.items c.args.work.now.width c.in_ok-lines.ensures.columns)

pub loop-place-init : goal.loop-place-init
loop-place-init c = record {
  rows = refl;
  columns = refl;
  odd_each = marks_length c.in_ok-lines.lines.odd.items c.args.work.now.width c.in_ok-lines.ensures.odd;
  parity = λ j h. absurd (omega (arith, h));
}

pub index_mut-requires-in-loop-place : goal.index_mut-requires-in-loop-place
index_mut-requires-in-loop-place c = omega (arith, c.loop-place-test.true, c.columns-place-end.ensures.columns, c.loop-place.lines.odd.ok.0, c.loop-place.invariant.odd_each)

pub loop-place-preserved : goal.loop-place-preserved
loop-place-preserved c =
    let odd = c.loop-place.lines.odd.items in
    let k = c.loop-place.place in
    let mark = not (beq (not (eqb (of_z w8 c.entry-first.result) 0)) (not (eqb (of_z w8 c.entry-second.result) 0))) in
    let here = odd_pair c.entry-first.result c.entry-second.result c.entry-first.ensures.small c.entry-second.ensures.small in
    let m = c.args.work.now in
    let first : c.entry-first.result ≡ entry m c.args.row k = c.entry-first.ensures.value in
    let second : c.entry-second.result ≡ entry m c.args.corner.row k = c.entry-second.ensures.value in
    record {
      rows = c.loop-place.invariant.rows;
      columns = c.loop-place.invariant.columns;
      odd_each = length-set odd k mark ∙ c.loop-place.invariant.odd_each;
      parity = λ j h. elim (cases_eq j k) [
        | inl e ↦ subst (λ x. HasParity (get_or (set odd k mark) x false) (entry m c.args.row x +ℤ entry m c.args.corner.row x)) (sym e)
            (subst (λ b. HasParity b (entry m c.args.row k +ℤ entry m c.args.corner.row k)) (sym (get_or-set_same odd k mark false (let w = c.loop-place.invariant.odd_each in omega arith)))
            (subst (λ z. HasParity mark (z +ℤ entry m c.args.corner.row k)) first (subst (λ z. HasParity mark (c.entry-first.result +ℤ z)) second here)))
        | inr other ↦ subst (λ b. HasParity b (entry m c.args.row j +ℤ entry m c.args.corner.row j)) (sym (get_or-set_other odd k j mark false other)) (c.loop-place.invariant.parity j (omega arith))
      ];
    }

pub returns-clause-violator : goal.returns-clause-violator
returns-clause-violator c =
    let m = c.args.work.now in
    let lines = c.loop-place.lines in
    square_marks m c.args.row c.args.column c.args.corner.row c.args.corner.column lines.rows.items lines.columns.items lines.odd.items c.requires.row c.requires.column c.requires.square
    (c.loop-place.invariant.rows ∙ ap (λ xs. set (set xs c.args.row true) c.args.corner.row true) c.in_ok-lines.ensures.rows)
    (c.loop-place.invariant.columns ∙ ap (λ xs. set (set xs c.args.column true) c.args.corner.column true) c.in_ok-lines.ensures.columns)
    c.loop-place.invariant.odd_each
    (λ j h. c.loop-place.invariant.parity j (omega arith))

pub returns-clause-rows : goal.returns-clause-rows
returns-clause-rows c =
    let m = c.args.work.now in
    let e = c.loop-place.invariant.rows ∙ ap (λ xs. set (set xs c.args.row true) c.args.corner.row true) c.in_ok-lines.ensures.rows in
    λ i. subst (λ marks. IsIn i (marked marks) ↔ IsIn i (c.args.row ∷ c.args.corner.row ∷ [])) (sym e) (in_two_marks (height m) c.args.row c.args.corner.row c.requires.row c.requires.square.row_in i)

pub returns-clause-columns : goal.returns-clause-columns
returns-clause-columns c =
    let m = c.args.work.now in
    let e = c.loop-place.invariant.columns ∙ ap (λ xs. set (set xs c.args.column true) c.args.corner.column true) c.in_ok-lines.ensures.columns in
    λ j. subst (λ marks. IsIn j (marked marks) ↔ IsIn j (c.args.column ∷ c.args.corner.column ∷ [])) (sym e) (in_two_marks m.width c.args.column c.args.corner.column c.requires.column c.requires.square.column_in j)
