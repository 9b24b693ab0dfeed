use Rattle.std.proofs.Common.{◌∙◌, ap, ap₂, sym, subst, length, arith, rules, SFits, w32, List, ℕ}
use Rattle.std.proofs.lemmas.Bool.{false≢true}
use Rattle.std.proofs.lemmas.Int.{to_z-of_z}
use Rattle.cmr_base.specs.LineSets.{submatrix_sum}
use Rattle.cmr_base.specs.Sums.{IsTwoModFour}
use Rattle.cmr_base.specs.Matrix.{entry, height}
use Rattle.cmr_base.specs.Violator.{IsViolator}
use Rattle.cmr_base.proofs.Parts.{length-increasing}
use Rattle.parity.proofs.violator.is_violator.Goals as goal
use Rattle.parity.proofs.violator.is_violator.Goals.{then-have_even_rows, else-have_even_rows}

pub prove-unreachable-requires : goal.prove-unreachable-requires
prove-unreachable-requires c =
    omega (arith, length-increasing c.args.lines.now.rows (height c.args.matrix.now) c.as_slice-rows.ensures.increasing c.requires.rows, ap length c.as_slice-rows.ensures.items)

pub prove-unreachable-requires-2 : goal.prove-unreachable-requires-2
prove-unreachable-requires-2 c =
    omega (arith, length-increasing c.args.lines.now.columns c.args.matrix.now.width c.as_slice-columns.ensures.increasing c.requires.columns, ap length c.as_slice-columns.ensures.items)

pub returns-then-have_even_columns : goal.returns-then-have_even_columns
returns-then-have_even_columns c =
    let m = c.args.matrix.now in
    let rows = c.as_slice-rows.ensures.items in
    let columns = c.as_slice-columns.ensures.items in
    let fits : SFits w32 c.sum.result = search rules in
    let sum = to_z-of_z w32 c.sum.result fits ∙ c.sum.ensures ∙ sym (ap₂ (submatrix_sum m) rows columns) in
    elim c.if-have_even_rows.branch [
      | then-have_even_rows w ↦
          let even_rows = c.have_even_rows.ensures.0 w.if-have_even_rows.true in
          let even_columns = w.have_even_columns.ensures.0 (sym w.value-is ∙ c.if-have_even_columns.true) in (
            λ two. subst (λ (rs : List ℕ). IsViolator (entry m) rs c.args.lines.now.columns) rows
                (subst (IsViolator (entry m) c.as_slice-rows.result.now) columns (record {
                  even_rows = even_rows;
                  even_columns = even_columns;
                  two_mod_four = subst IsTwoModFour sum (c.is_two_mod_four.ensures.0 two);
                })),
            λ violator.
                let here = subst (λ (rs : List ℕ). IsViolator (entry m) rs c.as_slice-columns.result.now) (sym rows) (subst (IsViolator (entry m) c.args.lines.now.rows) (sym columns) violator) in
                c.is_two_mod_four.ensures.1 (subst IsTwoModFour (sym sum) here.two_mod_four),
          )
      | else-have_even_rows w ↦ absurd (false≢true (sym w.if-have_even_rows.false ∙ sym w.value-is ∙ c.if-have_even_columns.true))
    ]

pub returns-else-have_even_columns : goal.returns-else-have_even_columns
returns-else-have_even_columns c =
    let m = c.args.matrix.now in
    let none = c.if-have_even_columns.false in (
      λ yes_value. absurd (false≢true (sym none ∙ yes_value)),
      λ violator.
          let here = subst (λ (rs : List ℕ). IsViolator (entry m) rs c.as_slice-columns.result.now) (sym c.as_slice-rows.ensures.items) (subst (IsViolator (entry m) c.args.lines.now.rows) (sym c.as_slice-columns.ensures.items) violator) in
          elim c.if-have_even_rows.branch [
            | then-have_even_rows w ↦ w.value-is ∙ w.have_even_columns.ensures.1 here.even_columns
            | else-have_even_rows w ↦ absurd (false≢true (sym w.if-have_even_rows.false ∙ c.have_even_rows.ensures.1 here.even_rows))
          ],
    )
