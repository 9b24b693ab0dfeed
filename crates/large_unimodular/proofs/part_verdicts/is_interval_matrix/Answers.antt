use Rattle.std.proofs.Common.{◌∙◌, inl, inr, sym}
use Rattle.cmr_base.proofs.Booleans.{true_is_false}
use Rattle.large_unimodular.proofs.Across.{interval_columns, interval_rows_across}
use Rattle.large_unimodular.proofs.part_verdicts.is_interval_matrix.Goals as goal

pub returns-then-has_interval_rows : goal.returns-then-has_interval_rows
returns-then-has_interval_rows c =
    let intervals = c.has_interval_rows.ensures.0 c.if-has_interval_rows.true in
    (λ yes. inl (interval_columns c.args.rows.now c.args.columns.now c.rows-height.ensures.shape c.rows-width.ensures.shape c.requires.crossed intervals), λ even. c.if-has_interval_rows.true)

pub returns-else-has_interval_rows : goal.returns-else-has_interval_rows
returns-else-has_interval_rows c = (
  λ yes. inr (c.has_interval_rows-else-has_interval_rows.ensures.0 yes),
  λ even. elim even [
    | inl columns ↦
        let intervals = interval_rows_across c.args.rows.now c.args.columns.now c.rows-height.ensures.shape c.rows-width.ensures.shape c.requires.crossed columns in
        absurd (true_is_false (sym (c.has_interval_rows.ensures.1 intervals) ∙ c.if-has_interval_rows.false))
    | inr rows ↦ c.has_interval_rows-else-has_interval_rows.ensures.1 rows
  ],
)
