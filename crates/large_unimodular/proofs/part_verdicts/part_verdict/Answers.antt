use Rattle.std.proofs.Common.{◌∙◌, inl, inr, refl, sym, subst, arith}
use Rattle.std.proofs.lemmas.Result.{IfOk-weaker}
use Rattle.cmr_base.proofs.Booleans.{true_is_false}
use Rattle.sparse_matrix.specs.SparseRows.{AreSparseRows, matrix_of_runs}
use Rattle.core_parts.proofs.MarkedRuns.{height_of_runs}
use Rattle.interval_matrices.specs.Intervals.{IsIntervalMatrix}
use Rattle.large_unimodular.specs.PartVerdicts.{IsSmall}
use Rattle.large_unimodular.proofs.ThinParts.{thick, thin_by_columns, thin_by_rows}
use Rattle.large_unimodular.proofs.part_verdicts.part_verdict.Goals as goal
use Rattle.large_unimodular.proofs.part_verdicts.part_verdict.Goals.{then-rows-gt-MAX_ROWS-via-then-rows-gt-MAX_ROWS, then-rows-gt-MAX_ROWS-via-else-rows-gt-MAX_ROWS+then-columns-gt-MAX_COLUMNS}

pub returns-then-have_at_most_two : goal.returns-then-have_at_most_two
returns-then-have_at_most_two g c =
    let thin = thin_by_columns c.args.part.now c.in_ok-columns.columns c.rows-height.ensures.shape (subst AreSparseRows c.columns.view_is c.columns.invariant) c.in_ok-columns.ensures
    (c.have_at_most_two.ensures.0 c.if-have_at_most_two.true) in
    IfOk-weaker c.verdict_by_columns.result _ _ (λ verdict right. inl (record { thin = thin; right = right })) c.verdict_by_columns.ensures

pub returns-then-have_at_most_two-2 : goal.returns-then-have_at_most_two-2
returns-then-have_at_most_two-2 g c =
    let thin = thin_by_rows c.args.part.now c.in_ok-columns.columns c.rows-height.ensures.shape (subst AreSparseRows c.columns.view_is c.columns.invariant) c.in_ok-columns.ensures
    (c.have_at_most_two-2.ensures.0 c.if-have_at_most_two-2.true) in
    IfOk-weaker c.verdict_by_rows.result _ _ (λ verdict right. inl (record { thin = thin; right = right })) c.verdict_by_rows.ensures

pub returns-then-is_interval_matrix : goal.returns-then-is_interval_matrix
returns-then-is_interval_matrix g c =
    let matrix = c.args.part.now in
    inr (inl (record {
      thick = thick matrix c.in_ok-columns.columns c.rows-height.ensures.shape (subst AreSparseRows c.columns.view_is c.columns.invariant) c.in_ok-columns.ensures
          (λ few. true_is_false (sym (c.have_at_most_two.ensures.1 few) ∙ c.if-have_at_most_two.false))
          (λ few. true_is_false (sym (c.have_at_most_two-2.ensures.1 few) ∙ c.if-have_at_most_two-2.false));
      intervals = c.is_interval_matrix.ensures.0 c.if-is_interval_matrix.true;
      yes_is = refl;
    }))

pub returns-then-rows-gt-MAX_ROWS : goal.returns-then-rows-gt-MAX_ROWS
returns-then-rows-gt-MAX_ROWS g c =
    let matrix = c.args.part.now in
    let high = height_of_runs matrix in
    inr (inr (inr (record {
      thick = thick matrix c.in_ok-columns.columns c.rows-height.ensures.shape (subst AreSparseRows c.columns.view_is c.columns.invariant) c.in_ok-columns.ensures
          (λ few. true_is_false (sym (c.have_at_most_two.ensures.1 few) ∙ c.if-have_at_most_two.false))
          (λ few. true_is_false (sym (c.have_at_most_two-2.ensures.1 few) ∙ c.if-have_at_most_two-2.false));
      uneven = λ even. true_is_false (sym (c.is_interval_matrix.ensures.1 even) ∙ c.if-is_interval_matrix.false);
      large = λ small. elim c.then-rows-gt-MAX_ROWS.branch [
        | then-rows-gt-MAX_ROWS-via-then-rows-gt-MAX_ROWS w ↦ let more = w.if-rows-gt-MAX_ROWS.true in let size = c.rows.ensures.rows in let most = small.height_in
            in absurd (omega (arith, more, size, high, most))
        | then-rows-gt-MAX_ROWS-via-else-rows-gt-MAX_ROWS+then-columns-gt-MAX_COLUMNS w ↦
            let more = w.if-columns-gt-MAX_COLUMNS.true in let size = w.columns-else-rows-gt-MAX_ROWS.ensures.columns in let most = small.width_in in absurd (omega (arith, more, size, most))
      ];
      open_is = refl;
    })))

pub returns : goal.returns
returns g c =
    let matrix = c.args.part.now in
    let many = thick matrix c.in_ok-columns.columns c.rows-height.ensures.shape (subst AreSparseRows c.columns.view_is c.columns.invariant) c.in_ok-columns.ensures
    (λ few. true_is_false (sym (c.have_at_most_two.ensures.1 few) ∙ c.if-have_at_most_two.false))
    (λ few. true_is_false (sym (c.have_at_most_two-2.ensures.1 few) ∙ c.if-have_at_most_two-2.false)) in
    let uneven : ¬ (IsIntervalMatrix (matrix_of_runs matrix)) = λ even. true_is_false (sym (c.is_interval_matrix.ensures.1 even) ∙ c.if-is_interval_matrix.false) in
    let small : IsSmall (matrix_of_runs matrix) = record {
      height_in = let high = height_of_runs matrix in let size = c.rows.ensures.rows in let most = c.if-rows-gt-MAX_ROWS.false in omega (arith, high, size, most);
      width_in = let size = c.columns-else-rows-gt-MAX_ROWS.ensures.columns in let most = c.if-columns-gt-MAX_COLUMNS.false in omega (arith, size, most);
    } in
    IfOk-weaker c.verdict_by_tree.result _ _ (λ verdict decomposed. inr (inr (inl (record { thick = many; uneven = uneven; small = small; decomposed = decomposed })))) c.verdict_by_tree.ensures
