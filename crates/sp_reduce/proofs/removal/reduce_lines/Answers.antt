use Rattle.std.proofs.Common.{◌+◌, ◌∙◌, ap, ap₂, sym, subst, ℕ, Bool, List, length}
use Rattle.std.proofs.lemmas.Result.{IfOk-weaker}
use Rattle.cmr_base.specs.Matrix.{Matrix, entry}
use Rattle.cmr_base.specs.Reductions.{Removal, removal_on}
use Rattle.sp_reduce.specs.StayingSides.{AreNonzerosCounted, IsSettled}
use Rattle.sp_reduce.proofs.Pairs.{paired_new}
use Rattle.sp_reduce.proofs.removal.reduce_lines.Goals as goal

pub reduce_sides-requires-clause-paired : goal.reduce_sides-requires-clause-paired
reduce_sides-requires-clause-paired c =
    let binary = c.args.binary in
    let m = c.args.matrix.now in
    let rows = c.in_ok-rows in
    let columns = c.in_ok-columns in
    let R = c.as_slice-row_numbers.ensures.items in
    let C = c.as_slice-column_numbers.ensures.items in
    paired_new binary m rows.rows columns.columns c.args.lines.now.rows c.args.lines.now.columns rows.ensures.kind columns.ensures.kind (rows.ensures.stays ∙ R) (columns.ensures.stays ∙ C) rows.ensures.side columns.ensures.side
    (subst (λ (lines : List ℕ). AreNonzerosCounted m rows.rows lines) C rows.ensures.counted)
    (subst (λ (lines : List ℕ). AreNonzerosCounted m columns.columns lines) R columns.ensures.counted)
    (subst (λ (lines : List ℕ). IsSettled binary m rows.rows lines) C (rows.ensures.settled binary))
    (subst (λ (lines : List ℕ). IsSettled binary m columns.columns lines) R (columns.ensures.settled binary))

-- from the lines that are given
abbrev removal_of : Bool → Matrix → List ℕ → List ℕ → Removal
removal_of binary m R C = removal_on binary (entry m) (length R + length C) R C

pub returns-clause-steps : goal.returns-clause-steps
returns-clause-steps c =
    let same = ap₂ (removal_of c.args.binary c.args.matrix.now) (sym (c.in_ok-rows.ensures.stays ∙ c.as_slice-row_numbers.ensures.items)) (sym (c.in_ok-columns.ensures.stays ∙ c.as_slice-column_numbers.ensures.items)) in
    IfOk-weaker c.reduce_sides.result _ _ (λ reduction e. sym (ap (λ (x : Removal). x.steps) (same ∙ e))) c.reduce_sides.ensures

pub returns-clause-rows : goal.returns-clause-rows
returns-clause-rows c =
    let same = ap₂ (removal_of c.args.binary c.args.matrix.now) (sym (c.in_ok-rows.ensures.stays ∙ c.as_slice-row_numbers.ensures.items)) (sym (c.in_ok-columns.ensures.stays ∙ c.as_slice-column_numbers.ensures.items)) in
    IfOk-weaker c.reduce_sides.result _ _ (λ reduction e. sym (ap (λ (x : Removal). x.rows) (same ∙ e))) c.reduce_sides.ensures

pub returns-clause-columns : goal.returns-clause-columns
returns-clause-columns c =
    let same = ap₂ (removal_of c.args.binary c.args.matrix.now) (sym (c.in_ok-rows.ensures.stays ∙ c.as_slice-row_numbers.ensures.items)) (sym (c.in_ok-columns.ensures.stays ∙ c.as_slice-column_numbers.ensures.items)) in
    IfOk-weaker c.reduce_sides.result _ _ (λ reduction e. sym (ap (λ (x : Removal). x.columns) (same ∙ e))) c.reduce_sides.ensures
