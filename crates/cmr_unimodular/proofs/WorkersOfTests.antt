-- The number of workers does not affect the reports of `regular` and `generate`.
use Rattle.std.proofs.Common.{ℕ, List}
use Rattle.cmr_base.specs.Matrix.{Matrix}
use Rattle.cmr_front.specs.Report.{Report}
use Rattle.cmr_front.proofs.OneReports.{matrix_either}
use Rattle.cmr_unimodular.specs.Generate.{GenerateDecides, GenerateOrder}
use Rattle.cmr_unimodular.specs.Regular.{RegularDecides, RegularOrder, regular_source, regular_tool}

abbrev with_workers : RegularOrder → ℕ → RegularOrder
with_workers o n = record { form = o.form; budget = o.budget; pivots = o.pivots; workers = n; tree = o.tree; fault = o.fault; signed = o.signed; chain = o.chain; file = o.file }

regular_same : (o : RegularOrder) (n workers : ℕ) (m : Matrix) (report : Report) → RegularDecides (with_workers o n) m report → RegularDecides (with_workers o workers) m report
regular_same o n workers m report d = record { steps = d.steps; signed = d.signed; signing = d.signing; tree = d.tree; decomposition = d.decomposition; right = d.right; report_is = d.report_is }

pub regular_workers : (o : RegularOrder) (n workers : ℕ) (bytes : List (List ℕ)) (report : Report) → (regular_tool (with_workers o n)).Reports bytes report
    → (regular_tool (with_workers o workers)).Reports bytes report
regular_workers o n workers = matrix_either (regular_source o) (RegularDecides (with_workers o n)) (RegularDecides (with_workers o workers)) (regular_same o n workers)

pub generate_workers : (o : GenerateOrder) (n workers : ℕ) (report : Report) → GenerateDecides (record { what = o.what; size = o.size; number = o.number; budget = o.budget; pivots = o.pivots; workers = n; output = o.output }) report
    → GenerateDecides (record { what = o.what; size = o.size; number = o.number; budget = o.budget; pivots = o.pivots; workers = workers; output = o.output }) report
generate_workers o n workers report d =
    record { made = d.made; is_made = record { generated = d.is_made.generated; is_matrix = d.is_made.is_matrix }; tested = d.tested; verdict = d.verdict; report_is = d.report_is }
