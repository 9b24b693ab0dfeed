use Rattle.cmr_base.proofs.MaskLemmas.{other_lines}
use Rattle.cmr_base.proofs.line_mask.LineMask.others.Goals as goal

pub returns-clause-lines : goal.returns-clause-lines
returns-clause-lines c =
    let rows = c.in_ok-others in
    let columns = c.in_ok-others-2 in
    other_lines c.args.self.now (record { rows = rows.field-0; columns = columns.field-0 }) (rows.ensures.only, rows.ensures.all) (columns.ensures.only, columns.ensures.all)
