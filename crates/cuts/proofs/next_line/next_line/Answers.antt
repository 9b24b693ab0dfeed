use Rattle.std.proofs.Common.{◌∙◌, ap, sym}
use Rattle.cmr_base.specs.Matrix.{Matrix}
use Rattle.cuts.proofs.ClassLemmas.{wide_size}
use Rattle.cuts.proofs.next_line.next_line.Goals as goal

pub invariant_of-columns : goal.invariant_of-columns
invariant_of-columns c =
    let m = c.args.matrix.now in
    let by_columns = c.by_columns.result.now in
    let same = c.by_columns.ensures.matrix in record {
      one_size = wide_size m by_columns c.args.one.now.columns.size same c.requires.one.columns;
      two_size = wide_size m by_columns c.args.two.now.columns.size same c.requires.two.columns;
      separated_size = wide_size m by_columns c.args.separated.now.columns.size same c.requires.separated.columns;
      crossing_size = c.requires.one.rows ∙ sym (ap (λ (z : Matrix). z.width) same);
    }
