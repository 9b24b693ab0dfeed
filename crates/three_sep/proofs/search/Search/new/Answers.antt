use Rattle.cuts.proofs.GroupLemmas.{apart_together, names_of}
use Rattle.cuts.specs.LineCuts.{IsCut}
use Rattle.three_sep.proofs.search.Search.new.Goals as goal

pub invariant_of-result : goal.invariant_of-result
invariant_of-result c =
    let m = c.args.matrix.now in
    let er = c.rows-rows.ensures.rows in
    let ec = c.columns-columns.ensures.columns in
    record {
      sides_fit = c.in_ok-new.ensures;
      refused_fit = c.new-3.ensures;
      refused_later_fit = c.new-4.ensures;
      names = names_of m c.rows-rows.result c.columns-columns.result c.in_ok-new-2.field-0 er ec c.in_ok-new-2.ensures.names;
      together = apart_together m c.rows-rows.result c.columns-columns.result c.in_ok-new-2.field-0 er ec (IsCut m) c.in_ok-new-2.ensures.apart;
    }
