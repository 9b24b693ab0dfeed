use Rattle.cuts.specs.LineCuts.{IsCut}
use Rattle.cuts.proofs.GroupLemmas.{apart_together, names_of}
use Rattle.cuts.proofs.MatrixMasks.{mask_of}
use Rattle.cuts.proofs.cut_groups.GroupFinder.new.Goals as goal

pub returns : goal.returns
returns c =
    let m = c.args.matrix.now in
    let er = c.rows-rows.ensures.rows in
    let ec = c.columns-columns.ensures.columns in
    record {
      groups = names_of m c.rows-rows.result c.columns-columns.result c.in_ok-new.field-0 er ec c.in_ok-new.ensures.names;
      taken = mask_of m c.rows-rows.result c.columns-columns.result c.in_ok-new-2.field-0 er ec c.in_ok-new-2.ensures.size;
      together = apart_together m c.rows-rows.result c.columns-columns.result c.in_ok-new.field-0 er ec (IsCut m) c.in_ok-new.ensures.apart;
    }
