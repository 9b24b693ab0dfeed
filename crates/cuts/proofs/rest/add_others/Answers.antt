use Rattle.std.proofs.Common.{◌∙◌, sym}
use Rattle.cmr_base.specs.ColumnSets.{has_column}
use Rattle.cmr_base.proofs.Booleans.{not_both}
use Rattle.cmr_base.proofs.ColumnWords.{others_next}
use Rattle.cuts.proofs.rest.add_others.Goals as goal
use Rattle.cuts.proofs.rest.add_others.Goals.{then-not-has, else-not-has}

pub loop-row-preserved : goal.loop-row-preserved
loop-row-preserved c =
    let own = c.args.own.now.words in
    let old = c.loop-row.set.words in
    let row = c.loop-row.row in
    let so = c.loop-row.invariant in
    elim c.if-not-has.branch [
      | then-not-has w ↦
          let added = w.insert.ensures in
          rw w.set-is (record {
            size = added.size ∙ so.size;
            kept = λ x e. added.kept x (so.kept x e);
            rest = others_next own old w.insert.new.self.words row so.rest added.kept (λ e. added.here);
          })
      | else-not-has w ↦
          rw w.set-is (record {
            size = so.size;
            kept = so.kept;
            rest = others_next own old old row so.rest (λ x e. e) (λ e. absurd (not_both (has_column own row) (sym c.has.ensures ∙ w.if-not-has.false) e));
          })
    ]
