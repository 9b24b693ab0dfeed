use Rattle.std.proofs.Common.{List, subst, sym}
use Rattle.cmr_base.specs.declared.line_set.LineSet.{LineSet}
use Rattle.cmr_base.specs.LineMasks.{as_set}
use Rattle.two_sep.specs.FoundParts.{ArePartsFound}
use Rattle.two_sep.proofs.PartSteps.{found_none}
use Rattle.two_sep.proofs.parts.FoundParts.new.Goals as goal

pub returns : goal.returns
returns c =
    let m = c.args.matrix.now in
    let lines = c.in_ok-new.field-0 in
    record {
      size = rw (← c.rows.ensures.rows, ← c.columns.ensures.columns) c.in_ok-new.ensures.size;
      are = subst (λ (parts : List LineSet). ArePartsFound m parts (as_set lines) 0) (sym c.new.ensures) (found_none m (as_set lines) c.in_ok-new.ensures.none);
    }
