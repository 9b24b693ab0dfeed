use Rattle.std.proofs.Common.{◌+◌, ◌∙◌, ℕ, sym, subst, arith}
use Rattle.cmr_base.specs.LineMasks.{as_set}
use Rattle.line_growth.specs.GrowingSets.{IsSizedFor}
use Rattle.line_growth.proofs.SetSteps.{still_sized}
use Rattle.two_sep.specs.declared.parts.FoundParts.{FoundParts}
use Rattle.two_sep.specs.FoundParts.{HasFound}
use Rattle.two_sep.proofs.PartSteps.{found_all, found_passed}
use Rattle.two_sep.proofs.parts.components_of.Goals as goal
use Rattle.two_sep.proofs.parts.components_of.Goals.{then-not-has+in_ok-add_part_of, else-not-has}

pub loop-place-init : goal.loop-place-init
loop-place-init c = record { size = c.in_ok-part.ensures.size; found = c.in_ok-found.ensures }

pub add_part_of-requires-clause-before : goal.add_part_of-requires-clause-before
add_part_of-requires-clause-before c =
    subst (λ (number : ℕ). HasFound c.args.matrix.now number c.loop-place.found) (sym c.line_at-line.ensures.number) c.loop-place.invariant.found

pub loop-place-preserved : goal.loop-place-preserved
loop-place-preserved c =
    let m = c.args.matrix.now in
    let so = c.loop-place.invariant in
    let line = c.line_at-line in
    elim c.if-not-has.branch [
      | then-not-has+in_ok-add_part_of w ↦ record {
        size = subst (IsSizedFor m) (sym w.part-is) (still_sized m c.loop-place.part w.add_part_of.new.part so.size w.add_part_of.ensures.size);
        found = subst (λ (found : FoundParts). HasFound m (c.loop-place.place + 1) found) (sym w.found-is)
            (subst (λ (number : ℕ). HasFound m (number + 1) w.add_part_of.new.self) line.ensures.number w.in_ok-add_part_of.ensures.found);
      }
      | else-not-has w ↦ record {
        size = subst (IsSizedFor m) (sym w.part-is) so.size;
        found = subst (λ (found : FoundParts). HasFound m (c.loop-place.place + 1) found) (sym w.found-is)
            (found_passed m c.loop-place.place c.loop-place.found so.found line.result line.ensures.line line.ensures.number (sym c.has.ensures ∙ w.if-not-has.false));
      }
    ]

pub returns : goal.returns
returns c =
    let found = c.loop-place.found in
    found_all c.args.matrix.now found.parts (as_set found.lines) c.loop-place.place c.loop-place.invariant.found.are
    (let a = c.loop-place-test.false in let b = c.rows.ensures.rows in let d = c.columns.ensures.columns in omega arith)
