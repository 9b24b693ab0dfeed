use Rattle.std.proofs.Common.{◌+◌, ◌||◌, ◌∙◌, ap, refl, sym, subst, List}
use Rattle.cmr_base.specs.BitSets.{Bits}
use Rattle.cmr_base.specs.ColumnSets.{has_column}
use Rattle.cmr_base.specs.LineMasks.{as_set}
use Rattle.cmr_base.specs.Matrix.{height}
use Rattle.cmr_base.specs.Seeds.{line_number}
use Rattle.cmr_base.specs.declared.line_mask.LineMask.{LineMask}
use Rattle.cmr_base.specs.declared.line_set.LineSet.{LineSet}
use Rattle.line_growth.specs.GrowingSets.{set_of}
use Rattle.line_growth.proofs.SetSteps.{listed_columns, listed_rows, still_sized}
use Rattle.two_sep.specs.FoundParts.{ArePartsFound}
use Rattle.two_sep.proofs.PartSteps.{found_more, seen_joined}
use Rattle.two_sep.proofs.parts.FoundParts.add_part_of.Goals as goal

pub returns-clause-found : goal.returns-clause-found
returns-clause-found c =
    let m = c.args.matrix.now in
    let line = c.args.line in
    let before = c.requires.before in
    let old = c.args.self.now in
    let part = c.grow_part.new.part in
    let sized = still_sized m c.args.part.now part c.requires.size c.grow_part.ensures.size in
    let after : LineMask = record { rows = c.add_all.new.self; columns = c.add_all-2.new.self } in
    let joined = seen_joined old.lines after part
    (λ r. c.add_all.ensures.columns r ∙ ap (λ (set : Bits). has_column old.lines.rows.words r || has_column set.words r) c.rows.ensures)
    (λ k. c.add_all-2.ensures.columns k ∙ ap (λ (set : Bits). has_column old.lines.columns.words k || has_column set.words k) c.columns.ensures) in
    let more = found_more m old.parts (as_set old.lines) (line_number (height m) line) before.are line c.requires.line refl c.requires.other (set_of part) c.in_ok-grow_part.ensures.grown c.in_ok-line_set.field-0
    (listed_rows m part sized _ c.in_ok-line_set.ensures.rows) (listed_columns m part sized _ c.in_ok-line_set.ensures.columns) (as_set after) joined in
    record {
      size = record { rows = c.add_all.ensures.size ∙ before.size.rows; columns = c.add_all-2.ensures.size ∙ before.size.columns };
      are = subst (λ (parts : List LineSet). ArePartsFound m parts (as_set after) (line_number (height m) line + 1)) (sym c.in_ok-push.ensures.ok) more;
    }
