use Rattle.std.proofs.Common.{◌∙◌, sym}
use Rattle.cmr_base.specs.CyclePlaces.{cycle_rows}
use Rattle.camion_sign.proofs.LineLists.{line_above, line_gathered, all_gathered, fewer_left}
use Rattle.camion_sign.proofs.cycle_lines.rows_of_cycle.Goals as goal

pub push-requires : goal.push-requires
push-requires c = line_above (cycle_rows c.args.row c.args.path.now) c.args.height c.lines.next c.lines.rows c.lines.invariant c.in-Some.line (sym c.below.ensures ∙ c.in-Some.is)

pub lines-preserved : goal.lines-preserved
lines-preserved c = line_gathered (cycle_rows c.args.row c.args.path.now) c.args.height c.lines.next c.lines.rows c.lines.invariant c.in-Some.line c.least_row-next-in-Some.result c.push.new.self (sym c.below.ensures ∙ c.in-Some.is) c.in_ok-push.ensures.ok c.least_row-next-in-Some.ensures

pub lines-smaller : goal.lines-smaller
lines-smaller c = fewer_left (cycle_rows c.args.row c.args.path.now) c.args.height c.lines.next c.least_row-next-in-Some.result c.in-Some.line (sym c.below.ensures ∙ c.in-Some.is) c.least_row-next-in-Some.ensures

pub returns : goal.returns
returns c = all_gathered (cycle_rows c.args.row c.args.path.now) c.args.height c.lines.next c.lines.rows c.lines.invariant (sym c.below.ensures ∙ c.in_default.is)
