use Rattle.std.proofs.Common.{subst}
use Rattle.split_search.specs.Decisions.{IsDecidedBy}
use Rattle.large_unimodular.proofs.Across.{violating_across}
use Rattle.large_unimodular.proofs.ThinParts.{fault_of_violating, none_across}
use Rattle.large_unimodular.proofs.part_verdicts.verdict_by_rows.Goals as goal

pub returns-in-Minus : goal.returns-in-Minus
returns-in-Minus c =
    let split = subst (IsDecidedBy c.args.columns.now) c.in-Minus.is c.in_ok-decide.ensures in
    none_across c.args.rows.now c.args.columns.now c.rows-height.ensures.shape c.rows-width.ensures.shape c.requires.crossed split.free

pub returns : goal.returns
returns c =
    let violating = subst (IsDecidedBy c.args.columns.now) c.in-Violator.is c.in_ok-decide.ensures in
    let lines = c.in-Violator.lines in
    fault_of_violating c.args.rows.now lines.columns lines.rows
    (violating_across c.args.rows.now c.args.columns.now c.rows-height.ensures.shape c.rows-width.ensures.shape c.requires.crossed lines.columns lines.rows violating)
