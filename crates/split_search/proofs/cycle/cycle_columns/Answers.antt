use Rattle.std.proofs.Common.{◌≡◌, ◌∙◌, Bool, false, List, length, replicate, ℕ, ap, subst}
use Rattle.std.proofs.lemmas.List.{length-replicate}
use Rattle.split_search.specs.Paths.{TurnsPath}
use Rattle.split_search.proofs.Cycles.{cycle_closed}
use Rattle.split_search.proofs.cycle.cycle_columns.Goals as goal

pub returns : goal.returns
returns c =
    let columns = c.args.columns.now in
    let nodes = c.args.nodes.now in
    let first = c.turn_path-root.new.marks.items in
    let empty : c.in_ok-marks.marks.items ≡ replicate (length columns.runs) false = c.in_ok-marks.ensures ∙ ap (λ (n : ℕ). replicate n false) c.rows.ensures.rows in
    let one : TurnsPath columns nodes (replicate (length columns.runs) false) first c.args.first.line c.turn_path-root.result =
    subst (λ (marks : List Bool). TurnsPath columns nodes marks first c.args.first.line c.turn_path-root.result) empty c.turn_path-root.ensures.turns in
    rw c.turn.ensures (cycle_closed columns nodes first c.turn_path-same.new.marks.items c.args.column c.turn_path-root.result c.turn_path-same.result c.args.first c.args.second
    c.rows.ensures.shape c.requires.spans c.requires.ends c.requires.apart one c.turn_path-same.ensures.turns c.turn_path-root.ensures.root c.turn_path-same.ensures.root (length-replicate (length columns.runs) false))
