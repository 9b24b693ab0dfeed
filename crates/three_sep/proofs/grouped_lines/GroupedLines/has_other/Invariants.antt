use Rattle.std.proofs.Common.{◌<◌, ℕ}
use Rattle.three_sep.specs.GroupedLines.{IsNoOther}
use Rattle.three_sep.proofs.grouped_lines.GroupedLines.has_other.Given as goal

abbrev pub invariant-loop-column : goal.invariant-loop-column
invariant-loop-column l = (c : ℕ) → c < l.column → IsNoOther l.self l.own l.across c
