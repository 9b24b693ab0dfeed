use Rattle.three_sep.proofs.grouped_lines.GroupedLines.is_other.Goals as goal

pub returns-then-not-is_flat_other : goal.returns-then-not-is_flat_other
returns-then-not-is_flat_other c = λ e zero nonzero. absurd (c.is_flat_other.ensures.no c.if-not-is_flat_other.true (zero, nonzero))
