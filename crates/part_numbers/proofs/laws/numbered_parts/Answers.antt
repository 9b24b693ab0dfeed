use Rattle.part_numbers.proofs.NumberedParts.{numbered_lines_are_parts, numbered_parts_decide}
use Rattle.part_numbers.proofs.laws.numbered_parts.Goals as goal

pub returns-clause-parts : goal.returns-clause-parts
returns-clause-parts c = numbered_lines_are_parts

pub returns-clause-decide : goal.returns-clause-decide
returns-clause-decide c = numbered_parts_decide
