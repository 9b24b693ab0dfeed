use Rattle.part_numbers.proofs.FoundParts.{one_connected_part}
use Rattle.part_numbers.proofs.WholeParts.{whole_part}
use Rattle.part_numbers.proofs.laws.connected_parts.Goals as goal

pub returns-clause-one : goal.returns-clause-one
returns-clause-one c = one_connected_part

pub returns-clause-components : goal.returns-clause-components
returns-clause-components c = whole_part
