use Rattle.compose.proofs.SumSizes as sizes
use Rattle.compose.proofs.laws.sums_lose_lines.Goals as goal

pub returns : goal.returns
returns c = sizes.sums_lose_lines
