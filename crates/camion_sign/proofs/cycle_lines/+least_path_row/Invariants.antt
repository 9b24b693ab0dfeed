use Rattle.std.proofs.Common.{length}
use Rattle.camion_sign.proofs.cycle_lines.+least_path_row.Given as goal

abbrev pub decreases-least_path_row : goal.decreases-least_path_row
decreases-least_path_row l = length l.path.now
