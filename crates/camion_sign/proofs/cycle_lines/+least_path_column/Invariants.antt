use Rattle.std.proofs.Common.{length}
use Rattle.camion_sign.proofs.cycle_lines.+least_path_column.Given as goal

abbrev pub decreases-least_path_column : goal.decreases-least_path_column
decreases-least_path_column l = length l.path.now
