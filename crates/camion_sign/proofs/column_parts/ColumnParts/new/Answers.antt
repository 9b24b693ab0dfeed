use Rattle.std.proofs.Common.{◌∙◌, length, ap}
use Rattle.std.proofs.lemmas.List.FromFn.{length-range_with_len}
use Rattle.camion_sign.proofs.column_parts.ColumnParts.new.Goals as goal

pub returns : goal.returns
returns c = ap length c.in_ok-own_labels.ensures ∙ length-range_with_len 0 c.args.columns
