use Rattle.cmr_base.proofs.ColumnWords.{part_bits, is_part_word}
use Rattle.cmr_base.proofs.columns.is_part.Goals as goal

pub returns : goal.returns
returns c = (
  (λ e. part_bits c.args.word c.args.other c.ranges.other.fits e),
  (λ all. is_part_word c.args.word c.args.other c.ranges.word.fits c.ranges.other.fits all),
)
