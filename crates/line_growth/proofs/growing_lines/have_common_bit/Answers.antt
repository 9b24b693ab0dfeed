use Rattle.std.specs.Int.Bits.{bit_and}
use Rattle.cmr_base.proofs.ColumnWords.{bits_shared, is_nonzero_test, no_bits_shared, nonzero_is}
use Rattle.line_growth.proofs.growing_lines.have_common_bit.Goals as goal

pub returns : goal.returns
returns c = (
  (λ e. bits_shared c.args.word c.args.other c.ranges.word.fits c.ranges.other.fits (nonzero_is (bit_and c.args.word c.args.other) e)),
  (λ (k, l, a, b). is_nonzero_test (bit_and c.args.word c.args.other) (λ e. no_bits_shared c.args.word c.args.other k e a b)),
)
