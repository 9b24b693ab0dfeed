use Rattle.std.specs.Int.Bits.{bit_and}
use Rattle.cmr_base.proofs.ColumnWords.{bits_shared, no_bits_shared, nonzero_is, is_nonzero_test}
use Rattle.cmr_base.proofs.columns.share_bit.Goals as goal

pub returns : goal.returns
returns c = (
  (λ e. bits_shared c.args.one c.args.two c.ranges.one.fits c.ranges.two.fits (nonzero_is (bit_and c.args.one c.args.two) e)),
  (λ (k, l, a, b). is_nonzero_test (bit_and c.args.one c.args.two) (λ e. no_bits_shared c.args.one c.args.two k e a b)),
)
