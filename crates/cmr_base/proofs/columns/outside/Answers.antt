use Rattle.std.proofs.Common.{◌&&◌, ◌∙◌, ap, w64}
use Rattle.std.specs.Int.{bit_not}
use Rattle.cmr_base.specs.Planes.{has_bit}
use Rattle.cmr_base.proofs.WordBits.{has_bit-and, has_bit-not}
use Rattle.cmr_base.proofs.columns.outside.Goals as goal

pub returns : goal.returns
returns c = λ k small. has_bit-and c.args.word (bit_not w64 c.args.other) k ∙ ap (λ t. has_bit c.args.word k && t) (has_bit-not c.args.other k c.ranges.other.fits small)
