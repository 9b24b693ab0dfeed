use Rattle.std.proofs.Common.{◌<◌, w64, arith}
use Rattle.std.proofs.lemmas.Nat.Bits.{bit_at-trailing_zeros}
use Rattle.parity.proofs.narrow.lowest.Goals as goal

pub returns-else-columns-eq0-clause-some : goal.returns-else-columns-eq0-clause-some
returns-else-columns-eq0-clause-some c =
    let columns = c.args.columns in
    let some : 0 < columns = let none = c.if-columns-eq0.false in omega (arith, none) in
    let first = bit_at-trailing_zeros w64 columns some c.ranges.columns.fits in
    record { there = first.1; none_below = first.2 }
