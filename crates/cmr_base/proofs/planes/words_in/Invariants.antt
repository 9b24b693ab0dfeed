use Rattle.std.proofs.Common.{◌≡◌, take}
use Rattle.cmr_base.specs.Matrix.{is_nonzero}
use Rattle.cmr_base.specs.Planes.{bits_of, is_minus}
use Rattle.cmr_base.proofs.planes.words_in.Given as goal

-- the bits of the entries so far
abbrev pub invariant-loop-place : goal.invariant-loop-place
invariant-loop-place l = record {
  support_is : l.support ≡ bits_of is_nonzero (take l.place l.entries);
  minus_is : l.minus ≡ bits_of is_minus (take l.place l.entries);
}
