use Rattle.cmr_base.specs.Planes.{IsXorBefore}
use Rattle.cmr_base.proofs.planes.xor_words.Given as goal

abbrev pub invariant-loop-place : goal.invariant-loop-place
invariant-loop-place l = IsXorBefore l.place l.fn.into l.from l.into
