use Rattle.std.proofs.Common.{subst}
use Rattle.three_sep.specs.TiedLines.{AreRefused, corners_exchanged}
use Rattle.three_sep.proofs.TiedLemmas.{refused_exchanged}
use Rattle.three_sep.proofs.refused_corners.RefusedCorners.has_exchanged.Goals as goal

pub returns : goal.returns
returns c = λ same.
    let matrix = c.args.self.now.matrix.now in
    refused_exchanged matrix (corners_exchanged c.args.corners.now) (subst (AreRefused matrix) c.exchanged-other.ensures (c.has_at.ensures same))
