use Rattle.std.proofs.Common.{subst, sym}
use Rattle.std.specs.List.{All}
use Rattle.std.proofs.lemmas.List.Elements.{All-push}
use Rattle.three_sep.specs.TiedLines.{AreRefused}
use Rattle.three_sep.proofs.refused_corners.RefusedCorners.note.Goals as goal

pub invariant_of-self-then-self-lt-MOST : goal.invariant_of-self-then-self-lt-MOST
invariant_of-self-then-self-lt-MOST c =
    let matrix = c.args.self.now.matrix.now in
    record { refused = subst (All (AreRefused matrix)) (sym c.in_ok-push.ensures.items) (All-push (AreRefused matrix) c.args.self.now.noted.items c.args.corners.now c.args.self.now.refused c.requires) }
