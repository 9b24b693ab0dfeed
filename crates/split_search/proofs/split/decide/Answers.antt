use Rattle.std.proofs.Common.{Bool, List, subst}
use Rattle.two_nonzeros.specs.Cancelling.{AreSplitBy}
use Rattle.split_search.proofs.Violations.{split_decides}
use Rattle.split_search.proofs.split.decide.Goals as goal

pub returns-in-None : goal.returns-in-None
returns-in-None c = split_decides c.args.rows.now c.in_ok-minus.minus.items c.rows-rows.ensures.shape
    (subst (λ (minus : List Bool). AreSplitBy minus c.args.rows.now) c.deref-2.ensures.value c.in-None.ensures.first)
