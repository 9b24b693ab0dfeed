use Rattle.std.proofs.lemmas.Result.{IfOk-weaker}
use Rattle.core_parts.proofs.CoreSets.{core_is, core_parts_are, divided_are}
use Rattle.core_parts.proofs.sets.parts_of_core.Goals as goal

pub returns : goal.returns
returns c =
    let matrix = c.args.matrix.now in
    let core = c.in_ok-core.core in
    let parts = c.in_ok-parts.parts in
    let cored = c.in_ok-core.ensures in
    let numbered = c.in_ok-parts.ensures in
    IfOk-weaker c.sets_of.result _ _ (λ divided found. divided_are matrix core parts numbered.parts divided cored.rows cored.columns found
    (core_parts_are matrix core parts numbered.parts (core_is matrix core parts cored.core cored.removal) numbered.connected numbered.ordered)) c.sets_of.ensures
