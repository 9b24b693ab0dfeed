use Rattle.std.proofs.Common.{pos, inl, refl, arith}
use Rattle.ghouila.proofs.SignsUnique.{column_in}
use Rattle.chains.specs.declared.step.SignStep.TheVariants.{Free}
use Rattle.camion_sign.proofs.ForcedSigns.{signs_before}
use Rattle.camion_sign.proofs.PlaceLinks.{known_still}
use Rattle.camion_sign.proofs.SigningStates.{earlier_same, state_more, fewer_more}
use Rattle.camion_sign.proofs.signing.sign_free.Goals as goal

pub set-requires-clause-column : goal.set-requires-clause-column
set-requires-clause-column c =
    omega (arith, column_in c.args.matrix.now c.args.row c.args.column c.requires.matrix.rectangular c.requires.first.here.one, c.requires.state.signs.same_width)

pub returns-clause-state : goal.returns-clause-state
returns-clause-state c =
    let state = c.requires.state in
    state_more c.args.matrix.now c.args.signing.now.signs c.requires.matrix c.args.row c.args.column (pos 1) (inl refl) state.signs state.turn c.requires.first.here
    state.steps (Free c.args.row c.args.column) c.free.new.self state.lead (state.turn, record { here = c.requires.first.here; least = c.requires.first.least; unforced = c.requires.none }, refl) refl (c.in_ok-free.ensures.kept state.steps state.kept)
    c.set.new.self c.set.ensures c.args.signing.now.signed _ state.signed c.in_ok-push.ensures.items refl

pub returns-clause-fewer : goal.returns-clause-fewer
returns-clause-fewer c =
    let state = c.requires.state in
    fewer_more c.args.matrix.now c.args.signing.now.signs c.requires.matrix c.args.row c.args.column (pos 1) (inl refl) state.signs state.turn c.requires.first.here c.set.new.self c.set.ensures

pub returns-clause-places : goal.returns-clause-places
returns-clause-places c places knows =
    let state = returns-clause-state c in
    known_still c.args.matrix.now c.args.signing.now.signs c.set.new.self c.args.row places knows (signs_before c.args.matrix.now c.set.new.self c.args.row state.signs state.turn)
    (earlier_same c.args.signing.now.signs c.set.new.self c.args.row c.args.column (pos 1) c.set.ensures)
