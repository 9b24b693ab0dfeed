use Rattle.std.proofs.Common.{◌∙◌, refl, rules, sym, ap}
use Rattle.camion_sign.proofs.FirstFaults.{met_step}
use Rattle.camion_sign.proofs.PlaceLinks.{shows_none, shows_place}
use Rattle.camion_sign.proofs.row_places.place_mark.Goals as goal

pub returns-then-not-has_reached : goal.returns-then-not-has_reached
returns-then-not-has_reached c =
    shows_none c.args.matrix.now c.args.signs.now c.args.start.row c.args.start.column c.args.last c.args.walk.now c.requires.walked c.requires.order c.requires.first c.requires.last _ (search rules) refl (c.has_reached.ensures.no c.if-not-has_reached.true)

pub returns-then-step : goal.returns-then-step
returns-then-step c =
    let met = c.has_reached.ensures.yes c.if-not-has_reached.false in
    let step = met_step c.args.matrix.now c.args.signs.now c.args.start.row c.args.start.column c.args.last c.args.walk.now c.index.result.now c.index-step.result.now c.requires.walked c.requires.width c.index.ensures met c.index-step.ensures in
    shows_place c.args.matrix.now c.args.signs.now c.args.start.row c.args.start.column c.args.last c.args.walk.now c.requires.walked c.requires.order c.requires.first c.requires.last _ (search rules) (λ e. cc) met (sym (ap (λ s. s.is_two) step ∙ c.if-step.true))

pub returns-else-step : goal.returns-else-step
returns-else-step c =
    let met = c.has_reached.ensures.yes c.if-not-has_reached.false in
    let step = met_step c.args.matrix.now c.args.signs.now c.args.start.row c.args.start.column c.args.last c.args.walk.now c.index.result.now c.index-step.result.now c.requires.walked c.requires.width c.index.ensures met c.index-step.ensures in
    shows_place c.args.matrix.now c.args.signs.now c.args.start.row c.args.start.column c.args.last c.args.walk.now c.requires.walked c.requires.order c.requires.first c.requires.last _ (search rules) (λ e. cc) met (sym (ap (λ s. s.is_two) step ∙ c.if-step.false))
