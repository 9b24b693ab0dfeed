use Rattle.std.proofs.Common.{arith}
use Rattle.camion_sign.proofs.FreshColumns.{begins_in_step}
use Rattle.camion_sign.proofs.walk.Walk.begin.Goals as goal

pub returns-clause-in_step : goal.returns-clause-in_step
returns-clause-in_step c m t first =
    let self = c.args.self.now in
    begins_in_step m t first c.fill.new.self.items self.places.len c.args.column self.reached c.clear-3.new.self c.insert.new.self (c.fill.ensures.items (λ y e. e)) (omega (arith, c.requires.one_each, self.places.ok.0)) c.requires.column
    c.clear-3.ensures.size c.insert.ensures.size c.clear-3.ensures.none c.insert.ensures.only c.insert.ensures.here
