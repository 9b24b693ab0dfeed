use Rattle.std.proofs.Common.{refl}
use Rattle.std.proofs.lemmas.Bool.{false≢true}
use Rattle.cmr_base.proofs.Booleans.{not_both}
use Rattle.path_places.proofs.SideLemmas.{in_nonzero, in_zero, nonzero_in, zero_in}
use Rattle.path_places.proofs.side.Side.is_fit.Goals as goal

pub returns-then-not-has_zero : goal.returns-then-not-has_zero
returns-then-not-has_zero c = λ lines is.
    (λ e. absurd (false≢true e), λ fit. absurd (not_both c.has_zero.result (c.has_zero.ensures.1 (in_zero lines c.args.self.now is fit.0)) c.if-not-has_zero.true))

pub returns-in-Some : goal.returns-in-Some
returns-in-Some c = λ lines is.
    let there = c.has_zero.ensures.0 c.if-not-has_zero.false in
    (λ e. (zero_in lines c.args.self.now is there.0 there.1 there.2, nonzero_in lines c.args.self.now is c.in-Some._place.row c.in-Some._place.column c.in-Some.ensures.here), λ fit. refl)

pub returns-in-None : goal.returns-in-None
returns-in-None c = λ lines is.
    (λ e. absurd (false≢true e), λ fit. let there = in_nonzero lines c.args.self.now is fit.1 in absurd (c.in-None.ensures there.0 there.1 there.2))
