use Rattle.std.proofs.Common.{◌≡◌, ◌≢◌, ◌<◌, ◌+◌, ◌-◌, ◌*◌, ◌∙◌, ◌++◌, ◌∷◌, [], ℕ, List, Bool, eqb, pos, length, subst, arith, ap, sym, w64}
use Rattle.std.specs.Int.{trailing_zeros}
use Rattle.cmr_base.specs.Matrix.{entry}
use Rattle.cmr_base.specs.Planes.{has_bit}
use Rattle.cmr_base.proofs.Lists.{length-more}
use Rattle.cmr_base.proofs.WordBits.{has_bit-zero}
use Rattle.camion_sign.specs.declared.walk.ReachedColumn.{ReachedColumn}
use Rattle.camion_sign.specs.Walks.{IsReachingChunk, progress, step_at}
use Rattle.camion_sign.proofs.FreshColumns.{lowest_bit}
use Rattle.camion_sign.proofs.SignWords.{minus_long, signs_two}
use Rattle.camion_sign.proofs.Walks.{few}
use Rattle.camion_sign.proofs.Steps.{next_bit, pass_bits, reach_column, same_goes, step_is, within}
use Rattle.camion_sign.proofs.reach.reach_chunk.Goals as goal

pub bits-init : goal.bits-init
bits-init c = record { state = c.requires.reaching; fits = c.ranges.fresh.fits }

pub has_one_sign-is_same-requires-clause-one : goal.has_one_sign-is_same-requires-clause-one
has_one_sign-is_same-requires-clause-one c =
    let is = step_is c.args.walk.now.steps.items c.args.head c.index-from.result.now c.requires.open.within c.index-from.ensures in
    let wide = subst (λ (step : ReachedColumn). step.column < c.args.matrix.now.width) is (c.requires.reaching.state.prefix.queue.inside c.args.head c.requires.open.within) in
    omega (arith, wide, c.requires.values.same_width, minus_long c.args.values.now c.args.row c.minus_words-minus.result.now c.minus_words-minus.ensures)

pub has_one_sign-is_same-requires-clause-other : goal.has_one_sign-is_same-requires-clause-other
has_one_sign-is_same-requires-clause-other c =
    let lowest = lowest_bit c.bits.rest (omega (arith, c.bits-test.true)) c.bits.invariant.fits in
    let here = c.bits.invariant.state.open_bit (trailing_zeros w64 c.bits.rest) lowest.0 lowest.1 in
    let low = within c.args.matrix.now c.args.row (64 * c.args.chunk + trailing_zeros w64 c.bits.rest) c.requires.reaching.state.fits.matrix (omega (arith, c.requires.early, c.requires.row)) here.1 in
    omega (arith, low, c.requires.values.same_width, minus_long c.args.values.now c.args.row c.minus_words-minus.result.now c.minus_words-minus.ensures)

pub reach-requires-clause-column : goal.reach-requires-clause-column
reach-requires-clause-column c =
    let lowest = lowest_bit c.bits.rest (omega (arith, c.bits-test.true)) c.bits.invariant.fits in
    let here = c.bits.invariant.state.open_bit (trailing_zeros w64 c.bits.rest) lowest.0 lowest.1 in
    let low = within c.args.matrix.now c.args.row (64 * c.args.chunk + trailing_zeros w64 c.bits.rest) c.requires.reaching.state.fits.matrix (omega (arith, c.requires.early, c.requires.row)) here.1 in
    omega (arith, c.bits.invariant.state.state.fits.columns, low)

pub reach-requires-clause-few : goal.reach-requires-clause-few
reach-requires-clause-few c =
    let w = c.bits.invariant.state.state in
    let m = c.args.matrix.now in
    omega (arith, w.fits.matrix.width_in, few (entry m) (entry c.args.values.now) c.args.start.row c.args.start.column m.width (progress c.bits.walk.steps.items c.bits.walk.places.items c.bits.walk.used.words) w.key w.prefix.queue)

pub with_bit-rest-requires : goal.with_bit-rest-requires
with_bit-rest-requires c = (lowest_bit c.bits.rest (omega (arith, c.bits-test.true)) c.bits.invariant.fits).0

pub bits-preserved : goal.bits-preserved
bits-preserved c =
    let m = c.args.matrix.now in
    let values = c.args.values.now in
    let t = c.args.start.row in
    let first = c.args.start.column in
    let h = c.args.head in
    let r = c.args.row in
    let chunk = c.args.chunk in
    let old = c.args.walk.now in
    let walk = c.bits.walk in
    let from = c.index-from.result.now in
    let bit = trailing_zeros w64 c.bits.rest in
    let x = 64 * chunk + bit in
    let is = step_is old.steps.items h from c.requires.open.within c.index-from.ensures in
    let state = subst (λ (v : ReachedColumn). IsReachingChunk m values t first h r chunk c.bits.rest v old walk) is c.bits.invariant.state in
    let lowest = lowest_bit c.bits.rest (omega (arith, c.bits-test.true)) c.bits.invariant.fits in
    let here = state.open_bit bit lowest.0 lowest.1 in
    let low = within m r x c.requires.reaching.state.fits.matrix (omega (arith, c.requires.early, c.requires.row)) here.1 in
    let passed = pass_bits m values t first h r chunk c.bits.rest from old walk state bit (omega (arith, lowest.0)) here.0 lowest.2 in
    let leads = subst (λ (v : ReachedColumn). entry m r v.column ≢ pos 0) is c.requires.leads in
    let wide = subst (λ (v : ReachedColumn). v.column < m.width) is (c.requires.reaching.state.prefix.queue.inside h c.requires.open.within) in
    let reached = reach_column m values t first h r x from old walk passed c.reach.new.self c.has_one_sign-is_same.result low here.1 here.2
    (same_goes m values t first h r x from old walk passed c.requires.open) c.requires.early leads
    (signs_two values r from.column x c.minus_words-minus.result.now c.has_one_sign-is_same.result c.minus_words-minus.ensures c.requires.values.small (omega (arith, wide, c.requires.values.same_width)) (omega (arith, low, c.requires.values.same_width))
    (c.requires.values.nonzero r from.column c.requires.early leads) (c.requires.values.nonzero r x c.requires.early here.1) c.has_one_sign-is_same.ensures.0 c.has_one_sign-is_same.ensures.1)
    (c.in_ok-reach.ensures.steps ∙ ap (λ (b : Bool). walk.steps.items ++ record { column = x; row = r; before = h; is_two = b } ∷ []) c.flipped.ensures)
    c.in_ok-reach.ensures.places c.in_ok-reach.ensures.used c.in_ok-reach.ensures.columns (c.in_ok-reach.ensures.in_step m t first state.state.in_step) in
    record {
      state = subst (λ (v : ReachedColumn). IsReachingChunk m values t first h r chunk c.with_bit-rest.result v old c.reach.new.self) (sym is)
          (next_bit m values t first h r chunk c.bits.rest from old walk state bit c.with_bit-rest.result (length walk.steps.items) c.reach.new.self lowest.0 reached c.in_ok-reach.ensures.places here.0 c.with_bit-rest.ensures.here lowest.2
          (λ k l other. ap (λ (n : ℕ). eqb n 1) (c.with_bit-rest.ensures.others k l other)));
      fits = c.with_bit-rest.type_inv;
    }

pub bits-smaller : goal.bits-smaller
bits-smaller c =
    let m = c.args.matrix.now in
    let w = (bits-preserved c).state.state in
    let most = few (entry m) (entry c.args.values.now) c.args.start.row c.args.start.column m.width (progress c.reach.new.self.steps.items c.reach.new.self.places.items c.reach.new.self.used.words) w.key w.prefix.queue in
    let long = ap (λ (steps : List ReachedColumn). length steps) c.in_ok-reach.ensures.steps ∙ length-more c.bits.walk.steps.items _ in
    let less : m.width - length c.reach.new.self.steps.items < m.width - length c.bits.walk.steps.items = omega (arith, most, long) in
    less

pub returns : goal.returns
returns c =
    let zero : c.bits.rest ≡ 0 = omega (arith, c.bits-test.false) in
    pass_bits c.args.matrix.now c.args.values.now c.args.start.row c.args.start.column c.args.head c.args.row c.args.chunk c.bits.rest (step_at c.args.walk.now.steps.items c.args.head) c.args.walk.now c.bits.walk c.bits.invariant.state 64 (omega arith) c.bits.invariant.state.inside
    (λ k l. ap (λ (word : ℕ). has_bit word k) zero ∙ has_bit-zero k)
