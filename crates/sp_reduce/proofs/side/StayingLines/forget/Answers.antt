use Rattle.std.proofs.Common.{◌∙◌, ap, arith}
use Rattle.sp_reduce.specs.declared.side.StayingLines.{StayingLines}
use Rattle.sp_reduce.proofs.Loops.{held_left, forgotten_more, others_left}
use Rattle.sp_reduce.proofs.side.StayingLines.forget.Goals as goal

pub forget_at-requires-clause-held : goal.forget_at-requires-clause-held
forget_at-requires-clause-held c =
    held_left c.args.matrix.now c.args.self.now c.places.self c.places.self c.args.removed c.places.place c.places.invariant.same c.places.invariant.rest
    (c.requires.held c.places.place (omega (arith, c.len-place-end.ensures, c.places-test.true)))

pub places-preserved : goal.places-preserved
places-preserved c =
    let m = c.args.matrix.now in
    let start = c.args.self.now in
    let now = c.places.self in
    let new = c.forget_at.new.self in
    let is = c.places.invariant in
    record {
      same = c.forget_at.ensures.same ∙ ap (λ (s : StayingLines). record s { counts = new.counts; sums = new.sums; minus_sums = new.minus_sums; settled = new.settled }) is.same;
      parallel = c.forget_at.ensures.parallel;
      done = forgotten_more m start now new c.args.removed c.places.place is.same is.rest is.done c.forget_at.ensures.here c.forget_at.ensures.others;
      rest = others_left m start now new c.args.removed c.places.place is.same is.rest c.forget_at.ensures.others;
    }
