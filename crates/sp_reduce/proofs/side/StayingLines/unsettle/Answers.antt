use Rattle.std.proofs.Common.{◌∙◌, ap, length}
use Rattle.sp_reduce.specs.declared.side.StayingLines.{StayingLines}
use Rattle.sp_reduce.proofs.SideLemmas.{side_marked, counted_marked, across_marked}
use Rattle.sp_reduce.proofs.Loops.{unsettled_more, marks_left}
use Rattle.sp_reduce.proofs.side.StayingLines.unsettle.Goals as goal

pub unsettle_at-requires-clause-side : goal.unsettle_at-requires-clause-side
unsettle_at-requires-clause-side c = side_marked c.args.matrix.now c.args.self.now c.places.self c.places.invariant.same c.places.invariant.long c.requires.side

pub unsettle_at-requires-clause-across : goal.unsettle_at-requires-clause-across
unsettle_at-requires-clause-across c = across_marked c.args.matrix.now c.args.self.now c.places.self c.args.across.now c.places.invariant.same c.requires.across

pub unsettle_at-requires-clause-counted : goal.unsettle_at-requires-clause-counted
unsettle_at-requires-clause-counted c = counted_marked c.args.matrix.now c.args.self.now c.places.self c.args.across.now c.places.invariant.same c.requires.counted

pub places-preserved : goal.places-preserved
places-preserved c =
    let m = c.args.matrix.now in
    let start = c.args.self.now in
    let now = c.places.self in
    let new = c.unsettle_at.new.self in
    let is = c.places.invariant in
    let more = c.unsettle_at.ensures in
    record {
      same = more.same ∙ ap (λ (s : StayingLines). record s { settled = new.settled }) is.same;
      long = more.long ∙ ap (λ (s : StayingLines). length s.stays.items) is.same;
      done = unsettled_more c.args.binary m start now new c.args.across.now c.args.changed c.places.place is.same is.rest is.done more.here more.others;
      rest = marks_left c.args.binary m start now new c.args.across.now c.args.changed c.places.place is.same is.rest more.others;
    }
