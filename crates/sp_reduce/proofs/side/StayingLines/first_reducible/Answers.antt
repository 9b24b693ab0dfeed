use Rattle.std.proofs.Common.{◌≡◌, ◌<◌, ◌∙◌, sym, ap, get_or, length, Some, None, arith}
use Rattle.cmr_base.specs.Matrix.{entry}
use Rattle.sp_reduce.specs.declared.side.StayingLines.{StayingLines}
use Rattle.sp_reduce.specs.LineKinds.{reason_for}
use Rattle.sp_reduce.proofs.SideLemmas.{side_marked, counted_marked, across_marked, first_step_here, first_step_more}
use Rattle.sp_reduce.proofs.side.StayingLines.first_reducible.Goals as goal

pub examine-requires-clause-side : goal.examine-requires-clause-side
examine-requires-clause-side c = side_marked c.args.matrix.now c.args.self.now c.places.self c.places.invariant.0 c.places.invariant.1 c.requires.side

pub examine-requires-clause-across : goal.examine-requires-clause-across
examine-requires-clause-across c = across_marked c.args.matrix.now c.args.self.now c.places.self c.args.across.now c.places.invariant.0 c.requires.across

pub examine-requires-clause-counted : goal.examine-requires-clause-counted
examine-requires-clause-counted c = counted_marked c.args.matrix.now c.args.self.now c.places.self c.args.across.now c.places.invariant.0 c.requires.counted

pub returns-in-Some-clause-found : goal.returns-in-Some-clause-found
returns-in-Some-clause-found c =
    let side = c.args.self.now in
    let across = c.args.across.now in
    let M = entry c.args.matrix.now in
    let inside : c.places.place < length side.stays.items = omega (arith, c.len-place-end.ensures, c.places-test.true, ap (λ (s : StayingLines). length s.stays.items) c.places.invariant.0) in
    let reason : reason_for c.args.binary M side.kind side.stays.items across (get_or side.stays.items c.places.place 0) ≡ Some c.in-Some.reason =
    sym (ap (λ (s : StayingLines). reason_for c.args.binary M s.kind s.stays.items across (get_or s.stays.items c.places.place 0)) c.places.invariant.0) ∙ sym c.examine.ensures.reason ∙ c.in-Some.is in
    record {
      in_range = inside;
      reason = reason;
      step = first_step_here c.args.binary M side.kind side.stays.items across side.stays.items c.places.place c.in-Some.reason inside c.places.invariant.3 reason;
    }

pub places-preserved : goal.places-preserved
places-preserved c =
    let side = c.args.self.now in
    let across = c.args.across.now in
    let M = entry c.args.matrix.now in
    let marks = c.examine.new.self.settled in
    let inside : c.places.place < length side.stays.items = omega (arith, c.len-place-end.ensures, c.places-test.true, ap (λ (s : StayingLines). length s.stays.items) c.places.invariant.0) in
    let none : reason_for c.args.binary M side.kind side.stays.items across (get_or side.stays.items c.places.place 0) ≡ None =
    sym (ap (λ (s : StayingLines). reason_for c.args.binary M s.kind s.stays.items across (get_or s.stays.items c.places.place 0)) c.places.invariant.0) ∙ sym c.examine.ensures.reason ∙ c.in_default.is in (
      c.examine.ensures.same ∙ ap (λ (s : StayingLines). record s { settled = marks }) c.places.invariant.0,
      c.examine.ensures.long ∙ ap (λ (s : StayingLines). length s.stays.items) c.places.invariant.0,
      c.examine.ensures.settled,
      first_step_more c.args.binary M side.kind side.stays.items across side.stays.items c.places.place inside c.places.invariant.3 none,
    )
