use Rattle.path_places.proofs.SideLemmas.{side_between}
use Rattle.path_places.proofs.side.Side.between.Goals as goal

pub returns-clause-side : goal.returns-clause-side
returns-clause-side c = λ lines are others.
    side_between lines c.args.own.now c.args.other.now _ are others c.in_ok-meeting_rows.ensures.only c.in_ok-meeting_rows.ensures.all c.in_ok-meeting_columns.ensures.only c.in_ok-meeting_columns.ensures.all
    c.in_ok-outside.ensures.members c.in_ok-outside-2.ensures.members
