use Rattle.compose.proofs.RoundTrips.{two_round_trips, three_round_trips}
use Rattle.compose.proofs.laws.round_trips.Goals as goal

pub returns-clause-two : goal.returns-clause-two
returns-clause-two c = two_round_trips

pub returns-clause-three : goal.returns-clause-three
returns-clause-three c = three_round_trips
