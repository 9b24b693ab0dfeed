use Rattle.std.proofs.lemmas.Result.{IfOk-weaker}
use Rattle.path_places.proofs.ReachedSteps.{next_from, next_meets}
use Rattle.path_places.proofs.side.Side.next_columns.Goals as goal

pub returns-clause-only : goal.returns-clause-only
returns-clause-only c = IfOk-weaker c.meeting_columns.result _ _ (λ more only x e. next_from c.args.self.now c.args.reached.now c.in_ok-rows.rows c.in_ok-rows.ensures.only x (only x e)) c.meeting_columns.ensures.only

pub returns-clause-all : goal.returns-clause-all
returns-clause-all c = IfOk-weaker c.meeting_columns.result _ _ (λ more all x next. all x (next_meets c.args.self.now c.args.reached.now c.in_ok-rows.rows c.in_ok-rows.ensures.all x next)) c.meeting_columns.ensures.all
