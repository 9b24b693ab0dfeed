use Rattle.std.proofs.Common.{refl}
use Rattle.line_growth.proofs.SetSteps.{row_added_as, column_added_as}
use Rattle.line_growth.proofs.growing_set.GrowingSet.add.Goals as goal

pub returns-in_ok-add-in-Row-clause-growing : goal.returns-in_ok-add-in-Row-clause-growing
returns-in_ok-add-in-Row-clause-growing c = λ m upper lower start g. row_added_as m upper lower c.args.self.now _ start c.args.line c.in-Row.row c.in-Row.is g c.in_ok-add-in-Row.ensures.added refl

pub returns-in_ok-add-in-Column-clause-growing : goal.returns-in_ok-add-in-Column-clause-growing
returns-in_ok-add-in-Column-clause-growing c = λ m upper lower start g. column_added_as m upper lower c.args.self.now _ start c.args.line c.in-Column.column c.in-Column.is g c.in_ok-add-in-Column.ensures.added refl
