use Rattle.network_orient.proofs.SignedRows.{AreRowsMultiplied}
use Rattle.network_orient.proofs.line_signs.signs_between.Given as goal

abbrev pub invariant-loop-row : goal.invariant-loop-row
invariant-loop-row l = AreRowsMultiplied l.from l.to l.row l.rows.items l.groups.signs.items
