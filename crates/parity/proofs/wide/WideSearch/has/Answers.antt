use Rattle.std.proofs.Common.{◌^◌}
use Rattle.cmr_base.specs.LineSets.{set_numbered}
use Rattle.parity.specs.Equations.{solved}
use Rattle.parity.proofs.wide.WideSearch.has.Goals as goal

pub returns-in-Some-clause-yes : goal.returns-in-Some-clause-yes
returns-in-Some-clause-yes c = λ e. (set_numbered c.args.self.now.matrix.now.width 0 (solved c.free_column.new.self.basis.equations (2 ^ c.in-Some._free)), rw c.in-Some.is at c.in_ok-_free.ensures.least)
