use Rattle.std.proofs.Common.{subst}
use Rattle.network_orient.specs.Orientations.{IsOrientation}
use Rattle.network_orient.proofs.orienting.orient.Goals as goal

pub returns-in-Directed : goal.returns-in-Directed
returns-in-Directed c = subst (IsOrientation c.args.matrix.now) c.in-Directed.is c.in_ok-net.ensures

pub returns-in-WrongSigns : goal.returns-in-WrongSigns
returns-in-WrongSigns c = (subst (IsOrientation c.args.matrix.now) c.in-WrongSigns.is c.in_ok-net.ensures).0

pub returns : goal.returns
returns c = (subst (IsOrientation c.args.matrix.now) c.in-NoTree.is c.in_ok-net.ensures).0
