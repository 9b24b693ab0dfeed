use Rattle.std.proofs.Common.{◌+◌, arith}
use Rattle.sp_reduce.proofs.Weights.{weight_small}
use Rattle.sp_reduce.proofs.tallies.weight.Goals as goal

pub pow-requires : goal.pow-requires
pow-requires c = omega (arith, weight_small (c.from.result + 1) (omega (arith, c.from.ensures, c.requires)))

pub returns-clause-small : goal.returns-clause-small
returns-clause-small c = omega (arith, weight_small (c.from.result + 1) (omega (arith, c.from.ensures, c.requires)), c.pow.ensures)
