use Rattle.std.proofs.Common.{◌/◌, arith}
use Rattle.cmr_base.proofs.RunWords.{from_one, from_two}
use Rattle.cmr_base.proofs.runs.bits_from.Goals as goal

pub returns-then-shift-count-le64 : goal.returns-then-shift-count-le64
returns-then-shift-count-le64 c = λ k l. let short = c.if-shift-count-le64.true in from_one c.args.words.now c.args.column k (omega arith)

pub returns : goal.returns
returns c = λ k l. let few = c.requires.some.1 in from_two c.args.words.now c.args.column k (c.type_inv.words (c.args.column / 64)).fits (omega arith)
