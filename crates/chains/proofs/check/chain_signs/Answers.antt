use Rattle.chains.proofs.ChainChecks.{signs_of_sound}
use Rattle.chains.proofs.check.chain_signs.Goals as goal

pub returns : goal.returns
returns c = signs_of_sound c.args.matrix.now c.args.chain.now c.as_slice.result.now c.in_ok-follow.field-0 c.requires.sound.0 c.in_ok-follow.ensures.shape c.as_slice.ensures c.in_ok-follow.ensures.followed c.requires.sound.1
