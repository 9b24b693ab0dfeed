use Rattle.sign_tool.proofs.OneAnswer.{answers_are_one}
use Rattle.sign_tool.proofs.laws.answers_are_one.Goals as goal

pub returns : goal.returns
returns c = answers_are_one
