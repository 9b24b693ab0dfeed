use Rattle.std.proofs.Common.{length}
use Rattle.frames.proofs.RequestLemmas.{WordsRead}
use Rattle.frames.proofs.request.read_words.Given as goal

abbrev pub invariant-words : goal.invariant-words
invariant-words l = WordsRead l.fn.text l.words l.left

abbrev pub decreases-words : goal.decreases-words
decreases-words l = length l.left
