use Rattle.std.proofs.Common.{rules}
use Rattle.frames.proofs.RequestLemmas.{no_utf8, no_word, word_read}
use Rattle.frames.proofs.request.read_words.Goals as goal

pub words-preserved : goal.words-preserved
words-preserved c =
    word_read c.args.text.now c.words.left.now c.in-Some.next.text.now c.in-Some.next.rest.now c.words.words c.push.new.self c.words.invariant (search rules) (search rules) (search rules) (search rules)

pub returns-in_default-clause-none : goal.returns-in_default-clause-none
returns-in_default-clause-none c = λ none.
    no_word c.args.text.now c.words.left.now c.words.words c.words.invariant (search rules) c.in_default.ensures.none

pub returns-in_default-from_utf8-clause-none : goal.returns-in_default-from_utf8-clause-none
returns-in_default-from_utf8-clause-none c = λ none.
    no_utf8 c.args.text.now c.words.left.now c.in-Some.next.text.now c.in-Some.next.rest.now c.words.words c.words.invariant (search rules) c.in-Some.ensures.some (search rules)
