use Rattle.std.proofs.Common.{◌≡◌, drop}
use Rattle.tree_text.specs.KindWords.{kind_among}
use Rattle.tree_text.proofs.kind_word.kind_among.Given as goal

-- the remaining kinds decide
abbrev pub invariant-loop-kind : goal.invariant-loop-kind
invariant-loop-kind l = kind_among (drop l.kind-index l.kinds) l.word ≡ kind_among l.kinds l.word
