use Rattle.std.proofs.Common.{◌≡◌, ◌++◌, ◌-◌, ◌*◌, drop}
use Rattle.cmr_base.specs.Matrix.{is_nonzero}
use Rattle.cmr_base.specs.Planes.{is_minus, words_of}
use Rattle.cmr_base.proofs.planes.push_row.Given as goal

-- the words so far, with the words of the rest
abbrev pub invariant-loop-word : goal.invariant-loop-word
invariant-loop-word l = record {
  support_is : l.support.items ++ words_of (l.words - l.word) is_nonzero (drop (64 * l.word) l.row) ≡ l.initial.support.items ++ words_of l.words is_nonzero l.row;
  minus_is : l.minus.items ++ words_of (l.words - l.word) is_minus (drop (64 * l.word) l.row) ≡ l.initial.minus.items ++ words_of l.words is_minus l.row;
}
