use Rattle.std.proofs.Common.{◌≡◌, drop}
use Rattle.std.specs.Prelude.{fold}
use Rattle.std.specs.List.{flat_map}
use Rattle.text_fields.specs.Written.{with_word}
use Rattle.tree_text.specs.CanonicalTrees.{pair_words}
use Rattle.tree_text.proofs.write.write_pairs.Given as goal

-- the text so far and the remaining pairs make the whole text
abbrev pub invariant-loop-pair : goal.invariant-loop-pair
invariant-loop-pair l = fold with_word l.text (flat_map pair_words (drop l.pair-index l.pairs)) ≡ fold with_word l.fn.text (flat_map pair_words l.pairs)
