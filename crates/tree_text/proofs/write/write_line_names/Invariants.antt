use Rattle.std.proofs.Common.{◌≡◌, map, drop}
use Rattle.std.specs.Prelude.{fold}
use Rattle.text_fields.specs.Written.{with_word}
use Rattle.tree_text.specs.CanonicalTrees.{line_name}
use Rattle.tree_text.proofs.write.write_line_names.Given as goal

-- the text so far and the remaining lines make the whole text
abbrev pub invariant-loop-line : goal.invariant-loop-line
invariant-loop-line l = fold with_word l.text (map line_name (drop l.line-index l.lines)) ≡ fold with_word l.fn.text (map line_name l.lines)
