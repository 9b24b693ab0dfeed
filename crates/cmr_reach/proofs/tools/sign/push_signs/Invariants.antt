use Rattle.std.proofs.Common.{◌≡◌, ◌++◌, drop}
use Rattle.cmr_reach.specs.Sign.{sign_lines}
use Rattle.cmr_reach.proofs.tools.sign.push_signs.Given as goal

-- the written lines and the remaining ones are all lines
abbrev pub invariant-loop-place : goal.invariant-loop-place
invariant-loop-place l = l.text.items ++ sign_lines (drop l.place l.rows) (drop l.place l.signs) ≡ l.initial.text.items ++ sign_lines l.rows l.signs
