use Rattle.std.proofs.Common.{◌≡◌, take, false}
use Rattle.std.specs.List.{list_any}
use Rattle.cmr_base.specs.Separations.{is_same_line}
use Rattle.sum_ops.proofs.children.is_named.Given as goal

-- no line so far is the named line
abbrev pub invariant-loop-other : goal.invariant-loop-other
invariant-loop-other l = list_any (is_same_line l.line) (take l.other-index l.named) ≡ false
