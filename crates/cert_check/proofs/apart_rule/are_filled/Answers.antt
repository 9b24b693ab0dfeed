use Rattle.std.proofs.Common.{rules, ◌<◌, sym, arith}
use Rattle.std.proofs.lemmas.Bool.{true≢false}
use Rattle.tree_type.specs.Invariant.{size_of}
use Rattle.cert_check.proofs.ApartRules.{lines_at}
use Rattle.cert_check.proofs.apart_rule.are_filled.Goals as goal

pub returns-then-is_empty : goal.returns-then-is_empty
returns-then-is_empty c = (
  (λ t. absurd (true≢false (sym t))),
  λ all.
      let some = lines_at (λ child. 0 < size_of child) c.args.children.now c.loop-child.child-index c.child-item.result c.child-item.result c.loop-child-test.true c.child-item.is all in
      let none = c.is_empty.ensures.0 (search rules) in
      absurd (omega (arith, some, none)),
)
