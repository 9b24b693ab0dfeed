use Rattle.std.proofs.Common.{◌≡◌, ◌∙◌, inl, inr, sym, subst, arith}
use Rattle.std.proofs.lemmas.Bool.{cases_lt}
use Rattle.cmr_base.proofs.ListsWithout.{true_is_false}
use Rattle.r10_leaf.specs.Tables.{IsColumn}
use Rattle.r10_leaf.proofs.test.has_column.Goals as goal

pub loop-column-preserved : goal.loop-column-preserved
loop-column-preserved c j l h = elim (cases_lt j c.loop-column.column) [
  | inl lt ↦ c.loop-column.invariant j lt h
  | inr ge ↦ let e : j ≡ c.loop-column.column = omega arith in
      true_is_false (sym (c.is_column.ensures.1 (subst (λ x. IsColumn c.args.matrix.now c.args.table.now c.args.rows.now c.args.place x) e h)) ∙ c.if-is_column.false)
]
