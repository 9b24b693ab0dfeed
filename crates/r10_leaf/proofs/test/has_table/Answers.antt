use Rattle.std.proofs.Common.{◌≡◌, ◌∙◌, inl, inr, refl, sym, subst, arith}
use Rattle.std.proofs.lemmas.Bool.{cases_lt}
use Rattle.cmr_base.proofs.ListsWithout.{true_is_false}
use Rattle.r10_leaf.specs.Tables.{HasTableColumns, rows_numbered}
use Rattle.r10_leaf.proofs.TableOrders.{has_table, number_found, digits_below}
use Rattle.r10_leaf.proofs.test.has_table.Goals as goal

pub returns-then-fits : goal.returns-then-fits
returns-then-fits c = (
  (λ t. has_table c.args.matrix.now c.args.table.now c.requires.table (rows_numbered c.loop-number.number) refl (digits_below c.loop-number.number)
      (subst (λ rows. HasTableColumns c.args.matrix.now c.args.table.now rows) c.rows_numbered.ensures (c.fits.ensures.0 c.if-fits.true))),
  (λ h. refl),
)

pub loop-number-preserved : goal.loop-number-preserved
loop-number-preserved c n l h = elim (cases_lt n c.loop-number.number) [
  | inl lt ↦ c.loop-number.invariant n lt h
  | inr ge ↦ let e : n ≡ c.loop-number.number = omega arith in
      true_is_false (sym (c.fits.ensures.1 (subst (λ rows. HasTableColumns c.args.matrix.now c.args.table.now rows) (sym c.rows_numbered.ensures) (subst (λ x. HasTableColumns c.args.matrix.now c.args.table.now (rows_numbered x)) e h))) ∙ c.if-fits.false)
]

pub returns : goal.returns
returns c = (
  (λ f. true_is_false (sym f)),
  (λ h. let found = number_found c.args.matrix.now c.args.table.now c.requires.table h in absurd (c.loop-number.invariant found.0 (let l = found.1 in let t = c.loop-number-test.false in omega arith) found.2)),
)
