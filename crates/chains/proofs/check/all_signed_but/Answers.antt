use Rattle.std.proofs.Common.{◌∙◌, refl, sym, ap, subst, List, ℕ, arith, length, take, get_or}
use Rattle.std.specs.List.{AllByRecursion}
use Rattle.std.proofs.lemmas.List.{take_all}
use Rattle.cmr_base.proofs.Booleans.{true_is_false}
use Rattle.chains.specs.ChainStates.{IsOpenBut}
use Rattle.chains.proofs.ChainChecks.{all_signed_from, row_signed_from, in_lines}
use Rattle.chains.proofs.check.all_signed_but.Goals as goal

pub returns-then-not-row_signed_but : goal.returns-then-not-row_signed_but
returns-then-not-row_signed_but c =
    let m = c.args.matrix.now in
    let rows = c.as_slice-rows.ensures.items in
    let i = get_or c.as_slice-rows.result.now c.loop-i.i-index 0 in
    let here = in_lines c.args.lines.now.rows c.loop-i.i-index i (let t = c.loop-i-test.true in let e = ap length rows in omega arith) (ap (λ (rs : List ℕ). get_or rs c.loop-i.i-index 0) (sym rows)) in (
      (λ f. true_is_false (sym f)),
      (λ h. absurd (true_is_false (sym (c.row_signed_but.ensures.1 (subst (λ (columns : List ℕ). AllByRecursion (λ j. ¬ (IsOpenBut m c.args.signs.now c.args.row c.args.column i j)) columns) (sym c.as_slice-columns.ensures.items)
          (row_signed_from m c.args.signs.now c.args.lines.now.rows c.args.lines.now.columns c.args.row c.args.column i here h))) ∙ c.if-not-row_signed_but.true))),
    )

pub returns : goal.returns
returns c = (
  (λ t. all_signed_from c.args.matrix.now c.args.signs.now c.args.lines.now.rows c.args.lines.now.columns c.args.row c.args.column
      (subst (λ (rows : List ℕ). AllByRecursion (λ i. AllByRecursion (λ j. ¬ (IsOpenBut c.args.matrix.now c.args.signs.now c.args.row c.args.column i j)) c.args.lines.now.columns) rows) (take_all c.loop-i.i-index c.as_slice-rows.result.now (let t = c.loop-i-test.false in let e = ap length c.as_slice-rows.ensures.items in omega arith) ∙ c.as_slice-rows.ensures.items)
      (subst (λ (columns : List ℕ). AllByRecursion (λ i. AllByRecursion (λ j. ¬ (IsOpenBut c.args.matrix.now c.args.signs.now c.args.row c.args.column i j)) columns) (take c.loop-i.i-index c.as_slice-rows.result.now)) c.as_slice-columns.ensures.items c.loop-i.invariant))),
  (λ h. refl),
)
