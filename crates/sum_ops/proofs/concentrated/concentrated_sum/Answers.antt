use Rattle.std.proofs.Common.{◌<◌, ◌-◌, ◌∙◌, ℕ, subst, ap}
use Rattle.std.proofs.lemmas.Bool.{false≢true}
use Rattle.sum_ops.specs.declared.spread.Spread.{Spread}
use Rattle.sum_ops.proofs.CoreSums.{byte, concentrated_of, last_core_of_byte, sum_is, small_in_sum}
use Rattle.sum_ops.proofs.concentrated.concentrated_sum.Goals as goal

pub returns-then-not-has_small_entries-clause-cause : goal.returns-then-not-has_small_entries-clause-cause
returns-then-not-has_small_entries-clause-cause c =
    let first = c.args.first.now in
    let second = c.args.second.now in
    let core = c.in-Some.ensures in
    let block : Spread = record { determinant = byte c.in-Some.determinant; model = c.rows-rows.result - 2 } in (
      concentrated_of first second c.in-Some.determinant core.0 core.1,
      λ small. false≢true (c.if-not-has_small_entries.ensures.1 (λ row column l k m.
          small_in_sum first second block (last_core_of_byte first second c.in-Some.determinant core.0) core.1 (ap (λ (x : ℕ). x - 2) c.rows-rows.ensures.rows) small row column l k
          (subst (λ (x : ℕ). column < x - 1) c.columns-columns.ensures.columns m))),
    )

pub returns-clause-sum : goal.returns-clause-sum
returns-clause-sum c =
    let first = c.args.first.now in
    let second = c.args.second.now in
    let core = c.in-Some.ensures in
    let block : Spread = record { determinant = byte c.in-Some.determinant; model = c.rows-rows.result - 2 } in
    c.in_ok-sum.ensures.blocks ∙ sum_is first second block (last_core_of_byte first second c.in-Some.determinant core.0) core.1 (ap (λ (x : ℕ). x - 2) c.rows-rows.ensures.rows) (c.rows-rows.result - 2) (c.columns-columns.result - 1)
    (ap (λ (x : ℕ). x - 2) c.rows-rows.ensures.rows) (ap (λ (x : ℕ). x - 1) c.columns-columns.ensures.columns)
