use Rattle.std.proofs.Common.{◌≡◌, ◌≤◌, ◌+◌, ℕ, true, inl, inr, subst, sym, arith}
use Rattle.cmr_base.specs.ColumnSets.{has_column}
use Rattle.cuts.proofs.numbered_set.NumberedSet.add.Goals as goal
use Rattle.cuts.proofs.numbered_set.NumberedSet.add.Goals.{then-not-has, else-not-has}

pub loop-row-preserved : goal.loop-row-preserved
loop-row-preserved c =
    let so = c.loop-row.invariant in
    let next = c.in-Some.ensures in
    let high : c.in-Some.row + 1 ≤ 1000 = omega (arith, next.inside, c.requires.rows, c.rows-rows.ensures.shape.height_in) in
    elim c.if-not-has.branch [
      | then-not-has w ↦
          rw w.self-is (record {
            numbers = w.add_row.ensures.numbers;
            only = λ x e. elim (w.add_row.ensures.only x e) [
              | inl same ↦ inr (subst (λ (z : ℕ). has_column c.args.rows.now.words z ≡ true) (sym same) next.member)
              | inr old ↦ so.only x old
            ];
            high = high;
          })
      | else-not-has w ↦ rw w.self-is (record { numbers = so.numbers; only = so.only; high = high })
    ]
