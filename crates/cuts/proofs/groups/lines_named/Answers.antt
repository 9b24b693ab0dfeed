use Rattle.std.proofs.Common.{◌≡◌, ◌+◌, ◌∙◌, ℕ, inl, inr, slice_index_or, subst, sym}
use Rattle.cmr_base.specs.ColumnSets.{has_column}
use Rattle.cmr_base.proofs.Booleans.{not_both}
use Rattle.cuts.proofs.groups.lines_named.Goals as goal
use Rattle.cuts.proofs.groups.lines_named.Goals.{then-names-from, else-names-from}

pub loop-line-init : goal.loop-line-init
loop-line-init c =
    let new = c.in_ok-lines.ensures in
    (new.size, λ x e. absurd (not_both (has_column c.in_ok-lines.lines.words x) e (new.none x)))

pub loop-line-preserved : goal.loop-line-preserved
loop-line-preserved c =
    let so = c.loop-line.invariant in
    elim c.if-names-from.branch [
      | then-names-from w ↦
          let added = w.insert.ensures in
          rw w.lines-is (
            added.size ∙ so.0,
            λ x e. elim (added.only x e) [
              | inl is ↦ subst (λ (z : ℕ). slice_index_or c.args.names.now (c.args.from + z) 0 ≡ c.args.name) (sym is) w.if-names-from.true
              | inr old ↦ so.1 x old
            ],
          )
      | else-names-from w ↦ rw w.lines-is so
    ]

pub returns-clause-named : goal.returns-clause-named
returns-clause-named c = c.loop-line.invariant.1
