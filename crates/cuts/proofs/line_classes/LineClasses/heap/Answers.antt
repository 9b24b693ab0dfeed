use Rattle.std.proofs.Common.{◌≡◌, ◌∙◌, ℕ, true, inl, inr, subst, sym, get_or}
use Rattle.cmr_base.specs.ColumnSets.{has_column}
use Rattle.cmr_base.proofs.Booleans.{not_both}
use Rattle.cuts.specs.Classes.{is_in_heap}
use Rattle.cuts.proofs.line_classes.LineClasses.heap.Goals as goal
use Rattle.cuts.proofs.line_classes.LineClasses.heap.Goals.{then-has, else-has}

pub loop-row-init : goal.loop-row-init
loop-row-init c = let new = c.in_ok-set.ensures in (new.size ∙ c.size.ensures.size, λ x e. absurd (not_both (has_column c.in_ok-set.set.words x) e (new.none x)))

pub loop-row-preserved : goal.loop-row-preserved
loop-row-preserved c =
    let classes = c.args.self.now.numbers.now in
    let heaps = c.args.heaps.now in
    let inside = c.args.inside in
    let so = c.loop-row.invariant in
    elim c.if-has.branch [
      | then-has w ↦
          let added = w.insert.ensures in
          let here = sym c.has.ensures ∙ w.if-has.true in
          rw w.set-is (
            added.size ∙ so.0,
            λ x e. elim (added.only x e) [
              | inl is ↦ subst (λ (z : ℕ). is_in_heap heaps (get_or classes z 0) inside ≡ true) (sym is) here
              | inr old ↦ so.1 x old
            ],
          )
      | else-has w ↦ rw w.set-is so
    ]

pub returns-clause-heap : goal.returns-clause-heap
returns-clause-heap c = c.loop-row.invariant.1
