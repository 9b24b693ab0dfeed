use Rattle.std.proofs.Common.{◌≡◌, ◌<◌, ◌∙◌, ◌⊎◌, ℕ, List, true, false, inl, inr, subst, sym, arith}
use Rattle.cmr_base.specs.ColumnSets.{has_column}
use Rattle.cmr_base.proofs.Booleans.{not_both}
use Rattle.cmr_base.proofs.ColumnWords.{others_next}
use Rattle.cmr_base.proofs.bit_set.BitSet.others.Goals as goal
use Rattle.cmr_base.proofs.bit_set.BitSet.others.Goals.{then-not-has, else-not-has}

only_next : (set old new : List ℕ) (size y : ℕ) → ((x : ℕ) → has_column old x ≡ true → (x < size) × (has_column set x ≡ false)) → y < size → has_column set y ≡ false
    → ((x : ℕ) → has_column new x ≡ true → (x ≡ y) ⊎ (has_column old x ≡ true)) → (x : ℕ) → has_column new x ≡ true → (x < size) × (has_column set x ≡ false)
only_next set old new size y only inside out added x e = elim (added x e) [
  | inl is ↦ subst (λ (z : ℕ). (z < size) × (has_column set z ≡ false)) (sym is) (inside, out)
  | inr h ↦ only x h
]

pub insert-requires : goal.insert-requires
insert-requires c = rw c.loop-x.invariant.0 c.loop-x-test.true

pub loop-x-init : goal.loop-x-init
loop-x-init c = (c.in_ok-rest.ensures.size, (λ x e. absurd (not_both (has_column c.in_ok-rest.rest.words x) e (c.in_ok-rest.ensures.none x))), (λ x l. absurd (omega arith)))

pub loop-x-preserved : goal.loop-x-preserved
loop-x-preserved c =
    let set = c.args.self.now.words in
    let old = c.loop-x.rest.words in
    let x = c.loop-x.x in
    let so = c.loop-x.invariant in
    elim c.if-not-has.branch [
      | then-not-has w ↦
          let added = w.insert.ensures in
          let out = sym c.has.ensures ∙ w.if-not-has.true in
          rw w.rest-is (added.size ∙ so.0, only_next set old w.insert.new.self.words c.size-size.result x so.1 c.loop-x-test.true out added.only, others_next set old w.insert.new.self.words x so.2 added.kept (λ e. added.here))
      | else-not-has w ↦
          rw w.rest-is (so.0, so.1, others_next set old old x so.2 (λ y e. e) (λ e. absurd (not_both (has_column set x) (sym c.has.ensures ∙ w.if-not-has.false) e)))
    ]

pub returns-clause-only : goal.returns-clause-only
returns-clause-only c = λ x e. let so = c.loop-x.invariant.1 x e in (rw (← c.size-size.ensures.size) so.0, so.1)

pub returns-clause-all : goal.returns-clause-all
returns-clause-all c = λ x l e. c.loop-x.invariant.2 x (omega (arith, l, c.loop-x-test.false, c.size-size.ensures.size)) e
