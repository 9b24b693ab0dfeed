use Rattle.std.proofs.Common.{◌≡◌, ◌-◌, ◌*◌, ◌/◌, ◌∙◌, ◌++◌, ℕ, ℤ, [], ◌∷◌, pos, ap, subst, arith}
use Rattle.cmr_base.specs.Matrix.{Matrix, height, entry, row_of}
use Rattle.cmr_base.proofs.SmallEntries.{entry_as_byte}
use Rattle.generate.specs.Generated.{circulant_sum}
use Rattle.generate.proofs.JoinedRows.{times}
use Rattle.generate.proofs.SumRows.{begun, grown_on, brought_after, brought_within, brought_by_one, negated_byte}
use Rattle.generate.proofs.sums.push_sum_row.Goals as goal

pub push_multiple-requires-clause-row : goal.push_multiple-requires-clause-row
push_multiple-requires-clause-row c =
    let e : height c.args.part.now ≡ 5 = ap (λ (m : Matrix). height m) c.requires.part in
    omega (arith, e, brought_within c.saturating_sub-before.result c.args.row c.saturating_sub-before.ensures)

pub entry-last-requires-clause-row : goal.entry-last-requires-clause-row
entry-last-requires-clause-row c =
    let e : height c.args.part.now ≡ 5 = ap (λ (m : Matrix). height m) c.requires.part in
    omega (arith, e, brought_within c.saturating_sub-before.result c.args.row c.saturating_sub-before.ensures)

pub entry-last-requires-clause-column : goal.entry-last-requires-clause-column
entry-last-requires-clause-column c =
    let e : c.args.part.now.width ≡ 5 = ap (λ (m : Matrix). m.width) c.requires.part in
    omega (arith, e)

pub loop-count-init : goal.loop-count-init
loop-count-init c =
    let d = c.saturating_sub-before.result in
    let own = c.args.row - 4 * (d / 4) in
    begun c.args.cells.now.items c.push_zeros.new.cells.items c.push_multiple.new.cells.items (d / 4) c.args.row _
    (brought_after d c.args.row c.saturating_sub-before.ensures) (brought_within d c.args.row c.saturating_sub-before.ensures)
    c.in_ok-push_zeros.ensures
    (c.in_ok-push_multiple.ensures ∙ ap (λ (m : Matrix). c.push_zeros.new.cells.items ++ times (pos 1) (row_of m own)) c.requires.part)
    (entry_as_byte c.entry-last.result c.entry-last.ensures.small ∙ c.entry-last.ensures.value ∙ ap (λ (m : Matrix). entry m own 4) c.requires.part)

pub loop-count-preserved : goal.loop-count-preserved
loop-count-preserved c =
    let d = c.saturating_sub-before.result in
    let within = brought_within d c.args.row c.saturating_sub-before.ensures in
    let from = c.loop-count.auto.count in
    let is_negated = negated_byte _ c.loop-count.invariant.small in
    grown_on c.args.cells.now.items c.loop-count.cells.items c.extend_from_slice.new.self.items c.loop-count.count c.args.row _ _
    (omega (arith, from)) (omega (arith, from, within)) c.loop-count.invariant
    (c.in_ok-extend_from_slice.ensures.items ∙ ap (λ (x : ℤ). c.loop-count.cells.items ++ x ∷ pos 0 ∷ pos 0 ∷ x ∷ []) is_negated)
    is_negated

pub returns : goal.returns
returns c =
    let d = c.saturating_sub-before.result in
    let few = c.loop-count.auto.count-end (brought_by_one d c.args.row c.args.size c.saturating_sub-before.ensures c.requires.row c.requires.positive) in
    let e : c.loop-count.count ≡ c.args.size = omega (arith, few, c.loop-count-test.false) in
    subst (λ (n : ℕ). c.loop-count.cells.items ≡ c.args.cells.now.items ++ row_of (circulant_sum n) c.args.row) e c.loop-count.invariant.row_is
