use Rattle.std.proofs.Common.{◌≡◌, ◌+ℤ◌, ℤ, Bool, true, false, not, get_or, set, pos, subst, arith}
use mathlib.Core.Bool.{beq}
use Rattle.std.proofs.lemmas.List.{set-set, get_or_read}
use Rattle.cmr_base.specs.Matrix.{entry}
use Rattle.cmr_base.specs.Sums.{sum_over}
use Rattle.cmr_base.proofs.Integers.{sums}
use Rattle.ghouila.specs.Found.{HasParity, marked}
use Rattle.ghouila.proofs.marked_lines.MarkedLines.undo_pivot.Goals as goal
use Rattle.cmr_base.specs.Cuts.{bit}

-- the parity with one more if the bit is set
parity-add_bit : (odd there : Bool) (z : ℤ) → HasParity odd z → HasParity (not (beq odd there)) (z +ℤ bit there)
parity-add_bit true true z (k, e) = (k, omega (arith, sums))
parity-add_bit true false z (k, e) = (k, omega (arith, sums))
parity-add_bit false true z (k, e) = (k +ℤ pos 1, omega (arith, sums))
parity-add_bit false false z (k, e) = (k, omega (arith, sums))

pub returns-clause-columns : goal.returns-clause-columns
returns-clause-columns c =
    let columns = c.args.self.now.columns.items in
    let j = c.args.column in
    let there : c.index-was_there.result.now ≡ get_or columns j false = get_or_read columns j c.index-was_there.result.now (omega arith) c.index-was_there.ensures false in
    let mark = not (beq c.is_odd_row.result c.index-was_there.result.now) in
    let odd : HasParity c.is_odd_row.result (sum_over (marked (set columns j false)) (entry c.args.work.now c.args.row)) =
    subst (λ marks. HasParity c.is_odd_row.result (sum_over (marked marks) (entry c.args.work.now c.args.row))) c.deref.ensures.value c.is_odd_row.ensures in
    record {
      mark = mark;
      new_is = set-set columns j false mark;
      parity = subst (λ b. HasParity mark (sum_over (marked (set columns j false)) (entry c.args.work.now c.args.row) +ℤ bit b)) there (parity-add_bit c.is_odd_row.result c.index-was_there.result.now _ odd);
    }
