use Rattle.std.proofs.Common.{◌≡◌, pos, get_or, subst}
use Rattle.cmr_base.specs.Matrix.{entry}
use Rattle.cmr_base.specs.Signing.{IsSign}
use Rattle.ghouila.proofs.Bytes.{zero_byte, nonzero_byte}
use Rattle.ghouila.proofs.PivotSearch.{IsScanned, scanned_nothing, scanned_zero, scanned_first, scanned_more, scanned_even}
use Rattle.ghouila.proofs.pivots.pivot_in.Goals as goal
use Rattle.ghouila.proofs.pivots.pivot_in.Goals.{then-entry-ne0+then-is_none, then-entry-ne0+else-is_none, else-entry-ne0}

pub loop-place-init : goal.loop-place-init
loop-place-init c = scanned_nothing c.args.work.now c.args.left.now c.args.column

pub loop-place-preserved : goal.loop-place-preserved
loop-place-preserved c =
    let m = c.args.work.now in
    let left = c.args.left.now in
    let k = c.loop-place.place in
    let value : c.entry.result ≡ entry m (get_or left k 0) c.args.column = c.entry.ensures.value in
    elim c.if-entry-ne0.branch [
      | then-entry-ne0+then-is_none w ↦ scanned_first m left c.args.column k c.loop-place-test.true c.loop-place.first c.if-entry-ne0.first c.loop-place.odd c.if-entry-ne0.odd
          w.if-is_none.ensures w.first-is w.odd-is (subst IsSign value (nonzero_byte c.entry.result c.entry.ensures.small w.if-entry-ne0.true)) c.loop-place.invariant
      | then-entry-ne0+else-is_none w ↦ scanned_more m left c.args.column k c.loop-place-test.true c.loop-place.first c.if-entry-ne0.first c.loop-place.odd c.if-entry-ne0.odd
          w.if-is_none.ensures w.first-is w.odd-is (subst IsSign value (nonzero_byte c.entry.result c.entry.ensures.small w.if-entry-ne0.true)) c.loop-place.invariant
      | else-entry-ne0 w ↦ scanned_zero m left c.args.column k c.loop-place-test.true c.loop-place.first c.if-entry-ne0.first c.loop-place.odd c.if-entry-ne0.odd
          w.first-is w.odd-is (subst (λ z. z ≡ pos 0) value (zero_byte c.entry.result c.entry.ensures.small w.if-entry-ne0.false)) c.loop-place.invariant
    ]

pub returns-else-odd-clause-some : goal.returns-else-odd-clause-some
returns-else-odd-clause-some c = (scanned_even c.args.work.now c.args.left.now c.args.column c.loop-place.place c.loop-place.first c.requires.column c.loop-place-test.false (subst (IsScanned c.args.work.now c.args.left.now c.args.column c.loop-place.place c.loop-place.first) c.if-odd.false c.loop-place.invariant)).0

pub returns-else-odd-clause-first : goal.returns-else-odd-clause-first
returns-else-odd-clause-first c = c.loop-place.invariant.earlier
