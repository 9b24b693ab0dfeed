use Rattle.std.proofs.Common.{◌≡◌, ◌<◌, ◌+◌, ◌∙◌, ℕ, inl, inr, ap, sym, subst, arith}
use Rattle.std.proofs.lemmas.Bool.{cases_lt}
use Rattle.cmr_base.specs.Matrix.{Matrix, entry}
use Rattle.cmr_base.specs.Trees.{support}
use Rattle.cmr_base.proofs.Booleans.{nonzero_is}
use Rattle.camion_sign.specs.declared.fault.Fault.{Fault}
use Rattle.camion_sign.specs.FaultLines.{HasNoFaultAt, IsColumnFault}
use Rattle.camion_sign.proofs.FirstFaults.{zeros_first}
use Rattle.camion_sign.proofs.NearFaults.{knows_later}
use Rattle.camion_sign.proofs.fault.fault_of_row.Goals as goal

module _ (m : Matrix) (t column : ℕ) (before : (x y : ℕ) → x < column → HasNoFaultAt m t x y) where
  -- another column has no fault
  column_passed : ((y : ℕ) → HasNoFaultAt m t column y) → (x y : ℕ) → x < column + 1 → HasNoFaultAt m t x y
  column_passed here x y l = elim (cases_lt x column) [
    | inl low ↦ before x y low
    | inr high ↦ let is : x ≡ column = omega (arith, l, high) in subst (λ (z : ℕ). HasNoFaultAt m t z y) (sym is) (here y)
  ]

  -- the column has a fault
  column_found : (f : Fault) → (f.row ≡ t) × (f.first ≡ column) × IsColumnFault m t column f.last f.lines.items
      → (f.row ≡ t) × IsColumnFault m t f.first f.last f.lines.items × ((x y : ℕ) → x < f.first → HasNoFaultAt m t x y)
  column_found f (row, first, fault) = (
    row,
    subst (λ (z : ℕ). IsColumnFault m t z f.last f.lines.items) (sym first) fault,
    subst (λ (z : ℕ). (x y : ℕ) → x < z → HasNoFaultAt m t x y) (sym first) before,
  )

pub loop-column-init : goal.loop-column-init
loop-column-init c = record { fits = c.requires.fits; passed = λ x y l path fault. omega (arith, l); knows = c.begin.ensures; inside = omega arith }

pub fault_at-requires-clause-column : goal.fault_at-requires-clause-column
fault_at-requires-clause-column c = subst (λ (a : Matrix). c.in-Some.column < a.width) c.by_rows.ensures.matrix c.in-Some.ensures.first.1

pub fault_at-requires-clause-first : goal.fault_at-requires-clause-first
fault_at-requires-clause-first c =
    nonzero_is (entry c.args.matrix.now c.args.row c.in-Some.column) (sym (ap (λ (a : Matrix). support a c.args.row c.in-Some.column) c.by_rows.ensures.matrix) ∙ c.in-Some.ensures.first.2)

pub fault_at-requires-clause-fits : goal.fault_at-requires-clause-fits
fault_at-requires-clause-fits c = c.loop-column.invariant.fits

pub fault_at-requires-clause-knows : goal.fault_at-requires-clause-knows
fault_at-requires-clause-knows c = knows_later c.args.matrix.now c.args.row c.loop-column.from c.in-Some.column c.loop-column.near c.in-Some.ensures.first.0 c.loop-column.invariant.knows

pub returns-in-Some-2-clause-found : goal.returns-in-Some-2-clause-found
returns-in-Some-2-clause-found c =
    let m = c.args.matrix.now in
    let none = zeros_first m c.by_rows.result.now c.args.row c.loop-column.from c.in-Some.column c.by_rows.ensures.matrix c.loop-column.invariant.passed c.in-Some.ensures.first.3 in
    let found = rw c.in-Some-2.is at c.in_ok-fault.ensures.found in
    column_found m c.args.row c.in-Some.column none c.in-Some-2.fault found

pub returns-in-Some-2-clause-fits : goal.returns-in-Some-2-clause-fits
returns-in-Some-2-clause-fits c = c.in_ok-fault.ensures.fits

pub loop-column-preserved : goal.loop-column-preserved
loop-column-preserved c =
    let m = c.args.matrix.now in
    let none = zeros_first m c.by_rows.result.now c.args.row c.loop-column.from c.in-Some.column c.by_rows.ensures.matrix c.loop-column.invariant.passed c.in-Some.ensures.first.3 in
    let inside : c.in-Some.column < m.width = subst (λ (a : Matrix). c.in-Some.column < a.width) c.by_rows.ensures.matrix c.in-Some.ensures.first.1 in
    record {
      fits = c.in_ok-fault.ensures.fits;
      passed = column_passed m c.args.row c.in-Some.column none (rw c.in_default-2.is at c.in_ok-fault.ensures.found);
      knows = c.in_ok-fault.ensures.knows;
      inside = omega (arith, inside);
    }

pub returns-clause-found : goal.returns-clause-found
returns-clause-found c x y =
    let m = c.args.matrix.now in
    zeros_first m c.by_rows.result.now c.args.row c.loop-column.from (x + 1) c.by_rows.ensures.matrix c.loop-column.invariant.passed (λ z up below. c.in_default.ensures.first z up) x y (omega arith)

pub returns-clause-fits : goal.returns-clause-fits
returns-clause-fits c = c.loop-column.invariant.fits

pub returns-clause-room : goal.returns-clause-room
returns-clause-room c = c.loop-column.invariant.knows.room

pub returns-in-Some-2-clause-room : goal.returns-in-Some-2-clause-room
returns-in-Some-2-clause-room c = c.in_ok-fault.ensures.knows.room
