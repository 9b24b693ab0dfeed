-- Faults of the first rows, and of the matrix of these rows.
use Rattle.std.specs.Prelude.{IfOk}
use Rattle.std.proofs.Common.{Option, Some, None, MatchOption, Result, Ok, Err, ◌≡◌, ◌<◌, ◌≤◌, ◌∙◌, ℕ, pos, List, [], length, map, get_or, inl, inr, sym, ap, ap₂, arith}
use Rattle.std.proofs.lemmas.Bool.{cases_lt}
use Rattle.std.proofs.lemmas.List.{get_or-map, get_or_past, length-map}
use Rattle.std.proofs.lemmas.List.FromFn.{length-range_with_len}
use Rattle.cmr_base.specs.Matrix.{Matrix, height, entry, row_of, IsMatrix}
use Rattle.cmr_base.specs.LineSets.{AllBelow, first_lines, submatrix}
use Rattle.cmr_base.specs.CyclePlaces.{HasNoCycleFault}
use Rattle.cmr_base.proofs.FilledMatrices.{line_at}
use Rattle.cmr_base.proofs.Parts.{entry-submatrix}
use Rattle.ghouila.proofs.SignsUnique.{row_in}
use Rattle.camion_sign.specs.FaultLines.{IsFirstFault}
use Rattle.camion_sign.specs.declared.fault.Fault.{Fault}
use Rattle.network_orient.specs.FirstRows.{HasNoFaultBefore}
use Rattle.network_orient.proofs.FirstRows.{fault_on}

-- the first lines are below their number
pub first_below : (count bound : ℕ) (lines : List ℕ) → lines ≡ first_lines count → count ≤ bound → AllBelow bound lines
first_below count bound lines e few k l =
    let long = ap length e ∙ length-range_with_len 0 count in
    let at = ap (λ (xs : List ℕ). get_or xs k 0) e ∙ line_at count k (omega arith) in omega arith

module _ (m : Matrix) (is : IsMatrix m) (count : ℕ) (few : count ≤ height m) where
  abbrev prefix : Matrix
  prefix = submatrix m (first_lines count) (first_lines m.width)

  same_entry : (i j : ℕ) → i < count → entry m i j ≡ entry prefix i j
  same_entry i j low = elim (cases_lt j m.width) [
    | inl inside ↦ sym (entry-submatrix m (first_lines count) (first_lines m.width) i j (let e = length-range_with_len 0 count in omega arith) (let e = length-range_with_len 0 m.width in omega arith)
        ∙ ap₂ (entry m) (line_at count i low) (line_at m.width j inside))
    | inr past ↦ get_or_past (row_of m i) j (pos 0) (let e = is.rectangular i (omega arith) in omega arith) ∙ sym (outside j past)
  ]
    where
      outside : (j : ℕ) → m.width ≤ j → entry prefix i j ≡ pos 0
      outside j past = get_or_past (row_of prefix i) j (pos 0) (let e = wide in let f = length-range_with_len 0 m.width in omega arith)
        where
          wide : length (row_of prefix i) ≡ length (first_lines m.width)
          wide = ap length (get_or-map (λ (row : ℕ). map (entry m row) (first_lines m.width)) (first_lines count) i 0 [] (let e = length-range_with_len 0 count in omega arith)) ∙ length-map (first_lines m.width) (entry m (get_or (first_lines count) i 0))

  -- the rows without fault of the first rows have none in the matrix
  pub passed_in : (passed least : ℕ) → HasNoFaultBefore prefix passed → least ≤ passed → least ≤ count → HasNoFaultBefore m least
  passed_in passed least none le within t c d path early fault = none t c d path (omega arith) (fault_on (entry m) (entry prefix) count same_entry t c d path (omega arith) fault)

-- a search in all rows
pub first_of_all : {E : Type 0} (m : Matrix) (end : ℕ) (result : Result (Option Fault) E) → end ≡ height m
    → IfOk result (λ found. MatchOption found (HasNoFaultBefore m end) (λ f. IsFirstFault m f.row f.first f.last f.lines.items))
    → IfOk result (λ found. MatchOption found (HasNoCycleFault (entry m)) (λ f. IsFirstFault m f.row f.first f.last f.lines.items))
first_of_all m end (Err x) high h = h
first_of_all m end (Ok None) high h = λ t c d path fault. let low = row_in m t c fault.place.first in h t c d path (omega arith) fault
first_of_all m end (Ok (Some f)) high h = h
