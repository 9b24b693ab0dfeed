-- Two lists of the connected parts of a core in the order of their first rows are equal.
use Rattle.std.proofs.Common.{◌≡◌, ◌<◌, ◌+◌, ◌∙◌, ℕ, ℤ, List, length, map, get_or, ap, ap₂, sym, subst, arith}
use Rattle.std.proofs.lemmas.List.{ext_get_or, get_or-map, length-map}
use Rattle.std.specs.List.{Contains}
use Rattle.std.specs.List.Sorted.{IsStrictlyIncreasing}
use Rattle.cmr_base.specs.declared.line_set.LineSet.{LineSet}
use Rattle.cmr_base.specs.Matrix.{Matrix, entry}
use Rattle.cmr_base.specs.Members.{IsIn}
use Rattle.cmr_base.specs.Components.{ArePartsOf, no_lines, part_at}
use Rattle.cmr_base.proofs.ListsWithout.{contains_from_in, in_from_contains, increasing_distinct, same_place}
use Rattle.cmr_base.proofs.Places.{increasing_same}
use Rattle.part_numbers.specs.ConnectedParts.{IsConnectedPart, first_line}
use Rattle.part_numbers.proofs.FoundParts.{one_connected_part}
use Rattle.sparse_core.proofs.Removals.{one_core}
use Rattle.core_parts.specs.CoreParts.{AreCoreParts}

abbrev first_rows : List LineSet → List ℕ
first_rows parts = map (λ lines. first_line lines.rows) parts

first_row_at : (parts : List LineSet) (a : ℕ) → a < length parts → get_or (first_rows parts) a 0 ≡ first_line (part_at parts a).rows
first_row_at parts a l = get_or-map (λ lines. first_line lines.rows) parts a no_lines 0 l

abbrev AreOrdered : List LineSet → Type 0
AreOrdered parts = (a b : ℕ) → a < b → b < length parts → first_line (part_at parts a).rows < first_line (part_at parts b).rows

first_rows_increase : (parts : List LineSet) → AreOrdered parts → IsStrictlyIncreasing (first_rows parts)
first_rows_increase parts ordered k l =
    let long = length-map parts (λ lines. first_line lines.rows) in
    let next : k + 1 < length parts = omega (arith, l, long) in
    let less = ordered k (k + 1) (omega arith) next in
    let here = first_row_at parts k (omega (arith, next)) in
    let there = first_row_at parts (k + 1) next in
    omega (arith, less, here, there)

-- each part of the first list is in the second
abbrev AreAmong : List LineSet → List LineSet → Type 0
AreAmong parts others = (a : ℕ) → a < length parts → (b : ℕ) × (b < length others) × (part_at others b ≡ part_at parts a)

among_first_rows : (parts others : List LineSet) → AreAmong parts others → (row : ℕ) → IsIn row (first_rows parts) → IsIn row (first_rows others)
among_first_rows parts others among row h = go (contains_from_in (first_rows parts) row h)
  where
    go : Contains (first_rows parts) row → IsIn row (first_rows others)
    go (a, l, e) =
        let long : a < length parts = (let same = length-map parts (λ lines. first_line lines.rows) in omega (arith, l, same)) in
        let found = among a long in
        let same_row : get_or (first_rows others) found.0 row ≡ row =
        get_or-map (λ lines. first_line lines.rows) others found.0 no_lines row found.1 ∙ ap (λ (lines : LineSet). first_line lines.rows) found.2
        ∙ sym (get_or-map (λ lines. first_line lines.rows) parts a no_lines row long) ∙ e in
        in_from_contains (first_rows others) row (found.0, (let same = length-map others (λ lines. first_line lines.rows) in let inside = found.1 in omega (arith, inside, same)), same_row)

same_parts : (parts others : List LineSet) → AreOrdered parts → AreOrdered others → AreAmong parts others → AreAmong others parts → parts ≡ others
same_parts parts others ordered also among back = ext_get_or no_lines parts others same_length pointwise
  where
    same_rows : first_rows parts ≡ first_rows others
    same_rows = increasing_same (first_rows parts) (first_rows others) (first_rows_increase parts ordered) (first_rows_increase others also) (among_first_rows parts others among)
        (among_first_rows others parts back)

    same_length : length parts ≡ length others
    same_length = sym (length-map parts (λ lines. first_line lines.rows)) ∙ ap length same_rows ∙ length-map others (λ lines. first_line lines.rows)

    pointwise : (a : ℕ) → a < length parts → part_at parts a ≡ part_at others a
    pointwise a l =
        let found = among a l in
        let inside : a < length (first_rows others) = (let same = length-map others (λ lines. first_line lines.rows) in let long = same_length in omega (arith, l, same, long)) in
        let there : found.0 < length (first_rows others) = (let same = length-map others (λ lines. first_line lines.rows) in let long = found.1 in omega (arith, long, same)) in
        let same_row : get_or (first_rows others) found.0 0 ≡ get_or (first_rows others) a 0 =
        first_row_at others found.0 found.1 ∙ ap (λ (lines : LineSet). first_line lines.rows) found.2 ∙ sym (first_row_at parts a l) ∙ ap (λ (rows : List ℕ). get_or rows a 0) same_rows in
        let same = same_place (first_rows others) found.0 a (increasing_distinct (first_rows others) (first_rows_increase others also)) there inside same_row in
        sym found.2 ∙ ap (part_at others) same

-- ---- the parts of one core

module _ (M : ℕ → ℕ → ℤ) (core_rows core_columns : List ℕ) where
  abbrev AreConnected : List LineSet → Type 0
  AreConnected parts = (a : ℕ) → a < length parts → IsConnectedPart M core_rows core_columns (part_at parts a).rows (part_at parts a).columns

  part_among : (parts others : List LineSet) → AreConnected parts → AreConnected others → ArePartsOf M core_rows core_columns others → AreAmong parts others
  part_among parts others connected also cover a l =
      let is = connected a l in
      let row = is.some.0 in
      let found = cover.rows_all row (is.rows_within row is.some.1) in
      let same = one_connected_part M core_rows core_columns (part_at others found.0).rows (part_at others found.0).columns (part_at parts a).rows (part_at parts a).columns row
      (also found.0 found.1) is found.2 is.some.1 in
      (found.0, found.1, ap₂ (λ (rows columns : List ℕ). let lines : LineSet = record { rows = rows; columns = columns } in lines) same.0 same.1)

  pub one_list : (parts others : List LineSet) → ArePartsOf M core_rows core_columns parts → ArePartsOf M core_rows core_columns others → AreConnected parts → AreConnected others
      → AreOrdered parts → AreOrdered others → parts ≡ others
  one_list parts others cover cover_too connected connected_too ordered ordered_too = same_parts parts others ordered ordered_too
      (part_among parts others connected connected_too cover_too) (part_among others parts connected_too connected cover)

pub one_list_of_parts : (m : Matrix) (parts others : List LineSet) → AreCoreParts m parts → AreCoreParts m others → parts ≡ others
one_list_of_parts m parts others one other = go other.core_rows other.core_columns same.0 same.1 other.cover other.connected
  where
    same : (one.core_rows ≡ other.core_rows) × (one.core_columns ≡ other.core_columns)
    same = one_core (entry m) one.core_rows one.core_columns other.core_rows other.core_columns one.core.rows_increase one.core.columns_increase other.core.rows_increase other.core.columns_increase
        one.core.greatest other.core.greatest

    go : (core_rows core_columns : List ℕ) → one.core_rows ≡ core_rows → one.core_columns ≡ core_columns → ArePartsOf (entry m) core_rows core_columns others
        → AreConnected (entry m) core_rows core_columns others → parts ≡ others
    go core_rows core_columns e f cover connected = one_list (entry m) core_rows core_columns parts others
        (subst (λ (rows : List ℕ). ArePartsOf (entry m) rows core_columns parts) e (subst (λ (columns : List ℕ). ArePartsOf (entry m) one.core_rows columns parts) f one.cover)) cover
        (subst (λ (rows : List ℕ). AreConnected (entry m) rows core_columns parts) e (subst (λ (columns : List ℕ). AreConnected (entry m) one.core_rows columns parts) f one.connected)) connected
        one.ordered other.ordered
