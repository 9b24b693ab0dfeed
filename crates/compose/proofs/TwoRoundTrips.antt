-- The two-sum of the two matrices of a two-separation.
use Rattle.std.proofs.Common.{◌≡◌, ◌<◌, ◌+◌, ◌-◌, ◌∙◌, ◌++◌, ◌*ℤ◌, ℕ, ℤ, pos, List, [], ◌∷◌, map, length, get_or, ap, ap₂, sym, refl, arith, zero-add, length-append}
use Rattle.cmr_base.specs.Matrix.{Matrix, height, entry}
use Rattle.cmr_base.specs.LineSets.{submatrix}
use Rattle.cmr_base.specs.Members.{IsIn}
use Rattle.cmr_base.specs.Separations.{zeros, product_at}
use Rattle.cmr_base.specs.MatrixSums.{four_blocks, HaveTwoSum, two_sum}
use Rattle.cmr_base.proofs.Members.{in_at}
use Rattle.compose.specs.declared.sides.Sides.{Sides}
use Rattle.compose.specs.declared.signed_line.SignedLine.{SignedLine}
use Rattle.compose.specs.Arrangements.{signed, plain, framed, signed_submatrix}
use Rattle.compose.proofs.OrderedBlocks.{blocks_ordered, filled_is}
use Rattle.compose.proofs.SignedPlaces.{at, at_plain, at_after, at_next, length-framed, height-signed, entry_of, factors_swapped, ones, one_left}

module _ (m : Matrix) (s : Sides) (i j : ℕ)
    (zero_right : (r c : ℕ) → IsIn r s.rows_one → IsIn c s.columns_two → entry m r c ≡ pos 0)
    (product_below : (r c : ℕ) → IsIn r s.rows_two → IsIn c s.columns_one → entry m r c ≡ product_at (entry m) i j r c) where
  abbrev R1 : List ℕ
  R1 = s.rows_one

  abbrev C1 : List ℕ
  C1 = s.columns_one

  abbrev R2 : List ℕ
  R2 = s.rows_two

  abbrev C2 : List ℕ
  C2 = s.columns_two

  abbrev M : ℕ → ℕ → ℤ
  M = entry m

  abbrev last_rows : List SignedLine
  last_rows = framed [] R2 []

  abbrev last_columns : List SignedLine
  last_columns = framed [] C2 (plain j ∷ [])

  abbrev begin_rows : List SignedLine
  begin_rows = framed (signed i (M i j) ∷ []) R1 []

  abbrev begin_columns : List SignedLine
  begin_columns = framed [] C1 []

  abbrev first : Matrix
  first = signed_submatrix m last_rows last_columns

  abbrev second : Matrix
  second = signed_submatrix m begin_rows begin_columns

  first_height : height first ≡ length R2
  first_height = let e = height-signed m last_rows last_columns in let f = length-framed [] R2 [] in omega arith

  first_width : first.width ≡ length C2 + 1
  first_width = let f = length-framed [] C2 (plain j ∷ []) in omega arith

  second_height : height second ≡ 1 + length R1
  second_height = let e = height-signed m begin_rows begin_columns in let f = length-framed (signed i (M i j) ∷ []) R1 [] in omega arith

  second_width : second.width ≡ length C1
  second_width = let f = length-framed [] C1 [] in omega arith

  have : HaveTwoSum first second
  have = record { column = let e = first_width in omega arith; row = let e = second_height in omega arith }

  begin_row : (a : ℕ) → a < length R1 → at begin_rows (1 + a) ≡ plain (get_or R1 a 0)
  begin_row a l = at_next (signed i (M i j)) (map plain R1 ++ []) (1 + a) a (omega arith) ∙ at_plain R1 [] a l

  begin_column : (b : ℕ) → b < length C1 → at begin_columns (0 + b) ≡ plain (get_or C1 b 0)
  begin_column b l = ap (at begin_columns) (zero-add b) ∙ at_plain C1 [] b l

  one : (a b : ℕ) → a < length R2 → b < length C2 → entry first a b ≡ M (get_or R2 a 0) (get_or C2 b 0)
  one a b la lb = entry_of m last_rows last_columns a b (get_or R2 a 0) (get_or C2 b 0) (pos 1) (pos 1) (at_plain R2 [] a la) (at_plain C2 (plain j ∷ []) b lb) ∙ ones (M (get_or R2 a 0) (get_or C2 b 0))

  column : (a : ℕ) → a < length R2 → entry first a (length C2) ≡ M (get_or R2 a 0) j
  column a la = entry_of m last_rows last_columns a (length C2) (get_or R2 a 0) j (pos 1) (pos 1) (at_plain R2 [] a la) (at_after C2 (plain j ∷ []) (length C2) 0 (omega arith)) ∙ ones (M (get_or R2 a 0) j)

  row : (b : ℕ) → b < length C1 → entry second 0 (0 + b) ≡ M i j *ℤ M i (get_or C1 b 0)
  row b lb = entry_of m begin_rows begin_columns 0 (0 + b) i (get_or C1 b 0) (M i j) (pos 1) refl (begin_column b lb) ∙ one_left (M i j) (M i (get_or C1 b 0))

  two : (a b : ℕ) → a < length R2 → b < length C1 → entry first a (length C2) *ℤ entry second 0 (0 + b) ≡ M (get_or R2 a 0) (get_or C1 b 0)
  two a b la lb =
      ap₂ (λ (x y : ℤ). x *ℤ y) (column a la) (row b lb)
      ∙ factors_swapped (M (get_or R2 a 0) j) (M i j) (M i (get_or C1 b 0))
      ∙ sym (product_below (get_or R2 a 0) (get_or C1 b 0) (in_at R2 a la) (in_at C1 b lb))

  four : (a b : ℕ) → a < length R1 → b < length C1 → entry second (1 + a) (0 + b) ≡ M (get_or R1 a 0) (get_or C1 b 0)
  four a b la lb = entry_of m begin_rows begin_columns (1 + a) (0 + b) (get_or R1 a 0) (get_or C1 b 0) (pos 1) (pos 1) (begin_row a la) (begin_column b lb) ∙ ones (M (get_or R1 a 0) (get_or C1 b 0))

  abbrev blocks : ℕ → ℕ → ℕ → ℕ → ℤ
  blocks x y = four_blocks x y 1 0 (entry first) (λ r c. entry first r y *ℤ entry second 0 c) zeros (entry second)

  whole : two_sum first second ≡ submatrix m (R2 ++ R1) (C2 ++ C1)
  whole = filled_is m (R2 ++ R1) (C2 ++ C1) (height first + (height second - 1)) ((first.width - 1) + second.width) (blocks (height first) (first.width - 1))
      (let a = length-append R2 R1 in let e = first_height in let f = second_height in omega arith)
      (let a = length-append C2 C1 in let e = first_width in let f = second_width in omega arith)
      (λ a b la lb. ap₂ (λ (x y : ℕ). blocks x y a b) first_height (let e = first_width in omega arith)
      ∙ blocks_ordered M R2 C2 R1 C1 1 0 (entry first) (λ r c. entry first r (length C2) *ℤ entry second 0 c) zeros (entry second) one two
      (λ a b la lb. sym (zero_right (get_or R1 a 0) (get_or C2 b 0) (in_at R1 a la) (in_at C2 b lb))) four a b
      (let e = length-append R2 R1 in omega arith) (let e = length-append C2 C1 in omega arith))

  pub two_round_trip : HaveTwoSum first second × (two_sum first second ≡ submatrix m (R2 ++ R1) (C2 ++ C1))
  two_round_trip = (have, whole)
