-- The concentrated sum, from the core of both matrices.
use Rattle.std.proofs.Common.{◌≡◌, ◌<◌, ◌≤◌, ◌+◌, ◌-◌, ◌∙◌, ◌-ℤ◌, ◌*ℤ◌, ℕ, ℤ, true, false, nat_lt, ap, ap₂, sym, subst, refl, arith, w8, to_z, of_z}
use Rattle.std.proofs.lemmas.Bool.Decides.{nat_tests}
use Rattle.cmr_base.specs.Matrix.{Matrix, height, entry, IsEntry, HasTernaryEntries}
use Rattle.cmr_base.specs.Signing.{IsSign}
use Rattle.cmr_base.specs.Separations.{spread, zeros}
use Rattle.cmr_base.specs.MatrixSums.{filled, four_blocks, core_block, HaveConcentratedSum, concentrated_sum}
use Rattle.cmr_base.proofs.FilledMatrices.{entry-filled}
use Rattle.cmr_base.proofs.SmallEntries.{entry_as_byte}
use Rattle.cmr_base.proofs.SignEntries.{sign_is_entry}
use Rattle.sum_ops.specs.SumCores.{core_determinant_at, IsLastCore, IsFirstCore}
use Rattle.sum_ops.specs.declared.spread.Spread.{Spread}
use Rattle.sum_ops.specs.Spreads.{spread_entry}

-- the value of a number as an `i8`
abbrev pub byte : ℤ → ℤ
byte z = to_z w8 (of_z w8 z)

module _ (first second : Matrix) where
  pub last_core_of : HaveConcentratedSum first second → IsLastCore first (core_determinant_at first (height first - 3) (first.width - 3))
  last_core_of have = record { rows = have.first_rows; columns = have.first_columns; core = have.core; determinant_is = refl; above = have.above }

  pub first_core_of : HaveConcentratedSum first second → IsFirstCore first second
  first_core_of have = record { rows = have.second_rows; columns = have.second_columns; same = have.same; right = have.right }

  pub concentrated_of : (determinant : ℤ) → IsLastCore first determinant → IsFirstCore first second → HaveConcentratedSum first second
  concentrated_of determinant one two = record {
    first_rows = one.rows;
    first_columns = one.columns;
    second_rows = two.rows;
    second_columns = two.columns;
    core = one.core;
    same = two.same;
    above = one.above;
    right = two.right;
  }

  -- the determinant is a sign, so its byte has the same value
  pub last_core_of_byte : (determinant : ℤ) → IsLastCore first determinant → IsLastCore first (byte determinant)
  last_core_of_byte determinant one =
      subst (IsLastCore first) (sym (entry_as_byte determinant (sign_is_entry determinant (subst IsSign (sym one.determinant_is) one.core.determinant)))) one

  abbrev second_determinant : ℤ
  second_determinant = entry second 1 0 *ℤ entry second 2 1 -ℤ entry second 1 1 *ℤ entry second 2 0

  abbrev core_entry : (determinant : ℤ) (model next r c : ℕ) → ℤ
  core_entry determinant model next r c =
      spread determinant (entry second 1 0) (entry second 1 1) (entry second 2 0) (entry second 2 1) (entry second r 0) (entry second r 1) (entry first model c) (entry first next c)

  module _ (block : Spread) (one : IsLastCore first block.determinant) (two : IsFirstCore first second) (model_is : block.model ≡ height first - 2) where
    same_at : (r c : ℕ) (column : ℕ) → r < 3 → c < 3 → (first.width - 3) + c ≡ column → entry first ((height first - 3) + r) column ≡ entry second r c
    same_at r c column l k e = ap (λ (x : ℕ). entry first ((height first - 3) + r) x) (sym e) ∙ sym (two.same r c l k)

    difference : (x y z w x' y' z' w' : ℤ) → x ≡ x' → y ≡ y' → z ≡ z' → w ≡ w' → x *ℤ w -ℤ y *ℤ z ≡ x' *ℤ w' -ℤ y' *ℤ z'
    difference x y z w x' y' z' w' e f g h = rw (e, f, g, h) refl

    determinant_is : block.determinant ≡ second_determinant
    determinant_is = one.determinant_is ∙ difference _ _ _ _ (entry second 1 0) (entry second 1 1) (entry second 2 0) (entry second 2 1)
        (same_at 1 0 (first.width - 3) (omega arith) (omega arith) (omega arith)) (same_at 1 1 ((first.width - 3) + 1) (omega arith) (omega arith) refl)
        (same_at 2 0 (first.width - 3) (omega arith) (omega arith) (omega arith)) (same_at 2 1 ((first.width - 3) + 1) (omega arith) (omega arith) refl)

    model_at : block.model ≡ (height first - 3) + 1
    model_at = let l = one.rows in omega (arith, model_is)

    next_at : block.model + 1 ≡ (height first - 3) + 2
    next_at = let l = one.rows in omega (arith, model_is)

    entry_is : (r c : ℕ) → spread_entry block first second r c ≡ core_block (height first - 3) (entry first) (entry second) r c
    entry_is r c =
        ap (λ (d : ℤ). core_entry d block.model (block.model + 1) r c) determinant_is
        ∙ ap₂ (λ (k l : ℕ). core_entry second_determinant k l r c) model_at next_at

    abbrev whole : (rows columns : ℕ) (determinant : ℤ) (model next : ℕ) → Matrix
    whole rows columns determinant model next =
        filled (rows + (height second - 1)) (columns + (second.width - 2)) (four_blocks rows columns 1 2 (entry first) zeros (core_entry determinant model next) (entry second))

    pub sum_is : (rows columns : ℕ) → rows ≡ height first - 2 → columns ≡ first.width - 1 → whole rows columns block.determinant block.model (block.model + 1) ≡ concentrated_sum first second
    sum_is rows columns e f =
        ap₂ (λ (m n : ℕ). whole m n block.determinant block.model (block.model + 1)) e f
        ∙ ap (λ (d : ℤ). whole (height first - 2) (first.width - 1) d block.model (block.model + 1)) determinant_is
        ∙ ap₂ (λ (k l : ℕ). whole (height first - 2) (first.width - 1) second_determinant k l) model_at next_at

    -- the entries of the block are entries of the sum
    pub small_in_sum : HasTernaryEntries (concentrated_sum first second) → (r c : ℕ) → 1 ≤ r → r < height second → c < first.width - 1 → IsEntry (spread_entry block first second r c)
    small_in_sum small r c l k m = subst IsEntry (sum_entry ∙ sym (entry_is r c)) (small row c)
      where
        row : ℕ
        row = (height first - 2) + (r - 1)

        blocks : ℕ → ℕ → ℤ
        blocks = four_blocks (height first - 2) (first.width - 1) 1 2 (entry first) zeros (core_block (height first - 3) (entry first) (entry second)) (entry second)

        below : nat_lt row (height first - 2) ≡ false
        below = grind (arith, nat_tests)

        left : nat_lt c (first.width - 1) ≡ true
        left = grind (arith, nat_tests)

        in_block : 1 + (row - (height first - 2)) ≡ r
        in_block = omega arith

        at_block : blocks row c ≡ core_block (height first - 3) (entry first) (entry second) (1 + (row - (height first - 2))) c
        at_block = rw (below, left) refl

        sum_entry : entry (concentrated_sum first second) row c ≡ core_block (height first - 3) (entry first) (entry second) r c
        sum_entry = entry-filled ((height first - 2) + (height second - 1)) ((first.width - 1) + (second.width - 2)) blocks row c (omega arith) (omega arith)
            ∙ at_block ∙ ap (λ (x : ℕ). core_block (height first - 3) (entry first) (entry second) x c) in_block
