-- Each step signs a one without sign. So there are at most as many steps as positions.
use Rattle.std.proofs.Common.{◌≡◌, ◌<◌, ◌≤◌, ◌+◌, ◌*◌, ℕ, zero, suc, zero-le, ℤ, pos, Bool, cond, List, [], ◌∷◌, take, length, get_or, set, refl, ap, subst, arith}
use Rattle.std.specs.List.{count_by}
use Rattle.std.proofs.lemmas.List.{length-take-le, take_all}
use Rattle.std.proofs.lemmas.List.Sums.{count_by-le-length, sum_by-set}
use Rattle.std.proofs.Math.Nat.{suc-mul, mul-le-mul_left, mul-le-mul_right}
use Rattle.cmr_base.specs.Matrix.{Matrix, height, is_nonzero, nonzeros_of, IsMatrix}
use Rattle.cmr_base.specs.Signing.{IsSign}
use Rattle.cmr_base.proofs.SignEntries.{sign_is_nonzero}
use Rattle.ghouila.proofs.SignsUnique.{row_in, column_in}
use Rattle.chains.specs.declared.step.SignStep.{SignStep}
use Rattle.chains.specs.SignSteps.{AreSigns, unsigned, IsUnsignedOne, LeadTo, signed_by, step_row, step_column}
use Rattle.chains.specs.Chains.{KeepsRule}
use Rattle.chains.proofs.GivenSigns.{signs_more}
use Rattle.chains.proofs.ChainChecks.{rule_one}
use Rattle.chains.proofs.ChainViolators.{unsigned_signs}

-- ---- nonzeros

count_set : (xs : List ℤ) (c : ℕ) (v : ℤ) → c < length xs → get_or xs c (pos 0) ≡ pos 0 → IsSign v → count_by is_nonzero (set xs c v) ≡ count_by is_nonzero xs + 1
count_set xs c v h e u =
    let changed = sum_by-set (λ (x : ℤ). cond (is_nonzero x) 1 0) xs c v (pos 0) h in
    let none : ◌≡◌ {A = ℕ} (cond (is_nonzero (get_or xs c (pos 0))) 1 0) 0 = ap (λ (x : ℤ). cond (is_nonzero x) 1 0) e in
    let one : ◌≡◌ {A = ℕ} (cond (is_nonzero v) 1 0) 1 = ap (λ (t : Bool). cond t 1 0) (sign_is_nonzero v u) in
    omega (arith, changed, none, one)

nonzeros_set : (rows : List (List ℤ)) (r c : ℕ) (v : ℤ) → r < length rows → c < length (get_or rows r []) → get_or (get_or rows r []) c (pos 0) ≡ pos 0
    → IsSign v → nonzeros_of (set rows r (set (get_or rows r []) c v)) ≡ nonzeros_of rows + 1
nonzeros_set [] r c v h k e u = absurd (omega (arith, h))
nonzeros_set (row ∷ rows) zero c v h k e u = let one = count_set row c v k e u in omega (arith, one)
nonzeros_set (row ∷ rows) (suc r) c v h k e u = let one = nonzeros_set rows r c v (omega (arith, h)) k e u in omega (arith, one)

few_nonzeros : (width : ℕ) (rows : List (List ℤ)) → ((k : ℕ) → k < length rows → length (get_or rows k []) ≡ width) → nonzeros_of rows ≤ length rows * width
few_nonzeros width [] each = zero-le
few_nonzeros width (row ∷ rows) each =
    let first = each 0 (omega arith) in
    let others = few_nonzeros width rows (λ k h. each (suc k) (omega (arith, h))) in
    omega (arith, count_by-le-length is_nonzero row, first, others, suc-mul (length rows) width)

-- ---- steps

module _ (a : Matrix) (is : IsMatrix a) (Rule : Matrix → SignStep → ℤ → Type 0) (ones : (s : Matrix) (step : SignStep) (v : ℤ) → Rule s step v → IsUnsignedOne a s (step_row step) (step_column step) × IsSign v) where
  steps_count : (steps : List SignStep) (s end : Matrix) → AreSigns a s → LeadTo Rule s steps end → length steps + nonzeros_of s.rows ≤ nonzeros_of end.rows
  steps_count [] s end signs e = let same = ap (λ (m : Matrix). nonzeros_of m.rows) e in omega (arith, same)
  steps_count (step ∷ steps) s end signs (v, rule, later) =
      let one = ones s step v rule in
      let here = one.0 in
      let row = step_row step in
      let column = step_column step in
      let rows_are = signs.same_height in
      let columns_are = signs.same_width in
      let row_inside = row_in a row column here.one in
      let column_inside = column_in a row column is.rectangular here.one in
      let long = signs.ternary.rectangular row (omega (arith, row_inside, rows_are)) in
      let more = nonzeros_set s.rows row column v (omega (arith, row_inside, rows_are)) (omega (arith, column_inside, columns_are, long)) here.no_sign one.1 in
      let others = steps_count steps (signed_by s step v) end (signs_more a s is.rectangular signs row column v here.one one.1) later in
      omega (arith, more, others)

  pub all_few : (steps : List SignStep) (end : Matrix) → AreSigns a end → LeadTo Rule (unsigned a) steps end → length steps ≤ height a * a.width
  all_few steps end signs leads =
      let count = steps_count steps (unsigned a) end (unsigned_signs a) leads in
      let most = few_nonzeros end.width end.rows signs.ternary.rectangular in
      let rows_are = signs.same_height in
      let columns_are = signs.same_width in
      let same : height end * end.width ≡ height a * a.width = rw (rows_are, columns_are) refl in
      omega (arith, count, most, same)

-- the steps of a chain
pub few_kept : (a : Matrix) (steps : List SignStep) (signs : Matrix) → IsMatrix a → AreSigns a signs → LeadTo (KeepsRule a) (unsigned a) steps signs → length steps ≤ 1000000
few_kept a steps signs is are leads =
    let few = all_few a is (KeepsRule a) (λ s step v rule. rule_one a s step v rule) steps signs are leads in
    let rows = is.height_in in
    let columns = is.width_in in
    omega (arith, few, mul-le-mul_left (height a) columns, mul-le-mul_right 1000 rows)

-- the steps that the check has followed
pub few_followed : (a : Matrix) (steps : List SignStep) (kept : ℕ) (signs : Matrix) → kept ≤ length steps → IsMatrix a → AreSigns a signs
    → LeadTo (KeepsRule a) (unsigned a) (take kept steps) signs → kept ≤ 1000000
few_followed a steps kept signs within is are leads = let few = few_kept a (take kept steps) signs is are leads in omega (arith, few, length-take-le kept steps within)

pub few_all : (a : Matrix) (steps : List SignStep) (kept : ℕ) (signs : Matrix) → length steps ≤ kept → IsMatrix a → AreSigns a signs
    → LeadTo (KeepsRule a) (unsigned a) (take kept steps) signs → length steps ≤ 1000000
few_all a steps kept signs all is are leads = few_kept a steps signs is are (subst (λ xs. LeadTo (KeepsRule a) (unsigned a) xs signs) (take_all kept steps all) leads)
