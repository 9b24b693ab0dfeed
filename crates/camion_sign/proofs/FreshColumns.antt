-- The first column of a set that a walk has not reached.
use Rattle.std.proofs.Common.{◌≡◌, ◌≢◌, ◌<◌, ◌≤◌, ◌+◌, ◌-◌, ◌*◌, ◌/◌, ◌%◌, ◌^◌, ◌&&◌, ◌∙◌, ℕ, zero, suc, pos, true, false, not, cond, eqb, List, length, get_or, set, replicate, ◌⊎◌, inl, inr, refl, ap, ap₂, sym, subst, arith, w64}
use Rattle.std.specs.Int.{bit_at, trailing_zeros}
use Rattle.std.proofs.lemmas.Bool.{cases_lt}
use Rattle.std.proofs.Math.Nat.{div-le_self}
use Rattle.std.proofs.lemmas.Nat.Bits.{bit_at-lt, bit_at-trailing_zeros}
use Rattle.std.proofs.Common.{get_or-set_same, get_or-set_other}
use Rattle.std.proofs.lemmas.List.{length-replicate}
use Rattle.cmr_base.proofs.Lists.{get_or-replicated}
use Rattle.cmr_base.specs.BitSets.{Bits}
use Rattle.cmr_base.specs.Matrix.{Matrix, entry, is_nonzero}
use Rattle.cmr_base.specs.Planes.{has_bit}
use Rattle.cmr_base.specs.Trees.{support}
use Rattle.cmr_base.specs.ColumnSets.{has_column}
use Rattle.cmr_base.proofs.Booleans.{and_is, and_not, false_is, nonzero_is, not_both, not_is, true_is, true_is_false, zero_is}
use Rattle.cmr_base.proofs.ColumnWords.{column_at}
use Rattle.cmr_base.proofs.FirstBits.{first_by_bits, none_by_bits}
use Rattle.camion_sign.specs.Walks.{AreInStep, IsWanted, is_fresh, place_in}

module _ (one two reached : List ℕ) (from column word : ℕ) (same : two ≡ reached) (fits : word < 2 ^ 64)
    (bits : (k : ℕ) → k < 64 → has_bit word k ≡ (has_bit (get_or one (column / 64) 0) k && not (has_bit (get_or two (column / 64) 0) k))) where
  bits_are : (i : ℕ) → i < 64 → bit_at word i ≡ cond (is_fresh one reached (64 * (column / 64) + i)) 1 0
  bits_are i small =
      bit_of (bit_at word i) (bit_at-lt word i) ∙ ap (λ t. cond t 1 0) (bits i small ∙ ap₂ (λ a b. a && not b) (sym (column_at one (column / 64) i small)) (sym (column_at two (column / 64) i small)
      ∙ ap (λ set. has_column set (64 * (column / 64) + i)) same))
    where
      bit_of : (b : ℕ) → b < 2 → b ≡ cond (eqb b 1) 1 0
      bit_of zero l = refl
      bit_of (suc zero) l = refl
      bit_of (suc (suc b)) l = absurd (omega arith)

  pub fresh_found : from ≤ column → ((x : ℕ) → from ≤ x → x < column → is_fresh one reached x ≡ false) → 0 < word / 2 ^ (column % 64)
      → (from ≤ column + trailing_zeros w64 (word / 2 ^ (column % 64))) × (is_fresh one reached (column + trailing_zeros w64 (word / 2 ^ (column % 64))) ≡ true)
      × ((x : ℕ) → from ≤ x → x < column + trailing_zeros w64 (word / 2 ^ (column % 64)) → is_fresh one reached x ≡ false)
  fresh_found low none some =
      let less = div-le_self word (2 ^ (column % 64)) in
      let first = first_by_bits (is_fresh one reached) column word fits bits_are some (omega (arith, fits, less)) in (
        omega arith,
        first.0,
        λ x l h. elim (cases_lt x column) [ inl before ↦ none x l before | inr after ↦ first.1 x after h ],
      )

  pub fresh_skips : ((x : ℕ) → from ≤ x → x < column → is_fresh one reached x ≡ false) → word / 2 ^ (column % 64) ≡ 0 → (x : ℕ) → from ≤ x
      → x < column - column % 64 + 64 → is_fresh one reached x ≡ false
  fresh_skips none empty x l h = elim (cases_lt x column) [
    | inl before ↦ none x l before
    | inr after ↦ none_by_bits (is_fresh one reached) column word fits bits_are empty x after h
  ]

-- the lowest bit of a word
pub lowest_bit : (word : ℕ) → 0 < word → word < 2 ^ 64
    → (trailing_zeros w64 word < 64) × (has_bit word (trailing_zeros w64 word) ≡ true) × ((k : ℕ) → k < trailing_zeros w64 word → has_bit word k ≡ false)
lowest_bit word some fits =
    let found = bit_at-trailing_zeros w64 word some fits in
    (found.0, ap (λ (n : ℕ). eqb n 1) found.1, λ k l. ap (λ (n : ℕ). eqb n 1) (found.2 k l))

-- ---- the words of a row, and those of a column

module _ (m : Matrix) (t c row : ℕ) (words places : List ℕ) (reached : Bits) (are : (x : ℕ) → has_column words x ≡ support m row x) (step : AreInStep m t c places reached) where
  pub fresh_is : (x : ℕ) → is_fresh words reached.words x ≡ true → (entry m row x ≢ pos 0) × (place_in places x ≡ 4294967295)
  fresh_is x h =
      let both = and_is (has_column words x) (not (has_column reached.words x)) h in
      (nonzero_is (entry m row x) (sym (are x) ∙ both.0), step.lacks x (not_is (has_column reached.words x) both.1))

  pub not_fresh : (x : ℕ) → is_fresh words reached.words x ≡ false → entry m row x ≢ pos 0 → IsWanted (entry m) t c x → place_in places x < 4294967295
  not_fresh x h n needed = step.has x needed (and_not (has_column words x) (has_column reached.words x) h (are x ∙ true_is (is_nonzero (entry m row x)) (λ f. n (zero_is (entry m row x) f))))

module _ (m : Matrix) (column : ℕ) (words used : List ℕ) (are : (r : ℕ) → has_column words r ≡ support m r column) where
  -- an unused row of the column meets it
  pub unused_meets : (r : ℕ) → is_fresh words used r ≡ true → entry m r column ≢ pos 0
  unused_meets r h = nonzero_is (entry m r column) (sym (are r) ∙ (and_is (has_column words r) (not (has_column used r)) h).0)

  pub used_if_meets : (r : ℕ) → is_fresh words used r ≡ false → entry m r column ≢ pos 0 → has_column used r ≡ true
  used_if_meets r h n = and_not (has_column words r) (has_column used r) h (are r ∙ true_is (is_nonzero (entry m r column)) (λ f. n (zero_is (entry m r column) f)))

-- ---- the set of reached columns

-- only the first column is reached
pub begins_in_step : (m : Matrix) (t c : ℕ) (places : List ℕ) (size column : ℕ) (old cleared made : Bits) → places ≡ replicate size 4294967295 → size ≡ old.size
    → column < old.size → cleared.size ≡ old.size → made.size ≡ cleared.size
    → ((x : ℕ) → has_column cleared.words x ≡ false) → ((x : ℕ) → has_column made.words x ≡ true → (x ≡ column) ⊎ (has_column cleared.words x ≡ true))
    → has_column made.words column ≡ true → AreInStep m t c (set places column 0) made
begins_in_step m t c places size column old cleared made is size_is inside cleared_size made_size none only here = record {
  has = λ x needed h. elim (only x h) [
    | inl e ↦ subst (λ (y : ℕ). place_in (set places column 0) y < 4294967295) (sym e) (let at = get_or-set_same places column 0 4294967295 low in omega arith)
    | inr old_has ↦ true_is_false (sym old_has ∙ none x)
  ];
  lacks = λ x h.
      get_or-set_other places column x 0 4294967295 (λ e. not_both (has_column made.words column) here (sym (ap (has_column made.words) e) ∙ h))
      ∙ ap (λ (v : List ℕ). place_in v x) is ∙ get_or-replicated size x 4294967295;
}
  where
    long : length places ≡ size
    long = ap length is ∙ length-replicate {A = ℕ} size 4294967295

    low : column < length places
    low = omega (arith, long, size_is, inside)

-- the earlier columns of row t are in the set too
pub passed_in_step : (m : Matrix) (t c : ℕ) (places : List ℕ) (old new : Bits) → AreInStep m t c places old
    → ((x : ℕ) → has_column new.words x ≡ true → (has_column old.words x ≡ true) ⊎ ((entry m t x ≢ pos 0) × (x < c)))
    → ((x : ℕ) → has_column old.words x ≡ true → has_column new.words x ≡ true) → AreInStep m t c places new
passed_in_step m t c places old new step only kept = record {
  has = λ x needed h. elim (only x h) [
    | inl before ↦ step.has x needed before
    | inr passed ↦ absurd (elim needed [ inl z ↦ passed.0 z | inr l ↦ omega (arith, l, passed.1) ])
  ];
  lacks = λ x h. step.lacks x (false_is (has_column old.words x) (λ before. not_both (has_column new.words x) (kept x before) h));
}
