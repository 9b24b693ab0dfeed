-- The state of a signing, after another step and after a row.
use Rattle.std.proofs.Common.{◌≡◌, ◌≢◌, ◌∙◌, ◌<◌, ◌≤◌, ◌+◌, ◌++◌, ℕ, zero, suc, ℤ, pos, cond, List, [], ◌∷◌, length, get_or, inl, inr, refl, sym, ap, subst, arith}
use Rattle.std.proofs.lemmas.Bool.{cases_lt}
use Rattle.cmr_base.specs.Matrix.{Matrix, height, entry, with_entry, is_nonzero, IsMatrix}
use Rattle.cmr_base.specs.Signing.{IsSign}
use Rattle.cmr_base.specs.Supports.{HaveOneSupport}
use Rattle.cmr_base.proofs.Booleans.{is_zero, is_nonzero_is}
use Rattle.cmr_base.proofs.Entries.{entry-with_entry_other_row}
use Rattle.ghouila.proofs.SignedSums.{zero_or_sign}
use Rattle.ghouila.proofs.SignProducts.{sign_nonzero}
use Rattle.ghouila.proofs.SignsUnique.{row_in, column_in}
use Rattle.chains.specs.declared.step.SignStep.{SignStep}
use Rattle.camion_sign.specs.declared.kept_steps.KeptSteps.{KeptSteps}
use Rattle.camion_sign.specs.declared.signing.Signing.{Signing}
use Rattle.camion_sign.specs.KeptSteps.{HasKept}
use Rattle.chains.specs.SignSteps.{AreSigns, IsUnsignedOne, unsigned, LeadTo, signed_by}
use Rattle.camion_sign.specs.SignOrder.{IsRowsTurn, IsNextSign, IsSignedBy}
use Rattle.camion_sign.specs.Signings.{IsAtRow, unsigned_before}
use Rattle.chains.proofs.GivenSigns.{HasOneMore, lead_more, one_more, signs_more, keeps}
use Rattle.camion_sign.specs.declared.signed_columns.SignedColumns.{SignedColumns}
use Rattle.camion_sign.specs.Signings.{KnowsSigned}
use Rattle.camion_sign.proofs.PassedColumns.{row_begun, signed_more}
use Rattle.chains.proofs.ChainViolators.{unsigned_signs, entry-unsigned}

-- another sign leaves fewer ones without sign
pub fewer_unsigned : (a s t : Matrix) (row column : ℕ) (v : ℤ) → IsSign v → HasOneMore s t row column v → IsUnsignedOne a s row column → (n : ℕ) → column < n
    → unsigned_before a t row n < unsigned_before a s row n
fewer_unsigned a s t row column v u more here zero l = absurd (omega arith)
fewer_unsigned a s t row column v u more here (suc n) l = elim (cases_lt column n) [
  | inl lt ↦ let k = fewer_unsigned a s t row column v u more here n lt in
      rw (more.other row n (inr (omega arith))) (omega (arith, k))
  | inr ge ↦ let e : column ≡ n = omega arith in
      subst (λ j. (cond (is_nonzero (entry a row j)) (cond (is_nonzero (entry t row j)) 0 1) 0) + unsigned_before a t row n < (cond (is_nonzero (entry a row j)) (cond (is_nonzero (entry s row j)) 0 1) 0) + unsigned_before a s row n) e
      (rw (is_nonzero_is (entry a row column) here.one, is_zero (entry s row column) here.no_sign, is_nonzero_is (entry t row column) (λ z. sign_nonzero v u (sym more.here ∙ z)), same n (omega arith)) (omega arith))
]
  where
    same : (n : ℕ) → n ≤ column → unsigned_before a t row n ≡ unsigned_before a s row n
    same zero l = refl
    same (suc n) l = rw (more.other row n (inr (omega arith)), same n (omega arith)) refl

module _ (a s : Matrix) (is : IsMatrix a) (row column : ℕ) (v : ℤ) (u : IsSign v) (signs : AreSigns a s) (turn : IsRowsTurn a s row) (here : IsUnsignedOne a s row column) where
  more : HasOneMore s (with_entry s row column v) row column v
  more = one_more a s is.rectangular signs row column v here.one

  turn_more : IsRowsTurn a (with_entry s row column v) row
  turn_more = record {
    earlier = λ i j l h. keeps s (with_entry s row column v) row column v u more i j (turn.earlier i j l h);
    later = λ i j l. more.other i j (inl (omega arith)) ∙ turn.later i j l;
  }

  pub state_more : (steps : List SignStep) (step : SignStep) (kept : KeptSteps) → LeadTo (IsNextSign a) (unsigned a) steps s → IsNextSign a s step v
      → signed_by s step v ≡ with_entry s row column v → HasKept (steps ++ step ∷ []) kept
      → (after : Matrix) → after ≡ with_entry s row column v → (signed more_signed : SignedColumns) → KnowsSigned a s row signed
      → more_signed.columns.items ≡ signed.columns.items ++ column ∷ [] → more_signed.passed.items ≡ signed.passed.items
      → IsAtRow a row (record { signs = after; steps = kept; signed = more_signed })
  state_more steps step kept lead next e f after g signed more_signed known h k = record {
    signs = subst (AreSigns a) (sym g) (signs_more a s is.rectangular signs row column v here.one u);
    turn = subst (λ x. IsRowsTurn a x row) (sym g) turn_more;
    steps = steps ++ step ∷ [];
    lead = subst (LeadTo (IsNextSign a) (unsigned a) (steps ++ step ∷ [])) (e ∙ sym g) (lead_more (IsNextSign a) (unsigned a) s steps step v lead next);
    kept = f;
    signed = signed_more a s row signed known column v after u (subst (λ x. HasOneMore s x row column v) (sym g) more) more_signed h k;
  }

  pub fewer_more : (after : Matrix) → after ≡ with_entry s row column v → unsigned_before a after row a.width < unsigned_before a s row a.width
  fewer_more after g = subst (λ x. unsigned_before a x row a.width < unsigned_before a s row a.width) (sym g) (fewer_unsigned a s (with_entry s row column v) row column v u more here a.width (column_in a row column is.rectangular here.one))

pub start_state : (a : Matrix) (signing : Signing) → signing.signs ≡ unsigned a → HasKept [] signing.steps → length signing.signed.passed.items ≡ a.width
    → signing.signed.columns.items ≡ [] → ((d : ℕ) → get_or signing.signed.passed.items d 0 ≡ 0) → IsAtRow a 0 signing
start_state a signing e f long none passed = record {
  signs = subst (AreSigns a) (sym e) (unsigned_signs a);
  turn = record { earlier = λ i j l. absurd (omega arith); later = λ i j l. subst (λ x. entry x i j ≡ pos 0) (sym e) (entry-unsigned a i j) };
  steps = [];
  lead = sym e;
  kept = f;
  signed = row_begun a signing.signs 0 signing.signed (λ j. subst (λ x. entry x 0 j ≡ pos 0) (sym e) (entry-unsigned a 0 j)) long none passed;
}

pub all_are_signed : (a : Matrix) (signing : Signing) → IsMatrix a → (state : IsAtRow a (height a) signing) → IsSignedBy a state.steps signing.signs
all_are_signed a signing is state = record { steps_are = state.lead; all_signed = λ i j one. state.turn.earlier i j (row_in a i j one) one }

pub signs_support : (a : Matrix) (signing : Signing) → IsMatrix a → IsAtRow a (height a) signing → HaveOneSupport a signing.signs
signs_support a signing is state = record {
  height_same = sym state.signs.same_height;
  width_same = sym state.signs.same_width;
  zeros_same = λ i j. (state.signs.inside i j, λ z. elim (zero_or_sign (entry a i j) (is.small i j)) [ inl e ↦ e | inr u ↦ absurd (state.turn.earlier i j (row_in a i j (sign_nonzero (entry a i j) u)) (sign_nonzero (entry a i j) u) z) ]);
}

-- the signing of the same matrix
pub same_end : (n m : Matrix) (signing : Signing) → n ≡ m → IsMatrix n → IsAtRow n (height n) signing → IsMatrix m × IsAtRow m (height m) signing
same_end n m signing e is state = (subst IsMatrix e is, subst (λ (k : Matrix). IsAtRow k (height k) signing) e state)

-- another sign in a row leaves the rows before it
pub earlier_same : (s after : Matrix) (row column : ℕ) (v : ℤ) → after ≡ with_entry s row column v → (i j : ℕ) → i < row → entry after i j ≡ entry s i j
earlier_same s after row column v e i j l = ap (λ (m : Matrix). entry m i j) e ∙ entry-with_entry_other_row s row column v i j (λ q. omega arith)

-- all ones of the row are signed
pub row_ended : (a : Matrix) (row : ℕ) (signing : Signing) (begun : SignedColumns) → IsAtRow a row signing → ((d : ℕ) → ¬ (IsUnsignedOne a signing.signs row d))
    → begun.columns.items ≡ [] → length begun.passed.items ≡ length signing.signed.passed.items → ((d : ℕ) → get_or begun.passed.items d 0 ≡ 0)
    → IsAtRow a (row + 1) (record { signs = signing.signs; steps = signing.steps; signed = begun })
row_ended a row signing begun state all none long passed = record {
  signs = state.signs;
  turn = record {
    earlier = λ i j l one. elim (cases_lt i row) [
      | inl lt ↦ state.turn.earlier i j lt one
      | inr ge ↦ let e : i ≡ row = omega arith in λ z. all j (record { one = subst (λ k. entry a k j ≢ pos 0) e one; no_sign = subst (λ k. entry signing.signs k j ≡ pos 0) e z })
    ];
    later = λ i j l. state.turn.later i j (omega arith);
  };
  steps = state.steps;
  lead = state.lead;
  kept = state.kept;
  signed = row_begun a signing.signs (row + 1) begun (λ j. state.turn.later (row + 1) j (omega arith)) (long ∙ state.signed.one_each) none passed;
}
