-- The search for the ones of a row that have no sign.
use Rattle.std.proofs.Common.{◌≡◌, ◌<◌, ◌≤◌, ◌∙◌, ℕ, true, false, not, List, Option, Some, None, MatchOption, inl, inr, sym, subst}
use Rattle.std.proofs.lemmas.Bool.{cases_lt}
use Rattle.chains.specs.SignSteps.{IsUnsignedOne}
use Rattle.cmr_base.specs.ColumnSets.{has_column}
use Rattle.cmr_base.specs.Matrix.{Matrix, entry, is_nonzero}
use Rattle.cmr_base.specs.Trees.{support}
use Rattle.cmr_base.proofs.Booleans.{and_is, and_not, nonzero_is, not_is, true_is, zero_is}
use Rattle.camion_sign.specs.SignOrder.{IsForcedBy}
use Rattle.camion_sign.specs.declared.row_places.ForcedOne.{ForcedOne}
use Rattle.camion_sign.specs.Signings.{IsFirstUnsigned, IsForcedAt, IsForcedColumn, IsForcedNext, IsNextUnsigned, IsPartner, ShowsPlaceOf}
use Rattle.camion_sign.specs.Walks.{IsFirstFresh, is_fresh}

module _ (a s : Matrix) (row : ℕ) (ones signed : List ℕ) (are : (x : ℕ) → has_column ones x ≡ support a row x) (have : (x : ℕ) → has_column signed x ≡ support s row x) where
  unsigned_is : (x : ℕ) → is_fresh ones signed x ≡ true → IsUnsignedOne a s row x
  unsigned_is x h =
      let both = and_is (has_column ones x) (not (has_column signed x)) h in
      record { one = nonzero_is (entry a row x) (sym (are x) ∙ both.0); no_sign = zero_is (entry s row x) (sym (have x) ∙ not_is (has_column signed x) both.1) }

  not_unsigned : (x : ℕ) → is_fresh ones signed x ≡ false → ¬ (IsUnsignedOne a s row x)
  not_unsigned x h one =
      let there = are x ∙ true_is (is_nonzero (entry a row x)) (λ f. one.one (zero_is (entry a row x) f)) in
      nonzero_is (entry s row x) (sym (have x) ∙ and_not (has_column ones x) (has_column signed x) h there) one.no_sign

  -- the first column with a one and without a sign
  pub next_is : (from : ℕ) (found : Option ℕ) → MatchOption found ((x : ℕ) → from ≤ x → is_fresh ones signed x ≡ false) (IsFirstFresh ones signed from)
      → MatchOption found ((d : ℕ) → from ≤ d → ¬ (IsUnsignedOne a s row d)) (IsNextUnsigned a s row from)
  next_is from None none = λ d up. not_unsigned d (none d up)
  next_is from (Some column) first = record { low = first.0; here = unsigned_is column first.1; least = λ d up below. not_unsigned d (first.2 d up below) }

-- no one without sign is before `from`
pub next_is_first : (a s : Matrix) (row from : ℕ) (found : Option ℕ) → ((d : ℕ) → d < from → ¬ (IsUnsignedOne a s row d))
    → MatchOption found ((d : ℕ) → from ≤ d → ¬ (IsUnsignedOne a s row d)) (IsNextUnsigned a s row from) → MatchOption found ((d : ℕ) → ¬ (IsUnsignedOne a s row d)) (IsFirstUnsigned a s row)
next_is_first a s row from None before none = λ d one. elim (cases_lt d from) [ inl early ↦ before d early one | inr late ↦ none d late one ]
next_is_first a s row from (Some column) before next = record {
  here = next.here;
  least = λ d below one. elim (cases_lt d from) [ inl early ↦ before d early one | inr late ↦ next.least d late below one ];
}

-- no one before the next one without sign is forced
pub none_until : (a s : Matrix) (row from column : ℕ) → ((d : ℕ) → d < from → IsUnsignedOne a s row d → (c : ℕ) → ¬ (IsForcedBy a s row d c)) → IsNextUnsigned a s row from column
    → (d : ℕ) → d < column → IsUnsignedOne a s row d → (c : ℕ) → ¬ (IsForcedBy a s row d c)
none_until a s row from column before next d below one = elim (cases_lt d from) [ inl early ↦ before d early one | inr late ↦ absurd (next.least d late below one) ]

-- the first one without sign that is forced
pub forced_next : (a s : Matrix) (row column : ℕ) (forced : ForcedOne) → IsUnsignedOne a s row column
    → ((d : ℕ) → d < column → IsUnsignedOne a s row d → (c : ℕ) → ¬ (IsForcedBy a s row d c)) → IsForcedAt a s row column forced → IsForcedNext a s row forced
forced_next a s row column forced here before at =
    subst (λ (x : ℕ). IsForcedColumn a s row x × IsPartner a s row x forced.partner × ShowsPlaceOf a s row forced.partner x forced.mark → IsForcedNext a s row forced) at.column_is
    (λ all. record { column = all.0; partner = all.1; mark = all.2 }) (record { here = here; least = before }, at.partner, at.mark)
