-- One more position that is named.
use Rattle.std.proofs.Common.{◌≡◌, ◌<◌, ◌+◌, ◌*◌, ◌^◌, ◌&&◌, ◌||◌, ◌∙◌, inl, inr, ℕ, ℤ, Bool, true, false, cond, nat_eq, nat_lt, if◌then◌else◌, List, length, refl, ap, ap₂, sym, subst}
use Rattle.std.specs.BTreeMap.{is_at}
use Rattle.std.specs.BTreeSet.{BTreeSet, Updates, contains}
use Rattle.std.specs.Cmp.{Equal-is}
use Rattle.std.specs.Ordering.{nat_cmp}
use Rattle.std.proofs.lemmas.Bool.{cases_eq}
use Rattle.std.proofs.lemmas.Cmp.{nat_cmp_total, tied_itself}
use Rattle.std.proofs.lemmas.Map.Lookups.{exact_unsigned}
use Rattle.cmr_base.specs.Matrix.{is_nonzero}
use Rattle.cmr_base.proofs.Booleans.{and_is, at_least_of, eq_test, is_ne, lt_of, two_cases}
use Rattle.sparse_matrix.specs.declared.nonzero.Nonzero.{Nonzero}
use Rattle.sparse_matrix.specs.SparseRows.{SparseRows, AreSparseRows, run_of, with_nonzero}
use Rattle.sparse_text.specs.NamedPositions.{HasNewPosition, is_scanned}
use Rattle.sparse_text.specs.WrittenEntries.{with_value}
use Rattle.sparse_text.specs.declared.named.TheConstants.{SCANNED}
use Rattle.sparse_text.proofs.PlaceNumbers.{same_numbers}
use Rattle.sparse_text.proofs.ScannedRows.{scan_grows, scan_stays}

or_joined : (a b c : Bool) → ((a || b) || c) ≡ (a || (b || c))
or_joined true b c = refl
or_joined false b c = refl

or_moved : (a b c : Bool) → (a || cond b true c) ≡ (b || (a || c))
or_moved true true c = refl
or_moved true false c = refl
or_moved false true c = refl
or_moved false false c = refl

-- numbers compare as equal if and only if they are equal
is_at_number : (number other : ℕ) → is_at (nat_cmp number) other ≡ nat_eq number other
is_at_number number other = elim (cases_eq number other) [
  | inl e ↦ subst (λ n. is_at (nat_cmp number) n ≡ true) e ((Equal-is (nat_cmp number number)).1 (tied_itself nat_cmp_total number)) ∙ sym ((eq_test number other).1 e)
  | inr differ ↦ elim (two_cases (is_at (nat_cmp number) other)) [
    | inl same ↦ absurd (differ (exact_unsigned number other ((Equal-is (nat_cmp number other)).0 same)))
    | inr h ↦ h ∙ sym (is_ne number other differ)
  ]
]

module _ (m : SparseRows) (at_row at_column : ℕ) (value : ℤ) (shape : AreSparseRows m) (inside : at_row < length m.runs) where
  abbrev run : List Nonzero
  run = run_of m at_row

  abbrev next : SparseRows
  next = with_nonzero m at_row (record { line = at_column; value = value })

  -- the new nonzero is one of the first of its row
  pub first_named : (others : BTreeSet ℕ) → (is_nonzero value && nat_lt (length run) SCANNED) ≡ true → HasNewPosition at_row at_column m others (with_value m at_row at_column value) others
  first_named others test row column within =
      let both = and_is (is_nonzero value) (nat_lt (length run) SCANNED) test in
      ap (λ (nonzero : Bool). is_scanned (if nonzero then next else m) row column || contains nat_cmp others (row * 2 ^ 32 + column)) both.0
      ∙ ap (λ (b : Bool). b || contains nat_cmp others (row * 2 ^ 32 + column)) (scan_grows m at_row at_column value shape inside both.0 (lt_of (length run) SCANNED both.1) row column)
      ∙ or_joined (nat_eq at_row row && nat_eq at_column column) (is_scanned m row column) (contains nat_cmp others (row * 2 ^ 32 + column))

  -- otherwise the position is in the set
  pub other_named : (others next_others : BTreeSet ℕ) → (is_nonzero value && nat_lt (length run) SCANNED) ≡ false → at_column < 2 ^ 32
      → Updates nat_cmp others next_others (at_row * 2 ^ 32 + at_column) true → HasNewPosition at_row at_column m others (with_value m at_row at_column value) next_others
  other_named others next_others test at_within updated row column within =
      ap₂ (λ (a b : Bool). a || b) (stays (is_nonzero value) test)
      (updated.0 (row * 2 ^ 32 + column)
      ∙ ap (λ (b : Bool). cond b true (contains nat_cmp others (row * 2 ^ 32 + column)))
      (is_at_number (at_row * 2 ^ 32 + at_column) (row * 2 ^ 32 + column) ∙ same_numbers (2 ^ 32) at_row at_column row column at_within within))
      ∙ or_moved (is_scanned m row column) (nat_eq at_row row && nat_eq at_column column) (contains nat_cmp others (row * 2 ^ 32 + column))
    where
      stays : (nonzero : Bool) → (nonzero && nat_lt (length run) SCANNED) ≡ false → is_scanned (if nonzero then next else m) row column ≡ is_scanned m row column
      stays true test = scan_stays m at_row at_column value shape inside (at_least_of (length run) SCANNED test) row column
      stays false test = refl
