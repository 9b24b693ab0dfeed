-- The signed columns of a row, and the columns that make no cycle place with them.
use Rattle.std.proofs.Common.{◌≡◌, ◌≢◌, ◌∙◌, ◌<◌, ◌≤◌, ◌+◌, ◌++◌, ℕ, ℤ, pos, List, [], ◌∷◌, length, get_or, set, inl, inr, sym, ap, subst, arith}
use Rattle.std.proofs.lemmas.Bool.{cases_eq, cases_lt}
use Rattle.std.proofs.lemmas.List.{length-append, length-set, get_or-set_same, get_or-set_other, get_or_append_left}
use Rattle.std.proofs.Math.Seq.{get_or-append_seam}
use Rattle.cmr_base.specs.Matrix.{Matrix, entry}
use Rattle.cmr_base.specs.Signing.{IsSign}
use Rattle.ghouila.proofs.SignProducts.{sign_nonzero}
use Rattle.camion_sign.specs.declared.signed_columns.SignedColumns.{SignedColumns}
use Rattle.camion_sign.specs.SignOrder.{IsForcedBy, IsPlaceOf}
use Rattle.camion_sign.specs.Signings.{KnowsSigned}
use Rattle.chains.proofs.GivenSigns.{HasOneMore, keeps}

-- a row without signs
pub row_begun : (a s : Matrix) (row : ℕ) (signed : SignedColumns) → ((j : ℕ) → entry s row j ≡ pos 0) → length signed.passed.items ≡ a.width
    → signed.columns.items ≡ [] → ((d : ℕ) → get_or signed.passed.items d 0 ≡ 0) → KnowsSigned a s row signed
row_begun a s row signed unsigned long e start = record {
  one_each = long;
  within = λ d. let z = start d in omega arith;
  listed = λ c h. absurd (h (unsigned c));
  signs = λ k l. absurd (let n : length signed.columns.items ≡ 0 = ap length e in omega arith);
  passed = λ d k l path. absurd (let z = start d in omega arith);
}

module _ (a s : Matrix) (row : ℕ) (signed : SignedColumns) (knows : KnowsSigned a s row signed) where
  abbrev columns : List ℕ
  columns = signed.columns.items

  -- all of them are passed
  pub none_forces : (column place : ℕ) → length columns ≤ place → ((k : ℕ) → k < place → (path : List ℕ) → ¬ (IsPlaceOf a row (get_or columns k 0) column path))
      → (c : ℕ) → ¬ (IsForcedBy a s row column c)
  none_forces column place l none c forced = go (knows.listed c forced.0)
    where
      go : (k : ℕ) × (k < length columns) × (get_or columns k 0 ≡ c) → ⊥
      go (k, inside, e) = none k (omega arith) forced.1.0 (subst (λ x. IsPlaceOf a row x column forced.1.0) (sym e) forced.1.1)

  -- the column passes another signed column
  pub place_passed : (column place x : ℕ) → x ≡ get_or columns place 0 → ((path : List ℕ) → ¬ (IsPlaceOf a row x column path))
      → ((k : ℕ) → k < place → (path : List ℕ) → ¬ (IsPlaceOf a row (get_or columns k 0) column path))
      → (k : ℕ) → k < place + 1 → (path : List ℕ) → ¬ (IsPlaceOf a row (get_or columns k 0) column path)
  place_passed column place x e here none k l = elim (cases_lt k place) [
    | inl before ↦ none k before
    | inr past ↦ let f : place ≡ k = omega arith in
        subst (λ j. (path : List ℕ) → ¬ (IsPlaceOf a row (get_or columns j 0) column path)) f (subst (λ y. (path : List ℕ) → ¬ (IsPlaceOf a row y column path)) e here)
  ]

  -- a column has passed the first `place` signed columns
  module _ (column place : ℕ) (inside : column < a.width) (few : place ≤ length columns) (none : (k : ℕ) → k < place → (path : List ℕ) → ¬ (IsPlaceOf a row (get_or columns k 0) column path)) where
    here : get_or (set signed.passed.items column place) column 0 ≡ place
    here = get_or-set_same signed.passed.items column place 0 (let e = knows.one_each in omega arith)

    within_now : (d : ℕ) → get_or (set signed.passed.items column place) d 0 ≤ length columns
    within_now d = elim (cases_eq d column) [
      | inl same ↦ subst (λ x. get_or (set signed.passed.items column place) x 0 ≤ length columns) (sym same) (subst (λ y. y ≤ length columns) (sym here) few)
      | inr apart ↦ subst (λ y. y ≤ length columns) (sym (get_or-set_other signed.passed.items column d place 0 apart)) (knows.within d)
    ]

    passed_now : (d k : ℕ) → k < get_or (set signed.passed.items column place) d 0 → (path : List ℕ) → ¬ (IsPlaceOf a row (get_or columns k 0) d path)
    passed_now d k l path = elim (cases_eq d column) [
      | inl same ↦ subst (λ x. (k < get_or (set signed.passed.items column place) x 0) → ¬ (IsPlaceOf a row (get_or columns k 0) x path)) (sym same) (λ l. none k (subst (λ y. k < y) here l) path) l
      | inr apart ↦ knows.passed d k (subst (λ y. k < y) (get_or-set_other signed.passed.items column d place 0 apart) l) path
    ]

    pub passed_more : (after : SignedColumns) → after.columns.items ≡ columns → after.passed.items ≡ set signed.passed.items column place → KnowsSigned a s row after
    passed_more after e f = record {
      one_each = ap length f ∙ length-set signed.passed.items column place ∙ knows.one_each;
      within = λ d. rw (e, f) (within_now d);
      listed = λ c h. rw e (knows.listed c h);
      signs = λ k. rw e (knows.signs k);
      passed = λ d k. rw (e, f) (passed_now d k);
    }

  -- another column is signed
  module _ (column : ℕ) (v : ℤ) (t : Matrix) (u : IsSign v) (more : HasOneMore s t row column v) where
    abbrev longer : List ℕ
    longer = columns ++ column ∷ []

    long : length longer ≡ length columns + 1
    long = length-append columns (column ∷ [])

    listed_now : (c : ℕ) → entry t row c ≢ pos 0 → (k : ℕ) × (k < length longer) × (get_or longer k 0 ≡ c)
    listed_now c h = elim (cases_eq c column) [
      | inl same ↦ (length columns, omega (arith, long), get_or-append_seam columns column [] 0 ∙ sym same)
      | inr apart ↦ go (knows.listed c (λ z. h (more.other row c (inr apart) ∙ z)))
    ]
      where
        go : (k : ℕ) × (k < length columns) × (get_or columns k 0 ≡ c) → (k : ℕ) × (k < length longer) × (get_or longer k 0 ≡ c)
        go (k, inside, e) = (k, omega (arith, long, inside), get_or_append_left columns (column ∷ []) 0 k inside ∙ e)

    signs_now : (k : ℕ) → k < length longer → entry t row (get_or longer k 0) ≢ pos 0
    signs_now k l z = elim (cases_lt k (length columns)) [
      | inl before ↦ keeps s t row column v u more row (get_or columns k 0) (knows.signs k before) (ap (entry t row) (sym (get_or_append_left columns (column ∷ []) 0 k before)) ∙ z)
      | inr past ↦ let e : k ≡ length columns = omega (arith, long, l) in
          sign_nonzero v u (sym more.here ∙ ap (entry t row) (sym (ap (λ j. get_or longer j 0) e ∙ get_or-append_seam columns column [] 0)) ∙ z)
    ]

    passed_still : (d k : ℕ) → k < get_or signed.passed.items d 0 → (path : List ℕ) → ¬ (IsPlaceOf a row (get_or longer k 0) d path)
    passed_still d k l path = subst (λ x. ¬ (IsPlaceOf a row x d path)) (sym (get_or_append_left columns (column ∷ []) 0 k (let w = knows.within d in omega arith))) (knows.passed d k l path)

    pub signed_more : (after : SignedColumns) → after.columns.items ≡ longer → after.passed.items ≡ signed.passed.items → KnowsSigned a t row after
    signed_more after e f = record {
      one_each = ap length f ∙ knows.one_each;
      within = λ d. rw (e, f) (let w = knows.within d in omega (arith, long));
      listed = λ c h. rw e (listed_now c h);
      signs = λ k. rw e (signs_now k);
      passed = λ d k. rw (e, f) (passed_still d k);
    }
