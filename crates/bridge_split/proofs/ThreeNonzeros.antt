-- Columns with three nonzeros, by their counts.
use Rattle.std.proofs.Common.{ℕ, suc, ◌+◌, ◌&&◌, ◌||◌, nat_lt, take, ap₂, Bool, true, false, cond, List, [], ◌∷◌, ◌≡◌, ◌≢◌, ◌<◌, ◌≤◌, ◌∙◌, sym, ap, refl, arith, subst, ◌⊎◌, inl, inr, length, get_or, Option, Some, None, MatchOption}
use Rattle.std.specs.List.{count_by, filter}
use Rattle.std.specs.List.Sorted.{IsStrictlyIncreasing}
use Rattle.std.proofs.lemmas.Bool.{cases_lt}
use Rattle.std.proofs.lemmas.List.{take_all}
use Rattle.std.proofs.lemmas.List.Sums.{length-filter, count_by_more_yes, sum_by_more, sum_by-take-le}
use Rattle.cmr_base.specs.Matrix.{Matrix}
use Rattle.cmr_base.specs.Members.{IsIn, IsDistinct}
use Rattle.cmr_base.specs.Splits.{HasNoThree}
use Rattle.cmr_base.specs.Trees.{support}
use Rattle.cmr_base.proofs.ListsWithout.{increasing_distinct}
use Rattle.cmr_base.proofs.RowLists.{not_both}
use Rattle.cmr_base.proofs.Booleans.{false_is, and_is, and_false, or_true, or_false, is_not_lt, is_lt, lt_of}
use Rattle.cmr_base.specs.BitSets.{Bits}
use Rattle.cmr_base.specs.ColumnSets.{has_column, HasCommon}
use Rattle.bridge_split.specs.Counting.{AreMore, HaveNoThird}
use Rattle.bridge_split.specs.SplitCases.{HasThree, IsFirstWithThree}

module _ (p : ℕ → Bool) where
  -- at least one, two or three numbers of the list
  one_counts : (S : List ℕ) (a : ℕ) → IsIn a S → p a ≡ true → 1 ≤ length (filter p S)
  one_counts [] a h e = absurd h
  one_counts (x ∷ S) a h e = go (p x) refl h (λ g. one_counts S a g e)
    where
      go : (t : Bool) → p x ≡ t → (a ≡ x) ⊎ IsIn a S → (IsIn a S → 1 ≤ length (filter p S)) → 1 ≤ length (cond t (x ∷ filter p S) (filter p S))
      go true f h k = omega arith
      go false f (inl q) k = absurd (not_both (p x) (ap p (sym q) ∙ e) f)
      go false f (inr h) k = let l = k h in omega arith

  two_count : (S : List ℕ) (a b : ℕ) → IsIn a S → IsIn b S → a ≢ b → p a ≡ true → p b ≡ true → 2 ≤ length (filter p S)
  two_count [] a b ha hb n ea eb = absurd ha
  two_count (x ∷ S) a b ha hb n ea eb = go (p x) refl ha hb (λ g h. two_count S a b g h n ea eb)
    where
      go : (t : Bool) → p x ≡ t → (a ≡ x) ⊎ IsIn a S → (b ≡ x) ⊎ IsIn b S → (IsIn a S → IsIn b S → 2 ≤ length (filter p S)) → 2 ≤ length (cond t (x ∷ filter p S) (filter p S))
      go t f (inl q) (inl r) k = absurd (n (q ∙ sym r))
      go true f (inl q) (inr hb) k = let l = one_counts S b hb eb in omega arith
      go true f (inr ha) hb k = let l = one_counts S a ha ea in omega arith
      go false f (inl q) hb k = absurd (not_both (p x) (ap p (sym q) ∙ ea) f)
      go false f (inr ha) (inl r) k = absurd (not_both (p x) (ap p (sym r) ∙ eb) f)
      go false f (inr ha) (inr hb) k = let l = k ha hb in omega arith

  three_count : (S : List ℕ) (a b c : ℕ) → IsIn a S → IsIn b S → IsIn c S → a ≢ b → a ≢ c → b ≢ c → p a ≡ true → p b ≡ true → p c ≡ true → 3 ≤ length (filter p S)
  three_count [] a b c ha hb hc ab ac bc ea eb ec = absurd ha
  three_count (x ∷ S) a b c ha hb hc ab ac bc ea eb ec = go (p x) refl ha hb hc (λ g h i. three_count S a b c g h i ab ac bc ea eb ec)
    where
      go : (t : Bool) → p x ≡ t → (a ≡ x) ⊎ IsIn a S → (b ≡ x) ⊎ IsIn b S → (c ≡ x) ⊎ IsIn c S → (IsIn a S → IsIn b S → IsIn c S → 3 ≤ length (filter p S))
          → 3 ≤ length (cond t (x ∷ filter p S) (filter p S))
      go t f (inl q) (inl r) hc k = absurd (ab (q ∙ sym r))
      go t f (inl q) (inr hb) (inl s) k = absurd (ac (q ∙ sym s))
      go t f (inr ha) (inl r) (inl s) k = absurd (bc (r ∙ sym s))
      go true f (inl q) (inr hb) (inr hc) k = let l = two_count S b c hb hc bc eb ec in omega arith
      go true f (inr ha) (inl r) (inr hc) k = let l = two_count S a c ha hc ac ea ec in omega arith
      go true f (inr ha) (inr hb) hc k = let l = two_count S a b ha hb ab ea eb in omega arith
      go false f (inl q) (inr hb) (inr hc) k = absurd (not_both (p x) (ap p (sym q) ∙ ea) f)
      go false f (inr ha) (inl r) (inr hc) k = absurd (not_both (p x) (ap p (sym r) ∙ eb) f)
      go false f (inr ha) (inr hb) (inl s) k = absurd (not_both (p x) (ap p (sym s) ∙ ec) f)
      go false f (inr ha) (inr hb) (inr hc) k = let l = k ha hb hc in omega arith

  -- the converse
  some_one : (S : List ℕ) → 1 ≤ length (filter p S) → (a : ℕ) × IsIn a S × (p a ≡ true)
  some_one [] l = absurd (omega arith)
  some_one (x ∷ S) l = go (p x) refl l (some_one S)
    where
      go : (t : Bool) → p x ≡ t → 1 ≤ length (cond t (x ∷ filter p S) (filter p S)) → (1 ≤ length (filter p S) → (a : ℕ) × IsIn a S × (p a ≡ true)) → (a : ℕ) × ((a ≡ x) ⊎ IsIn a S) × (p a ≡ true)
      go true f l k = (x, inl refl, f)
      go false f l k = let r = k (omega arith) in (r.0, inr r.1, r.2)

  some_two : (S : List ℕ) → IsDistinct S → 2 ≤ length (filter p S) → (a : ℕ) × (b : ℕ) × IsIn a S × IsIn b S × (a ≢ b) × (p a ≡ true) × (p b ≡ true)
  some_two [] d l = absurd (omega arith)
  some_two (x ∷ S) d l = go (p x) refl l (some_two S d.1)
    where
      go : (t : Bool) → p x ≡ t → 2 ≤ length (cond t (x ∷ filter p S) (filter p S))
          → (2 ≤ length (filter p S) → (a : ℕ) × (b : ℕ) × IsIn a S × IsIn b S × (a ≢ b) × (p a ≡ true) × (p b ≡ true))
          → (a : ℕ) × (b : ℕ) × ((a ≡ x) ⊎ IsIn a S) × ((b ≡ x) ⊎ IsIn b S) × (a ≢ b) × (p a ≡ true) × (p b ≡ true)
      go true f l k = let r = some_one S (omega arith) in (x, r.0, inl refl, inr r.1, (λ e. d.0 (subst (λ (v : ℕ). IsIn v S) (sym e) r.1)), f, r.2)
      go false f l k = let r = k (omega arith) in (r.0, r.1, inr r.2, inr r.3, r.4, r.5, r.6)

module _ (M : ℕ → ℕ → Bool) where
  three_here : (column : ℕ) (S : List ℕ) → IsDistinct S → 3 ≤ length (filter (λ row. M row column) S) → HasThree M S column
  three_here column [] d l = absurd (omega arith)
  three_here column (x ∷ S) d l = go (M x column) refl l (three_here column S d.1)
    where
      go : (t : Bool) → M x column ≡ t → 3 ≤ length (cond t (x ∷ filter (λ row. M row column) S) (filter (λ row. M row column) S))
          → (3 ≤ length (filter (λ row. M row column) S) → HasThree M S column) → HasThree M (x ∷ S) column
      go true f l k =
          let r = some_two (λ row. M row column) S d.1 (omega arith) in
          record {
            one = x;
            two = r.0;
            three = r.1;
            one_in = inl refl;
            two_in = inr r.2;
            three_in = inr r.3;
            apart = ((λ e. d.0 (subst (λ (v : ℕ). IsIn v S) (sym e) r.2)), (λ e. d.0 (subst (λ (v : ℕ). IsIn v S) (sym e) r.3)), r.4);
            nonzero = (f, r.5, r.6);
          }
      go false f l k =
          let r = k (omega arith) in
          record { one = r.one; two = r.two; three = r.three; one_in = inr r.one_in; two_in = inr r.two_in; three_in = inr r.three_in; apart = r.apart; nonzero = r.nonzero }

  here_three : (column : ℕ) (S : List ℕ) → HasThree M S column → 3 ≤ length (filter (λ row. M row column) S)
  here_three column S h = three_count (λ row. M row column) S h.one h.two h.three h.one_in h.two_in h.three_in h.apart.0 h.apart.1 h.apart.2 h.nonzero.0 h.nonzero.1 h.nonzero.2

-- a column with three nonzeros excludes a star
pub not_star : (M : ℕ → ℕ → Bool) (S : List ℕ) (column : ℕ) → HasThree M S column → ¬ (HasNoThree M S)
not_star M S column h none = none column h.one h.two h.three h.one_in h.two_in h.three_in h.nonzero.0 h.nonzero.1 h.nonzero.2 h.apart.0 h.apart.1 h.apart.2

-- ---- counts up to three

-- the count increases by 1 if the predicate is true
pub more_than : (k n : ℕ) (b : Bool) → nat_lt (suc k) (n + cond b 1 0) ≡ (nat_lt (suc k) n || (nat_lt k n && b))
more_than k n true = elim (cases_lt k n) [
  | inl l ↦ is_lt (suc k) (n + 1) (omega arith) ∙ sym (ap (λ t. nat_lt (suc k) n || (t && true)) (is_lt k n l) ∙ or_true (nat_lt (suc k) n))
  | inr l ↦ is_not_lt (suc k) (n + 1) (omega arith) ∙ sym (ap₂ (λ s t. s || (t && true)) (is_not_lt (suc k) n (omega arith)) (is_not_lt k n l))
]
more_than k n false = ap (nat_lt (suc k)) (let e : n + 0 ≡ n = omega arith in e) ∙ sym (ap (λ t. nat_lt (suc k) n || t) (and_false (nat_lt k n)) ∙ or_false (nat_lt (suc k) n))

pub more_than_none : (n : ℕ) (b : Bool) → nat_lt 0 (n + cond b 1 0) ≡ (nat_lt 0 n || b)
more_than_none n true = is_lt 0 (n + 1) (omega arith) ∙ sym (or_true (nat_lt 0 n))
more_than_none n false = ap (nat_lt 0) (let e : n + 0 ≡ n = omega arith in e) ∙ sym (or_false (nat_lt 0 n))

-- the properties of the first column with three nonzeros
pub first_is : (m : Matrix) (S set : List ℕ) (found : Option ℕ) → IsStrictlyIncreasing S → AreMore m S 2 set
    → MatchOption found ((column : ℕ) → has_column set column ≡ false) (λ first. (has_column set first ≡ true) × ((column : ℕ) → column < first → has_column set column ≡ false))
    → MatchOption found (HasNoThree (support m) S) (IsFirstWithThree (support m) S)
first_is m S set None increases counted h = λ column r s t hr hs ht er es et rs rt st.
    let three = three_count (λ row. support m row column) S r s t hr hs ht rs rt st er es et in
    let f = length-filter (λ row. support m row column) S in
    not_both (has_column set column) (counted column ∙ is_lt 2 (count_by (λ row. support m row column) S) (omega arith)) (h column)
first_is m S set (Some first) increases counted h = record {
  here = three_here (support m) first S (increasing_distinct S increases)
      (let l = lt_of 2 (count_by (λ row. support m row first) S) (sym (counted first) ∙ h.0) in let f = length-filter (λ row. support m row first) S in omega arith);
  first = λ other l three.
      let k = here_three (support m) other S three in
      let f = length-filter (λ row. support m row other) S in
      not_both (has_column set other) (counted other ∙ is_lt 2 (count_by (λ row. support m row other) S) (omega arith)) (h.1 other l);
}

-- ---- the first rows, up to the third nonzero of a column

-- a row that is not 0 in a column with two nonzeros before it
pub third_found : (m : Matrix) (S : List ℕ) (k column : ℕ) → IsStrictlyIncreasing S → k < length S
    → nat_lt 1 (count_by (λ row. support m row column) (take k S)) ≡ true → support m (get_or S k 0) column ≡ true → ¬ (HasNoThree (support m) S)
third_found m S k column increases low two here =
    let p : ℕ → Bool = λ row. support m row column in
    let more = count_by_more_yes p S k 0 low here in
    let l = lt_of 1 (count_by p (take k S)) two in
    let f = length-filter p S in
    let g : count_by p (take (k + 1) S) ≤ count_by p S = sum_by-take-le (λ row. cond (p row) 1 0) S (k + 1) in
    not_star (support m) S column (three_here (support m) column S (increasing_distinct S increases) (omega arith))

-- another row, without a third nonzero
pub no_third_more : (m : Matrix) (S : List ℕ) (k : ℕ) (ones twos more_ones more_twos : Bits) (row : List ℕ) → HaveNoThird m S k ones twos → k < length S
    → more_ones.size ≡ ones.size → more_twos.size ≡ twos.size
    → ((column : ℕ) → has_column row column ≡ support m (get_or S k 0) column)
    → ((column : ℕ) → has_column more_twos.words column ≡ (has_column twos.words column || (has_column ones.words column && has_column row column)))
    → ((column : ℕ) → has_column more_ones.words column ≡ (has_column ones.words column || has_column row column))
    → ¬ (HasCommon twos.words row) → HaveNoThird m S (k + 1) more_ones more_twos
no_third_more m S k ones twos more_ones more_twos row so low ones_size twos_size row_is doubled added none =
    let x = get_or S k 0 in
    let n : ℕ → ℕ = λ column. count_by (λ r. support m r column) (take k S) in
    let more : (column : ℕ) → count_by (λ r. support m r column) (take (k + 1) S) ≡ n column + cond (support m x column) 1 0 = λ column. sum_by_more (λ r. cond (support m r column) 1 0) S k 0 low in
    record {
      matrix = so.matrix;
      ones_size = ones_size ∙ so.ones_size;
      twos_size = twos_size ∙ so.twos_size;
      once = λ column.
          added column ∙ ap₂ (λ s t. s || t) (so.once column) (row_is column)
          ∙ sym (ap (nat_lt 0) (more column) ∙ more_than_none (n column) (support m x column));
      twice = λ column.
          doubled column ∙ ap₂ (λ s t. s || t) (so.twice column) (ap₂ (λ s t. s && t) (so.once column) (row_is column))
          ∙ sym (ap (nat_lt 1) (more column) ∙ more_than 0 (n column) (support m x column));
      few = λ column.
          ap (nat_lt 2) (more column) ∙ more_than 1 (n column) (support m x column)
          ∙ ap₂ (λ s t. s || t) (so.few column) (false_is (nat_lt 1 (n column) && support m x column) (λ e. let h = and_is (nat_lt 1 (n column)) (support m x column) e in none (column, so.twice column ∙ h.0, row_is column ∙ h.1)));
    }

-- all rows, without a third nonzero
pub no_third_ends : (m : Matrix) (S : List ℕ) (k : ℕ) (ones twos : Bits) → HaveNoThird m S k ones twos → length S ≤ k → HasNoThree (support m) S
no_third_ends m S k ones twos so l = λ column r s t hr hs ht er es et rs rt st.
    let p : ℕ → Bool = λ row. support m row column in
    let three = three_count p S r s t hr hs ht rs rt st er es et in
    let f = length-filter p S in
    not_both (nat_lt 2 (count_by p S)) (is_lt 2 (count_by p S) (omega arith)) (ap (λ (xs : List ℕ). nat_lt 2 (count_by p xs)) (sym (take_all k S l)) ∙ so.few column)
