-- The cycle of a forced entry has two ones in each of its lines, and an even sum of signs.
use Rattle.std.specs.Prelude.{IfOk}
use Rattle.std.proofs.Common.{Result, Ok, Err, ◌≡◌, ◌≢◌, ◌∙◌, ◌<◌, ◌⊎◌, ◌↔◌, ℕ, zero, suc, ℤ, pos, ◌+ℤ◌, ◌-ℤ◌, List, [], ◌∷◌, inl, inr, refl, sym, ap, subst, arith}
use Rattle.std.proofs.lemmas.Bool.{cases_lt}
use Rattle.cmr_base.specs.Matrix.{Matrix, height, entry, with_entry, IsMatrix, IsEntry}
use Rattle.cmr_base.specs.Signing.{IsSign}
use Rattle.cmr_base.specs.Sums.{sum_over, IsEven, IsOdd}
use Rattle.cmr_base.specs.Members.{IsIn, IsDistinct}
use Rattle.cmr_base.specs.LineSets.{IsRowSet, IsColumnSet, submatrix_sum}
use Rattle.cmr_base.specs.CyclePlaces.{IsPath, IsCyclePlace, cycle_rows, cycle_columns, path_rows, path_columns}
use Rattle.cmr_base.specs.declared.line_set.LineSet.{LineSet}
use Rattle.cmr_base.proofs.Integers.{sums}
use Rattle.cmr_base.proofs.Lists.{all_of}
use Rattle.cmr_base.proofs.Members.{all_in, increasing_are_distinct, sum_over_members}
use Rattle.cmr_base.proofs.IncreasingLists.{row_set_increases, column_set_increases}
use Rattle.cmr_base.proofs.SumLaws.{sum_over_same}
use Rattle.cmr_base.proofs.Entries.{no_minus}
use Rattle.ghouila.proofs.SignedSums.{zero_or_sign}
use Rattle.ghouila.proofs.SignProducts.{sign_nonzero}
use Rattle.ghouila.proofs.Cycles.{IsCycle, one_term, two_terms, rows_even}
use Rattle.ghouila.proofs.Routes.{Route, route, place_cycle, sum_by_places, rows_apart, columns_apart}
use Rattle.cmr_base.specs.Trees.{IsBinary}
use Rattle.chains.specs.SignSteps.{AreSigns, IsUnsignedOne}
use Rattle.camion_sign.specs.SignOrder.{IsPlaceOf, IsCycleLines, IsNextForced, IsRowsTurn}
use Rattle.chains.specs.Chains.{HasTwoEach, IsForcedStep}
use Rattle.chains.proofs.GivenSigns.{one_more, signs_more, keeps}
use Rattle.chains.proofs.ChainViolators.{one_entry}
use Rattle.camion_sign.proofs.LineLists.{path_rows_low}

-- the columns of the place in increasing order
pub record IsOrdered (a : Matrix) (t c d : ℕ) (cycle : LineSet) : Type 0 where
  pub first : ℕ
  pub last : ℕ
  pub path : List ℕ
  pub place : IsCyclePlace (entry a) t first last path
  pub ends : ((first ≡ c) × (last ≡ d)) ⊎ ((first ≡ d) × (last ≡ c))
  pub row_set : IsRowSet a cycle.rows
  pub column_set : IsColumnSet a cycle.columns
  pub rows_are : (line : ℕ) → IsIn line cycle.rows ↔ IsIn line (cycle_rows t path)
  pub columns_are : (line : ℕ) → IsIn line cycle.columns ↔ IsIn line (cycle_columns first last path)

swapped : (c d : ℕ) (path : List ℕ) (line : ℕ) → IsIn line (cycle_columns c d path) → IsIn line (cycle_columns d c path)
swapped c d path line (inl e) = inr (inl e)
swapped c d path line (inr (inl e)) = inl e
swapped c d path line (inr (inr h)) = inr (inr h)

pub ordered : (a : Matrix) (t c d : ℕ) (cycle : LineSet) → IsCycleLines a t c d cycle → IsOrdered a t c d cycle
ordered a t c d cycle q = go q.place
  where
    go : IsPlaceOf a t c d q.path → IsOrdered a t c d cycle
    go (inl p) = record { first = c; last = d; path = q.path; place = p; ends = inl (refl, refl); row_set = q.row_set; column_set = q.column_set; rows_are = q.rows_are; columns_are = q.columns_are }
    go (inr p) = record {
      first = d;
      last = c;
      path = q.path;
      place = p;
      ends = inr (refl, refl);
      row_set = q.row_set;
      column_set = q.column_set;
      rows_are = q.rows_are;
      columns_are = λ line. ((λ h. swapped c d q.path line ((q.columns_are line).0 h)), (λ h. (q.columns_are line).1 (swapped d c q.path line h)));
    }

-- row t is 0 in the inner columns
inner_zero : (M : ℕ → ℕ → ℤ) (t c d : ℕ) (path : List ℕ) → IsPath M t c d path → (j : ℕ) → IsIn j (path_columns path) → M t j ≡ pos 0
inner_zero M t c d [] h j g = absurd h
inner_zero M t c d (r ∷ []) h j g = absurd g
inner_zero M t c d (r ∷ x ∷ lines) h j (inl e) = subst (λ y. M t y ≡ pos 0) (sym e) h.3
inner_zero M t c d (r ∷ x ∷ lines) h j (inr g) = inner_zero M t x d lines h.4 j g

one_is : (a : Matrix) → IsBinary a → (i j : ℕ) → IsSign (entry a i j) → entry a i j ≡ pos 1
one_is a binary i j (inl e) = e
one_is a binary i j (inr e) = absurd (no_minus a binary i j e)

module _ (a : Matrix) (is : IsMatrix a) (t c d : ℕ) (cycle : LineSet) (o : IsOrdered a t c d cycle) where
  pub the_route : Route (entry a) is.small t o.first o.last o.path
  the_route = route (entry a) is.small t o.first o.last o.path o.place.is_path

  the_cycle : IsCycle (entry a) t the_route.k the_route.way.row the_route.way.col
  the_cycle = place_cycle (entry a) is.small t o.first o.last o.path o.place the_route

  distinct_rows : IsDistinct cycle.rows
  distinct_rows = increasing_are_distinct 0 (height a) cycle.rows (row_set_increases a cycle.rows o.row_set)

  distinct_columns : IsDistinct cycle.columns
  distinct_columns = increasing_are_distinct 0 a.width cycle.columns (column_set_increases a cycle.columns o.column_set)

  -- sums over the cycle's lines
  row_sums : (f : ℕ → ℤ) → sum_over cycle.rows f ≡ sum_over (cycle_rows t o.path) f
  row_sums f = sum_over_members cycle.rows (cycle_rows t o.path) f distinct_rows (rows_apart (entry a) is.small t o.first o.last o.path o.place the_route) (λ i. (o.rows_are i).0) (λ i. (o.rows_are i).1)

  column_sums : (f : ℕ → ℤ) → sum_over cycle.columns f ≡ sum_over (cycle_columns o.first o.last o.path) f
  column_sums f = sum_over_members cycle.columns (cycle_columns o.first o.last o.path) f distinct_columns (columns_apart (entry a) is.small t o.first o.last o.path o.place the_route) (λ j. (o.columns_are j).0) (λ j. (o.columns_are j).1)

  pub whole_sum : (N : ℕ → ℕ → ℤ) → sum_over cycle.rows (λ i. sum_over cycle.columns (λ j. N i j)) ≡ sum_over (cycle_rows t o.path) (λ i. sum_over (cycle_columns o.first o.last o.path) (λ j. N i j))
  whole_sum N = row_sums (λ i. sum_over cycle.columns (λ j. N i j))
      ∙ sum_over_same (cycle_rows t o.path) (λ i. sum_over cycle.columns (λ j. N i j)) (λ i. sum_over (cycle_columns o.first o.last o.path) (λ j. N i j)) (all_of _ (λ i. column_sums (λ j. N i j)) (cycle_rows t o.path))

  -- signs in the cycle's nonzeros
  pub signed_cycle : (N : ℕ → ℕ → ℤ) → ((i j : ℕ) → IsEntry (N i j)) → ((i j : ℕ) → entry a i j ≡ pos 0 → N i j ≡ pos 0) → ((i j : ℕ) → i < t → entry a i j ≢ pos 0 → N i j ≢ pos 0)
      → N t o.first ≢ pos 0 → N t o.last ≢ pos 0 → IsCycle N t the_route.k the_route.way.row the_route.way.col
  signed_cycle N small inside earlier first last = record {
    long = the_cycle.long;
    here = λ i l. sign i (the_route.way.col i) l (the_cycle.here i l);
    next = λ i l. sign i (the_route.way.col (suc i)) l (the_cycle.next i l);
    none = λ i j l m d e. inside (the_route.way.row i) (the_route.way.col j) (the_cycle.none i j l m d e);
    first = subst (λ x. IsSign (N t x)) (sym the_route.way.starts) (unit t o.first first);
    last = subst (λ x. IsSign (N t x)) (sym the_route.way.ends) (unit t o.last last);
    inner = λ j l m. inside t (the_route.way.col j) (the_cycle.inner j l m);
  }
    where
      unit : (i j : ℕ) → N i j ≢ pos 0 → IsSign (N i j)
      unit i j h = elim (zero_or_sign (N i j) (small i j)) [ inl z ↦ absurd (h z) | inr u ↦ u ]

      sign : (i x : ℕ) → i < the_route.k → IsSign (entry a (the_route.way.row i) x) → IsSign (N (the_route.way.row i) x)
      sign i x l u = unit (the_route.way.row i) x (earlier (the_route.way.row i) x (the_route.way.rows i l) (sign_nonzero (entry a (the_route.way.row i) x) u))

  even_whole : (N : ℕ → ℕ → ℤ) → IsCycle N t the_route.k the_route.way.row the_route.way.col → IsEven (sum_over cycle.rows (λ i. sum_over cycle.columns (λ j. N i j)))
  even_whole N y = subst IsEven (sym (whole_sum N ∙ sum_by_places (entry a) is.small t o.first o.last o.path the_route N)) (rows_even N t the_route.k the_route.way.row the_route.way.col y)

  module _ (binary : IsBinary a) where
    two : (x y : ℤ) → x ≡ pos 1 → y ≡ pos 1 → x +ℤ y ≡ pos 2
    two x y e f = rw (e, f) refl

    inner_two : (i : ℕ) → i < the_route.k → sum_over (cycle_columns o.first o.last o.path) (entry a (the_route.way.row i)) ≡ pos 2
    inner_two i l = the_route.columns_are (entry a (the_route.way.row i))
        ∙ two_terms (λ j. entry a (the_route.way.row i) (the_route.way.col j)) (suc the_route.k) i (omega arith) (λ j m x y. the_cycle.none i j l (omega arith) x y)
        ∙ two (entry a (the_route.way.row i) (the_route.way.col (suc i))) (entry a (the_route.way.row i) (the_route.way.col i))
        (one_is a binary (the_route.way.row i) (the_route.way.col (suc i)) (the_cycle.next i l)) (one_is a binary (the_route.way.row i) (the_route.way.col i) (the_cycle.here i l))

    last_two : sum_over (cycle_columns o.first o.last o.path) (entry a t) ≡ pos 2
    last_two = the_route.columns_are (entry a t)
        ∙ ap (λ z. entry a t (the_route.way.col the_route.k) +ℤ z) (one_term (λ j. entry a t (the_route.way.col j)) the_route.k 0 the_cycle.long (λ j m x. the_cycle.inner j (omega arith) m))
        ∙ two (entry a t (the_route.way.col the_route.k)) (entry a t (the_route.way.col 0)) (one_is a binary t (the_route.way.col the_route.k) the_cycle.last) (one_is a binary t (the_route.way.col 0) the_cycle.first)

    column_two : (j : ℕ) → j < suc the_route.k → sum_over (cycle_rows t o.path) (λ i. entry a i (the_route.way.col j)) ≡ pos 2
    column_two zero l = ap (λ z. entry a t (the_route.way.col 0) +ℤ z) (the_route.rows_are (λ i. entry a i (the_route.way.col 0))
        ∙ one_term (λ i. entry a (the_route.way.row i) (the_route.way.col 0)) the_route.k 0 the_cycle.long (λ j m x. the_cycle.none j 0 m (omega arith) (omega arith) (omega arith)))
        ∙ two (entry a t (the_route.way.col 0)) (entry a (the_route.way.row 0) (the_route.way.col 0)) (one_is a binary t (the_route.way.col 0) the_cycle.first) (one_is a binary (the_route.way.row 0) (the_route.way.col 0) (the_cycle.here 0 the_cycle.long))
    column_two (suc j) l = elim (cases_lt (suc j) the_route.k) [
      | inl lt ↦ after (entry a t (the_route.way.col (suc j))) (sum_over (path_rows o.path) (λ i. entry a i (the_route.way.col (suc j)))) (the_cycle.inner (suc j) (omega arith) lt)
          (the_route.rows_are (λ i. entry a i (the_route.way.col (suc j)))
          ∙ two_terms (λ i. entry a (the_route.way.row i) (the_route.way.col (suc j))) the_route.k j lt (λ i m x y. the_cycle.none i (suc j) m (omega arith) (omega arith) (omega arith))
          ∙ two (entry a (the_route.way.row (suc j)) (the_route.way.col (suc j))) (entry a (the_route.way.row j) (the_route.way.col (suc j)))
          (one_is a binary (the_route.way.row (suc j)) (the_route.way.col (suc j)) (the_cycle.here (suc j) lt)) (one_is a binary (the_route.way.row j) (the_route.way.col (suc j)) (the_cycle.next j (omega arith))))
      | inr ge ↦ let e : suc j ≡ the_route.k = omega arith in
          ap (λ z. entry a t (the_route.way.col (suc j)) +ℤ z) (the_route.rows_are (λ i. entry a i (the_route.way.col (suc j)))
          ∙ one_term (λ i. entry a (the_route.way.row i) (the_route.way.col (suc j))) the_route.k j (omega arith) (λ i m x. the_cycle.none i (suc j) m (omega arith) (omega arith) (omega arith)))
          ∙ two (entry a t (the_route.way.col (suc j))) (entry a (the_route.way.row j) (the_route.way.col (suc j)))
          (one_is a binary t (the_route.way.col (suc j)) (subst (λ x. IsSign (entry a t (the_route.way.col x))) (sym e) the_cycle.last))
          (one_is a binary (the_route.way.row j) (the_route.way.col (suc j)) (the_cycle.next j (omega arith)))
    ]
      where
        after : (x y : ℤ) → x ≡ pos 0 → y ≡ pos 2 → x +ℤ y ≡ pos 2
        after x y e f = rw (e, f) refl

    has_two_each : HasTwoEach a cycle.rows cycle.columns
    has_two_each = record {
      row_twos = λ i h. column_sums (entry a i) ∙ all_in (λ x. sum_over (cycle_columns o.first o.last o.path) (entry a x) ≡ pos 2) (cycle_rows t o.path)
          (last_two, the_route.rows_all (λ x. sum_over (cycle_columns o.first o.last o.path) (entry a x) ≡ pos 2) inner_two) i ((o.rows_are i).0 h);
      column_twos = λ j h. row_sums (λ i. entry a i j) ∙ all_in (λ x. sum_over (cycle_rows t o.path) (λ i. entry a i x) ≡ pos 2) (cycle_columns o.first o.last o.path)
          (the_route.columns_all (λ x. sum_over (cycle_rows t o.path) (λ i. entry a i x) ≡ pos 2) column_two) j ((o.columns_are j).0 h);
    }

-- a one in the cycle's row is in one of the two columns
own_column : (a : Matrix) (t c d : ℕ) (cycle : LineSet) → IsOrdered a t c d cycle → (j : ℕ) → IsIn j cycle.columns → entry a t j ≢ pos 0 → (j ≡ c) ⊎ (j ≡ d)
own_column a t c d cycle o j h one = go ((o.columns_are j).0 h) o.ends
  where
    go : (j ≡ o.first) ⊎ ((j ≡ o.last) ⊎ IsIn j (path_columns o.path)) → ((o.first ≡ c) × (o.last ≡ d)) ⊎ ((o.first ≡ d) × (o.last ≡ c)) → (j ≡ c) ⊎ (j ≡ d)
    go (inl e) (inl q) = inl (e ∙ q.0)
    go (inl e) (inr q) = inr (e ∙ q.0)
    go (inr (inl e)) (inl q) = inr (e ∙ q.1)
    go (inr (inl e)) (inr q) = inl (e ∙ q.1)
    go (inr (inr g)) q = absurd (one (inner_zero (entry a) t o.first o.last o.path o.place.is_path j g))

row_or_earlier : (a : Matrix) (t c d : ℕ) (cycle : LineSet) → IsOrdered a t c d cycle → (i : ℕ) → IsIn i cycle.rows → (i ≡ t) ⊎ (i < t)
row_or_earlier a t c d cycle o i h = elim ((o.rows_are i).0 h) [
  | inl e ↦ inl e
  | inr g ↦ inr (path_rows_low a t o.first o.last o.path o.place.is_path i g)
]

-- both columns of the place and its row are in the cycle
ends_in : (a : Matrix) (t c d : ℕ) (cycle : LineSet) → IsCycleLines a t c d cycle → IsIn t cycle.rows × IsIn d cycle.columns
ends_in a t c d cycle q = ((q.rows_are t).1 (inl refl), (q.columns_are d).1 (inr (inl refl)))

module _ (a s : Matrix) (is : IsMatrix a) (signs : AreSigns a s) (t c d : ℕ) (turn : IsRowsTurn a s t) (here : IsUnsignedOne a s t d) (signed : entry s t c ≢ pos 0) (cycle : LineSet) (lines : IsCycleLines a t c d cycle) where
  -- another sign adds to the cycle's sum
  pub sum_more : (v : ℤ) → submatrix_sum (with_entry s t d v) cycle.rows cycle.columns ≡ submatrix_sum s cycle.rows cycle.columns +ℤ v
  sum_more v = plain (submatrix_sum (with_entry s t d v) cycle.rows cycle.columns) (submatrix_sum s cycle.rows cycle.columns) (entry (with_entry s t d v) t d) (entry s t d) v
      (one_entry (entry (with_entry s t d v)) (entry s) cycle.rows cycle.columns t d
      (increasing_are_distinct 0 (height a) cycle.rows (row_set_increases a cycle.rows lines.row_set)) (increasing_are_distinct 0 a.width cycle.columns (column_set_increases a cycle.columns lines.column_set))
      (ends_in a t c d cycle lines).0 (ends_in a t c d cycle lines).1 (λ i j h g e. (one_more a s is.rectangular signs t d v here.one).other i j e))
      (one_more a s is.rectangular signs t d v here.one).here here.no_sign
    where
      plain : (x y p q v : ℤ) → x -ℤ y ≡ p -ℤ q → p ≡ v → q ≡ pos 0 → x ≡ y +ℤ v
      plain x y p q v e f g = omega (arith, sums)

  -- the sum is odd before
  pub odd_sum : IsOdd (submatrix_sum s cycle.rows cycle.columns)
  odd_sum = subst IsEven (sum_more (pos 1)) (even_whole a is t c d cycle o (entry n) (signed_cycle a is t c d cycle o (entry n) more.ternary.small more.inside
      (λ i j l h. keeps s n t d (pos 1) (inl refl) (one_more a s is.rectangular signs t d (pos 1) here.one) i j (turn.earlier i j l h)) (at o.ends).0 (at o.ends).1))
    where
      o : IsOrdered a t c d cycle
      o = ordered a t c d cycle lines

      n : Matrix
      n = with_entry s t d (pos 1)

      more : AreSigns a (with_entry s t d (pos 1))
      more = signs_more a s is.rectangular signs t d (pos 1) here.one (inl refl)

      old : entry (with_entry s t d (pos 1)) t c ≢ pos 0
      old = keeps s (with_entry s t d (pos 1)) t d (pos 1) (inl refl) (one_more a s is.rectangular signs t d (pos 1) here.one) t c signed

      new : entry (with_entry s t d (pos 1)) t d ≢ pos 0
      new e = sign_nonzero (pos 1) (inl refl) (sym (one_more a s is.rectangular signs t d (pos 1) here.one).here ∙ e)

      at : ((o.first ≡ c) × (o.last ≡ d)) ⊎ ((o.first ≡ d) × (o.last ≡ c)) → (entry (with_entry s t d (pos 1)) t o.first ≢ pos 0) × (entry (with_entry s t d (pos 1)) t o.last ≢ pos 0)
      at (inl q) = (subst (λ x. entry (with_entry s t d (pos 1)) t x ≢ pos 0) (sym q.0) old, subst (λ x. entry (with_entry s t d (pos 1)) t x ≢ pos 0) (sym q.1) new)
      at (inr q) = (subst (λ x. entry (with_entry s t d (pos 1)) t x ≢ pos 0) (sym q.0) new, subst (λ x. entry (with_entry s t d (pos 1)) t x ≢ pos 0) (sym q.1) old)

-- a forced entry keeps the rule of chains
pub forced_step : (a s : Matrix) → IsMatrix a → IsBinary a → AreSigns a s → (t d : ℕ) (cycle : LineSet) (v : ℤ) → IsRowsTurn a s t → IsNextForced a s t d cycle v → IsForcedStep a s t d cycle v
forced_step a s is binary signs t d cycle v turn next = record {
  here = next.here;
  row_set = next.cycle_is.row_set;
  column_set = next.cycle_is.column_set;
  row_in = (ends_in a t next.partner d cycle next.cycle_is).0;
  column_in = (ends_in a t next.partner d cycle next.cycle_is).1;
  two_each = has_two_each a is t next.partner d cycle o binary;
  others = λ i j h g one other. elim (row_or_earlier a t next.partner d cycle o i h) [
    | inr l ↦ turn.earlier i j l one
    | inl e ↦ elim (own_column a t next.partner d cycle o j g (subst (λ x. entry a x j ≢ pos 0) e one)) [
      | inl q ↦ subst (λ x. entry s x j ≢ pos 0) (sym e) (subst (λ y. entry s t y ≢ pos 0) (sym q) next.signed)
      | inr q ↦ elim other [ inl n ↦ absurd (n e) | inr n ↦ absurd (n q) ]
    ]
  ];
  is_sign = next.is_sign;
  four = next.four;
}
  where
    o : IsOrdered a t next.partner d cycle
    o = ordered a t next.partner d cycle next.cycle_is

-- the same with its columns exchanged
pub exchanged_lines : (a : Matrix) (t c d : ℕ) (cycle : LineSet) → IsCycleLines a t c d cycle → IsCycleLines a t d c cycle
exchanged_lines a t c d cycle h = record {
  path = h.path;
  place = elim h.place [ inl p ↦ inr p | inr p ↦ inl p ];
  row_set = h.row_set;
  column_set = h.column_set;
  rows_are = h.rows_are;
  columns_are = λ line. ((λ g. swapped c d h.path line ((h.columns_are line).0 g)), (λ g. (h.columns_are line).1 (swapped d c h.path line g)));
}

pub exchanged : {E : Type 0} (a : Matrix) (t c d : ℕ) (result : Result LineSet E) → IfOk result (IsCycleLines a t c d) → IfOk result (IsCycleLines a t d c)
exchanged a t c d (Err e) h = h
exchanged a t c d (Ok cycle) h = exchanged_lines a t c d cycle h
