-- A fault on a set of rows is connected if no smaller set of rows has a fault.
use Rattle.std.proofs.Common.{◌≡◌, ◌≢◌, ◌<◌, ◌≤◌, zero, suc, ◌∙◌, ◌⊎◌, inl, inr, ℕ, Bool, true, false, not, ℤ, pos, ◌+ℤ◌, ◌-ℤ◌, List, length, refl, ap, sym, subst, arith}
use Rattle.std.specs.Prelude.{filter}
use Rattle.std.proofs.lemmas.Bool.{false≢true, cases_eq}
use Rattle.cmr_base.specs.Matrix.{Matrix, height, entry, IsEntry}
use Rattle.cmr_base.specs.LineSets.{IsRowSet, IsColumnSet, set_number}
use Rattle.cmr_base.specs.Members.{IsIn}
use Rattle.cmr_base.specs.Signing.{IsSign}
use Rattle.cmr_base.specs.Sums.{sum_over, IsEven, IsTwoModFour}
use Rattle.cmr_base.proofs.Integers.{sums}
use Rattle.cmr_base.proofs.Lists.{all_of}
use Rattle.cmr_base.proofs.Members.{all_in, all_of_members}
use Rattle.cmr_base.proofs.Parity.{IsFour, even-sum_over, four-double, two_mod_four-add}
use Rattle.cmr_base.proofs.IncreasingLists.{row_set_increases, column_set_increases, increasing_row_set, increasing_column_set}
use Rattle.cmr_base.proofs.RowLists.{filter_in, in_filter}
use Rattle.cmr_base.proofs.SumLaws.{sum_over_same, sum_over-add, sum_over-exchange}
use Rattle.cmr_base.proofs.Booleans.{not_is, not_false}
use Rattle.ghouila.proofs.Cycles.{four_or_two}
use Rattle.ghouila.proofs.SignProducts.{sign_nonzero}
use Rattle.ghouila.proofs.SignedSums.{zero_or_sign}
use Rattle.balance.specs.BalanceFaults.{row_nonzeros, column_nonzeros, IsBalanceFault}
use Rattle.balance.specs.SearchedFaults.{HasNoFaultBelow}
use Rattle.balance.proofs.NonzeroCounts.{mark, mark_zero, mark_sign, counted, two_from_sum, two_is_even}
use Rattle.balance.proofs.FilterSums.{with_line, sum-with_line, all-with_line, increases-with_line, sum_split, sum_part, sum_empty, number_less, increases-part, fewer_kept}
use Rattle.balance.proofs.ColumnPairs.{some_nonzero, one_term, third_zero}
use Rattle.balance.proofs.AddedLines.{added, only, added_true, added_old, added_new, added_false, not_added, sum_added, sum_only}

true_apart : (a b : Bool) → a ≡ b → a ≡ true → b ≡ false → ⊥
true_apart a b e f g = false≢true (sym g ∙ sym e ∙ f)

pub less_four : (s a b : ℤ) → a +ℤ b ≡ s → IsFour a → IsTwoModFour s → IsTwoModFour b
less_four s a b e (k, f) (l, g) = (l -ℤ k, omega (arith, sums))

module _ (m : Matrix) (small : (i j : ℕ) → IsEntry (entry m i j)) (R C : List ℕ) (row_set : IsRowSet m R) (column_set : IsColumnSet m C) (f : IsBalanceFault (entry m) R C) (before : HasNoFaultBelow m (set_number R)) where
  pub rows_two : (i : ℕ) → IsIn i R → sum_over C (λ j. mark (entry m i j)) ≡ pos 2
  rows_two i h = counted (λ j. entry m i j) C ∙ ap pos (all_in (λ x. row_nonzeros (entry m) C x ≡ 2) R f.two_in_rows i h)

  pub columns_two : (j : ℕ) → IsIn j C → sum_over R (λ i. mark (entry m i j)) ≡ pos 2
  columns_two j h = counted (λ i. entry m i j) R ∙ ap pos (all_in (λ x. column_nonzeros (entry m) R x ≡ 2) C f.two_in_columns j h)

  -- no part of the rows has a fault
  pub no_lesser : (p : ℕ → Bool) (D : List ℕ) (r : ℕ) → IsIn r R → p r ≡ false → IsColumnSet m D → ((i : ℕ) → IsIn i R → p i ≡ true → sum_over D (λ j. mark (entry m i j)) ≡ pos 2)
      → ((j : ℕ) → IsIn j D → sum_over (filter p R) (λ i. mark (entry m i j)) ≡ pos 2) → IsTwoModFour (sum_over (filter p R) (λ i. sum_over D (λ j. entry m i j))) → ⊥
  no_lesser p D r there out is rows columns two = before (filter p R) (increasing_row_set m (filter p R) (increases-part p 0 (height m) R (row_set_increases m R row_set))) (number_less p R r there out) D is (record {
    two_in_rows = all_of_members (λ i. row_nonzeros (entry m) D i ≡ 2) (filter p R) (λ i h. let k = in_filter p i R h in two_from_sum (λ j. entry m i j) D (rows i k.0 k.1));
    two_in_columns = all_of_members (λ j. column_nonzeros (entry m) (filter p R) j ≡ 2) D (λ j h. two_from_sum (λ i. entry m i j) (filter p R) (columns j h));
    two_mod_four = two;
  })

  -- each nonzero is in both parts or in neither
  abbrev pub IsClosed : (ℕ → Bool) → (ℕ → Bool) → Type 0
  IsClosed p q = (i j : ℕ) → IsIn i R → IsIn j C → entry m i j ≢ pos 0 → p i ≡ q j

  pub closed_rest : (p q : ℕ → Bool) → IsClosed p q → IsClosed (λ i. not (p i)) (λ j. not (q j))
  closed_rest p q c i j h k n = ap not (c i j h k n)

  across : (p q : ℕ → Bool) → IsClosed p q → (i j : ℕ) → IsIn i R → IsIn j C → (p i ≡ q j → ⊥) → entry m i j ≡ pos 0
  across p q c i j h k apart = elim (zero_or_sign (entry m i j) (small i j)) [ inl e ↦ e | inr u ↦ absurd (apart (c i j h k (sign_nonzero (entry m i j) u))) ]

  part_rows : (p q : ℕ → Bool) → IsClosed p q → (g : ℤ → ℤ) → ((z : ℤ) → z ≡ pos 0 → g z ≡ pos 0) → (i : ℕ) → IsIn i R → p i ≡ true
      → sum_over (filter q C) (λ j. g (entry m i j)) ≡ sum_over C (λ j. g (entry m i j))
  part_rows p q c g keeps i h e = sum_part q C (λ j. g (entry m i j)) (λ j k out. keeps (entry m i j) (across p q c i j h k (λ same. true_apart (p i) (q j) same e out)))

  part_columns : (p q : ℕ → Bool) → IsClosed p q → (j : ℕ) → IsIn j C → q j ≡ true → sum_over (filter p R) (λ i. mark (entry m i j)) ≡ pos 2
  part_columns p q c j h e = sum_part p R (λ i. mark (entry m i j)) (λ i k out. mark_zero (entry m i j) (across p q c i j k h (λ same. true_apart (q j) (p i) (sym same) e out))) ∙ columns_two j h

  -- a part with its sum is not a fault
  pub part_no_fault : (p q : ℕ → Bool) → IsClosed p q → (r : ℕ) → IsIn r R → p r ≡ false → IsTwoModFour (sum_over (filter p R) (λ i. sum_over (filter q C) (λ j. entry m i j))) → ⊥
  part_no_fault p q c r there out two = no_lesser p (filter q C) r there out (increasing_column_set m (filter q C) (increases-part q 0 m.width C (column_set_increases m C column_set)))
      (λ i h e. part_rows p q c mark mark_zero i h e ∙ rows_two i h)
      (λ j h. let k = in_filter q j C h in part_columns p q c j k.0 k.1) two

  pub part_sum : (p q : ℕ → Bool) → IsClosed p q → sum_over (filter p R) (λ i. sum_over (filter q C) (λ j. entry m i j)) ≡ sum_over (filter p R) (λ i. sum_over C (λ j. entry m i j))
  part_sum p q c = sum_over_same (filter p R) (λ i. sum_over (filter q C) (λ j. entry m i j)) (λ i. sum_over C (λ j. entry m i j))
      (all_of_members (λ i. sum_over (filter q C) (λ j. entry m i j) ≡ sum_over C (λ j. entry m i j)) (filter p R) (λ i h. let k = in_filter p i R h in part_rows p q c (λ z. z) (λ z e. e) i k.0 k.1))

  -- the only closed parts of the rows are the empty part and the whole
  pub no_part : (p q : ℕ → Bool) → IsClosed p q → (a b : ℕ) → IsIn a R → IsIn b R → p a ≡ true → p b ≡ false → ⊥
  no_part p q c a b a_in b_in in_part out = elim (four_or_two first even) [
    | inl four ↦ part_no_fault (λ i. not (p i)) (λ j. not (q j)) (closed_rest p q c) a a_in (ap not in_part)
        (less_four (sum_over R (λ i. sum_over C (λ j. entry m i j))) first rest both four f.two_mod_four)
    | inr two ↦ part_no_fault p q c b b_in out two
  ]
    where
      first : ℤ
      first = sum_over (filter p R) (λ i. sum_over (filter q C) (λ j. entry m i j))

      rest : ℤ
      rest = sum_over (filter (λ i. not (p i)) R) (λ i. sum_over (filter (λ j. not (q j)) C) (λ j. entry m i j))

      both : sum_over (filter p R) (λ i. sum_over (filter q C) (λ j. entry m i j)) +ℤ sum_over (filter (λ i. not (p i)) R) (λ i. sum_over (filter (λ j. not (q j)) C) (λ j. entry m i j)) ≡ sum_over R (λ i. sum_over C (λ j. entry m i j))
      both = rw (part_sum p q c, part_sum (λ i. not (p i)) (λ j. not (q j)) (closed_rest p q c)) (sum_split p R (λ i. sum_over C (λ j. entry m i j)))

      even : IsEven (sum_over (filter p R) (λ i. sum_over (filter q C) (λ j. entry m i j)))
      even = even-sum_over (filter p R) (λ i. sum_over (filter q C) (λ j. entry m i j))
          (all_of_members (λ i. IsEven (sum_over (filter q C) (λ j. entry m i j))) (filter p R) (λ i h. let k = in_filter p i R h in
          two_is_even (λ j. entry m i j) (λ j. small i j) (filter q C) (two_from_sum (λ j. entry m i j) (filter q C) (part_rows p q c mark mark_zero i k.0 k.1 ∙ rows_two i k.0))))

  -- ---- paths

  nonzero : (i j : ℕ) → entry m i j ≢ pos 0 → IsSign (entry m i j)
  nonzero i j h = elim (zero_or_sign (entry m i j) (small i j)) [ inl e ↦ absurd (h e) | inr u ↦ u ]

  row_rest : (q : ℕ → Bool) (i : ℕ) → IsIn i R → sum_over (filter q C) (λ j. mark (entry m i j)) ≡ pos 1 → sum_over (filter (λ j. not (q j)) C) (λ j. mark (entry m i j)) ≡ pos 1
  row_rest q i h e = let k = sum_split q C (λ j. mark (entry m i j)) in let l = rows_two i h in omega (arith, sums)

  pub other_row : (x j : ℕ) → IsIn x R → IsIn j C → IsSign (entry m x j) → (y : ℕ) × IsIn y R × (y ≢ x) × IsSign (entry m y j)
  other_row x j x_in j_in u =
      let here = sum_only x (height m) R (λ i. mark (entry m i j)) (row_set_increases m R row_set) x_in in
      let one = mark_sign (entry m x j) u in
      let k = sum_split (only x) R (λ i. mark (entry m i j)) in
      let l = columns_two j j_in in
      let rest : sum_over (filter (λ i. not (only x i)) R) (λ i. mark (entry m i j)) ≡ pos 1 = omega (arith, sums) in
      let found = some_nonzero (λ i. entry m i j) (λ i. small i j) (filter (λ i. not (only x i)) R) (λ e. omega (arith, sums)) in
      let there = in_filter (λ i. not (only x i)) found.0 R found.1 in
      (found.0, there.0, (added_false (λ i. false) x found.0 (not_is (only x found.0) there.1)).1, found.2)

  -- rows p and columns q are a path from row u to row x
  pub record IsPathTo (u x : ℕ) (p q : ℕ → Bool) : Type 0 where
    pub u_in : IsIn u R
    pub x_in : IsIn x R
    pub apart : u ≢ x
    pub first : p u ≡ true
    pub last : p x ≡ true
    pub columns : (i j : ℕ) → IsIn i R → IsIn j C → q j ≡ true → IsSign (entry m i j) → p i ≡ true
    pub inner : (i j : ℕ) → IsIn i R → IsIn j C → p i ≡ true → i ≢ u → i ≢ x → IsSign (entry m i j) → q j ≡ true
    pub first_one : sum_over (filter q C) (λ j. mark (entry m u j)) ≡ pos 1
    pub last_one : sum_over (filter q C) (λ j. mark (entry m x j)) ≡ pos 1

  -- a column does not join a third row
  no_third : (x y i j : ℕ) → IsIn x R → IsIn y R → IsIn i R → IsIn j C → x ≢ y → IsSign (entry m x j) → IsSign (entry m y j) → IsSign (entry m i j) → (i ≡ x) ⊎ (i ≡ y)
  no_third x y i j x_in y_in i_in j_in apart u v w = elim (cases_eq i x) [
    | inl e ↦ inl e
    | inr a ↦ elim (cases_eq i y) [
      | inl e ↦ inr e
      | inr b ↦ absurd (sign_nonzero (entry m i j) w (third_zero (λ k. entry m k j) (λ k. small k j) R (columns_two j j_in) x y i apart (λ e. a (sym e)) (λ e. b (sym e)) x_in y_in i_in u v))
    ]
  ]

  path_of_one : (u y c : ℕ) → IsIn u R → IsIn y R → IsIn c C → u ≢ y → IsSign (entry m u c) → IsSign (entry m y c) → IsPathTo u y (added (only u) y) (only c)
  path_of_one u y c u_in y_in c_in apart s t = record {
    u_in = u_in;
    x_in = y_in;
    apart = apart;
    first = added_old (only u) y u (added_new (λ i. false) u u refl);
    last = added_new (only u) y y refl;
    columns = λ i j i_in j_in here w. elim (added_true (λ k. false) c j here) [
      | inl e ↦ absurd (false≢true e)
      | inr e ↦ elim (no_third u y i c u_in y_in i_in c_in apart s t (subst (λ k. IsSign (entry m i k)) e w)) [
        | inl f ↦ added_old (only u) y i (added_new (λ k. false) u i f)
        | inr f ↦ added_new (only u) y i f
      ]
    ];
    inner = λ i j i_in j_in here a b w. elim (added_true (only u) y i here) [
      | inl e ↦ elim (added_true (λ k. false) u i e) [ inl f ↦ absurd (false≢true f) | inr f ↦ absurd (a f) ]
      | inr e ↦ absurd (b e)
    ];
    first_one = sum_only c m.width C (λ j. mark (entry m u j)) (column_set_increases m C column_set) c_in ∙ mark_sign (entry m u c) s;
    last_one = sum_only c m.width C (λ j. mark (entry m y j)) (column_set_increases m C column_set) c_in ∙ mark_sign (entry m y c) t;
  }

  record IsLonger (u : ℕ) (p : ℕ → Bool) : Type 0 where
    y : ℕ
    c : ℕ
    q : ℕ → Bool
    y_in : IsIn y R
    y_out : p y ≡ false
    path : IsPathTo u y (added p y) q

  longer : (u x v : ℕ) (p q : ℕ → Bool) → IsPathTo u x p q → IsIn v R → p v ≡ false → IsLonger u p
  longer u x v p q w v_in v_out = from_column (some_nonzero (λ j. entry m x j) (λ j. small x j) (filter (λ j. not (q j)) C) (λ e. let k = row_rest q x w.x_in w.last_one in omega (arith, sums)))
    where
      at_row : (c y : ℕ) → IsIn c C → q c ≡ false → IsSign (entry m x c) → IsIn y R → y ≢ x → IsSign (entry m y c) → (b : Bool) → p y ≡ b → IsLonger u p
      at_row c y c_in c_out s y_in y_apart t true there = elim (cases_eq y u) [
        | inr inside ↦ absurd (false≢true (sym c_out ∙ w.inner y c y_in c_in there inside y_apart t))
        | inl closing ↦ absurd (no_part p (added q c) (closed closing) u v w.u_in v_in w.first v_out)
      ]
        where
          full : (i : ℕ) → IsIn i R → mark (entry m i c) ≡ pos 1 → sum_over (filter q C) (λ j. mark (entry m i j)) ≡ pos 1 → (j : ℕ) → IsIn j C → added q c j ≡ false → IsSign (entry m i j) → ⊥
          full i i_in one rest j j_in out sign =
              let here = sum_added q c m.width C (λ k. mark (entry m i k)) (column_set_increases m C column_set) c_in c_out in
              let all = sum_split (added q c) C (λ k. mark (entry m i k)) in
              let two = rows_two i i_in in
              let none : sum_over (filter (λ k. not (added q c k)) C) (λ k. mark (entry m i k)) ≡ pos 0 = omega (arith, sums) in
              let j_there : IsIn j (filter (λ k. not (added q c k)) C) = filter_in (λ k. not (added q c k)) j C j_in (ap not out) in
              let some = one_term (λ k. entry m i k) (λ k. small i k) (filter (λ k. not (added q c k)) C) j j_there sign in
              omega (arith, sums)

          closed : y ≡ u → IsClosed p (added q c)
          closed e i j i_in j_in h = same (p i) (added q c j) refl refl
            where
              same : (a b : Bool) → p i ≡ a → added q c j ≡ b → p i ≡ added q c j
              same true true f g = f ∙ sym g
              same false false f g = f ∙ sym g
              same false true f g = absurd (false≢true (sym f ∙ elim (added_true q c j g) [
                | inl old ↦ w.columns i j i_in j_in old (nonzero i j h)
                | inr new ↦ elim (no_third x y i c w.x_in y_in i_in c_in (λ k. y_apart (sym k)) s t (subst (λ k. IsSign (entry m i k)) new (nonzero i j h))) [
                  | inl k ↦ ap p k ∙ w.last
                  | inr k ↦ ap p k ∙ there
                ]
              ]))
              same true false f g = elim (cases_eq i x) [
                | inl k ↦ absurd (full x w.x_in (mark_sign (entry m x c) s) w.last_one j j_in g (subst (λ r. IsSign (entry m r j)) k (nonzero i j h)))
                | inr a ↦ elim (cases_eq i u) [
                  | inl k ↦ absurd (full u w.u_in (mark_sign (entry m u c) (subst (λ r. IsSign (entry m r c)) e t)) w.first_one j j_in g (subst (λ r. IsSign (entry m r j)) k (nonzero i j h)))
                  | inr b ↦ absurd (false≢true (sym (added_false q c j g).0 ∙ w.inner i j i_in j_in f b a (nonzero i j h)))
                ]
              ]
      at_row c y c_in c_out s y_in y_apart t false there = record {
        y = y;
        c = c;
        q = added q c;
        y_in = y_in;
        y_out = there;
        path = record {
          u_in = w.u_in;
          x_in = y_in;
          apart = u_apart;
          first = added_old p y u w.first;
          last = added_new p y y refl;
          columns = λ i j i_in j_in here sign. elim (added_true q c j here) [
            | inl old ↦ added_old p y i (w.columns i j i_in j_in old sign)
            | inr new ↦ elim (no_third x y i c w.x_in y_in i_in c_in (λ k. y_apart (sym k)) s t (subst (λ k. IsSign (entry m i k)) new sign)) [
              | inl k ↦ added_old p y i (ap p k ∙ w.last)
              | inr k ↦ added_new p y i k
            ]
          ];
          inner = λ i j i_in j_in here a b sign. elim (added_true p y i here) [
            | inr k ↦ absurd (b k)
            | inl old ↦ elim (cases_eq i x) [
              | inr d ↦ added_old q c j (w.inner i j i_in j_in old a d sign)
              | inl k ↦ not_out j j_in (subst (λ r. IsSign (entry m r j)) k sign) (added q c j) refl
            ]
          ];
          first_one = sum_added q c m.width C (λ j. mark (entry m u j)) (column_set_increases m C column_set) c_in c_out ∙ (let z = mark_zero (entry m u c) u_zero in let o = w.first_one in omega (arith, sums));
          last_one = sum_added q c m.width C (λ j. mark (entry m y j)) (column_set_increases m C column_set) c_in c_out ∙ (let o = mark_sign (entry m y c) t in let z = none_there in omega (arith, sums));
        };
      }
        where
          u_apart : u ≢ y
          u_apart e = false≢true (sym there ∙ ap p (sym e) ∙ w.first)

          u_zero : entry m u c ≡ pos 0
          u_zero = elim (zero_or_sign (entry m u c) (small u c)) [
            | inl e ↦ e
            | inr sign ↦ elim (no_third x y u c w.x_in y_in w.u_in c_in (λ k. y_apart (sym k)) s t sign) [ inl k ↦ absurd (w.apart k) | inr k ↦ absurd (u_apart k) ]
          ]

          none_there : sum_over (filter q C) (λ j. mark (entry m y j)) ≡ pos 0
          none_there = sum_empty q C (λ j. mark (entry m y j)) (λ j j_in old. mark_zero (entry m y j) (elim (zero_or_sign (entry m y j) (small y j)) [ inl e ↦ e | inr sign ↦ absurd (false≢true (sym there ∙ w.columns y j y_in j_in old sign)) ]))

          not_out : (j : ℕ) → IsIn j C → IsSign (entry m x j) → (b : Bool) → added q c j ≡ b → added q c j ≡ true
          not_out j j_in sign true e = e
          not_out j j_in sign false out =
              let here = sum_added q c m.width C (λ k. mark (entry m x k)) (column_set_increases m C column_set) c_in c_out in
              let one = mark_sign (entry m x c) s in
              let all = sum_split (added q c) C (λ k. mark (entry m x k)) in
              let two = rows_two x w.x_in in
              let rest = w.last_one in
              let j_there : IsIn j (filter (λ k. not (added q c k)) C) = filter_in (λ k. not (added q c k)) j C j_in (ap not out) in
              let some = one_term (λ k. entry m x k) (λ k. small x k) (filter (λ k. not (added q c k)) C) j j_there sign in
              absurd (omega (arith, sums))

      from_row : (c : ℕ) → IsIn c C → q c ≡ false → IsSign (entry m x c) → (y : ℕ) × IsIn y R × (y ≢ x) × IsSign (entry m y c) → IsLonger u p
      from_row c c_in c_out s (y, y_in, y_apart, t) = at_row c y c_in c_out s y_in y_apart t (p y) refl

      from_column : (c : ℕ) × IsIn c (filter (λ j. not (q j)) C) × IsSign (entry m x c) → IsLonger u p
      from_column (c, h, s) = let k = in_filter (λ j. not (q j)) c C h in from_row c k.0 (not_is (q c) k.1) s (other_row x c w.x_in k.0 s)

  walk : (n : ℕ) (u x v : ℕ) (p q : ℕ → Bool) → length (filter (λ i. not (p i)) R) ≤ n → IsPathTo u x p q → IsIn v R → p v ≡ false → (p' : ℕ → Bool) × (q' : ℕ → Bool) × IsPathTo u v p' q'
  walk zero u x v p q few w v_in out =
      let some = fewer_kept (λ i. not (p i)) (λ i. false) R (λ i e. absurd (false≢true e)) v v_in (ap not out) refl in absurd (omega arith)
  walk (suc n) u x v p q few w v_in out =
      let l = longer u x v p q w v_in out in
      let less = fewer_kept (λ i. not (p i)) (λ i. not (added p l.y i)) R (λ i e. ap not (added_false p l.y i (not_is (added p l.y i) e)).0) l.y l.y_in (ap not l.y_out) (ap not (added_new p l.y l.y refl)) in
      elim (cases_eq v l.y) [
        | inl e ↦ (added p l.y, l.q, subst (λ k. IsPathTo u k (added p l.y) l.q) (sym e) l.path)
        | inr apart ↦ walk n u l.y v (added p l.y) l.q (omega arith) l.path v_in (not_added p l.y v out apart)
      ]

  -- any two rows have a path between them
  pub path_between : (u v : ℕ) → IsIn u R → IsIn v R → u ≢ v → (p : ℕ → Bool) × (q : ℕ → Bool) × IsPathTo u v p q
  path_between u v u_in v_in apart = from_column (some_nonzero (λ j. entry m u j) (λ j. small u j) C (λ e. let k = rows_two u u_in in omega (arith, sums)))
    where
      from_row : (c : ℕ) → IsIn c C → IsSign (entry m u c) → (y : ℕ) × IsIn y R × (y ≢ u) × IsSign (entry m y c) → (p : ℕ → Bool) × (q : ℕ → Bool) × IsPathTo u v p q
      from_row c c_in s (y, y_in, y_apart, t) =
          let one = path_of_one u y c u_in y_in c_in (λ e. y_apart (sym e)) s t in
          elim (cases_eq v y) [
            | inl e ↦ (added (only u) y, only c, subst (λ k. IsPathTo u k (added (only u) y) (only c)) (sym e) one)
            | inr other ↦ walk (length (filter (λ i. not (added (only u) y i)) R)) u y v (added (only u) y) (only c) (omega arith) one v_in (not_added (only u) y v (not_added (λ i. false) u v refl (λ e. apart (sym e))) other)
          ]

      from_column : (c : ℕ) × IsIn c C × IsSign (entry m u c) → (p : ℕ → Bool) × (q : ℕ → Bool) × IsPathTo u v p q
      from_column (c, h, s) = from_row c h s (other_row u c u_in h s)

  -- ---- another column with two nonzeros splits the fault into two parts, unless it joins neighbours

  module _ (w : ℕ) (w_in : w < m.width) (w_out : ¬ (IsIn w C)) (two_w : sum_over R (λ i. mark (entry m i w)) ≡ pos 2) where
    arc_set : (q : ℕ → Bool) → IsColumnSet m (with_line w (filter q C))
    arc_set q = increasing_column_set m (with_line w (filter q C)) (increases-with_line 0 m.width w (filter q C) (λ h. w_out (in_filter q w C h).0) (omega arith) w_in (increases-part q 0 m.width C (column_set_increases m C column_set)))

    record IsArc (p q : ℕ → Bool) : Type 0 where
      at_w : (i : ℕ) → IsIn i R → p i ≡ false → entry m i w ≡ pos 0
      across_columns : (i j : ℕ) → IsIn i R → IsIn j C → p i ≡ false → q j ≡ true → entry m i j ≡ pos 0

    arc_columns : (p q : ℕ → Bool) → IsArc p q → (j : ℕ) → IsIn j (with_line w (filter q C)) → sum_over (filter p R) (λ i. mark (entry m i j)) ≡ pos 2
    arc_columns p q a = all_in (λ j. sum_over (filter p R) (λ i. mark (entry m i j)) ≡ pos 2) (with_line w (filter q C))
        (all-with_line (λ j. sum_over (filter p R) (λ i. mark (entry m i j)) ≡ pos 2) w (filter q C)
        (sum_part p R (λ i. mark (entry m i w)) (λ i h e. mark_zero (entry m i w) (a.at_w i h e)) ∙ two_w)
        (all_of_members (λ j. sum_over (filter p R) (λ i. mark (entry m i j)) ≡ pos 2) (filter q C)
        (λ j h. let k = in_filter q j C h in sum_part p R (λ i. mark (entry m i j)) (λ i g e. mark_zero (entry m i j) (a.across_columns i j g k.0 e k.1)) ∙ columns_two j k.0)))

    arc_sum : (p q : ℕ → Bool) → IsArc p q
        → sum_over (filter p R) (λ i. sum_over (with_line w (filter q C)) (λ j. entry m i j)) ≡ sum_over R (λ i. entry m i w) +ℤ sum_over (filter q C) (λ j. sum_over R (λ i. entry m i j))
    arc_sum p q a =
        sum_over_same (filter p R) (λ i. sum_over (with_line w (filter q C)) (λ j. entry m i j)) (λ i. entry m i w +ℤ sum_over (filter q C) (λ j. entry m i j)) (all_of _ (λ i. sum-with_line w (filter q C) (λ j. entry m i j)) (filter p R))
        ∙ sum_over-add (filter p R) (λ i. entry m i w) (λ i. sum_over (filter q C) (λ j. entry m i j))
        ∙ ap (λ (z : ℤ). z +ℤ sum_over (filter p R) (λ i. sum_over (filter q C) (λ j. entry m i j))) (sum_part p R (λ i. entry m i w) a.at_w)
        ∙ ap (λ (z : ℤ). sum_over R (λ i. entry m i w) +ℤ z) (sum_over-exchange (filter p R) (filter q C) (λ i j. entry m i j)
        ∙ sum_over_same (filter q C) (λ j. sum_over (filter p R) (λ i. entry m i j)) (λ j. sum_over R (λ i. entry m i j))
        (all_of_members (λ j. sum_over (filter p R) (λ i. entry m i j) ≡ sum_over R (λ i. entry m i j)) (filter q C) (λ j h. let k = in_filter q j C h in sum_part p R (λ i. entry m i j) (λ i g e. a.across_columns i j g k.0 e k.1))))

    abbrev rest_rows : ℕ → ℕ → (ℕ → Bool) → ℕ → Bool
    rest_rows u v p = added (added (λ i. not (p i)) u) v

    rest_false : (u v : ℕ) (p : ℕ → Bool) (i : ℕ) → rest_rows u v p i ≡ false → (p i ≡ true) × (i ≢ u) × (i ≢ v)
    rest_false u v p i e = let k = added_false (added (λ i. not (p i)) u) v i e in let l = added_false (λ i. not (p i)) u i k.0 in (not_false (p i) l.0, l.1, k.1)

    rest_true : (u v : ℕ) (p : ℕ → Bool) (i : ℕ) → rest_rows u v p i ≡ true → (p i ≡ false) ⊎ ((i ≡ u) ⊎ (i ≡ v))
    rest_true u v p i e = elim (added_true (added (λ i. not (p i)) u) v i e) [
      | inr k ↦ inr (inr k)
      | inl k ↦ elim (added_true (λ i. not (p i)) u i k) [ inr l ↦ inr (inl l) | inl l ↦ inl (not_is (p i) l) ]
    ]

    pub no_chord : (u v : ℕ) → IsIn u R → IsIn v R → u ≢ v → IsSign (entry m u w) → IsSign (entry m v w) → ((c : ℕ) → IsIn c C → IsSign (entry m u c) → IsSign (entry m v c) → ⊥) → ⊥
    no_chord u v u_in v_in apart s t none = go (path_between u v u_in v_in apart)
      where
        no_other : (i : ℕ) → IsIn i R → i ≢ u → i ≢ v → entry m i w ≡ pos 0
        no_other i h a b = third_zero (λ k. entry m k w) (λ k. small k w) R two_w u v i apart (λ e. a (sym e)) (λ e. b (sym e)) u_in v_in h s t

        cut : (p q : ℕ → Bool) → IsPathTo u v p q → (a b : ℕ) → IsIn a R → IsIn b R → p a ≡ true → a ≢ u → a ≢ v → p b ≡ false → ⊥
        cut p q path a b a_in b_in inside a_u a_v outside = elim (four_or_two (sum_over (filter p R) (λ i. sum_over (with_line w (filter q C)) (λ j. entry m i j))) even) [
          | inr two ↦ no_lesser p (with_line w (filter q C)) b b_in outside (arc_set q) rows1 (arc_columns p q arc1) two
          | inl four ↦ no_lesser (rest_rows u v p) (with_line w (filter (λ j. not (q j)) C)) a a_in (not_added (added (λ i. not (p i)) u) v a (not_added (λ i. not (p i)) u a (ap not inside) a_u) a_v) (arc_set (λ j. not (q j))) rows2
              (arc_columns (rest_rows u v p) (λ j. not (q j)) arc2)
              (less_four ((sum_over C (λ j. sum_over R (λ i. entry m i j))) +ℤ (sum_over R (λ i. entry m i w) +ℤ sum_over R (λ i. entry m i w)))
              (sum_over (filter p R) (λ i. sum_over (with_line w (filter q C)) (λ j. entry m i j)))
              (sum_over (filter (rest_rows u v p) R) (λ i. sum_over (with_line w (filter (λ j. not (q j)) C)) (λ j. entry m i j)))
              total four
              (two_mod_four-add (sum_over C (λ j. sum_over R (λ i. entry m i j))) (sum_over R (λ i. entry m i w) +ℤ sum_over R (λ i. entry m i w)) (subst IsTwoModFour (sum_over-exchange R C (λ i j. entry m i j)) f.two_mod_four)
              (four-double (sum_over R (λ i. entry m i w)) (two_is_even (λ i. entry m i w) (λ i. small i w) R (two_from_sum (λ i. entry m i w) R two_w)))))
        ]
          where
            zero_by : (i j : ℕ) → (IsSign (entry m i j) → ⊥) → entry m i j ≡ pos 0
            zero_by i j h = elim (zero_or_sign (entry m i j) (small i j)) [ inl e ↦ e | inr k ↦ absurd (h k) ]

            arc1 : IsArc p q
            arc1 = record {
              at_w = λ i h e. no_other i h (λ k. false≢true (sym e ∙ ap p k ∙ path.first)) (λ k. false≢true (sym e ∙ ap p k ∙ path.last));
              across_columns = λ i j h k e g. zero_by i j (λ sign. false≢true (sym e ∙ path.columns i j h k g sign));
            }

            arc2 : IsArc (rest_rows u v p) (λ j. not (q j))
            arc2 = record {
              at_w = λ i h e. let k = rest_false u v p i e in no_other i h k.1 k.2;
              across_columns = λ i j h k e g. let l = rest_false u v p i e in zero_by i j (λ sign. false≢true (sym (not_is (q j) g) ∙ path.inner i j h k l.0 l.1 l.2 sign));
            }

            rows1 : (i : ℕ) → IsIn i R → p i ≡ true → sum_over (with_line w (filter q C)) (λ j. mark (entry m i j)) ≡ pos 2
            rows1 i h e = sum-with_line w (filter q C) (λ j. mark (entry m i j)) ∙ elim (cases_eq i u) [
              | inl k ↦ subst (λ r. mark (entry m r w) +ℤ sum_over (filter q C) (λ j. mark (entry m r j)) ≡ pos 2) (sym k) (let a = mark_sign (entry m u w) s in let b = path.first_one in omega (arith, sums))
              | inr d ↦ elim (cases_eq i v) [
                | inl k ↦ subst (λ r. mark (entry m r w) +ℤ sum_over (filter q C) (λ j. mark (entry m r j)) ≡ pos 2) (sym k) (let a = mark_sign (entry m v w) t in let b = path.last_one in omega (arith, sums))
                | inr g ↦ let a = mark_zero (entry m i w) (no_other i h d g) in
                    let b = sum_part q C (λ j. mark (entry m i j)) (λ j k out. mark_zero (entry m i j) (zero_by i j (λ sign. false≢true (sym out ∙ path.inner i j h k e d g sign)))) in
                    let two = rows_two i h in omega (arith, sums)
              ]
            ]

            rows2 : (i : ℕ) → IsIn i R → rest_rows u v p i ≡ true → sum_over (with_line w (filter (λ j. not (q j)) C)) (λ j. mark (entry m i j)) ≡ pos 2
            rows2 i h e = sum-with_line w (filter (λ j. not (q j)) C) (λ j. mark (entry m i j)) ∙ elim (rest_true u v p i e) [
              | inr (inl k) ↦ subst (λ r. mark (entry m r w) +ℤ sum_over (filter (λ j. not (q j)) C) (λ j. mark (entry m r j)) ≡ pos 2) (sym k) (let a = mark_sign (entry m u w) s in let b = row_rest q u u_in path.first_one in omega (arith, sums))
              | inr (inr k) ↦ subst (λ r. mark (entry m r w) +ℤ sum_over (filter (λ j. not (q j)) C) (λ j. mark (entry m r j)) ≡ pos 2) (sym k) (let a = mark_sign (entry m v w) t in let b = row_rest q v v_in path.last_one in omega (arith, sums))
              | inl out ↦ let a = mark_zero (entry m i w) (arc1.at_w i h out) in
                  let b = sum_part (λ j. not (q j)) C (λ j. mark (entry m i j)) (λ j k n. mark_zero (entry m i j) (arc1.across_columns i j h k out (not_false (q j) n))) in
                  let two = rows_two i h in omega (arith, sums)
            ]

            even : IsEven (sum_over (filter p R) (λ i. sum_over (with_line w (filter q C)) (λ j. entry m i j)))
            even = even-sum_over (filter p R) (λ i. sum_over (with_line w (filter q C)) (λ j. entry m i j))
                (all_of_members (λ i. IsEven (sum_over (with_line w (filter q C)) (λ j. entry m i j))) (filter p R) (λ i h. let k = in_filter p i R h in
                two_is_even (λ j. entry m i j) (λ j. small i j) (with_line w (filter q C)) (two_from_sum (λ j. entry m i j) (with_line w (filter q C)) (rows1 i k.0 k.1))))

            total : sum_over (filter p R) (λ i. sum_over (with_line w (filter q C)) (λ j. entry m i j)) +ℤ sum_over (filter (rest_rows u v p) R) (λ i. sum_over (with_line w (filter (λ j. not (q j)) C)) (λ j. entry m i j))
                ≡ (sum_over C (λ j. sum_over R (λ i. entry m i j))) +ℤ (sum_over R (λ i. entry m i w) +ℤ sum_over R (λ i. entry m i w))
            total =
                let a = arc_sum p q arc1 in
                let b = arc_sum (rest_rows u v p) (λ j. not (q j)) arc2 in
                let c = sum_split q C (λ j. sum_over R (λ i. entry m i j)) in
                omega (arith, sums)

        outside_row : (p q : ℕ → Bool) → IsPathTo u v p q → (a : ℕ) → IsIn a R → p a ≡ true → a ≢ u → a ≢ v → (c : ℕ) × IsIn c (filter (λ j. not (q j)) C) × IsSign (entry m u c) → ⊥
        outside_row p q path a a_in inside a_u a_v (c, h, sign) =
            let k = in_filter (λ j. not (q j)) c C h in
            let y = other_row u c u_in k.0 sign in
            let y_v : y.0 ≢ v = λ e. none c k.0 sign (subst (λ r. IsSign (entry m r c)) e y.3) in
            part (p y.0) refl k.0 (not_is (q c) k.1) y.1 y.2 y_v y.3
          where
            part : (b : Bool) → {y : ℕ} → p y ≡ b → IsIn c C → q c ≡ false → IsIn y R → y ≢ u → y ≢ v → IsSign (entry m y c) → ⊥
            part true {y} e c_in c_out y_in y_u y_v t = false≢true (sym c_out ∙ path.inner y c y_in c_in e y_u y_v t)
            part false {y} e c_in c_out y_in y_u y_v t = cut p q path a y a_in y_in inside a_u a_v e

        inner_row : (p q : ℕ → Bool) → IsPathTo u v p q → (c : ℕ) × IsIn c (filter q C) × IsSign (entry m u c) → ⊥
        inner_row p q path (c, h, sign) =
            let k = in_filter q c C h in
            let y = other_row u c u_in k.0 sign in
            let y_v : y.0 ≢ v = λ e. none c k.0 sign (subst (λ r. IsSign (entry m r c)) e y.3) in
            outside_row p q path y.0 y.1 (path.columns y.0 c y.1 k.0 k.1 y.3) y.2 y_v
            (some_nonzero (λ j. entry m u j) (λ j. small u j) (filter (λ j. not (q j)) C) (λ e. let r = row_rest q u u_in path.first_one in omega (arith, sums)))

        go : (p : ℕ → Bool) × (q : ℕ → Bool) × IsPathTo u v p q → ⊥
        go (p, q, path) = inner_row p q path (some_nonzero (λ j. entry m u j) (λ j. small u j) (filter q C) (λ e. let r = path.first_one in omega (arith, sums)))
