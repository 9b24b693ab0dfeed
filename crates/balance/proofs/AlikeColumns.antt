-- Columns with two nonzeros in the rows of a least fault: each joins the two rows of a column of the fault.
use Rattle.std.proofs.Common.{◌≡◌, ◌≢◌, ◌<◌, ◌∙◌, ◌⊎◌, inl, inr, ℕ, Bool, true, false, not, ℤ, pos, ◌+ℤ◌, ◌-ℤ◌, List, [], ◌∷◌, refl, ap, sym, subst, arith}
use Rattle.std.specs.Prelude.{filter}
use Rattle.std.proofs.lemmas.Bool.{false≢true, cases_eq}
use Rattle.cmr_base.specs.Matrix.{Matrix, height, entry, is_nonzero, IsEntry}
use Rattle.cmr_base.specs.LineSets.{IsRowSet, IsColumnSet, set_number}
use Rattle.cmr_base.specs.Members.{IsIn}
use Rattle.cmr_base.specs.Signing.{IsSign}
use Rattle.cmr_base.specs.Sums.{sum_over, IsEven, IsTwoModFour}
use Rattle.cmr_base.proofs.Integers.{sums}
use Rattle.ghouila.proofs.Cycles.{four_or_two}
use Rattle.cmr_base.proofs.Lists.{all_of}
use Rattle.cmr_base.proofs.Members.{all_in}
use Rattle.cmr_base.proofs.Parity.{IsFour, even-add, four-double, two_mod_four_not_four}
use Rattle.cmr_base.proofs.IncreasingLists.{row_set_increases, column_set_increases, increasing_column_set, increasing_below}
use Rattle.cmr_base.proofs.RowLists.{in_filter, search_rows}
use Rattle.cmr_base.proofs.SumLaws.{sum_over_same, sum_over-add, sum_over-exchange}
use Rattle.cmr_base.proofs.Booleans.{not_is, is_zero, zero_is}
use Rattle.cmr_base.proofs.SignEntries.{sign_is_nonzero}
use Rattle.ghouila.proofs.SignProducts.{sign_nonzero}
use Rattle.ghouila.proofs.SignedSums.{zero_or_sign}
use Rattle.balance.specs.BalanceFaults.{IsBalanceFault}
use Rattle.balance.specs.SearchedFaults.{HasNoFaultBelow}
use Rattle.balance.specs.CandidateColumns.{IsCandidate}
use Rattle.balance.proofs.NonzeroCounts.{mark, mark_zero, mark_sign, counted, two_from_sum, two_is_even}
use Rattle.balance.proofs.FilterSums.{with_line, sum-with_line, all-with_line, increases-with_line, sum_split, sum_part}
use Rattle.balance.proofs.ColumnPairs.{some_nonzero, third_zero}
use Rattle.balance.proofs.AddedLines.{added, only, added_true, added_false, not_added, sum_added, sum_only}
use Rattle.balance.proofs.MinimalFaults.{IsClosed, closed_rest, part_no_fault, part_sum, less_four, rows_two, columns_two, other_row, no_lesser, no_chord}

combined : (a b d : ℤ) → IsTwoModFour (a +ℤ b) → IsTwoModFour (d +ℤ b) → IsEven b → IsFour (a +ℤ d)
combined a b d (k, e) (l, f) (n, g) = (((pos 1 +ℤ k) +ℤ l) -ℤ n, omega (arith, sums))

module _ (m : Matrix) (small : (i j : ℕ) → IsEntry (entry m i j)) (R C : List ℕ) (row_set : IsRowSet m R) (column_set : IsColumnSet m C) (f : IsBalanceFault (entry m) R C) (before : HasNoFaultBelow m (set_number R)) where
  -- two rows that a column joins
  pub record Joins (w : ℕ) : Type 0 where
    pub u : ℕ
    pub v : ℕ
    pub u_in : IsIn u R
    pub v_in : IsIn v R
    pub apart : u ≢ v
    pub at_u : IsSign (entry m u w)
    pub at_v : IsSign (entry m v w)

  pub joins : (w : ℕ) → IsCandidate m R w → Joins w
  joins w is = go (some_nonzero (λ i. entry m i w) (λ i. small i w) R (λ e. omega (arith, sums, two)))
    where
      two : sum_over R (λ i. mark (entry m i w)) ≡ pos 2
      two = counted (λ i. entry m i w) R ∙ ap pos is

      go : (u : ℕ) × IsIn u R × IsSign (entry m u w) → Joins w
      go (u, u_in, s) = second (some_nonzero (λ i. entry m i w) (λ i. small i w) (filter (λ i. not (only u i)) R) (λ e. omega (arith, sums, one, two, here, split)))
        where
          one : mark (entry m u w) ≡ pos 1
          one = mark_sign (entry m u w) s

          two : sum_over R (λ i. mark (entry m i w)) ≡ pos 2
          two = counted (λ i. entry m i w) R ∙ ap pos is

          here : sum_over (filter (only u) R) (λ i. mark (entry m i w)) ≡ mark (entry m u w)
          here = sum_only u (height m) R (λ i. mark (entry m i w)) (row_set_increases m R row_set) u_in

          split : sum_over (filter (only u) R) (λ i. mark (entry m i w)) +ℤ sum_over (filter (λ i. not (only u i)) R) (λ i. mark (entry m i w)) ≡ sum_over R (λ i. mark (entry m i w))
          split = sum_split (only u) R (λ i. mark (entry m i w))

          second : (v : ℕ) × IsIn v (filter (λ i. not (only u i)) R) × IsSign (entry m v w) → Joins w
          second (v, h, t) = let k = in_filter (λ i. not (only u i)) v R h in record {
            u = u;
            v = v;
            u_in = u_in;
            v_in = k.0;
            apart = λ e. (added_false (λ i. false) u v (not_is (only u v) k.1)).1 (sym e);
            at_u = s;
            at_v = t;
          }

  -- each column with two nonzeros joins the two rows of a column of the fault
  pub neighbours : (w : ℕ) → w < m.width → IsCandidate m R w → (j : Joins w) → (c : ℕ) × IsIn c C × IsSign (entry m j.u c) × IsSign (entry m j.v c)
  neighbours w w_in is j = go (search_rows (λ c. c ≡ w) (λ c. c ≢ w) (λ c. cases_eq c w) C) (search_rows (λ c. IsSign (entry m j.u c) × IsSign (entry m j.v c)) (λ c. IsSign (entry m j.u c) → IsSign (entry m j.v c) → ⊥) both C)
    where
      both : (c : ℕ) → (IsSign (entry m j.u c) × IsSign (entry m j.v c)) ⊎ (IsSign (entry m j.u c) → IsSign (entry m j.v c) → ⊥)
      both c = elim (zero_or_sign (entry m j.u c) (small j.u c)) [
        | inl e ↦ inr (λ s t. sign_nonzero (entry m j.u c) s e)
        | inr s ↦ elim (zero_or_sign (entry m j.v c) (small j.v c)) [
          | inl e ↦ inr (λ s' t. sign_nonzero (entry m j.v c) t e)
          | inr t ↦ inl (s, t)
        ]
      ]

      go : ((c : ℕ) × IsIn c C × (c ≡ w)) ⊎ ((c : ℕ) → IsIn c C → c ≢ w)
          → ((c : ℕ) × IsIn c C × (IsSign (entry m j.u c) × IsSign (entry m j.v c))) ⊎ ((c : ℕ) → IsIn c C → IsSign (entry m j.u c) → IsSign (entry m j.v c) → ⊥)
          → (c : ℕ) × IsIn c C × IsSign (entry m j.u c) × IsSign (entry m j.v c)
      go (inl (c, h, e)) k = (c, h, subst (λ x. IsSign (entry m j.u x)) (sym e) j.at_u, subst (λ x. IsSign (entry m j.v x)) (sym e) j.at_v)
      go (inr out) (inl (c, h, (s, t))) = (c, h, s, t)
      go (inr out) (inr none) = absurd (no_chord m small R C row_set column_set f before w w_in (λ h. out w h refl) (counted (λ i. entry m i w) R ∙ ap pos is) j.u j.v j.u_in j.v_in j.apart j.at_u j.at_v none)

  -- two columns of the fault that join the same rows are a fault together
  pub never_alike : (c d : ℕ) → IsIn c C → IsIn d C → c ≢ d → ((i : ℕ) → IsIn i R → is_nonzero (entry m i c) ≡ is_nonzero (entry m i d))
      → IsFour (sum_over R (λ i. entry m i c) +ℤ sum_over R (λ i. entry m i d)) → ⊥
  never_alike c d c_in d_in apart same four = go (some_nonzero (λ i. entry m i c) (λ i. small i c) R (λ e. let k = columns_two m small R C row_set column_set f before c c_in in omega (arith, sums)))
    where
      sign_of : (z : ℤ) → IsEntry z → is_nonzero z ≡ true → IsSign z
      sign_of z h e = elim (zero_or_sign z h) [ inl k ↦ absurd (false≢true (sym (is_zero z k) ∙ e)) | inr k ↦ k ]

      closed : IsClosed m small R C row_set column_set f before (λ i. is_nonzero (entry m i c)) (added (only c) d)
      closed i j i_in j_in h = cases (added (only c) d j) refl (is_nonzero (entry m i c)) refl
        where
          here : IsSign (entry m i j)
          here = elim (zero_or_sign (entry m i j) (small i j)) [ inl e ↦ absurd (h e) | inr k ↦ k ]

          cases : (b : Bool) → added (only c) d j ≡ b → (a : Bool) → is_nonzero (entry m i c) ≡ a → is_nonzero (entry m i c) ≡ added (only c) d j
          cases true e true g = g ∙ sym e
          cases false e false g = g ∙ sym e
          cases true e false g = absurd (false≢true (sym g ∙ elim (added_true (only c) d j e) [
            | inr k ↦ same i i_in ∙ sign_is_nonzero (entry m i d) (subst (λ x. IsSign (entry m i x)) k here)
            | inl k ↦ elim (added_true (λ x. false) c j k) [ inl l ↦ absurd (false≢true l) | inr l ↦ sign_is_nonzero (entry m i c) (subst (λ x. IsSign (entry m i x)) l here) ]
          ]))
          cases false e true g =
              let out = added_false (only c) d j e in
              let off = added_false (λ x. false) c j out.0 in
              absurd (h (third_zero (λ x. entry m i x) (λ x. small i x) C (rows_two m small R C row_set column_set f before i i_in) c d j apart (λ k. off.1 (sym k)) (λ k. out.1 (sym k)) c_in d_in j_in
              (sign_of (entry m i c) (small i c) g) (sign_of (entry m i d) (small i d) (sym (same i i_in) ∙ g))))

      column_part : (j : ℕ) → ((i : ℕ) → IsIn i R → is_nonzero (entry m i c) ≡ false → entry m i j ≡ pos 0)
          → sum_over (filter (λ i. is_nonzero (entry m i c)) R) (λ i. entry m i j) ≡ sum_over R (λ i. entry m i j)
      column_part j zeros = sum_part (λ i. is_nonzero (entry m i c)) R (λ i. entry m i j) zeros

      first : sum_over (filter (λ i. is_nonzero (entry m i c)) R) (λ i. sum_over (filter (added (only c) d) C) (λ j. entry m i j)) ≡ sum_over R (λ i. entry m i d) +ℤ sum_over R (λ i. entry m i c)
      first =
          sum_over-exchange (filter (λ i. is_nonzero (entry m i c)) R) (filter (added (only c) d) C) (λ i j. entry m i j)
          ∙ sum_added (only c) d m.width C (λ j. sum_over (filter (λ i. is_nonzero (entry m i c)) R) (λ i. entry m i j)) (column_set_increases m C column_set) d_in
          (not_added (λ j. false) c d refl (λ e. apart (sym e)))
          ∙ plain (sum_over (filter (λ i. is_nonzero (entry m i c)) R) (λ i. entry m i d)) (sum_over (filter (only c) C) (λ j. sum_over (filter (λ i. is_nonzero (entry m i c)) R) (λ i. entry m i j))) (sum_over R (λ i. entry m i d)) (sum_over R (λ i. entry m i c))
          (column_part d (λ i h e. zero_is (entry m i d) (sym (same i h) ∙ e)))
          (sum_only c m.width C (λ j. sum_over (filter (λ i. is_nonzero (entry m i c)) R) (λ i. entry m i j)) (column_set_increases m C column_set) c_in ∙ column_part c (λ i h e. zero_is (entry m i c) e))
        where
          plain : (a b x y : ℤ) → a ≡ x → b ≡ y → a +ℤ b ≡ x +ℤ y
          plain a b x y e g = omega (arith, sums)

      swapped : (a b : ℤ) → IsFour (a +ℤ b) → IsFour (b +ℤ a)
      swapped a b (k, e) = (k, omega (arith, sums))

      both : sum_over (filter (λ i. is_nonzero (entry m i c)) R) (λ i. sum_over (filter (added (only c) d) C) (λ j. entry m i j)) +ℤ sum_over (filter (λ i. not (is_nonzero (entry m i c))) R) (λ i. sum_over (filter (λ j. not (added (only c) d j)) C) (λ j. entry m i j)) ≡ sum_over R (λ i. sum_over C (λ j. entry m i j))
      both = rw (
        part_sum m small R C row_set column_set f before (λ i. is_nonzero (entry m i c)) (added (only c) d) closed,
        part_sum m small R C row_set column_set f before (λ i. not (is_nonzero (entry m i c))) (λ j. not (added (only c) d j)) (closed_rest m small R C row_set column_set f before (λ i. is_nonzero (entry m i c)) (added (only c) d) closed),
      ) (sum_split (λ i. is_nonzero (entry m i c)) R (λ i. sum_over C (λ j. entry m i j)))

      go : (a : ℕ) × IsIn a R × IsSign (entry m a c) → ⊥
      go (a, a_in, s) = part_no_fault m small R C row_set column_set f before (λ i. not (is_nonzero (entry m i c))) (λ j. not (added (only c) d j)) (closed_rest m small R C row_set column_set f before (λ i. is_nonzero (entry m i c)) (added (only c) d) closed) a a_in
          (ap not (sign_is_nonzero (entry m a c) s))
          (less_four (sum_over R (λ i. sum_over C (λ j. entry m i j)))
          (sum_over (filter (λ i. is_nonzero (entry m i c)) R) (λ i. sum_over (filter (added (only c) d) C) (λ j. entry m i j)))
          (sum_over (filter (λ i. not (is_nonzero (entry m i c))) R) (λ i. sum_over (filter (λ j. not (added (only c) d j)) C) (λ j. entry m i j)))
          both (subst IsFour (sym first) (swapped (sum_over R (λ i. entry m i c)) (sum_over R (λ i. entry m i d)) four)) f.two_mod_four)

  column_even : (w : ℕ) → IsCandidate m R w → IsEven (sum_over R (λ i. entry m i w))
  column_even w is = two_is_even (λ i. entry m i w) (λ i. small i w) R is

  pub fault_column : (c : ℕ) → IsIn c C → IsCandidate m R c
  fault_column c h = two_from_sum (λ i. entry m i c) R (columns_two m small R C row_set column_set f before c h)

  one_support : (w c : ℕ) → IsCandidate m R w → IsCandidate m R c → (j : Joins w) → IsSign (entry m j.u c) → IsSign (entry m j.v c) → (i : ℕ) → IsIn i R
      → is_nonzero (entry m i w) ≡ is_nonzero (entry m i c)
  one_support w c is is' j s t i h = elim (cases_eq i j.u) [
    | inl e ↦ subst (λ r. is_nonzero (entry m r w) ≡ is_nonzero (entry m r c)) (sym e) (sign_is_nonzero (entry m j.u w) j.at_u ∙ sym (sign_is_nonzero (entry m j.u c) s))
    | inr a ↦ elim (cases_eq i j.v) [
      | inl e ↦ subst (λ r. is_nonzero (entry m r w) ≡ is_nonzero (entry m r c)) (sym e) (sign_is_nonzero (entry m j.v w) j.at_v ∙ sym (sign_is_nonzero (entry m j.v c) t))
      | inr b ↦
          is_zero (entry m i w) (third_zero (λ k. entry m k w) (λ k. small k w) R (counted (λ k. entry m k w) R ∙ ap pos is) j.u j.v i j.apart (λ e. a (sym e)) (λ e. b (sym e)) j.u_in j.v_in h j.at_u j.at_v)
          ∙ sym (is_zero (entry m i c) (third_zero (λ k. entry m k c) (λ k. small k c) R (counted (λ k. entry m k c) R ∙ ap pos is') j.u j.v i j.apart (λ e. a (sym e)) (λ e. b (sym e)) j.u_in j.v_in h s t))
    ]
  ]

  pub record IsAlike (w c : ℕ) : Type 0 where
    pub c_in : IsIn c C
    pub same : (i : ℕ) → IsIn i R → is_nonzero (entry m i w) ≡ is_nonzero (entry m i c)
    pub four : IsFour (sum_over R (λ i. entry m i w) +ℤ sum_over R (λ i. entry m i c))

  -- two columns that are a fault on the rows that they join
  two_columns : (w c r : ℕ) → w < m.width → IsCandidate m R w → (j : Joins w) → IsIn c C → IsSign (entry m j.u c) → IsSign (entry m j.v c) → w ≢ c
      → IsTwoModFour (sum_over R (λ i. entry m i w) +ℤ sum_over R (λ i. entry m i c)) → IsIn r R → r ≢ j.u → r ≢ j.v → ⊥
  two_columns w c r w_in is j c_in s t apart two r_in r_u r_v = no_lesser m small R C row_set column_set f before (added (only j.u) j.v) (with_line w (c ∷ [])) r r_in (not_added (only j.u) j.v r (not_added (λ i. false) j.u r refl r_u) r_v)
      (increasing_column_set m (with_line w (c ∷ [])) (increases-with_line 0 m.width w (c ∷ []) out (omega arith) w_in (omega arith, below, tt))) rows
      (all_in (λ k. sum_over (filter (added (only j.u) j.v) R) (λ i. mark (entry m i k)) ≡ pos 2) (with_line w (c ∷ [])) (all-with_line (λ k. sum_over (filter (added (only j.u) j.v) R) (λ i. mark (entry m i k)) ≡ pos 2) w (c ∷ [])
      (column w is j.at_u j.at_v) (column c (fault_column c c_in) s t, tt)))
      (subst IsTwoModFour (sym total) two)
    where
      below : c < m.width
      below = all_in (λ x. x < m.width) C (increasing_below 0 m.width C (column_set_increases m C column_set)) c c_in

      out : IsIn w (c ∷ []) → ⊥
      out (inl e) = apart e
      out (inr h) = h

      off : (k : ℕ) → IsCandidate m R k → IsSign (entry m j.u k) → IsSign (entry m j.v k) → (i : ℕ) → IsIn i R → added (only j.u) j.v i ≡ false → entry m i k ≡ pos 0
      off k is' a b i h e =
          let o = added_false (only j.u) j.v i e in
          let p = added_false (λ x. false) j.u i o.0 in
          third_zero (λ x. entry m x k) (λ x. small x k) R (counted (λ x. entry m x k) R ∙ ap pos is') j.u j.v i j.apart (λ q. p.1 (sym q)) (λ q. o.1 (sym q)) j.u_in j.v_in h a b

      column : (k : ℕ) → IsCandidate m R k → IsSign (entry m j.u k) → IsSign (entry m j.v k) → sum_over (filter (added (only j.u) j.v) R) (λ i. mark (entry m i k)) ≡ pos 2
      column k is' a b = sum_part (added (only j.u) j.v) R (λ i. mark (entry m i k)) (λ i h e. mark_zero (entry m i k) (off k is' a b i h e)) ∙ counted (λ i. entry m i k) R ∙ ap pos is'

      pair : (i : ℕ) → IsSign (entry m i w) → IsSign (entry m i c) → mark (entry m i w) +ℤ (mark (entry m i c) +ℤ pos 0) ≡ pos 2
      pair i a b = let x = mark_sign (entry m i w) a in let y = mark_sign (entry m i c) b in omega (arith, sums)

      rows : (i : ℕ) → IsIn i R → added (only j.u) j.v i ≡ true → sum_over (with_line w (c ∷ [])) (λ k. mark (entry m i k)) ≡ pos 2
      rows i h e = sum-with_line w (c ∷ []) (λ k. mark (entry m i k)) ∙ elim (added_true (only j.u) j.v i e) [
        | inr k ↦ subst (λ x. mark (entry m x w) +ℤ (mark (entry m x c) +ℤ pos 0) ≡ pos 2) (sym k) (pair j.v j.at_v t)
        | inl k ↦ elim (added_true (λ x. false) j.u i k) [
          | inl l ↦ absurd (false≢true l)
          | inr l ↦ subst (λ x. mark (entry m x w) +ℤ (mark (entry m x c) +ℤ pos 0) ≡ pos 2) (sym l) (pair j.u j.at_u s)
        ]
      ]

      total : sum_over (filter (added (only j.u) j.v) R) (λ i. sum_over (with_line w (c ∷ [])) (λ k. entry m i k)) ≡ sum_over R (λ i. entry m i w) +ℤ sum_over R (λ i. entry m i c)
      total =
          sum_over_same (filter (added (only j.u) j.v) R) (λ i. sum_over (with_line w (c ∷ [])) (λ k. entry m i k)) (λ i. entry m i w +ℤ entry m i c) (all_of _ (λ i. sum-with_line w (c ∷ []) (λ k. entry m i k) ∙ plain (entry m i w) (entry m i c)) (filter (added (only j.u) j.v) R))
          ∙ sum_over-add (filter (added (only j.u) j.v) R) (λ i. entry m i w) (λ i. entry m i c)
          ∙ both (sum_over (filter (added (only j.u) j.v) R) (λ i. entry m i w)) (sum_over (filter (added (only j.u) j.v) R) (λ i. entry m i c)) (sum_over R (λ i. entry m i w)) (sum_over R (λ i. entry m i c))
          (sum_part (added (only j.u) j.v) R (λ i. entry m i w) (off w is j.at_u j.at_v)) (sum_part (added (only j.u) j.v) R (λ i. entry m i c) (off c (fault_column c c_in) s t))
        where
          plain : (a b : ℤ) → a +ℤ (b +ℤ pos 0) ≡ a +ℤ b
          plain a b = omega (arith, sums)

          both : (a b x y : ℤ) → a ≡ x → b ≡ y → a +ℤ b ≡ x +ℤ y
          both a b x y e g = omega (arith, sums)

  -- the fault's other column, if there are only two rows
  other_column : (w c : ℕ) → IsCandidate m R w → (j : Joins w) → IsIn c C → IsSign (entry m j.u c) → IsSign (entry m j.v c)
      → IsTwoModFour (sum_over R (λ i. entry m i w) +ℤ sum_over R (λ i. entry m i c)) → ((r : ℕ) → IsIn r R → (r ≡ j.u) ⊎ (r ≡ j.v))
      → (d : ℕ) × IsIn d (filter (λ k. not (only c k)) C) × IsSign (entry m j.u d) → (d : ℕ) × IsAlike w d
  other_column w c is j c_in s t two few (d, h, a) = (
    d,
    record {
      c_in = d_in;
      same = one_support w d is (fault_column d d_in) j a at_v;
      four = combined (sum_over R (λ i. entry m i w)) (sum_over R (λ i. entry m i c)) (sum_over R (λ i. entry m i d)) two
          (subst IsTwoModFour (sum_over-exchange R C (λ i k. entry m i k) ∙ sym all ∙ sum_added (only c) d m.width C (λ k. sum_over R (λ i. entry m i k)) (column_set_increases m C column_set) d_in (not_added (λ x. false) c d refl d_c)
          ∙ ap (λ (z : ℤ). sum_over R (λ i. entry m i d) +ℤ z) (sum_only c m.width C (λ k. sum_over R (λ i. entry m i k)) (column_set_increases m C column_set) c_in)) f.two_mod_four)
          (column_even c (fault_column c c_in));
    },
  )
    where
      d_in : IsIn d C
      d_in = (in_filter (λ k. not (only c k)) d C h).0

      d_c : d ≢ c
      d_c = (added_false (λ x. false) c d (not_is (only c d) (in_filter (λ k. not (only c k)) d C h).1)).1

      at_v : IsSign (entry m j.v d)
      at_v = go (other_row m small R C row_set column_set f before j.u d j.u_in d_in a)
        where
          go : (y : ℕ) × IsIn y R × (y ≢ j.u) × IsSign (entry m y d) → IsSign (entry m j.v d)
          go (y, y_in, apart, b) = elim (few y y_in) [ inl e ↦ absurd (apart e) | inr e ↦ subst (λ x. IsSign (entry m x d)) e b ]

      no_more : (k : ℕ) → IsIn k C → added (only c) d k ≡ false → ⊥
      no_more k k_in out = go (some_nonzero (λ i. entry m i k) (λ i. small i k) R (λ e. let two' = columns_two m small R C row_set column_set f before k k_in in omega (arith, sums)))
        where
          zero_at : (i : ℕ) → IsIn i R → IsSign (entry m i c) → IsSign (entry m i d) → entry m i k ≡ pos 0
          zero_at i h x y =
              let o = added_false (only c) d k out in
              let p = added_false (λ z. false) c k o.0 in
              third_zero (λ z. entry m i z) (λ z. small i z) C (rows_two m small R C row_set column_set f before i h) c d k (λ e. d_c (sym e)) (λ e. p.1 (sym e)) (λ e. o.1 (sym e)) c_in d_in k_in x y

          go : (i : ℕ) × IsIn i R × IsSign (entry m i k) → ⊥
          go (i, i_in, b) = elim (few i i_in) [
            | inl e ↦ sign_nonzero (entry m j.u k) (subst (λ x. IsSign (entry m x k)) e b) (zero_at j.u j.u_in s a)
            | inr e ↦ sign_nonzero (entry m j.v k) (subst (λ x. IsSign (entry m x k)) e b) (zero_at j.v j.v_in t at_v)
          ]

      all : sum_over (filter (added (only c) d) C) (λ k. sum_over R (λ i. entry m i k)) ≡ sum_over C (λ k. sum_over R (λ i. entry m i k))
      all = sum_part (added (only c) d) C (λ k. sum_over R (λ i. entry m i k)) (λ k k_in out. absurd (no_more k k_in out))

  -- each column with two nonzeros is like a column of the fault
  pub alike : (w : ℕ) → w < m.width → IsCandidate m R w → (c : ℕ) × IsAlike w c
  alike w w_in is = go (joins w is)
    where
      go : Joins w → (c : ℕ) × IsAlike w c
      go j = found (neighbours w w_in is j)
        where
          found : (c : ℕ) × IsIn c C × IsSign (entry m j.u c) × IsSign (entry m j.v c) → (c : ℕ) × IsAlike w c
          found (c, c_in, s, t) = elim (four_or_two (sum_over R (λ i. entry m i w) +ℤ sum_over R (λ i. entry m i c)) (even-add (sum_over R (λ i. entry m i w)) (sum_over R (λ i. entry m i c)) (column_even w is) (column_even c (fault_column c c_in)))) [
            | inl four ↦ (c, record { c_in = c_in; same = one_support w c is (fault_column c c_in) j s t; four = four })
            | inr two ↦ apart two (search_rows (λ r. (r ≢ j.u) × (r ≢ j.v)) (λ r. (r ≡ j.u) ⊎ (r ≡ j.v)) other R)
          ]
            where
              other : (r : ℕ) → ((r ≢ j.u) × (r ≢ j.v)) ⊎ ((r ≡ j.u) ⊎ (r ≡ j.v))
              other r = elim (cases_eq r j.u) [ inl e ↦ inr (inl e) | inr a ↦ elim (cases_eq r j.v) [ inl e ↦ inr (inr e) | inr b ↦ inl (a, b) ] ]

              apart : IsTwoModFour (sum_over R (λ i. entry m i w) +ℤ sum_over R (λ i. entry m i c))
                  → ((r : ℕ) × IsIn r R × ((r ≢ j.u) × (r ≢ j.v))) ⊎ ((r : ℕ) → IsIn r R → (r ≡ j.u) ⊎ (r ≡ j.v)) → (d : ℕ) × IsAlike w d
              apart two (inl (r, r_in, (a, b))) = absurd (elim (cases_eq w c) [
                | inl e ↦ two_mod_four_not_four (sum_over R (λ i. entry m i w) +ℤ sum_over R (λ i. entry m i w)) (subst (λ k. IsTwoModFour (sum_over R (λ i. entry m i w) +ℤ sum_over R (λ i. entry m i k))) (sym e) two) (four-double (sum_over R (λ i. entry m i w)) (column_even w is))
                | inr different ↦ two_columns w c r w_in is j c_in s t different two r_in a b
              ])
              apart two (inr few) = other_column w c is j c_in s t two few (some_nonzero (λ k. entry m j.u k) (λ k. small j.u k) (filter (λ k. not (only c k)) C) more)
                where
                  more : sum_over (filter (λ k. not (only c k)) C) (λ k. mark (entry m j.u k)) ≢ pos 0
                  more e =
                      let all = sum_split (only c) C (λ k. mark (entry m j.u k)) in
                      let here = sum_only c m.width C (λ k. mark (entry m j.u k)) (column_set_increases m C column_set) c_in in
                      let one = mark_sign (entry m j.u c) s in
                      let whole = rows_two m small R C row_set column_set f before j.u j.u_in in
                      omega (arith, sums)
