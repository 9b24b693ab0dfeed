-- The kept columns make the least fault.
use Rattle.std.proofs.Common.{◌≡◌, ◌≢◌, ◌<◌, ◌≤◌, ◌≤ℤ◌, ◌^◌, ◌∙◌, ◌⊎◌, inl, inr, ℕ, zero, suc, Bool, false, not, ℤ, pos, ◌+ℤ◌, ◌-ℤ◌, List, [], ◌∷◌, refl, ap, sym, subst, arith}
use Rattle.std.specs.Prelude.{filter, if◌then◌else◌}
use Rattle.std.proofs.Math.Nat.{pow-le-pow_right}
use Rattle.std.proofs.lemmas.Bool.{cases_eq, cases_lt}
use Rattle.cmr_base.specs.Matrix.{Matrix, entry, is_nonzero, IsEntry}
use Rattle.cmr_base.specs.LineSets.{IsRowSet, IsColumnSet, set_number}
use Rattle.cmr_base.specs.Members.{IsIn, IsDistinct}
use Rattle.cmr_base.specs.Sums.{sum_over, IsEven, IsTwoModFour}
use Rattle.cmr_base.proofs.Integers.{sums}
use Rattle.cmr_base.proofs.Members.{all_in, all_of_members, increasing_are_distinct}
use Rattle.cmr_base.proofs.Parity.{IsFour, even-add, two_mod_four_not_four}
use Rattle.ghouila.proofs.Cycles.{four_or_two}
use Rattle.cmr_base.proofs.IncreasingLists.{IncreasesIn, column_set_increases, increasing_below}
use Rattle.cmr_base.proofs.RowLists.{filter_in, in_filter}
use Rattle.cmr_base.proofs.SumLaws.{sum_over-exchange}
use Rattle.cmr_base.proofs.Booleans.{not_is}
use Rattle.balance.specs.BalanceFaults.{row_nonzeros, column_nonzeros, IsBalanceFault}
use Rattle.balance.specs.SearchedFaults.{HasNoFaultBelow}
use Rattle.balance.specs.CandidateColumns.{IsCandidate, AreAlikeColumns, IsLeastAlike, AreKept}
use Rattle.balance.proofs.NonzeroCounts.{mark, two_from_sum, two_is_even}
use Rattle.balance.proofs.FilterSums.{sum_split, increases-part}
use Rattle.balance.proofs.AddedLines.{only, added_false, not_added, sum_only}
use Rattle.balance.proofs.MinimalFaults.{rows_two}
use Rattle.balance.proofs.AlikeColumns.{IsAlike, alike, fault_column, never_alike}

-- ---- lists matched item by item

pub record IsMatched (t : ℕ → ℕ → Type 0) (xs ys : List ℕ) : Type 0 where
  pub to : (x : ℕ) → IsIn x xs → (y : ℕ) × IsIn y ys × t x y
  pub from : (y : ℕ) → IsIn y ys → (x : ℕ) × IsIn x xs × t x y
  pub one_y : (x y z : ℕ) → IsIn x xs → IsIn y ys → IsIn z ys → t x y → t x z → y ≡ z
  pub one_x : (x z y : ℕ) → IsIn x xs → IsIn z xs → IsIn y ys → t x y → t z y → x ≡ z

pub matched_sums : (r : ℤ → ℤ → Type 0) → r (pos 0) (pos 0) → ((a b c d : ℤ) → r a b → r c d → r (a +ℤ c) (b +ℤ d))
    → (t : ℕ → ℕ → Type 0) (f g : ℕ → ℤ) (high : ℕ) (xs ys : List ℕ) → IsDistinct xs → IncreasesIn 0 high ys → IsMatched t xs ys
    → ((x y : ℕ) → IsIn x xs → IsIn y ys → t x y → r (f x) (g y)) → r (sum_over xs f) (sum_over ys g)
matched_sums r none more t f g high [] [] d s m each = none
matched_sums r none more t f g high [] (y ∷ ys) d s m each = absurd ((m.from y (inl refl)).1)
matched_sums r none more t f g high (x ∷ xs) ys d s m each = subst (r (f x +ℤ sum_over xs f)) total
    (more (f x) (g y) (sum_over xs f) (sum_over (filter (λ z. not (only y z)) ys) g) (each x y (inl refl) partner.1 partner.2)
    (matched_sums r none more t f g high xs (filter (λ z. not (only y z)) ys) d.1 (increases-part (λ z. not (only y z)) 0 high ys s) rest (λ a b h k q. each a b (inr h) (in_filter (λ z. not (only y z)) b ys k).0 q)))
  where
    partner : (y : ℕ) × IsIn y ys × t x y
    partner = m.to x (inl refl)

    y : ℕ
    y = (m.to x (inl refl)).0

    total : g y +ℤ sum_over (filter (λ z. not (only y z)) ys) g ≡ sum_over ys g
    total = let a = sum_split (only y) ys g in let b = sum_only y high ys g s partner.1 in omega (arith, sums)

    kept : (b : ℕ) → IsIn b ys → b ≢ y → IsIn b (filter (λ z. not (only y z)) ys)
    kept b h apart = filter_in (λ z. not (only y z)) b ys h (ap not (not_added (λ z. false) y b refl apart))

    rest : IsMatched t xs (filter (λ z. not (only y z)) ys)
    rest = record {
      to = λ a h. let q = m.to a (inr h) in (q.0, kept q.0 q.1 (λ e. d.0 (subst (λ k. IsIn k xs) (m.one_x a x y (inr h) (inl refl) partner.1 (subst (t a) e q.2) partner.2) h)), q.2);
      from = λ b h. let k = in_filter (λ z. not (only y z)) b ys h in later b k.0 ((added_false (λ z. false) y b (not_is (only y b) k.1)).1) (m.from b k.0);
      one_y = λ a b c h k l. m.one_y a b c (inr h) (in_filter (λ z. not (only y z)) b ys k).0 (in_filter (λ z. not (only y z)) c ys l).0;
      one_x = λ a c b h k l. m.one_x a c b (inr h) (inr k) (in_filter (λ z. not (only y z)) b ys l).0;
    }
      where
        later : (b : ℕ) → IsIn b ys → b ≢ y → (a : ℕ) × ((a ≡ x) ⊎ IsIn a xs) × t a b → (a : ℕ) × IsIn a xs × t a b
        later b h apart (a, inl e, q) = absurd (apart (m.one_y x b y (inl refl) h partner.1 (subst (λ k. t k b) e q) partner.2))
        later b h apart (a, inr k, q) = (a, k, q)

-- ---- the least number with a property

first_below : (P : ℕ → Type 0) (n : ℕ) → ((x : ℕ) → x < n → P x ⊎ (P x → ⊥)) → ((w : ℕ) × (w < n) × P w × ((x : ℕ) → x < w → P x → ⊥)) ⊎ ((x : ℕ) → x < n → P x → ⊥)
first_below P zero d = inr (λ x h p. omega arith)
first_below P (suc n) d = go (first_below P n (λ x h. d x (omega arith))) (d n (omega arith))
  where
    go : ((w : ℕ) × (w < n) × P w × ((x : ℕ) → x < w → P x → ⊥)) ⊎ ((x : ℕ) → x < n → P x → ⊥) → P n ⊎ (P n → ⊥)
        → ((w : ℕ) × (w < suc n) × P w × ((x : ℕ) → x < w → P x → ⊥)) ⊎ ((x : ℕ) → x < suc n → P x → ⊥)
    go (inl (w, h, p, low)) k = inl (w, omega arith, p, low)
    go (inr none) (inl p) = inl (n, omega arith, p, none)
    go (inr none) (inr never) = inr (λ x h p. elim (cases_eq x n) [ inl e ↦ never (subst P e p) | inr apart ↦ none x (omega arith) p ])

mark_same : (a b : ℤ) → is_nonzero a ≡ is_nonzero b → mark a ≡ mark b
mark_same a b e = ap (λ (t : Bool). if t then pos 1 else pos 0) e

four_apart : (k c d : ℤ) → IsEven k → IsFour (k +ℤ c) → IsFour (k +ℤ d) → IsFour (c +ℤ d)
four_apart k c d (n, e) (a, f) (b, g) = ((a +ℤ b) -ℤ n, omega (arith, sums))

flip : (a b : ℤ) → IsFour (a +ℤ b) → IsFour (b +ℤ a)
flip a b (k, e) = (k, omega (arith, sums))

pub sum_number : (xs : List ℕ) → sum_over xs (λ x. pos (2 ^ x)) ≡ pos (set_number xs)
sum_number [] = refl
sum_number (x ∷ xs) = let k = sum_number xs in omega (arith, sums)

two_of : (a b : ℤ) → IsFour (a +ℤ b) → IsTwoModFour b → IsTwoModFour a
two_of a b (k, e) (l, g) = ((k -ℤ l) -ℤ pos 1, omega (arith, sums))

module _ (m : Matrix) (small : (i j : ℕ) → IsEntry (entry m i j)) (R C : List ℕ) (row_set : IsRowSet m R) (column_set : IsColumnSet m C) (f : IsBalanceFault (entry m) R C) (before : HasNoFaultBelow m (set_number R)) (K : List ℕ) (kept : AreKept m R K) where
  abbrev Like : ℕ → ℕ → Type 0
  Like w c = IsAlike m small R C row_set column_set f before w c

  even : (w : ℕ) → IsCandidate m R w → IsEven (sum_over R (λ i. entry m i w))
  even w is = two_is_even (λ i. entry m i w) (λ i. small i w) R is

  like_one : (w c d : ℕ) → IsCandidate m R w → Like w c → Like w d → c ≡ d
  like_one w c d is a b = elim (cases_eq c d) [
    | inl e ↦ e
    | inr apart ↦ absurd (never_alike m small R C row_set column_set f before c d a.c_in b.c_in apart (λ i h. sym (a.same i h) ∙ b.same i h) (four_apart (sum_over R (λ i. entry m i w)) (sum_over R (λ i. entry m i c)) (sum_over R (λ i. entry m i d)) (even w is) a.four b.four))
  ]

  are_alike : (w x c : ℕ) → IsCandidate m R c → Like w c → Like x c → AreAlikeColumns m R w x
  are_alike w x c is a b = record {
    same_rows = all_of_members (λ i. is_nonzero (entry m i w) ≡ is_nonzero (entry m i x)) R (λ i h. a.same i h ∙ sym (b.same i h));
    no_fault = λ two. two_mod_four_not_four (sum_over R (λ i. entry m i w) +ℤ sum_over R (λ i. entry m i x)) two
        (four_apart (sum_over R (λ i. entry m i c)) (sum_over R (λ i. entry m i w)) (sum_over R (λ i. entry m i x)) (even c is) (flip (sum_over R (λ i. entry m i w)) (sum_over R (λ i. entry m i c)) a.four) (flip (sum_over R (λ i. entry m i x)) (sum_over R (λ i. entry m i c)) b.four));
  }

  fault_candidate : (c : ℕ) → IsIn c C → IsCandidate m R c
  fault_candidate = fault_column m small R C row_set column_set f before

  inside : (c : ℕ) → IsIn c C → c < m.width
  inside = all_in (λ x. x < m.width) C (increasing_below 0 m.width C (column_set_increases m C column_set))

  like_itself : (c : ℕ) → IsIn c C → Like c c
  like_itself c h = go (alike m small R C row_set column_set f before c (inside c h) (fault_candidate c h))
    where
      go : (d : ℕ) × Like c d → Like c c
      go (d, a) = record { c_in = h; same = λ i k. refl; four = let e = even c (fault_candidate c h) in (e.0, omega (arith, sums, e.1)) }

  -- the kept column that is like a column of the fault
  least_like : (c : ℕ) → IsIn c C → (w : ℕ) × IsIn w K × Like w c
  least_like c h = go (first_below (λ w. IsCandidate m R w × Like w c) (suc c) decide)
    where
      decide : (w : ℕ) → w < suc c → (IsCandidate m R w × Like w c) ⊎ (IsCandidate m R w × Like w c → ⊥)
      decide w l = elim (cases_eq (column_nonzeros (entry m) R w) 2) [
        | inr never ↦ inr (λ p. never p.0)
        | inl is ↦ like (alike m small R C row_set column_set f before w (let k = inside c h in omega arith) is) is
      ]
        where
          like : (d : ℕ) × Like w d → IsCandidate m R w → (IsCandidate m R w × Like w c) ⊎ (IsCandidate m R w × Like w c → ⊥)
          like (d, a) is = elim (cases_eq d c) [ inl e ↦ inl (is, subst (Like w) e a) | inr apart ↦ inr (λ p. apart (like_one w d c is a p.1)) ]

      go : ((w : ℕ) × (w < suc c) × (IsCandidate m R w × Like w c) × ((x : ℕ) → x < w → IsCandidate m R x × Like x c → ⊥)) ⊎ ((x : ℕ) → x < suc c → IsCandidate m R x × Like x c → ⊥)
          → (w : ℕ) × IsIn w K × Like w c
      go (inr none) = absurd (none c (omega arith) (fault_candidate c h, like_itself c h))
      go (inl (w, l, p, low)) = (
        w,
        (kept.members w).1 (record {
          column_in = let k = inside c h in omega arith;
          candidate = p.0;
          least = λ x less is a. low x less (
            is,
            record {
              c_in = h;
              same = λ i k. all_in (λ r. is_nonzero (entry m r x) ≡ is_nonzero (entry m r w)) R a.same_rows i k ∙ p.1.same i k;
              four = through x is a;
            },
          );
        }),
        p.1,
      )
        where
          through : (x : ℕ) → IsCandidate m R x → AreAlikeColumns m R x w → IsFour (sum_over R (λ i. entry m i x) +ℤ sum_over R (λ i. entry m i c))
          through x is a = elim (four_or_two (sum_over R (λ i. entry m i x) +ℤ sum_over R (λ i. entry m i w)) (even-add (sum_over R (λ i. entry m i x)) (sum_over R (λ i. entry m i w)) (even x is) (even w p.0))) [
            | inr two ↦ absurd (a.no_fault two)
            | inl four ↦ four_apart (sum_over R (λ i. entry m i w)) (sum_over R (λ i. entry m i x)) (sum_over R (λ i. entry m i c)) (even w p.0) (flip (sum_over R (λ i. entry m i x)) (sum_over R (λ i. entry m i w)) four) p.1.four
          ]

  kept_is : (k : ℕ) → IsIn k K → IsLeastAlike m R k
  kept_is k h = (kept.members k).0 h

  not_less : (k x c : ℕ) → IsIn k K → IsCandidate m R x → IsCandidate m R c → Like x c → Like k c → k ≤ x
  not_less k x c h is is' a b = elim (cases_lt x k) [
    | inl less ↦ absurd ((kept_is k h).least x less is (are_alike x k c is' a b))
    | inr past ↦ past
  ]

  matched : IsMatched Like K C
  matched = record {
    to = λ k h. let a = alike m small R C row_set column_set f before k (kept_is k h).column_in (kept_is k h).candidate in (a.0, a.1.c_in, a.1);
    from = least_like;
    one_y = λ k c d h i j a b. like_one k c d (kept_is k h).candidate a b;
    one_x = λ k l c h i j a b. let p = not_less k l c h (kept_is l i).candidate (fault_candidate c j) b a in let q = not_less l k c i (kept_is k h).candidate (fault_candidate c j) a b in omega arith;
  }

  distinct : IsDistinct K
  distinct = increasing_are_distinct 0 m.width K (column_set_increases m K kept.column_set)

  -- the kept columns are also a fault
  pub kept_fault : IsBalanceFault (entry m) R K
  kept_fault = record {
    two_in_rows = all_of_members (λ i. row_nonzeros (entry m) K i ≡ 2) R (λ i h. two_from_sum (λ j. entry m i j) K
        (matched_sums (λ a b. a ≡ b) refl (λ a b c d e g. plain a b c d e g) Like (λ j. mark (entry m i j)) (λ j. mark (entry m i j)) m.width K C distinct (column_set_increases m C column_set) matched (λ k c x y a. mark_same (entry m i k) (entry m i c) (a.same i h))
        ∙ rows_two m small R C row_set column_set f before i h));
    two_in_columns = all_of_members (λ j. column_nonzeros (entry m) R j ≡ 2) K (λ k h. (kept_is k h).candidate);
    two_mod_four = subst IsTwoModFour (sym (sum_over-exchange R K (λ i j. entry m i j)))
        (two_of (sum_over K (λ j. sum_over R (λ i. entry m i j))) (sum_over C (λ j. sum_over R (λ i. entry m i j)))
        (matched_sums (λ a b. IsFour (a +ℤ b)) (pos 0, refl) (λ a b c d e g. fours a b c d e g) Like (λ j. sum_over R (λ i. entry m i j)) (λ j. sum_over R (λ i. entry m i j)) m.width K C distinct (column_set_increases m C column_set) matched (λ k c x y a. a.four))
        (subst IsTwoModFour (sum_over-exchange R C (λ i j. entry m i j)) f.two_mod_four));
  }
    where
      plain : (a b c d : ℤ) → a ≡ b → c ≡ d → a +ℤ c ≡ b +ℤ d
      plain a b c d e g = omega (arith, sums)

      fours : (a b c d : ℤ) → IsFour (a +ℤ b) → IsFour (c +ℤ d) → IsFour ((a +ℤ c) +ℤ (b +ℤ d))
      fours a b c d (k, e) (l, g) = (k +ℤ l, omega (arith, sums))

  -- as a set, the kept columns have at most the number of the fault's columns
  pub kept_least : set_number K ≤ set_number C
  kept_least = let k = matched_sums (λ a b. a ≤ℤ b) (omega (arith, sums)) (λ a b c d e g. plain a b c d e g) Like (λ j. pos (2 ^ j)) (λ j. pos (2 ^ j)) m.width K C distinct (column_set_increases m C column_set) matched powers in
      let a = sum_number K in let b = sum_number C in omega (arith, sums)
    where
      plain : (a b c d : ℤ) → a ≤ℤ b → c ≤ℤ d → (a +ℤ c) ≤ℤ (b +ℤ d)
      plain a b c d e g = omega (arith, sums)

      powers : (k c : ℕ) → IsIn k K → IsIn c C → Like k c → pos (2 ^ k) ≤ℤ pos (2 ^ c)
      powers k c h i a = let le : k ≤ c = not_less k c c h (fault_candidate c i) (fault_candidate c i) (like_itself c i) a in let some : 0 < 2 = omega arith in let p : 2 ^ k ≤ 2 ^ c = pow-le-pow_right some le in omega (arith, sums)
