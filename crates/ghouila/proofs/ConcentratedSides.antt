-- A violator of a matrix of four blocks gives one of a child, if one block is zero and one is made from two rows and two columns.
use Rattle.std.proofs.Common.{ℕ, ℤ, pos, Bool, true, List, [], ◌∷◌, ◌≡◌, ◌+ℤ◌, ◌*ℤ◌, ◌-ℤ◌, ◌∙◌, sym, refl, arith, subst, ◌⊎◌, inl, inr}
use Rattle.std.specs.List.{AllByRecursion}
use Rattle.cmr_base.specs.Sums.{sum_over, IsEven, IsTwoModFour}
use Rattle.cmr_base.specs.Signing.{IsSign}
use Rattle.cmr_base.specs.Separations.{spread}
use Rattle.cmr_base.proofs.Integers.{sums}
use Rattle.cmr_base.proofs.Lists.{all_weaker}
use Rattle.cmr_base.proofs.SumLaws.{sum_over-zero, sum_over-exchange}
use Rattle.cmr_base.proofs.Parity.{IsFour, even-sum_over}
use Rattle.cmr_base.proofs.ViolatorLemmas.{violator-transposed}
use Rattle.ghouila.proofs.ViolatedLines.{ViolatedIn}
use Rattle.ghouila.proofs.ParityBits.{bit_of, when}
use Rattle.ghouila.proofs.BlockViolators.{all_kept, all_other, kept, other, Blocks, Cut, cut}
use Rattle.ghouila.proofs.JoinedSides.{Sides}
use Rattle.ghouila.proofs.CoreParities.{comes_in, core_rows_even, even_with_parts, signs_even, total_four, total_two, core_line, core_sum}
use Rattle.ghouila.proofs.AddedLines.{added, all-added, with_lines_added, core_violator}
use Rattle.ghouila.proofs.SpreadSums.{first_column_count, second_column_count, first_row_count, second_row_count, column_sum, row_sum, spread_sum, even_count, times_square, first_row_solved, second_row_solved, first_column_solved, second_column_solved}
use Rattle.ghouila.proofs.CoreLines.{even_bits, even_bits_right, incoming_even, added_even, core_even, last_core_line, inner_core_line, one_of_three}

-- Both matrices contain the core: the first as rows i, k, o and columns p, q, j, the second with row i2 and columns p2, q2.
pub record HaveCore (M1 M2 : ℕ → ℕ → ℤ) (S1 T2 : ℕ → Type 0) (i p q k o j i2 p2 q2 : ℕ) (d : ℤ) : Type 0 where
  pub unit_ip : IsSign (M1 i p)
  pub unit_iq : IsSign (M1 i q)
  pub unit_kj : IsSign (M1 k j)
  pub unit_oj : IsSign (M1 o j)
  pub unit_d : IsSign d
  pub det : d ≡ M1 k p *ℤ M1 o q -ℤ M1 k q *ℤ M1 o p
  pub zero_j : (r : ℕ) → S1 r → M1 r j ≡ pos 0
  pub corner : M1 i j ≡ pos 0
  pub zero_i : (c : ℕ) → T2 c → M2 i2 c ≡ pos 0
  pub same_p : M2 i2 p2 ≡ M1 i p
  pub same_q : M2 i2 q2 ≡ M1 i q

-- the lines of the core are lines of the children
pub record IsCoreIn (P1 Q1 P2 Q2 : ℕ → Type 0) (i p q k o j i2 p2 q2 : ℕ) : Type 0 where
  pub in_i : P1 i
  pub in_k : P1 k
  pub in_o : P1 o
  pub in_p : Q1 p
  pub in_q : Q1 q
  pub in_j : Q1 j
  pub in_i2 : P2 i2
  pub in_p2 : Q2 p2
  pub in_q2 : Q2 q2

no_sum : (n m : ℤ) → m ≡ pos 0 → IsEven (n +ℤ m) → IsEven n
no_sum n m e (k, f) = (k, omega (arith, sums))

no_sum_left : (n m : ℤ) → m ≡ pos 0 → IsEven (m +ℤ n) → IsEven n
no_sum_left n m e (k, f) = (k, omega (arith, sums))

zero_sums : (R C : List ℕ) → sum_over R (λ r. sum_over C (λ c. pos 0)) ≡ pos 0
zero_sums [] C = refl
zero_sums (r ∷ R) C = rw (zero_sums R C, sum_over-zero C) refl

module _ (M1 M2 : ℕ → ℕ → ℤ) (S1 T2 P1 Q1 P2 Q2 T1 S2 : ℕ → Type 0) (i p q k o j i2 p2 q2 : ℕ) (d : ℤ) (sh : HaveCore M1 M2 S1 T2 i p q k o j i2 p2 q2 d) (lies : IsCoreIn P1 Q1 P2 Q2 i p q k o j i2 p2 q2)
    (first_row : (r : ℕ) → S1 r → P1 r) (first_column : (c : ℕ) → T1 c → Q1 c) (second_row : (r : ℕ) → S2 r → P2 r) (second_column : (c : ℕ) → T2 c → Q2 c) where
  abbrev pub block : ℕ → ℕ → ℤ
  block r c = spread d (M1 k p) (M1 k q) (M1 o p) (M1 o q) (M2 r p2) (M2 r q2) (M1 k c) (M1 o c)

  module _ (R1 C1 R2 C2 : List ℕ) (s1 : AllByRecursion S1 R1) (t1 : AllByRecursion T1 C1) (s2 : AllByRecursion S2 R2) (t2 : AllByRecursion T2 C2) (cuts : Cut M1 (λ r c. pos 0) block M2 R1 C1 R2 C2) where
    pub child_violated : ViolatedIn M1 P1 Q1 ⊎ ViolatedIn M2 P2 Q2
    child_violated =
        let v1 = sum_over C1 (λ c. M1 k c) in
        let v2 = sum_over C1 (λ c. M1 o c) in
        let u1 = sum_over R2 (λ r. M2 r p2) in
        let u2 = sum_over R2 (λ r. M2 r q2) in
        let x = M1 k p in
        let y = M1 k q in
        let z = M1 o p in
        let w = M1 o q in
        let t = first_row_count d x y z w u1 u2 in
        let e = second_row_count d x y z w u1 u2 in
        let f = first_column_count d x y z w v1 v2 in
        let g = second_column_count d x y z w v1 v2 in
        let bt = bit_of t in
        let be = bit_of e in
        let bf = bit_of f in
        let bg = bit_of g in
        let v1_is : v1 ≡ x *ℤ f +ℤ y *ℤ g = times_square d (x *ℤ w -ℤ y *ℤ z) v1 sh.unit_d sh.det ∙ first_row_solved d x y z w v1 v2 in
        let v2_is : v2 ≡ z *ℤ f +ℤ w *ℤ g = times_square d (x *ℤ w -ℤ y *ℤ z) v2 sh.unit_d sh.det ∙ second_row_solved d x y z w v1 v2 in
        let u1_is : u1 ≡ x *ℤ t +ℤ z *ℤ e = times_square d (x *ℤ w -ℤ y *ℤ z) u1 sh.unit_d sh.det ∙ first_column_solved d x y z w u1 u2 in
        let u2_is : u2 ≡ y *ℤ t +ℤ w *ℤ e = times_square d (x *ℤ w -ℤ y *ℤ z) u2 sh.unit_d sh.det ∙ second_column_solved d x y z w u1 u2 in
        let rows1 : AllByRecursion (λ r. IsEven (sum_over C1 (λ c. M1 r c))) R1 =
        all_weaker (λ r. IsEven (sum_over C1 (λ c. M1 r c) +ℤ sum_over C2 (λ c. pos 0))) (λ r. IsEven (sum_over C1 (λ c. M1 r c))) (λ r h. no_sum (sum_over C1 (λ c. M1 r c)) (sum_over C2 (λ c. pos 0)) (sum_over-zero C2) h) R1 cuts.rows1 in
        let columns2 : AllByRecursion (λ c. IsEven (sum_over R2 (λ r. M2 r c))) C2 =
        all_weaker (λ c. IsEven (sum_over R1 (λ r. pos 0) +ℤ sum_over R2 (λ r. M2 r c))) (λ c. IsEven (sum_over R2 (λ r. M2 r c))) (λ c h. no_sum_left (sum_over R2 (λ r. M2 r c)) (sum_over R1 (λ r. pos 0)) (sum_over-zero R1) h) C2 cuts.columns2 in
        let columns1 : AllByRecursion (λ c. IsEven (sum_over R1 (λ r. M1 r c) +ℤ (when bt.odd (M1 k c) +ℤ when be.odd (M1 o c)))) C1 =
        all_weaker (λ c. IsEven (sum_over R1 (λ r. M1 r c) +ℤ sum_over R2 (λ r. block r c))) (λ c. IsEven (sum_over R1 (λ r. M1 r c) +ℤ (when bt.odd (M1 k c) +ℤ when be.odd (M1 o c))))
        (λ c h. even_bits (sum_over R1 (λ r. M1 r c)) t e (M1 k c) (M1 o c) bt be
        (subst (λ (n : ℤ). IsEven (sum_over R1 (λ r. M1 r c) +ℤ n)) (column_sum d x y z w R2 (λ r. M2 r p2) (λ r. M2 r q2) (M1 k c) (M1 o c)) h)) C1 cuts.columns1 in
        let rows2 : AllByRecursion (λ r. IsEven (sum_over C2 (λ c. M2 r c) +ℤ (when bf.odd (M2 r p2) +ℤ when bg.odd (M2 r q2)))) R2 =
        all_weaker (λ r. IsEven (sum_over C1 (λ c. block r c) +ℤ sum_over C2 (λ c. M2 r c))) (λ r. IsEven (sum_over C2 (λ c. M2 r c) +ℤ (when bf.odd (M2 r p2) +ℤ when bg.odd (M2 r q2))))
        (λ r h. even_bits_right (sum_over C2 (λ c. M2 r c)) f g (M2 r p2) (M2 r q2) bf bg
        (subst (λ (n : ℤ). IsEven (n +ℤ sum_over C2 (λ c. M2 r c))) (row_sum d x y z w C1 (M2 r p2) (M2 r q2) (λ c. M1 k c) (λ c. M1 o c)) h)) R2 cuts.rows2 in
        let in_rows = core_rows_even v1 v2 x y z w f g (M1 k j) (M1 o j) bt.odd be.odd bf bg v1_is v2_is (λ h l. (even_count d x y z w v1 v2 w y h l, even_count d x y z w v2 v1 x z l h))
        (incoming_even M1 R1 C1 k o bt.odd be.odd rows1 columns1) sh.unit_kj sh.unit_oj in
        let in_columns = core_rows_even u1 u2 x z y w t e (M1 i p) (M1 i q) bf.odd bg.odd bt be u1_is u2_is (λ h l. (even_count d x y z w u1 u2 w z h l, even_count d x y z w u2 u1 x y l h))
        (incoming_even (λ c r. M2 r c) C2 R2 p2 q2 bf.odd bg.odd columns2 rows2) sh.unit_ip sh.unit_iq in
        let a = bt.odd in
        let b = be.odd in
        let m = bf.odd in
        let n = bg.odd in
        let t1' = sum_over R1 (λ r. sum_over C1 (λ c. M1 r c)) in
        let t2' = sum_over C2 (λ c. sum_over R2 (λ r. M2 r c)) in
        let sum = sum_over R2 (λ r. sum_over C1 (λ c. block r c)) in
        let row_i : comes_in m n a b ≡ true → IsEven (core_line (M1 i j) (M1 i p) (M1 i q) (comes_in a b m n) m n) =
        λ h. last_core_line (M1 i j) (M1 i p) (M1 i q) (comes_in a b m n) m n sh.corner (signs_even m n a b (M1 i p) (M1 i q) sh.unit_ip sh.unit_iq h) in
        let row_k : a ≡ true → IsEven (core_line (M1 k j) (M1 k p) (M1 k q) (comes_in a b m n) m n) =
        λ h. inner_core_line v1 (M1 k j) x y (comes_in a b m n) m n (even_with_parts v1 x y f g bf bg v1_is) (in_rows.0 h) in
        let row_o : b ≡ true → IsEven (core_line (M1 o j) (M1 o p) (M1 o q) (comes_in a b m n) m n) =
        λ h. inner_core_line v2 (M1 o j) z w (comes_in a b m n) m n (even_with_parts v2 z w f g bf bg v2_is) (in_rows.1 h) in
        let total : IsTwoModFour ((t1' +ℤ sum) +ℤ t2') =
        plain t1' (sum_over R1 (λ r. sum_over C2 (λ c. pos 0))) sum (sum_over R2 (λ r. sum_over C2 (λ c. M2 r c))) t2' (zero_sums R1 C2) (sum_over-exchange R2 C2 (λ r c. M2 r c)) cuts.total in
        let four : IsFour ((sum +ℤ core_sum x y z w a b m n) -ℤ ((when a v1 +ℤ when b v2) +ℤ (when m u1 +ℤ when n u2))) =
        subst (λ (l : ℤ). IsFour ((l +ℤ core_sum x y z w a b m n) -ℤ ((when a v1 +ℤ when b v2) +ℤ (when m u1 +ℤ when n u2)))) (sym (spread_sum d x y z w R2 C1 (λ r. M2 r p2) (λ r. M2 r q2) (λ c. M1 k c) (λ c. M1 o c)))
        (total_four x y z w t e f g v1 v2 u1 u2 bt be bf bg v1_is v2_is u1_is u2_is) in
        go (one_of_three ((t1' +ℤ when a (v1 +ℤ when (comes_in a b m n) (M1 k j))) +ℤ when b (v2 +ℤ when (comes_in a b m n) (M1 o j)))
        ((t2' +ℤ when m (u1 +ℤ when (comes_in m n a b) (M1 i p))) +ℤ when n (u2 +ℤ when (comes_in m n a b) (M1 i q)))
        (when (comes_in m n a b) (core_line (M1 i j) (M1 i p) (M1 i q) (comes_in a b m n) m n) +ℤ (when a (core_line (M1 k j) x y (comes_in a b m n) m n) +ℤ (when b (core_line (M1 o j) z w (comes_in a b m n) m n) +ℤ pos 0)))
        (total_two x y z w (M1 i p) (M1 i q) (M1 k j) (M1 o j) (M1 i j) v1 v2 u1 u2 t1' t2' sum a b m n sh.corner total four)
        (added_even t1' (v1 +ℤ when (comes_in a b m n) (M1 k j)) (v2 +ℤ when (comes_in a b m n) (M1 o j)) a b (even-sum_over R1 (λ r. sum_over C1 (λ c. M1 r c)) rows1) in_rows.0 in_rows.1)
        (core_even (core_line (M1 i j) (M1 i p) (M1 i q) (comes_in a b m n) m n) (core_line (M1 k j) x y (comes_in a b m n) m n) (core_line (M1 o j) z w (comes_in a b m n) m n) (comes_in m n a b) a b row_i row_k row_o))
        (λ two. record {
          R = added a k (added b o R1);
          C = added (comes_in a b m n) j C1;
          rows = all-added P1 a k (added b o R1) (λ _. lies.in_k) (all-added P1 b o R1 (λ _. lies.in_o) (all_weaker S1 P1 first_row R1 s1));
          columns = all-added Q1 (comes_in a b m n) j C1 (λ _. lies.in_j) (all_weaker T1 Q1 first_column C1 t1);
          violator = with_lines_added M1 R1 C1 k o j a b (comes_in a b m n) (all_weaker S1 (λ r. M1 r j ≡ pos 0) sh.zero_j R1 s1) rows1 columns1 in_rows.0 in_rows.1 (signs_even a b m n (M1 k j) (M1 o j) sh.unit_kj sh.unit_oj) two;
        })
        (λ two. record {
          R = added (comes_in m n a b) i2 R2;
          C = added m p2 (added n q2 C2);
          rows = all-added P2 (comes_in m n a b) i2 R2 (λ _. lies.in_i2) (all_weaker S2 P2 second_row R2 s2);
          columns = all-added Q2 m p2 (added n q2 C2) (λ _. lies.in_p2) (all-added Q2 n q2 C2 (λ _. lies.in_q2) (all_weaker T2 Q2 second_column C2 t2));
          violator = violator-transposed (λ c r. M2 r c) (added m p2 (added n q2 C2)) (added (comes_in m n a b) i2 R2)
              (with_lines_added (λ c r. M2 r c) C2 R2 p2 q2 i2 m n (comes_in m n a b) (all_weaker T2 (λ c. M2 i2 c ≡ pos 0) sh.zero_i C2 t2) columns2 rows2
              (λ h. subst (λ (l : ℤ). IsEven (u1 +ℤ when (comes_in m n a b) l)) (sym sh.same_p) (in_columns.0 h)) (λ h. subst (λ (l : ℤ). IsEven (u2 +ℤ when (comes_in m n a b) l)) (sym sh.same_q) (in_columns.1 h))
              (λ h. subst (λ (l : ℤ). IsEven (when m l +ℤ when n (M2 i2 q2))) (sym sh.same_p) (subst (λ (l : ℤ). IsEven (when m (M1 i p) +ℤ when n l)) (sym sh.same_q) (signs_even m n a b (M1 i p) (M1 i q) sh.unit_ip sh.unit_iq h)))
              (subst (λ (l : ℤ). IsTwoModFour ((t2' +ℤ when m (u1 +ℤ when (comes_in m n a b) l)) +ℤ when n (u2 +ℤ when (comes_in m n a b) (M2 i2 q2)))) (sym sh.same_p)
              (subst (λ (l : ℤ). IsTwoModFour ((t2' +ℤ when m (u1 +ℤ when (comes_in m n a b) (M1 i p))) +ℤ when n (u2 +ℤ when (comes_in m n a b) l))) (sym sh.same_q) two)));
        })
        (λ two. record {
          R = added (comes_in m n a b) i (added a k (added b o []));
          C = added (comes_in a b m n) j (added m p (added n q []));
          rows = all-added P1 (comes_in m n a b) i (added a k (added b o [])) (λ _. lies.in_i) (all-added P1 a k (added b o []) (λ _. lies.in_k) (all-added P1 b o [] (λ _. lies.in_o) tt));
          columns = all-added Q1 (comes_in a b m n) j (added m p (added n q [])) (λ _. lies.in_j) (all-added Q1 m p (added n q []) (λ _. lies.in_p) (all-added Q1 n q [] (λ _. lies.in_q) tt));
          violator = core_violator M1 i k o j p q (comes_in m n a b) a b (comes_in a b m n) m n row_i row_k row_o
              (λ h. last_core_line (M1 i j) (M1 k j) (M1 o j) (comes_in m n a b) a b sh.corner (signs_even a b m n (M1 k j) (M1 o j) sh.unit_kj sh.unit_oj h))
              (λ h. inner_core_line u1 (M1 i p) x z (comes_in m n a b) a b (even_with_parts u1 x z t e bt be u1_is) (in_columns.0 h))
              (λ h. inner_core_line u2 (M1 i q) y w (comes_in m n a b) a b (even_with_parts u2 y w t e bt be u2_is) (in_columns.1 h)) two;
        })
      where
        plain : (a b c d e : ℤ) → b ≡ pos 0 → d ≡ e → IsTwoModFour ((a +ℤ b) +ℤ (c +ℤ d)) → IsTwoModFour ((a +ℤ c) +ℤ e)
        plain a b c d e g h (k, f) = (k, omega (arith, sums))

        go : {A B C : Type 0} → A ⊎ (B ⊎ C) → (A → ViolatedIn M1 P1 Q1) → (B → ViolatedIn M2 P2 Q2) → (C → ViolatedIn M1 P1 Q1) → ViolatedIn M1 P1 Q1 ⊎ ViolatedIn M2 P2 Q2
        go (inl x) f g h = inl (f x)
        go (inr (inl x)) f g h = inr (g x)
        go (inr (inr x)) f g h = inl (h x)

pub concentrated_children : (M M1 M2 : ℕ → ℕ → ℤ) (P Q : ℕ → Type 0) (sr sc : ℕ → Bool) (f g h l : ℕ → ℕ) (S1 T1 S2 T2 P1 Q1 P2 Q2 : ℕ → Type 0) (i p q k o j i2 p2 q2 : ℕ) (d : ℤ)
    → Blocks M P Q sr sc f g h l M1 (λ r c. pos 0) (λ r c. spread d (M1 k p) (M1 k q) (M1 o p) (M1 o q) (M2 r p2) (M2 r q2) (M1 k c) (M1 o c)) M2
    → Sides P Q sr sc f g h l S1 T1 S2 T2 P1 Q1 P2 Q2 → HaveCore M1 M2 S1 T2 i p q k o j i2 p2 q2 d → IsCoreIn P1 Q1 P2 Q2 i p q k o j i2 p2 q2
    → ViolatedIn M P Q → ViolatedIn M1 P1 Q1 ⊎ ViolatedIn M2 P2 Q2
concentrated_children M M1 M2 P Q sr sc f g h l S1 T1 S2 T2 P1 Q1 P2 Q2 i p q k o j i2 p2 q2 d blocks sides sh lies v =
    child_violated M1 M2 S1 T2 P1 Q1 P2 Q2 T1 S2 i p q k o j i2 p2 q2 d sh lies sides.first_row sides.first_column sides.second_row sides.second_column
    (kept sr f v.R) (kept sc g v.C) (kept (other sr) h v.R) (kept (other sc) l v.C)
    (all_kept P S1 sr f sides.one_row v.R v.rows) (all_kept Q T1 sc g sides.one_column v.C v.columns) (all_other P S2 sr h sides.two_row v.R v.rows) (all_other Q T2 sc l sides.two_column v.C v.columns)
    (cut M P Q sr sc f g h l M1 (λ r c. pos 0) (λ r c. spread d (M1 k p) (M1 k q) (M1 o p) (M1 o q) (M2 r p2) (M2 r q2) (M1 k c) (M1 o c)) M2 blocks v.R v.C v.rows v.columns v.violator)
