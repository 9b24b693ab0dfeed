-- A three-separation with a block of rank two and a block of rank zero is a cut after a pivot at a nonzero of the block.
use Rattle.std.proofs.Common.{◌≡◌, ◌≢◌, ◌<◌, ◌⊎◌, inl, inr, ◌∙◌, ℕ, suc, ℤ, pos, neg_ℤ, ◌*ℤ◌, ◌-ℤ◌, Bool, true, false, not, cond, nat_eq, refl, ap, sym, subst, arith}
use Rattle.std.proofs.lemmas.Bool.{false≢true}
use Rattle.cmr_base.specs.declared.line.Line.TheVariants.{Row, Column}
use Rattle.cmr_base.specs.LineSets.{first_lines}
use Rattle.cmr_base.specs.Matrix.{Matrix, height, entry, IsEntry, HasTernaryEntries}
use Rattle.cmr_base.specs.PlacedPivots.{reduced}
use Rattle.cmr_base.specs.Seeds.{count}
use Rattle.cmr_base.specs.Separations.{AreEnough, Lines, count_lines_in, opposite, product_at}
use Rattle.cmr_base.specs.Signing.{IsSign}
use Rattle.cmr_base.proofs.Booleans.{eq_of, self_eq, is_ne, ne_of, same_or_not}
use Rattle.cmr_base.proofs.Integers.{sums, products}
use Rattle.cmr_base.proofs.LineCounts.{less, count_more, count_same, inside_is}
use Rattle.cmr_base.proofs.ListedLines.{first_lines_contain}
use Rattle.cmr_base.proofs.SignEntries.{sign_of_entry, sign_square}
use Rattle.ghouila.specs.PivotLaws.{pivot_at, IsPivotPlace}
use Rattle.ghouila.proofs.PivotLaws.{entry_after, same_height}
use Rattle.ghouila.proofs.PivotSums.{pivoted_apart, pivoted_at}
use Rattle.ghouila.proofs.WholePivots.{entry_there, entry_in_row, entry_elsewhere}
use Rattle.cuts.specs.LineCuts.{IsCut}
use Rattle.block_ranks.specs.BlockRanks.{is_row_of, is_column_of}
use Rattle.block_ranks.proofs.RankBlocks.{HasTwoAt, none_in_column, none_in_row}

-- ---- counts

-- a number that passes one test, and not another that is the same elsewhere
one_more_passes : (k n : ℕ) (p q : ℕ → Bool) → k < n → p k ≡ true → q k ≡ false → ((x : ℕ) → x ≢ k → p x ≡ q x) → count p n ≡ suc (count q n)
one_more_passes k n p q l e f same = count_more k p n l e ∙ ap suc (count_same (less k p) q n (λ x lx. go x (nat_eq k x) refl))
  where
    go : (x : ℕ) (t : Bool) → nat_eq k x ≡ t → cond t false (p x) ≡ q x
    go x true g = sym f ∙ ap q (eq_of k x g)
    go x false g = same x (λ h. ne_of k x g (sym h))

-- ---- the sides with the row and the column of a pivot exchanged

-- side one with the row k, and without the column p
abbrev pub turned_side : Lines → (row column : ℕ) → Lines
turned_side T k p (Row r) = cond (nat_eq k r) true (T (Row r))
turned_side T k p (Column c) = cond (nat_eq p c) false (T (Column c))

module _ (T : Lines) (k p : ℕ) where
  pub row_there : turned_side T k p (Row k) ≡ true
  row_there = ap (λ (t : Bool). cond t true (T (Row k))) (self_eq k)

  pub row_elsewhere : (r : ℕ) → r ≢ k → turned_side T k p (Row r) ≡ T (Row r)
  row_elsewhere r n = ap (λ (t : Bool). cond t true (T (Row r))) (is_ne k r (λ e. n (sym e)))

  pub column_there : turned_side T k p (Column p) ≡ false
  column_there = ap (λ (t : Bool). cond t false (T (Column p))) (self_eq p)

  pub column_elsewhere : (c : ℕ) → c ≢ p → turned_side T k p (Column c) ≡ T (Column c)
  column_elsewhere c n = ap (λ (t : Bool). cond t false (T (Column c))) (is_ne p c (λ e. n (sym e)))

  -- as many lines on each side
  module _ (h w : ℕ) (lk : k < h) (lp : p < w) (ek : T (Row k) ≡ false) (ep : T (Column p) ≡ true) where
    as_many : count_lines_in (turned_side T k p) (first_lines h) (first_lines w) ≡ count_lines_in T (first_lines h) (first_lines w)
    as_many =
        let a = inside_is h w (turned_side T k p) in
        let b = inside_is h w T in
        let rows = one_more_passes k h (λ r. turned_side T k p (Row r)) (λ r. T (Row r)) lk row_there ek row_elsewhere in
        let columns = one_more_passes p w (λ c. T (Column c)) (λ c. turned_side T k p (Column c)) lp ep column_there (λ c n. sym (column_elsewhere c n)) in
        omega arith

    as_many_outside : count_lines_in (opposite (turned_side T k p)) (first_lines h) (first_lines w) ≡ count_lines_in (opposite T) (first_lines h) (first_lines w)
    as_many_outside =
        let a = inside_is h w (opposite (turned_side T k p)) in
        let b = inside_is h w (opposite T) in
        let rows = one_more_passes k h (λ r. not (T (Row r))) (λ r. not (turned_side T k p (Row r))) lk (ap not ek) (ap not row_there) (λ r n. ap not (sym (row_elsewhere r n))) in
        let columns = one_more_passes p w (λ c. not (turned_side T k p (Column c))) (λ c. not (T (Column c))) lp (ap not column_there) (ap not ep) (λ c n. ap not (column_elsewhere c n)) in
        omega arith

    pub turned_enough : (least : ℕ) → AreEnough (first_lines h) (first_lines w) T least → AreEnough (first_lines h) (first_lines w) (turned_side T k p) least
    turned_enough least enough = record {
      one = let a = as_many in let b = enough.one in omega arith;
      two = let a = as_many_outside in let b = enough.two in omega arith;
    }

-- ---- products

-- the four entries of the block that gets the row and the column of the pivot
module _ (a x y : ℤ) (one : a *ℤ a ≡ pos 1) where
  there : a ≡ a *ℤ (a *ℤ a)
  there = rw one (plain a)
    where
      plain : (a : ℤ) → a ≡ a *ℤ pos 1
      plain a = simp products

  in_row : a *ℤ y ≡ a *ℤ ((a *ℤ y) *ℤ a)
  in_row = sym (gathered a y ∙ rw one (plain a y))
    where
      gathered : (a y : ℤ) → a *ℤ ((a *ℤ y) *ℤ a) ≡ (a *ℤ a) *ℤ (a *ℤ y)
      gathered a y = simp products

      plain : (a y : ℤ) → pos 1 *ℤ (a *ℤ y) ≡ a *ℤ y
      plain a y = simp products

  in_column : neg_ℤ (a *ℤ x) ≡ neg_ℤ (a *ℤ x) *ℤ (a *ℤ a)
  in_column = rw one (plain (neg_ℤ (a *ℤ x)))
    where
      plain : (z : ℤ) → z ≡ z *ℤ pos 1
      plain z = simp products

  beside : pos 0 -ℤ a *ℤ (x *ℤ y) ≡ neg_ℤ (a *ℤ x) *ℤ ((a *ℤ y) *ℤ a)
  beside = sym (gathered a x y ∙ ap (λ (z : ℤ). neg_ℤ (z *ℤ (a *ℤ (x *ℤ y)))) one ∙ plain (a *ℤ (x *ℤ y)))
    where
      gathered : (a x y : ℤ) → neg_ℤ (a *ℤ x) *ℤ ((a *ℤ y) *ℤ a) ≡ neg_ℤ ((a *ℤ a) *ℤ (a *ℤ (x *ℤ y)))
      gathered a x y = simp products

      plain : (z : ℤ) → neg_ℤ (pos 1 *ℤ z) ≡ pos 0 -ℤ z
      plain z = simp products (omega (arith, sums))

-- ---- the cut after the pivot

module _ (m : Matrix) (T : Lines) (small : HasTernaryEntries m) (enough : AreEnough (first_lines (height m)) (first_lines m.width) T 4)
    (empty : (r c : ℕ) → is_row_of m T true r → is_column_of m T false c → entry m r c ≡ pos 0) (k p : ℕ) (two : HasTwoAt (entry m) (is_row_of m T false) (is_column_of m T true) k p) where
  abbrev l : ℕ
  l = two.other_row

  abbrev q : ℕ
  q = two.other_column

  abbrev M : ℕ → ℕ → ℤ
  M = entry m

  abbrev E : ℕ → ℕ → ℤ
  E = entry (pivot_at m k p)

  sign : IsSign (M k p)
  sign = sign_of_entry (M k p) (small k p) two.nonzero

  place : IsPivotPlace m k p
  place = record { row_in = two.row_in.0; column_in = two.column_in.0; nonzero = sign }

  square : M k p *ℤ M k p ≡ pos 1
  square = sign_square (M k p) sign

  row_apart : l ≢ k
  row_apart e = two.left (ap (λ (r : ℕ). reduced M k p r q) e ∙ none_in_row M k p sign q)

  column_apart : q ≢ p
  column_apart e = two.left (ap (λ (c : ℕ). reduced M k p l c) e ∙ none_in_column M k p sign l)

  -- entries after the pivot
  at_place : E k p ≡ M k p
  at_place = entry_after m k p place k p two.row_in.0 two.column_in.0 ∙ entry_there M k p

  at_row : (c : ℕ) → c < m.width → c ≢ p → E k c ≡ M k p *ℤ M k c
  at_row c lc n = entry_after m k p place k c two.row_in.0 lc ∙ entry_in_row M k p c n

  at_column : (r : ℕ) → r < height m → r ≢ k → E r p ≡ neg_ℤ (M k p *ℤ M r p)
  at_column r lr n = entry_after m k p place r p lr two.column_in.0 ∙ entry_elsewhere M k p r p n ∙ pivoted_at M k p r

  elsewhere : (r c : ℕ) → r < height m → c < m.width → r ≢ k → c ≢ p → E r c ≡ reduced M k p r c
  elsewhere r c lr lc n n' = entry_after m k p place r c lr lc ∙ entry_elsewhere M k p r c n ∙ pivoted_apart M k p r c n'

  -- the block with the row and the column of the pivot
  upper_product : (r c : ℕ) → r < height m → c < m.width → turned_side T k p (Row r) ≡ true → turned_side T k p (Column c) ≡ false → E r c ≡ product_at E k p r c
  upper_product r c lr lc er ec = go (same_or_not r k) (same_or_not c p)
    where
      go : (r ≡ k) ⊎ (r ≢ k) → (c ≡ p) ⊎ (c ≢ p) → E r c ≡ product_at E k p r c
      go (inl e) (inl f) = rw (e, f, at_place) (there (M k p) (M k p) (M k p) square)
      go (inl e) (inr n) = rw (e, at_place, at_row c lc n) (in_row (M k p) (M k p) (M k c) square)
      go (inr n) (inl f) = rw (f, at_place, at_column r lr n) (in_column (M k p) (M r p) (M k p) square)
      go (inr n) (inr n') =
          let none = empty r c (lr, sym (row_elsewhere T k p r n) ∙ er) (lc, sym (column_elsewhere T k p c n') ∙ ec) in
          rw (elsewhere r c lr lc n n', none, at_place, at_column r lr n, at_row c lc n') (beside (M k p) (M r p) (M k c) square)

  module _ (ternary : HasTernaryEntries (pivot_at m k p)) where
    left_sign : IsSign (reduced M k p l q)
    left_sign = sign_of_entry (reduced M k p l q) (subst IsEntry (elsewhere l q two.other_row_in.0 two.other_column_in.0 row_apart column_apart) (ternary l q)) two.left

    lower_product : (r c : ℕ) → r < height m → c < m.width → turned_side T k p (Row r) ≡ false → turned_side T k p (Column c) ≡ true → E r c ≡ product_at E l q r c
    lower_product r c lr lc er ec =
        let n : r ≢ k = λ e. false≢true (sym er ∙ (ap (λ (x : ℕ). turned_side T k p (Row x)) e ∙ row_there T k p)) in
        let n' : c ≢ p = λ e. false≢true (sym (column_there T k p) ∙ (ap (λ (x : ℕ). turned_side T k p (Column x)) (sym e) ∙ ec)) in
        let lo = two.other_row_in.0 in
        let lp = two.other_column_in.0 in
        rw (elsewhere r c lr lc n n', elsewhere r q lr lp n column_apart, elsewhere l c lo lc row_apart n', elsewhere l q lo lp row_apart column_apart)
        (two.rest left_sign r c (lr, sym (row_elsewhere T k p r n) ∙ er) (lc, sym (column_elsewhere T k p c n') ∙ ec))

    pub cut_after : IsCut (pivot_at m k p) (turned_side T k p)
    cut_after = record {
      corners = record { one = record { row = k; column = q }; two = record { row = l; column = p } };
      are_inside = record { row_one = row_in k two.row_in.0; column_one = two.other_column_in.0; row_two = row_in l two.other_row_in.0; column_two = two.column_in.0 };
      upper = λ e. two.nonzero (sym at_place ∙ e);
      lower = λ e. two.left (sym (elsewhere l q two.other_row_in.0 two.other_column_in.0 row_apart column_apart) ∙ e);
      cut = record {
        closed = record {
          upper = λ r c hr hc. upper_product r c (row_back r (first_lines_contain (height (pivot_at m k p)) r hr)) (first_lines_contain m.width c hc);
          lower = λ r c hr hc. lower_product r c (row_back r (first_lines_contain (height (pivot_at m k p)) r hr)) (first_lines_contain m.width c hc);
        };
        row_one = row_there T k p;
        column_one = column_elsewhere T k p q column_apart ∙ two.other_column_in.1;
        row_two = row_elsewhere T k p l row_apart ∙ two.other_row_in.1;
        column_two = column_there T k p;
        enough = subst (λ (h : ℕ). AreEnough (first_lines h) (first_lines m.width) (turned_side T k p) 4) (sym (same_height m k p place))
            (turned_enough T k p (height m) m.width two.row_in.0 two.column_in.0 two.row_in.1 two.column_in.1 4 enough);
      };
    }
      where
        row_in : (r : ℕ) → r < height m → r < height (pivot_at m k p)
        row_in r l = let e = same_height m k p place in omega arith

        row_back : (r : ℕ) → r < height (pivot_at m k p) → r < height m
        row_back r l = let e = same_height m k p place in omega arith
