-- A side of a cut that is not fit has a path. Otherwise the lines from which end columns are reached, or the other lines of the side, are a
-- side of a two-separation.
use Rattle.std.proofs.Common.{◌≡◌, ◌≢◌, ◌<◌, ◌≤◌, ◌+◌, ◌⊎◌, inl, inr, ◌∙◌, ℕ, zero, suc, ℤ, pos, ◌*ℤ◌, ◌&&◌, Bool, true, false, not, nat_lt, refl, ap, sym, arith}
use Rattle.std.specs.Prelude.{◌↔◌}
use Rattle.std.proofs.lemmas.Bool.{false≢true}
use Rattle.cmr_base.specs.declared.line.Line.{Line}
use Rattle.cmr_base.specs.declared.line.Line.TheVariants.{Column, Row}
use Rattle.cmr_base.specs.LineSets.{first_lines}
use Rattle.cmr_base.specs.Matrix.{Matrix, height, entry, HasTernaryEntries}
use Rattle.cmr_base.specs.Separations.{HasNoTwoSeparation, Lines, TwoSeparates, count_lines_in, opposite}
use Rattle.cmr_base.specs.Signing.{IsSign}
use Rattle.cmr_base.specs.Seeds.{IsLine}
use Rattle.cmr_base.proofs.Booleans.{and_is, at_least_of, false_is, lt_of, not_false, two_cases}
use Rattle.cmr_base.proofs.Integers.{products, mul-one}
use Rattle.cmr_base.proofs.ListedLines.{first_lines_contain, has_line_from_line}
use Rattle.cmr_base.proofs.SeedLemmas.{outside_grows}
use Rattle.cmr_base.proofs.SignEntries.{sign-mul, sign_nonzero, sign_of_entry, sign_square, zero_or_sign}
use Rattle.cuts.specs.LineCuts.{IsCut}
use Rattle.cuts.proofs.WordLemmas.{first_zero, second_zero}
use Rattle.cuts.proofs.CutLemmas.{other_enough}
use Rattle.path_places.specs.PathPlaces.{HasNoPath, HasWalk, HasZero, IsColumnOn, IsEndColumn, IsEndRow, IsFit, IsInnerColumn, IsInnerRow}
use Rattle.fit_cuts.specs.UnfitPaths.{HavePositiveSquares, UnfitSidesHavePaths}
use Rattle.fit_cuts.proofs.CutEnds.{column_sign, lower_entry, row_sign, upper_entry}
use Rattle.fit_cuts.proofs.DecidedLines.{apart_from, decided_lines, either, lines_of_parts}

-- an entry of a square by the other three
square_product : (a b z : ℤ) → IsSign b → IsSign z → (a *ℤ b) *ℤ z ≡ pos 1 → a ≡ b *ℤ z
square_product a b z sb sz h =
    sym (one (b *ℤ z) ∙ ap (λ (w : ℤ). w *ℤ (b *ℤ z)) (sym h) ∙ gathered a b z
    ∙ ap (λ (w : ℤ). a *ℤ (w *ℤ (z *ℤ z))) (sign_square b sb) ∙ ap (λ (w : ℤ). a *ℤ (pos 1 *ℤ w)) (sign_square z sz) ∙ mul-one a)
  where
    one : (w : ℤ) → w ≡ pos 1 *ℤ w
    one w = simp products

    gathered : (a b z : ℤ) → ((a *ℤ b) *ℤ z) *ℤ (b *ℤ z) ≡ a *ℤ ((b *ℤ b) *ℤ (z *ℤ z))
    gathered a b z = simp products

-- a line of the side from which an end column is reached through inner lines
abbrev Leads : (m : Matrix) (T : Lines) → Line → Type 0
Leads m T (Row r) = IsInnerRow m T r × (n d : ℕ) × (entry m r d ≢ pos 0) × HasWalk m T n d
Leads m T (Column c) = (n : ℕ) × HasWalk m T n c

walk_on : (m : Matrix) (T : Lines) (n c : ℕ) → HasWalk m T n c → IsColumnOn m T c
walk_on m T zero c walk = walk.on
walk_on m T (suc n) c walk = walk.0.0

-- all entries at the ends of a side are zeros, or all are nonzeros
abbrev AreAlike : (m : Matrix) (T : Lines) → Type 0
AreAlike m T =
    ((r c : ℕ) → IsEndRow m T r → IsEndColumn m T c → entry m r c ≡ pos 0)
    ⊎ ((r c : ℕ) → IsEndRow m T r → IsEndColumn m T c → entry m r c ≢ pos 0)

alike_if_unfit : (m : Matrix) (T : Lines) → HasTernaryEntries m → ¬ (IsFit m T) → (AreAlike m T → ⊥) → ⊥
alike_if_unfit m T small unfit none = either (HasZero m T) go
  where
    go : HasZero m T ⊎ (¬ (HasZero m T)) → ⊥
    go (inr no_zero) = none (inr (λ r c er ec e. no_zero (r, c, er, ec, e)))
    go (inl crossing) = none (inl (λ r c er ec. elim (zero_or_sign (entry m r c) (small r c)) [
      | inl e ↦ e
      | inr u ↦ absurd (unfit (crossing, (r, c, er, ec, sign_nonzero (entry m r c) u)))
    ]))

module _ (m : Matrix) (T : Lines) (small : HasTernaryEntries m) (squares : HavePositiveSquares m) (cut : IsCut m T) (none : HasNoPath m T) (alike : AreAlike m T)
    (S : Lines) (is : (x : Line) → IsLine (height m) m.width x → (S x ≡ true) ↔ Leads m T x) where
  abbrev M : ℕ → ℕ → ℤ
  M = entry m

  abbrev i : ℕ
  i = cut.corners.one.row

  abbrev p : ℕ
  p = cut.corners.one.column

  abbrev k : ℕ
  k = cut.corners.two.row

  abbrev j : ℕ
  j = cut.corners.two.column

  li : i < height m
  li = cut.are_inside.row_one

  lp : p < m.width
  lp = cut.are_inside.column_one

  lk : k < height m
  lk = cut.are_inside.row_two

  lj : j < m.width
  lj = cut.are_inside.column_two

  upper_corner : IsSign (M i j)
  upper_corner = sign_of_entry (M i j) (small i j) cut.upper

  lower_corner : IsSign (M k p)
  lower_corner = sign_of_entry (M k p) (small k p) cut.lower

  -- ---- ends and inner lines, by the corners

  row_end : (r : ℕ) → r < height m → T (Row r) ≡ true → IsSign (M r j) → IsEndRow m T r
  row_end r l e u = record { on = (l, e); across = j; far = (lj, ap not cut.cut.column_two); nonzero = sign_nonzero (M r j) u }

  column_end : (c : ℕ) → c < m.width → T (Column c) ≡ true → IsSign (M k c) → IsEndColumn m T c
  column_end c l e u = record { on = (l, e); across = k; far = (lk, ap not cut.cut.row_two); nonzero = sign_nonzero (M k c) u }

  inner_row : (r : ℕ) → r < height m → T (Row r) ≡ true → M r j ≡ pos 0 → IsInnerRow m T r
  inner_row r l e z = ((l, e), λ end. sign_nonzero (M r j) (row_sign m T small cut r end) z)

  inner_column : (c : ℕ) → c < m.width → T (Column c) ≡ true → M k c ≡ pos 0 → IsInnerColumn m T c
  inner_column c l e z = ((l, e), λ end. sign_nonzero (M k c) (column_sign m T small cut c end) z)

  -- an inner line is 0 in the lines of side two
  inner_row_zero : (r x : ℕ) → IsInnerRow m T r → x < m.width → T (Column x) ≡ false → M r x ≡ pos 0
  inner_row_zero r x inner l e = elim (zero_or_sign (M r x) (small r x)) [
    | inl z ↦ z
    | inr u ↦ absurd (inner.1 (record { on = inner.0; across = x; far = (l, ap not e); nonzero = sign_nonzero (M r x) u }))
  ]

  inner_column_zero : (x c : ℕ) → IsInnerColumn m T c → x < height m → T (Row x) ≡ false → M x c ≡ pos 0
  inner_column_zero x c inner l e = elim (zero_or_sign (M x c) (small x c)) [
    | inl z ↦ z
    | inr u ↦ absurd (inner.1 (record { on = inner.0; across = x; far = (l, ap not e); nonzero = sign_nonzero (M x c) u }))
  ]

  -- ---- the lines that lead to an end column

  in_side : (x : Line) → IsLine (height m) m.width x → S x ≡ true → T x ≡ true
  in_side (Row r) l e = let leads = (is (Row r) l).0 e in leads.0.0.1
  in_side (Column c) l e = let leads = (is (Column c) l).0 e in (walk_on m T leads.0 c leads.1).1

  end_leads : (c : ℕ) → c < m.width → T (Column c) ≡ true → IsSign (M k c) → S (Column c) ≡ true
  end_leads c l e u = (is (Column c) l).1 (0, column_end c l e u)

  -- a column of the side that does not lead there is an inner column
  inner_if_not : (c : ℕ) → c < m.width → T (Column c) ≡ true → S (Column c) ≡ false → IsInnerColumn m T c
  inner_if_not c l e f = elim (zero_or_sign (M k c) (small k c)) [
    | inl z ↦ inner_column c l e z
    | inr u ↦ absurd (false≢true (sym f ∙ end_leads c l e u))
  ]

  -- a row that leads there is 0 in the columns that do not
  no_way_out : (r c : ℕ) → r < height m → c < m.width → S (Row r) ≡ true → T (Column c) ≡ true → S (Column c) ≡ false → M r c ≡ pos 0
  no_way_out r c lr lc er ec f = elim (zero_or_sign (M r c) (small r c)) [
    | inl z ↦ z
    | inr u ↦
        let (inner, n, d, nonzero, walk) = (is (Row r) lr).0 er in
        absurd (false≢true (sym f ∙ (is (Column c) lc).1 (suc n, (inner_if_not c lc ec f, r, d, inner, sign_nonzero (M r c) u, nonzero, walk))))
  ]

  -- a row that does not lead there, and a column that does: they cross in 0 if one of them is an inner line
  zero_in_inner_row : (r c : ℕ) → r < height m → c < m.width → T (Row r) ≡ true → S (Row r) ≡ false → S (Column c) ≡ true → M r j ≡ pos 0 → M r c ≡ pos 0
  zero_in_inner_row r c lr lc er f ec z = elim (zero_or_sign (M r c) (small r c)) [
    | inl e ↦ e
    | inr u ↦
        let (n, walk) = (is (Column c) lc).0 ec in
        absurd (false≢true (sym f ∙ (is (Row r) lr).1 (inner_row r lr er z, n, c, sign_nonzero (M r c) u, walk)))
  ]

  zero_in_inner_column : (r c : ℕ) → r < height m → c < m.width → T (Row r) ≡ true → S (Column c) ≡ true → IsSign (M r j) → M k c ≡ pos 0 → M r c ≡ pos 0
  zero_in_inner_column r c lr lc er ec v z = elim (zero_or_sign (M r c) (small r c)) [
    | inl e ↦ e
    | inr u ↦
        let (n, walk) = (is (Column c) lc).0 ec in
        absurd (none n r c (record { end = row_end r lr er v; inner = inner_column c lc (in_side (Column c) lc ec) z; nonzero = sign_nonzero (M r c) u; walk = walk }))
  ]

  -- ---- the block between them is a product

  module _ (r c : ℕ) (lr : r < height m) (lc : c < m.width) (er : T (Row r) ≡ true) (f : S (Row r) ≡ false) (ec : S (Column c) ≡ true) where
    by_end_column : M r c ≡ M r p *ℤ (M k c *ℤ M k p)
    by_end_column = go (zero_or_sign (M r j) (small r j)) (zero_or_sign (M k c) (small k c))
      where
        at_p : S (Column p) ≡ true
        at_p = end_leads p lp cut.cut.column_one lower_corner

        go : (M r j ≡ pos 0) ⊎ IsSign (M r j) → (M k c ≡ pos 0) ⊎ IsSign (M k c) → M r c ≡ M r p *ℤ (M k c *ℤ M k p)
        go (inl z) other = zero_in_inner_row r c lr lc er f ec z ∙ sym (first_zero (M r p) (M k c) (M k p) (zero_in_inner_row r p lr lp er f at_p z))
        go (inr v) (inl z) = zero_in_inner_column r c lr lc er ec v z ∙ sym (second_zero (M r p) (M k c) (M k p) z)
        go (inr v) (inr u) = both alike
          where
            row : IsEndRow m T r
            row = row_end r lr er v

            column : IsEndColumn m T c
            column = column_end c lc (in_side (Column c) lc ec) u

            corner : IsEndColumn m T p
            corner = column_end p lp cut.cut.column_one lower_corner

            both : AreAlike m T → M r c ≡ M r p *ℤ (M k c *ℤ M k p)
            both (inl zeros) = zeros r c row column ∙ sym (first_zero (M r p) (M k c) (M k p) (zeros r p row corner))
            both (inr nonzeros) = square_product (M r c) (M r p) (M k c *ℤ M k p) (sign_of_entry (M r p) (small r p) (nonzeros r p row corner)) (sign-mul (M k c) (M k p) u lower_corner)
                (squares r k c p (nonzeros r c row column) (nonzeros r p row corner) (sign_nonzero (M k c) u) cut.lower)

    by_end_row : M r c ≡ M r j *ℤ (M i c *ℤ M i j)
    by_end_row = go (zero_or_sign (M r j) (small r j)) (zero_or_sign (M k c) (small k c))
      where
        go : (M r j ≡ pos 0) ⊎ IsSign (M r j) → (M k c ≡ pos 0) ⊎ IsSign (M k c) → M r c ≡ M r j *ℤ (M i c *ℤ M i j)
        go (inl z) other = zero_in_inner_row r c lr lc er f ec z ∙ sym (first_zero (M r j) (M i c) (M i j) z)
        go (inr v) (inl z) = zero_in_inner_column r c lr lc er ec v z ∙ sym (second_zero (M r j) (M i c) (M i j) (zero_in_inner_column i c li lc cut.cut.row_one ec upper_corner z))
        go (inr v) (inr u) = both alike
          where
            row : IsEndRow m T r
            row = row_end r lr er v

            column : IsEndColumn m T c
            column = column_end c lc (in_side (Column c) lc ec) u

            corner : IsEndRow m T i
            corner = row_end i li cut.cut.row_one upper_corner

            both : AreAlike m T → M r c ≡ M r j *ℤ (M i c *ℤ M i j)
            both (inl zeros) = zeros r c row column ∙ sym (second_zero (M r j) (M i c) (M i j) (zeros i c corner column))
            both (inr nonzeros) = square_product (M r c) (M r j) (M i c *ℤ M i j) v (sign-mul (M i c) (M i j) (sign_of_entry (M i c) (small i c) (nonzeros i c corner column)) upper_corner)
                (squares r i c j (nonzeros r c row column) (sign_nonzero (M r j) v) (nonzeros i c corner column) cut.upper)

  -- ---- two two-separations

  abbrev rest : Lines
  rest = apart_from T S

  abbrev number : Lines → ℕ
  number lines = count_lines_in lines (first_lines (height m)) (first_lines m.width)

  corner_apart : S (Row k) ≡ false
  corner_apart = false_is (S (Row k)) (λ e. false≢true (sym cut.cut.row_two ∙ in_side (Row k) lk e))

  first_separates : 2 ≤ number S → TwoSeparates m S k p
  first_separates many = record {
    one = ((has_line_from_line (height m) m.width (Column p) lp, end_leads p lp cut.cut.column_one lower_corner), tt);
    two = ((has_line_from_line (height m) m.width (Row k) lk, corner_apart), tt);
    nonzero = cut.lower;
    blocks = record {
      upper = λ r c hr hc er ec. upper r c (first_lines_contain (height m) r hr) (first_lines_contain m.width c hc) er ec (two_cases (T (Column c)));
      lower = λ r c hr hc er ec. lower r c (first_lines_contain (height m) r hr) (first_lines_contain m.width c hc) er ec (two_cases (T (Row r)));
    };
    enough = record { one = many; two = let outside = outside_grows (height m) m.width S T in_side in let enough = cut.cut.enough.two in omega arith };
  }
    where
      upper : (r c : ℕ) → r < height m → c < m.width → S (Row r) ≡ true → S (Column c) ≡ false → (T (Column c) ≡ true) ⊎ (T (Column c) ≡ false) → M r c ≡ pos 0
      upper r c lr lc er ec (inl e) = no_way_out r c lr lc er e ec
      upper r c lr lc er ec (inr e) = let leads = (is (Row r) lr).0 er in inner_row_zero r c leads.0 lc e

      lower : (r c : ℕ) → r < height m → c < m.width → S (Row r) ≡ false → S (Column c) ≡ true → (T (Row r) ≡ true) ⊎ (T (Row r) ≡ false)
          → M r c ≡ M r p *ℤ (M k c *ℤ M k p)
      lower r c lr lc er ec (inl e) = by_end_column r c lr lc e er ec
      lower r c lr lc er ec (inr e) = lower_entry m T small cut r c lr lc e (in_side (Column c) lc ec)

  in_rest : (x : Line) → rest x ≡ true → (T x ≡ true) × (S x ≡ false)
  in_rest x e = let both = and_is (T x) (not (S x)) e in (both.0, false_is (S x) (λ f. false≢true (sym (ap not f) ∙ both.1)))

  -- a line that is not in the rest is in the set or on side two
  off_rest : (x : Line) → opposite rest x ≡ true → T x ≡ true → S x ≡ true
  off_rest x e f = go (T x) (S x) e f
    where
      go : (s t : Bool) → not (s && not t) ≡ true → s ≡ true → t ≡ true
      go true true e f = refl
      go true false e f = absurd (false≢true e)
      go false t e f = absurd (false≢true f)

  rest_separates : 2 ≤ number rest → TwoSeparates m (opposite rest) i j
  rest_separates many = record {
    one = ((has_line_from_line (height m) m.width (Column j) lj, ap (λ (t : Bool). not (t && not (S (Column j)))) cut.cut.column_two), tt);
    two = ((has_line_from_line (height m) m.width (Row i) li, row_in), tt);
    nonzero = cut.upper;
    blocks = record {
      upper = λ r c hr hc er ec. upper r c (first_lines_contain (height m) r hr) (first_lines_contain m.width c hc) er (in_rest (Column c) (not_false (rest (Column c)) ec)) (two_cases (T (Row r)));
      lower = λ r c hr hc er ec. lower r c (first_lines_contain (height m) r hr) (first_lines_contain m.width c hc) (in_rest (Row r) (not_false (rest (Row r)) er)) ec (two_cases (T (Column c)));
    };
    enough = other_enough m rest 2 (record {
      one = many;
      two = let outside = outside_grows (height m) m.width rest T (λ x l e. (in_rest x e).0) in let enough = cut.cut.enough.two in omega arith;
    });
  }
    where
      end_in : S (Row i) ≡ true → ⊥
      end_in e = let leads = (is (Row i) li).0 e in leads.0.1 (row_end i li cut.cut.row_one upper_corner)

      row_in : opposite rest (Row i) ≡ false
      row_in = ap not (ap (λ (t : Bool). t && not (S (Row i))) cut.cut.row_one ∙ ap not (false_is (S (Row i)) end_in))

      upper : (r c : ℕ) → r < height m → c < m.width → opposite rest (Row r) ≡ true → (T (Column c) ≡ true) × (S (Column c) ≡ false)
          → (T (Row r) ≡ true) ⊎ (T (Row r) ≡ false) → M r c ≡ pos 0
      upper r c lr lc er ec (inl e) = no_way_out r c lr lc (off_rest (Row r) er e) ec.0 ec.1
      upper r c lr lc er ec (inr e) = inner_column_zero r c (inner_if_not c lc ec.0 ec.1) lr e

      lower : (r c : ℕ) → r < height m → c < m.width → (T (Row r) ≡ true) × (S (Row r) ≡ false) → opposite rest (Column c) ≡ true → (T (Column c) ≡ true) ⊎ (T (Column c) ≡ false)
          → M r c ≡ M r j *ℤ (M i c *ℤ M i j)
      lower r c lr lc er ec (inl e) = by_end_row r c lr lc er.0 er.1 (off_rest (Column c) ec e)
      lower r c lr lc er ec (inr e) = upper_entry m T small cut r c lr lc er.0 e

  pub no_path_separates : ¬ (HasNoTwoSeparation m)
  no_path_separates no_two = go (nat_lt (number S) 2) refl
    where
      many : 4 ≤ number S + number rest
      many = let parts = lines_of_parts (height m) m.width T S in let enough = cut.cut.enough.one in omega arith

      plain : (a b : ℕ) → 4 ≤ a + b → a < 2 → 2 ≤ b
      plain a b l h = omega arith

      go : (t : Bool) → nat_lt (number S) 2 ≡ t → ⊥
      go false e = no_two k p S (first_separates (at_least_of (number S) 2 e))
      go true e = no_two i j (opposite rest) (rest_separates (plain (number S) (number rest) many (lt_of (number S) 2 e)))

pub unfit_sides_have_paths : UnfitSidesHavePaths
unfit_sides_have_paths m T small squares no_two cut unfit none =
    alike_if_unfit m T small unfit (λ alike. decided_lines (Leads m T) (height m) m.width (λ S is. no_path_separates m T small squares cut none alike S is no_two))
