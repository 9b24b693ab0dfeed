-- A pivot inside a side of a cut keeps the cut. So a connected matrix with a cut has a nonzero whose pivot has a 2, a -2 or a cut.
use Rattle.std.proofs.Common.{◌≡◌, ◌≢◌, ◌<◌, ◌⊎◌, inl, inr, ◌∙◌, ℕ, ℤ, pos, neg_ℤ, ◌*ℤ◌, ◌-ℤ◌, true, false, not, Contains, ap, sym, subst, arith}
use Rattle.std.proofs.lemmas.Bool.{false≢true}
use Rattle.cmr_base.specs.declared.line.Line.TheVariants.{Row, Column}
use Rattle.cmr_base.specs.LineSets.{first_lines}
use Rattle.cmr_base.specs.Matrix.{Matrix, height, entry, IsMatrix, HasTernaryEntries}
use Rattle.cmr_base.specs.PlacedPivots.{reduced}
use Rattle.cmr_base.specs.Components.{IsApart}
use Rattle.cmr_base.specs.Separations.{AreEnough, Lines, opposite}
use Rattle.cmr_base.specs.Signing.{IsSign}
use Rattle.cmr_base.proofs.Booleans.{not_false, not_is, same_or_not}
use Rattle.cmr_base.proofs.Integers.{sums, products}
use Rattle.cmr_base.proofs.ListedLines.{first_lines_contain}
use Rattle.cmr_base.proofs.SignEntries.{sign-mul, sign_nonzero, sign_of_entry, sign_square, zero_or_sign}
use Rattle.ghouila.specs.PivotLaws.{pivot_at, IsPivotPlace}
use Rattle.ghouila.proofs.PivotLaws.{entry_after, same_height}
use Rattle.ghouila.proofs.PivotSums.{pivoted_apart, pivoted_at}
use Rattle.ghouila.proofs.WholePivots.{entry_in_row, entry_elsewhere}
use Rattle.cuts.specs.LineCuts.{IsCut}
use Rattle.cuts.proofs.CutLemmas.{lower_at, other_is_cut, upper_at}
use Rattle.three_sep.specs.FirstCuts.{HasCut, HasNoCut}
use Rattle.block_ranks.specs.Laws.{HasNoApartSet}
use Rattle.block_ranks.specs.PlacesBeforeCuts.{HasNoPlaceBeforeCut, IsPlaceBeforeCut}

-- ---- products

-- an entry of a product by another row of the product
by_row : (f x g y t : ℤ) → IsSign y → f ≡ x *ℤ t → g ≡ y *ℤ t → f ≡ x *ℤ (g *ℤ y)
by_row f x g y t v e h = e ∙ ap (λ (z : ℤ). x *ℤ z) (sym (ap (λ (z : ℤ). z *ℤ y) h ∙ gathered y t ∙ ap (λ (z : ℤ). z *ℤ t) (sign_square y v) ∙ one t))
  where
    gathered : (y t : ℤ) → (y *ℤ t) *ℤ y ≡ (y *ℤ y) *ℤ t
    gathered y t = simp products

    one : (t : ℤ) → pos 1 *ℤ t ≡ t
    one t = simp products

-- an entry of a product by another column of the product
by_column : (x g y f : ℤ) → IsSign y → x *ℤ (g *ℤ f) ≡ (x *ℤ (y *ℤ f)) *ℤ (g *ℤ y)
by_column x g y f v = sym (gathered x g y f ∙ ap (λ (z : ℤ). z *ℤ (x *ℤ (g *ℤ f))) (sign_square y v) ∙ one (x *ℤ (g *ℤ f)))
  where
    gathered : (x g y f : ℤ) → (x *ℤ (y *ℤ f)) *ℤ (g *ℤ y) ≡ (y *ℤ y) *ℤ (x *ℤ (g *ℤ f))
    gathered x g y f = simp products

    one : (t : ℤ) → pos 1 *ℤ t ≡ t
    one t = simp products

negative_nonzero : (z : ℤ) → z ≢ pos 0 → neg_ℤ z ≢ pos 0
negative_nonzero z n e = n (back z e)
  where
    back : (z : ℤ) → neg_ℤ z ≡ pos 0 → z ≡ pos 0
    back z e = omega (arith, sums)

-- ---- a pivot inside side one

module _ (m : Matrix) (T : Lines) (small : HasTernaryEntries m) (cut : IsCut m T) (s t : ℕ) (ls : s < height m) (lt : t < m.width) (es : T (Row s) ≡ true) (et : T (Column t) ≡ true)
    (nonzero : entry m s t ≢ pos 0) (ternary : HasTernaryEntries (pivot_at m s t)) where
  abbrev M : ℕ → ℕ → ℤ
  M = entry m

  abbrev E : ℕ → ℕ → ℤ
  E = entry (pivot_at m s t)

  sign : IsSign (M s t)
  sign = sign_of_entry (M s t) (small s t) nonzero

  place : IsPivotPlace m s t
  place = record { row_in = ls; column_in = lt; nonzero = sign }

  at_row : (c : ℕ) → c < m.width → c ≢ t → E s c ≡ M s t *ℤ M s c
  at_row c lc n = entry_after m s t place s c ls lc ∙ entry_in_row M s t c n

  at_column : (r : ℕ) → r < height m → r ≢ s → E r t ≡ neg_ℤ (M s t *ℤ M r t)
  at_column r lr n = entry_after m s t place r t lr lt ∙ entry_elsewhere M s t r t n ∙ pivoted_at M s t r

  elsewhere : (r c : ℕ) → r < height m → c < m.width → r ≢ s → c ≢ t → E r c ≡ reduced M s t r c
  elsewhere r c lr lc n n' = entry_after m s t place r c lr lc ∙ entry_elsewhere M s t r c n ∙ pivoted_apart M s t r c n'

  -- a row of side two, and a column of side two
  other_row : (r : ℕ) → T (Row r) ≡ false → r ≢ s
  other_row r er e = false≢true (sym er ∙ (ap (λ (x : ℕ). T (Row x)) e ∙ es))

  other_column : (c : ℕ) → T (Column c) ≡ false → c ≢ t
  other_column c ec e = false≢true (sym ec ∙ (ap (λ (x : ℕ). T (Column x)) e ∙ et))

  -- the upper block is still a product
  upper_after : (r c : ℕ) → r < height m → c < m.width → T (Row r) ≡ true → T (Column c) ≡ false
      → E r c ≡ E r cut.corners.two.column *ℤ (M cut.corners.one.row c *ℤ M cut.corners.one.row cut.corners.two.column)
  upper_after r c lr lc er ec = go (same_or_not r s)
    where
      lj : cut.corners.two.column < m.width
      lj = cut.are_inside.column_two

      nj : cut.corners.two.column ≢ t
      nj = other_column cut.corners.two.column cut.cut.column_two

      before : (x : ℕ) → x < height m → T (Row x) ≡ true → M x c ≡ M x cut.corners.two.column *ℤ (M cut.corners.one.row c *ℤ M cut.corners.one.row cut.corners.two.column)
      before x lx ex = upper_at m cut.cut.closed x c lx lc ex ec

      in_row : (b y z w : ℤ) → z ≡ y *ℤ w → b *ℤ z ≡ (b *ℤ y) *ℤ w
      in_row b y z w e = rw e (simp products)

      beside : (b x y z v w : ℤ) → v ≡ x *ℤ w → z ≡ y *ℤ w → (u : ℤ) → v -ℤ b *ℤ (u *ℤ z) ≡ (x -ℤ b *ℤ (u *ℤ y)) *ℤ w
      beside b x y z v w e f u = rw (e, f) (simp products (omega (arith, sums)))

      go : (r ≡ s) ⊎ (r ≢ s) → E r c ≡ E r cut.corners.two.column *ℤ (M cut.corners.one.row c *ℤ M cut.corners.one.row cut.corners.two.column)
      go (inl e) = subst (λ (x : ℕ). E x c ≡ E x cut.corners.two.column *ℤ (M cut.corners.one.row c *ℤ M cut.corners.one.row cut.corners.two.column)) (sym e)
          (at_row c lc (other_column c ec) ∙ in_row (M s t) (M s cut.corners.two.column) (M s c) (M cut.corners.one.row c *ℤ M cut.corners.one.row cut.corners.two.column) (before s ls es)
          ∙ ap (λ (z : ℤ). z *ℤ (M cut.corners.one.row c *ℤ M cut.corners.one.row cut.corners.two.column)) (sym (at_row cut.corners.two.column lj nj)))
      go (inr n) = elsewhere r c lr lc n (other_column c ec)
          ∙ beside (M s t) (M r cut.corners.two.column) (M s cut.corners.two.column) (M s c) (M r c) (M cut.corners.one.row c *ℤ M cut.corners.one.row cut.corners.two.column) (before r lr er) (before s ls es) (M r t)
          ∙ ap (λ (z : ℤ). z *ℤ (M cut.corners.one.row c *ℤ M cut.corners.one.row cut.corners.two.column)) (sym (elsewhere r cut.corners.two.column lr lj n nj))

  -- the lower block is still a product
  lower_after : (r c : ℕ) → r < height m → c < m.width → T (Row r) ≡ false → T (Column c) ≡ true
      → E r c ≡ M r cut.corners.one.column *ℤ (E cut.corners.two.row c *ℤ M cut.corners.two.row cut.corners.one.column)
  lower_after r c lr lc er ec = go (same_or_not c t)
    where
      lk : cut.corners.two.row < height m
      lk = cut.are_inside.row_two

      nk : cut.corners.two.row ≢ s
      nk = other_row cut.corners.two.row cut.cut.row_two

      before : (x : ℕ) → x < m.width → T (Column x) ≡ true → M r x ≡ M r cut.corners.one.column *ℤ (M cut.corners.two.row x *ℤ M cut.corners.two.row cut.corners.one.column)
      before x lx ex = lower_at m cut.cut.closed r x lr lx er ex

      in_column : (b x y z f : ℤ) → z ≡ x *ℤ (y *ℤ f) → neg_ℤ (b *ℤ z) ≡ x *ℤ (neg_ℤ (b *ℤ y) *ℤ f)
      in_column b x y z f e = rw e (simp products)

      beside : (b x y z f v u w : ℤ) → v ≡ x *ℤ (y *ℤ f) → u ≡ x *ℤ (z *ℤ f) → v -ℤ b *ℤ (u *ℤ w) ≡ x *ℤ ((y -ℤ b *ℤ (z *ℤ w)) *ℤ f)
      beside b x y z f v u w e g = rw (e, g) (simp products (omega (arith, sums)))

      go : (c ≡ t) ⊎ (c ≢ t) → E r c ≡ M r cut.corners.one.column *ℤ (E cut.corners.two.row c *ℤ M cut.corners.two.row cut.corners.one.column)
      go (inl e) = subst (λ (x : ℕ). E r x ≡ M r cut.corners.one.column *ℤ (E cut.corners.two.row x *ℤ M cut.corners.two.row cut.corners.one.column)) (sym e)
          (at_column r lr (other_row r er) ∙ in_column (M s t) (M r cut.corners.one.column) (M cut.corners.two.row t) (M r t) (M cut.corners.two.row cut.corners.one.column) (before t lt et)
          ∙ ap (λ (z : ℤ). M r cut.corners.one.column *ℤ (z *ℤ M cut.corners.two.row cut.corners.one.column)) (sym (at_column cut.corners.two.row lk nk)))
      go (inr n) = elsewhere r c lr lc (other_row r er) n
          ∙ beside (M s t) (M r cut.corners.one.column) (M cut.corners.two.row c) (M cut.corners.two.row t) (M cut.corners.two.row cut.corners.one.column) (M r c) (M r t) (M s c) (before c lc ec) (before t lt et)
          ∙ ap (λ (z : ℤ). M r cut.corners.one.column *ℤ (z *ℤ M cut.corners.two.row cut.corners.one.column)) (sym (elsewhere cut.corners.two.row c lk lc nk n))

  -- a nonzero of the upper block in the column of the corner
  upper_row : (r : ℕ) × (r < height m) × (T (Row r) ≡ true) × (E r cut.corners.two.column ≢ pos 0)
  upper_row = elim (zero_or_sign (M s cut.corners.two.column) (small s cut.corners.two.column)) [
    | inr u ↦ (s, ls, es, λ e. sign_nonzero (M s t *ℤ M s cut.corners.two.column) (sign-mul (M s t) (M s cut.corners.two.column) sign u) (sym (at_row cut.corners.two.column cut.are_inside.column_two nj) ∙ e))
    | inl none ↦
        let n : cut.corners.one.row ≢ s = λ e. cut.upper (ap (λ (r : ℕ). M r cut.corners.two.column) e ∙ none) in (
          cut.corners.one.row,
          cut.are_inside.row_one,
          cut.cut.row_one,
          λ e. cut.upper (plain (M cut.corners.one.row cut.corners.two.column) (M s t) (M cut.corners.one.row t) (M s cut.corners.two.column) none
              (sym (elsewhere cut.corners.one.row cut.corners.two.column cut.are_inside.row_one cut.are_inside.column_two n nj) ∙ e)),
        )
  ]
    where
      nj : cut.corners.two.column ≢ t
      nj = other_column cut.corners.two.column cut.cut.column_two

      plain : (x b u y : ℤ) → y ≡ pos 0 → x -ℤ b *ℤ (u *ℤ y) ≡ pos 0 → x ≡ pos 0
      plain x b u y none e = sym (left x b u y none) ∙ e
        where
          left : (x b u y : ℤ) → y ≡ pos 0 → x -ℤ b *ℤ (u *ℤ y) ≡ x
          left x b u y none = rw none (simp products (omega (arith, sums)))

  -- a nonzero of the lower block in the row of the corner
  lower_column : (c : ℕ) × (c < m.width) × (T (Column c) ≡ true) × (E cut.corners.two.row c ≢ pos 0)
  lower_column = elim (zero_or_sign (M cut.corners.two.row t) (small cut.corners.two.row t)) [
    | inr u ↦ (t, lt, et, λ e. negative_nonzero (M s t *ℤ M cut.corners.two.row t) (sign_nonzero (M s t *ℤ M cut.corners.two.row t) (sign-mul (M s t) (M cut.corners.two.row t) sign u)) (sym (at_column cut.corners.two.row cut.are_inside.row_two nk) ∙ e))
    | inl none ↦
        let n : cut.corners.one.column ≢ t = λ e. cut.lower (ap (λ (c : ℕ). M cut.corners.two.row c) e ∙ none) in (
          cut.corners.one.column,
          cut.are_inside.column_one,
          cut.cut.column_one,
          λ e. cut.lower (plain (M cut.corners.two.row cut.corners.one.column) (M s t) (M cut.corners.two.row t) (M s cut.corners.one.column) none
              (sym (elsewhere cut.corners.two.row cut.corners.one.column cut.are_inside.row_two cut.are_inside.column_one nk n) ∙ e)),
        )
  ]
    where
      nk : cut.corners.two.row ≢ s
      nk = other_row cut.corners.two.row cut.cut.row_two

      plain : (x b u y : ℤ) → u ≡ pos 0 → x -ℤ b *ℤ (u *ℤ y) ≡ pos 0 → x ≡ pos 0
      plain x b u y none e = sym (left x b u y none) ∙ e
        where
          left : (x b u y : ℤ) → u ≡ pos 0 → x -ℤ b *ℤ (u *ℤ y) ≡ x
          left x b u y none = rw none (simp products (omega (arith, sums)))

  pub kept : IsCut (pivot_at m s t) T
  kept = record {
    corners = record { one = record { row = upper_row.0; column = lower_column.0 }; two = cut.corners.two };
    are_inside = record { row_one = row_in upper_row.0 upper_row.1; column_one = lower_column.1; row_two = row_in cut.corners.two.row cut.are_inside.row_two; column_two = cut.are_inside.column_two };
    upper = upper_row.3;
    lower = lower_column.3;
    cut = record {
      closed = record {
        upper = λ r c hr hc er ec.
            let lc = first_lines_contain m.width c hc in
            by_row (E r c) (E r cut.corners.two.column) (E upper_row.0 c) (E upper_row.0 cut.corners.two.column) (M cut.corners.one.row c *ℤ M cut.corners.one.row cut.corners.two.column)
            (sign_of_entry (E upper_row.0 cut.corners.two.column) (ternary upper_row.0 cut.corners.two.column) upper_row.3)
            (upper_after r c (row_back r hr) lc er ec) (upper_after upper_row.0 c upper_row.1 lc upper_row.2 ec);
        lower = λ r c hr hc er ec.
            let lr = row_back r hr in
            lower_after r c lr (first_lines_contain m.width c hc) er ec
            ∙ by_column (M r cut.corners.one.column) (E cut.corners.two.row c) (E cut.corners.two.row lower_column.0) (M cut.corners.two.row cut.corners.one.column) (sign_of_entry (E cut.corners.two.row lower_column.0) (ternary cut.corners.two.row lower_column.0) lower_column.3)
            ∙ ap (λ (z : ℤ). z *ℤ (E cut.corners.two.row c *ℤ E cut.corners.two.row lower_column.0)) (sym (lower_after r lower_column.0 lr lower_column.1 er lower_column.2));
      };
      row_one = upper_row.2;
      column_one = lower_column.2;
      row_two = cut.cut.row_two;
      column_two = cut.cut.column_two;
      enough = subst (λ (h : ℕ). AreEnough (first_lines h) (first_lines m.width) T 4) (sym (same_height m s t place)) cut.cut.enough;
    };
  }
    where
      row_in : (r : ℕ) → r < height m → r < height (pivot_at m s t)
      row_in r l = let e = same_height m s t place in omega arith

      row_back : (r : ℕ) → Contains (first_lines (height (pivot_at m s t))) r → r < height m
      row_back r h = let l = first_lines_contain (height (pivot_at m s t)) r h in let e = same_height m s t place in omega arith

-- ---- nonzeros inside a side

-- a nonzero is before a cut if a pivot without a 2 and a -2 has a cut
pub before_if_cut : (m : Matrix) (s t : ℕ) → s < height m → t < m.width → entry m s t ≢ pos 0 → (HasTernaryEntries (pivot_at m s t) → HasCut (pivot_at m s t)) → ¬ (¬ (IsPlaceBeforeCut m (record { row = s; column = t })))
before_if_cut m s t ls lt nonzero cut none =
    let no_cut : ¬ (HasCut (pivot_at m s t)) = λ after. none (record { row = ls; column = lt; nonzero = nonzero; after = inr after }) in
    none (record { row = ls; column = lt; nonzero = nonzero; after = inl (λ ternary. no_cut (cut ternary)) })

-- a nonzero inside side one of a cut is before a cut
pub before_if_inside : (m : Matrix) (T : Lines) → HasTernaryEntries m → IsCut m T → (s t : ℕ) → s < height m → t < m.width → T (Row s) ≡ true → T (Column t) ≡ true → entry m s t ≢ pos 0 → ¬ (¬ (IsPlaceBeforeCut m (record { row = s; column = t })))
before_if_inside m T small cut s t ls lt es et nonzero = before_if_cut m s t ls lt nonzero (λ ternary. (T, kept m T small cut s t ls lt es et nonzero ternary))

-- the rows of side one, and the columns of side two
abbrev pub crossed_side : Lines → Lines
crossed_side T (Row r) = T (Row r)
crossed_side T (Column c) = not (T (Column c))

-- ---- connected matrices

module _ (m : Matrix) (is : IsMatrix m) (none : HasNoPlaceBeforeCut m) where
  -- side one has no nonzero
  no_inner : (T : Lines) → IsCut m T → (s t : ℕ) → s < height m → t < m.width → T (Row s) ≡ true → T (Column t) ≡ true → entry m s t ≡ pos 0
  no_inner T cut s t ls lt es et = elim (zero_or_sign (entry m s t) (is.small s t)) [
    | inl e ↦ e
    | inr u ↦ absurd (before_if_inside m T is.small cut s t ls lt es et (sign_nonzero (entry m s t) u) (none (record { row = s; column = t })))
  ]

  pub no_cut_if_connected : HasNoApartSet m → HasNoCut m
  no_cut_if_connected connected T cut = connected (crossed_side T) apart (Row cut.corners.one.row) (Row cut.corners.two.row) cut.are_inside.row_one cut.are_inside.row_two cut.cut.row_one cut.cut.row_two
    where
      apart : IsApart (height m) m.width (entry m) (crossed_side T)
      apart = record {
        upper = λ r c hr hc er ec. no_inner T cut r c (first_lines_contain (height m) r hr) (first_lines_contain m.width c hc) er (not_false (T (Column c)) ec);
        lower = λ r c hr hc er ec. no_inner (opposite T) (other_is_cut m T cut) r c (first_lines_contain (height m) r hr) (first_lines_contain m.width c hc) (ap not er) (ap not (not_is (T (Column c)) ec));
      }
