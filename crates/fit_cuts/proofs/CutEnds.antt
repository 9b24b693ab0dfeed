-- The ends of the two sides of a cut: an end of one side and an end of the other side that cross between the sides cross in a nonzero.
use Rattle.std.proofs.Common.{◌≡◌, ◌<◌, ◌∙◌, ℕ, ℤ, ◌*ℤ◌, Bool, true, false, not, ap, sym, subst}
use Rattle.cmr_base.specs.declared.line.Line.{Line}
use Rattle.cmr_base.specs.declared.line.Line.TheVariants.{Column, Row}
use Rattle.cmr_base.specs.Matrix.{Matrix, height, entry, HasTernaryEntries}
use Rattle.cmr_base.specs.Separations.{Lines, opposite, product_at}
use Rattle.cmr_base.specs.Signing.{IsSign}
use Rattle.cmr_base.proofs.Booleans.{not_false, not_is}
use Rattle.cmr_base.proofs.SignEntries.{sign-mul, sign_of_entry}
use Rattle.cmr_base.proofs.SignedProducts.{same_product}
use Rattle.cuts.specs.LineCuts.{IsCut}
use Rattle.cuts.proofs.WordLemmas.{first_zero, second_zero}
use Rattle.cuts.proofs.CutLemmas.{lower_at, upper_at}
use Rattle.path_places.specs.PathPlaces.{IsEndColumn, IsEndRow, IsFit}

-- an entry of a product by the entries at another position of it
moved_product : (w u v z a b e f g : ℤ) → IsSign e → IsSign f → IsSign g
    → w ≡ a *ℤ (b *ℤ e) → u ≡ a *ℤ (f *ℤ e) → v ≡ g *ℤ (b *ℤ e) → z ≡ g *ℤ (f *ℤ e) → w ≡ u *ℤ (v *ℤ z)
moved_product w u v z a b e f g se sf sg hw hu hv hz = rw (hw, hu, hv, hz) (same_product a b e f g se sf sg)

-- ---- the other side of the other side

pub twice_other : (b : Bool) → not (not b) ≡ true → b ≡ true
twice_other b e = not_false b (not_is (not b) e)

-- equal sides have the same ends
module _ (m : Matrix) (S T : Lines) (same : (x : Line) → S x ≡ T x) where
  pub end_row_same : (r : ℕ) → IsEndRow m S r → IsEndRow m T r
  end_row_same r end = record {
    on = (end.on.0, sym (same (Row r)) ∙ end.on.1);
    across = end.across;
    far = (end.far.0, ap not (sym (same (Column end.across))) ∙ end.far.1);
    nonzero = end.nonzero;
  }

  pub end_column_same : (c : ℕ) → IsEndColumn m S c → IsEndColumn m T c
  end_column_same c end = record {
    on = (end.on.0, sym (same (Column c)) ∙ end.on.1);
    across = end.across;
    far = (end.far.0, ap not (sym (same (Row end.across))) ∙ end.far.1);
    nonzero = end.nonzero;
  }

  pub fit_same : IsFit m S → IsFit m T
  fit_same ((r, c, er, ec, zero), (k, d, ek, ed, nonzero)) = ((r, c, end_row_same r er, end_column_same c ec, zero), (k, d, end_row_same k ek, end_column_same d ed, nonzero))

-- ---- the ends of a cut

module _ (m : Matrix) (T : Lines) (small : HasTernaryEntries m) (cut : IsCut m T) where
  abbrev M : ℕ → ℕ → ℤ
  M = entry m

  pub upper_entry : (r c : ℕ) → r < height m → c < m.width → T (Row r) ≡ true → T (Column c) ≡ false → M r c ≡ product_at M cut.corners.one.row cut.corners.two.column r c
  upper_entry r c lr lc er ec = upper_at m cut.cut.closed r c lr lc er ec

  pub lower_entry : (r c : ℕ) → r < height m → c < m.width → T (Row r) ≡ false → T (Column c) ≡ true → M r c ≡ product_at M cut.corners.two.row cut.corners.one.column r c
  lower_entry r c lr lc er ec = lower_at m cut.cut.closed r c lr lc er ec

  pub upper_corner : IsSign (M cut.corners.one.row cut.corners.two.column)
  upper_corner = sign_of_entry (M cut.corners.one.row cut.corners.two.column) (small cut.corners.one.row cut.corners.two.column) cut.upper

  pub lower_corner : IsSign (M cut.corners.two.row cut.corners.one.column)
  lower_corner = sign_of_entry (M cut.corners.two.row cut.corners.one.column) (small cut.corners.two.row cut.corners.one.column) cut.lower

  -- the ends of side one cross the lines of the corner of side two in nonzeros
  pub row_sign : (r : ℕ) → IsEndRow m T r → IsSign (M r cut.corners.two.column)
  row_sign r end = sign_of_entry (M r cut.corners.two.column) (small r cut.corners.two.column)
      (λ e. end.nonzero (upper_entry r end.across end.on.0 end.far.0 end.on.1 (not_is (T (Column end.across)) end.far.1)
      ∙ first_zero (M r cut.corners.two.column) (M cut.corners.one.row end.across) (M cut.corners.one.row cut.corners.two.column) e))

  pub column_sign : (c : ℕ) → IsEndColumn m T c → IsSign (M cut.corners.two.row c)
  column_sign c end = sign_of_entry (M cut.corners.two.row c) (small cut.corners.two.row c)
      (λ e. end.nonzero (lower_entry end.across c end.far.0 end.on.0 (not_is (T (Row end.across)) end.far.1) end.on.1
      ∙ second_zero (M end.across cut.corners.one.column) (M cut.corners.two.row c) (M cut.corners.two.row cut.corners.one.column) e))

  -- the ends of side two cross the lines of the corner of side one in nonzeros
  pub far_row_sign : (r : ℕ) → IsEndRow m (opposite T) r → IsSign (M r cut.corners.one.column)
  far_row_sign r end = sign_of_entry (M r cut.corners.one.column) (small r cut.corners.one.column)
      (λ e. end.nonzero (lower_entry r end.across end.on.0 end.far.0 (not_is (T (Row r)) end.on.1) (twice_other (T (Column end.across)) end.far.1)
      ∙ first_zero (M r cut.corners.one.column) (M cut.corners.two.row end.across) (M cut.corners.two.row cut.corners.one.column) e))

  pub far_column_sign : (c : ℕ) → IsEndColumn m (opposite T) c → IsSign (M cut.corners.one.row c)
  far_column_sign c end = sign_of_entry (M cut.corners.one.row c) (small cut.corners.one.row c)
      (λ e. end.nonzero (upper_entry end.across c end.far.0 end.on.0 (twice_other (T (Row end.across)) end.far.1) (not_is (T (Column c)) end.on.1)
      ∙ second_zero (M end.across cut.corners.two.column) (M cut.corners.one.row c) (M cut.corners.one.row cut.corners.two.column) e))

  module _ (r c : ℕ) (er : IsEndRow m T r) (ec : IsEndColumn m (opposite T) c) where
    -- an end row of side one and an end column of side two
    pub upper_sign : IsSign (M r c)
    upper_sign = subst IsSign (sym (upper_entry r c er.on.0 ec.on.0 er.on.1 (not_is (T (Column c)) ec.on.1)))
        (sign-mul (M r cut.corners.two.column) (M cut.corners.one.row c *ℤ M cut.corners.one.row cut.corners.two.column) (row_sign r er)
        (sign-mul (M cut.corners.one.row c) (M cut.corners.one.row cut.corners.two.column) (far_column_sign c ec) upper_corner))

    -- they make the upper block
    pub upper_product : (x y : ℕ) → x < height m → y < m.width → T (Row x) ≡ true → T (Column y) ≡ false → M x y ≡ product_at M r c x y
    upper_product x y lx ly ex ey =
        let off : T (Column c) ≡ false = not_is (T (Column c)) ec.on.1 in
        moved_product (M x y) (M x c) (M r y) (M r c) (M x cut.corners.two.column) (M cut.corners.one.row y) (M cut.corners.one.row cut.corners.two.column)
        (M cut.corners.one.row c) (M r cut.corners.two.column) upper_corner (far_column_sign c ec) (row_sign r er)
        (upper_entry x y lx ly ex ey) (upper_entry x c lx ec.on.0 ex off) (upper_entry r y er.on.0 ly er.on.1 ey) (upper_entry r c er.on.0 ec.on.0 er.on.1 off)

  module _ (r c : ℕ) (er : IsEndRow m (opposite T) r) (ec : IsEndColumn m T c) where
    -- an end row of side two and an end column of side one
    pub lower_sign : IsSign (M r c)
    lower_sign = subst IsSign (sym (lower_entry r c er.on.0 ec.on.0 (not_is (T (Row r)) er.on.1) ec.on.1))
        (sign-mul (M r cut.corners.one.column) (M cut.corners.two.row c *ℤ M cut.corners.two.row cut.corners.one.column) (far_row_sign r er)
        (sign-mul (M cut.corners.two.row c) (M cut.corners.two.row cut.corners.one.column) (column_sign c ec) lower_corner))

    -- they make the lower block
    pub lower_product : (x y : ℕ) → x < height m → y < m.width → T (Row x) ≡ false → T (Column y) ≡ true → M x y ≡ product_at M r c x y
    lower_product x y lx ly ex ey =
        let off : T (Row r) ≡ false = not_is (T (Row r)) er.on.1 in
        moved_product (M x y) (M x c) (M r y) (M r c) (M x cut.corners.one.column) (M cut.corners.two.row y) (M cut.corners.two.row cut.corners.one.column)
        (M cut.corners.two.row c) (M r cut.corners.one.column) lower_corner (column_sign c ec) (far_row_sign r er)
        (lower_entry x y lx ly ex ey) (lower_entry x c lx ec.on.0 ex ec.on.1) (lower_entry r y er.on.0 ly off ey) (lower_entry r c er.on.0 ec.on.0 off ec.on.1)
