-- Two columns and two rows define a block of rank two. Any two columns and two rows of the block whose determinant is 1 or -1 define the
-- same block.
use Rattle.std.proofs.Common.{ℤ, pos, negsuc, ◌≡◌, ◌+ℤ◌, ◌-ℤ◌, ◌*ℤ◌, ◌∙◌, sym, ap, arith, inl, inr}
use Rattle.cmr_base.specs.Signing.{IsSign}
use Rattle.cmr_base.specs.Separations.{spread}
use Rattle.cmr_base.proofs.Integers.{sums, products, one-mul, minus_one-mul, mul-zero, mul_comm}
use Rattle.cmr_base.proofs.SignedProducts.{sign_square}

-- an entry of the block by the two columns
pub spread_parts : (d x y z w row_first row_other column_first column_other : ℤ) → spread d x y z w row_first row_other column_first column_other
    ≡ (d *ℤ (w *ℤ column_first -ℤ y *ℤ column_other)) *ℤ row_first +ℤ (d *ℤ (x *ℤ column_other -ℤ z *ℤ column_first)) *ℤ row_other
spread_parts d x y z w row_first row_other column_first column_other = simp products (omega (arith, sums))

-- minors of products of matrices with two rows and two columns
minor : (x1 x2 y1 y2 a1 a2 b1 b2 : ℤ) → (a1 *ℤ x1 +ℤ a2 *ℤ x2) *ℤ (b1 *ℤ y1 +ℤ b2 *ℤ y2) -ℤ (b1 *ℤ x1 +ℤ b2 *ℤ x2) *ℤ (a1 *ℤ y1 +ℤ a2 *ℤ y2) ≡ (x1 *ℤ y2 -ℤ x2 *ℤ y1) *ℤ (a1 *ℤ b2 -ℤ a2 *ℤ b1)
minor x1 x2 y1 y2 a1 a2 b1 b2 = simp products (omega (arith, sums))

minor_first : (x1 x2 y1 y2 a1 a2 b1 b2 : ℤ) → (b1 *ℤ y1 +ℤ b2 *ℤ y2) *ℤ (a1 *ℤ x1 +ℤ a2 *ℤ x2) -ℤ (b1 *ℤ x1 +ℤ b2 *ℤ x2) *ℤ (a1 *ℤ y1 +ℤ a2 *ℤ y2) ≡ (x1 *ℤ y2 -ℤ x2 *ℤ y1) *ℤ (a1 *ℤ b2 -ℤ a2 *ℤ b1)
minor_first x1 x2 y1 y2 a1 a2 b1 b2 = simp products (omega (arith, sums))

minor_other : (x1 x2 y1 y2 a1 a2 b1 b2 : ℤ) → (a1 *ℤ x1 +ℤ a2 *ℤ x2) *ℤ (b1 *ℤ y1 +ℤ b2 *ℤ y2) -ℤ (a1 *ℤ y1 +ℤ a2 *ℤ y2) *ℤ (b1 *ℤ x1 +ℤ b2 *ℤ x2) ≡ (x1 *ℤ y2 -ℤ x2 *ℤ y1) *ℤ (a1 *ℤ b2 -ℤ a2 *ℤ b1)
minor_other x1 x2 y1 y2 a1 a2 b1 b2 = simp products (omega (arith, sums))

-- the three minors of two rows and three columns
three_minors : (u1 u2 a1 a2 b1 b2 e1 e2 : ℤ) → (b1 *ℤ u1 +ℤ b2 *ℤ u2) *ℤ (a1 *ℤ e2 -ℤ a2 *ℤ e1) +ℤ (e1 *ℤ u1 +ℤ e2 *ℤ u2) *ℤ (b1 *ℤ a2 -ℤ b2 *ℤ a1) ≡ (a1 *ℤ u1 +ℤ a2 *ℤ u2) *ℤ (b1 *ℤ e2 -ℤ b2 *ℤ e1)
three_minors u1 u2 a1 a2 b1 b2 e1 e2 = simp products (omega (arith, sums))

gather : (d g s t u v : ℤ) → d *ℤ (u *ℤ (g *ℤ s) +ℤ v *ℤ (g *ℤ t)) ≡ d *ℤ (g *ℤ (u *ℤ s +ℤ v *ℤ t))
gather d g s t u v = simp products (omega (arith, sums))

shift : (d g h z : ℤ) → d *ℤ (g *ℤ (z *ℤ h)) ≡ d *ℤ ((g *ℤ h) *ℤ z)
shift d g h z = simp products (omega (arith, sums))

twice : (d z : ℤ) → d *ℤ (d *ℤ z) ≡ (d *ℤ d) *ℤ z
twice d z = simp products (omega (arith, sums))

module _ (u1 u2 x1 x2 y1 y2 a1 a2 b1 b2 e1 e2 : ℤ) where
  abbrev rows_minor : ℤ
  rows_minor = x1 *ℤ y2 -ℤ x2 *ℤ y1

  abbrev columns_minor : ℤ
  columns_minor = b1 *ℤ e2 -ℤ b2 *ℤ e1

  abbrev here : ℤ
  here = a1 *ℤ u1 +ℤ a2 *ℤ u2

  spread_elsewhere : (d : ℤ) → IsSign d → d ≡ rows_minor *ℤ columns_minor
      → spread d (b1 *ℤ x1 +ℤ b2 *ℤ x2) (e1 *ℤ x1 +ℤ e2 *ℤ x2) (b1 *ℤ y1 +ℤ b2 *ℤ y2) (e1 *ℤ y1 +ℤ e2 *ℤ y2) (b1 *ℤ u1 +ℤ b2 *ℤ u2) (e1 *ℤ u1 +ℤ e2 *ℤ u2) (a1 *ℤ x1 +ℤ a2 *ℤ x2) (a1 *ℤ y1 +ℤ a2 *ℤ y2) ≡ here
  spread_elsewhere d sign is =
      ap (λ (z : ℤ). d *ℤ ((b1 *ℤ u1 +ℤ b2 *ℤ u2) *ℤ z +ℤ (e1 *ℤ u1 +ℤ e2 *ℤ u2) *ℤ ((b1 *ℤ x1 +ℤ b2 *ℤ x2) *ℤ (a1 *ℤ y1 +ℤ a2 *ℤ y2) -ℤ (b1 *ℤ y1 +ℤ b2 *ℤ y2) *ℤ (a1 *ℤ x1 +ℤ a2 *ℤ x2))))
      (minor_first x1 x2 y1 y2 a1 a2 e1 e2)
      ∙ ap (λ (z : ℤ). d *ℤ ((b1 *ℤ u1 +ℤ b2 *ℤ u2) *ℤ (rows_minor *ℤ (a1 *ℤ e2 -ℤ a2 *ℤ e1)) +ℤ (e1 *ℤ u1 +ℤ e2 *ℤ u2) *ℤ z)) (minor_other x1 x2 y1 y2 b1 b2 a1 a2)
      ∙ gather d rows_minor (a1 *ℤ e2 -ℤ a2 *ℤ e1) (b1 *ℤ a2 -ℤ b2 *ℤ a1) (b1 *ℤ u1 +ℤ b2 *ℤ u2) (e1 *ℤ u1 +ℤ e2 *ℤ u2)
      ∙ ap (λ (z : ℤ). d *ℤ (rows_minor *ℤ z)) (three_minors u1 u2 a1 a2 b1 b2 e1 e2)
      ∙ shift d rows_minor columns_minor here
      ∙ ap (λ (z : ℤ). d *ℤ (z *ℤ here)) (sym is)
      ∙ twice d here
      ∙ ap (λ (z : ℤ). z *ℤ here) (sign_square d sign)
      ∙ one-mul here

  -- the same for entries that are equal to these sums
  pub spread_same : (d x y z w row_first row_other column_first column_other value : ℤ) → IsSign d → d ≡ x *ℤ w -ℤ y *ℤ z → x ≡ b1 *ℤ x1 +ℤ b2 *ℤ x2
      → y ≡ e1 *ℤ x1 +ℤ e2 *ℤ x2 → z ≡ b1 *ℤ y1 +ℤ b2 *ℤ y2
      → w ≡ e1 *ℤ y1 +ℤ e2 *ℤ y2 → row_first ≡ b1 *ℤ u1 +ℤ b2 *ℤ u2 → row_other ≡ e1 *ℤ u1 +ℤ e2 *ℤ u2 → column_first ≡ a1 *ℤ x1 +ℤ a2 *ℤ x2 → column_other ≡ a1 *ℤ y1 +ℤ a2 *ℤ y2 → value ≡ here
      → value ≡ spread d x y z w row_first row_other column_first column_other
  spread_same d x y z w row_first row_other column_first column_other value sign ed ex ey ez ew erf ero ecf eco ev =
      let minors : d ≡ rows_minor *ℤ columns_minor = ed ∙ rw (ex, ey, ez, ew) (minor x1 x2 y1 y2 b1 b2 e1 e2) in
      rw (ex, ey, ez, ew, erf, ero, ecf, eco) (ev ∙ sym (spread_elsewhere d sign minors))

-- ---- three rows that are sums of multiples of two rows

by_sign : (sign z : ℤ) → IsSign sign → sign *ℤ z ≡ pos 0 → z ≡ pos 0
by_sign sign z (inl e) h = sym (one-mul z) ∙ ap (λ (s : ℤ). s *ℤ z) (sym e) ∙ h
by_sign sign z (inr e) h = let k : negsuc 0 *ℤ z ≡ pos 0 = ap (λ (s : ℤ). s *ℤ z) (sym e) ∙ h in let l = minus_one-mul z in omega (arith, sums)

-- The rows a, b and c in the columns x, y and z: if c is 0 in x and y and not in z, and b is 0 in x and not in y, then a is 0 in x.
pub no_triangle : (a1 a2 b1 b2 e1 e2 x1 x2 y1 y2 z1 z2 : ℤ) → x1 *ℤ e1 +ℤ x2 *ℤ e2 ≡ pos 0 → y1 *ℤ e1 +ℤ y2 *ℤ e2 ≡ pos 0 → IsSign (z1 *ℤ e1 +ℤ z2 *ℤ e2)
    → x1 *ℤ b1 +ℤ x2 *ℤ b2 ≡ pos 0 → IsSign (y1 *ℤ b1 +ℤ y2 *ℤ b2) → x1 *ℤ a1 +ℤ x2 *ℤ a2 ≡ pos 0
no_triangle a1 a2 b1 b2 e1 e2 x1 x2 y1 y2 z1 z2 xe ye ze xb yb =
    let minors : (z1 *ℤ e1 +ℤ z2 *ℤ e2) *ℤ (x1 *ℤ y2 -ℤ x2 *ℤ y1) ≡ pos 0 =
    sym (three_minors e1 e2 z1 z2 x1 x2 y1 y2) ∙ rw (xe, ye) (simp products (omega (arith, sums))) in
    let none : x1 *ℤ y2 -ℤ x2 *ℤ y1 ≡ pos 0 = by_sign (z1 *ℤ e1 +ℤ z2 *ℤ e2) (x1 *ℤ y2 -ℤ x2 *ℤ y1) ze minors in
    let pair : (x1 *ℤ a1 +ℤ x2 *ℤ a2) *ℤ (y1 *ℤ b1 +ℤ y2 *ℤ b2) -ℤ (y1 *ℤ a1 +ℤ y2 *ℤ a2) *ℤ (x1 *ℤ b1 +ℤ x2 *ℤ b2) ≡ (a1 *ℤ b2 -ℤ a2 *ℤ b1) *ℤ (x1 *ℤ y2 -ℤ x2 *ℤ y1) = minor a1 a2 b1 b2 x1 x2 y1 y2 in
    by_sign (y1 *ℤ b1 +ℤ y2 *ℤ b2) (x1 *ℤ a1 +ℤ x2 *ℤ a2) yb
    (last_factor (x1 *ℤ a1 +ℤ x2 *ℤ a2) (y1 *ℤ b1 +ℤ y2 *ℤ b2) (y1 *ℤ a1 +ℤ y2 *ℤ a2) (x1 *ℤ b1 +ℤ x2 *ℤ b2) (a1 *ℤ b2 -ℤ a2 *ℤ b1) (x1 *ℤ y2 -ℤ x2 *ℤ y1) pair xb none)
  where
    last_factor : (f g h k s t : ℤ) → f *ℤ g -ℤ h *ℤ k ≡ s *ℤ t → k ≡ pos 0 → t ≡ pos 0 → g *ℤ f ≡ pos 0
    last_factor f g h k s t is ek et =
        let now : f *ℤ g -ℤ h *ℤ pos 0 ≡ s *ℤ pos 0 = ap (λ (w : ℤ). f *ℤ g -ℤ h *ℤ w) (sym ek) ∙ is ∙ ap (λ (w : ℤ). s *ℤ w) et in
        let one = mul-zero h in
        let other = mul-zero s in
        let turn = mul_comm f g in
        omega (arith, sums)
