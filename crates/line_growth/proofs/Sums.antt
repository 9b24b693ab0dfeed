-- A line of a block as a sum of multiples of other lines.
use Rattle.std.proofs.Common.{◌≡◌, ◌∙◌, ap, ap₂, sym, refl, arith, ◌+ℤ◌, ◌-ℤ◌, ◌*ℤ◌, ℕ, ℤ, pos, w8, to_z, of_z}
use Rattle.cmr_base.specs.Matrix.{Matrix, entry, transposed, IsMatrix, IsEntry}
use Rattle.cmr_base.specs.Separations.{spread}
use Rattle.cmr_base.proofs.Integers.{products, sums}
use Rattle.cmr_base.proofs.Parts.{entry-transposed}
use Rattle.cmr_base.proofs.SmallEntries.{entry_as_byte}
use Rattle.line_growth.specs.declared.rule.Block.TheVariants.{Product, Spread}
use Rattle.cmr_base.specs.declared.position.Position.{Position}
use Rattle.line_growth.specs.declared.rule.SpreadLines.{SpreadLines}
use Rattle.line_growth.specs.Rules.{IsSpreadOf, block_entry}

-- ---- products

along_row : (a b e : ℤ) → (a *ℤ e) *ℤ b ≡ a *ℤ (b *ℤ e)
along_row a b e = simp products

along_column : (a b e : ℤ) → (b *ℤ e) *ℤ a ≡ a *ℤ (b *ℤ e)
along_column a b e = simp products

pub zero_times : (f x : ℤ) → f ≡ pos 0 → f *ℤ x ≡ pos 0
zero_times f x e = rw e (simp products)

pub product_row : (m : Matrix) (place : Position) (row column : ℕ) (factor : ℤ) → factor ≡ entry m row place.column *ℤ entry m place.row place.column
    → factor *ℤ entry m place.row column ≡ block_entry (entry m) (Product place) row column
product_row m place row column factor f = ap (λ (x : ℤ). x *ℤ entry m place.row column) f ∙ along_row (entry m row place.column) (entry m place.row column) (entry m place.row place.column)

pub product_column : (m : Matrix) → IsMatrix m → (place : Position) (column row : ℕ) (factor : ℤ) → factor ≡ entry m place.row column *ℤ entry m place.row place.column
    → factor *ℤ entry (transposed m) place.column row ≡ block_entry (entry m) (Product place) row column
product_column m is place column row factor f =
    ap₂ (λ (x y : ℤ). x *ℤ y) f (entry-transposed m row place.column is) ∙ along_column (entry m row place.column) (entry m place.row column) (entry m place.row place.column)

-- the factor of a line with an entry
pub factor_is : (factor x a b : ℤ) → IsEntry factor → IsEntry x → factor ≡ to_z w8 (of_z w8 x) *ℤ b → x ≡ a → to_z w8 (of_z w8 factor) ≡ a *ℤ b
factor_is factor x a b small sx e f = entry_as_byte factor small ∙ e ∙ ap (λ (z : ℤ). z *ℤ b) (entry_as_byte x sx ∙ f)

-- ---- the block that two rows and two columns make

-- the rows and the columns exchanged
pub spread_transposed : (d x y z w row_first row_other column_first column_other : ℤ)
    → spread d x y z w row_first row_other column_first column_other ≡ spread d x z y w column_first column_other row_first row_other
spread_transposed d x y z w row_first row_other column_first column_other = simp products (omega (arith, sums))

module _ (m : Matrix) (lines : SpreadLines) (is : IsSpreadOf m lines) where
  abbrev M : ℕ → ℕ → ℤ
  M = entry m

  determinant_at : lines.determinant ≡ M lines.upper lines.left *ℤ M lines.lower lines.right -ℤ M lines.upper lines.right *ℤ M lines.lower lines.left
  determinant_at = is.determinant ∙ ap₂ (λ (p q : ℤ). p -ℤ q) (ap₂ (λ (p q : ℤ). p *ℤ q) is.core.x is.core.w) (ap₂ (λ (p q : ℤ). p *ℤ q) is.core.y is.core.z)

  made : (row column : ℕ)
      → spread lines.determinant lines.core.x lines.core.y lines.core.z lines.core.w (M row lines.left) (M row lines.right) (M lines.upper column) (M lines.lower column) ≡ block_entry M (Spread lines) row column
  made row column = rw (determinant_at, is.core.x, is.core.y, is.core.z, is.core.w) refl

  module _ (d x y z w first other : ℤ) (ed : d ≡ lines.determinant) where
    pub spread_row : x ≡ lines.core.x → y ≡ lines.core.y → z ≡ lines.core.z → w ≡ lines.core.w → (row column : ℕ) (f g : ℤ) → first ≡ M row lines.left → other ≡ M row lines.right
        → ((column_first column_other : ℤ) → spread d x y z w first other column_first column_other ≡ f *ℤ column_first +ℤ g *ℤ column_other)
        → f *ℤ M lines.upper column +ℤ g *ℤ M lines.lower column ≡ block_entry M (Spread lines) row column
    spread_row ex ey ez ew row column f g e1 e2 is_sum = sym (is_sum (M lines.upper column) (M lines.lower column)) ∙ same ∙ made row column
      where
        same : spread d x y z w first other (M lines.upper column) (M lines.lower column) ≡ spread lines.determinant lines.core.x lines.core.y lines.core.z lines.core.w (M row lines.left) (M row lines.right) (M lines.upper column) (M lines.lower column)
        same = rw (ed, ex, ey, ez, ew, e1, e2) refl

    pub spread_column : IsMatrix m → x ≡ lines.core.x → y ≡ lines.core.z → z ≡ lines.core.y → w ≡ lines.core.w → (column row : ℕ) (f g : ℤ)
        → first ≡ M lines.upper column → other ≡ M lines.lower column
        → ((row_first row_other : ℤ) → spread d x y z w first other row_first row_other ≡ f *ℤ row_first +ℤ g *ℤ row_other)
        → f *ℤ entry (transposed m) lines.left row +ℤ g *ℤ entry (transposed m) lines.right row ≡ block_entry M (Spread lines) row column
    spread_column shape ex ey ez ew column row f g e1 e2 is_sum =
        ap₂ (λ (a b : ℤ). f *ℤ a +ℤ g *ℤ b) (entry-transposed m row lines.left shape) (entry-transposed m row lines.right shape)
        ∙ sym (is_sum (M row lines.left) (M row lines.right)) ∙ same
        ∙ sym (spread_transposed lines.determinant lines.core.x lines.core.y lines.core.z lines.core.w (M row lines.left) (M row lines.right) (M lines.upper column) (M lines.lower column)) ∙ made row column
      where
        same : spread d x y z w first other (M row lines.left) (M row lines.right) ≡ spread lines.determinant lines.core.x lines.core.z lines.core.y lines.core.w (M lines.upper column) (M lines.lower column) (M row lines.left) (M row lines.right)
        same = rw (ed, ex, ey, ez, ew, e1, e2) refl
