-- The entries of a matrix of four blocks.
use Rattle.std.proofs.Common.{◌≡◌, ◌<◌, ◌≤◌, ◌+◌, ◌-◌, ◌∙◌, ◌*ℤ◌, ℕ, ℤ, pos, Bool, true, false, cond, nat_lt, ap₂, sym, subst, refl, inl, inr, arith}
use Rattle.std.proofs.lemmas.Bool.{cases_lt}
use Rattle.cmr_base.specs.Matrix.{Matrix, height, entry, IsEntry, IsMatrix}
use Rattle.cmr_base.specs.Separations.{spread}
use Rattle.cmr_base.proofs.Booleans.{lt_of}
use Rattle.cmr_base.proofs.FilledCells.{entry-past}
use Rattle.cmr_base.proofs.Integers.{products}
use Rattle.cmr_base.proofs.SmallEntries.{zero_is_entry, product_is_entry}
use Rattle.sum_ops.specs.declared.plan.LowerBlock.{LowerBlock}
use Rattle.sum_ops.specs.declared.plan.LowerBlock.TheVariants.{Zero, Product}
use Rattle.sum_ops.specs.declared.plan.LowerBlock.TheVariants.{Spread as SpreadBlock}
use Rattle.sum_ops.specs.declared.plan.Plan.{Plan}
use Rattle.sum_ops.specs.declared.spread.Spread.{Spread}
use Rattle.sum_ops.specs.Spreads.{spread_entry}
use Rattle.sum_ops.specs.Plans.{entries_of, upper_entry, lower_entry, FitsPlan, LowerFits}

either : (b : Bool) (x : ℤ) → IsEntry x → IsEntry (cond b x (pos 0))
either true x h = h
either false x h = zero_is_entry

spread-zeros : (d x y z w a b : ℤ) → spread d x y z w (pos 0) (pos 0) a b ≡ pos 0
spread-zeros d x y z w a b = simp products

module _ (plan : Plan) (first second : Matrix) (fits : FitsPlan plan first second) (other : IsMatrix second) where
  spread_small : (block : Spread) → LowerFits (SpreadBlock block) plan first second → (r c : ℕ) → plan.up ≤ r → c < plan.columns → IsEntry (spread_entry block first second r c)
  spread_small block lower r c from l = elim (cases_lt r (height second)) [
    | inl lt ↦ lower.1 r c from lt l
    | inr ge ↦ subst IsEntry (sym (ap₂ (λ (a b : ℤ). spread block.determinant (entry second 1 0) (entry second 1 1) (entry second 2 0) (entry second 2 1) a b (entry first block.model c) (entry first (block.model + 1) c))
        (entry-past second r 0 ge) (entry-past second r 1 ge)
        ∙ spread-zeros block.determinant (entry second 1 0) (entry second 1 1) (entry second 2 0) (entry second 2 1) (entry first block.model c) (entry first (block.model + 1) c))) zero_is_entry
  ]

  lower_small : (r c : ℕ) → plan.up ≤ r → c < plan.columns → IsEntry (lower_entry plan.lower plan.rows first second r c)
  lower_small r c from l = go plan.lower fits.lower
    where
      go : (block : LowerBlock) → LowerFits block plan first second → IsEntry (lower_entry block plan.rows first second r c)
      go Zero h = zero_is_entry
      go Product h = product_is_entry (entry second r 0) (entry first plan.rows c) (other.small r 0) (fits.first_matrix.small plan.rows c)
      go (SpreadBlock block) h = spread_small block h r c from l

  pub entries_small : (r c : ℕ) → IsEntry (entries_of plan first second r c)
  entries_small r c = go (nat_lt r plan.rows) (nat_lt c plan.columns) refl
    where
      go : (s t : Bool) → nat_lt c plan.columns ≡ t
          → IsEntry (cond s (cond t (entry first r c) (upper_entry plan first second r (plan.left + (c - plan.columns)))) (cond t (lower_entry plan.lower plan.rows first second (plan.up + (r - plan.rows)) c) (entry second (plan.up + (r - plan.rows)) (plan.left + (c - plan.columns)))))
      go true true e = fits.first_matrix.small r c
      go true false e = either plan.upper (entry first r plan.columns *ℤ entry second 0 (plan.left + (c - plan.columns))) (product_is_entry (entry first r plan.columns) (entry second 0 (plan.left + (c - plan.columns))) (fits.first_matrix.small r plan.columns) (other.small 0 (plan.left + (c - plan.columns))))
      go false true e = lower_small (plan.up + (r - plan.rows)) c (omega arith) (lt_of c plan.columns e)
      go false false e = other.small (plan.up + (r - plan.rows)) (plan.left + (c - plan.columns))
