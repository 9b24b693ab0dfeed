use Rattle.std.proofs.Common.{◌≡◌, ◌*◌, ◌+◌, ◌∙◌, ◌*ℤ◌, eqb, cond, ℕ, zero, suc, ℤ, pos, negsuc, w8, to_z, Bool, true, false, ap, sym, refl}
use Rattle.std.specs.Int.{bit_at}
use Rattle.cmr_base.specs.Differences.{differ, differs_at}
use Rattle.cmr_base.specs.Matrix.{entry, is_nonzero, IsEntry}
use Rattle.cmr_base.proofs.ColumnWords.{column_at}
use Rattle.cmr_base.proofs.DifferenceWords.{too_large, too_small}
use Rattle.cmr_base.proofs.Integers.{products}
use Rattle.cmr_base.proofs.SmallEntries.{entry_as_byte}
use Rattle.line_growth.proofs.growing_lines.difference.Goals as goal

-- a bit and its test
bit_is : (t : Bool) (bit : ℕ) → bit ≡ cond t 1 0 → eqb bit 1 ≡ t
bit_is true bit e = rw e refl
bit_is false bit e = rw e refl

is_nonzero_by : (x : ℤ) → IsEntry x → is_nonzero x ≡ differ x (pos 0)
is_nonzero_by (pos zero) a = refl
is_nonzero_by (pos (suc zero)) a = refl
is_nonzero_by (negsuc zero) a = refl
is_nonzero_by (pos (suc (suc n))) a = too_large n a
is_nonzero_by (negsuc (suc n)) a = too_small n a

-- a number is not 0 if and only if it differs from a multiple by 0
nonzero_differs : (x y : ℤ) → IsEntry x → is_nonzero x ≡ differ x (pos 0 *ℤ y)
nonzero_differs x y small = is_nonzero_by x small ∙ ap (differ x) (sym (simp products))

pub returns-then-multiple-eq0 : goal.returns-then-multiple-eq0
returns-then-multiple-eq0 c = λ k s.
    let m = c.args.matrix.now in
    let words = c.columns_of.result.now in
    let chunk = c.args.chunk in
    let column = 64 * chunk + k in
    let shape = c.rows-rows.ensures.shape in
    let zero : c.args.multiple.factor ≡ pos 0 = sym (entry_as_byte c.args.multiple.factor c.requires.factor) ∙ ap (to_z w8) c.if-multiple-eq0.true in
    sym (column_at words chunk k s) ∙ c.columns_of.ensures.columns column
    ∙ nonzero_differs (entry m c.args.row column) (entry m c.args.multiple.model column) (shape.small c.args.row column) ∙ ap (λ (z : ℤ). differs_at m c.args.row z c.args.multiple.model column) (sym zero)

pub returns : goal.returns
returns c = λ k s.
    let m = c.args.matrix.now in
    let factor = c.args.multiple.factor in
    let model = c.args.multiple.model in
    let word = c.difference_word.result in
    let column = 64 * c.args.chunk + k in
    let byte = entry_as_byte factor c.requires.factor in
    bit_is (differs_at m c.args.row factor model column) (bit_at word k) (c.difference_word.ensures k s ∙ ap (λ z. cond (differs_at m c.args.row z model column) 1 0) byte)
