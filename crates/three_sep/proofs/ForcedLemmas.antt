-- Columns that are in side one with a row.
use Rattle.std.proofs.Common.{ℕ, ℤ, pos, ◌<◌, ◌*ℤ◌, ◌+ℤ◌, ◌-ℤ◌, ◌&&◌, ◌||◌, Bool, true, false, ◌≡◌, ◌∙◌, sym, refl, subst, ◌⊎◌, inl, inr}
use Rattle.cmr_base.specs.declared.line.Line.TheVariants.{Row, Column}
use Rattle.cmr_base.specs.Matrix.{Matrix, height, entry, IsMatrix}
use Rattle.cmr_base.specs.Signing.{IsSign}
use Rattle.cmr_base.specs.Separations.{Lines, core_determinant, spread_at, zeros}
use Rattle.cmr_base.specs.Trees.{support}
use Rattle.cmr_base.proofs.Booleans.{and_is, false_is, nonzero_is, not_both, not_is, true_is, zero_is}
use Rattle.cmr_base.proofs.NextNonzeros.{column_in as nonzero_in}
use Rattle.cmr_base.proofs.SignEntries.{sign_of_entry}
use Rattle.three_sep.specs.declared.connectors.Connectors.{Connectors}
use Rattle.cuts.proofs.CutLemmas.{lower_at, upper_at}
use Rattle.line_growth.specs.GrowingSets.{IsClosedIn}
use Rattle.three_sep.specs.Independent.{AreIndependent, outside_one, outside_two}
use Rattle.three_sep.specs.Concentrated.{AreForcedWith, IsForcedWith}
use Rattle.three_sep.proofs.SpreadLemmas.{no_triangle, spread_parts}

-- ---- sets of columns

pub or_none : (a b : Bool) → a ≡ false → (a || b) ≡ b
or_none true b e = absurd (not_both true refl e)
or_none false b e = refl

pub and_false : (a b : Bool) → (a && b) ≡ false → (b ≡ false) ⊎ (a ≡ false)
and_false true b e = inl e
and_false false b e = inr refl

-- ---- columns that are forced

module _ (m : Matrix) (d : Connectors) where
  abbrev determinant : ℤ
  determinant = core_determinant (entry m) d.first d.second

  abbrev part_first : ℕ → ℤ
  part_first column = determinant *ℤ (entry m d.second.other d.first.other *ℤ entry m d.second.row column -ℤ entry m d.second.row d.first.other *ℤ entry m d.second.other column)

  abbrev part_other : ℕ → ℤ
  part_other column = determinant *ℤ (entry m d.second.row d.first.column *ℤ entry m d.second.other column -ℤ entry m d.second.other d.first.column *ℤ entry m d.second.row column)

module _ (m : Matrix) (is : IsMatrix m) where
  -- the columns of a row
  pub own_forced : (i : ℕ) → i < height m → AreForcedWith m i (support m i)
  own_forced i row_in column e d S closed one =
      let l = nonzero_in m i column is row_in e in
      true_is (S (Column column)) (λ out. nonzero_is (entry m i column) e (upper_at m closed i column row_in l one out))

  module _ (d : Connectors) (S : Lines) (closed : IsClosedIn m zeros (spread_at (entry m) d.first d.second) S) where
    -- a column of the lower block from columns p and q
    parts : (row column : ℕ) → row < height m → column < m.width → S (Row row) ≡ false → S (Column column) ≡ true
        → entry m row column ≡ part_first m d column *ℤ entry m row d.first.column +ℤ part_other m d column *ℤ entry m row d.first.other
    parts row column lr lc er ec =
        lower_at m closed row column lr lc er ec
        ∙ spread_parts (determinant m d) (entry m d.second.row d.first.column) (entry m d.second.row d.first.other) (entry m d.second.other d.first.column) (entry m d.second.other d.first.other) (entry m row d.first.column) (entry m row d.first.other) (entry m d.second.row column) (entry m d.second.other column)

    -- three independent rows are not all outside
    module _ (set : ℕ → Bool) (j : ℕ) (h : AreIndependent m set j) (inside : (column : ℕ) → set column ≡ true → S (Column column) ≡ true) (column_in : j < m.width) (out : S (Column j) ≡ false) where
      row_out : (row : ℕ) → row < height m → support m row j ≡ true → S (Row row) ≡ false
      row_out row l e = false_is (S (Row row)) (λ within. nonzero_is (entry m row j) e (upper_at m closed row j l column_in within out))

      among_one : (column : ℕ) → outside_one m set h.one column ≡ true → (set column ≡ true) × (entry m h.one column ≡ pos 0)
      among_one column e = let (own, none) = and_is _ _ e in (own, zero_is (entry m h.one column) (not_is _ none))

      among_two : (column : ℕ) → outside_two m set h.one h.two column ≡ true → (set column ≡ true) × (entry m h.one column ≡ pos 0) × (entry m h.two column ≡ pos 0)
      among_two column e = let (before, none) = and_is _ _ e in let (own, zero_one) = among_one column before in (own, zero_one, zero_is (entry m h.two column) (not_is _ none))

      sign_at : (row column : ℕ) → support m row column ≡ true → IsSign (entry m row column)
      sign_at row column e = sign_of_entry (entry m row column) (is.small row column) (nonzero_is (entry m row column) e)

      not_independent : ⊥
      not_independent =
          let one = h.first in
          let two = h.second in
          let three = h.third in
          let lz = nonzero_in m h.one one.column is one.row_in one.here in
          let ly = nonzero_in m h.two two.column is two.row_in two.here in
          let lx = nonzero_in m h.three three.column is three.row_in three.here in
          let iz = inside one.column one.among in
          let (own_y, one_y) = among_one two.column two.among in
          let iy = inside two.column own_y in
          let (own_x, one_x, two_x) = among_two three.column three.among in
          let ix = inside three.column own_x in
          let o1 = row_out h.one one.row_in one.nonzero in
          let o2 = row_out h.two two.row_in two.nonzero in
          let o3 = row_out h.three three.row_in three.nonzero in
          let p = d.first.column in
          let q = d.first.other in
          let zero = no_triangle (entry m h.three p) (entry m h.three q) (entry m h.two p) (entry m h.two q) (entry m h.one p) (entry m h.one q)
          (part_first m d three.column) (part_other m d three.column) (part_first m d two.column) (part_other m d two.column) (part_first m d one.column) (part_other m d one.column)
          (sym (parts h.one three.column one.row_in lx o1 ix) ∙ one_x) (sym (parts h.one two.column one.row_in ly o1 iy) ∙ one_y)
          (subst (λ (z : ℤ). IsSign z) (parts h.one one.column one.row_in lz o1 iz) (sign_at h.one one.column one.here))
          (sym (parts h.two three.column two.row_in lx o2 ix) ∙ two_x)
          (subst (λ (z : ℤ). IsSign z) (parts h.two two.column two.row_in ly o2 iy) (sign_at h.two two.column two.here)) in
          nonzero_is (entry m h.three three.column) three.here (parts h.three three.column three.row_in lx o3 ix ∙ zero)

  -- a column three rows of which are independent in columns that are forced
  pub forced_by_three : (i : ℕ) (set : ℕ → Bool) (j : ℕ) → AreForcedWith m i set → AreIndependent m set j → j < m.width → IsForcedWith m i j
  forced_by_three i set j forced independent column_in d S closed one =
      true_is (S (Column j)) (λ out. not_independent d S closed set j independent (λ column e. forced column e d S closed one) column_in out)

-- one more
pub forced_more : (m : Matrix) (i j : ℕ) (before after : ℕ → Bool) → AreForcedWith m i before → IsForcedWith m i j → ((x : ℕ) → after x ≡ true → (x ≡ j) ⊎ (before x ≡ true)) → AreForcedWith m i after
forced_more m i j before after forced one only x e = elim (only x e) [
  | inl here ↦ subst (λ (z : ℕ). IsForcedWith m i z) (sym here) one
  | inr other ↦ forced x other
]
