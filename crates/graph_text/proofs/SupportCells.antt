-- The support of a matrix, cell by cell.
use Rattle.std.proofs.Common.{◌≡◌, ◌<◌, ◌≤◌, ◌∙◌, ◌⊎◌, inl, inr, ℕ, zero, suc, ℤ, pos, Bool, true, false, cond, List, [], ◌∷◌, map, length, get_or, ap, sym, subst, refl, arith}
use Rattle.std.specs.List.{flat_map}
use Rattle.std.proofs.lemmas.List.{length-map, get_or-map}
use Rattle.std.proofs.lemmas.List.FromFn.{length-range_with_len}
use Rattle.cmr_base.specs.declared.network.Network.{Network}
use Rattle.cmr_base.specs.Matrix.{Matrix, height, entry, is_nonzero, IsEntry, IsMatrix}
use Rattle.cmr_base.specs.LineSets.{first_lines}
use Rattle.cmr_base.specs.MatrixSums.{filled}
use Rattle.cmr_base.specs.Trees.{IsBinary, RealisesSupport, Reproduces, ReproducesSupport, support}
use Rattle.cmr_base.proofs.FilledCells.{filled_small}
use Rattle.cmr_base.proofs.FilledMatrices.{height-filled, entry-filled}
use Rattle.cmr_base.proofs.GraphicMatrices.{support_same}
use Rattle.cmr_base.proofs.Integers.{sums}
use Rattle.cmr_base.proofs.Parts.{each-map}
use Rattle.cmr_base.proofs.ReproducedCuts.{support_realised}
use Rattle.cmr_base.proofs.SmallEntries.{zero_is_entry}
use Rattle.graph_text.specs.SupportMatrix.{one_at}

-- each entry and 0 have a property, so all cells have it, also outside the sizes
each_filled : (P : ℤ → Type 0) (f : ℕ → ℕ → ℤ) (columns rows : List ℕ) → P (pos 0) → ((r c : ℕ) → P (f r c)) → (r c : ℕ) → P (get_or (get_or (map (λ row. map (f row) columns) rows) r []) c (pos 0))
each_filled P f columns [] none each r c = none
each_filled P f columns (x ∷ rows) none each zero c = each-map P (f x) columns none (each x) c
each_filled P f columns (x ∷ rows) none each (suc r) c = each_filled P f columns rows none each r c

module _ (m : Matrix) where
  one_cases : (row column : ℕ) → (one_at m row column ≡ pos 0) ⊎ (one_at m row column ≡ pos 1)
  one_cases row column = go (support m row column)
    where
      go : (b : Bool) → (cond b (pos 1) (pos 0) ≡ pos 0) ⊎ (cond b (pos 1) (pos 0) ≡ pos 1)
      go true = inr refl
      go false = inl refl

  pub one_is_entry : (row column : ℕ) → IsEntry (one_at m row column)
  one_is_entry row column = go (support m row column)
    where
      go : (b : Bool) → IsEntry (cond b (pos 1) (pos 0))
      go true = record { low = omega (arith, sums); high = omega (arith, sums) }
      go false = zero_is_entry

  abbrev pub row_cells : ℕ → List ℤ
  row_cells row = map (one_at m row) (first_lines m.width)

  abbrev pub cells : List ℤ
  cells = flat_map row_cells (first_lines (height m))

  abbrev pub ones : Matrix
  ones = filled (height m) m.width (one_at m)

  pub ones_are_matrix : IsMatrix m → IsMatrix ones
  ones_are_matrix is = record {
    rectangular = λ row l. ap length (get_or-map (λ row. map (one_at m row) (first_lines m.width)) (first_lines (height m)) row 0 [] (let e = height-filled (height m) m.width (one_at m) in let f = length-range_with_len 0 (height m) in omega (arith, l, e, f))) ∙ (length-map (first_lines m.width) (one_at m (get_or (first_lines (height m)) row 0)) ∙ length-range_with_len 0 m.width);
    small = filled_small (height m) m.width (one_at m) one_is_entry;
    height_in = subst (λ (n : ℕ). n ≤ 1000) (sym (height-filled (height m) m.width (one_at m))) is.height_in;
    width_in = is.width_in;
  }

  pub ones_are_binary : IsBinary ones
  ones_are_binary = each_filled (λ z. (z ≡ pos 0) ⊎ (z ≡ pos 1)) (one_at m) (first_lines m.width) (first_lines (height m)) (inl refl) one_cases

  one_support : (row column : ℕ) → row < height m → column < m.width → support ones row column ≡ support m row column
  one_support row column low near = ap is_nonzero (entry-filled (height m) m.width (one_at m) row column low near) ∙ go (support m row column)
    where
      go : (b : Bool) → is_nonzero (cond b (pos 1) (pos 0)) ≡ b
      go true = refl
      go false = refl

  pub ones_reproduced : (net : Network) → Reproduces net m → ReproducesSupport net ones
  ones_reproduced net N =
      subst (λ (h : ℕ). RealisesSupport net (support ones) h m.width) (sym (height-filled (height m) m.width (one_at m)))
      (support_same net (height m) m.width (support m) (support ones) (λ row column low near. sym (one_support row column low near)) (support_realised net (entry m) (height m) m.width N))
