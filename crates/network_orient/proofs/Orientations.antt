-- A network matrix agrees, up to the signs of lines, with each matrix that a tree for its support reproduces, whatever its
-- directions.
use Rattle.std.proofs.Common.{◌≡◌, ◌<◌, ◌≤◌, ◌↔◌, ◌⊎◌, inl, inr, ◌∙◌, ℕ, ℤ, pos, get_or, List, [], sym, ap, subst, arith}
use Rattle.std.proofs.lemmas.Bool.{cases_lt}
use Rattle.std.proofs.lemmas.List.{get_or_past}
use Rattle.cmr_base.specs.declared.network.Network.{Network}
use Rattle.cmr_base.specs.Matrix.{Matrix, height, entry, transposed, IsRectangular, IsTernary, is_nonzero}
use Rattle.cmr_base.specs.Supports.{HaveOneSupport, AgreeUpToSigns}
use Rattle.cmr_base.specs.ReversedNetworks.{reversed_network, IsMultiplied}
use Rattle.cmr_base.specs.Trees.{tail, head, Realises, Reproduces, ReproducesSupport, IsNetworkMatrix}
use Rattle.cmr_base.proofs.Parts.{entry-transposed_rectangular, height-transposed}
use Rattle.cmr_base.proofs.ThinLines.{zero_is}
use Rattle.cmr_base.proofs.TreeTests.{path_by_walk}
use Rattle.cmr_base.proofs.ReproducedCuts.{nonzero_direction}
use Rattle.cmr_base.proofs.ReversedWalks.{reversed_realises}
use Rattle.cmr_base.proofs.Booleans.{same_test}
use Rattle.ghouila.proofs.NetworkSignings.{networks_are_unimodular}
use Rattle.ghouila.proofs.SignsUnique.{signs_are_unique}
use Rattle.network_orient.specs.SignedGroups.{AgreeBefore}

pub beyond_sizes : (m : Matrix) → IsRectangular m → (row column : ℕ) → (height m ≤ row) ⊎ (m.width ≤ column) → entry m row column ≡ pos 0
beyond_sizes m is row column (inl high) = ap (λ r. get_or r column (pos 0)) (get_or_past m.rows row [] high)
beyond_sizes m is row column (inr far) = inside (cases_lt row (height m))
  where
    inside : (row < height m) ⊎ (height m ≤ row) → entry m row column ≡ pos 0
    inside (inl low) = get_or_past (get_or m.rows row []) column (pos 0) (omega (arith, is row low))
    inside (inr high) = ap (λ r. get_or r column (pos 0)) (get_or_past m.rows row [] high)

same_zeros : (x y : ℤ) → is_nonzero x ≡ is_nonzero y → (x ≡ pos 0) ↔ (y ≡ pos 0)
same_zeros x y e = ((λ z. zero_is y (sym e ∙ ap is_nonzero z)), (λ z. zero_is x (e ∙ ap is_nonzero z)))

-- the matrices that a network reproduces with and without directions have one support
pub one_support : (net : Network) (m n : Matrix) → IsRectangular m → IsRectangular n → height m ≡ height n → m.width ≡ n.width → Reproduces net m → ReproducesSupport net n → HaveOneSupport m n
one_support net m n is_m is_n height_same width_same directed undirected = record {
  height_same = height_same;
  width_same = width_same;
  zeros_same = λ row column. zeros row column (cases_lt row (height m)) (cases_lt column m.width);
}
  where
    inside : (row column : ℕ) → row < height m → column < m.width → is_nonzero (entry m row column) ≡ is_nonzero (entry n row column)
    inside row column low near =
        let path = directed.paths column near in
        let support = undirected.paths column (omega (arith, near, width_same)) in
        let by_walk = (path_by_walk net.arcs (height n) undirected.network.tree (tail net.walks column) (head net.walks column) path.steps path.walk path.once (λ r. is_nonzero (entry n r column))).0 support row (omega (arith, low, height_same)) in
        let here = nonzero_direction path.steps row in
        same_test (is_nonzero (entry m row column)) (is_nonzero (entry n row column))
        (λ e. by_walk.1 (here.0 (sym (ap is_nonzero (path.exact row low)) ∙ e)))
        (λ e. ap is_nonzero (path.exact row low) ∙ here.1 (by_walk.0 e))

    zeros : (row column : ℕ) → (row < height m) ⊎ (height m ≤ row) → (column < m.width) ⊎ (m.width ≤ column) → (entry m row column ≡ pos 0) ↔ (entry n row column ≡ pos 0)
    zeros row column (inl low) (inl near) = same_zeros (entry m row column) (entry n row column) (inside row column low near)
    zeros row column (inr high) far = ((λ e. beyond_sizes n is_n row column (inl (omega (arith, high, height_same)))), (λ e. beyond_sizes m is_m row column (inl high)))
    zeros row column low (inr far) = ((λ e. beyond_sizes n is_n row column (inr (omega (arith, far, width_same)))), (λ e. beyond_sizes m is_m row column (inr far)))

-- a matrix with that support is not a network matrix if it does not agree
pub agrees_where_network : (net : Network) (m n : Matrix) → IsTernary m → IsTernary n → height m ≡ height n → m.width ≡ n.width → Reproduces net m
    → ReproducesSupport net n → IsNetworkMatrix n → AgreeUpToSigns (entry m) (entry n)
agrees_where_network net m n is_m is_n height_same width_same directed undirected network =
    signs_are_unique m n is_m.rectangular is_n.rectangular is_m.small is_n.small (one_support net m n is_m.rectangular is_n.rectangular height_same width_same directed undirected)
    (networks_are_unimodular m is_m (net, directed)).1 (networks_are_unimodular n is_n network).1

-- signs of all rows are signs of the first rows
pub agree_before : (M N : ℕ → ℕ → ℤ) (count : ℕ) → AgreeUpToSigns M N → AgreeBefore M N count
agree_before M N count agreement = record {
  row_sign = agreement.row_sign;
  column_sign = agreement.column_sign;
  row_signs = agreement.row_signs;
  column_signs = agreement.column_signs;
  entries = λ row column low. agreement.entries row column;
}

-- the network reversed by the signs reproduces the matrix
pub reversed_reproduces : (net : Network) (m n : Matrix) (rows columns : List ℤ) → height m ≡ height n → m.width ≡ n.width → Reproduces net m
    → IsMultiplied (entry m) (entry n) (height m) m.width rows columns
    → Reproduces (reversed_network net rows columns) n
reversed_reproduces net m n rows columns height_same width_same directed multiplied =
    subst (λ h. Realises (reversed_network net rows columns) (entry n) h n.width) height_same (subst (λ w. Realises (reversed_network net rows columns) (entry n) (height m) w) width_same
    (reversed_realises net (entry m) (entry n) (height m) m.width rows columns multiplied directed))

-- if the transpose of a matrix has the support of another matrix, the matrix has the support of the other's transpose
pub one_support_transposed : (m n : Matrix) → IsRectangular m → IsRectangular n → HaveOneSupport m (transposed n) → HaveOneSupport (transposed m) n
one_support_transposed m n is_m is_n one = record {
  height_same = height-transposed m ∙ one.width_same;
  width_same = one.height_same ∙ height-transposed n;
  zeros_same = λ row column.
      let e = entry-transposed_rectangular m column row is_m in
      let f = entry-transposed_rectangular n row column is_n in
      let same = one.zeros_same column row in
      ((λ zero. sym f ∙ same.0 (sym e ∙ zero)), (λ zero. e ∙ same.1 (f ∙ zero)));
}
