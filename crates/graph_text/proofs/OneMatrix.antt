-- A network has one matrix.
use Rattle.std.proofs.Common.{◌≡◌, ◌<◌, ◌∙◌, ◌⊎◌, inl, inr, ℕ, ℤ, pos, true, false, sym, ap, subst}
use Rattle.cmr_base.specs.Matrix.{height, entry, is_nonzero}
use Rattle.cmr_base.specs.Trees.{head, tail, support, IsDirectedPathOf, IsPathOf}
use Rattle.cmr_base.proofs.WholeMatrices.{same_matrix}
use Rattle.cmr_base.proofs.TreeTests.{path_by_walk, directed_path_by_walk}
use Rattle.graph_text.specs.Laws.{BinaryMatricesAreOne, MatricesAreOne}

pub matrices_are_one : MatricesAreOne
matrices_are_one net m n is_m is_n heights widths one two = same_matrix m n is_m.rectangular is_n.rectangular heights widths (λ row column low near.
    let P = one.paths column near in
    let Q = subst (λ (h : ℕ). IsDirectedPathOf net.arcs h (λ r. entry n r column) (tail net.walks column) (head net.walks column)) (sym heights) (two.paths column (subst (λ (w : ℕ). column < w) widths near)) in
    P.exact row low ∙ sym ((directed_path_by_walk net.arcs (height m) one.network.tree (tail net.walks column) (head net.walks column) P.steps P.walk P.once (λ r. entry n r column)).0 Q row low))

binary_same : (x y : ℤ) → (x ≡ pos 0) ⊎ (x ≡ pos 1) → (y ≡ pos 0) ⊎ (y ≡ pos 1) → (is_nonzero x ≡ true → is_nonzero y ≡ true) → (is_nonzero y ≡ true → is_nonzero x ≡ true) → x ≡ y
binary_same x y (inl a) (inl b) f g = a ∙ sym b
binary_same x y (inr a) (inr b) f g = a ∙ sym b
binary_same x y (inl a) (inr b) f g = let t : is_nonzero x ≡ true = g (ap is_nonzero b) in let u : is_nonzero x ≡ false = ap is_nonzero a in absurd (cc)
binary_same x y (inr a) (inl b) f g = let t : is_nonzero y ≡ true = f (ap is_nonzero a) in let u : is_nonzero y ≡ false = ap is_nonzero b in absurd (cc)

pub binary_matrices_are_one : BinaryMatricesAreOne
binary_matrices_are_one net m n is_m is_n heights widths binary_m binary_n one two = same_matrix m n is_m.rectangular is_n.rectangular heights widths (λ row column low near.
    let P = one.paths column near in
    let Q = subst (λ (h : ℕ). IsPathOf net.arcs h (λ r. support n r column) (tail net.walks column) (head net.walks column)) (sym heights) (two.paths column (subst (λ (w : ℕ). column < w) widths near)) in
    let here = P.exact row low in
    let there = (path_by_walk net.arcs (height m) one.network.tree (tail net.walks column) (head net.walks column) P.steps P.walk P.once (λ r. support n r column)).0 Q row low in
    binary_same (entry m row column) (entry n row column) (binary_m row column) (binary_n row column) (λ t. there.1 (here.0 t)) (λ t. here.1 (there.0 t)))
