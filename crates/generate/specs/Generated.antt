-- Generated matrices.
use Rattle.std.specs.Prelude.{◌≡◌, ◌+◌, neg_ℤ, if◌then◌else◌, ◌==◌, ℕ, zero, suc, ℤ, pos, negsuc, List, [], ◌∷◌, map}
use Rattle.cmr_base.specs.Matrix.{Matrix, height}
use Rattle.cmr_base.specs.MatrixSums.{two_sum}
use Rattle.cmr_base.specs.Trees.{Reproduces}
use Rattle.cmr_base.specs.declared.network.Network.{Network}
use Rattle.cmr_base.specs.declared.network.Pair.{Pair}
use Rattle.generate.specs.declared.making.MakeKind.{MakeKind}
use Rattle.generate.specs.declared.making.MakeKind.TheVariants as kinds
use Rattle.cmr_base.specs.Draws.{draws}

-- arcs from these nodes to the nodes from a first one on
abbrev pub arcs_to : ℕ → List ℕ → List Pair
arcs_to node [] = []
arcs_to node (tail ∷ tails) = record { tail = tail; head = node } ∷ arcs_to (node + 1) tails

-- the numbers in pairs
abbrev pub pairs_of : List ℕ → List Pair
pairs_of [] = []
pairs_of (first ∷ []) = []
pairs_of (first ∷ last ∷ nodes) = record { tail = first; head = last } ∷ pairs_of nodes

-- a random recursive tree, with an arc from an earlier node to each next node, and a random walk for each column
abbrev pub generated_network : ℕ → ℕ → Network
generated_network size number =
    let tails = draws size 1 1 number in
    let ends = draws (size + size) (size + 1) 0 tails.1 in
    record { arcs = arcs_to 1 tails.0; walks = pairs_of ends.0 }

-- an R10 matrix: a totally unimodular circulant
abbrev pub circulant : Matrix
circulant = record {
  rows =
      (pos 1 ∷ negsuc 0 ∷ pos 0 ∷ pos 0 ∷ negsuc 0 ∷ [])
      ∷ (negsuc 0 ∷ pos 1 ∷ negsuc 0 ∷ pos 0 ∷ pos 0 ∷ [])
      ∷ (pos 0 ∷ negsuc 0 ∷ pos 1 ∷ negsuc 0 ∷ pos 0 ∷ [])
      ∷ (pos 0 ∷ pos 0 ∷ negsuc 0 ∷ pos 1 ∷ negsuc 0 ∷ [])
      ∷ (negsuc 0 ∷ pos 0 ∷ pos 0 ∷ negsuc 0 ∷ pos 1 ∷ [])
      ∷ [];
  width = 5;
}

-- the two-sum of a number of circulants, one after another; the number 0 counts as 1
abbrev pub circulant_sum : ℕ → Matrix
circulant_sum zero = circulant
circulant_sum (suc zero) = circulant
circulant_sum (suc (suc n)) = two_sum (circulant_sum (suc n)) circulant

-- each row with the number 1 negated
abbrev pub negated_rows : List (List ℤ) → List ℕ → List (List ℤ)
negated_rows [] signs = []
negated_rows (row ∷ rows) [] = row ∷ negated_rows rows []
negated_rows (row ∷ rows) (sign ∷ signs) = (if sign == 1 then map neg_ℤ row else row) ∷ negated_rows rows signs

abbrev pub generated_sum : ℕ → ℕ → Matrix
generated_sum size number =
    let m = circulant_sum size in
    record { rows = negated_rows m.rows (draws (height m) 2 0 number).0; width = m.width }

-- the matrix of this kind, size and number
abbrev pub IsGenerated : MakeKind → ℕ → ℕ → Matrix → Type 0
IsGenerated kinds.Network size number m = (height m ≡ size) × (m.width ≡ size) × Reproduces (generated_network size number) m
IsGenerated kinds.TwoSum size number m = m ≡ generated_sum size number
