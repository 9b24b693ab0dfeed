-- Trees whose arcs are the rows of a matrix, and the matrices of paths in them: graphic matrices and network matrices.
use Rattle.std.specs.Prelude.{◌≡◌, ◌<◌, ◌≤◌, ◌↔◌, ℕ, ℤ, pos, negsuc, ◌⊎◌, Bool, true, List, [], ◌∷◌, cond, nat_eq, length, slice_index_or}
use Rattle.cmr_base.specs.declared.network.Network.{Network}
use Rattle.cmr_base.specs.declared.network.Pair.{Pair}
use Rattle.cmr_base.specs.Matrix.{Matrix, height, entry, is_nonzero, transposed}
use Rattle.cmr_base.specs.Members.{IsIn, IsDistinct}

-- a step over an arc, forwards, from its tail to its head, or backwards
pub record WalkStep : Type 0 where
  pub arc : ℕ
  pub forwards : Bool

module _ (arcs : List Pair) where
  abbrev pub tail : ℕ → ℕ
  tail row = (slice_index_or arcs row (record { tail = 0; head = 0 })).tail

  abbrev pub head : ℕ → ℕ
  head row = (slice_index_or arcs row (record { tail = 0; head = 0 })).head

  abbrev pub from : WalkStep → ℕ
  from step = cond step.forwards (tail step.arc) (head step.arc)

  abbrev pub to : WalkStep → ℕ
  to step = cond step.forwards (head step.arc) (tail step.arc)

  -- the steps lead from node x to node y, one after another
  abbrev pub IsWalk : ℕ → List WalkStep → ℕ → Type 0
  IsWalk x [] y = x ≡ y
  IsWalk x (step ∷ steps) y = (step.arc < length arcs) × (from step ≡ x) × IsWalk (to step) steps y

  -- m arcs on the nodes 0 to m, any two of which are linked
  pub record IsTree (m : ℕ) : Type 0 where
    pub count : length arcs ≡ m
    pub nodes : (row : ℕ) → row < m → (tail row ≤ m) × (head row ≤ m)
    pub linked : (x y : ℕ) → x ≤ m → y ≤ m → (steps : List WalkStep) × IsWalk x steps y

abbrev pub arcs_of : List WalkStep → List ℕ
arcs_of [] = []
arcs_of (step ∷ steps) = step.arc ∷ arcs_of steps

-- the path between two nodes uses the arcs of the support of a column, and no other
pub record IsPathOf (arcs : List Pair) (m : ℕ) (support : ℕ → Bool) (first last : ℕ) : Type 0 where
  pub steps : List WalkStep
  pub walk : IsWalk arcs first steps last
  pub once : IsDistinct (arcs_of steps)
  pub exact : (row : ℕ) → row < m → (support row ≡ true) ↔ IsIn row (arcs_of steps)

-- 1 if the steps use the arc of a row forwards, -1 if they use it backwards, and 0 if they do not use it
abbrev pub direction : List WalkStep → ℕ → ℤ
direction [] row = pos 0
direction (step ∷ steps) row = cond (nat_eq row step.arc) (cond step.forwards (pos 1) (negsuc 0)) (direction steps row)

-- the path from the first node to the last uses each arc as the column's entry says
pub record IsDirectedPathOf (arcs : List Pair) (m : ℕ) (column : ℕ → ℤ) (first last : ℕ) : Type 0 where
  pub steps : List WalkStep
  pub walk : IsWalk arcs first steps last
  pub once : IsDistinct (arcs_of steps)
  pub exact : (row : ℕ) → row < m → column row ≡ direction steps row

-- a tree of m arcs, and n walks between its nodes
pub record IsNetworkOf (net : Network) (m n : ℕ) : Type 0 where
  pub tree : IsTree net.arcs m
  pub count : length net.walks ≡ n
  pub nodes : (column : ℕ) → column < n → (tail net.walks column ≤ m) × (head net.walks column ≤ m)

-- a network for m rows and n columns: the path of each walk uses the arcs of its column's support, which is given by M
pub record RealisesSupport (net : Network) (M : ℕ → ℕ → Bool) (m n : ℕ) : Type 0 where
  pub network : IsNetworkOf net m n
  pub paths : (column : ℕ) → column < n → IsPathOf net.arcs m (λ row. M row column) (tail net.walks column) (head net.walks column)

-- the same with directions
pub record Realises (net : Network) (M : ℕ → ℕ → ℤ) (m n : ℕ) : Type 0 where
  pub network : IsNetworkOf net m n
  pub paths : (column : ℕ) → column < n → IsDirectedPathOf net.arcs m (λ row. M row column) (tail net.walks column) (head net.walks column)

-- the positions of the nonzeros
abbrev pub support : Matrix → ℕ → ℕ → Bool
support m row column = is_nonzero (entry m row column)

-- each entry is 0 or 1
abbrev pub IsBinary : Matrix → Type 0
IsBinary m = (row column : ℕ) → (entry m row column ≡ pos 0) ⊎ (entry m row column ≡ pos 1)

abbrev pub ReproducesSupport : Network → Matrix → Type 0
ReproducesSupport net m = RealisesSupport net (support m) (height m) m.width

abbrev pub Reproduces : Network → Matrix → Type 0
Reproduces net m = Realises net (entry m) (height m) m.width

-- the supports of the columns are the paths of a tree
abbrev pub HasGraphicSupport : Matrix → Type 0
HasGraphicSupport m = (net : Network) × ReproducesSupport net m

abbrev pub IsGraphic : Matrix → Type 0
IsGraphic m = IsBinary m × HasGraphicSupport m

abbrev pub IsNetworkMatrix : Matrix → Type 0
IsNetworkMatrix m = (net : Network) × Reproduces net m

abbrev pub IsConetworkMatrix : Matrix → Type 0
IsConetworkMatrix m = IsNetworkMatrix (transposed m)
