-- Networks in which arcs and walks are reversed.
use Rattle.std.specs.Prelude.{◌≡◌, ◌<◌, ◌*ℤ◌, ℕ, ℤ, pos, negsuc, Bool, true, false, List, [], ◌∷◌, cond, slice_index_or}
use Rattle.std.specs.List.{AllByRecursion}
use Rattle.cmr_base.specs.declared.network.Network.{Network}
use Rattle.cmr_base.specs.declared.network.Pair.{Pair}
use Rattle.cmr_base.specs.Signing.{IsSign}

abbrev pub is_minus : ℤ → Bool
is_minus (pos n) = false
is_minus (negsuc n) = true

-- a pair of nodes, reversed if the sign is -1
abbrev pub reversed_pair : Pair → ℤ → Pair
reversed_pair pair sign = cond (is_minus sign) (record { tail = pair.head; head = pair.tail }) pair

-- each pair with its sign; pairs without a sign are unchanged
abbrev pub reversed_pairs : List Pair → List ℤ → List Pair
reversed_pairs [] signs = []
reversed_pairs (pair ∷ pairs) [] = pair ∷ reversed_pairs pairs []
reversed_pairs (pair ∷ pairs) (sign ∷ signs) = reversed_pair pair sign ∷ reversed_pairs pairs signs

-- the arcs with the signs of the rows, the walks with the signs of the columns
abbrev pub reversed_network : Network → List ℤ → List ℤ → Network
reversed_network net row_signs column_signs = record { arcs = reversed_pairs net.arcs row_signs; walks = reversed_pairs net.walks column_signs }

-- N is M with its m rows and n columns multiplied by these signs
pub record IsMultiplied (M N : ℕ → ℕ → ℤ) (m n : ℕ) (row_signs column_signs : List ℤ) : Type 0 where
  pub rows : AllByRecursion IsSign row_signs
  pub columns : AllByRecursion IsSign column_signs
  pub entries : (row column : ℕ) → row < m → column < n → N row column ≡ slice_index_or row_signs row (pos 1) *ℤ (slice_index_or column_signs column (pos 1) *ℤ M row column)
