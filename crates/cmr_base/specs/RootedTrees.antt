-- Trees with their nodes in an order that begins with node 0, in which each other node has an arc to an earlier one.
use Rattle.std.specs.Prelude.{◌≡◌, ◌<◌, ◌≤◌, ◌⊎◌, ℕ, suc, List, length, slice_index_or}
use Rattle.cmr_base.specs.declared.network.Pair.{Pair}
use Rattle.cmr_base.specs.declared.rooted_tree.Link.{Link}
use Rattle.cmr_base.specs.declared.incidences.End.{End}
use Rattle.cmr_base.specs.Incidences.{end_at, opposite_of}
use Rattle.cmr_base.specs.Trees.{tail, head}

-- all ends are among the nodes 0 to m
abbrev pub AreEndsInRange : List Pair → ℕ → Type 0
AreEndsInRange arcs m = (arc : ℕ) → arc < length arcs → (tail arcs arc ≤ m) × (head arcs arc ≤ m)

module _ (links : List Link) where
  abbrev pub link_at : ℕ → Link
  link_at place = slice_index_or links place (record { node = 0; above = 0; arc = 0 })

  abbrev pub node_at : ℕ → ℕ
  node_at place = (link_at place).node

  -- a place contains the node
  abbrev pub HasNode : ℕ → Type 0
  HasNode node = (place : ℕ) × (place < length links) × (node_at place ≡ node)

-- the arc has these two ends
abbrev pub Joins : List Pair → ℕ → ℕ → ℕ → Type 0
Joins arcs arc x y = ((tail arcs arc ≡ x) × (head arcs arc ≡ y)) ⊎ ((tail arcs arc ≡ y) × (head arcs arc ≡ x))

-- a part of a rooted tree that contains node 0, and the place of each of its nodes
pub record IsRooted (arcs : List Pair) (links : List Link) (places : List ℕ) : Type 0 where
  pub started : 0 < length links
  pub root : node_at links 0 ≡ 0
  pub count : length places ≡ suc (length arcs)
  pub in_range : (node : ℕ) → node ≤ length arcs → slice_index_or places node 0 < length links
  pub nodes : (place : ℕ) → place < length links → (node_at links place ≤ length arcs) × (slice_index_or places (node_at links place) 0 ≡ place)
  pub joined : (place : ℕ) → 0 < place → place < length links
      → ((link_at links place).above < place) × ((link_at links place).arc < length arcs) × Joins arcs (link_at links place).arc (node_at links place) (node_at links (link_at links place).above)

-- nodes were appended
pub record IsLonger (old new : List Link) : Type 0 where
  pub more : length old ≤ length new
  pub same : (place : ℕ) → place < length old → link_at new place ≡ link_at old place

-- the arcs with this end at a node lead to nodes that have a place
abbrev pub AreReached : List Pair → List Link → End → ℕ → Type 0
AreReached arcs links end node = (arc : ℕ) → arc < length arcs → end_at arcs end arc ≡ node → HasNode links (end_at arcs (opposite_of end) arc)

-- all nodes have a place
pub record IsSpanning (arcs : List Pair) (links : List Link) (places : List ℕ) : Type 0 where
  pub rooted : IsRooted arcs links places
  pub whole : length links ≡ suc (length arcs)
