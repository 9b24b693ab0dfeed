-- The tree and the walks that given sides define: arcs are attached one after another, each to the node that the sides determine.
use Rattle.std.specs.Prelude.{◌≡◌, ◌≢◌, ℕ, suc, Bool, true, false, List, [], ◌∷◌, cond, map, nat_eq, length}
use Rattle.cmr_base.specs.declared.network.Pair.{Pair}
use Rattle.cmr_base.specs.Cuts.{differ}
use Rattle.cmr_base.specs.LineSets.{first_lines}
use Rattle.cmr_base.specs.Members.{IsIn}

-- the arc of a row, which is attached to a node
pub record HungArc : Type 0 where
  pub row : ℕ
  pub node : ℕ

-- A list of attached arcs begins with the last one. The tree begins with node 0, and the k-th arc leads from the node to which it
-- is attached to the new node k. `node_of` is the node that lies beyond exactly the arcs of a set.
abbrev pub node_of : List HungArc → (ℕ → Bool) → ℕ
node_of [] is_in = 0
node_of (arc ∷ arcs) is_in = cond (is_in arc.row) (suc (length arcs)) (node_of arcs is_in)

-- rows are distinct, and no arc lies beyond the arc of an earlier row of the list
abbrev pub IsOrdered : (ℕ → ℕ → Bool) → List ℕ → Type 0
IsOrdered beyond [] = Unit {0}
IsOrdered beyond (row ∷ rows) = ((other : ℕ) → IsIn other rows → (row ≢ other) × (beyond row other ≡ false)) × IsOrdered beyond rows

-- the arcs of the rows of a list; `beyond r s` is true if and only if arc s lies beyond arc r
abbrev pub grown : (ℕ → ℕ → Bool) → List ℕ → List HungArc
grown beyond [] = []
grown beyond (row ∷ rows) =
    let arcs = grown beyond rows in
    record { row = row; node = node_of arcs (λ r. beyond r row) } ∷ arcs

-- the ends of the arc of a row: the node to which it is attached, and its new node
abbrev pub pair_of : List HungArc → ℕ → Pair
pair_of [] row = record { tail = 0; head = 0 }
pair_of (arc ∷ arcs) row = cond (nat_eq row arc.row) (record { tail = arc.node; head = suc (length arcs) }) (pair_of arcs row)

-- the same pair if the test is true, reversed otherwise
abbrev pub reversed_unless : Bool → Pair → Pair
reversed_unless as_it_is pair = cond as_it_is pair (record { tail = pair.head; head = pair.tail })

-- the first end of column 0 is at node 0
module _ (side : ℕ → ℕ → Bool) (lies : Bool → ℕ → ℕ → Bool) where
  abbrev pub beyond : ℕ → ℕ → Bool
  beyond r s = differ (lies true r 0) (side r s)

  -- the arcs beyond which an end of a column lies
  abbrev pub place : Bool → ℕ → ℕ → Bool
  place end column r = differ (lies true r 0) (lies end r column)

  -- the arcs of the first m rows in their order, grown in the order of a list of them
  abbrev pub arcs_by : List ℕ → ℕ → List Pair
  arcs_by order m = map (λ r. reversed_unless (lies true r 0) (pair_of (grown beyond order) r)) (first_lines m)

  -- the walks of the first n columns
  abbrev pub walks_by : List ℕ → ℕ → List Pair
  walks_by order n =
      let arcs = grown beyond order in
      map (λ column. record { tail = node_of arcs (place true column); head = node_of arcs (place false column) }) (first_lines n)
