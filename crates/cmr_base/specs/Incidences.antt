-- The arcs that have an end at a node, from the last to the first.
use Rattle.std.specs.Prelude.{◌≡◌, ◌<◌, ℕ, zero, suc, List, Option, Some, None, cond, nat_eq, length, slice_index_or}
use Rattle.cmr_base.specs.declared.network.Pair.{Pair}
use Rattle.cmr_base.specs.declared.incidences.End.{End}
use Rattle.cmr_base.specs.declared.incidences.End.TheVariants.{Tail, Head}

abbrev pub end_of : End → Pair → ℕ
end_of Tail arc = arc.tail
end_of Head arc = arc.head

abbrev pub opposite_of : End → End
opposite_of Tail = Head
opposite_of Head = Tail

module _ (arcs : List Pair) where
  -- the node at an end of an arc
  abbrev pub end_at : End → ℕ → ℕ
  end_at end arc = end_of end (slice_index_or arcs arc (record { tail = 0; head = 0 }))

  -- the last arc below a number that has this end at a node
  abbrev pub last_at : End → ℕ → ℕ → Option ℕ
  last_at end node zero = None
  last_at end node (suc arc) = cond (nat_eq (end_at end arc) node) (Some arc) (last_at end node arc)

  pub record AreIncidences (end : End) (nodes : ℕ) (last previous : List (Option ℕ)) : Type 0 where
    pub nodes_count : length last ≡ nodes
    pub arcs_count : length previous ≡ length arcs
    pub last_arc : (node : ℕ) → node < nodes → slice_index_or last node None ≡ last_at end node (length arcs)
    pub previous_arc : (arc : ℕ) → arc < length arcs → slice_index_or previous arc None ≡ last_at end (end_at end arc) arc
