-- Trees that grow from node 0: the places of their nodes, and when all nodes have a place.
use Rattle.std.proofs.Common.{◌≡◌, ◌≢◌, ◌<◌, ◌≤◌, ◌+◌, ◌++◌, ◌⊎◌, inl, inr, ◌∙◌, ℕ, zero, suc, Bool, true, false, cond, List, [], ◌∷◌, Option, Some, None, Result, Ok, Err, OnOk, length, map, get_or, set, refl, ap, sym, subst, arith, length-append}
use Rattle.std.proofs.lemmas.Bool.{cases_lt}
use Rattle.std.proofs.lemmas.List.{get_or-set_same, get_or-set_other, length-set, get_or_append_left, get_or-append-add, get_or-map, get_or_read, length-map}
use Rattle.cmr_base.specs.declared.network.Pair.{Pair}
use Rattle.cmr_base.specs.declared.rooted_tree.Link.{Link}
use Rattle.cmr_base.specs.declared.incidences.End.{End}
use Rattle.cmr_base.specs.declared.incidences.End.TheVariants.{Tail, Head}
use Rattle.cmr_base.specs.Members.{IsIn, IsDistinct}
use Rattle.cmr_base.specs.Incidences.{end_at, opposite_of, last_at, AreIncidences}
use Rattle.cmr_base.specs.RootedTrees.{AreEndsInRange, link_at, node_at, HasNode, Joins, IsRooted, IsLonger, AreReached, IsSpanning}
use Rattle.cmr_base.specs.Trees.{WalkStep, tail, head, to, IsWalk, IsTree}
use Rattle.cmr_base.proofs.RowLists.{same_or_not}
use Rattle.cmr_base.proofs.Members.{distinct_few}
use Rattle.cmr_base.proofs.Places.{distinct_from_apart}
use Rattle.cmr_base.proofs.ListsWithout.{place_of, place_is}
use Rattle.cmr_base.proofs.IncidenceSteps.{bound, bound_last, last_is_there, none_after_last}
use Rattle.cmr_base.proofs.TreeTests.{AreConnected, walk-then, walk-back}

pub on_ok_both : {T E P Q S : Type 0} (r : Result T E) → (P → Q → S) → OnOk r P → OnOk r Q → OnOk r S
on_ok_both (Ok x) f p q = f p q
on_ok_both (Err e) f p q = tt

-- ---- numbers of places

abbrev nodes_of : List Link → List ℕ
nodes_of links = map (λ link. link.node) links

node_in_list : (links : List Link) (place : ℕ) → place < length links → get_or (nodes_of links) place 0 ≡ node_at links place
node_in_list links place l = get_or-map (λ link. link.node) links place (record { node = 0; above = 0; arc = 0 }) 0 l

module _ (arcs : List Pair) (links : List Link) (places : List ℕ) (R : IsRooted arcs links places) where
  pub one_place : (i k : ℕ) → i < length links → k < length links → node_at links i ≡ node_at links k → i ≡ k
  one_place i k li lk e = sym (R.nodes i li).1 ∙ ap (λ (node : ℕ). get_or places node 0) e ∙ (R.nodes k lk).1

  pub place_of_node : (node : ℕ) → HasNode links node → node_at links (get_or places node 0) ≡ node
  place_of_node node (place, l, e) = ap (node_at links) (ap (λ (n : ℕ). get_or places n 0) (sym e) ∙ (R.nodes place l).1) ∙ e

  pub node_of_place : (node : ℕ) → node ≤ length arcs → node_at links (get_or places node 0) ≡ node → HasNode links node
  node_of_place node l e = (get_or places node 0, R.in_range node l, e)

  all_nodes_in_range : (x : ℕ) → IsIn x (nodes_of links) → x < suc (length arcs)
  all_nodes_in_range x h =
      let p = place_is x (nodes_of links) h in
      let l : place_of x (nodes_of links) < length links = omega (arith, p.in_range, length-map links (λ link. link.node)) in
      let low = (R.nodes (place_of x (nodes_of links)) l).0 in
      omega (arith, low, p.there, node_in_list links (place_of x (nodes_of links)) l)

  nodes_distinct : IsDistinct (nodes_of links)
  nodes_distinct = distinct_from_apart (nodes_of links) (λ i k l h e.
      let lk : k < length links = omega (arith, h, length-map links (λ link. link.node)) in
      let li : i < length links = omega (arith, l, lk) in
      let q = one_place i k li lk (sym (node_in_list links i li) ∙ e ∙ node_in_list links k lk) in
      absurd (omega (arith, l, q)))

  pub few_links : length links ≤ suc (length arcs)
  few_links = let l = distinct_few (suc (length arcs)) (nodes_of links) nodes_distinct all_nodes_in_range in omega (arith, l, length-map links (λ link. link.node))

  -- if a node has no place, there are fewer links than nodes
  pub fewer_links : (node : ℕ) → node ≤ length arcs → node_at links (get_or places node 0) ≢ node → length links ≤ length arcs
  fewer_links node l n =
      let f = distinct_few (suc (length arcs)) (node ∷ nodes_of links) (none, nodes_distinct) within in
      omega (arith, f, length-map links (λ link. link.node))
    where
      none : ¬ (IsIn node (nodes_of links))
      none h =
          let p = place_is node (nodes_of links) h in
          let l : place_of node (nodes_of links) < length links = omega (arith, p.in_range, length-map links (λ link. link.node)) in
          n (place_of_node node (place_of node (nodes_of links), l, sym (node_in_list links (place_of node (nodes_of links)) l) ∙ p.there))

      within : (x : ℕ) → (x ≡ node) ⊎ IsIn x (nodes_of links) → x < suc (length arcs)
      within x (inl e) = omega (arith, e, l)
      within x (inr h) = all_nodes_in_range x h

  pub all_have_places : length links ≡ suc (length arcs) → (node : ℕ) → node ≤ length arcs → HasNode links node
  all_have_places whole node l = go (same_or_not (node_at links (get_or places node 0)) node)
    where
      go : (node_at links (get_or places node 0) ≡ node) ⊎ (node_at links (get_or places node 0) ≢ node) → HasNode links node
      go (inl e) = node_of_place node l e
      go (inr n) = absurd (let f = fewer_links node l n in omega (arith, f, whole))

  pub as_many_as_nodes : ((node : ℕ) → node ≤ length arcs → HasNode links node) → suc (length arcs) ≤ length links
  as_many_as_nodes all = let f = distinct_few (length links) places distinct within in omega (arith, f, R.count)
    where
      distinct : IsDistinct places
      distinct = distinct_from_apart places (λ i k l h e.
          let lk : k ≤ length arcs = omega (arith, h, R.count) in
          let li : i ≤ length arcs = omega (arith, l, lk) in
          let q = sym (place_of_node i (all i li)) ∙ ap (node_at links) e ∙ place_of_node k (all k lk) in
          absurd (omega (arith, l, q)))

      within : (x : ℕ) → IsIn x places → x < length links
      within x h =
          let p = place_is x places h in
          let l = R.in_range (place_of x places) (omega (arith, p.in_range, R.count)) in
          omega (arith, l, p.there)

-- ---- growing

pub not_longer : (links : List Link) → IsLonger links links
not_longer links = record { more = omega arith; same = λ place l. refl }

pub longer_trans : (a b c : List Link) → IsLonger a b → IsLonger b c → IsLonger a c
longer_trans a b c f g = record { more = omega (arith, f.more, g.more); same = λ place l. g.same place (omega (arith, l, f.more)) ∙ f.same place l }

pub longer_has : (a b : List Link) → IsLonger a b → (node : ℕ) → HasNode a node → HasNode b node
longer_has a b f node (place, l, e) = (place, omega (arith, l, f.more), ap (λ (link : Link). link.node) (f.same place l) ∙ e)

pub longer_node : (a b : List Link) → IsLonger a b → (place : ℕ) → place < length a → node_at b place ≡ node_at a place
longer_node a b f place l = ap (λ (link : Link). link.node) (f.same place l)

-- a node is attached below the node at a place
pub hung : (arcs : List Pair) (links : List Link) (places : List ℕ) (link : Link) (links' : List Link) (places' : List ℕ) → IsRooted arcs links places
    → link.node ≤ length arcs → node_at links (get_or places link.node 0) ≢ link.node → link.above < length links → link.arc < length arcs → Joins arcs link.arc link.node (node_at links link.above)
    → links' ≡ links ++ link ∷ [] → places' ≡ set places link.node (length links) → IsRooted arcs links' places'
hung arcs links places link links' places' R low n above arc join e f =
    subst (λ (p : List ℕ). IsRooted arcs links' p) (sym f) (subst (λ (l : List Link). IsRooted arcs l (set places link.node (length links))) (sym e) (record {
      started = omega (arith, R.started, long);
      root = ap (λ (l : Link). l.node) (old 0 R.started) ∙ R.root;
      count = length-set places link.node (length links) ∙ R.count;
      in_range = λ node l. range node l (same_or_not node link.node);
      nodes = λ place l. places_right place (cases_lt place (length links)) l;
      joined = λ place lp l. joins place lp (cases_lt place (length links)) l;
    }))
  where
    long : length (links ++ link ∷ []) ≡ length links + 1
    long = length-append links (link ∷ [])

    old : (place : ℕ) → place < length links → link_at (links ++ link ∷ []) place ≡ link_at links place
    old place l = get_or_append_left links (link ∷ []) (record { node = 0; above = 0; arc = 0 }) place l

    new : (place : ℕ) → length links ≤ place → place < length (links ++ link ∷ []) → place ≡ length links
    new place l h = omega (arith, l, h, long)

    there : link_at (links ++ link ∷ []) (length links) ≡ link
    there = ap (λ (k : ℕ). link_at (links ++ link ∷ []) k) (plain (length links)) ∙ get_or-append-add links (link ∷ []) 0 (record { node = 0; above = 0; arc = 0 })
      where
        plain : (k : ℕ) → k ≡ k + 0
        plain k = omega arith

    other_node : (place : ℕ) → place < length links → node_at links place ≢ link.node
    other_node place l q = n (place_of_node arcs links places R link.node (place, l, q))

    range : (node : ℕ) → node ≤ length arcs → (node ≡ link.node) ⊎ (node ≢ link.node) → get_or (set places link.node (length links)) node 0 < length (links ++ link ∷ [])
    range node l (inl q) =
        let s = ap (λ (k : ℕ). get_or (set places link.node (length links)) k 0) q ∙ get_or-set_same places link.node (length links) 0 (omega (arith, low, R.count)) in
        omega (arith, s, long)
    range node l (inr q) =
        let s = get_or-set_other places link.node node (length links) 0 q in
        let r = R.in_range node l in
        omega (arith, s, r, long)

    places_right : (place : ℕ) → (place < length links) ⊎ (length links ≤ place) → place < length (links ++ link ∷ [])
        → (node_at (links ++ link ∷ []) place ≤ length arcs) × (get_or (set places link.node (length links)) (node_at (links ++ link ∷ []) place) 0 ≡ place)
    places_right place (inl l) h =
        let same = ap (λ (k : Link). k.node) (old place l) in
        let q = R.nodes place l in (
          omega (arith, same, q.0),
          ap (λ (k : ℕ). get_or (set places link.node (length links)) k 0) same ∙ get_or-set_other places link.node (node_at links place) (length links) 0 (other_node place l) ∙ q.1,
        )
    places_right place (inr l) h =
        let last = new place l h in
        let same : node_at (links ++ link ∷ []) place ≡ link.node = ap (λ (k : ℕ). node_at (links ++ link ∷ []) k) last ∙ ap (λ (k : Link). k.node) there in (
          omega (arith, same, low),
          ap (λ (k : ℕ). get_or (set places link.node (length links)) k 0) same ∙ get_or-set_same places link.node (length links) 0 (omega (arith, low, R.count)) ∙ sym last,
        )

    joins : (place : ℕ) → 0 < place → (place < length links) ⊎ (length links ≤ place) → place < length (links ++ link ∷ [])
        → ((link_at (links ++ link ∷ []) place).above < place) × ((link_at (links ++ link ∷ []) place).arc < length arcs)
        × Joins arcs (link_at (links ++ link ∷ []) place).arc (node_at (links ++ link ∷ []) place) (node_at (links ++ link ∷ []) (link_at (links ++ link ∷ []) place).above)
    joins place lp (inl l) h =
        let q = R.joined place lp l in
        let up = old (link_at links place).above (omega (arith, q.0, l)) in
        subst (λ (k : Link). (k.above < place) × (k.arc < length arcs) × Joins arcs k.arc k.node (node_at (links ++ link ∷ []) k.above)) (sym (old place l))
        (q.0, q.1, subst (Joins arcs (link_at links place).arc (node_at links place)) (sym (ap (λ (k : Link). k.node) up)) q.2)
    joins place lp (inr l) h =
        let last = new place l h in
        let up = old link.above above in
        subst (λ (k : Link). (k.above < place) × (k.arc < length arcs) × Joins arcs k.arc k.node (node_at (links ++ link ∷ []) k.above)) (sym (ap (link_at (links ++ link ∷ [])) last ∙ there))
        (omega (arith, above, last), arc, subst (Joins arcs link.arc link.node) (sym (ap (λ (k : Link). k.node) up)) join)

pub end_in_range : (arcs : List Pair) (m : ℕ) (end : End) (arc : ℕ) → AreEndsInRange arcs m → arc < length arcs → end_at arcs end arc ≤ m
end_in_range arcs m Tail arc r l = (r arc l).0
end_in_range arcs m Head arc r l = (r arc l).1

pub joins_ends : (arcs : List Pair) (end : End) (arc node above : ℕ) → end_at arcs end arc ≡ node → end_at arcs (opposite_of end) arc ≡ above → Joins arcs arc node above
joins_ends arcs Tail arc node above e f = inl (e, f)
joins_ends arcs Head arc node above e f = inr (f, e)

pub last_node : (links : List Link) (link : Link) (links' : List Link) → links' ≡ links ++ link ∷ [] → HasNode links' link.node
last_node links link links' e = subst (λ (l : List Link). HasNode l link.node) (sym e) (
  length links + 0,
  omega (arith, length-append links (link ∷ [])),
  ap (λ (l : Link). l.node) (get_or-append-add links (link ∷ []) 0 (record { node = 0; above = 0; arc = 0 })),
)

-- ---- the neighbours of a node

-- The tree has grown from `start`, and the arcs at a node with numbers above the arc `next` have been processed.
pub record IsReaching (arcs : List Pair) (end : End) (place : ℕ) (start links : List Link) (places : List ℕ) (next : Option ℕ) : Type 0 where
  pub rooted : IsRooted arcs links places
  pub longer : IsLonger start links
  pub here : (arc : ℕ) → next ≡ Some arc → (arc < length arcs) × (end_at arcs end arc ≡ node_at start place)
  pub done : (arc : ℕ) → arc < length arcs → end_at arcs end arc ≡ node_at start place → bound next ≤ arc → HasNode links (end_at arcs (opposite_of end) arc)

pub reaching_starts : (arcs : List Pair) (end : End) (place : ℕ) (links : List Link) (places : List ℕ) (last previous : List (Option ℕ)) (link : Link) (next : Option ℕ)
    → IsRooted arcs links places → AreIncidences arcs end (suc (length arcs)) last previous → place < length links → link ≡ get_or links place link → next ≡ get_or last link.node next
    → IsReaching arcs end place links links places next
reaching_starts arcs end place links places last previous link next R I l at e = record {
  rooted = R;
  longer = not_longer links;
  here = λ arc q. last_is_there arcs end (node_at links place) (length arcs) arc (sym at_last ∙ q);
  done = λ arc h q b. absurd (none_after_last arcs end (node_at links place) (length arcs) arc (subst (λ (o : Option ℕ). bound o ≤ arc) at_last b) h q);
}
  where
    same : link.node ≡ node_at links place
    same = ap (λ (k : Link). k.node) (get_or_read links place link l at (record { node = 0; above = 0; arc = 0 }))

    inside : node_at links place < suc (length arcs)
    inside = let low = (R.nodes place l).0 in omega (arith, low)

    at_last : next ≡ last_at arcs end (node_at links place) (length arcs)
    at_last =
        get_or_read last link.node next (omega (arith, inside, same, I.nodes_count)) e None
        ∙ ap (λ (node : ℕ). get_or last node None) same ∙ I.last_arc (node_at links place) inside

pub reaching_goes_on : (arcs : List Pair) (end : End) (place : ℕ) (start links : List Link) (places : List ℕ) (last previous : List (Option ℕ)) (next : Option ℕ) (arc : ℕ)
    (links' : List Link) (places' : List ℕ) (next' : Option ℕ) → IsReaching arcs end place start links places next → AreIncidences arcs end (suc (length arcs)) last previous
    → next ≡ Some arc → IsRooted arcs links' places' → IsLonger links links' → HasNode links' (end_at arcs (opposite_of end) arc) → next' ≡ get_or previous arc next'
    → IsReaching arcs end place start links' places' next'
reaching_goes_on arcs end place start links places last previous next arc links' places' next' r I is R longer there e = record {
  rooted = R;
  longer = longer_trans start links links' r.longer longer;
  here = λ x q. let w = last_is_there arcs end (node_at start place) arc x (sym at_previous ∙ q) in (omega (arith, w.0, here.0), w.1);
  done = λ x h q b. go x h q b (cases_lt x arc) (same_or_not x arc);
}
  where
    here : (arc < length arcs) × (end_at arcs end arc ≡ node_at start place)
    here = r.here arc is

    at_previous : next' ≡ last_at arcs end (node_at start place) arc
    at_previous = get_or_read previous arc next' (omega (arith, here.0, I.arcs_count)) e None ∙ I.previous_arc arc here.0 ∙ ap (λ (node : ℕ). last_at arcs end node arc) here.1

    go : (x : ℕ) → x < length arcs → end_at arcs end x ≡ node_at start place → bound next' ≤ x → (x < arc) ⊎ (arc ≤ x) → (x ≡ arc) ⊎ (x ≢ arc) → HasNode links' (end_at arcs (opposite_of end) x)
    go x h q b (inl l) k = absurd (none_after_last arcs end (node_at start place) arc x (subst (λ (o : Option ℕ). bound o ≤ x) at_previous b) l q)
    go x h q b (inr l) (inl k) = subst (λ (y : ℕ). HasNode links' (end_at arcs (opposite_of end) y)) (sym k) there
    go x h q b (inr l) (inr k) = longer_has links links' longer (end_at arcs (opposite_of end) x) (r.done x h q (subst (λ (o : Option ℕ). bound o ≤ x) (sym is) (omega (arith, l, k))))

pub reaching_smaller : (arcs : List Pair) (end : End) (last previous : List (Option ℕ)) (next : Option ℕ) (arc : ℕ) (next' : Option ℕ) → AreIncidences arcs end (suc (length arcs)) last previous
    → next ≡ Some arc → arc < length arcs → next' ≡ get_or previous arc next' → bound next' < bound next
reaching_smaller arcs end last previous next arc next' I is l e =
    let at_previous = get_or_read previous arc next' (omega (arith, l, I.arcs_count)) e None ∙ I.previous_arc arc l in
    let low = bound_last arcs end (end_at arcs end arc) arc in
    omega (arith, ap bound is, ap bound at_previous, low)

-- ---- all places

-- the neighbours of the nodes at the places before one are reached
pub record IsWalked (arcs : List Pair) (place : ℕ) (links : List Link) (places : List ℕ) : Type 0 where
  pub rooted : IsRooted arcs links places
  pub few : place ≤ length links
  pub reached : (k : ℕ) → k < place → (end : End) → AreReached arcs links end (node_at links k)

pub walked_on : (arcs : List Pair) (place : ℕ) (links links' links'' : List Link) (places places'' : List ℕ) → IsWalked arcs place links places → place < length links
    → IsLonger links links' → IsLonger links' links'' → AreReached arcs links' Tail (node_at links place) → AreReached arcs links'' Head (node_at links' place) → IsRooted arcs links'' places''
    → IsWalked arcs (place + 1) links'' places''
walked_on arcs place links links' links'' places places'' w l f g first second R = record {
  rooted = R;
  few = omega (arith, l, f.more, g.more);
  reached = λ k h end. go k (cases_lt k place) h end;
}
  where
    both : IsLonger links links''
    both = longer_trans links links' links'' f g

    kept : (k : ℕ) (end : End) → k < length links → AreReached arcs links end (node_at links k) → AreReached arcs links'' end (node_at links'' k)
    kept k end h r arc in_list q = longer_has links links'' both (end_at arcs (opposite_of end) arc) (r arc in_list (q ∙ longer_node links links'' both k h))

    here : (end : End) → AreReached arcs links'' end (node_at links'' place)
    here Tail arc h q = longer_has links' links'' g (end_at arcs Head arc) (first arc h (q ∙ longer_node links links'' both place l))
    here Head arc h q = second arc h (q ∙ longer_node links' links'' g place (omega (arith, l, f.more)))

    go : (k : ℕ) → (k < place) ⊎ (place ≤ k) → k < place + 1 → (end : End) → AreReached arcs links'' end (node_at links'' k)
    go k (inl m) h end = kept k end (omega (arith, m, l)) (w.reached k m end)
    go k (inr m) h end = let e : place ≡ k = omega (arith, m, h) in subst (λ (n : ℕ). AreReached arcs links'' end (node_at links'' n)) e (here end)

-- if no neighbour is missing, each walk from a node that has a place ends in a node that has a place
walk_stays : (arcs : List Pair) (links : List Link) (places : List ℕ) → IsWalked arcs (length links) links places → (x : ℕ) (steps : List WalkStep) (y : ℕ)
    → IsWalk arcs x steps y → HasNode links x → HasNode links y
walk_stays arcs links places w x [] y walk h = subst (HasNode links) walk h
walk_stays arcs links places w x (step ∷ steps) y walk (place, l, e) =
    walk_stays arcs links places w (to arcs step) steps y walk.2 (over step.forwards (walk.1 ∙ sym e))
  where
    over : (d : Bool) → cond d (tail arcs step.arc) (head arcs step.arc) ≡ node_at links place → HasNode links (cond d (head arcs step.arc) (tail arcs step.arc))
    over true q = w.reached place l Tail step.arc walk.0 q
    over false q = w.reached place l Head step.arc walk.0 q

pub no_tree : (arcs : List Pair) (m place : ℕ) (links : List Link) (places : List ℕ) → length arcs ≡ m → IsWalked arcs place links places → place ≡ length links → place < suc m → ¬ (IsTree arcs m)
no_tree arcs m place links places count walked last few T =
    let w = subst (λ (k : ℕ). IsWalked arcs k links places) last walked in
    let all = as_many_as_nodes arcs links places w.rooted (λ node l.
    let walk = T.linked 0 node (omega arith) (omega (arith, l, count)) in
    walk_stays arcs links places w 0 walk.0 node walk.1 (0, w.rooted.started, w.rooted.root)) in
    omega (arith, all, few, last, count)

-- ---- a whole tree

-- a step between the ends of an arc
pub joined_step : (arcs : List Pair) (arc x y : ℕ) → arc < length arcs → Joins arcs arc x y → AreConnected arcs x y
joined_step arcs arc x y l (inl (t, h)) = (record { arc = arc; forwards = true } ∷ [], (l, t, h))
joined_step arcs arc x y l (inr (t, h)) = (record { arc = arc; forwards = false } ∷ [], (l, h, t))

to_root : (arcs : List Pair) (links : List Link) (places : List ℕ) → IsRooted arcs links places → (n place : ℕ) → place < n → place < length links → AreConnected arcs (node_at links place) 0
to_root arcs links places R zero place l h = absurd (omega (arith, l))
to_root arcs links places R (suc n) zero l h = ([], R.root)
to_root arcs links places R (suc n) (suc place) l h =
    let j = R.joined (suc place) (omega arith) h in
    let first = joined_step arcs (link_at links (suc place)).arc (node_at links (suc place)) (node_at links (link_at links (suc place)).above) j.1 j.2 in
    walk-then arcs (node_at links (suc place)) (node_at links (link_at links (suc place)).above) 0 first.0 first.1
    (to_root arcs links places R n (link_at links (suc place)).above (omega (arith, j.0, l)) (omega (arith, j.0, h)))

pub whole_tree : (arcs : List Pair) (m : ℕ) (links : List Link) (places : List ℕ) → length arcs ≡ m → AreEndsInRange arcs m → IsRooted arcs links places
    → suc m ≤ length links → IsTree arcs m × IsSpanning arcs links places
whole_tree arcs m links places count ends R many = (record { count = count; nodes = λ row l. ends row (omega (arith, l, count)); linked = linked }, record { rooted = R; whole = whole })
  where
    whole : length links ≡ suc (length arcs)
    whole = let f = few_links arcs links places R in omega (arith, f, many, count)

    root_of : (x : ℕ) → x ≤ m → AreConnected arcs x 0
    root_of x l =
        let place = all_have_places arcs links places R whole x (omega (arith, l, count)) in
        subst (λ (node : ℕ). AreConnected arcs node 0) place.2 (to_root arcs links places R (suc place.0) place.0 (omega arith) place.1)

    linked : (x y : ℕ) → x ≤ m → y ≤ m → AreConnected arcs x y
    linked x y lx ly =
        let first = root_of x lx in
        let second = root_of y ly in
        walk-then arcs x 0 y first.0 first.1 (walk-back arcs y 0 second.0 second.1)
