-- The path between two nodes of a rooted tree: from both ends up to the node in which they meet.
use Rattle.std.proofs.Common.{◌≡◌, ◌≢◌, ◌<◌, ◌≤◌, ◌++◌, ◌⊎◌, inl, inr, ◌∙◌, ℕ, ℤ, pos, negsuc, Bool, true, false, not, cond, nat_eq, List, [], ◌∷◌, length, get_or, set, replicate, to_z, of_z, w8, refl, ap, sym, subst, arith}
use Rattle.std.proofs.lemmas.List.{get_or-set_same, get_or-set_other, length-set, get_or_read, get_or-replicate, length-replicate}
use Rattle.cmr_base.specs.declared.network.Pair.{Pair}
use Rattle.cmr_base.specs.declared.rooted_tree.Link.{Link}
use Rattle.cmr_base.specs.Members.{IsIn, IsDistinct}
use Rattle.cmr_base.specs.RootedTrees.{link_at, node_at, Joins, IsRooted, IsSpanning}
use Rattle.cmr_base.specs.Trees.{WalkStep, tail, from, to, IsWalk, arcs_of, direction, IsDirectedPathOf}
use Rattle.cmr_base.proofs.RowLists.{same_or_not, is_eq, is_ne}
use Rattle.cmr_base.proofs.RootedTreeSteps.{one_place, place_of_node, all_have_places}

-- ---- a step between two parts of a walk

in-between : (r : ℕ) (prefix back : List WalkStep) (step : WalkStep) → IsIn r (arcs_of (prefix ++ step ∷ back)) → (r ≡ step.arc) ⊎ IsIn r (arcs_of (prefix ++ back))
in-between r [] back step h = h
in-between r (x ∷ prefix) back step (inl e) = inr (inl e)
in-between r (x ∷ prefix) back step (inr h) = go (in-between r prefix back step h)
  where
    go : (r ≡ step.arc) ⊎ IsIn r (arcs_of (prefix ++ back)) → (r ≡ step.arc) ⊎ ((r ≡ x.arc) ⊎ IsIn r (arcs_of (prefix ++ back)))
    go (inl e) = inl e
    go (inr k) = inr (inr k)

distinct-between : (prefix back : List WalkStep) (step : WalkStep) → IsDistinct (arcs_of (prefix ++ back)) → ¬ (IsIn step.arc (arcs_of (prefix ++ back)))
    → IsDistinct (arcs_of (prefix ++ step ∷ back))
distinct-between [] back step o n = (n, o)
distinct-between (x ∷ prefix) back step o n = ((λ h. go (in-between x.arc prefix back step h)), distinct-between prefix back step o.1 (λ h. n (inr h)))
  where
    go : (x.arc ≡ step.arc) ⊎ IsIn x.arc (arcs_of (prefix ++ back)) → ⊥
    go (inl e) = n (inl (sym e))
    go (inr k) = o.0 k

direction-between : (r : ℕ) (prefix back : List WalkStep) (step : WalkStep) → ¬ (IsIn step.arc (arcs_of (prefix ++ back)))
    → direction (prefix ++ step ∷ back) r ≡ cond (nat_eq r step.arc) (cond step.forwards (pos 1) (negsuc 0)) (direction (prefix ++ back) r)
direction-between r [] back step n = refl
direction-between r (x ∷ prefix) back step n = go (same_or_not r x.arc) (direction-between r prefix back step (λ h. n (inr h)))
  where
    go : (r ≡ x.arc) ⊎ (r ≢ x.arc) → direction (prefix ++ step ∷ back) r ≡ cond (nat_eq r step.arc) (cond step.forwards (pos 1) (negsuc 0)) (direction (prefix ++ back) r)
        → direction (x ∷ prefix ++ step ∷ back) r ≡ cond (nat_eq r step.arc) (cond step.forwards (pos 1) (negsuc 0)) (direction (x ∷ prefix ++ back) r)
    go (inl e) k = rw (is_eq r x.arc e, is_ne r step.arc (λ q. n (inl (sym q ∙ e)))) refl
    go (inr m) k = rw (is_ne r x.arc m) k

module _ (arcs : List Pair) where
  walk-prefix : (x : ℕ) (prefix : List WalkStep) (y : ℕ) (step : WalkStep) (z : ℕ) → IsWalk arcs x prefix y → step.arc < length arcs → from arcs step ≡ y
      → to arcs step ≡ z → IsWalk arcs x (prefix ++ step ∷ []) z
  walk-prefix x [] y step z w l e f = (l, e ∙ sym w, f)
  walk-prefix x (a ∷ prefix) y step z w l e f = (w.0, w.1, walk-prefix (to arcs a) prefix y step z w.2 l e f)

  walk-both : (x : ℕ) (prefix back : List WalkStep) (y z : ℕ) → IsWalk arcs x prefix y → IsWalk arcs y back z → IsWalk arcs x (prefix ++ back) z
  walk-both x [] back y z w v = subst (λ (a : ℕ). IsWalk arcs a back z) (sym w) v
  walk-both x (a ∷ prefix) back y z w v = (w.0, w.1, walk-both (to arcs a) prefix back y z w.2 v)

  -- a step over the arc from a node to the node above it, and the step back
  step_up : (arc x y : ℕ) → Joins arcs arc x y → x ≢ y
      → (from arcs (record { arc = arc; forwards = nat_eq x (tail arcs arc) }) ≡ x) × (to arcs (record { arc = arc; forwards = nat_eq x (tail arcs arc) }) ≡ y)
  step_up arc x y (inl (t, h)) n = rw (is_eq x (tail arcs arc) (sym t)) (t, h)
  step_up arc x y (inr (t, h)) n = rw (is_ne x (tail arcs arc) (λ e. n (e ∙ t))) (h, t)

  step_down : (arc x y : ℕ) → Joins arcs arc x y → x ≢ y
      → (from arcs (record { arc = arc; forwards = not (nat_eq x (tail arcs arc)) }) ≡ y) × (to arcs (record { arc = arc; forwards = not (nat_eq x (tail arcs arc)) }) ≡ x)
  step_down arc x y (inl (t, h)) n = rw (is_eq x (tail arcs arc) (sym t)) (h, t)
  step_down arc x y (inr (t, h)) n = rw (is_ne x (tail arcs arc) (λ e. n (e ∙ t))) (t, h)

-- ---- arcs of different places

module _ (arcs : List Pair) (links : List Link) (places : List ℕ) (R : IsRooted arcs links places) where
  above_other : (place : ℕ) → 0 < place → place < length links → node_at links place ≢ node_at links (link_at links place).above
  above_other place low l e =
      let j = R.joined place low l in
      let q = one_place arcs links places R place (link_at links place).above l (omega (arith, j.0, l)) e in
      omega (arith, j.0, q)

  -- the arc to a later place is not the arc to an earlier place
  other_arc : (i k : ℕ) → 0 < i → i < k → k < length links → (link_at links i).arc ≢ (link_at links k).arc
  other_arc i k low l h e =
      go (R.joined i low (omega (arith, l, h))).2
      (subst (λ (arc : ℕ). Joins arcs arc (node_at links k) (node_at links (link_at links k).above)) (sym e) (R.joined k (omega (arith, l)) h).2)
    where
      earlier : (j : ℕ) → j < k → node_at links k ≢ node_at links j
      earlier j l q = let p = one_place arcs links places R k j h (omega (arith, l, h)) q in omega (arith, p, l)

      up : (link_at links i).above < k
      up = let j = R.joined i low (omega (arith, l, h)) in omega (arith, j.0, l)

      go : Joins arcs (link_at links i).arc (node_at links i) (node_at links (link_at links i).above) → Joins arcs (link_at links i).arc (node_at links k) (node_at links (link_at links k).above) → ⊥
      go (inl (t, h)) (inl (t', h')) = earlier i l (sym t' ∙ t)
      go (inl (t, h)) (inr (t', h')) = earlier (link_at links i).above up (sym h' ∙ h)
      go (inr (t, h)) (inl (t', h')) = earlier (link_at links i).above up (sym t' ∙ t)
      go (inr (t, h)) (inr (t', h')) = earlier i l (sym h' ∙ h)

-- a direction as a byte
pub direction_byte : (b : Bool) (z : ℤ) → z ≡ cond b (pos 1) (negsuc 0) → to_z w8 (of_z w8 z) ≡ cond b (pos 1) (negsuc 0)
direction_byte true z e = ap (λ (v : ℤ). to_z w8 (of_z w8 v)) e
direction_byte false z e = ap (λ (v : ℤ). to_z w8 (of_z w8 v)) e

-- Both ends of the path from node x to node y are known: from x to the node at the place `first`, and from the node at the place
-- `last` to y. Their arcs lead to later places.
pub record IsClimbing (arcs : List Pair) (links : List Link) (x y first last : ℕ) (directions : List ℤ) : Type 0 where
  pub prefix : List WalkStep
  pub back : List WalkStep
  pub first_in : first < length links
  pub last_in : last < length links
  pub up : IsWalk arcs x prefix (node_at links first)
  pub down : IsWalk arcs (node_at links last) back y
  pub once : IsDistinct (arcs_of (prefix ++ back))
  pub later : (r : ℕ) → IsIn r (arcs_of (prefix ++ back)) → (place : ℕ) × (place < length links) × (first < place) × (last < place) × ((link_at links place).arc ≡ r)
  pub count : length directions ≡ length arcs
  pub exact : (r : ℕ) → r < length arcs → get_or directions r (pos 0) ≡ direction (prefix ++ back) r

pub climbing_starts : (arcs : List Pair) (links : List Link) (places : List ℕ) (x y first last : ℕ) (directions : List ℤ) → IsSpanning arcs links places → x ≤ length arcs → y ≤ length arcs
    → first ≡ get_or places x first → last ≡ get_or places y last → directions ≡ replicate (length arcs) (pos 0) → IsClimbing arcs links x y first last directions
climbing_starts arcs links places x y first last directions H lx ly e f zeros = record {
  prefix = [];
  back = [];
  first_in = let r = H.rooted.in_range x lx in omega (arith, r, at_first);
  last_in = let r = H.rooted.in_range y ly in omega (arith, r, at_last);
  up = sym (node_is x lx first at_first);
  down = node_is y ly last at_last;
  once = tt;
  later = λ r h. absurd h;
  count = ap length zeros ∙ length-replicate (length arcs) (pos 0);
  exact = λ r l. ap (λ (d : List ℤ). get_or d r (pos 0)) zeros ∙ get_or-replicate (length arcs) r (pos 0) (pos 0) l;
}
  where
    at_first : first ≡ get_or places x 0
    at_first = get_or_read places x first (omega (arith, lx, H.rooted.count)) e 0

    at_last : last ≡ get_or places y 0
    at_last = get_or_read places y last (omega (arith, ly, H.rooted.count)) f 0

    node_is : (node : ℕ) → node ≤ length arcs → (place : ℕ) → place ≡ get_or places node 0 → node_at links place ≡ node
    node_is node l place q = ap (node_at links) q
        ∙ place_of_node arcs links places H.rooted node (all_have_places arcs links places H.rooted H.whole node l)

module _ (arcs : List Pair) (links : List Link) (places : List ℕ) (R : IsRooted arcs links places) (x y first last : ℕ) (directions : List ℤ) (C : IsClimbing arcs links x y first last directions) where
  -- the arc to a place that is not before the first and the last is unused
  not_used : (place : ℕ) → 0 < place → first ≤ place → last ≤ place → (first ≡ place) ⊎ (last ≡ place) → ¬ (IsIn (link_at links place).arc (arcs_of (C.prefix ++ C.back)))
  not_used place low lf ll either h =
      let k = C.later (link_at links place).arc h in
      other_arc arcs links places R place k.0 low (before k.0 k.2 k.3 either) k.1 (sym k.4)
    where
      before : (k : ℕ) → first < k → last < k → (first ≡ place) ⊎ (last ≡ place) → place < k
      before k a b (inl e) = omega (arith, a, e)
      before k a b (inr e) = omega (arith, b, e)

  written : (step : WalkStep) → step.arc < length arcs → ¬ (IsIn step.arc (arcs_of (C.prefix ++ C.back))) → (r : ℕ) → r < length arcs
      → get_or (set directions step.arc (cond step.forwards (pos 1) (negsuc 0))) r (pos 0) ≡ direction (C.prefix ++ step ∷ C.back) r
  written step inside n r l = go (same_or_not r step.arc) ∙ sym (direction-between r C.prefix C.back step n)
    where
      go : (r ≡ step.arc) ⊎ (r ≢ step.arc) → get_or (set directions step.arc (cond step.forwards (pos 1) (negsuc 0))) r (pos 0)
          ≡ cond (nat_eq r step.arc) (cond step.forwards (pos 1) (negsuc 0)) (direction (C.prefix ++ C.back) r)
      go (inl e) = rw (is_eq r step.arc e) (ap (λ (k : ℕ). get_or (set directions step.arc (cond step.forwards (pos 1) (negsuc 0))) k (pos 0)) e
          ∙ get_or-set_same directions step.arc (cond step.forwards (pos 1) (negsuc 0)) (pos 0) (omega (arith, inside, C.count)))
      go (inr m) = rw (is_ne r step.arc m) (get_or-set_other directions step.arc r (cond step.forwards (pos 1) (negsuc 0)) (pos 0) m ∙ C.exact r l)

  -- the first end climbs
  pub first_climbs : (link : Link) (value : ℤ) (directions' : List ℤ) → last < first → link ≡ get_or links first link
      → value ≡ cond (nat_eq link.node (tail arcs link.arc)) (pos 1) (negsuc 0) → directions' ≡ set directions link.arc value → IsClimbing arcs links x y link.above last directions'
  first_climbs link value directions' l at value_is written_is =
      subst (λ (k : Link). IsClimbing arcs links x y k.above last directions') (sym link_is) (subst (IsClimbing arcs links x y (link_at links first).above last) (sym new) (record {
        prefix = C.prefix ++ step ∷ [];
        back = C.back;
        first_in = omega (arith, j.0, C.first_in);
        last_in = C.last_in;
        up = walk-prefix arcs x C.prefix (node_at links first) step (node_at links (link_at links first).above) C.up j.1 ends.0 ends.1;
        down = C.down;
        once = subst (λ (s : List WalkStep). IsDistinct (arcs_of s)) seam (distinct-between C.prefix C.back step C.once unused);
        later = λ r h. later r (in-between r C.prefix C.back step (subst (λ (s : List WalkStep). IsIn r (arcs_of s)) (sym seam) h));
        count = length-set directions step.arc (cond step.forwards (pos 1) (negsuc 0)) ∙ C.count;
        exact = λ r h. written step j.1 unused r h ∙ ap (λ (s : List WalkStep). direction s r) seam;
      }))
    where
      low : 0 < first
      low = omega (arith, l)

      link_is : link ≡ link_at links first
      link_is = get_or_read links first link C.first_in at (record { node = 0; above = 0; arc = 0 })

      j : ((link_at links first).above < first) × ((link_at links first).arc < length arcs) × Joins arcs (link_at links first).arc (node_at links first) (node_at links (link_at links first).above)
      j = R.joined first low C.first_in

      step : WalkStep
      step = record { arc = (link_at links first).arc; forwards = nat_eq (node_at links first) (tail arcs (link_at links first).arc) }

      ends : (from arcs step ≡ node_at links first) × (to arcs step ≡ node_at links (link_at links first).above)
      ends = step_up arcs (link_at links first).arc (node_at links first) (node_at links (link_at links first).above) j.2 (above_other arcs links places R first low C.first_in)

      new : directions' ≡ set directions step.arc (cond step.forwards (pos 1) (negsuc 0))
      new = written_is ∙ ap (set directions link.arc) value_is ∙ ap (λ (k : Link). set directions k.arc (cond (nat_eq k.node (tail arcs k.arc)) (pos 1) (negsuc 0))) link_is

      unused : ¬ (IsIn step.arc (arcs_of (C.prefix ++ C.back)))
      unused = not_used first low (omega arith) (omega (arith, l)) (inl refl)

      seam : C.prefix ++ step ∷ C.back ≡ (C.prefix ++ step ∷ []) ++ C.back
      seam = seam_of C.prefix
        where
          seam_of : (steps : List WalkStep) → steps ++ step ∷ C.back ≡ (steps ++ step ∷ []) ++ C.back
          seam_of [] = refl
          seam_of (s ∷ steps) = ap (λ (rest : List WalkStep). s ∷ rest) (seam_of steps)

      later : (r : ℕ) → (r ≡ step.arc) ⊎ IsIn r (arcs_of (C.prefix ++ C.back))
          → (place : ℕ) × (place < length links) × ((link_at links first).above < place) × (last < place) × ((link_at links place).arc ≡ r)
      later r (inl e) = (first, C.first_in, j.0, l, sym e)
      later r (inr h) = let k = C.later r h in (k.0, k.1, omega (arith, k.2, j.0), k.3, k.4)

  -- the last end climbs
  pub last_climbs : (link : Link) (value : ℤ) (directions' : List ℤ) → first < last → link ≡ get_or links last link
      → value ≡ cond (not (nat_eq link.node (tail arcs link.arc))) (pos 1) (negsuc 0) → directions' ≡ set directions link.arc value → IsClimbing arcs links x y first link.above directions'
  last_climbs link value directions' l at value_is written_is =
      subst (λ (k : Link). IsClimbing arcs links x y first k.above directions') (sym link_is) (subst (IsClimbing arcs links x y first (link_at links last).above) (sym new) (record {
        prefix = C.prefix;
        back = step ∷ C.back;
        first_in = C.first_in;
        last_in = omega (arith, j.0, C.last_in);
        up = C.up;
        down = (j.1, ends.0, subst (λ (node : ℕ). IsWalk arcs node C.back y) (sym ends.1) C.down);
        once = distinct-between C.prefix C.back step C.once unused;
        later = λ r h. later r (in-between r C.prefix C.back step h);
        count = length-set directions step.arc (cond step.forwards (pos 1) (negsuc 0)) ∙ C.count;
        exact = λ r h. written step j.1 unused r h;
      }))
    where
      low : 0 < last
      low = omega (arith, l)

      link_is : link ≡ link_at links last
      link_is = get_or_read links last link C.last_in at (record { node = 0; above = 0; arc = 0 })

      j : ((link_at links last).above < last) × ((link_at links last).arc < length arcs) × Joins arcs (link_at links last).arc (node_at links last) (node_at links (link_at links last).above)
      j = R.joined last low C.last_in

      step : WalkStep
      step = record { arc = (link_at links last).arc; forwards = not (nat_eq (node_at links last) (tail arcs (link_at links last).arc)) }

      ends : (from arcs step ≡ node_at links (link_at links last).above) × (to arcs step ≡ node_at links last)
      ends = step_down arcs (link_at links last).arc (node_at links last) (node_at links (link_at links last).above) j.2 (above_other arcs links places R last low C.last_in)

      new : directions' ≡ set directions step.arc (cond step.forwards (pos 1) (negsuc 0))
      new = written_is ∙ ap (set directions link.arc) value_is ∙ ap (λ (k : Link). set directions k.arc (cond (not (nat_eq k.node (tail arcs k.arc))) (pos 1) (negsuc 0))) link_is

      unused : ¬ (IsIn step.arc (arcs_of (C.prefix ++ C.back)))
      unused = not_used last low (omega (arith, l)) (omega arith) (inr refl)

      later : (r : ℕ) → (r ≡ step.arc) ⊎ IsIn r (arcs_of (C.prefix ++ C.back))
          → (place : ℕ) × (place < length links) × (first < place) × ((link_at links last).above < place) × ((link_at links place).arc ≡ r)
      later r (inl e) = (last, C.last_in, l, j.0, sym e)
      later r (inr h) = let k = C.later r h in (k.0, k.1, k.2, omega (arith, k.3, j.0), k.4)

  pub climbing_ends : first ≡ last → IsDirectedPathOf arcs (length arcs) (λ r. get_or directions r (pos 0)) x y
  climbing_ends e = record {
    steps = C.prefix ++ C.back;
    walk = walk-both arcs x C.prefix C.back (node_at links first) y C.up (subst (λ (place : ℕ). IsWalk arcs (node_at links place) C.back y) (sym e) C.down);
    once = C.once;
    exact = C.exact;
  }
