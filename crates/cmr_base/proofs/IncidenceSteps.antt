-- The arcs at each node, added one after another, and traversed from the last.
use Rattle.std.proofs.Common.{◌≡◌, ◌≢◌, ◌<◌, ◌≤◌, ◌+◌, ◌++◌, ◌⊎◌, inl, inr, ◌∙◌, ℕ, zero, suc, Bool, true, false, cond, nat_eq, List, [], ◌∷◌, Option, Some, None, length, get_or, set, refl, ap, sym, subst, arith, length-append}
use Rattle.std.proofs.lemmas.Bool.{cases_lt}
use Rattle.std.proofs.lemmas.List.{get_or-set_same, get_or-set_other, length-set, get_or_append_left, get_or-append-add, get_or_read}
use Rattle.cmr_base.specs.declared.network.Pair.{Pair}
use Rattle.cmr_base.specs.declared.incidences.End.{End}
use Rattle.cmr_base.specs.Incidences.{end_at, last_at}
use Rattle.cmr_base.proofs.RowLists.{same_or_not, self_eq, is_ne, eq_of, ne_of}

-- the arcs below a number are added
pub record AreTaken (arcs : List Pair) (end : End) (nodes number : ℕ) (last previous : List (Option ℕ)) : Type 0 where
  pub nodes_count : length last ≡ nodes
  pub arcs_count : length previous ≡ number
  pub last_arc : (node : ℕ) → node < nodes → get_or last node None ≡ last_at arcs end node number
  pub previous_arc : (arc : ℕ) → arc < number → get_or previous arc None ≡ last_at arcs end (end_at arcs end arc) arc

pub node_inside : (arcs : List Pair) (end : End) (nodes number node : ℕ) (last previous : List (Option ℕ)) → AreTaken arcs end nodes number last previous
    → ((arc : ℕ) → arc < length arcs → end_at arcs end arc < nodes) → number < length arcs → node ≡ end_at arcs end number → node < length last
node_inside arcs end nodes number node last previous taken inside l e = omega (arith, inside number l, e, taken.nodes_count)

pub one_taken : (arcs : List Pair) (end : End) (nodes number node : ℕ) (found : Option ℕ) (last previous last' previous' : List (Option ℕ)) → AreTaken arcs end nodes number last previous
    → node ≡ end_at arcs end number → end_at arcs end number < nodes → found ≡ get_or last node found → previous' ≡ previous ++ found ∷ [] → last' ≡ set last node (Some number)
    → AreTaken arcs end nodes (number + 1) last' previous'
one_taken arcs end nodes number node found last previous last' previous' taken is end_inside found_is p l = record {
  nodes_count = ap length l ∙ length-set last node (Some number) ∙ taken.nodes_count;
  arcs_count = ap length p ∙ length-append previous (found ∷ []) ∙ more (length previous) number taken.arcs_count;
  last_arc = λ x h. ap (λ (xs : List (Option ℕ)). get_or xs x None) l ∙ at_node x h (same_or_not x node) ∙ sym (one_more x);
  previous_arc = λ x h. ap (λ (xs : List (Option ℕ)). get_or xs x None) p ∙ at_arc x (cases_lt x number) h;
}
  where
    inside : node < nodes
    inside = omega (arith, is, end_inside)

    more : (a b : ℕ) → a ≡ b → a + 1 ≡ b + 1
    more a b e = omega arith

    one_more : (x : ℕ) → last_at arcs end x (number + 1) ≡ cond (nat_eq (end_at arcs end number) x) (Some number) (last_at arcs end x number)
    one_more x = ap (λ (n : ℕ). last_at arcs end x n) (plain number)
      where
        plain : (n : ℕ) → n + 1 ≡ suc n
        plain n = omega arith

    at_node : (x : ℕ) → x < nodes → (x ≡ node) ⊎ (x ≢ node) → get_or (set last node (Some number)) x None ≡ cond (nat_eq (end_at arcs end number) x) (Some number) (last_at arcs end x number)
    at_node x h (inl e) =
        ap (λ (y : ℕ). get_or (set last node (Some number)) y None) e
        ∙ get_or-set_same last node (Some number) None (omega (arith, inside, taken.nodes_count))
        ∙ sym (ap (λ (t : Bool). cond t (Some number) (last_at arcs end x number)) (ap (λ (y : ℕ). nat_eq y x) (sym is ∙ sym e) ∙ self_eq x))
    at_node x h (inr n) =
        get_or-set_other last node x (Some number) None n
        ∙ taken.last_arc x h
        ∙ sym (ap (λ (t : Bool). cond t (Some number) (last_at arcs end x number)) (is_ne (end_at arcs end number) x (λ e. n (sym (is ∙ e)))))

    at_arc : (x : ℕ) → (x < number) ⊎ (number ≤ x) → x < number + 1 → get_or (previous ++ found ∷ []) x None ≡ last_at arcs end (end_at arcs end x) x
    at_arc x (inl h) _ = get_or_append_left previous (found ∷ []) None x (omega (arith, h, taken.arcs_count)) ∙ taken.previous_arc x h
    at_arc x (inr h) l =
        let e : x ≡ number = omega (arith, h, l) in
        let here : length previous + 0 ≡ x = omega (arith, taken.arcs_count, e) in
        ap (λ (n : ℕ). get_or (previous ++ found ∷ []) n None) (sym here)
        ∙ get_or-append-add previous (found ∷ []) 0 None
        ∙ get_or_read last node found (omega (arith, inside, taken.nodes_count)) found_is None ∙ taken.last_arc node inside
        ∙ subst (λ (n : ℕ). last_at arcs end node number ≡ last_at arcs end (end_at arcs end n) n) (sym e) (ap (λ (v : ℕ). last_at arcs end v number) is)

-- one more than the arc, or 0
abbrev pub bound : Option ℕ → ℕ
bound None = 0
bound (Some arc) = suc arc

module _ (arcs : List Pair) (end : End) (node : ℕ) where
  -- the last arc at a node has its end at this node
  pub last_is_there : (number arc : ℕ) → last_at arcs end node number ≡ Some arc → (arc < number) × (end_at arcs end arc ≡ node)
  last_is_there zero arc e = absurd (no_none e)
    where
      no_none : None ≡ Some arc → ⊥
      no_none e = cc
  last_is_there (suc number) arc e = go (nat_eq (end_at arcs end number) node) refl e (last_is_there number arc)
    where
      item : Some number ≡ Some arc → number ≡ arc
      item e = ap (λ (o : Option ℕ). pick o) e
        where
          pick : Option ℕ → ℕ
          pick None = number
          pick (Some n) = n

      go : (t : Bool) → nat_eq (end_at arcs end number) node ≡ t → cond t (Some number) (last_at arcs end node number) ≡ Some arc
          → (last_at arcs end node number ≡ Some arc → (arc < number) × (end_at arcs end arc ≡ node)) → (arc < suc number) × (end_at arcs end arc ≡ node)
      go true f e k = let q = item e in (omega (arith, q), ap (end_at arcs end) (sym q) ∙ eq_of (end_at arcs end number) node f)
      go false f e k = let w = k e in (omega (arith, w.0), w.1)

  -- no arc after it has its end at this node
  pub none_after_last : (number arc : ℕ) → bound (last_at arcs end node number) ≤ arc → arc < number → end_at arcs end arc ≢ node
  none_after_last zero arc b l e = absurd (omega (arith, l))
  none_after_last (suc number) arc b l e = go (nat_eq (end_at arcs end number) node) refl b (cases_lt arc number) (none_after_last number arc)
    where
      go : (t : Bool) → nat_eq (end_at arcs end number) node ≡ t → bound (cond t (Some number) (last_at arcs end node number)) ≤ arc → (arc < number) ⊎ (number ≤ arc)
          → (bound (last_at arcs end node number) ≤ arc → arc < number → end_at arcs end arc ≢ node) → ⊥
      go true f b m k = absurd (omega (arith, b, l))
      go false f b (inl m) k = k b m e
      go false f b (inr m) k = let q : number ≡ arc = omega (arith, m, l) in ne_of (end_at arcs end number) node f (ap (end_at arcs end) q ∙ e)

  pub bound_last : (number : ℕ) → bound (last_at arcs end node number) ≤ number
  bound_last zero = omega arith
  bound_last (suc number) = go (nat_eq (end_at arcs end number) node) (bound_last number)
    where
      go : (t : Bool) → bound (last_at arcs end node number) ≤ number → bound (cond t (Some number) (last_at arcs end node number)) ≤ suc number
      go true k = omega arith
      go false k = omega (arith, k)
