-- One more row of the tree that grows.
use Rattle.std.proofs.Common.{◌≡◌, ◌≢◌, ◌<◌, ◌+◌, ◌∙◌, ◌⊎◌, inl, inr, ℕ, zero, suc, ℤ, pos, negsuc, ◌+ℤ◌, ◌*ℤ◌, Bool, true, false, nat_eq, if◌then◌else◌, List, [], ◌∷◌, length, set, Option, Some, None, refl, ap, sym, subst, arith, of_z, w8}
use mathlib.Core.Bool.{not, beq}
use Rattle.std.proofs.lemmas.List.{get_or-set_same, get_or-set_other}
use Rattle.cmr_base.specs.Signing.{IsSign}
use Rattle.cmr_base.proofs.Booleans.{two_cases, eq_of, ne_of, same_or_not}
use Rattle.sparse_matrix.specs.declared.nonzero.Nonzero.{Nonzero}
use Rattle.sparse_matrix.specs.SparseRows.{SparseRows}
use Rattle.split_search.specs.declared.forest.Node.{Node}
use Rattle.split_search.specs.declared.forest.Edge.{Edge}
use Rattle.split_search.specs.RowForests.{row_node, node_sign, HasEnds, IsBelow, IsHung, IsRowForest, JoinsRoots, OpenAt, AreNumberedBelow, IsForestClosed, Grows, KeepsReached, ReachesOnly, unreached}

pub some_none : {A B : Type 0} {x : Option A} {a : A} → x ≡ Some a → x ≡ None → B
some_none e f = absurd (none (sym e ∙ f))
  where
    none : {A : Type 0} {a : A} → ◌≡◌ {A = Option A} (Some a) None → ⊥
    none e = cc

pub some_same : {A : Type 0} {x : Option A} {a b : A} → x ≡ Some a → x ≡ Some b → a ≡ b
some_same e f = cc

swap_ends : (t : SparseRows) (column : ℕ) (x y : Nonzero) → HasEnds t column x y → HasEnds t column y x
swap_ends t column x y (inl e) = inr e
swap_ends t column x y (inr e) = inl e

module _ (t : SparseRows) (nodes : List (Option Node)) (parent new : Node) (column : ℕ) (from to : Nonzero)
    (ends : HasEnds t column from to) (there : row_node nodes from.line ≡ Some parent) (free : row_node nodes to.line ≡ None) (inside : to.line < length nodes)
    (count : ℕ) (root_is : parent.root ≡ new.root) (number_is : new.number ≡ count) (above_is : new.above ≡ Some (record { column = column; row = from.line }))
    (cancel : (node_sign new *ℤ to.value) +ℤ (node_sign parent *ℤ from.value) ≡ pos 0) (grows : Grows t nodes parent.root count) where
  abbrev later : List (Option Node)
  later = set nodes to.line (Some new)

  at_new : row_node later to.line ≡ Some new
  at_new = get_or-set_same nodes to.line (Some new) None inside

  at_other : (row : ℕ) → row ≢ to.line → row_node later row ≡ row_node nodes row
  at_other row n = get_or-set_other nodes to.line row (Some new) None n

  kept : (row : ℕ) (n : Node) → row_node nodes row ≡ Some n → row_node later row ≡ Some n
  kept row n e = at_other row (λ f. some_none e (ap (row_node nodes) f ∙ free)) ∙ e

  -- a reached row is the new row, or it was reached before
  was : (row : ℕ) (n : Node) → row_node later row ≡ Some n → ((row ≡ to.line) × (n ≡ new)) ⊎ ((row ≢ to.line) × (row_node nodes row ≡ Some n))
  was row n e = elim (two_cases (nat_eq row to.line)) [
    | inl t ↦ let same_row = eq_of row to.line t in inl (same_row, some_same (sym (ap (row_node later) same_row) ∙ e) at_new)
    | inr t ↦ let other_row = ne_of row to.line t in inr (other_row, sym (at_other row other_row) ∙ e)
  ]

  hung_later : (row : ℕ) (n : Node) (above : Option Edge) → IsHung t nodes row n above → IsHung t later row n above
  hung_later row n None h = h
  hung_later row n (Some e) h = record {
    here = h.here;
    there = h.there;
    ends = h.ends;
    parent = h.parent;
    reached = kept e.row h.parent h.reached;
    root = h.root;
    number = h.number;
    cancel = h.cancel;
  }

  hung_new : IsBelow t later to.line new (record { column = column; row = from.line })
  hung_new = record {
    here = to.value;
    there = from.value;
    ends = swap_ends t column from to ends;
    parent = parent;
    reached = kept from.line parent there;
    root = root_is;
    number = subst (λ (n : ℕ). parent.number < n) (sym number_is) (grows.numbered from.line parent there);
    cancel = cancel;
  }

  forest_later : IsRowForest t later
  forest_later row n e = elim (was row n e) [
    | inl h ↦ subst (λ (r : ℕ). IsHung t later r n n.above) (sym h.0) (subst (λ (k : Node). IsHung t later to.line k k.above) (sym h.1) (subst (IsHung t later to.line new) (sym above_is) hung_new))
    | inr h ↦ hung_later row n n.above (grows.forest row n h.1)
  ]

  joins_later : JoinsRoots t later
  joins_later c x y n p h e f = go (was x.line n e) (was y.line p f)
    where
      go : ((x.line ≡ to.line) × (n ≡ new)) ⊎ ((x.line ≢ to.line) × (row_node nodes x.line ≡ Some n))
          → ((y.line ≡ to.line) × (p ≡ new)) ⊎ ((y.line ≢ to.line) × (row_node nodes y.line ≡ Some p)) → n.root ≡ p.root
      go (inl a) (inl b) = ap (λ (k : Node). k.root) (a.1 ∙ sym b.1)
      go (inl a) (inr b) = ap (λ (k : Node). k.root) a.1 ∙ sym root_is ∙ sym (grows.free c y x p (swap_ends t c x y h) b.1 (ap (row_node nodes) a.0 ∙ free))
      go (inr a) (inl b) = grows.free c x y n h a.1 (ap (row_node nodes) b.0 ∙ free) ∙ root_is ∙ sym (ap (λ (k : Node). k.root) b.1)
      go (inr a) (inr b) = grows.joins c x y n p h a.1 b.1

  free_later : OpenAt t later parent.root
  free_later c x y n h e f = go (was x.line n e)
    where
      not_new : y.line ≢ to.line
      not_new g = some_none (ap (row_node later) g ∙ at_new) f

      go : ((x.line ≡ to.line) × (n ≡ new)) ⊎ ((x.line ≢ to.line) × (row_node nodes x.line ≡ Some n)) → n.root ≡ parent.root
      go (inl a) = ap (λ (k : Node). k.root) a.1 ∙ sym root_is
      go (inr a) = grows.free c x y n h a.1 (sym (at_other y.line not_new) ∙ f)

  numbered_later : AreNumberedBelow later (count + 1)
  numbered_later row n e = elim (was row n e) [
    | inl h ↦ let same_number = ap (λ (k : Node). k.number) h.1 ∙ number_is in omega (arith, same_number)
    | inr h ↦ let number_below = grows.numbered row n h.1 in omega (arith, number_below)
  ]

  grows_later : Grows t later parent.root (count + 1)
  grows_later = record { forest = forest_later; joins = joins_later; free = free_later; numbered = numbered_later }

-- the parent is in the tree that grows
pub attached : (t : SparseRows) (nodes : List (Option Node)) (parent new : Node) (column : ℕ) (from to : Nonzero) (root count : ℕ)
    → HasEnds t column from to → row_node nodes from.line ≡ Some parent → row_node nodes to.line ≡ None → to.line < length nodes
    → parent.root ≡ new.root → new.number ≡ count → new.above ≡ Some (record { column = column; row = from.line })
    → (node_sign new *ℤ to.value) +ℤ (node_sign parent *ℤ from.value) ≡ pos 0 → Grows t nodes root count → Grows t (set nodes to.line (Some new)) root (count + 1)
attached t nodes parent new column from to root count ends there free inside root_is number_is above_is cancel grows =
    let same : parent.root ≡ root = grows.free column from to parent ends there free in
    subst (λ (r : ℕ). Grows t (set nodes to.line (Some new)) r (count + 1)) same
    (grows_later t nodes parent new column from to ends there free inside count root_is number_is above_is cancel (subst (λ (r : ℕ). Grows t nodes r count) (sym same) grows))

-- ---- a new root

module _ (t : SparseRows) (nodes : List (Option Node)) (root count : ℕ) (new : Node) (free : row_node nodes root ≡ None) (inside : root < length nodes)
    (root_is : new.root ≡ root) (number_is : new.number ≡ count) (above_is : new.above ≡ None)
    (forest : IsRowForest t nodes) (joins : JoinsRoots t nodes) (numbered : AreNumberedBelow nodes count) (closed : IsForestClosed t nodes) where
  abbrev with_root : List (Option Node)
  with_root = set nodes root (Some new)

  root_new : row_node with_root root ≡ Some new
  root_new = get_or-set_same nodes root (Some new) None inside

  root_other : (row : ℕ) → row ≢ root → row_node with_root row ≡ row_node nodes row
  root_other row n = get_or-set_other nodes root row (Some new) None n

  root_was : (row : ℕ) (n : Node) → row_node with_root row ≡ Some n → ((row ≡ root) × (n ≡ new)) ⊎ ((row ≢ root) × (row_node nodes row ≡ Some n))
  root_was row n e = elim (two_cases (nat_eq row root)) [
    | inl t ↦ let same_row = eq_of row root t in inl (same_row, some_same (sym (ap (row_node with_root) same_row) ∙ e) root_new)
    | inr t ↦ let other_row = ne_of row root t in inr (other_row, sym (root_other row other_row) ∙ e)
  ]

  hung_rooted : (row : ℕ) (n : Node) (above : Option Edge) → IsHung t nodes row n above → IsHung t with_root row n above
  hung_rooted row n None h = h
  hung_rooted row n (Some e) h = record {
    here = h.here;
    there = h.there;
    ends = h.ends;
    parent = h.parent;
    reached = root_other e.row (λ f. some_none h.reached (ap (row_node nodes) f ∙ free)) ∙ h.reached;
    root = h.root;
    number = h.number;
    cancel = h.cancel;
  }

  forest_rooted : IsRowForest t with_root
  forest_rooted row n e = elim (root_was row n e) [
    | inl h ↦ subst (λ (r : ℕ). IsHung t with_root r n n.above) (sym h.0) (subst (λ (k : Node). IsHung t with_root root k k.above) (sym h.1) (subst (IsHung t with_root root new) (sym above_is) root_is))
    | inr h ↦ hung_rooted row n n.above (forest row n h.1)
  ]

  joins_rooted : JoinsRoots t with_root
  joins_rooted c x y n p h e f = go (root_was x.line n e) (root_was y.line p f)
    where
      go : ((x.line ≡ root) × (n ≡ new)) ⊎ ((x.line ≢ root) × (row_node nodes x.line ≡ Some n))
          → ((y.line ≡ root) × (p ≡ new)) ⊎ ((y.line ≢ root) × (row_node nodes y.line ≡ Some p)) → n.root ≡ p.root
      go (inl a) (inl b) = ap (λ (k : Node). k.root) (a.1 ∙ sym b.1)
      go (inl a) (inr b) = absurd (closed c y x p (swap_ends t c x y h) b.1 (ap (row_node nodes) a.0 ∙ free))
      go (inr a) (inl b) = absurd (closed c x y n h a.1 (ap (row_node nodes) b.0 ∙ free))
      go (inr a) (inr b) = joins c x y n p h a.1 b.1

  free_rooted : OpenAt t with_root root
  free_rooted c x y n h e f = go (root_was x.line n e)
    where
      not_new : y.line ≢ root
      not_new g = some_none (ap (row_node with_root) g ∙ root_new) f

      go : ((x.line ≡ root) × (n ≡ new)) ⊎ ((x.line ≢ root) × (row_node nodes x.line ≡ Some n)) → n.root ≡ root
      go (inl a) = ap (λ (k : Node). k.root) a.1 ∙ root_is
      go (inr a) = absurd (closed c x y n h a.1 (sym (root_other y.line not_new) ∙ f))

  numbered_rooted : AreNumberedBelow with_root (count + 1)
  numbered_rooted row n e = elim (root_was row n e) [
    | inl h ↦ let same_number = ap (λ (k : Node). k.number) h.1 ∙ number_is in omega (arith, same_number)
    | inr h ↦ let number_below = numbered row n h.1 in omega (arith, number_below)
  ]

  pub grows_rooted : Grows t with_root root (count + 1)
  grows_rooted = record { forest = forest_rooted; joins = joins_rooted; free = free_rooted; numbered = numbered_rooted }

-- the sign of the new row
pub attach_cancels : (m : Bool) (a b : ℤ) → IsSign a → IsSign b
    → ((if not (beq m (nat_eq (of_z w8 a) (of_z w8 b))) then negsuc 0 else pos 1) *ℤ b) +ℤ ((if m then negsuc 0 else pos 1) *ℤ a) ≡ pos 0
attach_cancels true a b (inl e) (inl f) = rw (e, f) refl
attach_cancels true a b (inl e) (inr f) = rw (e, f) refl
attach_cancels true a b (inr e) (inl f) = rw (e, f) refl
attach_cancels true a b (inr e) (inr f) = rw (e, f) refl
attach_cancels false a b (inl e) (inl f) = rw (e, f) refl
attach_cancels false a b (inl e) (inr f) = rw (e, f) refl
attach_cancels false a b (inr e) (inl f) = rw (e, f) refl
attach_cancels false a b (inr e) (inr f) = rw (e, f) refl

-- ---- one more row that is reached

pub reached-set : (nodes : List (Option Node)) (new : ℕ) (n : Node) → new < length nodes → row_node (set nodes new (Some n)) new ≢ None
reached-set nodes new n inside e = some_none (get_or-set_same nodes new (Some n) None inside) e

pub only-set : (nodes : List (Option Node)) (new : ℕ) (n : Node) → ReachesOnly nodes (set nodes new (Some n)) new
only-set nodes new n row h = elim (same_or_not row new) [
  | inl e ↦ inl e
  | inr f ↦ inr (λ z. h (get_or-set_other nodes new row (Some n) None f ∙ z))
]

pub kept-set : (nodes : List (Option Node)) (new : ℕ) (n : Node) → KeepsReached nodes (set nodes new (Some n))
kept-set [] new n row h e = h e
kept-set (p ∷ nodes) zero n zero h e = some_none refl e
kept-set (p ∷ nodes) zero n (suc row) h e = h e
kept-set (p ∷ nodes) (suc new) n zero h e = h e
kept-set (p ∷ nodes) (suc new) n (suc row) h e = kept-set nodes new n row h e

pub unreached-set : (nodes : List (Option Node)) (row : ℕ) (n : Node) → row < length nodes → row_node nodes row ≡ None → unreached (set nodes row (Some n)) + 1 ≡ unreached nodes
unreached-set [] row n l e = absurd (omega arith)
unreached-set (None ∷ nodes) zero n l e = omega arith
unreached-set (Some p ∷ nodes) zero n l e = some_none refl e
unreached-set (None ∷ nodes) (suc row) n l e = let one_fewer = unreached-set nodes row n (omega arith) e in omega (arith, one_fewer)
unreached-set (Some p ∷ nodes) (suc row) n l e = unreached-set nodes row n (omega arith) e
