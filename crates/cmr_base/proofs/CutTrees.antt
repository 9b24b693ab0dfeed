-- From cuts to a tree: the arcs and walks of given sides reproduce the matrix.
use Rattle.std.proofs.Common.{ℤ, ◌-ℤ◌, ℕ, suc, Bool, true, false, cond, List, [], ◌∷◌, ◌≡◌, ◌≢◌, ◌<◌, ◌≤◌, ◌∙◌, sym, ap, ap₂, refl, arith, subst, ◌⊎◌, inl, inr, nat_eq, length, slice_index_or}
use Rattle.std.proofs.lemmas.List.FromFn.{length-range_with_len, length-map-range_with_len, get_or-map-range_with_len}
use Rattle.cmr_base.specs.declared.network.Pair.{Pair}
use Rattle.cmr_base.specs.Members.{IsIn, IsDistinct}
use Rattle.cmr_base.specs.LineSets.{first_lines}
use Rattle.cmr_base.specs.Cuts.{differ, bit, IsCuts}
use Rattle.cmr_base.specs.GrownTrees.{IsOrdered, HungArc, node_of, grown, pair_of, reversed_unless, beyond, place, arcs_by, walks_by}
use Rattle.cmr_base.specs.Trees.{tail, head, IsTree, IsPathOf, IsDirectedPathOf, IsNetworkOf, RealisesSupport, Realises}
use Rattle.cmr_base.proofs.RowLists.{is_ne, self_eq}
pub use Rattle.cmr_base.proofs.RowLists.{differ_self}
use Rattle.cmr_base.proofs.RemovedLines.{in_first_lines, first_lines_in}
use Rattle.cmr_base.proofs.IncreasingLists.{increases-range}
use Rattle.cmr_base.proofs.Members.{increasing_are_distinct}
use Rattle.cmr_base.proofs.GrownNodes.{beyond_in, node_of_in_range, rows_of, rows-grown, length-grown, IsOrderOf, beyond_in-node_of, has_order}
use Rattle.cmr_base.proofs.GrownPaths.{AreLaid, HasPath, grown_path}

-- each arc is attached to a node of the earlier arcs, and no row occurs twice
AreHung : List HungArc → Type 0
AreHung [] = Unit {0}
AreHung (a ∷ t) = (a.node ≤ length t) × (¬ (IsIn a.row (rows_of t))) × AreHung t

-- f returns the ends of each arc
GivesEnds : (ℕ → Pair) → List HungArc → Type 0
GivesEnds f [] = Unit {0}
GivesEnds f (a ∷ t) = (f a.row ≡ record { tail = a.node; head = suc (length t) }) × GivesEnds f t

ends_same : (f g : ℕ → Pair) (t : List HungArc) → ((r : ℕ) → IsIn r (rows_of t) → g r ≡ f r) → GivesEnds f t → GivesEnds g t
unfolding GivesEnds
ends_same f g [] h k = tt
ends_same f g (a ∷ t) h k = (h a.row (inl refl) ∙ k.0, ends_same f g t (λ r m. h r (inr m)) k.1)

ends-pair_of : (t : List HungArc) → AreHung t → GivesEnds (pair_of t) t
unfolding GivesEnds AreHung
ends-pair_of [] d = tt
ends-pair_of (a ∷ t) d = (
  rw (self_eq a.row) refl,
  ends_same (pair_of t) (pair_of (a ∷ t)) t
      (λ r m. rw (is_ne r a.row (λ e. d.1 (subst (λ (z : ℕ). IsIn z (rows_of t)) e m))) refl) (ends-pair_of t d.2),
)

from-reversed : (b : Bool) (q : Pair) → cond b (reversed_unless b q).tail (reversed_unless b q).head ≡ q.tail
from-reversed true q = refl
from-reversed false q = refl

to-reversed : (b : Bool) (q : Pair) → cond b (reversed_unless b q).head (reversed_unless b q).tail ≡ q.head
to-reversed true q = refl
to-reversed false q = refl

are_laid : (arcs : List Pair) (t : List HungArc) (leads_away : ℕ → Bool) (f : ℕ → Pair)
    → ((r : ℕ) → IsIn r (rows_of t) → (r < length arcs) × (slice_index_or arcs r (record { tail = 0; head = 0 }) ≡ reversed_unless (leads_away r) (f r))) → GivesEnds f t → AreHung t → AreLaid arcs leads_away t
unfolding GivesEnds AreHung
are_laid arcs [] leads_away f h g d = tt
are_laid arcs (a ∷ t) leads_away f h g d =
    let b = leads_away a.row in
    let ends : Pair = record { tail = a.node; head = suc (length t) } in
    let here = h a.row (inl refl) in
    let e : slice_index_or arcs a.row (record { tail = 0; head = 0 }) ≡ reversed_unless (leads_away a.row) (record { tail = a.node; head = suc (length t) }) = here.1 ∙ ap (reversed_unless (leads_away a.row)) g.0 in (
      record {
        in_list = here.0;
        from_node = ap (λ (q : Pair). cond (leads_away a.row) q.tail q.head) e ∙ from-reversed b ends;
        to_new = ap (λ (q : Pair). cond (leads_away a.row) q.head q.tail) e ∙ to-reversed b ends;
        low = d.0;
        other = d.1;
      },
      are_laid arcs t leads_away f (λ r m. h r (inr m)) g.1 d.2,
    )

reversed_in_range : (b : Bool) (q : Pair) (n : ℕ) → (q.tail ≤ n) × (q.head ≤ n) → ((reversed_unless b q).tail ≤ n) × ((reversed_unless b q).head ≤ n)
reversed_in_range true q n h = h
reversed_in_range false q n h = (h.1, h.0)

pair_of_in_range : (t : List HungArc) (r : ℕ) → AreHung t → ((pair_of t r).tail ≤ length t) × ((pair_of t r).head ≤ length t)
unfolding AreHung
pair_of_in_range [] r d = (omega arith, omega arith)
pair_of_in_range (a ∷ t) r d = go (nat_eq r a.row) (pair_of_in_range t r d.2)
  where
    go : (b : Bool) → ((pair_of t r).tail ≤ length t) × ((pair_of t r).head ≤ length t)
        → ((cond b (record { tail = a.node; head = suc (length t) }) (pair_of t r)).tail ≤ suc (length t))
        × ((cond b (record { tail = a.node; head = suc (length t) }) (pair_of t r)).head ≤ suc (length t))
    go true k = let m = d.0 in (omega arith, omega arith)
    go false k = (omega arith, omega arith)

grown_are_hung : (beyond : ℕ → ℕ → Bool) (L : List ℕ) → IsOrdered beyond L → AreHung (grown beyond L)
unfolding AreHung
grown_are_hung beyond [] o = tt
grown_are_hung beyond (h ∷ L) o = (
  node_of_in_range (grown beyond L) (λ j. beyond j h),
  (λ m. (o.0 h (subst (λ (z : List ℕ). IsIn h z) (rows-grown beyond L) m)).0 refl),
  grown_are_hung beyond L o.1,
)

pub differ_both : (s a b : Bool) → differ (differ s a) (differ s b) ≡ differ a b
differ_both true true true = refl
differ_both true true false = refl
differ_both true false true = refl
differ_both true false false = refl
differ_both false a b = refl

differ_twice : (a b : Bool) → differ a (differ a b) ≡ b
differ_twice true true = refl
differ_twice true false = refl
differ_twice false b = refl

first_lines_distinct : (count : ℕ) → IsDistinct (first_lines count)
first_lines_distinct count = increasing_are_distinct 0 count (first_lines count) (increases-range 0 count count (omega arith))

module _ (M : ℕ → ℕ → Bool) (m : ℕ) (side : ℕ → ℕ → Bool) (lies : Bool → ℕ → ℕ → Bool) (K : IsCuts M (λ r. r < m) side lies) where
  -- of three arcs, s and t are on one side of r, or r and t are on one side of s; of two arcs, one does not lie beyond the other
  pub three_beyond : (r s t : ℕ) → r < m → s < m → t < m → r ≢ s → r ≢ t → s ≢ t → (beyond side lies r t ≡ beyond side lies r s) ⊎ (beyond side lies s t ≡ beyond side lies s r)
  three_beyond r s t hr hs ht rs rt st = go (K.three r s t hr hs ht rs rt st)
    where
      go : (side r t ≡ side r s) ⊎ (side s t ≡ side s r) → (beyond side lies r t ≡ beyond side lies r s) ⊎ (beyond side lies s t ≡ beyond side lies s r)
      go (inl a) = inl (ap (differ (lies true r 0)) a)
      go (inr a) = inr (ap (differ (lies true s 0)) a)

  pub root_beyond : (r s : ℕ) → r < m → s < m → r ≢ s → (beyond side lies r s ≡ false) ⊎ (beyond side lies s r ≡ false)
  root_beyond r s hr hs n = go (K.meet true r s 0 hr hs n)
    where
      go : (lies true r 0 ≡ side r s) ⊎ (lies true s 0 ≡ side s r) → (beyond side lies r s ≡ false) ⊎ (beyond side lies s r ≡ false)
      go (inl a) = inl (ap (differ (lies true r 0)) (sym a) ∙ differ_self (lies true r 0))
      go (inr a) = inr (ap (differ (lies true s 0)) (sym a) ∙ differ_self (lies true s 0))

  is_node : (end : Bool) (c r s : ℕ) → r < m → s < m → r ≢ s → (place side lies end c r ≡ beyond side lies r s) ⊎ (place side lies end c s ≡ beyond side lies s r)
  is_node end c r s hr hs n = go (K.meet end r s c hr hs n)
    where
      go : (lies end r c ≡ side r s) ⊎ (lies end s c ≡ side s r) → (place side lies end c r ≡ beyond side lies r s) ⊎ (place side lies end c s ≡ beyond side lies s r)
      go (inl a) = inl (ap (differ (lies true r 0)) a)
      go (inr a) = inr (ap (differ (lies true s 0)) a)

  -- the rows have an order in which the tree grows
  pub cuts_order : (list : List ℕ) × IsOrderOf (beyond side lies) (first_lines m) list
  cuts_order = has_order (beyond side lies) (λ r. r < m) three_beyond root_beyond (first_lines m) (first_lines_distinct m) (first_lines_in m)

  module _ (order : List ℕ) (o : IsOrderOf (beyond side lies) (first_lines m) order) where
    abbrev hung : List HungArc
    hung = grown (beyond side lies) order

    abbrev arcs : List Pair
    arcs = arcs_by side lies order m

    abbrev leads_away : ℕ → Bool
    leads_away r = lies true r 0

    abbrev node : Bool → ℕ → ℕ
    node end c = node_of hung (place side lies end c)

    row_in_range : (r : ℕ) → IsIn r order → r < m
    row_in_range r h = first_lines_in m r (o.only r h)

    length-arcs : length arcs ≡ m
    length-arcs = length-map-range_with_len (λ r. reversed_unless (leads_away r) (pair_of hung r)) 0 m

    length-hung : length hung ≡ m
    length-hung = length-grown (beyond side lies) order ∙ o.count ∙ length-range_with_len 0 m

    arc_at : (r : ℕ) → r < m → slice_index_or arcs r (record { tail = 0; head = 0 }) ≡ reversed_unless (leads_away r) (pair_of hung r)
    arc_at r l = get_or-map-range_with_len (λ r. reversed_unless (leads_away r) (pair_of hung r)) 0 m r r (record { tail = 0; head = 0 }) l (omega arith)

    are_hung : AreHung hung
    are_hung = grown_are_hung (beyond side lies) order o.order

    laid : AreLaid arcs leads_away hung
    laid = are_laid arcs hung leads_away (pair_of hung)
        (λ r h. let l = row_in_range r (subst (λ (z : List ℕ). IsIn r z) (rows-grown (beyond side lies) order) h) in
        (subst (λ (z : ℕ). r < z) (sym length-arcs) l, arc_at r l))
        (ends-pair_of hung are_hung) are_hung

    arc_in_range : (r : ℕ) → r < m → (tail arcs r ≤ m) × (head arcs r ≤ m)
    arc_in_range r l =
        let k = reversed_in_range (leads_away r) (pair_of hung r) (length hung) (pair_of_in_range hung r are_hung) in (
          subst (λ (z : ℕ). z ≤ m) (sym (ap (λ (q : Pair). q.tail) (arc_at r l))) (subst (λ (z : ℕ). (reversed_unless (leads_away r) (pair_of hung r)).tail ≤ z) length-hung k.0),
          subst (λ (z : ℕ). z ≤ m) (sym (ap (λ (q : Pair). q.head) (arc_at r l))) (subst (λ (z : ℕ). (reversed_unless (leads_away r) (pair_of hung r)).head ≤ z) length-hung k.1),
        )

    pub cuts_tree : IsTree (arcs_by side lies order m) m
    cuts_tree = record {
      count = length-arcs;
      nodes = arc_in_range;
      linked = λ x y lx ly.
          let p = grown_path arcs leads_away hung laid x y (subst (λ (z : ℕ). x ≤ z) (sym length-hung) lx) (subst (λ (z : ℕ). y ≤ z) (sym length-hung) ly) in
          (p.steps, p.walk);
    }

    beyond_in-node : (end : Bool) (c r : ℕ) → r < m → beyond_in hung r (node end c) ≡ place side lies end c r
    beyond_in-node end c r l = beyond_in-node_of (beyond side lies) (λ r. r < m) three_beyond root_beyond order o.order row_in_range (place side lies end c)
        (λ r s hr hs n. is_node end c r s (row_in_range r hr) (row_in_range s hs) n) r (o.all r (in_first_lines m r l))

    node_in_range : (end : Bool) (c : ℕ) → node end c ≤ m
    node_in_range end c = subst (λ (z : ℕ). node end c ≤ z) length-hung (node_of_in_range hung (place side lies end c))

    column_path : (c : ℕ) → HasPath arcs leads_away hung (node true c) (node false c)
    column_path c = grown_path arcs leads_away hung laid (node true c) (node false c)
        (node_of_in_range hung (place side lies true c)) (node_of_in_range hung (place side lies false c))

    abbrev walk_of : ℕ → Pair
    walk_of c = record { tail = node true c; head = node false c }

    walk_at : (n c : ℕ) → c < n → slice_index_or (walks_by side lies order n) c (record { tail = 0; head = 0 }) ≡ walk_of c
    walk_at n c l = get_or-map-range_with_len walk_of 0 n c c (record { tail = 0; head = 0 }) l (omega arith)

    pub cuts_network : (n : ℕ) → IsNetworkOf (record { arcs = arcs_by side lies order m; walks = walks_by side lies order n }) m n
    cuts_network n = record {
      tree = cuts_tree;
      count = length-map-range_with_len walk_of 0 n;
      nodes = λ c l. (
        subst (λ (q : Pair). q.tail ≤ m) (sym (walk_at n c l)) (node_in_range true c),
        subst (λ (q : Pair). q.head ≤ m) (sym (walk_at n c l)) (node_in_range false c),
      );
    }

    -- the tree of the sides realises the support
    pub cuts_realise_support : (n : ℕ) → RealisesSupport (record { arcs = arcs_by side lies order m; walks = walks_by side lies order n }) M m n
    cuts_realise_support n = record { network = cuts_network n; paths = paths }
      where
        same : (c r : ℕ) → r < m → differ (beyond_in hung r (node true c)) (beyond_in hung r (node false c)) ≡ M r c
        same c r l = ap₂ differ (beyond_in-node true c r l) (beyond_in-node false c r l)
            ∙ differ_both (lies true r 0) (lies true r c) (lies false r c) ∙ sym (K.uses r c l)

        path_of : (c : ℕ) → IsPathOf arcs m (λ r. M r c) (node true c) (node false c)
        path_of c =
            let p = column_path c in
            record { steps = p.steps; walk = p.walk; once = p.once; exact = λ r l. ((λ e. p.all r (same c r l ∙ e)), (λ h. sym (same c r l) ∙ p.has r h)) }

        paths : (c : ℕ) → c < n → IsPathOf arcs m (λ r. M r c) (tail (walks_by side lies order n) c) (head (walks_by side lies order n) c)
        paths c l = subst (λ (q : Pair). IsPathOf arcs m (λ r. M r c) q.tail q.head) (sym (walk_at n c l)) (path_of c)

    -- the tree also realises a matrix with these signs
    pub cuts_realise : (n : ℕ) (N : ℕ → ℕ → ℤ) → ((r c : ℕ) → r < m → N r c ≡ bit (lies true r c) -ℤ bit (lies false r c))
        → Realises (record { arcs = arcs_by side lies order m; walks = walks_by side lies order n }) N m n
    cuts_realise n N signed = record { network = cuts_network n; paths = paths }
      where
        lies_at : (end : Bool) (c r : ℕ) → r < m → differ (leads_away r) (beyond_in hung r (node end c)) ≡ lies end r c
        lies_at end c r l = ap (differ (leads_away r)) (beyond_in-node end c r l) ∙ differ_twice (lies true r 0) (lies end r c)

        path_of : (c : ℕ) → IsDirectedPathOf arcs m (λ r. N r c) (node true c) (node false c)
        path_of c =
            let p = column_path c in
            record {
              steps = p.steps;
              walk = p.walk;
              once = p.once;
              exact = λ r l. signed r c l ∙ sym (p.sign r ∙ ap₂ (λ (y z : Bool). bit y -ℤ bit z) (lies_at true c r l) (lies_at false c r l));
            }

        paths : (c : ℕ) → c < n → IsDirectedPathOf arcs m (λ r. N r c) (tail (walks_by side lies order n) c) (head (walks_by side lies order n) c)
        paths c l = subst (λ (q : Pair). IsDirectedPathOf arcs m (λ r. N r c) q.tail q.head) (sym (walk_at n c l)) (path_of c)
