-- Each arc of a tree cuts it in two: the side of its tail, how walks change the side, and that the path between two nodes is
-- unique.
use Rattle.std.proofs.Common.{ℕ, zero, suc, pos, negsuc, ◌-ℤ◌, Bool, true, false, not, cond, List, [], ◌∷◌, ◌≡◌, ◌≢◌, ◌<◌, ◌≤◌, ◌∙◌, sym, ap, ap₂, refl, arith, subst, ◌⊎◌, inl, inr, nat_eq, length}
use Rattle.cmr_base.specs.declared.network.Pair.{Pair}
use Rattle.cmr_base.specs.Members.{IsIn, IsDistinct}
use Rattle.cmr_base.specs.Cuts.{bit}
use Rattle.cmr_base.specs.Trees.{WalkStep, tail, head, from, to, IsWalk, IsTree, arcs_of, direction}
use Rattle.cmr_base.proofs.RowLists.{same_bit, same_or_not, is_eq, is_ne, self_eq}
use Rattle.cmr_base.proofs.ComponentLabels.{labels, labels_join, HasPair}
use Rattle.cmr_base.proofs.ComponentCounts.{fewer_representatives, representatives-own, one_representative, count_at_most_one}

-- the list without the entry at an index
abbrev pub all_but : ℕ → List Pair → List Pair
all_but r [] = []
all_but zero (a ∷ ps) = ps
all_but (suc r) (a ∷ ps) = a ∷ all_but r ps

length-all_but : (r : ℕ) (ps : List Pair) → r < length ps → suc (length (all_but r ps)) ≡ length ps
length-all_but r [] l = absurd (omega arith)
length-all_but zero (a ∷ ps) l = refl
length-all_but (suc r) (a ∷ ps) l = ap (λ (z : ℕ). suc z) (length-all_but r ps (omega arith))

pub has_pair_at : (s : ℕ) (ps : List Pair) → s < length ps → HasPair (tail ps s) (head ps s) ps
has_pair_at s [] l = absurd (omega arith)
has_pair_at zero (a ∷ ps) l = inl (refl, refl)
has_pair_at (suc s) (a ∷ ps) l = inr (has_pair_at s ps (omega arith))

all_but_has : (r s : ℕ) (ps : List Pair) → s < length ps → s ≢ r → HasPair (tail ps s) (head ps s) (all_but r ps)
all_but_has r s [] l n = absurd (omega arith)
all_but_has zero zero (a ∷ ps) l n = absurd (n refl)
all_but_has zero (suc s) (a ∷ ps) l n = has_pair_at s ps (omega arith)
all_but_has (suc r) zero (a ∷ ps) l n = inl (refl, refl)
all_but_has (suc r) (suc s) (a ∷ ps) l n = inr (all_but_has r s ps (omega arith) (λ e. n (ap (λ (z : ℕ). suc z) e)))

module _ (arcs : List Pair) where
  -- the component of each node without arc r
  label : ℕ → ℕ → ℕ
  label r = labels (λ x. x) (all_but r arcs)

  -- whether a node is on the side of the tail of arc r
  pub tail_side : ℕ → ℕ → Bool
  tail_side r z = nat_eq (label r z) (label r (tail arcs r))

  label_kept : (r s : ℕ) → s < length arcs → s ≢ r → label r (tail arcs s) ≡ label r (head arcs s)
  unfolding label
  label_kept r s l n = labels_join (λ x. x) (all_but r arcs) (tail arcs s) (head arcs s) (all_but_has r s arcs l n)

  pub tail_side_kept : (r s : ℕ) → s < length arcs → s ≢ r → tail_side r (tail arcs s) ≡ tail_side r (head arcs s)
  unfolding tail_side
  tail_side_kept r s l n = ap (λ (z : ℕ). nat_eq z (label r (tail arcs r))) (label_kept r s l n)

  -- a step over another arc
  step_kept : (r : ℕ) (step : WalkStep) → step.arc < length arcs → step.arc ≢ r → tail_side r (to arcs step) ≡ tail_side r (from arcs step)
  step_kept r step l n = go step.forwards
    where
      go : (d : Bool) → tail_side r (cond d (head arcs step.arc) (tail arcs step.arc)) ≡ tail_side r (cond d (tail arcs step.arc) (head arcs step.arc))
      go true = sym (tail_side_kept r step.arc l n)
      go false = tail_side_kept r step.arc l n

  pub tail_side-tail : (r : ℕ) → tail_side r (tail arcs r) ≡ true
  unfolding tail_side
  tail_side-tail r = self_eq (label r (tail arcs r))

  -- if the ends of arc r were linked without it, all nodes would be linked without it
  linked_without : (r : ℕ) → label r (tail arcs r) ≡ label r (head arcs r) → (x : ℕ) (steps : List WalkStep) (y : ℕ) → IsWalk arcs x steps y → label r x ≡ label r y
  linked_without r e x [] y w = ap (label r) w
  linked_without r e x (step ∷ steps) y w = ap (label r) (sym w.1) ∙ ends step.forwards ∙ linked_without r e (to arcs step) steps y w.2
    where
      pick : (step.arc ≡ r) ⊎ (step.arc ≢ r) → label r (tail arcs step.arc) ≡ label r (head arcs step.arc)
      pick (inl f) = ap (λ (z : ℕ). label r (tail arcs z)) f ∙ e ∙ ap (λ (z : ℕ). label r (head arcs z)) (sym f)
      pick (inr n) = label_kept r step.arc w.0 n

      ends : (d : Bool) → label r (cond d (tail arcs step.arc) (head arcs step.arc)) ≡ label r (cond d (head arcs step.arc) (tail arcs step.arc))
      ends true = pick (same_or_not step.arc r)
      ends false = sym (pick (same_or_not step.arc r))

  -- a walk that does not use arc r keeps its side
  pub tail_side-walk : (r x : ℕ) (steps : List WalkStep) (y : ℕ) → IsWalk arcs x steps y → ¬ (IsIn r (arcs_of steps)) → tail_side r x ≡ tail_side r y
  tail_side-walk r x [] y w n = ap (tail_side r) w
  tail_side-walk r x (step ∷ steps) y w n =
      ap (tail_side r) (sym w.1) ∙ sym (step_kept r step w.0 (λ e. n (inl (sym e)))) ∙ tail_side-walk r (to arcs step) steps y w.2 (λ h. n (inr h))

module _ (arcs : List Pair) (m : ℕ) (T : IsTree arcs m) where
  pub tail_side-head : (r : ℕ) → r < m → tail_side arcs r (head arcs r) ≡ false
  unfolding tail_side label
  tail_side-head r l = is_ne (label arcs r (head arcs r)) (label arcs r (tail arcs r)) (λ e.
      let fewest = fewer_representatives (suc m) (λ x. x) (all_but r arcs) (λ x. refl) in
      let start = representatives-own (suc m) in
      let end = one_representative (suc m) (label arcs r) (label arcs r 0)
      (λ x k. let w = T.linked x 0 (omega arith) (omega arith) in linked_without arcs r (sym e) x w.0 0 w.1) in
      let most = count_at_most_one (label arcs r 0) (suc m) in
      let fewer = length-all_but r arcs (subst (λ (z : ℕ). r < z) (sym T.count) l) in
      let count = T.count in
      absurd (omega arith))

  -- a walk that uses arc r once changes its side
  pub tail_side-path : (r x : ℕ) (steps : List WalkStep) (y : ℕ) → r < m → IsWalk arcs x steps y → IsDistinct (arcs_of steps) → IsIn r (arcs_of steps)
      → tail_side arcs r y ≡ not (tail_side arcs r x)
  tail_side-path r x [] y l w o h = absurd h
  tail_side-path r x (step ∷ steps) y l w o h = go (same_or_not step.arc r) h (tail_side-path r (to arcs step) steps y l w.2 o.1)
    where
      at_tail : step.arc ≡ r → tail_side arcs r (tail arcs step.arc) ≡ true
      at_tail e = ap (λ (z : ℕ). tail_side arcs r (tail arcs z)) e ∙ tail_side-tail arcs r

      at_head : step.arc ≡ r → tail_side arcs r (head arcs step.arc) ≡ false
      at_head e = ap (λ (z : ℕ). tail_side arcs r (head arcs z)) e ∙ tail_side-head r l

      across : (d : Bool) → step.arc ≡ r → tail_side arcs r (cond d (head arcs step.arc) (tail arcs step.arc)) ≡ not (tail_side arcs r (cond d (tail arcs step.arc) (head arcs step.arc)))
      across true e = at_head e ∙ sym (ap not (at_tail e))
      across false e = at_tail e ∙ sym (ap not (at_head e))

      go : (step.arc ≡ r) ⊎ (step.arc ≢ r) → (r ≡ step.arc) ⊎ IsIn r (arcs_of steps) → (IsIn r (arcs_of steps) → tail_side arcs r y ≡ not (tail_side arcs r (to arcs step)))
          → tail_side arcs r y ≡ not (tail_side arcs r x)
      go (inl e) k more = sym (tail_side-walk arcs r (to arcs step) steps y w.2 (λ h. o.0 (subst (λ (z : ℕ). IsIn z (arcs_of steps)) (sym e) h)))
          ∙ across step.forwards e ∙ ap (λ (z : ℕ). not (tail_side arcs r z)) w.1
      go (inr n) (inl e) more = absurd (n (sym e))
      go (inr n) (inr h) more = more h ∙ ap not (step_kept arcs r step w.0 n) ∙ ap (λ (z : ℕ). not (tail_side arcs r z)) w.1

  -- a node is on the side of arc s that contains arc r, or on the side of arc r that contains arc s
  abbrev pub IsNear : ℕ → ℕ → ℕ → Type 0
  IsNear r s z = (tail_side arcs r z ≡ tail_side arcs r (tail arcs s)) ⊎ (tail_side arcs s z ≡ tail_side arcs s (tail arcs r))

  near_walk : (r s : ℕ) → r ≢ s → (x : ℕ) (steps : List WalkStep) (y : ℕ) → IsWalk arcs x steps y → IsNear r s x → IsNear r s y
  near_walk r s n x [] y w h = subst (IsNear r s) w h
  near_walk r s n x (step ∷ steps) y w h = near_walk r s n (to arcs step) steps y w.2 (go (same_or_not step.arc r) (same_or_not step.arc s) h)
    where
      at_tail : (q : ℕ) (d : Bool) → step.arc ≢ q → tail_side arcs q (cond d (head arcs step.arc) (tail arcs step.arc)) ≡ tail_side arcs q (tail arcs step.arc)
      at_tail q true n = sym (tail_side_kept arcs q step.arc w.0 n)
      at_tail q false n = refl

      go : (step.arc ≡ r) ⊎ (step.arc ≢ r) → (step.arc ≡ s) ⊎ (step.arc ≢ s) → IsNear r s x → IsNear r s (to arcs step)
      go (inl e) k h = inr (at_tail s step.forwards (λ f. n (sym e ∙ f)) ∙ ap (λ (z : ℕ). tail_side arcs s (tail arcs z)) e)
      go (inr p) (inl e) h = inl (at_tail r step.forwards p ∙ ap (λ (z : ℕ). tail_side arcs r (tail arcs z)) e)
      go (inr p) (inr q) (inl h) = inl (step_kept arcs r step w.0 p ∙ ap (tail_side arcs r) w.1 ∙ h)
      go (inr p) (inr q) (inr h) = inr (step_kept arcs s step w.0 q ∙ ap (tail_side arcs s) w.1 ∙ h)

  pub near : (r s z : ℕ) → r < m → r ≢ s → z ≤ m → IsNear r s z
  near r s z l n lz = let w = T.linked (tail arcs r) z (T.nodes r l).0 lz in near_walk r s n (tail arcs r) w.0 z w.1 (inr refl)

  -- the sides of the ends of a path determine its directions
  pub direction-path : (r x : ℕ) (steps : List WalkStep) (y : ℕ) → r < m → IsWalk arcs x steps y → IsDistinct (arcs_of steps)
      → direction steps r ≡ bit (tail_side arcs r x) -ℤ bit (tail_side arcs r y)
  direction-path r x [] y l w o = same_bit (tail_side arcs r y) ∙ ap (λ (z : ℕ). bit (tail_side arcs r z) -ℤ bit (tail_side arcs r y)) (sym w)
  direction-path r x (step ∷ steps) y l w o = go (same_or_not r step.arc) (direction-path r (to arcs step) steps y l w.2 o.1)
    where
      at_tail : r ≡ step.arc → true ≡ tail_side arcs r (tail arcs step.arc)
      at_tail e = sym (tail_side-tail arcs r) ∙ ap (λ (z : ℕ). tail_side arcs r (tail arcs z)) e

      at_head : r ≡ step.arc → false ≡ tail_side arcs r (head arcs step.arc)
      at_head e = sym (tail_side-head r l) ∙ ap (λ (z : ℕ). tail_side arcs r (head arcs z)) e

      here : (d : Bool) → r ≡ step.arc → cond d (pos 1) (negsuc 0)
          ≡ bit (tail_side arcs r (cond d (tail arcs step.arc) (head arcs step.arc))) -ℤ bit (tail_side arcs r (cond d (head arcs step.arc) (tail arcs step.arc)))
      here true e = ap₂ (λ (a b : Bool). bit a -ℤ bit b) (at_tail e) (at_head e)
      here false e = ap₂ (λ (a b : Bool). bit a -ℤ bit b) (at_head e) (at_tail e)

      go : (r ≡ step.arc) ⊎ (r ≢ step.arc) → direction steps r ≡ bit (tail_side arcs r (to arcs step)) -ℤ bit (tail_side arcs r y)
          → direction (step ∷ steps) r ≡ bit (tail_side arcs r x) -ℤ bit (tail_side arcs r y)
      go (inl e) q = rw (is_eq r step.arc e) (here step.forwards e ∙ ap₂ (λ (a b : Bool). bit a -ℤ bit b) (ap (tail_side arcs r) w.1)
          (tail_side-walk arcs r (to arcs step) steps y w.2 (λ h. o.0 (subst (λ (z : ℕ). IsIn z (arcs_of steps)) e h))))
      go (inr n) q = rw (is_ne r step.arc n) (q ∙ ap (λ (a : Bool). bit a -ℤ bit (tail_side arcs r y))
          (step_kept arcs r step w.0 (λ e. n (sym e)) ∙ ap (tail_side arcs r) w.1))

  -- two paths between the same nodes use the same arcs in the same directions
  pub one_path : (r x y : ℕ) (steps others : List WalkStep) → r < m → IsWalk arcs x steps y → IsDistinct (arcs_of steps)
      → IsWalk arcs x others y → IsDistinct (arcs_of others) → direction steps r ≡ direction others r
  one_path r x y steps others l w o v p = direction-path r x steps y l w o ∙ sym (direction-path r x others y l v p)
