-- Paths in a grown tree.
use Rattle.std.proofs.Common.{ℕ, suc, ℤ, pos, negsuc, ◌-ℤ◌, not, cond, nat_eq, Bool, true, false, List, [], ◌∷◌, ◌++◌, ◌≡◌, ◌≢◌, ◌<◌, ◌≤◌, ◌∙◌, sym, ap, ap₂, refl, arith, subst, ◌⊎◌, inl, inr, length}
use Rattle.std.proofs.lemmas.Bool.{cases_lt}
use Rattle.cmr_base.specs.declared.network.Pair.{Pair}
use Rattle.cmr_base.specs.Members.{IsIn, IsDistinct}
use Rattle.cmr_base.specs.GrownTrees.{HungArc}
use Rattle.cmr_base.specs.Cuts.{differ, bit}
use Rattle.cmr_base.specs.Trees.{WalkStep, tail, head, from, to, IsWalk, arcs_of, direction}
use Rattle.cmr_base.proofs.RowLists.{differ_self, same_bit, not_both, same_or_not, is_eq, is_ne}
use Rattle.cmr_base.proofs.GrownNodes.{beyond_in, rows_of, beyond_in-absent}

in_prefix : (r : ℕ) (steps : List WalkStep) (s : WalkStep) → IsIn r (arcs_of steps) → IsIn r (arcs_of (steps ++ s ∷ []))
in_prefix r [] s h = absurd h
in_prefix r (x ∷ steps) s (inl e) = inl e
in_prefix r (x ∷ steps) s (inr h) = inr (in_prefix r steps s h)

is_last : (r : ℕ) (steps : List WalkStep) (s : WalkStep) → r ≡ s.arc → IsIn r (arcs_of (steps ++ s ∷ []))
is_last r [] s e = inl e
is_last r (x ∷ steps) s e = inr (is_last r steps s e)

pub in_prefix_or_last : (r : ℕ) (steps : List WalkStep) (s : WalkStep) → IsIn r (arcs_of (steps ++ s ∷ [])) → IsIn r (arcs_of steps) ⊎ (r ≡ s.arc)
in_prefix_or_last r [] s (inl e) = inr e
in_prefix_or_last r [] s (inr h) = absurd h
in_prefix_or_last r (x ∷ steps) s (inl e) = inl (inl e)
in_prefix_or_last r (x ∷ steps) s (inr h) = go (in_prefix_or_last r steps s h)
  where
    go : IsIn r (arcs_of steps) ⊎ (r ≡ s.arc) → ((r ≡ x.arc) ⊎ IsIn r (arcs_of steps)) ⊎ (r ≡ s.arc)
    go (inl k) = inl (inr k)
    go (inr e) = inr e

pub distinct-append : (steps : List WalkStep) (s : WalkStep) → IsDistinct (arcs_of steps) → ¬ (IsIn s.arc (arcs_of steps)) → IsDistinct (arcs_of (steps ++ s ∷ []))
distinct-append [] s o n = ((λ h. h), tt)
distinct-append (x ∷ steps) s o n = ((λ h. go (in_prefix_or_last x.arc steps s h)), distinct-append steps s o.1 (λ h. n (inr h)))
  where
    go : IsIn x.arc (arcs_of steps) ⊎ (x.arc ≡ s.arc) → ⊥
    go (inl k) = o.0 k
    go (inr e) = n (inl (sym e))

pub direction-append-other : (r : ℕ) (steps : List WalkStep) (s : WalkStep) → r ≢ s.arc → direction (steps ++ s ∷ []) r ≡ direction steps r
direction-append-other r [] s n = rw (is_ne r s.arc n) refl
direction-append-other r (x ∷ steps) s n = ap (λ (z : ℤ). cond (nat_eq r x.arc) (cond x.forwards (pos 1) (negsuc 0)) z) (direction-append-other r steps s n)

pub direction-append-last : (r : ℕ) (steps : List WalkStep) (s : WalkStep) → r ≡ s.arc → ¬ (IsIn r (arcs_of steps)) → direction (steps ++ s ∷ []) r ≡ cond s.forwards (pos 1) (negsuc 0)
direction-append-last r [] s e n = rw (is_eq r s.arc e) refl
direction-append-last r (x ∷ steps) s e n = rw (is_ne r x.arc (λ f. n (inl f))) (direction-append-last r steps s e (λ h. n (inr h)))

module _ (arcs : List Pair) where
  pub walk-append : (x : ℕ) (steps : List WalkStep) (y : ℕ) (s : WalkStep) → IsWalk arcs x steps y → s.arc < length arcs → from arcs s ≡ y → IsWalk arcs x (steps ++ s ∷ []) (to arcs s)
  walk-append x [] y s w l e = (l, e ∙ sym w, refl)
  walk-append x (a ∷ steps) y s w l e = (w.0, w.1, walk-append (to arcs a) steps y s w.2 l e)

  pub walk_from : (x x' : ℕ) (steps : List WalkStep) (y : ℕ) → x ≡ x' → IsWalk arcs x steps y → IsWalk arcs x' steps y
  walk_from x x' steps y e w = subst (λ (z : ℕ). IsWalk arcs z steps y) e w

  pub walk_to : (x : ℕ) (steps : List WalkStep) (y y' : ℕ) → y ≡ y' → IsWalk arcs x steps y → IsWalk arcs x steps y'
  walk_to x steps y y' e w = subst (λ (z : ℕ). IsWalk arcs x steps z) e w

-- `leads_away r` is true if and only if the arc of row r leads away from node 0
module _ (arcs : List Pair) (leads_away : ℕ → Bool) where
  -- the step over the arc of a row, away from node 0
  abbrev pub away : HungArc → WalkStep
  away a = record { arc = a.row; forwards = leads_away a.row }

  abbrev back : HungArc → WalkStep
  back a = record { arc = a.row; forwards = not (leads_away a.row) }

  from-back : (a : HungArc) → from arcs (back a) ≡ to arcs (away a)
  from-back a = go (leads_away a.row)
    where
      go : (b : Bool) → cond (not b) (tail arcs a.row) (head arcs a.row) ≡ cond b (head arcs a.row) (tail arcs a.row)
      go true = refl
      go false = refl

  to-back : (a : HungArc) → to arcs (back a) ≡ from arcs (away a)
  to-back a = go (leads_away a.row)
    where
      go : (b : Bool) → cond (not b) (head arcs a.row) (tail arcs a.row) ≡ cond b (tail arcs a.row) (head arcs a.row)
      go true = refl
      go false = refl

  out_bit : (b : Bool) → cond (not b) (pos 1) (negsuc 0) ≡ bit (differ b true) -ℤ bit (differ b false)
  out_bit true = refl
  out_bit false = refl

  in_bit : (b : Bool) → cond b (pos 1) (negsuc 0) ≡ bit (differ b false) -ℤ bit (differ b true)
  in_bit true = refl
  in_bit false = refl

  -- the arc of a row leads from the node to which it is attached to the new node
  pub record IsLaid (a : HungArc) (t : List HungArc) : Type 0 where
    pub in_list : a.row < length arcs
    pub from_node : from arcs (away a) ≡ a.node
    pub to_new : to arcs (away a) ≡ suc (length t)
    pub low : a.node ≤ length t
    pub other : ¬ (IsIn a.row (rows_of t))

  abbrev pub AreLaid : List HungArc → Type 0
  AreLaid [] = Unit {0}
  AreLaid (a ∷ t) = IsLaid a t × AreLaid t

  -- a path between two nodes, which uses the arcs beyond which exactly one of the two nodes lies
  pub record HasPath (t : List HungArc) (a b : ℕ) : Type 0 where
    pub steps : List WalkStep
    pub walk : IsWalk arcs a steps b
    pub once : IsDistinct (arcs_of steps)
    pub rows : (r : ℕ) → IsIn r (arcs_of steps) → IsIn r (rows_of t)
    pub has : (r : ℕ) → IsIn r (arcs_of steps) → differ (beyond_in t r a) (beyond_in t r b) ≡ true
    pub all : (r : ℕ) → differ (beyond_in t r a) (beyond_in t r b) ≡ true → IsIn r (arcs_of steps)
    pub sign : (r : ℕ) → direction steps r ≡ bit (differ (leads_away r) (beyond_in t r a)) -ℤ bit (differ (leads_away r) (beyond_in t r b))

  beyond_old : (a : HungArc) (t : List HungArc) (r z : ℕ) → z ≤ length t → beyond_in (a ∷ t) r z ≡ beyond_in t r z
  beyond_old a t r z l = rw (is_ne z (suc (length t)) (λ e. absurd (omega arith))) refl

  beyond_new : (a : HungArc) (t : List HungArc) (r z : ℕ) → z ≡ suc (length t) → r ≢ a.row → beyond_in (a ∷ t) r z ≡ beyond_in t r a.node
  beyond_new a t r z e n = rw (is_eq z (suc (length t)) e, is_ne r a.row n) refl

  beyond_own : (a : HungArc) (t : List HungArc) (r z : ℕ) → z ≡ suc (length t) → r ≡ a.row → beyond_in (a ∷ t) r z ≡ true
  beyond_own a t r z e n = rw (is_eq z (suc (length t)) e, is_eq r a.row n) refl

  no_steps : (t : List HungArc) (a b : ℕ) → a ≡ b → HasPath t a b
  no_steps t a b e = record {
    steps = [];
    walk = e;
    once = tt;
    rows = λ r h. absurd h;
    has = λ r h. absurd h;
    all = λ r d. absurd (not_both (differ (beyond_in t r a) (beyond_in t r b)) d (ap (λ (z : ℕ). differ (beyond_in t r z) (beyond_in t r b)) e ∙ differ_self (beyond_in t r b)));
    sign = λ r. same_bit (differ (leads_away r) (beyond_in t r b)) ∙ ap (λ (z : ℕ). bit (differ (leads_away r) (beyond_in t r z)) -ℤ bit (differ (leads_away r) (beyond_in t r b))) (sym e);
  }

  path_kept : (x : HungArc) (t : List HungArc) (a b : ℕ) → a ≤ length t → b ≤ length t → HasPath t a b → HasPath (x ∷ t) a b
  path_kept x t a b la lb p = record {
    steps = p.steps;
    walk = p.walk;
    once = p.once;
    rows = λ r h. inr (p.rows r h);
    has = λ r h. same r ∙ p.has r h;
    all = λ r d. p.all r (sym (same r) ∙ d);
    sign = λ r. p.sign r ∙ ap₂ (λ (y z : Bool). bit (differ (leads_away r) y) -ℤ bit (differ (leads_away r) z)) (sym (beyond_old x t r a la)) (sym (beyond_old x t r b lb));
  }
    where
      same : (r : ℕ) → differ (beyond_in (x ∷ t) r a) (beyond_in (x ∷ t) r b) ≡ differ (beyond_in t r a) (beyond_in t r b)
      same r = ap₂ differ (beyond_old x t r a la) (beyond_old x t r b lb)

  -- out of the new node
  path_from_new : (x : HungArc) (t : List HungArc) (a b : ℕ) → AreLaid (x ∷ t) → a ≡ suc (length t) → b ≤ length t → HasPath t x.node b → HasPath (x ∷ t) a b
  path_from_new x t a b f ea lb p = record {
    steps = back x ∷ p.steps;
    walk = (f.0.in_list, from-back x ∙ f.0.to_new ∙ sym ea, walk_from arcs x.node (to arcs (back x)) p.steps b (sym (to-back x ∙ f.0.from_node)) p.walk);
    once = ((λ h. f.0.other (p.rows x.row h)), p.once);
    rows = rows_at;
    has = has_at;
    all = λ r d. all_at r (same_or_not r x.row) d;
    sign = λ r. sign_at r (same_or_not r x.row);
  }
    where
      b_none : (r : ℕ) → r ≡ x.row → beyond_in (x ∷ t) r b ≡ false
      b_none r e = beyond_old x t r b lb ∙ beyond_in-absent t r b (λ h. f.0.other (subst (λ (z : ℕ). IsIn z (rows_of t)) e h))

      sign_at : (r : ℕ) → (r ≡ x.row) ⊎ (r ≢ x.row) → direction (back x ∷ p.steps) r ≡ bit (differ (leads_away r) (beyond_in (x ∷ t) r a)) -ℤ bit (differ (leads_away r) (beyond_in (x ∷ t) r b))
      sign_at r (inl e) = ap (λ (z : Bool). cond z (cond (not (leads_away x.row)) (pos 1) (negsuc 0)) (direction p.steps r)) (is_eq r x.row e) ∙ out_bit (leads_away x.row)
          ∙ ap (λ (z : Bool). bit (differ z true) -ℤ bit (differ z false)) (ap leads_away (sym e))
          ∙ ap₂ (λ (y z : Bool). bit (differ (leads_away r) y) -ℤ bit (differ (leads_away r) z)) (sym (beyond_own x t r a ea e)) (sym (b_none r e))
      sign_at r (inr n) = ap (λ (z : Bool). cond z (cond (not (leads_away x.row)) (pos 1) (negsuc 0)) (direction p.steps r)) (is_ne r x.row n) ∙ p.sign r
          ∙ ap₂ (λ (y z : Bool). bit (differ (leads_away r) y) -ℤ bit (differ (leads_away r) z)) (sym (beyond_new x t r a ea n)) (sym (beyond_old x t r b lb))

      rows_at : (r : ℕ) → (r ≡ x.row) ⊎ IsIn r (arcs_of p.steps) → (r ≡ x.row) ⊎ IsIn r (rows_of t)
      rows_at r (inl e) = inl e
      rows_at r (inr h) = inr (p.rows r h)

      other : (r : ℕ) → r ≢ x.row → differ (beyond_in (x ∷ t) r a) (beyond_in (x ∷ t) r b) ≡ differ (beyond_in t r x.node) (beyond_in t r b)
      other r n = ap₂ differ (beyond_new x t r a ea n) (beyond_old x t r b lb)

      own : (r : ℕ) → r ≡ x.row → differ (beyond_in (x ∷ t) r a) (beyond_in (x ∷ t) r b) ≡ true
      own r e = ap₂ differ (beyond_own x t r a ea e) (beyond_old x t r b lb ∙ beyond_in-absent t r b (λ h. f.0.other (subst (λ (z : ℕ). IsIn z (rows_of t)) e h)))

      has_at : (r : ℕ) → (r ≡ x.row) ⊎ IsIn r (arcs_of p.steps) → differ (beyond_in (x ∷ t) r a) (beyond_in (x ∷ t) r b) ≡ true
      has_at r (inl e) = own r e
      has_at r (inr h) = other r (λ e. f.0.other (subst (λ (z : ℕ). IsIn z (rows_of t)) e (p.rows r h))) ∙ p.has r h

      all_at : (r : ℕ) → (r ≡ x.row) ⊎ (r ≢ x.row) → differ (beyond_in (x ∷ t) r a) (beyond_in (x ∷ t) r b) ≡ true → (r ≡ x.row) ⊎ IsIn r (arcs_of p.steps)
      all_at r (inl e) d = inl e
      all_at r (inr n) d = inr (p.all r (sym (other r n) ∙ d))

  -- into the new node
  path_to_new : (x : HungArc) (t : List HungArc) (a b : ℕ) → AreLaid (x ∷ t) → a ≤ length t → b ≡ suc (length t) → HasPath t a x.node → HasPath (x ∷ t) a b
  path_to_new x t a b f la eb p = record {
    steps = p.steps ++ away x ∷ [];
    walk = walk_to arcs a (p.steps ++ away x ∷ []) (to arcs (away x)) b (f.0.to_new ∙ sym eb) (walk-append arcs a p.steps x.node (away x) p.walk f.0.in_list f.0.from_node);
    once = distinct-append p.steps (away x) p.once (λ h. f.0.other (p.rows x.row h));
    rows = λ r h. rows_at r (in_prefix_or_last r p.steps (away x) h);
    has = λ r h. has_at r (in_prefix_or_last r p.steps (away x) h);
    all = λ r d. all_at r (same_or_not r x.row) d;
    sign = λ r. sign_at r (same_or_not r x.row);
  }
    where
      a_none : (r : ℕ) → r ≡ x.row → beyond_in (x ∷ t) r a ≡ false
      a_none r e = beyond_old x t r a la ∙ beyond_in-absent t r a (λ h. f.0.other (subst (λ (z : ℕ). IsIn z (rows_of t)) e h))

      sign_at : (r : ℕ) → (r ≡ x.row) ⊎ (r ≢ x.row) → direction (p.steps ++ away x ∷ []) r ≡ bit (differ (leads_away r) (beyond_in (x ∷ t) r a)) -ℤ bit (differ (leads_away r) (beyond_in (x ∷ t) r b))
      sign_at r (inl e) = direction-append-last r p.steps (away x) e (λ h. f.0.other (p.rows x.row (subst (λ (z : ℕ). IsIn z (arcs_of p.steps)) e h))) ∙ in_bit (leads_away x.row)
          ∙ ap (λ (z : Bool). bit (differ z false) -ℤ bit (differ z true)) (ap leads_away (sym e))
          ∙ ap₂ (λ (y z : Bool). bit (differ (leads_away r) y) -ℤ bit (differ (leads_away r) z)) (sym (a_none r e)) (sym (beyond_own x t r b eb e))
      sign_at r (inr n) = direction-append-other r p.steps (away x) n ∙ p.sign r
          ∙ ap₂ (λ (y z : Bool). bit (differ (leads_away r) y) -ℤ bit (differ (leads_away r) z)) (sym (beyond_old x t r a la)) (sym (beyond_new x t r b eb n))

      rows_at : (r : ℕ) → IsIn r (arcs_of p.steps) ⊎ (r ≡ x.row) → (r ≡ x.row) ⊎ IsIn r (rows_of t)
      rows_at r (inr e) = inl e
      rows_at r (inl h) = inr (p.rows r h)

      other : (r : ℕ) → r ≢ x.row → differ (beyond_in (x ∷ t) r a) (beyond_in (x ∷ t) r b) ≡ differ (beyond_in t r a) (beyond_in t r x.node)
      other r n = ap₂ differ (beyond_old x t r a la) (beyond_new x t r b eb n)

      own : (r : ℕ) → r ≡ x.row → differ (beyond_in (x ∷ t) r a) (beyond_in (x ∷ t) r b) ≡ true
      own r e = ap₂ differ (beyond_old x t r a la ∙ beyond_in-absent t r a (λ h. f.0.other (subst (λ (z : ℕ). IsIn z (rows_of t)) e h))) (beyond_own x t r b eb e)

      has_at : (r : ℕ) → IsIn r (arcs_of p.steps) ⊎ (r ≡ x.row) → differ (beyond_in (x ∷ t) r a) (beyond_in (x ∷ t) r b) ≡ true
      has_at r (inr e) = own r e
      has_at r (inl h) = other r (λ e. f.0.other (subst (λ (z : ℕ). IsIn z (rows_of t)) e (p.rows r h))) ∙ p.has r h

      all_at : (r : ℕ) → (r ≡ x.row) ⊎ (r ≢ x.row) → differ (beyond_in (x ∷ t) r a) (beyond_in (x ∷ t) r b) ≡ true → IsIn r (arcs_of (p.steps ++ away x ∷ []))
      all_at r (inl e) d = is_last r p.steps (away x) e
      all_at r (inr n) d = in_prefix r p.steps (away x) (p.all r (sym (other r n) ∙ d))

  pub grown_path : (t : List HungArc) → AreLaid t → (a b : ℕ) → a ≤ length t → b ≤ length t → HasPath t a b
  grown_path [] f a b la lb = no_steps [] a b (omega arith)
  grown_path (x ∷ t) f a b la lb = go (cases_lt a (suc (length t))) (cases_lt b (suc (length t))) (grown_path t f.1)
    where
      go : (a < suc (length t)) ⊎ (suc (length t) ≤ a) → (b < suc (length t)) ⊎ (suc (length t) ≤ b) → ((a b : ℕ) → a ≤ length t → b ≤ length t → HasPath t a b) → HasPath (x ∷ t) a b
      go (inl m) (inl k) r = path_kept x t a b (omega arith) (omega arith) (r a b (omega arith) (omega arith))
      go (inl m) (inr k) r = path_to_new x t a b f (omega arith) (omega arith) (r a x.node (omega arith) f.0.low)
      go (inr m) (inl k) r = path_from_new x t a b f (omega arith) (omega arith) (r x.node b f.0.low (omega arith))
      go (inr m) (inr k) r = no_steps (x ∷ t) a b (omega arith)
