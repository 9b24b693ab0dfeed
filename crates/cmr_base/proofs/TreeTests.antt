-- Tests that decide whether arcs are a tree, and whether a column is a path in it.
use Rattle.std.proofs.Common.{ℕ, ℤ, Bool, true, false, not, cond, List, [], ◌∷◌, ◌≡◌, ◌<◌, ◌∙◌, sym, ap, refl, subst, ◌↔◌}
use Rattle.cmr_base.specs.declared.network.Pair.{Pair}
use Rattle.cmr_base.specs.Members.{IsIn, IsDistinct}
use Rattle.cmr_base.specs.Matrix.{is_nonzero}
use Rattle.cmr_base.specs.Trees.{WalkStep, tail, head, to, IsWalk, IsTree, arcs_of, IsPathOf, direction, IsDirectedPathOf}
use Rattle.cmr_base.proofs.TreeCuts.{one_path}
use Rattle.cmr_base.proofs.ReproducedCuts.{nonzero_direction}

-- a column is the path between two nodes of a tree if and only if any path between them uses its arcs
pub path_by_walk : (arcs : List Pair) (m : ℕ) → IsTree arcs m → (x y : ℕ) (steps : List WalkStep) → IsWalk arcs x steps y → IsDistinct (arcs_of steps) → (column : ℕ → Bool)
    → IsPathOf arcs m column x y ↔ ((r : ℕ) → r < m → (column r ≡ true) ↔ IsIn r (arcs_of steps))
path_by_walk arcs m T x y steps w o column = (
  (λ p r l. (
    (λ e. over p.steps steps r (one_path arcs m T r x y p.steps steps l p.walk p.once w o) ((p.exact r l).0 e)),
    (λ h. (p.exact r l).1 (over steps p.steps r (one_path arcs m T r x y steps p.steps l w o p.walk p.once) h)),
  )),
  (λ h. record { steps = steps; walk = w; once = o; exact = h }),
)
  where
    over : (a b : List WalkStep) (r : ℕ) → direction a r ≡ direction b r → IsIn r (arcs_of a) → IsIn r (arcs_of b)
    over a b r e h = (nonzero_direction b r).0 (sym (ap is_nonzero e) ∙ (nonzero_direction a r).1 h)

-- the same with directions
pub directed_path_by_walk : (arcs : List Pair) (m : ℕ) → IsTree arcs m → (x y : ℕ) (steps : List WalkStep) → IsWalk arcs x steps y → IsDistinct (arcs_of steps) → (column : ℕ → ℤ)
    → IsDirectedPathOf arcs m column x y ↔ ((r : ℕ) → r < m → column r ≡ direction steps r)
directed_path_by_walk arcs m T x y steps w o column = (
  (λ p r l. p.exact r l ∙ one_path arcs m T r x y p.steps steps l p.walk p.once w o),
  (λ h. record { steps = steps; walk = w; once = o; exact = h }),
)

module _ (arcs : List Pair) where
  abbrev pub AreConnected : ℕ → ℕ → Type 0
  AreConnected x y = (steps : List WalkStep) × IsWalk arcs x steps y

  pub walk-then : (x y z : ℕ) (steps : List WalkStep) → IsWalk arcs x steps y → AreConnected y z → AreConnected x z
  walk-then x y z [] w r = subst (λ (a : ℕ). (steps : List WalkStep) × IsWalk arcs a steps z) (sym w) r
  walk-then x y z (step ∷ steps) w r = let q = walk-then (to arcs step) y z steps w.2 r in (step ∷ q.0, (w.0, w.1, q.1))

  pub walk-back : (x y : ℕ) (steps : List WalkStep) → IsWalk arcs x steps y → AreConnected y x
  walk-back x y [] w = ([], sym w)
  walk-back x y (step ∷ steps) w =
      let rest = walk-back (to arcs step) y steps w.2 in
      walk-then y (to arcs step) x rest.0 rest.1 (record { arc = step.arc; forwards = not step.forwards } ∷ [], (w.0, turn step.forwards, other step.forwards ∙ w.1))
    where
      turn : (d : Bool) → cond (not d) (tail arcs step.arc) (head arcs step.arc) ≡ cond d (head arcs step.arc) (tail arcs step.arc)
      turn true = refl
      turn false = refl

      other : (d : Bool) → cond (not d) (head arcs step.arc) (tail arcs step.arc) ≡ cond d (tail arcs step.arc) (head arcs step.arc)
      other true = refl
      other false = refl
