-- Searches and sides that keep their matrix and their side.
use Rattle.std.proofs.Common.{◌≡◌, ◌∷◌, ◌∙◌, ℕ, Bool, List, subst, sym}
use Rattle.cmr_base.specs.declared.line.Line.{Line}
use Rattle.cmr_base.specs.Matrix.{Matrix}
use Rattle.line_growth.specs.declared.growing_set.GrowingSet.{GrowingSet}
use Rattle.line_growth.specs.declared.rule.GrowthRule.{GrowthRule}
use Rattle.line_growth.specs.GrowingSets.{DecidesLeaving, IsGrowing, set_of}
use Rattle.line_growth.specs.Rules.{lower_of, upper_of}
use Rattle.cmr_base.specs.declared.separation.Form.{Form}
use Rattle.cuts.specs.declared.corners.Corners.{Corners}
use Rattle.three_sep.specs.declared.search.Search.{Search}
use Rattle.three_sep.specs.declared.sides.Sides.{Sides}
use Rattle.three_sep.specs.HeldSides.{HoldsFirst}
use Rattle.three_sep.specs.KeptSides.{KeepsSide}

pub kept_twice : (before between after : Sides) → KeepsSide before between → KeepsSide between after → KeepsSide before after
kept_twice before between after first then = record { matrix = then.matrix ∙ first.matrix; side = then.side ∙ first.side }

-- what a test of a kept side with one more line decides
pub decided_beside : (before between : Sides) → KeepsSide before between → (rule : GrowthRule) (start second : List Line) (line : Line) (answer : Bool) (grown : GrowingSet)
    → IsGrowing before.matrix.now (upper_of before.matrix.now rule) (lower_of before.matrix.now rule) start before.side
    → ((first : List Line) → IsGrowing between.matrix.now (upper_of between.matrix.now rule) (lower_of between.matrix.now rule) first between.side → DecidesLeaving between.matrix.now rule (line ∷ first) second 4 answer (set_of grown))
    → DecidesLeaving before.matrix.now rule (line ∷ start) second 4 answer (set_of grown)
decided_beside before between kept rule start second line answer grown growing decided =
    subst (λ (m : Matrix). DecidesLeaving m rule (line ∷ start) second 4 answer (set_of grown)) kept.matrix
    (decided start (subst (λ (m : Matrix). IsGrowing m (upper_of m rule) (lower_of m rule) start between.side) (sym kept.matrix)
    (subst (λ (set : GrowingSet). IsGrowing before.matrix.now (upper_of before.matrix.now rule) (lower_of before.matrix.now rule) start set) (sym kept.side) growing)))

-- ---- the side of a search

module _ (m : Matrix) (form : Form) (c : Corners) (q : ℕ) where
  pub held_at_own : (search : Search) → HoldsFirst m form c q search → HoldsFirst search.matrix.now form c q search
  held_at_own search held = subst (λ (n : Matrix). HoldsFirst n form c q search) (sym held.matrix) held

  pub held_still : (before after : Search) → HoldsFirst m form c q before → after.matrix.now ≡ m → after.sides.side ≡ before.sides.side → HoldsFirst m form c q after
  held_still before after held same side = record { matrix = same; line = held.line; tied = held.tied; growing = rw side held.growing; least = rw side held.least }
