use Rattle.std.proofs.Common.{◌≡◌, ◌∷◌, [], ℕ, Option, Some, None, List, inr, subst, sym, length, refl, ap}
use Rattle.std.specs.Option.{MatchOption}
use Rattle.cmr_base.specs.Members.{IsIn}
use Rattle.line_growth.specs.GrowingLines.{Growth, HasTaken, IsGrowth}
use Rattle.line_growth.proofs.LineSteps.{takes, waits_less}
use Rattle.line_growth.proofs.growing_lines.GrowingLines.next.Goals as goal

cases : (left : ℕ) (before after : Growth) (r : Option ℕ) → MatchOption r ((before.fresh ≡ []) × (after.fresh ≡ [])) (λ line. before.fresh ≡ line ∷ after.fresh) → IsGrowth before left
    → after.inside ≡ before.inside → MatchOption r (length before.fresh ≡ 0) (λ line. HasTaken line before after)
cases left before after None m w i = ap (λ (z : List ℕ). length z) m.0
cases left before after (Some x) m w i = takes x left before after w m i

kept : (xs ys : List ℕ) (r : Option ℕ) → MatchOption r ((xs ≡ []) × (ys ≡ [])) (λ line. xs ≡ line ∷ ys) → (x : ℕ) → IsIn x ys → IsIn x xs
kept xs ys None m x h = absurd (subst (λ (z : List ℕ). IsIn x z) m.1 h)
kept xs ys (Some y) m x h = subst (λ (z : List ℕ). IsIn x z) (sym m) (inr h)

pub invariant_of-self : goal.invariant_of-self
invariant_of-self c =
    let before : Growth = record { inside = c.self.inside.inside; fresh = c.self.inside.fresh } in
    let after : Growth = record { inside = c.self.inside.inside; fresh = c.next.new.self } in
    waits_less c.self.inside.left before after c.self.invariant refl (kept before.fresh after.fresh c.next.result c.next.ensures)

pub returns : goal.returns
returns c =
    let before : Growth = record { inside = c.self.inside.inside; fresh = c.self.inside.fresh } in
    let after : Growth = record { inside = c.self.inside.inside; fresh = c.next.new.self } in
    subst (λ (lines : Growth). MatchOption c.next.result (length lines.fresh ≡ 0) (λ line. HasTaken line lines after)) c.self.view_is
    (cases c.self.inside.left before after c.next.result c.next.ensures c.self.invariant refl)
