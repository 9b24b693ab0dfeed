use Rattle.std.proofs.Common.{◌≡◌, ◌<◌, ◌-◌, ◌∙◌, sym, subst, arith, false}
use Rattle.line_growth.specs.GrowingLines.{Growth, HasAdded, is_inside}
use Rattle.line_growth.proofs.LineSteps.{adds, inserted, pushed, some_left}
use Rattle.line_growth.proofs.growing_lines.GrowingLines.add.Goals as goal

pub overflow_sub-self : goal.overflow_sub-self
overflow_sub-self c =
    some_left c.args.line c.self.inside.left (record { inside = c.self.inside.inside; fresh = c.self.inside.fresh }) c.self.invariant
    (subst (λ (lines : Growth). c.args.line < lines.inside.size) (sym c.self.view_is) c.requires) (sym c.has.ensures ∙ c.if-has.false)

pub invariant_of-self : goal.invariant_of-self
invariant_of-self c =
    let before : Growth = record { inside = c.self.inside.inside; fresh = c.self.inside.fresh } in
    let room = subst (λ (lines : Growth). c.args.line < lines.inside.size) (sym c.self.view_is) c.requires in
    let out : is_inside before c.args.line ≡ false = sym c.has.ensures ∙ c.if-has.false in
    let some = some_left c.args.line c.self.inside.left before c.self.invariant room out in
    let set = c.insert.ensures in
    inserted c.args.line c.self.inside.left before _ c.self.invariant room out set.size set.only set.here set.kept (c.self.inside.left - 1) c.in_err-push.ensures.failed (omega (arith, some))

pub invariant_of-self-2 : goal.invariant_of-self-2
invariant_of-self-2 c =
    let before : Growth = record { inside = c.self.inside.inside; fresh = c.self.inside.fresh } in
    let room = subst (λ (lines : Growth). c.args.line < lines.inside.size) (sym c.self.view_is) c.requires in
    let out : is_inside before c.args.line ≡ false = sym c.has.ensures ∙ c.if-has.false in
    let some = some_left c.args.line c.self.inside.left before c.self.invariant room out in
    let set = c.insert.ensures in
    pushed c.args.line c.self.inside.left before _ c.self.invariant room out set.size set.only set.here set.kept (c.self.inside.left - 1) c.in_ok-push.ensures.pushed (omega (arith, some))

pub returns-clause-added : goal.returns-clause-added
returns-clause-added c =
    let before : Growth = record { inside = c.self.inside.inside; fresh = c.self.inside.fresh } in
    let room = subst (λ (lines : Growth). c.args.line < lines.inside.size) (sym c.self.view_is) c.requires in
    let out : is_inside before c.args.line ≡ false = sym c.has.ensures ∙ c.if-has.false in
    let after : Growth = record { inside = c.insert.new.self; fresh = c.push.new.self } in
    let set = c.insert.ensures in
    subst (λ (lines : Growth). HasAdded c.args.line lines after) c.self.view_is (adds c.args.line c.self.inside.left before after c.self.invariant room out set.size set.only set.here set.kept c.in_ok-push.ensures.pushed)
