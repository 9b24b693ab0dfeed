use Rattle.std.proofs.Common.{◌≡◌, ◌<◌, ◌∙◌, sym, ap, subst, List, ℕ, length, get_or, refl}
use Rattle.sp_reduce.specs.declared.side.StayingLines.{StayingLines}
use Rattle.sp_reduce.specs.LineKinds.{line_named}
use Rattle.sp_reduce.specs.StayingSides.{IsAcross}
use Rattle.sp_reduce.specs.Changes.{IsUnsettled}
use Rattle.cmr_base.specs.Members.{IsIn}
use Rattle.cmr_base.proofs.ListsWithout.{place_of, place_is}
use Rattle.sp_reduce.proofs.SideLemmas.{counted_marked}
use Rattle.sp_reduce.proofs.ChangeLemmas.{across_left, counted_after, unit_number, settled_unnamed, settled_named}
use Rattle.sp_reduce.proofs.side.StayingLines.renew.Goals as goal

pub unsettle-requires-clause-across : goal.unsettle-requires-clause-across
unsettle-requires-clause-across c =
    subst (λ (s : StayingLines). IsAcross c.args.matrix.now s.kind c.args.across.now) (sym c.forget.ensures.forgetting.same)
    (across_left c.args.binary c.args.matrix.now c.args.self.now c.args.across.now c.args.removed c.args.reason c.requires.before)

pub unsettle-requires-clause-counted : goal.unsettle-requires-clause-counted
unsettle-requires-clause-counted c =
    counted_after c.args.binary c.args.matrix.now c.args.self.now c.args.across.now c.args.removed c.args.reason c.requires.before c.forget.new.self c.forget.ensures.forgetting

pub returns-in-Some-clause-counted : goal.returns-in-Some-clause-counted
returns-in-Some-clause-counted c =
    counted_marked c.args.matrix.now c.forget.new.self c.unsettle.new.self c.args.across.now c.unsettle.ensures.same
    (counted_after c.args.binary c.args.matrix.now c.args.self.now c.args.across.now c.args.removed c.args.reason c.requires.before c.forget.new.self c.forget.ensures.forgetting)

pub returns-in-Some-clause-settled : goal.returns-in-Some-clause-settled
returns-in-Some-clause-settled c =
    let side = c.args.self.now in
    let new = c.forget.new.self in
    let f = c.forget.ensures.forgetting in
    let stays : new.stays.items ≡ side.stays.items = ap (λ (s : StayingLines). s.stays.items) f.same in
    let each : (at : ℕ) → at < length side.stays.items → IsUnsettled c.args.binary c.args.matrix.now new c.unsettle.new.self c.args.across.now c.in-Some.place at =
    λ at h. c.unsettle.ensures.unsettled at (subst (λ (lines : List ℕ). at < length lines) (sym stays) h) in
    settled_named c.args.binary c.args.matrix.now side c.args.across.now c.args.removed c.args.reason c.requires.before c.requires.side new c.unsettle.new.self f c.unsettle.ensures.same
    (λ at h e. (each at h).was e) c.in-Unit.line c.in-Some.place c.in-Unit.is
    (subst (λ (lines : List ℕ). c.in-Some.place < length lines) stays c.in-Some.ensures.some.0)
    (ap (λ (lines : List ℕ). get_or lines c.in-Some.place 0) (sym stays) ∙ c.in-Some.ensures.some.1 ∙ c.index_of_line.ensures) each

pub returns-in_default-place_of-clause-counted : goal.returns-in_default-place_of-clause-counted
returns-in_default-place_of-clause-counted c =
    counted_after c.args.binary c.args.matrix.now c.args.self.now c.args.across.now c.args.removed c.args.reason c.requires.before c.forget.new.self c.forget.ensures.forgetting

pub returns-in_default-place_of-clause-settled : goal.returns-in_default-place_of-clause-settled
returns-in_default-place_of-clause-settled c =
    let side = c.args.self.now in
    let new = c.forget.new.self in
    let f = c.forget.ensures.forgetting in
    let stays : new.stays.items ≡ side.stays.items = ap (λ (s : StayingLines). s.stays.items) f.same in
    settled_unnamed c.args.binary c.args.matrix.now side c.args.across.now c.args.removed c.args.reason c.requires.before c.requires.side new new f refl (λ at h e. e)
    (λ (named : ℕ) q i.
    let w = place_is named new.stays.items (subst (λ (lines : List ℕ). IsIn named lines) (sym stays) i) in
    c.in_default-place_of.ensures.none (place_of named new.stays.items) w.in_range
    (w.there ∙ sym (c.index_of_line.ensures ∙ unit_number side.kind c.in-Unit.line named (sym c.in-Unit.is ∙ q))))

pub returns-in_default-clause-counted : goal.returns-in_default-clause-counted
returns-in_default-clause-counted c =
    counted_after c.args.binary c.args.matrix.now c.args.self.now c.args.across.now c.args.removed c.args.reason c.requires.before c.forget.new.self c.forget.ensures.forgetting

pub returns-in_default-clause-settled : goal.returns-in_default-clause-settled
returns-in_default-clause-settled c =
    let new = c.forget.new.self in
    settled_unnamed c.args.binary c.args.matrix.now c.args.self.now c.args.across.now c.args.removed c.args.reason c.requires.before c.requires.side new new c.forget.ensures.forgetting refl (λ at h e. e)
    (λ named q i. c.in_default.not-Unit (line_named c.args.self.now.kind named) q)
