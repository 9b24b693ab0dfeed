use Rattle.std.proofs.Common.{◌∙◌, ap}
use Rattle.cmr_base.specs.BitSets.{Bits}
use Rattle.cmr_base.specs.ColumnSets.{has_column}
use Rattle.cmr_base.proofs.Booleans.{not_both}
use Rattle.path_places.proofs.ReachedSteps.{fewer_left, first_step, next_step, none_left, place_found}
use Rattle.path_places.proofs.side.Side.path_place.Goals as goal

pub steps-init : goal.steps-init
steps-init c =
    let side = c.args.self.now in
    record {
      size = ap (λ (set : Bits). set.size) c.in_ok-reached.ensures ∙ side.ends_fit.columns;
      more_size = c.in_ok-more.ensures.size;
      only = c.in_ok-more.ensures.only;
      all = c.in_ok-more.ensures.all;
      step = λ lines is. first_step lines side is c.in_ok-reached.reached (λ x. ap (λ (set : Bits). has_column set.words x) c.in_ok-reached.ensures);
    }

pub steps-preserved : goal.steps-preserved
steps-preserved c =
    let side = c.args.self.now in
    let so = c.steps.invariant in
    record {
      size = c.add_all.ensures.size ∙ so.size;
      more_size = c.in_ok-more-2.ensures.size;
      only = c.in_ok-more-2.ensures.only;
      all = c.in_ok-more-2.ensures.all;
      step = λ lines is. next_step lines side is c.steps.reached (so.step lines is) c.steps.more so.only so.all c.add_all.new.self c.in_default.ensures c.add_all.ensures.columns;
    }

pub steps-smaller : goal.steps-smaller
steps-smaller c =
    fewer_left c.args.self.now c.steps.reached c.steps.more c.add_all.new.self c.args.self.now.shape c.steps.invariant (λ h. not_both c.is_within.result (c.is_within.ensures.1 h) c.steps-test.true) c.add_all.ensures.columns

pub returns-in-Some : goal.returns-in-Some
returns-in-Some c = λ lines is.
    let so = c.steps.invariant in
    place_found lines c.args.self.now is c.steps.reached (so.step lines is) c.steps.more so.only so.all c.in-Some.place.row c.in-Some.place.column c.in-Some.ensures

pub returns : goal.returns
returns c = λ lines is.
    let so = c.steps.invariant in
    none_left lines c.args.self.now is c.steps.reached (so.step lines is) c.steps.more so.only so.all (c.is_within.ensures.0 c.steps-test.false)
