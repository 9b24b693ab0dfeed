use Rattle.std.proofs.Common.{◌≡◌, ◌∙◌, ◌∷◌, ◌++◌, [], List, ℕ, ap, rules, arith}
use Rattle.camion_sign.proofs.FirstFaults.{met_step, before_in, begin_back, earlier_place, go_back, path_back}
use Rattle.camion_sign.proofs.fault.path_to.Goals as goal

pub loop-place-init : goal.loop-place-init
loop-place-init c =
    let m = c.args.matrix.now in
    let walk = c.args.walk.now in
    let step = met_step m c.requires.walked.0 c.args.start.row c.args.start.column c.args.last walk c.index.result.now c.index-step.result.now c.requires.walked.1 c.requires.width c.index.ensures c.requires.reached c.index-step.ensures in
    let lines : c.in_ok-lines.lines.items ≡ c.index-step.result.now.row ∷ [] = search rules in (
      before_in m c.requires.walked.0 c.args.start.row c.args.start.column c.args.last walk c.index-step.result.now c.requires.walked.1 c.requires.order c.requires.reached step,
      λ values. begin_back m values c.args.start.row c.args.start.column c.args.last walk c.index-step.result.now c.in_ok-lines.lines.items c.requires.order c.requires.reached step lines,
    )

pub loop-place-preserved : goal.loop-place-preserved
loop-place-preserved c =
    let m = c.args.matrix.now in
    let walk = c.args.walk.now in
    let step = c.index-step-in-loop-place.result.now in
    let l = c.loop-place.invariant.0 in (
      (let e = earlier_place m c.requires.walked.0 c.args.start.row c.args.start.column walk c.loop-place.place step c.requires.walked.1 c.loop-place-test.true l c.index-step-in-loop-place.ensures in omega arith),
      λ values. go_back m values c.args.start.row c.args.start.column c.args.last walk c.loop-place.place step c.loop-place.lines.items c.push-in-loop-place.new.self.items c.loop-place-test.true l c.index-step-in-loop-place.ensures
          (c.in_ok-push-2.ensures.items ∙ ap (λ (v : List ℕ). v ++ step.row ∷ []) c.in_ok-push.ensures.items) (c.loop-place.invariant.1 values),
    )

pub returns : goal.returns
returns c =
    path_back c.args.matrix.now c.requires.walked.0 c.args.start.row c.args.start.column c.args.last c.args.walk.now c.loop-place.place c.loop-place.lines.items c.reverse.new.self.items c.requires.walked.1 c.requires.order c.requires.reached c.requires.first c.requires.last
    c.loop-place-test.false c.reverse.ensures.items (c.loop-place.invariant.1 c.requires.walked.0)

pub loop-place-smaller : goal.loop-place-smaller
loop-place-smaller c =
    earlier_place c.args.matrix.now c.requires.walked.0 c.args.start.row c.args.start.column c.args.walk.now c.loop-place.place c.index-step-in-loop-place.result.now c.requires.walked.1 c.loop-place-test.true c.loop-place.invariant.0 c.index-step-in-loop-place.ensures
