use Rattle.std.proofs.Common.{◌<◌, ◌∙◌, ℕ, length, ap, sym, subst, inl, inr, arith}
use Rattle.cmr_base.specs.Matrix.{entry}
use Rattle.cmr_base.proofs.Booleans.{nonzero_is, zero_is}
use Rattle.camion_sign.specs.declared.walk.Walk.{Walk}
use Rattle.camion_sign.proofs.FreshColumns.{passed_in_step}
use Rattle.camion_sign.proofs.Steps.{begin_walk, pass_first, smaller, skip_place, went_on, end_walk, is_walking, step_is}
use Rattle.camion_sign.proofs.reach.walk_from.Goals as goal
use Rattle.camion_sign.proofs.reach.walk_from.Goals.{then-head-eq0+in_ok-pending, else-head-eq0+else-not-is_in, then-head-eq0-via-then-head-eq0, then-head-eq0-via-else-head-eq0+then-not-is_in}

pub loop-head-init : goal.loop-head-init
loop-head-init c =
    let m = c.args.matrix.now in
    let t = c.args.start.row in
    let first = c.args.start.column in
    let begun = c.in_ok-begin.ensures in
    let walk : Walk = record { steps = c.begin.new.self.steps; places = c.begin.new.self.places; used = c.begin.new.self.used; reached = c.pass_earlier.new.reached } in
    let step = passed_in_step m t first c.begin.new.self.places.items c.begin.new.self.reached c.pass_earlier.new.reached (begun.in_step m t first) c.pass_earlier.ensures.only c.pass_earlier.ensures.kept in
    pass_first m c.args.values.now t first c.first_waiting-pending.result walk c.args.waiting.now.words
    (begin_walk m c.args.values.now t first c.args.walk.now walk c.requires.fits c.requires.column begun.steps begun.places begun.rows begun.unused (c.pass_earlier.ensures.size ∙ begun.columns) step) step c.requires.waiting.waits
    c.first_waiting-pending.ensures.from (omega (arith, c.first_waiting-pending.ensures.width, c.requires.waiting.size)) c.first_waiting-pending.ensures.reached

pub loop-head-smaller : goal.loop-head-smaller
loop-head-smaller c =
    smaller c.args.matrix.now c.args.values.now c.args.start.row c.args.start.column c.loop-head.head c.loop-head.pending c.loop-head.walk c.loop-head.invariant
    (let e = c.columns.ensures.columns in let l = c.if-pending-columns.true in omega arith) (let e = c.len.ensures in let l = c.loop-head-test.true in omega arith)

pub loop-head-preserved : goal.loop-head-preserved
loop-head-preserved c =
    let m = c.args.matrix.now in
    elim c.if-head-eq0.branch [
      | then-head-eq0+in_ok-pending w ↦
          went_on m c.args.values.now c.args.start.row c.args.start.column c.loop-head.head w.in_ok-pending.pending c.if-head-eq0.pending w.reach_rows.new.walk c.if-head-eq0.walk w.in_ok-pending.ensures.walk w.in_ok-pending.ensures.pending w.in_ok-pending.ensures.waits w.walk-is w.pending-is
      | else-head-eq0+else-not-is_in w ↦
          skip_place m c.args.values.now c.args.start.row c.args.start.column c.loop-head.head c.loop-head.pending c.if-head-eq0.pending c.loop-head.walk c.if-head-eq0.walk w.index.result.now c.loop-head.invariant
          (let e = c.columns.ensures.columns in let l = c.if-pending-columns.true in omega arith) (let e = c.len.ensures in let l = c.loop-head-test.true in omega arith)
          w.if-head-eq0.false w.index.ensures (nonzero_is (entry m c.args.start.row w.index.result.now.column) (sym (c.row_words-ends.ensures.columns w.index.result.now.column) ∙ sym w.is_in.ensures ∙ w.if-not-is_in.false)) w.walk-is w.pending-is
    ]

pub returns-else-pending-columns : goal.returns-else-pending-columns
returns-else-pending-columns c =
    end_walk c.args.matrix.now c.args.values.now c.args.start.row c.args.start.column c.loop-head.head c.loop-head.pending c.loop-head.walk c.loop-head.invariant c.requires.row
    (inr (let e = c.columns.ensures.columns in let l = c.if-pending-columns.false in omega arith))

pub returns-after-loop-head : goal.returns-after-loop-head
returns-after-loop-head c =
    end_walk c.args.matrix.now c.args.values.now c.args.start.row c.args.start.column c.loop-head.head c.loop-head.pending c.loop-head.walk c.loop-head.invariant c.requires.row
    (inl (let e = c.len.ensures in let l = c.loop-head-test.false in omega arith))

pub is_in-requires : goal.is_in-requires
is_in-requires c =
    let within : c.loop-head.head < length c.loop-head.walk.steps.items = omega (arith, c.len.ensures, c.loop-head-test.true) in
    let is = step_is c.loop-head.walk.steps.items c.loop-head.head c.index.result.now within c.index.ensures in
    let walking = is_walking c.args.matrix.now c.args.values.now c.args.start.row c.args.start.column c.loop-head.head c.loop-head.pending c.loop-head.walk c.loop-head.invariant (omega (arith, c.columns.ensures.columns, c.if-pending-columns.true)) in
    let wide = subst (λ (j : ℕ). j < c.args.matrix.now.width) (ap (λ v. v.column) is) (walking.prefix.queue.inside c.loop-head.head within) in
    omega (arith, wide, c.row_words-ends.ensures.whole.long)

pub reach_rows-requires-clause-open : goal.reach_rows-requires-clause-open
reach_rows-requires-clause-open c =
    let within : c.loop-head.head < length c.loop-head.walk.steps.items = omega (arith, c.len.ensures, c.loop-head-test.true) in
    elim c.then-head-eq0.branch [
      | then-head-eq0-via-then-head-eq0 w ↦ record { within = within; goes = inl w.if-head-eq0.true }
      | then-head-eq0-via-else-head-eq0+then-not-is_in w ↦ record {
        within = within;
        goes = inr (ap (λ v. entry c.args.matrix.now c.args.start.row v.column) (step_is c.loop-head.walk.steps.items c.loop-head.head w.index.result.now within w.index.ensures)
            ∙ zero_is (entry c.args.matrix.now c.args.start.row w.index.result.now.column) (sym (c.row_words-ends.ensures.columns w.index.result.now.column) ∙ sym w.is_in.ensures ∙ w.if-not-is_in.true));
      }
    ]

pub reach_rows-requires-clause-walking : goal.reach_rows-requires-clause-walking
reach_rows-requires-clause-walking c =
    is_walking c.args.matrix.now c.args.values.now c.args.start.row c.args.start.column c.loop-head.head c.loop-head.pending c.loop-head.walk c.loop-head.invariant (omega (arith, c.columns.ensures.columns, c.if-pending-columns.true))

pub reach_rows-requires-clause-pending : goal.reach_rows-requires-clause-pending
reach_rows-requires-clause-pending c = c.loop-head.invariant.pending_in

pub reach_rows-requires-clause-waits : goal.reach_rows-requires-clause-waits
reach_rows-requires-clause-waits c = c.loop-head.invariant.waits
