use Rattle.std.proofs.Common.{◌≢◌, ◌<◌, ◌-◌, ◌∙◌, ℕ, ◌+◌, pos, ap, sym, subst, inl, inr, arith}
use Rattle.cmr_base.specs.BitSets.{AreWordsOf}
use Rattle.cmr_base.specs.Matrix.{entry}
use Rattle.camion_sign.proofs.FreshColumns.{unused_meets, used_if_meets}
use Rattle.camion_sign.proofs.Steps.{start_rows, walks_from, take_row, end_rows, settle_rows, step_is, waits_or}
use Rattle.camion_sign.proofs.reach.reach_rows.Goals as goal

pub column_words-rows-requires : goal.column_words-rows-requires
column_words-rows-requires c =
    let is = step_is c.args.walk.now.steps.items c.args.head c.index.result.now c.requires.open.within c.index.ensures in
    subst (λ (j : ℕ). j < c.args.matrix.now.width) (ap (λ v. v.column) is) (c.requires.walking.prefix.queue.inside c.args.head c.requires.open.within)

pub loop-row-init : goal.loop-row-init
loop-row-init c = start_rows c.args.matrix.now c.args.values.now c.args.start.row c.args.start.column c.args.head c.args.pending c.args.walk.now c.requires.walking c.requires.open c.requires.pending c.requires.waits

pub next_unused-requires-clause-rows : goal.next_unused-requires-clause-rows
next_unused-requires-clause-rows c = subst (λ (size : ℕ). AreWordsOf size c.column_words-rows.result.now) (sym c.loop-row.invariant.walking.fits.rows) c.column_words-rows.ensures.whole

pub next_unused-requires-clause-from : goal.next_unused-requires-clause-from
next_unused-requires-clause-from c = omega (arith, c.loop-row.invariant.low_in, c.requires.row, c.loop-row.invariant.walking.fits.matrix.height_in)

pub returns-then-row-start-clause-walk : goal.returns-then-row-start-clause-walk
returns-then-row-start-clause-walk c =
    let m = c.args.matrix.now in
    let walk = c.loop-row.walk in
    let is = step_is c.args.walk.now.steps.items c.args.head c.index.result.now c.requires.open.within c.index.ensures in
    inl (end_rows m c.args.values.now c.args.start.row c.args.start.column c.args.head c.loop-row.low c.args.walk.now walk c.loop-row.invariant
    (λ r up early leads. used_if_meets m c.index.result.now.column c.column_words-rows.result.now walk.used.words c.column_words-rows.ensures.rows r
    (c.in-Some.ensures.2 r up (let late = c.if-row-start.true in omega arith)) (subst (λ (y : ℕ). entry m r y ≢ pos 0) (ap (λ v. v.column) is) leads)))

pub returns-then-row-start-clause-pending : goal.returns-then-row-start-clause-pending
returns-then-row-start-clause-pending c = c.loop-row.invariant.pending_in

pub returns-then-row-start-clause-waits : goal.returns-then-row-start-clause-waits
returns-then-row-start-clause-waits c = c.loop-row.invariant.waits

pub reach_row-requires-clause-open : goal.reach_row-requires-clause-open
reach_row-requires-clause-open c = c.loop-row.invariant.open_is

pub reach_row-requires-clause-leads : goal.reach_row-requires-clause-leads
reach_row-requires-clause-leads c =
    let m = c.args.matrix.now in
    let is = step_is c.args.walk.now.steps.items c.args.head c.index.result.now c.requires.open.within c.index.ensures in
    let column_is = c.loop-row.invariant.column_is ∙ ap (λ v. v.column) is in
    subst (λ (y : ℕ). entry m c.in-Some.row y ≢ pos 0) (sym column_is)
    (unused_meets m c.index.result.now.column c.column_words-rows.result.now c.loop-row.walk.used.words c.column_words-rows.ensures.rows c.in-Some.row c.in-Some.ensures.1)

pub reach_row-requires-clause-walking : goal.reach_row-requires-clause-walking
reach_row-requires-clause-walking c =
    walks_from c.args.matrix.now c.args.values.now c.args.start.row c.args.start.column c.args.head c.loop-row.low c.args.walk.now c.loop-row.walk c.loop-row.invariant c.in-Some.row c.in-Some.ensures.0

pub first_waiting-pending-requires-clause-size : goal.first_waiting-pending-requires-clause-size
first_waiting-pending-requires-clause-size c = c.requires.waiting.size ∙ sym c.in_ok-reach_row.ensures.walking.fits.columns

pub first_waiting-pending-requires-clause-from : goal.first_waiting-pending-requires-clause-from
first_waiting-pending-requires-clause-from c = omega (arith, c.loop-row.invariant.pending_in, c.requires.waiting.size)

pub returns-then-pending-columns-clause-walk : goal.returns-then-pending-columns-clause-walk
returns-then-pending-columns-clause-walk c =
    let m = c.args.matrix.now in
    let walk = c.loop-row.walk in
    let is = step_is c.args.walk.now.steps.items c.args.head c.index.result.now c.requires.open.within c.index.ensures in
    let taken = take_row m c.args.values.now c.args.start.row c.args.start.column c.args.head c.loop-row.low c.args.walk.now walk c.loop-row.invariant c.in-Some.row c.reach_row.new.walk c.first_waiting-pending.result c.if-row-start.false
    (λ r up below leads. used_if_meets m c.index.result.now.column c.column_words-rows.result.now walk.used.words c.column_words-rows.ensures.rows r
    (c.in-Some.ensures.2 r up below) (subst (λ (y : ℕ). entry m r y ≢ pos 0) (ap (λ v. v.column) is) leads))
    c.in_ok-reach_row.ensures.walking c.in_ok-reach_row.ensures.grows c.in_ok-reach_row.ensures.used c.first_waiting-pending.ensures.from (omega (arith, c.first_waiting-pending.ensures.width, c.requires.waiting.size))
    (waits_or m c.args.start.row c.args.start.column c.loop-row.pending c.first_waiting-pending.result c.reach_row.new.walk.places.items c.args.waiting.now.words c.reach_row.new.walk.reached c.in_ok-reach_row.ensures.walking.in_step c.requires.waiting.waits c.first_waiting-pending.ensures.reached) in
    inr (c.if-pending-columns.true ∙ c.columns.ensures.columns, settle_rows m c.args.values.now c.args.start.row c.args.start.column c.args.head (c.in-Some.row + 1) c.args.walk.now c.reach_row.new.walk taken)

pub returns-then-pending-columns-clause-pending : goal.returns-then-pending-columns-clause-pending
returns-then-pending-columns-clause-pending c = omega (arith, c.first_waiting-pending.ensures.width, c.requires.waiting.size)

pub returns-then-pending-columns-clause-waits : goal.returns-then-pending-columns-clause-waits
returns-then-pending-columns-clause-waits c =
    let m = c.args.matrix.now in
    let walk = c.loop-row.walk in
    let is = step_is c.args.walk.now.steps.items c.args.head c.index.result.now c.requires.open.within c.index.ensures in
    let taken = take_row m c.args.values.now c.args.start.row c.args.start.column c.args.head c.loop-row.low c.args.walk.now walk c.loop-row.invariant c.in-Some.row c.reach_row.new.walk c.first_waiting-pending.result c.if-row-start.false
    (λ r up below leads. used_if_meets m c.index.result.now.column c.column_words-rows.result.now walk.used.words c.column_words-rows.ensures.rows r
    (c.in-Some.ensures.2 r up below) (subst (λ (y : ℕ). entry m r y ≢ pos 0) (ap (λ v. v.column) is) leads))
    c.in_ok-reach_row.ensures.walking c.in_ok-reach_row.ensures.grows c.in_ok-reach_row.ensures.used c.first_waiting-pending.ensures.from (omega (arith, c.first_waiting-pending.ensures.width, c.requires.waiting.size))
    (waits_or m c.args.start.row c.args.start.column c.loop-row.pending c.first_waiting-pending.result c.reach_row.new.walk.places.items c.args.waiting.now.words c.reach_row.new.walk.reached c.in_ok-reach_row.ensures.walking.in_step c.requires.waiting.waits c.first_waiting-pending.ensures.reached) in
    taken.waits

pub overflow_add-low : goal.overflow_add-low
overflow_add-low c = omega (arith, c.if-row-start.false, c.requires.row, c.loop-row.invariant.walking.fits.matrix.height_in)

pub loop-row-smaller : goal.loop-row-smaller
loop-row-smaller c =
    let less : c.args.start.row - (c.in-Some.row + 1) < c.args.start.row - c.loop-row.low = omega (arith, c.if-row-start.false, c.in-Some.ensures.0) in
    less

pub loop-row-preserved : goal.loop-row-preserved
loop-row-preserved c =
    let m = c.args.matrix.now in
    let walk = c.loop-row.walk in
    let is = step_is c.args.walk.now.steps.items c.args.head c.index.result.now c.requires.open.within c.index.ensures in
    take_row m c.args.values.now c.args.start.row c.args.start.column c.args.head c.loop-row.low c.args.walk.now walk c.loop-row.invariant c.in-Some.row c.reach_row.new.walk c.first_waiting-pending.result c.if-row-start.false
    (λ r up below leads. used_if_meets m c.index.result.now.column c.column_words-rows.result.now walk.used.words c.column_words-rows.ensures.rows r
    (c.in-Some.ensures.2 r up below) (subst (λ (y : ℕ). entry m r y ≢ pos 0) (ap (λ v. v.column) is) leads))
    c.in_ok-reach_row.ensures.walking c.in_ok-reach_row.ensures.grows c.in_ok-reach_row.ensures.used c.first_waiting-pending.ensures.from (omega (arith, c.first_waiting-pending.ensures.width, c.requires.waiting.size))
    (waits_or m c.args.start.row c.args.start.column c.loop-row.pending c.first_waiting-pending.result c.reach_row.new.walk.places.items c.args.waiting.now.words c.reach_row.new.walk.reached c.in_ok-reach_row.ensures.walking.in_step c.requires.waiting.waits c.first_waiting-pending.ensures.reached)

pub returns-clause-walk : goal.returns-clause-walk
returns-clause-walk c =
    let m = c.args.matrix.now in
    let walk = c.loop-row.walk in
    let is = step_is c.args.walk.now.steps.items c.args.head c.index.result.now c.requires.open.within c.index.ensures in
    inl (end_rows m c.args.values.now c.args.start.row c.args.start.column c.args.head c.loop-row.low c.args.walk.now walk c.loop-row.invariant
    (λ r up early leads. used_if_meets m c.index.result.now.column c.column_words-rows.result.now walk.used.words c.column_words-rows.ensures.rows r
    (c.in_default.ensures r up) (subst (λ (y : ℕ). entry m r y ≢ pos 0) (ap (λ v. v.column) is) leads)))

pub returns-clause-pending : goal.returns-clause-pending
returns-clause-pending c = c.loop-row.invariant.pending_in

pub returns-clause-waits : goal.returns-clause-waits
returns-clause-waits c = c.loop-row.invariant.waits
