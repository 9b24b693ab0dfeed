use Rattle.std.proofs.Common.{◌≡◌, ◌+◌, ◌*◌, ◌&&◌, ◌∙◌, ℕ, List, not, false, get_or, subst, arith, ap, sym, refl}
use Rattle.cmr_base.specs.Planes.{has_bit}
use Rattle.cmr_base.proofs.WordBits.{has_bit-zero}
use Rattle.camion_sign.specs.declared.walk.Walk.{Walk}
use Rattle.camion_sign.specs.Walks.{HasOneMore, IsReaching, step_at}
use Rattle.camion_sign.proofs.Steps.{any_step, end_row, pass_bits, reach_more, reach_self, start_chunk, start_row, within}
use Rattle.camion_sign.proofs.reach.reach_row.Goals as goal
use Rattle.camion_sign.proofs.reach.reach_row.Goals.{then-fresh-ne0+in_ok-reach_chunk, else-fresh-ne0}

pub loop-chunk-init : goal.loop-chunk-init
loop-chunk-init c =
    let steps = c.args.walk.now.steps.items in
    start_row c.args.matrix.now c.args.values.now c.args.start.row c.args.start.column c.args.head c.args.row (step_at steps c.args.head) c.args.walk.now c.requires.walking c.requires.open
    (any_step steps c.args.head (record { column = 0; row = 0; before = 0; is_two = false }) (step_at steps c.args.head) c.requires.open.within)

pub reach_chunk-requires-clause-reaching : goal.reach_chunk-requires-clause-reaching
reach_chunk-requires-clause-reaching c =
    let m = c.args.matrix.now in
    let values = c.args.values.now in
    let t = c.args.start.row in
    let first = c.args.start.column in
    let h = c.args.head in
    let r = c.args.row in
    let chunk = c.loop-chunk.chunk in
    let walk = c.loop-chunk.walk in
    start_chunk m values t first h r chunk c.outside-fresh.result (step_at walk.steps.items h) walk walk c.row_words-columns.result.now
    (reach_self m values t first h r (64 * chunk) (step_at c.args.walk.now.steps.items h) c.args.walk.now walk c.loop-chunk.invariant) c.row_words-columns.ensures.columns
    (λ k l. c.outside-fresh.ensures k l ∙ ap (λ (words : List ℕ). has_bit (get_or c.row_words-columns.result.now chunk 0) k && not (has_bit (get_or words chunk 0) k)) c.words.ensures.words)

pub loop-chunk-preserved : goal.loop-chunk-preserved
loop-chunk-preserved c =
    let m = c.args.matrix.now in
    let values = c.args.values.now in
    let t = c.args.start.row in
    let first = c.args.start.column in
    let h = c.args.head in
    let r = c.args.row in
    let chunk = c.loop-chunk.chunk in
    let old = c.args.walk.now in
    let walk = c.loop-chunk.walk in
    let next : 64 * chunk + 64 ≡ 64 * (chunk + 1) = omega arith in
    subst (λ (high : ℕ). IsReaching m values t first h r high (step_at old.steps.items h) old c.if-fresh-ne0.walk) next (elim c.if-fresh-ne0.branch [
      | then-fresh-ne0+in_ok-reach_chunk w ↦ subst (λ (v : Walk). IsReaching m values t first h r (64 * chunk + 64) (step_at old.steps.items h) old v) (sym w.walk-is)
          (reach_more m values t first h r (64 * chunk) (64 * chunk + 64) (step_at old.steps.items h) old walk w.reach_chunk.new.walk c.loop-chunk.invariant w.in_ok-reach_chunk.ensures)
      | else-fresh-ne0 w ↦
          let zero : c.outside-fresh.result ≡ 0 = omega (arith, w.if-fresh-ne0.false) in
          let begun = start_chunk m values t first h r chunk c.outside-fresh.result (step_at old.steps.items h) old walk c.row_words-columns.result.now c.loop-chunk.invariant c.row_words-columns.ensures.columns
          (λ k l. c.outside-fresh.ensures k l ∙ ap (λ (words : List ℕ). has_bit (get_or c.row_words-columns.result.now chunk 0) k && not (has_bit (get_or words chunk 0) k)) c.words.ensures.words) in
          subst (λ (v : Walk). IsReaching m values t first h r (64 * chunk + 64) (step_at old.steps.items h) old v) (sym w.walk-is)
          (pass_bits m values t first h r chunk c.outside-fresh.result (step_at old.steps.items h) old walk begun 64 (omega arith) begun.inside
          (λ k l. ap (λ (word : ℕ). has_bit word k) zero ∙ has_bit-zero k))
    ])

pub returns-clause-walking : goal.returns-clause-walking
returns-clause-walking c =
    let m = c.args.matrix.now in
    let t = c.args.start.row in
    let r = c.args.row in
    let old = c.args.walk.now in
    let walk = c.loop-chunk.walk in
    let one : HasOneMore walk.used r c.insert.new.self = record { size = c.insert.ensures.size; only = c.insert.ensures.only; here = c.insert.ensures.here; kept = c.insert.ensures.kept } in
    end_row m c.args.values.now t c.args.start.column c.args.head r (64 * c.loop-chunk.chunk) (step_at old.steps.items c.args.head) old walk _ c.loop-chunk.invariant
    (λ x up n z. let low = within m r x c.requires.walking.fits.matrix (omega (arith, c.requires.early, c.requires.row)) n in
    absurd (let long = c.row_words-columns.ensures.whole.long in let past = c.loop-chunk-test.false in omega arith)) refl refl one refl
