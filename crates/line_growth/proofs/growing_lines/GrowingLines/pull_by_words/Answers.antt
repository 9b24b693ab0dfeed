use Rattle.std.proofs.Common.{◌≡◌, ◌<◌, ◌+◌, ◌*◌, ◌&&◌, not, ℕ, true, false, subst, sym, arith}
use Rattle.cmr_base.specs.Differences.{differs_at}
use Rattle.cmr_base.specs.Planes.{has_bit}
use Rattle.cmr_base.proofs.DifferenceWords.{difference_in}
use Rattle.cmr_base.proofs.WordBits.{no_bit}
use Rattle.line_growth.specs.GrowingLines.{Growth, HasGrown, IsBitOf, is_inside}
use Rattle.line_growth.proofs.LineSteps.{IsMultipleAt, differing, found_passes, grown_joined, pulled_until}
use Rattle.line_growth.proofs.growing_lines.GrowingLines.pull_by_words.Goals as goal
use Rattle.line_growth.proofs.growing_lines.GrowingLines.pull_by_words.Goals.{then-word-ne0+in_ok-add_word, else-word-ne0}

pub add_word-requires-clause-lines : goal.add_word-requires-clause-lines
add_word-requires-clause-lines c = λ k l e.
    let m = c.args.matrix.now in
    let line = 64 * c.loop-chunk.chunk + k in
    let factor = c.args.multiple.factor in
    let t = found_passes (has_bit c.unlike-word.result k) (differs_at m c.args.row factor c.args.multiple.model line) (is_inside c.loop-chunk.self line) (c.unlike-word.ensures k l) e in
    let low = difference_in m c.args.row factor c.args.multiple.model line c.columns.ensures.shape c.requires.row c.requires.model t in
    let s = c.loop-chunk.invariant.grown.size in
    let w = c.requires.width in
    omega arith

pub loop-chunk-preserved : goal.loop-chunk-preserved
loop-chunk-preserved c =
    let m = c.args.matrix.now in
    let factor = c.args.multiple.factor in
    let model = c.args.multiple.model in
    let agrees = IsMultipleAt m c.args.row factor model in
    let lines = c.loop-chunk.self in
    let chunk = c.loop-chunk.chunk in
    let word = c.unlike-word.result in
    let so = c.loop-chunk.invariant in
    let word_is : (k : ℕ) → k < 64 → has_bit word k ≡ (differs_at m c.args.row factor model (64 * chunk + k) && not (is_inside lines (64 * chunk + k))) = c.unlike-word.ensures in
    elim c.if-word-ne0.branch [
      | then-word-ne0+in_ok-add_word w ↦
          let added = w.add_word.new.self in
          let grown = w.in_ok-add_word.ensures.grown in
          let passes : (x : ℕ) → IsBitOf (64 * chunk) word x → ¬ (agrees x) =
          λ x b. subst (λ (z : ℕ). ¬ (agrees z)) (sym b.3) (differing m c.args.row factor model (64 * chunk + b.0)
          (found_passes (has_bit word b.0) (differs_at m c.args.row factor model (64 * chunk + b.0)) (is_inside lines (64 * chunk + b.0)) (word_is b.0 b.1) b.2)) in
          record {
            grown = subst (λ (h : Growth). HasGrown (λ x. ¬ (agrees x)) c.args.self.now h) (sym w.self-is)
                (grown_joined (λ x. ¬ (agrees x)) c.args.self.now lines added so.grown (IsBitOf (64 * chunk) word) grown passes);
            done = subst (λ (h : Growth). (x : ℕ) → x < 64 * (chunk + 1) → is_inside h x ≡ false → agrees x) (sym w.self-is)
                (pulled_until m c.args.row factor model chunk word lines added word_is so.done grown.kept w.in_ok-add_word.ensures.taken);
          }
      | else-word-ne0 w ↦
          let none : (k : ℕ) → has_bit word k ≡ true → ⊥ = λ k e. no_bit word k (let z = w.if-word-ne0.false in omega (arith, z)) e in
          record {
            grown = subst (λ (h : Growth). HasGrown (λ x. ¬ (agrees x)) c.args.self.now h) (sym w.self-is) so.grown;
            done = subst (λ (h : Growth). (x : ℕ) → x < 64 * (chunk + 1) → is_inside h x ≡ false → agrees x) (sym w.self-is)
                (pulled_until m c.args.row factor model chunk word lines lines word_is so.done (λ x e. e) (λ k l e. absurd (none k e)));
          }
    ]

pub returns-clause-pulled : goal.returns-clause-pulled
returns-clause-pulled c = record {
  grown = c.loop-chunk.invariant.grown;
  agree = λ x l e. c.loop-chunk.invariant.done x (let t = c.loop-chunk-test.false in let s = c.loop-chunk.invariant.grown.size in omega (arith, c.requires.width)) e;
}
