use Rattle.std.proofs.Common.{◌≡◌, ◌<◌, ◌≤◌, ◌+◌, ℕ, Bool, true, false, inl, inr, subst, sym, arith}
use Rattle.std.proofs.lemmas.Bool.{cases_lt}
use Rattle.cmr_base.specs.Matrix.{entry}
use Rattle.cmr_base.specs.Trees.{support}
use Rattle.cmr_base.proofs.Booleans.{false_is, not_both}
use Rattle.line_growth.specs.GrowingLines.{Growth, HasGrown, is_inside}
use Rattle.line_growth.specs.Rules.{sum_at}
use Rattle.line_growth.proofs.LineSteps.{grown_more}
use Rattle.line_growth.proofs.growing_lines.GrowingLines.pull_along.Goals as goal
use Rattle.line_growth.proofs.growing_lines.GrowingLines.pull_along.Goals.{then-is_unlike+in_ok-add, else-is_unlike}

-- another line is examined, and the row is 0 in the columns before it
looked : (along : ℕ → Bool) (agrees : ℕ → Type 0) (lines after : Growth) (from line : ℕ) → ((x : ℕ) → from ≤ x → x < line → along x ≡ false)
    → ((x : ℕ) → x < from → along x ≡ true → is_inside lines x ≡ false → agrees x)
    → ((x : ℕ) → is_inside lines x ≡ true → is_inside after x ≡ true) → (is_inside after line ≡ false → agrees line) → (x : ℕ) → x < line + 1 → along x ≡ true → is_inside after x ≡ false → agrees x
looked along agrees lines after from line zeros done kept here x l t e = elim (cases_lt x line) [
  | inl low ↦ elim (cases_lt x from) [
    | inl before ↦ done x before t (false_is (is_inside lines x) (λ s. not_both (is_inside after x) (kept x s) e))
    | inr between ↦ absurd (not_both (along x) t (zeros x between low))
  ]
  | inr high ↦ let q : x ≡ line = omega arith in subst agrees (sym q) (here (subst (λ (z : ℕ). is_inside after z ≡ false) q e))
]

pub loop-line-preserved : goal.loop-line-preserved
loop-line-preserved c =
    let m = c.args.matrix.now in
    let agrees : ℕ → Type 0 = λ x. entry m c.args.row x ≡ sum_at m c.args.sum x in
    let along = support m c.args.along in
    let lines = c.loop-line.self in
    let line = c.in-Some.line in
    let from = c.loop-line.from in
    let so = c.loop-line.invariant in
    let zeros = c.in-Some.ensures.first.3 in
    let few : line + 1 ≤ 1000 = let l = c.in-Some.ensures.small in omega arith in
    elim c.if-is_unlike.branch [
      | then-is_unlike+in_ok-add w ↦
          let added = w.in_ok-add.ensures.added in
          record {
            grown = subst (λ (h : Growth). HasGrown (λ x. ¬ (agrees x)) c.args.self.now h) (sym w.self-is)
                (grown_more (λ x. ¬ (agrees x)) c.args.self.now lines w.add.new.self so.grown line added (c.is_unlike.ensures.yes w.if-is_unlike.true));
            done = subst (λ (h : Growth). (x : ℕ) → x < line + 1 → along x ≡ true → is_inside h x ≡ false → agrees x) (sym w.self-is)
                (looked along agrees lines w.add.new.self from line zeros so.done added.grown.kept (λ e. absurd (not_both (is_inside w.add.new.self line) added.line_in e)));
            few = few;
          }
      | else-is_unlike w ↦ record {
        grown = subst (λ (h : Growth). HasGrown (λ x. ¬ (agrees x)) c.args.self.now h) (sym w.self-is) so.grown;
        done = subst (λ (h : Growth). (x : ℕ) → x < line + 1 → along x ≡ true → is_inside h x ≡ false → agrees x) (sym w.self-is)
            (looked along agrees lines lines from line zeros so.done (λ x e. e) (λ e. elim (c.is_unlike.ensures.no w.if-is_unlike.false) [ inl t ↦ absurd (not_both (is_inside lines line) t e) | inr h ↦ h ]));
        few = few;
      }
    ]

pub returns-clause-agree : goal.returns-clause-agree
returns-clause-agree c = λ x t e. elim (cases_lt x c.loop-line.from) [
  | inl l ↦ c.loop-line.invariant.done x l t e
  | inr past ↦ absurd (not_both (support c.args.matrix.now c.args.along x) t (c.in_default.ensures.first x past))
]
