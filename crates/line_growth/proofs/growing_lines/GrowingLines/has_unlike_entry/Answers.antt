use Rattle.std.proofs.Common.{◌≡◌, ◌<◌, ◌≤◌, ◌+◌, ◌∙◌, ℕ, Bool, true, false, inl, inr, ap, subst, sym, arith}
use Rattle.std.proofs.lemmas.Bool.{cases_lt}
use Rattle.cmr_base.specs.Matrix.{entry}
use Rattle.cmr_base.proofs.Booleans.{not_both}
use Rattle.line_growth.specs.GrowingLines.{Growth, is_inside}
use Rattle.line_growth.specs.Rules.{sum_at}
use Rattle.line_growth.proofs.growing_lines.GrowingLines.has_unlike_entry.Goals as goal

-- another line is examined, and no line between is inside
looked : (inside : ℕ → Bool) (agrees : ℕ → Type 0) (from line : ℕ) → ((x : ℕ) → x < from → inside x ≡ true → agrees x)
    → ((x : ℕ) → from ≤ x → x < line → inside x ≡ false) → agrees line → (x : ℕ) → x < line + 1 → inside x ≡ true → agrees x
looked inside agrees from line done none here x l e = elim (cases_lt x line) [
  | inl low ↦ elim (cases_lt x from) [
    | inl before ↦ done x before e
    | inr between ↦ absurd (not_both (inside x) e (none x between low))
  ]
  | inr high ↦ let q : x ≡ line = omega arith in subst agrees (sym q) here
]

pub loop-line-preserved : goal.loop-line-preserved
loop-line-preserved c =
    let m = c.args.matrix.now in
    let view = c.self.view_is in
    let here = c.is_at.ensures.0 c.if-not-is_at.false in
    record {
      done = looked (is_inside c.args.self.now) (λ x. entry m c.args.row x ≡ sum_at m c.args.sum x) c.loop-line.from c.in-Some.line c.loop-line.invariant.done
          (λ x low high. sym (ap (λ (lines : Growth). is_inside lines x) view) ∙ c.in-Some.ensures.first x low high) here;
      few = let l = c.in-Some.ensures.inside in let s = ap (λ (lines : Growth). lines.inside.size) view in omega arith;
    }

pub returns-then-not-is_at : goal.returns-then-not-is_at
returns-then-not-is_at c =
    let view = c.self.view_is in (
      c.in-Some.line,
      (let l = c.in-Some.ensures.inside in let s = ap (λ (lines : Growth). lines.inside.size) view in omega arith),
      sym (ap (λ (lines : Growth). is_inside lines c.in-Some.line) view) ∙ c.in-Some.ensures.member,
      (λ e. not_both c.is_at.result (c.is_at.ensures.1 e) c.if-not-is_at.true),
    )

pub returns : goal.returns
returns c = λ x e. elim (cases_lt x c.loop-line.from) [
  | inl low ↦ c.loop-line.invariant.done x low e
  | inr past ↦ absurd (not_both (is_inside c.args.self.now x) e (sym (ap (λ (lines : Growth). is_inside lines x) c.self.view_is) ∙ c.in_default.ensures x past))
]

pub overflow_add-from : goal.overflow_add-from
overflow_add-from c =
    let l = c.in-Some.ensures.inside in
    let few = c.size-size.ensures.whole.few in
    omega arith
