use Rattle.std.proofs.Common.{◌≡◌, ◌<◌, ◌+◌, ◌-◌, ◌*◌, ◌/◌, ◌%◌, ℕ, false, ap, arith, inl, inr, subst}
use Rattle.std.proofs.lemmas.Bool.{cases_lt}
use Rattle.line_growth.specs.GrowingLines.{Growth, is_inside}
use Rattle.line_growth.proofs.LineSteps.{other_out, others_in}
use Rattle.line_growth.proofs.growing_lines.GrowingLines.next_outside.Goals as goal

pub returns-then-next-size : goal.returns-then-next-size
returns-then-next-size c =
    let lines = c.args.self.now in
    let line = c.loop-line.line in
    let bit = c.in-Some.bit in
    let found = c.in-Some.ensures in
    let few : bit < 64 = let l = found.1 in omega arith in
    let next : 64 * (line / 64) + bit ≡ line - line % 64 + bit = omega arith in
    record {
      low = let a = found.0 in let b = c.loop-line.invariant.low in omega arith;
      line_in = let l = c.if-next-size.true in let s = ap (λ (v : Growth). v.inside.size) c.self.view_is in let e = c.size-size.ensures.size in omega arith;
      outside = subst (λ (z : ℕ). is_inside lines z ≡ false) next (other_out lines (line / 64) c.others.result c.others.ensures bit few found.2);
      between = λ x low high. elim (cases_lt x line) [
        | inl before ↦ c.loop-line.invariant.between x low before (let l = c.if-next-size.true in let s = ap (λ (v : Growth). v.inside.size) c.self.view_is in let e = c.size-size.ensures.size in omega arith)
        | inr after ↦ others_in lines (line / 64) c.others.result c.others.ensures (line % 64) bit (omega arith) found.3 x (omega arith) (omega arith)
      ];
    }

pub returns-in-Some : goal.returns-in-Some
returns-in-Some c = λ x low inside.
    let lines = c.args.self.now in
    let line = c.loop-line.line in
    let bit = c.in-Some.bit in
    let found = c.in-Some.ensures in
    elim (cases_lt x line) [
      | inl before ↦ c.loop-line.invariant.between x low before inside
      | inr after ↦ others_in lines (line / 64) c.others.result c.others.ensures (line % 64) bit (let l = found.1 in omega arith) found.3 x (omega arith)
          (let l = c.if-next-size.false in let s = ap (λ (v : Growth). v.inside.size) c.self.view_is in let e = c.size-size.ensures.size in omega arith)
    ]

pub loop-line-preserved : goal.loop-line-preserved
loop-line-preserved c =
    let lines = c.args.self.now in
    let line = c.loop-line.line in
    record {
      low = let b = c.loop-line.invariant.low in omega arith;
      between = λ x low high inside. elim (cases_lt x line) [
        | inl before ↦ c.loop-line.invariant.between x low before inside
        | inr after ↦ others_in lines (line / 64) c.others.result c.others.ensures (line % 64) 64 (omega arith) (λ k first last. c.in_default.ensures k first) x (omega arith) (omega arith)
      ];
    }
