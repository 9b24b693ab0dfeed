use Rattle.std.proofs.Common.{◌≡◌, ℕ, ℤ, pos, ◌+ℤ◌, ◌*ℤ◌, false, true, inl, inr, arith}
use Rattle.cmr_base.specs.Matrix.{Matrix, entry}
use Rattle.cmr_base.specs.Trees.{support}
use Rattle.cmr_base.proofs.Booleans.{false_is, not_both, zero_is}
use Rattle.cmr_base.proofs.Integers.{products, sums}
use Rattle.cmr_base.proofs.RowLists.{two_cases}
use Rattle.line_growth.specs.declared.rule.Sum.{Sum}
use Rattle.line_growth.specs.GrowingLines.{Growth, HasGrown, HasPulled, is_inside}
use Rattle.line_growth.specs.Rules.{sum_at}
use Rattle.line_growth.proofs.LineSteps.{grown_joined}
use Rattle.line_growth.proofs.growing_lines.GrowingLines.pull_by_nonzeros.Goals as goal

zero_sum : (x y z f g : ℤ) → x ≡ pos 0 → y ≡ pos 0 → z ≡ pos 0 → x ≡ f *ℤ y +ℤ g *ℤ z
zero_sum x y z f g ex ey ez = rw (ex, ey, ez) (simp products (omega (arith, sums)))

module _ (m : Matrix) (row : ℕ) (sum : Sum) where
  abbrev agrees : ℕ → Type 0
  agrees x = entry m row x ≡ sum_at m sum x

  abbrev Agree : ℕ → Growth → Type 0
  Agree along lines = (x : ℕ) → support m along x ≡ true → is_inside lines x ≡ false → agrees x

  out_before : (before after : Growth) (x : ℕ) → HasGrown (λ y. ¬ (agrees y)) before after → is_inside after x ≡ false → is_inside before x ≡ false
  out_before before after x grown e = false_is (is_inside before x) (λ t. not_both (is_inside after x) (grown.kept x t) e)

  -- along the row, and then along the others
  all_pulled : (start first second third : Growth) → HasGrown (λ y. ¬ (agrees y)) start first → HasGrown (λ y. ¬ (agrees y)) first second → HasGrown (λ y. ¬ (agrees y)) second third
      → Agree row first → Agree sum.first second → Agree sum.other third → HasPulled agrees start third
  all_pulled start first second third one_grown two_grown three_grown one_agree two_agree three_agree =
      let to_second = grown_joined (λ y. ¬ (agrees y)) start first second one_grown (λ y. ¬ (agrees y)) two_grown (λ x n. n) in
      record {
        grown = grown_joined (λ y. ¬ (agrees y)) start second third to_second (λ y. ¬ (agrees y)) three_grown (λ x n. n);
        agree = λ x l e.
            let out_second = out_before second third x three_grown e in
            elim (two_cases (support m row x)) [
              | inl t ↦ one_agree x t (out_before first second x two_grown out_second)
              | inr zero ↦ elim (two_cases (support m sum.first x)) [
                | inl t ↦ two_agree x t out_second
                | inr zero_one ↦ elim (two_cases (support m sum.other x)) [
                  | inl t ↦ three_agree x t e
                  | inr zero_other ↦ zero_sum (entry m row x) (entry m sum.first x) (entry m sum.other x) sum.factors.first sum.factors.other (zero_is (entry m row x) zero) (zero_is (entry m sum.first x) zero_one) (zero_is (entry m sum.other x) zero_other)
                ]
              ]
            ];
      }

pub returns-clause-pulled : goal.returns-clause-pulled
returns-clause-pulled c =
    all_pulled c.args.matrix.now c.args.row c.args.sum c.args.self.now c.pull_along.new.self c.pull_along-2.new.self c.pull_along-3.new.self
    c.in_ok-pull_along.ensures.grown c.in_ok-pull_along-2.ensures.grown c.in_ok-pull_along-3.ensures.grown
    c.in_ok-pull_along.ensures.agree c.in_ok-pull_along-2.ensures.agree c.in_ok-pull_along-3.ensures.agree
