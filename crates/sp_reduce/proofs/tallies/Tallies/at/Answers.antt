use Rattle.std.proofs.Common.{◌≡◌, ℕ, List, length, get_or, ap, subst, arith, length-append}
use Rattle.std.proofs.lemmas.List.{get_or_read}
use Rattle.sp_reduce.specs.Tallies.{AreTalliesAt}
use Rattle.sp_reduce.proofs.Loops.{pushed_each}
use Rattle.sp_reduce.proofs.tallies.Tallies.at.Goals as goal

pub lines-preserved : goal.lines-preserved
lines-preserved c =
    let lines = c.args.lines.now in
    let all = c.args.self.now in
    let i = c.lines.line-index in
    let is = c.lines.invariant in
    let line = get_or lines i 0 in
    let counts = c.lines.tallies.counts.items in
    let sums = c.lines.tallies.sums.items in
    let minus_sums = c.lines.tallies.minus_sums.items in
    let more_counts = c.in_ok-push.ensures.items in
    let more_sums = c.in_ok-push-2.ensures.items in
    let more_minus_sums = c.in_ok-push-3.ensures.items in
    record {
      many_counts = omega (arith, simp length-append at (ap (λ (xs : List ℕ). length xs) more_counts), is.many_counts);
      many_sums = omega (arith, simp length-append at (ap (λ (xs : List ℕ). length xs) more_sums), is.many_sums);
      many_minus_sums = omega (arith, simp length-append at (ap (λ (xs : List ℕ). length xs) more_minus_sums), is.many_minus_sums);
      counts = pushed_each counts c.push.new.self.items c.index.result.now (λ (at : ℕ). get_or all.counts.items (get_or lines at 0) 0) i is.many_counts more_counts
          (get_or_read all.counts.items line c.index.result.now (c.requires.counts i c.lines-test.true) c.index.ensures 0) is.counts;
      sums = pushed_each sums c.push-in-lines.new.self.items c.index-in-lines.result.now (λ (at : ℕ). get_or all.sums.items (get_or lines at 0) 0) i is.many_sums more_sums
          (get_or_read all.sums.items line c.index-in-lines.result.now (c.requires.sums i c.lines-test.true) c.index-in-lines.ensures 0) is.sums;
      minus_sums = pushed_each minus_sums c.push-in-lines-2.new.self.items c.index-in-lines-2.result.now (λ (at : ℕ). get_or all.minus_sums.items (get_or lines at 0) 0) i is.many_minus_sums more_minus_sums
          (get_or_read all.minus_sums.items line c.index-in-lines-2.result.now (c.requires.minus_sums i c.lines-test.true) c.index-in-lines-2.ensures 0) is.minus_sums;
    }

pub returns : goal.returns
returns c =
    let e : c.lines.line-index ≡ length c.args.lines.now = omega (arith, c.lines-test.false) in
    subst (λ (count : ℕ). AreTalliesAt c.args.lines.now count c.args.self.now c.lines.tallies) e c.lines.invariant
