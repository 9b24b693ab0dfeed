use Rattle.std.proofs.Common.{ℕ}
use Rattle.std.proofs.lemmas.List.Sorted.{IsNonDecreasingBy-from_sort}
use Rattle.cuts.proofs.PatternLemmas.{open_sorted}
use Rattle.cuts.proofs.patterns.sorted_classes.Goals as goal

pub returns-clause-increasing : goal.returns-clause-increasing
returns-clause-increasing c = IsNonDecreasingBy-from_sort (λ (x : ℕ). x) c.sort_unstable.new.self.items c.sort_unstable.ensures.sorted

pub returns-clause-listed : goal.returns-clause-listed
returns-clause-listed c =
    let classes = c.args.classes.now in
    open_sorted classes.own.now.words classes.numbers.now c.in_ok-sorted.sorted.items c.sort_unstable.new.self.items classes.own.now.size c.in_ok-sorted.ensures.listed c.sort_unstable.ensures.permutation
