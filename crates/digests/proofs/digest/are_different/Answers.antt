use Rattle.std.proofs.lemmas.List.Sorted.{IsNonDecreasingBy-from_sort}
use Rattle.digests.proofs.SortedNumbers.{different_when_sorted}
use Rattle.digests.proofs.digest.are_different.Goals as goal

pub returns-clause-sorted : goal.returns-clause-sorted
returns-clause-sorted c = IsNonDecreasingBy-from_sort (λ n. n) c.sort_unstable.new.self c.sort_unstable.ensures.sorted

pub returns-clause-answer : goal.returns-clause-answer
returns-clause-answer c =
    let ordered = IsNonDecreasingBy-from_sort (λ n. n) c.sort_unstable.new.self c.sort_unstable.ensures.sorted in
    let same = different_when_sorted c.args.numbers.now c.sort_unstable.new.self c.sort_unstable.ensures.permutation ordered in
    let increasing = c.are_increasing.ensures in
    ((λ yes. same.0 (increasing.0 yes)), (λ different. increasing.1 (same.1 different)))
