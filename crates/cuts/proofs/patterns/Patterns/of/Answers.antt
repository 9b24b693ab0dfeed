use Rattle.cuts.proofs.PatternLemmas.{most_of_others, most_of_sorted}
use Rattle.cuts.proofs.patterns.Patterns.of.Goals as goal

pub returns-then-not-have_two_classes : goal.returns-then-not-have_two_classes
returns-then-not-have_two_classes c = most_of_others c.args.classes.now.own.now c.args.classes.now.numbers.now _ c.count_others.ensures.count

pub returns : goal.returns
returns c =
    let classes = c.args.classes.now in
    most_of_sorted classes.own.now classes.numbers.now c.deref.result.now c.in_ok-sorted.sorted.items c.most_alike.result c.deref.ensures.value c.in_ok-sorted.ensures.listed c.most_alike.ensures
