use Rattle.std.proofs.Common.{◌≤◌, ◌+◌, ◌∙◌, sym, ap, arith, subst, List, ℕ, length}
use Rattle.cuts.specs.Patterns.{AreOpen}
use Rattle.cuts.proofs.PatternLemmas.{listed_more, open_same}
use Rattle.cuts.proofs.patterns.open_classes.Goals as goal
use Rattle.cuts.proofs.patterns.open_classes.Goals.{then-not-has+in_ok-push, else-not-has}

pub loop-row-preserved : goal.loop-row-preserved
loop-row-preserved c =
    let own = c.args.classes.now.own.now.words in
    let numbers = c.args.classes.now.numbers.now in
    let row = c.loop-row.row in
    let listed = c.loop-row.found.items in
    elim c.if-not-has.branch [
      | then-not-has+in_ok-push w ↦ subst (λ (v : List ℕ). (length v ≤ row + 1) × AreOpen own numbers (row + 1) v) (sym (ap (λ (v : _). v.items) w.found-is))
          (listed_more own numbers listed w.push.new.self.items row c.loop-row.invariant.0 c.loop-row.invariant.1 (sym c.has.ensures ∙ w.if-not-has.true) w.in_ok-push.ensures.items)
      | else-not-has w ↦ subst (λ (v : List ℕ). (length v ≤ row + 1) × AreOpen own numbers (row + 1) v) (sym (ap (λ (v : _). v.items) w.found-is))
          ((let l = c.loop-row.invariant.0 in omega (arith, l)), open_same own numbers listed row c.loop-row.invariant.1 (sym c.has.ensures ∙ w.if-not-has.false))
    ]
