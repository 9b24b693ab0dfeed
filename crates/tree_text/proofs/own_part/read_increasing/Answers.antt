use Rattle.std.proofs.Common.{◌≡◌, ◌+◌, ◌++◌, ◌∷◌, [], ◌∙◌, ℕ, Ok, option_copied, refl, ap, sym}
use Rattle.std.proofs.lemmas.List.{length_push}
use Rattle.std.proofs.lemmas.List.Sums.{fold_push}
use Rattle.text_fields.specs.Reading.{times}
use Rattle.text_fields.proofs.Times.{goes_on}
use Rattle.tree_text.specs.TreeReading.{another_line}
use Rattle.tree_text.proofs.IncreasingMembers.{below_push}
use Rattle.tree_text.proofs.own_part.read_increasing.Goals as goal

pub loop-preserved : goal.loop-preserved
loop-preserved c =
    let whole = option_copied c.args.whole in
    let step = another_line c.args.most whole in
    let lines = c.loop.lines in
    let line = c.in_ok-line.line in
    let total = times step c.args.count [] c.args.words.now in
    let made : step lines c.loop.words ≡ Ok (lines ++ line ∷ [], c.next_line.new.words) = rw (sym c.loop.invariant.last, c.in_ok-line.ensures.read) refl in
    rw c.in_ok-push.ensures.ok (record {
      read = goes_on step c.args.count c.loop.counter lines c.loop.words total c.loop-test.true (lines ++ line ∷ []) c.next_line.new.words made c.loop.invariant.read;
      last = sym (fold_push (λ (before line : ℕ). line + 1) 0 lines line);
      len = length_push lines line ∙ ap (λ n. n + 1) c.loop.invariant.len;
      below = below_push lines line c.loop.before c.loop.invariant.below c.in_ok-line.ensures.above;
    })
