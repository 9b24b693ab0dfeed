use Rattle.std.proofs.Common.{◌≡◌, ◌∙◌, ◌++◌, ◌∷◌, [], ◌+◌, ◌-◌, ◌/◌, ap, List, ℕ}
use Rattle.cmr_base.specs.LineSets.{set_numbered}
use Rattle.cmr_base.proofs.SetNumbers.{numbered_less, numbered_more}
use Rattle.cmr_base.proofs.set_numbers.write_set.Goals as goal
use Rattle.cmr_base.proofs.set_numbers.write_set.Goals.{then-rest-eq1+in_ok-push, else-rest-eq1}

pub loop-line-preserved : goal.loop-line-preserved
loop-line-preserved c =
    let prefix = c.loop-line.set.items in
    let lines = c.args.lines in
    let line = c.loop-line.line in
    let rest = c.loop-line.rest in
    elim c.if-rest-eq1.branch [
      | then-rest-eq1+in_ok-push w ↦
          let after : c.if-rest-eq1.set.items ≡ prefix ++ line ∷ [] = cc (w.in_ok-push.ensures.items) in
          ap (λ (set : List ℕ). set ++ set_numbered (lines - (line + 1)) (line + 1) (rest / 2)) after
          ∙ numbered_more prefix lines line rest c.loop-line-test.true w.if-rest-eq1.true ∙ c.loop-line.invariant
      | else-rest-eq1 w ↦
          let after : c.if-rest-eq1.set.items ≡ prefix = cc in
          ap (λ (set : List ℕ). set ++ set_numbered (lines - (line + 1)) (line + 1) (rest / 2)) after
          ∙ numbered_less prefix lines line rest c.loop-line-test.true w.if-rest-eq1.false ∙ c.loop-line.invariant
    ]
