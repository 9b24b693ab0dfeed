use Rattle.std.proofs.Common.{◌∙◌, ◌++◌, ◌∷◌, [], sym, ap₂, List, ℕ, zero-add}
use Rattle.std.proofs.lemmas.List.FromFn.{map-range_with_len_more}
use Rattle.bridge_split.specs.PartNumbers.{numbered_rows}
use Rattle.bridge_split.proofs.parts.parts_of_numbers.Goals as goal

pub loop-number-preserved : goal.loop-number-preserved
loop-number-preserved c =
    let number = c.loop-number.number in
    c.in_ok-push.ensures.ok
    ∙ ap₂ (λ (parts : List (List ℕ)) (last : List ℕ). parts ++ last ∷ []) c.loop-number.invariant c.in_ok-rows_of_part.ensures
    ∙ sym (map-range_with_len_more (numbered_rows c.args.part.now c.args.rows.now) 0 number number (zero-add number))
