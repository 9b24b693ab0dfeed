use Rattle.std.proofs.Common.{◌∙◌, ap, false, replicate, ℕ}
use Rattle.part_numbers.proofs.MarkedSearch.{first_is}
use Rattle.part_numbers.proofs.reached.first_search.Goals as goal

pub returns : goal.returns
returns c = first_is c.args.rows.now _
    (c.in_ok-vec.ensures.items_if_clones_equal (λ y e. e) ∙ ap (λ (n : ℕ). replicate n 0) c.rows-height.ensures.rows)
    (c.in_ok-vec-2.ensures.items_if_clones_equal (λ y e. e) ∙ ap (λ (n : ℕ). replicate n 0) c.columns-width.ensures.columns)
    (c.in_ok-vec-3.ensures.items_if_clones_equal (λ y e. e) ∙ ap (λ (n : ℕ). replicate n false) c.rows-height.ensures.rows)
    (c.in_ok-vec-4.ensures.items_if_clones_equal (λ y e. e) ∙ ap (λ (n : ℕ). replicate n false) c.columns-width.ensures.columns)
    c.new.ensures.items
