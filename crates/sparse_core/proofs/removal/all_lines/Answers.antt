use Rattle.std.proofs.Common.{◌∙◌, ap, true, replicate, ℕ}
use Rattle.sparse_core.proofs.Tests.{stands_first}
use Rattle.sparse_core.proofs.removal.all_lines.Goals as goal

pub returns : goal.returns
returns c = stands_first c.args.rows.now _ c.new.ensures.items (c.in_ok-vec.ensures.items_if_clones_equal (λ y e. e) ∙ ap (λ (n : ℕ). replicate n true) c.rows.ensures.rows)
    (c.in_ok-vec-2.ensures.items_if_clones_equal (λ y e. e) ∙ ap (λ (n : ℕ). replicate n true) c.columns.ensures.columns)
