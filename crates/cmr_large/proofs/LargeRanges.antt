-- The numbers in the arguments are in their ranges.
use Rattle.std.proofs.Common.{◌≡◌, ◌≤◌, ℕ, List, Option, Some, None}
use Rattle.clap.specs.Words.{Row, Text}
use Rattle.cmr_front.specs.declared.matrix_file.MatrixForm.{MatrixForm}
use Rattle.cmr_front.specs.Words.ReadWords.{◌>>=◌}
use Rattle.cmr_front.specs.Words.Parsing.{fault_in, file_in, matches_with_input}
use Rattle.cmr_front.proofs.Numbers.{with_numbers}
use Rattle.cmr_large.specs.LargeTu.{LargeOrder, large_app, large_order_in, large_tool, large_tu_order}

pub large_order-ranges : (words : List Text) (o : LargeOrder) → large_tu_order words ≡ Some o → (large_tool o).InRanges × (o.pivots ≤ 100)
large_order-ranges words o e = go (matches_with_input large_app words) e
  where
    order_with : List Row → MatrixForm → ℕ → ℕ → ℕ → LargeOrder
    order_with rows form budget pivots workers = record { form = form; budget = budget; pivots = pivots; workers = workers; fault = fault_in rows; file = file_in rows }

    go : (rows : Option (List Row)) → (rows >>= large_order_in) ≡ Some o → (large_tool o).InRanges × (o.pivots ≤ 100)
    go None e = cc
    go (Some rows) e = with_numbers (λ (x : LargeOrder). (large_tool x).InRanges × (x.pivots ≤ 100)) (order_with rows) rows o
        (λ form budget pivots workers few bound some. ((few, some.0, some.1), bound)) e
