-- Matrices that a function of rows and columns defines.
use Rattle.std.proofs.Common.{◌≡◌, ◌<◌, ◌∙◌, ℕ, ℤ, pos, [], map, get_or, ap, arith}
use Rattle.std.proofs.lemmas.List.{get_or-map, length-map}
use Rattle.std.proofs.lemmas.List.FromFn.{length-range_with_len, get_or-range_with_len}
use Rattle.cmr_base.specs.Matrix.{height, entry}
use Rattle.cmr_base.specs.LineSets.{first_lines}
use Rattle.cmr_base.specs.MatrixSums.{filled}

pub line_at : (n k : ℕ) → k < n → get_or (first_lines n) k 0 ≡ k
line_at n k h = let e = get_or-range_with_len 0 n k 0 h in omega arith

module _ (m n : ℕ) (entries : ℕ → ℕ → ℤ) where
  pub height-filled : height (filled m n entries) ≡ m
  height-filled = length-map (first_lines m) (λ row. map (entries row) (first_lines n)) ∙ length-range_with_len 0 m

  pub entry-filled : (r c : ℕ) → r < m → c < n → entry (filled m n entries) r c ≡ entries r c
  entry-filled r c hr hc =
      ap (λ row. get_or row c (pos 0)) (get_or-map (λ row. map (entries row) (first_lines n)) (first_lines m) r 0 [] (let e = length-range_with_len 0 m in omega arith))
      ∙ get_or-map (entries (get_or (first_lines m) r 0)) (first_lines n) c 0 (pos 0) (let e = length-range_with_len 0 n in omega arith)
      ∙ ap (λ (r : ℕ). entries r (get_or (first_lines n) c 0)) (line_at m r hr)
      ∙ ap (entries r) (line_at n c hc)
