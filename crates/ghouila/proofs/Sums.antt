use Rattle.std.proofs.Common.{◌≡◌, ◌<◌, ◌+◌, ℕ, zero, suc, ℤ, pos, ◌+ℤ◌, ◌*ℤ◌, List, [], ◌∷◌, length, drop, get_or, refl, arith}
use Rattle.std.specs.List.{AllByRecursion}
use Rattle.std.proofs.lemmas.List.{drop_more}
use Rattle.cmr_base.specs.Matrix.{Matrix, entry}
use Rattle.cmr_base.specs.Signing.{IsSign, signed_sum}

-- one more row of a sum
pub signed_sum_more : (m : Matrix) (rows : List ℕ) (signs : List ℤ) (column k : ℕ) → k < length rows → k < length signs
    → signed_sum m (drop k rows) (drop k signs) column ≡ (get_or signs k (pos 0) *ℤ entry m (get_or rows k 0) column) +ℤ signed_sum m (drop (k + 1) rows) (drop (k + 1) signs) column
signed_sum_more m rows signs column k in_rows in_signs = rw (drop_more rows k 0 in_rows, drop_more signs k (pos 0) in_signs) refl

pub sign_at : (signs : List ℤ) (k : ℕ) (d : ℤ) → AllByRecursion IsSign signs → k < length signs → IsSign (get_or signs k d)
sign_at [] k d all h = absurd (omega arith)
sign_at (sign ∷ signs) zero d all h = all.0
sign_at (sign ∷ signs) (suc k) d all h = sign_at signs k d all.1 (omega arith)
