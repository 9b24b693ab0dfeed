use Rattle.std.proofs.Common.{◌≡◌, ◌∙◌, ◌*◌, ℕ, List, pos, refl, replicate, ap, rules}
use Rattle.std.proofs.lemmas.List.{length-replicate}
use Rattle.cmr_base.specs.Matrix.{IsMatrix, is_nonzero}
use Rattle.cmr_base.specs.Planes.{is_minus, words_for}
use Rattle.cmr_base.proofs.PlaneSteps.{is_matrix-zero, plane-zero}
use Rattle.cmr_base.proofs.Views.{IsOf, of_planes}
use Rattle.cmr_base.proofs.matrix.Matrix.zero.Goals as goal

zeros : (rows columns : ℕ) (support minus : List ℕ) → IsMatrix (record { rows = replicate rows (replicate columns (pos 0)); width = columns })
    → support ≡ replicate (rows * words_for columns) 0 → minus ≡ replicate (rows * words_for columns) 0
    → IsOf (record { rows = replicate rows (replicate columns (pos 0)); width = columns }) rows columns support minus
zeros rows columns support minus is s_is m_is =
    of_planes (record { rows = replicate rows (replicate columns (pos 0)); width = columns }) rows columns support minus is (length-replicate rows (replicate columns (pos 0))) refl
    (s_is ∙ plane-zero is_nonzero rows columns (words_for columns) refl) (m_is ∙ plane-zero is_minus rows columns (words_for columns) refl)

pub invariant_of-result : goal.invariant_of-result
invariant_of-result c =
    let rows = c.args.rows in
    let columns = c.args.columns in
    let s_is : c.in_ok-vec.field-0.items ≡ replicate (rows * words_for columns) 0 = (let e : c.in_ok-vec.field-0.items ≡ replicate (rows * c.words_for.result) 0 = search rules in e ∙ ap (λ (n : ℕ). replicate (rows * n) 0) c.words_for.ensures) in
    let m_is : c.in_ok-vec-2.field-0.items ≡ replicate (rows * words_for columns) 0 = (let e : c.in_ok-vec-2.field-0.items ≡ replicate (rows * c.words_for.result) 0 = search rules in e ∙ ap (λ (n : ℕ). replicate (rows * n) 0) c.words_for.ensures) in
    let all = zeros rows columns c.in_ok-vec.field-0.items c.in_ok-vec-2.field-0.items (is_matrix-zero rows columns c.requires.rows c.requires.columns) s_is m_is in
    record { rows_few = c.requires.rows; columns_few = c.requires.columns; support_is = all.support_is; minus_is = all.minus_is }

pub returns : goal.returns
returns c =
    let rows = c.args.rows in
    let columns = c.args.columns in
    let s_is : c.in_ok-vec.field-0.items ≡ replicate (rows * words_for columns) 0 = (let e : c.in_ok-vec.field-0.items ≡ replicate (rows * c.words_for.result) 0 = search rules in e ∙ ap (λ (n : ℕ). replicate (rows * n) 0) c.words_for.ensures) in
    let m_is : c.in_ok-vec-2.field-0.items ≡ replicate (rows * words_for columns) 0 = (let e : c.in_ok-vec-2.field-0.items ≡ replicate (rows * c.words_for.result) 0 = search rules in e ∙ ap (λ (n : ℕ). replicate (rows * n) 0) c.words_for.ensures) in
    (zeros rows columns c.in_ok-vec.field-0.items c.in_ok-vec-2.field-0.items (is_matrix-zero rows columns c.requires.rows c.requires.columns) s_is m_is).same
