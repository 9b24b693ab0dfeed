-- Words reduced by the words before them, one after another.
use Rattle.std.proofs.Common.{◌≡◌, ◌<◌, ◌+◌, ◌-◌, ◌^◌, ◌∙◌, ◌++◌, ◌∷◌, [], inl, inr, ℕ, List, length, take, get_or, refl, ap, sym, subst, arith}
use Rattle.std.specs.Prelude.{bit_and}
use Rattle.std.proofs.lemmas.List.{take_more, get_or-append_right, length-append, length-map}
use Rattle.std.proofs.Math.Seq.{take-append_seam}
use Rattle.cmr_base.specs.Matrix.{Matrix, height, IsMatrix}
use Rattle.cmr_base.specs.LineSets.{AllBelow}
use Rattle.cmr_base.proofs.Lists.{all-append, all-map, all_at, all_by_places}
use Rattle.parity.specs.declared.narrow.Equation.{Equation}
use Rattle.parity.specs.Equations.{AreCleared, AreReduced, IsBasis, IsLowest, IsReducedBy, cleared_by, reduced_by}
use Rattle.parity.specs.PlaneSums.{equations_of, support_of, without_columns}
use Rattle.parity.proofs.Elimination.{basis_none, basis_push, basis_skip, reduced_by-append}
use Rattle.parity.proofs.Systems.{support_of-lt, without_columns_apart, without_columns_lt}

pub reduced_none : (words : List ℕ) → AreReduced 0 words words
reduced_none words width excluded all = record { equations = []; basis = basis_none width excluded; rest = λ at le lt. refl }

-- one word more is added to the words after it
pub reduced_more : (place : ℕ) (words before after : List ℕ) → place < length words → length before ≡ length words → AreReduced place words before
    → AreCleared place before after → AreReduced (place + 1) words after
reduced_more place words before after lt len so_far (inl (none, same)) width excluded all =
    let is = so_far width excluded all in record {
      equations = is.equations;
      basis = subst (λ rows. IsBasis width excluded rows is.equations) (sym (take_more words place 0 lt))
          (basis_skip width excluded (take place words) is.equations (get_or words place 0) is.basis (sym (is.rest place (omega arith) lt) ∙ none));
      rest = λ at le here. ap (λ (ws : List ℕ). get_or ws at 0) same ∙ is.rest at (omega (arith, le)) here;
    }
reduced_more place words before after lt len so_far (inr (pivot, low, added)) width excluded all =
    let is = so_far width excluded all in
    let row = get_or words place 0 in
    let here : get_or before place 0 ≡ reduced_by is.equations row = is.rest place (omega arith) lt in
    let e : Equation = record { pivot = pivot; columns = reduced_by is.equations row } in
    let own = all_at (λ word. (bit_and word excluded ≡ 0) × (word < 2 ^ width)) words place 0 all lt in record {
      equations = is.equations ++ e ∷ [];
      basis = subst (λ rows. IsBasis width excluded rows (is.equations ++ e ∷ [])) (sym (take_more words place 0 lt))
          (basis_push width excluded (take place words) is.equations row pivot is.basis own.0 own.1 (subst (λ (n : ℕ). IsLowest n pivot) here low));
      rest = λ at le inside.
          added.later at (omega (arith, le)) (omega (arith, inside, len))
          ∙ ap (λ (n : ℕ). cleared_by (record { pivot = pivot; columns = n }) (get_or before at 0)) here
          ∙ ap (cleared_by e) (is.rest at (omega (arith, le)) inside)
          ∙ sym (reduced_by-append is.equations (e ∷ []) (get_or words at 0));
    }

-- the equations of rows, followed by a set without the columns that are excluded
pub reduced_by_rows : (m : Matrix) (excluded number : ℕ) (rows after : List ℕ) → IsMatrix m → AllBelow (height m) rows → number < 2 ^ m.width
    → AreReduced (length rows) (equations_of m excluded rows ++ without_columns excluded number ∷ []) after
    → (es : List Equation) × IsBasis m.width excluded (equations_of m excluded rows) es × (get_or after (length rows) 0 ≡ reduced_by es (without_columns excluded number))
reduced_by_rows m excluded number rows after is below small are_reduced = (
  by.equations,
  subst (λ words. IsBasis m.width excluded words by.equations) (ap (λ n. take n (equations ++ last ∷ [])) (sym long) ∙ take-append_seam equations (last ∷ [])) by.basis,
  by.rest (length rows) (omega arith) (omega (arith, length-append equations (last ∷ []), long))
      ∙ ap (reduced_by by.equations) (get_or-append_right equations (last ∷ []) (length rows) (length rows) 0 long (omega arith) ∙ (let none : length rows - length rows ≡ 0 = omega arith in ap (λ k. get_or (last ∷ []) k 0) none)),
)
  where
    equations : List ℕ
    equations = equations_of m excluded rows

    last : ℕ
    last = without_columns excluded number

    long : length equations ≡ length rows
    long = length-map rows (λ row. without_columns excluded (support_of m row))

    IsFit : ℕ → Type 0
    IsFit word = (bit_and word excluded ≡ 0) × (word < 2 ^ m.width)

    by : IsReducedBy m.width excluded (length rows) (equations ++ last ∷ []) after
    by = are_reduced m.width excluded (all-append IsFit equations (last ∷ [])
        (all-map IsFit (λ row. without_columns excluded (support_of m row)) rows (all_by_places (λ row. IsFit (without_columns excluded (support_of m row))) rows 0 (λ k lt.
        let row = get_or rows k 0 in
        (without_columns_apart excluded (support_of m row), without_columns_lt excluded (support_of m row) m.width (support_of-lt m row is (below k lt))))))
        ((without_columns_apart excluded number, without_columns_lt excluded number m.width small), tt))
