use Rattle.std.proofs.Common.{◌≡◌, ◌<◌, ◌≤◌, ◌+◌, ◌/◌, ◌%◌, ◌^◌, ℕ, true, false, inl, inr, sym, subst, arith, w64}
use Rattle.std.specs.Int.{trailing_zeros}
use Rattle.std.proofs.Math.Nat.{div-le_self}
use Rattle.std.proofs.lemmas.Bool.{cases_lt}
use Rattle.cmr_base.specs.Matrix.{Matrix, height, row_of, IsMatrix, is_nonzero}
use Rattle.cmr_base.specs.Planes.{word_of}
use Rattle.cmr_base.specs.Trees.{support}
use Rattle.cmr_base.proofs.PlaneWords.{word_of-lt}
use Rattle.cmr_base.proofs.NextNonzeros.{column_in, first_in_word, none_in_word}
use Rattle.cmr_base.proofs.matrix.Matrix.next_nonzero.Goals as goal

found : (m : Matrix) (row from column word : ℕ) → IsMatrix m → row < height m → word ≡ word_of is_nonzero (row_of m row) (column / 64) → from ≤ column
    → ((c : ℕ) → from ≤ c → c < column → support m row c ≡ false) → 0 < word / 2 ^ (column % 64)
    → (from ≤ column + trailing_zeros w64 (word / 2 ^ (column % 64))) × (column + trailing_zeros w64 (word / 2 ^ (column % 64)) < m.width) × (support m row (column + trailing_zeros w64 (word / 2 ^ (column % 64))) ≡ true)
    × ((c : ℕ) → from ≤ c → c < column + trailing_zeros w64 (word / 2 ^ (column % 64)) → support m row c ≡ false)
found m row from column word is in_rows e low none some =
    let fits : word < 2 ^ 64 = subst (λ (n : ℕ). n < 2 ^ 64) (sym e) (word_of-lt is_nonzero (row_of m row) (column / 64)) in
    let less = div-le_self word (2 ^ (column % 64)) in
    let first = first_in_word m row column word e some (omega (arith, fits, less)) in (
      omega arith,
      column_in m row (column + trailing_zeros w64 (word / 2 ^ (column % 64))) is in_rows first.0,
      first.0,
      λ c l h. elim (cases_lt c column) [ inl before ↦ none c l before | inr after ↦ first.1 c after h ],
    )

pub returns-then-word-ne0-clause-first : goal.returns-then-word-ne0-clause-first
returns-then-word-ne0-clause-first c =
    found c.args.self.now c.args.row c.args.from c.loop-column.column c.support_word.result c.columns.ensures.shape c.requires.row c.support_word.ensures c.loop-column.invariant.low c.loop-column.invariant.none
    (let some = c.if-word-ne0.true in omega (arith, some))

pub returns-then-word-ne0-clause-small : goal.returns-then-word-ne0-clause-small
returns-then-word-ne0-clause-small c =
    let q = found c.args.self.now c.args.row c.args.from c.loop-column.column c.support_word.result c.columns.ensures.shape c.requires.row c.support_word.ensures c.loop-column.invariant.low c.loop-column.invariant.none
    (let some = c.if-word-ne0.true in omega (arith, some)) in
    let inside = q.1 in
    let few = c.columns.ensures.shape.width_in in
    omega (arith, inside, few)

pub loop-column-preserved : goal.loop-column-preserved
loop-column-preserved c =
    let m = c.args.self.now in
    let column = c.loop-column.column in
    let so = c.loop-column.invariant in
    let few = c.columns.ensures.shape.width_in in
    let inside = c.loop-column-test.true in
    let wide = c.columns.ensures.columns in
    let empty : c.support_word.result / 2 ^ (column % 64) ≡ 0 = let none = c.if-word-ne0.false in omega (arith, none) in
    record {
      low = let l = so.low in omega arith;
      none = λ x l h. elim (cases_lt x column) [
        | inl before ↦ so.none x l before
        | inr after ↦ none_in_word m c.args.row column c.support_word.result c.support_word.ensures empty x after h
      ];
      high = omega (arith, inside, wide, few);
    }
