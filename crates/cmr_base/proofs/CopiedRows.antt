-- Rows of zeros into which the entries of another matrix are copied, nonzero by nonzero.
use Rattle.std.proofs.Common.{◌≡◌, ◌≢◌, ◌<◌, ◌≤◌, ◌+◌, ◌∙◌, ◌⊎◌, inl, inr, ℕ, ℤ, pos, false, List, length, map, get_or, set, replicate, refl, ap, sym, subst, arith}
use Rattle.std.specs.List.Sorted.{IsStrictlyIncreasing}
use Rattle.std.proofs.lemmas.Bool.{cases_eq, cases_lt}
use Rattle.std.proofs.lemmas.List.{get_or-replicate, get_or-set_other, get_or-set_same, length-map, length-replicate, length-set}
use Rattle.cmr_base.specs.Matrix.{Matrix, height, entry, with_entry, IsEntry, IsMatrix}
use Rattle.cmr_base.specs.CopiedEntries.{ArePlaces, IsEmptyRow, IsRowCopied}
use Rattle.cmr_base.specs.LineSets.{AllBelow, submatrix}
use Rattle.cmr_base.specs.Trees.{support}
use Rattle.cmr_base.proofs.Booleans.{zero_is}
use Rattle.cmr_base.proofs.Entries.{height-with_entry, entry-with_entry_same, entry-with_entry_other_column, entry-with_entry_other_row, is_matrix-with_entry}
use Rattle.cmr_base.proofs.Parts.{entry-submatrix, is_ternary-submatrix, length-increasing}
use Rattle.cmr_base.proofs.PlaneSteps.{zero_entry}
use Rattle.cmr_base.proofs.Submatrices.{increasing_places}
use Rattle.cmr_base.proofs.WholeMatrices.{is_ternary, same_matrix}

-- ---- indices

-- the first `count` of the chosen columns have their indices
pub record AreSomePlaces (width : ℕ) (chosen : List ℕ) (count : ℕ) (places : List ℕ) : Type 0 where
  pub long : length places ≡ width
  pub there : (k : ℕ) → k < count → get_or places (get_or chosen k 0) 0 ≡ k
  pub back : (column : ℕ) → column < width → get_or places column 0 < 1000 → get_or chosen (get_or places column 0) 0 ≡ column

pub no_places : (width : ℕ) (chosen places : List ℕ) → places ≡ replicate width 1000 → AreSomePlaces width chosen 0 places
no_places width chosen places e = record {
  long = ap (λ (xs : List ℕ). length xs) e ∙ length-replicate width 1000;
  there = λ k l. absurd (omega arith);
  back = λ column inside l. let none : get_or places column 0 ≡ 1000 = ap (λ (xs : List ℕ). get_or xs column 0) e ∙ get_or-replicate width column 1000 0 inside in absurd (omega arith);
}

pub one_place : (width : ℕ) (chosen places : List ℕ) (count : ℕ) → IsStrictlyIncreasing chosen → AllBelow width chosen → count < length chosen → AreSomePlaces width chosen count places
    → AreSomePlaces width chosen (count + 1) (set places (get_or chosen count 0) count)
one_place width chosen places count increasing below inside are = record {
  long = length-set places column count ∙ are.long;
  there = λ k l. elim (cases_eq k count) [
    | inl e ↦ ap (λ (j : ℕ). get_or (set places column count) (get_or chosen j 0) 0) e ∙ here ∙ sym e
    | inr d ↦
        let lower = increasing_places chosen k count increasing (omega (arith, l, d)) inside in
        get_or-set_other places column (get_or chosen k 0) count 0 (λ q. omega (arith, lower, q)) ∙ are.there k (omega (arith, l, d))
  ];
  back = λ other in_width l. elim (cases_eq other column) [
    | inl e ↦ ap (λ (j : ℕ). get_or chosen (get_or (set places column count) j 0) 0) e ∙ ap (λ (j : ℕ). get_or chosen j 0) here ∙ sym e
    | inr d ↦
        let same = get_or-set_other places column other count 0 d in
        ap (λ (j : ℕ). get_or chosen j 0) same ∙ are.back other in_width (omega (arith, l, same))
  ];
}
  where
    column : ℕ
    column = get_or chosen count 0

    here : get_or (set places column count) column 0 ≡ count
    here = get_or-set_same places column count 0 (let b = below count inside in let w = are.long in omega arith)

pub all_places : (width : ℕ) (chosen places : List ℕ) (count : ℕ) → IsStrictlyIncreasing chosen → AllBelow width chosen → width ≤ 1000 → length chosen ≤ count
    → AreSomePlaces width chosen count places → ArePlaces width chosen places
all_places width chosen places count increasing below few all are = record {
  long = are.long;
  there = λ k l. are.there k (omega arith);
  back = λ column inside l. are.back column inside (let short = length-increasing chosen width increasing below in omega arith);
}

-- ---- a row

-- the chosen entries before a column are copied
pub record IsCopiedBefore (m : Matrix) (row : ℕ) (columns : List ℕ) (to : ℕ) (old : Matrix) (from : ℕ) (new : Matrix) : Type 0 where
  pub is_matrix : IsMatrix new
  pub height_same : height new ≡ height old
  pub width_same : new.width ≡ old.width
  pub copied : (k : ℕ) → k < length columns → get_or columns k 0 < from → entry new to k ≡ entry m row (get_or columns k 0)
  pub ahead : (k : ℕ) → k < length columns → from ≤ get_or columns k 0 → entry new to k ≡ pos 0
  pub others : (i j : ℕ) → i ≢ to → entry new i j ≡ entry old i j

module _ (m : Matrix) (row : ℕ) (columns : List ℕ) (to : ℕ) (old : Matrix) where
  pub nothing_copied : IsMatrix old → IsEmptyRow old to → IsCopiedBefore m row columns to old 0 old
  nothing_copied is empty = record {
    is_matrix = is;
    height_same = refl;
    width_same = refl;
    copied = λ k l h. absurd (omega arith);
    ahead = λ k l h. empty k;
    others = λ i j d. refl;
  }

  module _ (from : ℕ) (new : Matrix) (before : IsCopiedBefore m row columns to old from new) where
    either : (k : ℕ) → k < length columns → (from ≤ get_or columns k 0 → support m row (get_or columns k 0) ≡ false) → entry new to k ≡ entry m row (get_or columns k 0)
    either k l none = elim (cases_lt (get_or columns k 0) from) [
      | inl h ↦ before.copied k l h
      | inr past ↦ before.ahead k l past ∙ sym (zero_is (entry m row (get_or columns k 0)) (none past))
    ]

    pub all_copied : ((c : ℕ) → from ≤ c → support m row c ≡ false) → IsRowCopied m row columns to old new
    all_copied none = record {
      is_matrix = before.is_matrix;
      height_same = before.height_same;
      width_same = before.width_same;
      copied = λ k l. either k l (none (get_or columns k 0));
      others = before.others;
    }

    module _ (places : List ℕ) (are : ArePlaces m.width columns places) (next : ℕ) (ordered : from ≤ next) (none : (c : ℕ) → from ≤ c → c < next → support m row c ≡ false) where
      -- the column of the next nonzero is not chosen
      pub passed_over : length columns ≤ get_or places next 0 → IsCopiedBefore m row columns to old (next + 1) new
      passed_over outside = record {
        is_matrix = before.is_matrix;
        height_same = before.height_same;
        width_same = before.width_same;
        copied = λ k l h. either k l (λ past. none (get_or columns k 0) past (apart k l h (cases_eq (get_or columns k 0) next)));
        ahead = λ k l h. before.ahead k l (omega arith);
        others = before.others;
      }
        where
          apart : (k : ℕ) → k < length columns → get_or columns k 0 < next + 1 → (get_or columns k 0 ≡ next) ⊎ (get_or columns k 0 ≢ next) → get_or columns k 0 < next
          apart k l h (inl q) = let there = sym (ap (λ (c : ℕ). get_or places c 0) q) ∙ are.there k l in absurd (omega (arith, there, outside, l))
          apart k l h (inr d) = omega (arith, h, d)

      -- the column of the next nonzero is chosen
      pub one_copied : (value : ℤ) → value ≡ entry m row next → IsEntry value → next < m.width → get_or places next 0 < length columns → to < height old → old.width ≡ length columns
          → IsCopiedBefore m row columns to old (next + 1) (with_entry new to (get_or places next 0) value)
      one_copied value is small in_width inside high wide = record {
        is_matrix = is_matrix-with_entry new to place value in_rows small before.is_matrix;
        height_same = height-with_entry new to place value ∙ before.height_same;
        width_same = before.width_same;
        copied = λ k l h. elim (cases_eq k place) [
          | inl e ↦ subst (λ (j : ℕ). entry (with_entry new to place value) to j ≡ entry m row (get_or columns j 0)) (sym e) (here ∙ is ∙ ap (entry m row) (sym back))
          | inr d ↦ entry-with_entry_other_column new to place value in_rows k d ∙ either k l (λ past. none (get_or columns k 0) past (apart k l h d (cases_eq (get_or columns k 0) next)))
        ];
        ahead = λ k l h. elim (cases_eq k place) [
          | inl e ↦ let same = ap (λ (j : ℕ). get_or columns j 0) e ∙ back in absurd (omega (arith, h, same))
          | inr d ↦ entry-with_entry_other_column new to place value in_rows k d ∙ before.ahead k l (omega (arith, h, ordered))
        ];
        others = λ i j d. entry-with_entry_other_row new to place value i j d ∙ before.others i j d;
      }
        where
          place : ℕ
          place = get_or places next 0

          back : get_or columns place 0 ≡ next
          back = are.back next in_width inside

          in_rows : to < height new
          in_rows = let e = before.height_same in omega arith

          here : entry (with_entry new to place value) to place ≡ value
          here = entry-with_entry_same new to place value in_rows before.is_matrix (let e = before.width_same in omega arith)

          apart : (k : ℕ) → k < length columns → get_or columns k 0 < next + 1 → k ≢ place → (get_or columns k 0 ≡ next) ⊎ (get_or columns k 0 ≢ next) → get_or columns k 0 < next
          apart k l h d (inl q) = absurd (d (sym (are.there k l) ∙ ap (λ (c : ℕ). get_or places c 0) q))
          apart k l h d (inr e) = omega (arith, h, e)

-- ---- all rows

-- the first `count` rows are copied, and the other rows are empty
pub record AreRowsCopied (m : Matrix) (rows columns : List ℕ) (count : ℕ) (part : Matrix) : Type 0 where
  pub is_matrix : IsMatrix part
  pub height_is : height part ≡ length rows
  pub width_is : part.width ≡ length columns
  pub copied : (i k : ℕ) → i < count → k < length columns → entry part i k ≡ entry m (get_or rows i 0) (get_or columns k 0)
  pub empty : (i : ℕ) → count ≤ i → i < length rows → IsEmptyRow part i

module _ (m : Matrix) (rows columns : List ℕ) where
  pub no_rows_copied : (part : Matrix) → IsMatrix part → part ≡ record { rows = replicate (length rows) (replicate (length columns) (pos 0)); width = length columns } → AreRowsCopied m rows columns 0 part
  no_rows_copied part is e = record {
    is_matrix = is;
    height_is = ap height e ∙ length-replicate (length rows) (replicate (length columns) (pos 0));
    width_is = ap (λ (t : Matrix). t.width) e;
    copied = λ i k l h. absurd (omega arith);
    empty = λ i l h column. ap (λ (t : Matrix). entry t i column) e ∙ zero_entry (length rows) (length columns) i column h;
  }

  pub one_row_copied : (old new : Matrix) (count : ℕ) → AreRowsCopied m rows columns count old → IsRowCopied m (get_or rows count 0) columns count old new
      → AreRowsCopied m rows columns (count + 1) new
  one_row_copied old new count before here = record {
    is_matrix = here.is_matrix;
    height_is = here.height_same ∙ before.height_is;
    width_is = here.width_same ∙ before.width_is;
    copied = λ i k l h. elim (cases_eq i count) [
      | inl e ↦ subst (λ (r : ℕ). entry new r k ≡ entry m (get_or rows r 0) (get_or columns k 0)) (sym e) (here.copied k h)
      | inr d ↦ here.others i k d ∙ before.copied i k (omega (arith, l, d)) h
    ];
    empty = λ i l h column. here.others i column (λ e. omega arith) ∙ before.empty i (omega arith) h column;
  }

  pub all_rows_copied : (part : Matrix) (count : ℕ) → IsMatrix m → AreRowsCopied m rows columns count part → length rows ≤ count → part ≡ submatrix m rows columns
  all_rows_copied part count is are all =
      same_matrix part (submatrix m rows columns) are.is_matrix.rectangular (is_ternary-submatrix m rows columns (is_ternary m is)).rectangular
      (are.height_is ∙ sym (length-map rows (λ row. map (entry m row) columns))) are.width_is
      (λ i k l h. let high = are.height_is in let wide = are.width_is in are.copied i k (omega arith) (omega arith) ∙ sym (entry-submatrix m rows columns i k (omega arith) (omega arith)))
