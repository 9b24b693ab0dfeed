-- Groups during the search.
use Rattle.std.proofs.Common.{Result, Ok, Err, IfOk, ℕ, ◌+◌, Bool, true, false, cond, List, ◌≡◌, ◌<◌, ◌≤◌, ◌∙◌, sym, ap, ap₂, subst, arith, ◌⊎◌, inl, inr, get_or, length}
use Rattle.cmr_base.specs.declared.line.Line.{Line}
use Rattle.cmr_base.specs.declared.line.Line.TheVariants.{Row, Column}
use Rattle.cmr_base.specs.ColumnSets.{has_column}
use Rattle.cmr_base.specs.Matrix.{Matrix, height}
use Rattle.cmr_base.specs.Separations.{Lines}
use Rattle.cmr_base.proofs.Booleans.{not_both}
use Rattle.cuts.specs.declared.groups.Groups.{Groups}
use Rattle.cmr_base.specs.declared.line_mask.LineMask.{LineMask}
use Rattle.cmr_base.specs.LineMasks.{as_set, IsMaskOf}
use Rattle.cuts.specs.declared.sides.Side.{Side}
use Rattle.cuts.specs.Covers.{AddsAtMost, AreOnOneSide, GetName}
use Rattle.cuts.specs.CutSearches.{HasMarked}
use Rattle.cuts.specs.LineCuts.{HasNames, HoldTogether, IsCut, name_of}
use Rattle.cuts.proofs.CoverLemmas.{covers_less, covers_more, group_of_covers}
use Rattle.cmr_base.specs.Components.{IsLineOf}

-- ---- names

-- if each line has its own name
own_together : (m : Matrix) (groups : Groups) (P : Lines → Type 0) → ((k : ℕ) → k < height m + m.width → get_or groups.names.items k 0 ≡ k) → HoldTogether P m groups
own_together m groups P own T p (Row r) (Row s) lr ls e = let a = own r (omega (arith, lr)) in let b = own s (omega (arith, ls)) in ap (λ (z : ℕ). T (Row z)) (sym a ∙ e ∙ b)
own_together m groups P own T p (Column c) (Column d) lc ld e =
    let a = own (height m + c) (omega (arith, lc)) in
    let b = own (height m + d) (omega (arith, ld)) in
    let same : height m + c ≡ height m + d = sym a ∙ e ∙ b in
    let last : c ≡ d = omega (arith, same) in
    ap (λ (z : ℕ). T (Column z)) last
own_together m groups P own T p (Row r) (Column c) lr lc e =
    let a = own r (omega (arith, lr)) in
    let b = own (height m + c) (omega (arith, lc)) in
    let same : r ≡ height m + c = sym a ∙ e ∙ b in
    absurd (omega (arith, same, lr))
own_together m groups P own T p (Column c) (Row r) lc lr e =
    let a = own r (omega (arith, lr)) in
    let b = own (height m + c) (omega (arith, lc)) in
    let same : height m + c ≡ r = sym b ∙ e ∙ a in
    absurd (omega (arith, same, lr))

-- names for these numbers of rows and columns
module _ (m : Matrix) (rows columns : ℕ) (groups : Groups) (er : rows ≡ height m) (ec : columns ≡ m.width) where
  pub names_of : length groups.names.items ≡ rows + columns → HasNames m groups
  names_of e = e ∙ ap₂ (λ (a b : ℕ). a + b) er ec

  pub apart_together : (P : Lines → Type 0) → ((k : ℕ) → k < rows + columns → get_or groups.names.items k 0 ≡ k) → HoldTogether P m groups
  apart_together P own = own_together m groups P (λ k l. own k (subst (λ (n : ℕ). k < n) (sym (ap₂ (λ (a b : ℕ). a + b) er ec)) l))

-- the rows and the columns with a name
pub named_lines : (m : Matrix) (groups : Groups) (name from : ℕ) (one other : List ℕ) (lines : LineMask) → one ≡ groups.names.items → other ≡ groups.names.items → height m ≡ from
    → ((x : ℕ) → has_column lines.rows.words x ≡ true → get_or one (0 + x) 0 ≡ name) → ((x : ℕ) → has_column lines.columns.words x ≡ true → get_or other (from + x) 0 ≡ name)
    → (x : Line) → as_set lines x ≡ true → name_of m groups x ≡ name
named_lines m groups name from one other lines eo et ef hr hc (Row r) e =
    let z : r ≡ 0 + r = omega arith in
    sym (ap (λ (v : List ℕ). get_or v r 0) eo) ∙ ap (λ (k : ℕ). get_or one k 0) z ∙ hr r e
named_lines m groups name from one other lines eo et ef hr hc (Column c) e =
    sym (ap (λ (v : List ℕ). get_or v (height m + c) 0) et) ∙ ap (λ (z : ℕ). get_or other (z + c) 0) ef ∙ hc c e

-- the lines outside a set have the name, first the rows and then the columns
module _ (m : Matrix) (before after middle rows columns : List ℕ) (size width from value : ℕ) (es : size ≡ height m) (ew : width ≡ m.width) (ef : from ≡ height m)
    (rows_named : (x : ℕ) → x < size → get_or middle (0 + x) 0 ≡ cond (has_column rows x) (get_or before (0 + x) 0) value) (rows_kept : (k : ℕ) → 0 + size ≤ k → get_or middle k 0 ≡ get_or before k 0)
    (columns_named : (x : ℕ) → x < width → get_or after (from + x) 0 ≡ cond (has_column columns x) (get_or middle (from + x) 0) value) (columns_kept : (k : ℕ) → k < from → get_or after k 0 ≡ get_or middle k 0) where
  row_named : (r : ℕ) → r < height m → get_or after r 0 ≡ cond (has_column rows r) (get_or before r 0) value
  row_named r l =
      let z : 0 + r ≡ r = omega arith in
      columns_kept r (omega (arith, l, ef)) ∙ sym (ap (λ (k : ℕ). get_or middle k 0) z) ∙ rows_named r (omega (arith, l, es)) ∙ ap (λ (k : ℕ). cond (has_column rows r) (get_or before k 0) value) z

  column_named : (c : ℕ) → c < m.width → get_or after (height m + c) 0 ≡ cond (has_column columns c) (get_or before (height m + c) 0) value
  column_named c l =
      sym (ap (λ (z : ℕ). get_or after (z + c) 0) ef) ∙ columns_named c (omega (arith, l, ew))
      ∙ ap (λ (v : ℕ). cond (has_column columns c) v value) (rows_kept (from + c) (omega (arith, ef, es)) ∙ ap (λ (z : ℕ). get_or before (z + c) 0) ef)

pub lines_renamed : (m : Matrix) (before after : Groups) (middle : List ℕ) (kept_lines : LineMask) (from value : ℕ) (line : Line) → IsMaskOf m kept_lines
    → from ≡ kept_lines.rows.size → value ≡ name_of m before line
    → ((x : ℕ) → x < kept_lines.rows.size → get_or middle (0 + x) 0 ≡ cond (has_column kept_lines.rows.words x) (get_or before.names.items (0 + x) 0) value)
    → ((k : ℕ) → 0 + kept_lines.rows.size ≤ k → get_or middle k 0 ≡ get_or before.names.items k 0)
    → ((x : ℕ) → x < kept_lines.columns.size → get_or after.names.items (from + x) 0 ≡ cond (has_column kept_lines.columns.words x) (get_or middle (from + x) 0) value)
    → ((k : ℕ) → k < from → get_or after.names.items k 0 ≡ get_or middle k 0) → GetName m before after (as_set kept_lines) line
lines_renamed m before after middle kept_lines from value line is ef ev a b c d = record {
  renamed = renamed;
  kept = kept;
}
  where
    row : (r : ℕ) → r < height m → get_or after.names.items r 0 ≡ cond (has_column kept_lines.rows.words r) (get_or before.names.items r 0) value
    row = row_named m before.names.items after.names.items middle kept_lines.rows.words kept_lines.columns.words kept_lines.rows.size kept_lines.columns.size from value is.rows is.columns (ef ∙ is.rows) a b c d

    column : (k : ℕ) → k < m.width → get_or after.names.items (height m + k) 0 ≡ cond (has_column kept_lines.columns.words k) (get_or before.names.items (height m + k) 0) value
    column = column_named m before.names.items after.names.items middle kept_lines.rows.words kept_lines.columns.words kept_lines.rows.size kept_lines.columns.size from value is.rows is.columns (ef ∙ is.rows) a b c d

    renamed : (x : Line) → IsLineOf m x → as_set kept_lines x ≡ false → name_of m after x ≡ name_of m before line
    renamed (Row r) l f = row r l ∙ ap (λ (t : Bool). cond t (get_or before.names.items r 0) value) f ∙ ev
    renamed (Column k) l f = column k l ∙ ap (λ (t : Bool). cond t (get_or before.names.items (height m + k) 0) value) f ∙ ev

    kept : (x : Line) → IsLineOf m x → as_set kept_lines x ≡ true → name_of m after x ≡ name_of m before x
    kept (Row r) l t = row r l ∙ ap (λ (b : Bool). cond b (get_or before.names.items r 0) value) t
    kept (Column k) l t = column k l ∙ ap (λ (b : Bool). cond b (get_or before.names.items (height m + k) 0) value) t

-- ---- the group of a line

-- two searches: with the lines of a name in side one, and with these lines in side two
pub covered_group : {E : Type 0} (m : Matrix) (groups : Groups) (name : ℕ) (line : Line) (group : Lines) (nothing first second more : Side) (before between after : LineMask) (covered : Bool) (found : Result Bool E)
    → IsLineOf m line
    → HoldTogether (IsCut m) m groups → ((x : Line) → as_set nothing.lines x ≡ false) → ((x : Line) → IsLineOf m x → as_set first.lines x ≡ true → (as_set nothing.lines x ≡ true) ⊎ (x ≡ line))
    → ((x : Line) → IsLineOf m x → group x ≡ true → name_of m groups x ≡ name) → AddsAtMost m (as_set more.lines) (as_set first.lines) group
    → AddsAtMost m (as_set second.lines) (as_set nothing.lines) group
    → covered ≡ true → HasMarked m more nothing before between covered → IfOk found (HasMarked m first second between after)
    → IfOk found (λ covered. covered ≡ true → AreOnOneSide m line (as_set after))
covered_group m groups name line group nothing first second more before between after covered (Ok last) lx together empty only named adds_more adds_second is h1 h2 = λ e.
    group_of_covers m groups name (as_set first.lines) group (as_set more.lines) (as_set nothing.lines) (as_set after) line lx
    (λ x l h. elim (only x l h) [ inl old ↦ absurd (not_both (as_set nothing.lines x) old (empty x)) | inr same ↦ same ])
    together named adds_more (λ x l. empty x)
    (covers_more m (as_set more.lines) (as_set nothing.lines) (as_set between) (as_set after) h2.more (h1.covers is))
    (covers_less m (as_set first.lines) group (as_set after) (as_set first.lines) (as_set second.lines) (λ x l t. t)
    (λ x l t. elim (adds_second x l t) [ inl old ↦ absurd (not_both (as_set nothing.lines x) old (empty x)) | inr new ↦ new ])
    (h2.covers e))
covered_group m groups name line group nothing first second more before between after covered (Err e) lx together empty only named adds_more adds_second is h1 h2 = h2
