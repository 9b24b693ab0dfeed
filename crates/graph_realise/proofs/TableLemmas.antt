-- Cells of tables, whose rows are words of bits.
use Rattle.std.proofs.Common.{◌≡◌, ◌≢◌, ◌<◌, ◌≤◌, ◌+◌, ◌*◌, ◌/◌, ◌%◌, ◌∙◌, ℕ, Bool, false, cond, eqb, length, get_or, set, sym, ap, subst, refl, arith, nat_lt, ◌⊎◌, inl, inr}
use Rattle.std.specs.Int.{bit_at}
use Rattle.std.proofs.lemmas.Bool.{cases_lt}
use Rattle.std.proofs.lemmas.Bool.Decides.{nat_tests}
use Rattle.std.proofs.lemmas.Nat.{mul-add-lt}
use Rattle.std.proofs.lemmas.List.{get_or-set_same, get_or-set_other}
use Rattle.std.proofs.Math.Nat.{mul-le-mul_right, suc-mul}
use Rattle.cmr_base.specs.MatrixLayout.{is_in}
use Rattle.cmr_base.specs.Planes.{has_bit, words_for}
use Rattle.cmr_base.proofs.RowLists.{same_or_not}
use Rattle.cmr_base.proofs.Booleans.{is_not_lt, is_lt}
use Rattle.cmr_base.proofs.ColumnWords.{chunk_of, place_of}
use Rattle.graph_realise.specs.declared.table.Table.TheInside.{Inside}
use Rattle.graph_realise.specs.BitTables.{Grid, cell, IsCellSet, IsRowFilled, IsWordSet, KeepsOtherRows}
use Rattle.graph_realise.specs.TableLayout.{grid_of, IsLaidOut}

pub cell_inside : (table : Grid) (row column : ℕ) → column < table.width → cell table row column ≡ is_in (words_for table.width) table.words row column
cell_inside table row column l = ap (λ (b : Bool). cond b (is_in (words_for table.width) table.words row column) false) (is_lt column table.width l)

pub cell_past : (table : Grid) (row column : ℕ) → table.width ≤ column → cell table row column ≡ false
cell_past table row column l = ap (λ (b : Bool). cond b (is_in (words_for table.width) table.words row column) false) (is_not_lt column table.width l)

-- each pair of a row and a chunk has its own position
earlier_row : (w r s c d : ℕ) → r < s → c < w → r * w + c < s * w + d
earlier_row w r s c d l k =
    let up : r + 1 ≤ s = omega arith in
    omega (arith, mul-le-mul_right w up, suc-mul r w)

other_place : (w r s c d : ℕ) → c < w → d < w → (r ≢ s) → r * w + c ≢ s * w + d
other_place w r s c d hc hd n e = go (cases_lt r s)
  where
    go : (r < s) ⊎ (s ≤ r) → ⊥
    go (inl l) = let q = earlier_row w r s c d l hc in absurd (omega arith)
    go (inr l) = let q = earlier_row w s r d c (below s r l (λ z. n (sym z))) hd in absurd (omega arith)
      where
        below : (a b : ℕ) → a ≤ b → a ≢ b → a < b
        below a b l m = grind (arith, nat_tests)

other_chunk : (w r c d : ℕ) → c ≢ d → r * w + c ≢ r * w + d
other_chunk w r c d n e = n (omega arith)

-- one changed word in the layout
pub word_set : (table new : Grid) (row chunk word : ℕ) → length table.words ≡ table.height * words_for table.width → row < table.height → 64 * chunk < table.width
    → new ≡ record { height = table.height; width = table.width; words = set table.words (row * words_for table.width + chunk) word }
    → IsWordSet table new row chunk word
word_set table new row chunk word whole hr hb e = rw e (record {
  rows = record {
    height = refl;
    width = refl;
    others = λ r c n. pick c (cases_lt c table.width)
        (λ l. ap (λ (n : ℕ). has_bit n (c % 64)) (get_or-set_other table.words (row * words_for table.width + chunk) (r * words_for table.width + c / 64) word 0 (other_place (words_for table.width) r row (c / 64) chunk (omega arith) inside n)));
  };
  here = λ k small l.
      cell_inside (record { height = table.height; width = table.width; words = set table.words (row * words_for table.width + chunk) word }) row (64 * chunk + k) l
      ∙ ap (λ b. has_bit (get_or (set table.words (row * words_for table.width + chunk) word) (row * words_for table.width + b) 0) ((64 * chunk + k) % 64)) (chunk_of chunk k small)
      ∙ ap (λ n. has_bit n ((64 * chunk + k) % 64)) (get_or-set_same table.words (row * words_for table.width + chunk) word 0
      (omega (arith, whole, mul-add-lt row (words_for table.width) chunk table.height hr inside)))
      ∙ ap (has_bit word) (place_of chunk k small);
  others = λ c n. pick c (cases_lt c table.width)
      (λ l. ap (λ (m : ℕ). has_bit m (c % 64)) (get_or-set_other table.words (row * words_for table.width + chunk) (row * words_for table.width + c / 64) word 0 (other_chunk (words_for table.width) row (c / 64) chunk n)));
})
  where
    inside : chunk < words_for table.width
    inside = omega arith

    pick : {x y : Bool} → (c : ℕ) → (c < table.width) ⊎ (table.width ≤ c) → (c < table.width → x ≡ y)
        → cond (nat_lt c table.width) x false ≡ cond (nat_lt c table.width) y false
    pick c (inl l) h = ap (λ z. cond (nat_lt c table.width) z false) (h l)
    pick c (inr l) h = rw (is_not_lt c table.width l) refl

pub set_laid_out : (a : Inside) (table new : Grid) (row chunk word : ℕ) → grid_of a ≡ table → IsLaidOut a → row < table.height → 64 * chunk < table.width
    → new ≡ record { height = a.height; width = a.width; words = set a.words.items (row * words_for a.width + chunk) word }
    → IsWordSet table new row chunk word
set_laid_out a table new row chunk word e laid hr hb is =
    subst (λ (t : Grid). IsWordSet t new row chunk word) e
    (word_set (grid_of a) new row chunk word laid.whole (omega (arith, hr, ap (λ (t : Grid). t.height) e)) (omega (arith, hb, ap (λ (t : Grid). t.width) e)) is)

-- a word with one bit changed changes one cell
pub cell_set : (old new : Grid) (row column before word : ℕ) (value : Bool) → column < old.width
    → ((k : ℕ) → k < 64 → 64 * (column / 64) + k < old.width → has_bit before k ≡ cell old row (64 * (column / 64) + k))
    → has_bit word (column % 64) ≡ value → ((k : ℕ) → k < 64 → k ≢ column % 64 → bit_at word k ≡ bit_at before k) → IsWordSet old new row (column / 64) word → IsCellSet old new row column value
cell_set old new row column before word value inside bits here kept s = record {
  rows = s.rows;
  here = subst (λ c. cell new row c ≡ value) same (s.here (column % 64) (omega arith) (omega arith) ∙ here);
  others = λ c n. go c n (same_or_not (c / 64) (column / 64)) (cases_lt c old.width);
}
  where
    same : 64 * (column / 64) + column % 64 ≡ column
    same = omega arith

    go : (c : ℕ) → c ≢ column → (c / 64 ≡ column / 64) ⊎ (c / 64 ≢ column / 64) → (c < old.width) ⊎ (old.width ≤ c) → cell new row c ≡ cell old row c
    go c n (inr m) l = s.others c m
    go c n (inl e) (inr l) = cell_past new row c (let w = s.rows.width in omega arith) ∙ sym (cell_past old row c l)
    go c n (inl e) (inl l) =
        let at : 64 * (column / 64) + c % 64 ≡ c = omega arith in
        let other : c % 64 ≢ column % 64 = λ f. n (let k : c ≡ column = omega arith in k) in
        subst (λ x. cell new row x ≡ cell old row x) at
        (s.here (c % 64) (omega arith) (omega arith) ∙ ap (λ bit. eqb bit 1) (kept (c % 64) (omega arith) other) ∙ bits (c % 64) (omega arith) (omega arith))

pub keeps_rows_trans : (a b c : Grid) (row : ℕ) → KeepsOtherRows a b row → KeepsOtherRows b c row → KeepsOtherRows a c row
keeps_rows_trans a b c row h k = record {
  height = k.height ∙ h.height;
  width = k.width ∙ h.width;
  others = λ r column n. k.others r column n ∙ h.others r column n;
}

-- 64 further columns
pub filled_word : (values : ℕ → Bool) (old now new : Grid) (row chunk word : ℕ) → IsRowFilled values old now row (64 * chunk) → IsWordSet now new row chunk word
    → ((k : ℕ) → k < 64 → 64 * chunk + k < old.width → has_bit word k ≡ values (64 * chunk + k)) → IsRowFilled values old new row (64 * (chunk + 1))
filled_word values old now new row chunk word so s bits = record {
  rows = keeps_rows_trans old now new row so.rows s.rows;
  done = λ c l w. pick c w (cases_lt c (64 * chunk)) l;
  left = λ c l. s.others c (λ e. absurd (omega arith)) ∙ so.left c (omega arith);
}
  where
    pick : (c : ℕ) → c < old.width → (c < 64 * chunk) ⊎ (64 * chunk ≤ c) → c < 64 * (chunk + 1) → cell new row c ≡ values c
    pick c w (inl l) k = s.others c (λ e. absurd (omega arith)) ∙ so.done c l w
    pick c w (inr l) k =
        let at : 64 * chunk + c % 64 ≡ c = omega arith in
        let wide = so.rows.width in
        subst (λ x. cell new row x ≡ values x) at (s.here (c % 64) (omega arith) (omega arith) ∙ bits (c % 64) (omega arith) (omega arith))

-- a word that has the values already
pub filled_as : (values : ℕ → Bool) (old now : Grid) (row chunk : ℕ) → IsRowFilled values old now row (64 * chunk)
    → ((k : ℕ) → k < 64 → 64 * chunk + k < old.width → cell now row (64 * chunk + k) ≡ values (64 * chunk + k)) → IsRowFilled values old now row (64 * (chunk + 1))
filled_as values old now row chunk so bits = record {
  rows = so.rows;
  done = λ c l w. pick c w (cases_lt c (64 * chunk)) l;
  left = λ c l. so.left c (omega arith);
}
  where
    pick : (c : ℕ) → c < old.width → (c < 64 * chunk) ⊎ (64 * chunk ≤ c) → c < 64 * (chunk + 1) → cell now row c ≡ values c
    pick c w (inl l) k = so.done c l w
    pick c w (inr l) k =
        let at : 64 * chunk + c % 64 ≡ c = omega arith in
        subst (λ x. cell now row x ≡ values x) at (bits (c % 64) (omega arith) (omega arith))

-- the complete row
pub filled_row : (values : ℕ → Bool) (old new : Grid) (row count : ℕ) → words_for old.width ≤ count → IsRowFilled values old new row (64 * count) → IsRowFilled values old new row old.width
filled_row values old new row count many so = record {
  rows = so.rows;
  done = λ c l w. so.done c (omega arith) w;
  left = λ c l. cell_past new row c (let w = so.rows.width in omega arith) ∙ sym (cell_past old row c l);
}
