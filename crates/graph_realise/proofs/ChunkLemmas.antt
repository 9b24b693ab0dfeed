-- Rows of tables that are filled in some chunks of columns.
use Rattle.std.proofs.Common.{◌≡◌, ◌≢◌, ◌<◌, ◌≤◌, ◌+◌, ◌++◌, ◌*◌, ◌/◌, ◌%◌, ◌∙◌, ◌⊎◌, inl, inr, ℕ, Bool, true, false, List, [], ◌∷◌, length, get_or, sym, ap, refl, subst, arith}
use Rattle.std.specs.List.Sorted.{IsStrictlyIncreasing}
use Rattle.std.proofs.lemmas.Bool.{cases_lt}
use Rattle.cmr_base.specs.Members.{IsIn}
use Rattle.cmr_base.specs.Planes.{has_bit}
use Rattle.cmr_base.proofs.Booleans.{false_is}
use Rattle.cmr_base.proofs.ColumnWords.{chunk_of}
use Rattle.cmr_base.proofs.Members.{in_at, in-append, increasing-append}
use Rattle.cmr_base.proofs.Places.{found_at}
use Rattle.cmr_base.proofs.RowLists.{in_or_not, not_both}
use Rattle.graph_realise.specs.BitTables.{Grid, cell, AreChunksFilled, AreChunksOf, IsRowFilled, IsWordSet}
use Rattle.graph_realise.proofs.SideLemmas.{not_before}
use Rattle.graph_realise.proofs.TableLemmas.{cell_past, keeps_rows_trans}

pub chunks_none : (values : ℕ → Bool) (table : Grid) (row : ℕ) (chunks : List ℕ) → AreChunksFilled values table table row chunks 0
chunks_none values table row chunks = record {
  rows = record { height = refl; width = refl; others = λ r column n. refl };
  done = λ k column l. absurd (omega arith);
  left = λ column n. refl;
}

-- the chunk at this position was not filled before
pub not_filled : (values : ℕ → Bool) (old now : Grid) (row : ℕ) (chunks : List ℕ) (place k : ℕ) → IsStrictlyIncreasing chunks → place < length chunks
    → AreChunksFilled values old now row chunks place → k < 64
    → cell now row (64 * get_or chunks place 0 + k) ≡ cell old row (64 * get_or chunks place 0 + k)
not_filled values old now row chunks place k increasing l so small =
    so.left (64 * get_or chunks place 0 + k) (λ p m e. not_before chunks place increasing l p m (sym e ∙ chunk_of (get_or chunks place 0) k small))

pub chunks_more : (values : ℕ → Bool) (old now new : Grid) (row : ℕ) (chunks : List ℕ) (place word : ℕ) → IsStrictlyIncreasing chunks → place < length chunks
    → AreChunksFilled values old now row chunks place
    → IsWordSet now new row (get_or chunks place 0) word
    → ((k : ℕ) → k < 64 → 64 * get_or chunks place 0 + k < old.width → has_bit word k ≡ values (64 * get_or chunks place 0 + k))
    → AreChunksFilled values old new row chunks (place + 1)
chunks_more values old now new row chunks place word increasing here so s bits = record {
  rows = keeps_rows_trans old now new row so.rows s.rows;
  done = λ k column l e w. pick k column e w (cases_lt k place) l;
  left = λ column n. s.others column (n place (omega arith)) ∙ so.left column (λ k l. n k (omega arith));
}
  where
    pick : (k column : ℕ) → column / 64 ≡ get_or chunks k 0 → column < old.width → (k < place) ⊎ (place ≤ k) → k < place + 1 → cell new row column ≡ values column
    pick k column e w (inl l) m = s.others column (λ q. not_before chunks place increasing here k l (sym e ∙ q)) ∙ so.done k column l e w
    pick k column e w (inr l) m =
        let same : k ≡ place = omega arith in
        let chunk : column / 64 ≡ get_or chunks place 0 = e ∙ ap (λ (z : ℕ). get_or chunks z 0) same in
        let at : 64 * get_or chunks place 0 + column % 64 ≡ column = omega arith in
        let wide = so.rows.width in
        subst (λ x. cell new row x ≡ values x) at (s.here (column % 64) (omega arith) (omega arith) ∙ bits (column % 64) (omega arith) (omega arith))

-- a chunk that has the values already
pub chunks_same : (values : ℕ → Bool) (old now : Grid) (row : ℕ) (chunks : List ℕ) (place : ℕ) → AreChunksFilled values old now row chunks place
    → ((k : ℕ) → k < 64 → 64 * get_or chunks place 0 + k < old.width → cell now row (64 * get_or chunks place 0 + k) ≡ values (64 * get_or chunks place 0 + k))
    → AreChunksFilled values old now row chunks (place + 1)
chunks_same values old now row chunks place so bits = record {
  rows = so.rows;
  done = λ k column l e w. pick k column e w (cases_lt k place) l;
  left = λ column n. so.left column (λ k l. n k (omega arith));
}
  where
    pick : (k column : ℕ) → column / 64 ≡ get_or chunks k 0 → column < old.width → (k < place) ⊎ (place ≤ k) → k < place + 1 → cell now row column ≡ values column
    pick k column e w (inl l) m = so.done k column l e w
    pick k column e w (inr l) m =
        let same : k ≡ place = omega arith in
        let chunk : column / 64 ≡ get_or chunks place 0 = e ∙ ap (λ (z : ℕ). get_or chunks z 0) same in
        let at : 64 * get_or chunks place 0 + column % 64 ≡ column = omega arith in
        subst (λ x. cell now row x ≡ values x) at (bits (column % 64) (omega arith) (omega arith))

pub off_chunks : (columns : ℕ → Bool) (width : ℕ) (chunks : List ℕ) (column : ℕ) → AreChunksOf columns width chunks → ¬ (IsIn (column / 64) chunks) → columns column ≡ false
off_chunks columns width chunks column so n = false_is (columns column) (λ e. n (so.all column e))

-- the values outside the chunks stay the same
pub chunks_row : (values : ℕ → Bool) (old new : Grid) (row : ℕ) (chunks : List ℕ) (count : ℕ) → count ≡ length chunks → AreChunksFilled values old new row chunks count
    → ((column : ℕ) → ¬ (IsIn (column / 64) chunks) → values column ≡ cell old row column) → IsRowFilled values old new row old.width
chunks_row values old new row chunks count many so same = record {
  rows = so.rows;
  done = λ column l w. pick column w (in_or_not (column / 64) chunks);
  left = λ column l. cell_past new row column (let w = so.rows.width in omega arith) ∙ sym (cell_past old row column l);
}
  where
    out : (column : ℕ) → ¬ (IsIn (column / 64) chunks) → (k : ℕ) → k < count → column / 64 ≢ get_or chunks k 0
    out column n k l e = n (subst (λ (z : ℕ). IsIn z chunks) (sym e) (in_at chunks k (omega arith)))

    pick : (column : ℕ) → column < old.width → IsIn (column / 64) chunks ⊎ (¬ (IsIn (column / 64) chunks)) → cell new row column ≡ values column
    pick column w (inl h) = let q = found_at chunks (column / 64) h in so.done q.0 column (let l = q.1 in omega arith) (sym q.2) w
    pick column w (inr n) = so.left column (out column n) ∙ sym (same column n)

-- ---- the chunks of a set

-- the chunks below one of the columns of a set
pub record AreChunksTo (columns : ℕ → Bool) (width : ℕ) (chunks : List ℕ) (upto : ℕ) : Type 0 where
  pub increasing : IsStrictlyIncreasing chunks
  pub below : (x : ℕ) → IsIn x chunks → (x < upto) × (64 * x < width)
  pub all : (column : ℕ) → column / 64 < upto → columns column ≡ true → IsIn (column / 64) chunks

module _ (columns : ℕ → Bool) (width : ℕ) where
  pub no_chunks : AreChunksTo columns width [] 0
  no_chunks = record {
    increasing = λ k l. absurd (omega arith);
    below = λ x h. absurd h;
    all = λ column l. absurd (omega arith);
  }

  pub chunk_more : (chunks : List ℕ) (chunk : ℕ) → AreChunksTo columns width chunks chunk → 64 * chunk < width → AreChunksTo columns width (chunks ++ chunk ∷ []) (chunk + 1)
  chunk_more chunks chunk so l = record {
    increasing = increasing-append chunks chunk so.increasing (λ y h. (so.below y h).0);
    below = λ x h. low x ((in-append chunks chunk x).0 h);
    all = λ column m e. (in-append chunks chunk (column / 64)).1 (here column e (cases_lt (column / 64) chunk) m);
  }
    where
      low : (x : ℕ) → IsIn x chunks ⊎ (x ≡ chunk) → (x < chunk + 1) × (64 * x < width)
      low x (inl h) = let q = so.below x h in let k = q.0 in (omega arith, q.1)
      low x (inr e) = (omega arith, omega arith)

      here : (column : ℕ) → columns column ≡ true → (column / 64 < chunk) ⊎ (chunk ≤ column / 64) → column / 64 < chunk + 1 → IsIn (column / 64) chunks ⊎ (column / 64 ≡ chunk)
      here column e (inl k) m = inl (so.all column k e)
      here column e (inr k) m = inr (omega arith)

  pub chunk_empty : (chunks : List ℕ) (chunk : ℕ) → AreChunksTo columns width chunks chunk → ((k : ℕ) → k < 64 → columns (64 * chunk + k) ≡ false) → AreChunksTo columns width chunks (chunk + 1)
  chunk_empty chunks chunk so none = record {
    increasing = so.increasing;
    below = λ x h. let q = so.below x h in let k = q.0 in (omega arith, q.1);
    all = λ column m e. here column e (cases_lt (column / 64) chunk) m;
  }
    where
      here : (column : ℕ) → columns column ≡ true → (column / 64 < chunk) ⊎ (chunk ≤ column / 64) → column / 64 < chunk + 1 → IsIn (column / 64) chunks
      here column e (inl k) m = so.all column k e
      here column e (inr k) m =
          let at : 64 * chunk + column % 64 ≡ column = omega arith in
          absurd (not_both (columns column) e (ap columns (sym at) ∙ none (column % 64) (omega arith)))

  pub all_chunks : (chunks : List ℕ) (upto : ℕ) → AreChunksTo columns width chunks upto → width ≤ 64 * upto → ((column : ℕ) → columns column ≡ true → column < width) → AreChunksOf columns width chunks
  all_chunks chunks upto so many short = record {
    increasing = so.increasing;
    inside = λ k l. (so.below (get_or chunks k 0) (in_at chunks k l)).1;
    all = λ column e. let l = short column e in so.all column (omega arith) e;
  }
