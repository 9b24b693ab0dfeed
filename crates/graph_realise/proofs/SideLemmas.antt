-- Loops that write the sides of arcs.
use Rattle.std.proofs.Common.{◌≡◌, ◌≢◌, ◌<◌, ◌≤◌, ◌+◌, ◌∙◌, ℕ, List, length, get_or, sym, refl, subst, arith, ◌⊎◌, inl, inr}
use Rattle.std.specs.List.Sorted.{IsStrictlyIncreasing}
use Rattle.cmr_base.specs.Members.{IsIn}
use Rattle.cmr_base.proofs.Members.{in_at}
use Rattle.cmr_base.proofs.RowLists.{same_or_not}
use Rattle.cmr_base.proofs.Places.{all_placed, more_placed}
use Rattle.cmr_base.proofs.Submatrices.{increasing_places}
use Rattle.graph_realise.specs.SideTables.{KeepsRow, KeepsOtherArcs, KeepsOutside, AreRedrawn}
use Rattle.graph_realise.specs.declared.arc_sides.ArcSides.{ArcSides}

pub keeps_row_trans : (a b c : ArcSides) (row : ℕ) → KeepsRow a b row → KeepsRow b c row → KeepsRow a c row
keeps_row_trans a b c row h k = record {
  arcs = λ other. k.arcs other ∙ h.arcs other;
  ends = λ end column. k.ends end column ∙ h.ends end column;
}

pub keeps_row_same : (a : ArcSides) (row : ℕ) → KeepsRow a a row
keeps_row_same a row = record { arcs = λ other. refl; ends = λ end column. refl }

-- ---- the rows of a list

-- another row
pub redrawn_more : (P : ℕ → ArcSides → Type 0) (same : (r : ℕ) (a b : ArcSides) → KeepsRow a b r → P r a → P r b) (rows : List ℕ) (count : ℕ) (old now new : ArcSides)
    → AreRedrawn P rows count old now → KeepsOtherArcs now new (get_or rows count 0) → P (get_or rows count 0) new → AreRedrawn P rows (count + 1) old new
redrawn_more P same rows count old now new so others here = record {
  done = more_placed (λ r. P r new) rows count (λ k l. pick k l (same_or_not (get_or rows k 0) (get_or rows count 0))) here;
  kept = λ r h. keeps_row_trans old now new r (so.kept r (λ k l. h k (omega arith))) (others r (λ e. h count (omega arith) (sym e)));
}
  where
    pick : (k : ℕ) → k < count → (get_or rows k 0 ≡ get_or rows count 0) ⊎ (get_or rows k 0 ≢ get_or rows count 0) → P (get_or rows k 0) new
    pick k l (inl e) = subst (λ (r : ℕ). P r new) (sym e) here
    pick k l (inr n) = same (get_or rows k 0) now new (others (get_or rows k 0) n) (so.done k l)

pub redrawn_all : (P : ℕ → ArcSides → Type 0) (rows : List ℕ) (count : ℕ) (old new : ArcSides) → length rows ≤ count → AreRedrawn P rows count old new → (r : ℕ) → IsIn r rows → P r new
redrawn_all P rows count old new le so = all_placed (λ r. P r new) rows count le so.done

pub redrawn_others : (P : ℕ → ArcSides → Type 0) (rows : List ℕ) (count : ℕ) (old new : ArcSides) → count ≤ length rows → AreRedrawn P rows count old new → KeepsOutside old new rows
redrawn_others P rows count old new le so r h = so.kept r (λ k l e. h (subst (λ (x : ℕ). IsIn x rows) e (in_at rows k (omega arith))))

-- the row at a position differs from the earlier rows
pub not_before : (rows : List ℕ) (count : ℕ) → IsStrictlyIncreasing rows → count < length rows → (k : ℕ) → k < count → get_or rows k 0 ≢ get_or rows count 0
not_before rows count increasing l k m e = let q = increasing_places rows k count increasing m l in absurd (omega arith)
