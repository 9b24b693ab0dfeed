-- The tree of all rows from the trees of row i with each part of the other rows.
use Rattle.std.specs.Prelude.{◌≡◌, ◌≢◌, ◌⊎◌, ◌<◌, ◌+◌, ◌↔◌, ℕ, Bool, true, false, not, cond, if◌then◌else◌, ltb, ◌==◌, ◌&&◌, ◌||◌, List, [], length, slice_index_or, count_by, Option, Some, None, MatchOption}
use Rattle.cmr_base.specs.Cuts.{differ, IsCuts}
use Rattle.cmr_base.specs.LineSets.{first_lines}
use Rattle.cmr_base.specs.Members.{IsIn}
use Rattle.cmr_base.specs.Splits.{IsCommon, IsUncutBy}

-- Twice the number of columns that row i has in common with a part, among n columns, plus 1 if the part itself does not cut
-- them. Of two parts that agree, the heavier part does not cut the common columns of the other.
pub record IsWeight (M : ℕ → ℕ → Bool) (n i : ℕ) (P : List ℕ) (weight : ℕ) : Type 0 where
  pub common : ℕ → Bool
  pub exact : (c : ℕ) → c < n → (common c ≡ true) ↔ IsCommon M i P c
  pub whole : Bool
  pub uncut : (whole ≡ true) ↔ IsUncutBy M i P P
  pub value : weight ≡ count_by common (first_lines n) + count_by common (first_lines n) + cond whole 1 0

-- the number of the part of each row except i
abbrev pub IsNumbering : List ℕ → ℕ → List (List ℕ) → (ℕ → ℕ) → Type 0
IsNumbering S i parts part = (r : ℕ) → IsIn r S → r ≢ i → (part r < length parts) × IsIn r (slice_index_or parts (part r) [])

-- For each row except i its part; for each part its weight and a column that it has in common with row i, if there is one; for
-- each column in which row i is 0 the part with its nonzeros.
pub record DescribesParts (M : ℕ → ℕ → Bool) (n : ℕ) (S : List ℕ) (i : ℕ) (parts : List (List ℕ)) (part weight : ℕ → ℕ) (common touched : ℕ → Option ℕ) : Type 0 where
  pub numbers : IsNumbering S i parts part
  pub weights : (a : ℕ) → a < length parts → IsWeight M n i (slice_index_or parts a []) (weight a)
  pub shared : (a : ℕ) → MatchOption (common a) ((c : ℕ) → ¬ (IsCommon M i (slice_index_or parts a []) c)) (IsCommon M i (slice_index_or parts a []))
  pub columns : (r c : ℕ) → IsIn r S → r ≢ i → M i c ≡ false → M r c ≡ true → touched c ≡ Some (part r)

-- how the parts hang at the ends of arc i and at one another
pub record Hanging : Type 0 where
  -- the part of a row
  pub part : ℕ → ℕ
  -- the side of arc i on which a part lies
  pub half : ℕ → Bool
  -- whether the second part may hang at a node of the first
  pub above : ℕ → ℕ → Bool
  -- a column that row i and a part have in common
  pub common : ℕ → Option ℕ
  -- the part with nonzeros in a column in which row i is 0
  pub touched : ℕ → Option ℕ

-- the heavier part, and of two parts with equal weights the part with the greater number
abbrev pub heavier : (ℕ → ℕ) → ℕ → ℕ → Bool
heavier weight p q = ltb (weight q) (weight p) || weight q == weight p && ltb q p

abbrev pub hanging_by : List ℕ → (ℕ → ℕ) → (ℕ → ℕ) → (ℕ → Option ℕ) → (ℕ → Option ℕ) → Hanging
hanging_by sides part weight common touched = record { part = part; half = λ p. slice_index_or sides p 0 == 1; above = heavier weight; common = common; touched = touched }

abbrev pub is_in_some : (ℕ → Bool) → Option ℕ → Bool
is_in_some row None = false
is_in_some row (Some column) = row column

-- the sides of the arcs reversed so that arc i lies on side false
module _ (i : ℕ) (side : ℕ → ℕ → Bool) where
  abbrev pub reversed_side : ℕ → ℕ → Bool
  reversed_side r s = differ (side r i) (side r s)

  abbrev pub reversed_lies : (Bool → ℕ → ℕ → Bool) → Bool → ℕ → ℕ → Bool
  reversed_lies lies end r c = differ (side r i) (lies end r c)

module _ (M : ℕ → ℕ → Bool) (i : ℕ) (hanging : Hanging) where
  -- the side of arc r on which another part lies. If it hangs at a node of r's part, its common columns leave r's part at this
  -- node.
  abbrev pub spot : ℕ → ℕ → Bool
  spot r q = not (differ (hanging.half (hanging.part r)) (hanging.half q)) && hanging.above (hanging.part r) q && is_in_some (M r) (hanging.common q)

  -- the side of arc r on which arc s lies; within each part it is given by `side`
  abbrev pub merged_side : (ℕ → ℕ → Bool) → ℕ → ℕ → Bool
  merged_side side r s =
      if r == i then hanging.half (hanging.part s) else if s == i then false else if hanging.part r == hanging.part s then side r s else spot r (hanging.part s)

  -- the side of arc i on which a column without i lies
  abbrev pub column_half : Option ℕ → Bool
  column_half None = false
  column_half (Some q) = hanging.half q

  module _ (lies : Bool → ℕ → ℕ → Bool) where
    -- the side of arc r on which an end of a column without i lies, by the part that it touches
    abbrev pub end_off : Bool → ℕ → ℕ → Option ℕ → Bool
    end_off end r c None = false
    end_off end r c (Some q) = if hanging.part r == q then lies end r c else spot r q

    -- the same for any column; within the part it is given by `lies`
    abbrev pub merged_lies : Bool → ℕ → ℕ → Bool
    merged_lies end r c =
        if r == i then (if M i c then end else column_half (hanging.touched c))
        else if M i c then (if differ end (hanging.half (hanging.part r)) then false else M r c)
        else end_off end r c (hanging.touched c)

-- Tables that agree with the tables of row i with a part on the entries that are read: the sides of the part's arcs, and the
-- ends of the columns in which row i is 0.
pub record KeepsCuts (M : ℕ → ℕ → Bool) (i : ℕ) (P : List ℕ) (side : ℕ → ℕ → Bool) (lies : Bool → ℕ → ℕ → Bool) : Type 0 where
  pub own_side : ℕ → ℕ → Bool
  pub own_lies : Bool → ℕ → ℕ → Bool
  pub cuts : IsCuts M (λ r. (r ≡ i) ⊎ IsIn r P) own_side own_lies
  pub side_kept : (r s : ℕ) → IsIn r P → (s ≡ i) ⊎ IsIn s P → r ≢ s → side r s ≡ own_side r s
  pub lies_kept : (end : Bool) (r c : ℕ) → IsIn r P → M i c ≡ false → lies end r c ≡ own_lies end r c
