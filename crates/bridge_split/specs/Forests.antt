-- Breadth-first trees over the numbers below `count`. D joins each number to its parent.
use Rattle.std.specs.Prelude.{◌≡◌, ◌≢◌, ◌<◌, ◌≤◌, ◌+◌, ◌*◌, ◌%◌, ◌++◌, ℕ, suc, Bool, true, List, [], ◌∷◌, length, slice_index, slice_index_or}
use Rattle.cmr_base.specs.Members.{IsIn, IsDistinct}
use Rattle.cmr_base.specs.declared.limits.TheConstants.{MAX_ROWS}
use Rattle.bridge_split.specs.declared.forest.TheConstants.{UNREACHED}
use Rattle.bridge_split.specs.declared.cuts.CutTable.{CutTable}
use Rattle.bridge_split.specs.Cutting.{disagree}

-- the first list is a prefix of the second
pub record Extends (before after : List ℕ) : Type 0 where
  pub longer : length before ≤ length after
  pub same : (p : ℕ) → p < length before → slice_index after p ≡ slice_index before p

-- the depth of a number, and UNREACHED outside the list
abbrev pub depth_at : List ℕ → ℕ → ℕ
depth_at depths x = slice_index_or depths x UNREACHED

abbrev pub parent_at : List ℕ → ℕ → ℕ
parent_at parents x = slice_index_or parents x 0

module _ (D : ℕ → ℕ → Bool) (count : ℕ) where
  -- a route from x to y, on which each number is joined to the next and differs from it
  abbrev pub IsRoute : ℕ → List ℕ → ℕ → Type 0
  IsRoute x [] y = ⊥
  IsRoute x (z ∷ []) y = (x ≡ z) × (y ≡ z) × (z < count)
  IsRoute x (z ∷ w ∷ rest) y = (x ≡ z) × (z < count) × (D z w ≡ true) × (z ≢ w) × IsRoute w (w ∷ rest) y

  -- the reached numbers, each with its depth, its parent and the root of its tree
  pub record IsForest (depth parent : ℕ → ℕ) (reached : List ℕ) : Type 0 where
    pub root : ℕ → ℕ
    pub inside : (x : ℕ) → IsIn x reached → x < count
    pub once : IsDistinct reached
    pub low : (p : ℕ) → p < length reached → depth (slice_index reached p) ≤ p
    pub unreached : (x : ℕ) → ¬ (IsIn x reached) → depth x ≡ UNREACHED
    pub top : (x : ℕ) → IsIn x reached → depth x ≡ 0 → root x ≡ x
    pub up : (x : ℕ) → IsIn x reached → 0 < depth x → IsIn (parent x) reached × (depth x ≡ suc (depth (parent x))) × (D x (parent x) ≡ true) × (root x ≡ root (parent x))
    pub few : count ≤ MAX_ROWS

  -- y is reached, and the depths of x and y have different parities
  pub record IsSettledPair (depth : ℕ → ℕ) (reached : List ℕ) (x y : ℕ) : Type 0 where
    pub there : IsIn y reached
    pub parity : depth y % 2 ≢ depth x % 2

  abbrev pub AreSettledPairs : (ℕ → ℕ) → List ℕ → ℕ → Type 0
  AreSettledPairs depth reached head = (p y : ℕ) → p < head → y < count → slice_index reached p ≢ y → D (slice_index reached p) y ≡ true → IsSettledPair depth reached (slice_index reached p) y

  -- within a tree: the numbers before head are settled, and the numbers from head on are in this tree
  pub record IsGrowingForest (depth parent : ℕ → ℕ) (reached : List ℕ) (head : ℕ) : Type 0 where
    pub are : IsForest depth parent reached
    pub settled : AreSettledPairs depth reached head
    pub origin : ℕ
    pub current : (p : ℕ) → head ≤ p → p < length reached → are.root (slice_index reached p) ≡ origin
    pub fits : head ≤ length reached

  -- between two trees
  pub record IsGrownForest (depth parent : ℕ → ℕ) (reached : List ℕ) : Type 0 where
    pub are : IsForest depth parent reached
    pub settled : AreSettledPairs depth reached (length reached)

  -- among the numbers that are joined to the number at head
  pub record IsReachingForest (depth parent : ℕ → ℕ) (reached : List ℕ) (head upto : ℕ) : Type 0 where
    pub growing : IsGrowingForest depth parent reached head
    pub so_far : (y : ℕ) → y < upto → slice_index reached head ≢ y → D (slice_index reached head) y ≡ true → IsSettledPair depth reached (slice_index reached head) y

  -- two numbers of one tree
  pub record AreInOneTree (depth parent : ℕ → ℕ) (reached : List ℕ) (x y : ℕ) : Type 0 where
    pub are : IsForest depth parent reached
    pub one_in : IsIn x reached
    pub two_in : IsIn y reached
    pub same : are.root x ≡ are.root y

  -- two joined numbers of one tree whose depths have the same parity
  pub record IsConflict (depth parent : ℕ → ℕ) (reached : List ℕ) (x y : ℕ) : Type 0 where
    pub tree : AreInOneTree depth parent reached x y
    pub other : x ≢ y
    pub joined : D x y ≡ true
    pub parity : depth y % 2 ≡ depth x % 2

  -- the depths of joined numbers have different parities
  pub record IsTwoColoured (depth : ℕ → ℕ) : Type 0 where
    pub parity : (x y : ℕ) → x < count → y < count → x ≢ y → D x y ≡ true → depth y % 2 ≢ depth x % 2

  -- a route is appended, and its length is odd if and only if the depths of its ends have the same parity
  pub record HasRoute (depth : ℕ → ℕ) (before after : List ℕ) (x y : ℕ) : Type 0 where
    pub rest : List ℕ
    pub appended : after ≡ before ++ rest
    pub route : IsRoute x rest y
    pub parity : (length rest + depth x + depth y) % 2 ≡ 1

-- whether two parts of a table disagree
abbrev pub joins : CutTable → ℕ → ℕ → Bool
joins table = disagree table.cuts.items table.count

pub record IsSquare (table : CutTable) : Type 0 where
  pub few : table.count ≤ MAX_ROWS
  pub size : length table.cuts.items ≡ table.count * table.count

-- room for the depths and parents of `count` numbers
pub record HasTreeRoom (count : ℕ) (depths parents : List ℕ) : Type 0 where
  pub depths_are : length depths ≡ count
  pub parents_are : length parents ≡ count

-- the numbers below `place` are reached
pub record IsGrownTo (table : CutTable) (depths parents reached : List ℕ) (place : ℕ) : Type 0 where
  pub room : HasTreeRoom table.count depths parents
  pub grown : IsGrownForest (joins table) table.count (depth_at depths) (parent_at parents) reached
  pub passed : (x : ℕ) → x < place → IsIn x reached

pub record IsGrowingFrom (table : CutTable) (before : List ℕ) (depths parents reached : List ℕ) (start head : ℕ) : Type 0 where
  pub room : HasTreeRoom table.count depths parents
  pub growing : IsGrowingForest (joins table) table.count (depth_at depths) (parent_at parents) reached head
  pub extends : Extends before reached
  pub start_in : IsIn start reached

pub record IsReachingFrom (table : CutTable) (before : List ℕ) (depths parents reached : List ℕ) (head part depth upto : ℕ) : Type 0 where
  pub room : HasTreeRoom table.count depths parents
  pub reaching : IsReachingForest (joins table) table.count (depth_at depths) (parent_at parents) reached head upto
  pub extends : Extends before reached
  pub head_in : head < length before
  pub part_is : slice_index reached head ≡ part
  pub depth_is : depth_at depths part ≡ depth
