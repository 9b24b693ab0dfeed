-- Small trees that keep the rules, and trees that break one.
use Rattle.std.proofs.Common.{◌≡◌, ◌<◌, ℕ, zero, suc, pos, List, [], ◌∷◌, map, Contains, length, refl, ap, arith, sym}
use Rattle.std.proofs.lemmas.Int.{ints}
use Rattle.cmr_base.specs.declared.separation.Two.{Two}
use Rattle.std.proofs.lemmas.Bool.{true≢false}
use Rattle.cmr_base.specs.declared.line.Line.TheVariants.{Row, Column}
use Rattle.cmr_base.specs.declared.line_set.LineSet.{LineSet}
use Rattle.cmr_base.specs.Matrix.{Matrix, entry}
use Rattle.tree_type.specs.declared.refusal.Rule.{Rule}
use Rattle.tree_type.specs.declared.refusal.Rule.TheVariants as rule
use Rattle.tree_type.specs.DecompositionTrees.{Empty, Reduced, OneSum, TwoSum, Undecided, Tree, Branch, NoTrees, one_tree, two_trees}
use Rattle.tree_type.specs.Verdicts.{Yes, Open, verdict_of}
use Rattle.tree_type.specs.Places.{AllLines, These, Unnamed, places}
use Rattle.tree_type.specs.Soundness.{Keeps, KeepsAll, IsSoundTree, IsBrokenTree, AreReductions, rule_number}

abbrev lines : List ℕ → List ℕ → LineSet
lines rows columns = record { rows = rows; columns = columns }

abbrev both : LineSet
both = lines (0 ∷ 1 ∷ []) (0 ∷ 1 ∷ [])

abbrev unit_matrix : Matrix
unit_matrix = record { rows = (pos 1 ∷ pos 0 ∷ []) ∷ (pos 0 ∷ pos 1 ∷ []) ∷ []; width = 2 }

abbrev ones : Matrix
ones = record { rows = (pos 1 ∷ pos 1 ∷ []) ∷ (pos 1 ∷ pos 1 ∷ []) ∷ []; width = 2 }

-- all lines are removed, rows first, and none remains
abbrev reduced : Tree
reduced = Branch both (Reduced (Row 0 ∷ Row 1 ∷ Column 0 ∷ Column 1 ∷ [])) (one_tree (Branch (lines [] []) Empty NoTrees))

paths : map (λ place. place.path) (places 2 2 reduced) ≡ [] ∷ (0 ∷ []) ∷ []
paths = refl

verdict_yes : verdict_of reduced ≡ Yes
verdict_yes = refl

first_of : (x : ℕ) (xs : List ℕ) → Contains (x ∷ xs) x
first_of x xs = (0, omega arith, refl)

reductions : AreReductions (entry unit_matrix) (0 ∷ 1 ∷ []) (0 ∷ 1 ∷ []) (Row 0 ∷ Row 1 ∷ Column 0 ∷ Column 1 ∷ [])
reductions = (first_of 0 (1 ∷ []), refl, (first_of 1 [], refl, (first_of 0 (1 ∷ []), refl, (first_of 1 [], refl, tt))))

reduced_sound : IsSoundTree unit_matrix 2 2 reduced
reduced_sound = (root, (child, tt))
  where
    root : KeepsAll unit_matrix (record { path = []; pivots = []; due = AllLines 2 2; lines = both; finding = Reduced (Row 0 ∷ Row 1 ∷ Column 0 ∷ Column 1 ∷ []); children = lines [] [] ∷ [] })
    root rule.Size = (refl, refl)
    root rule.Lines = (refl, refl)
    root rule.NotReducible = (omega arith, reductions)
    root _ = tt

    child : KeepsAll unit_matrix (record { path = 0 ∷ []; pivots = []; due = These (lines [] []); lines = lines [] []; finding = Empty; children = [] })
    child rule.Lines = (refl, refl)
    child rule.NotEmpty = refl
    child _ = tt

-- in a matrix of ones, the second row has two nonzeros, so it is not reducible after the first row is removed
reduced_broken : IsBrokenTree ones 2 2 reduced [] rule.NotReducible
reduced_broken = record {
  before = [];
  place = record { path = []; pivots = []; due = AllLines 2 2; lines = both; finding = Reduced (Row 0 ∷ Row 1 ∷ Column 0 ∷ Column 1 ∷ []); children = lines [] [] ∷ [] };
  after = record { path = 0 ∷ []; pivots = []; due = These (lines [] []); lines = lines [] []; finding = Empty; children = [] } ∷ [];
  order = refl;
  sound = tt;
  breaks = record { breaks = λ h. true≢false (sym h.1.2.1); keeps = kept };
  path_is = refl;
}
  where
    kept : (earlier : Rule) → rule_number earlier < 4 → Keeps ones (record { path = []; pivots = []; due = AllLines 2 2; lines = both; finding = Reduced (Row 0 ∷ Row 1 ∷ Column 0 ∷ Column 1 ∷ []); children = lines [] [] ∷ [] }) earlier
    kept rule.Size l = (refl, refl)
    kept rule.Lines l = (refl, refl)
    kept rule.NotReducible l = absurd (omega (arith, l))
    kept _ l = tt

-- 1 0/1 1 is a two-sum at its second row and first column; nothing is known of the children
abbrev lower : Matrix
lower = record { rows = (pos 1 ∷ pos 0 ∷ []) ∷ (pos 1 ∷ pos 1 ∷ []) ∷ []; width = 2 }

abbrev two : Two
two = record { side = lines (0 ∷ []) (0 ∷ []); row = 1; column = 0 }

abbrev joined : List ℕ → Tree
joined rows = Branch both (TwoSum two) (two_trees (Branch (lines rows (0 ∷ [])) Undecided NoTrees) (Branch (lines (1 ∷ []) (0 ∷ 1 ∷ [])) Undecided NoTrees))

joined_paths : map (λ place. place.path) (places 2 2 (joined (0 ∷ 1 ∷ []))) ≡ [] ∷ (0 ∷ []) ∷ (1 ∷ []) ∷ []
joined_paths = refl

joined_verdict : verdict_of (joined (0 ∷ 1 ∷ [])) ≡ Open (lines (0 ∷ 1 ∷ []) (0 ∷ []))
joined_verdict = refl

only_zero : (x : ℕ) → Contains (0 ∷ []) x → x ≡ 0
only_zero x (zero, l, e) = sym e
only_zero x (suc k, l, e) = absurd (omega (arith, l))

only_one : (x : ℕ) → Contains (1 ∷ []) x → x ≡ 1
only_one x (zero, l, e) = sym e
only_one x (suc k, l, e) = absurd (omega (arith, l))

joined_root : (children : List LineSet) → KeepsAll lower (record { path = []; pivots = []; due = AllLines 2 2; lines = both; finding = TwoSum two; children = children })
joined_root children rule.Size = (refl, refl)
joined_root children rule.Lines = (refl, refl)
joined_root children rule.TooShort = record { one = omega arith; two = omega arith }
joined_root children rule.BadConnector = record { row = first_of 1 []; column = first_of 0 []; nonzero = λ e. omega (arith, ints, e) }
joined_root children rule.BadBlock = record {
  upper = λ r c h k. rw (only_zero r h, only_one c k) refl;
  lower = λ r c h k. rw (only_one r h, only_zero c k) refl;
}
joined_root children _ = tt

joined_sound : IsSoundTree lower 2 2 (joined (0 ∷ 1 ∷ []))
joined_sound = (joined_root (lines (0 ∷ 1 ∷ []) (0 ∷ []) ∷ lines (1 ∷ []) (0 ∷ 1 ∷ []) ∷ []), (first, (second, tt)))
  where
    first : KeepsAll lower (record { path = 0 ∷ []; pivots = []; due = These (lines (0 ∷ 1 ∷ []) (0 ∷ [])); lines = lines (0 ∷ 1 ∷ []) (0 ∷ []); finding = Undecided; children = [] })
    first rule.Lines = (refl, refl)
    first _ = tt

    second : KeepsAll lower (record { path = 1 ∷ []; pivots = []; due = These (lines (1 ∷ []) (0 ∷ 1 ∷ [])); lines = lines (1 ∷ []) (0 ∷ 1 ∷ []); finding = Undecided; children = [] })
    second rule.Lines = (refl, refl)
    second _ = tt

-- a child that lacks the row of the reference
joined_broken : IsBrokenTree lower 2 2 (joined (0 ∷ [])) (0 ∷ []) rule.Lines
joined_broken = record {
  before = record { path = []; pivots = []; due = AllLines 2 2; lines = both; finding = TwoSum two; children = lines (0 ∷ []) (0 ∷ []) ∷ lines (1 ∷ []) (0 ∷ 1 ∷ []) ∷ [] } ∷ [];
  place = record { path = 0 ∷ []; pivots = []; due = These (lines (0 ∷ 1 ∷ []) (0 ∷ [])); lines = lines (0 ∷ []) (0 ∷ []); finding = Undecided; children = [] };
  after = record { path = 1 ∷ []; pivots = []; due = These (lines (1 ∷ []) (0 ∷ 1 ∷ [])); lines = lines (1 ∷ []) (0 ∷ 1 ∷ []); finding = Undecided; children = [] } ∷ [];
  order = refl;
  sound = (joined_root (lines (0 ∷ []) (0 ∷ []) ∷ lines (1 ∷ []) (0 ∷ 1 ∷ []) ∷ []), tt);
  breaks = record { breaks = λ h. shorter (ap length h.0); keeps = kept };
  path_is = refl;
}
  where
    shorter : length {A = ℕ} (0 ∷ []) ≡ length {A = ℕ} (0 ∷ 1 ∷ []) → ⊥
    shorter e = omega (arith, e)

    kept : (earlier : Rule) → rule_number earlier < 1 → Keeps lower (record { path = 0 ∷ []; pivots = []; due = These (lines (0 ∷ 1 ∷ []) (0 ∷ [])); lines = lines (0 ∷ []) (0 ∷ []); finding = Undecided; children = [] }) earlier
    kept rule.Size l = tt
    kept rule.Lines l = absurd (omega (arith, l))
    kept _ l = tt

-- one child does not make a one-sum
lone_broken : (m : Matrix) → m ≡ record { rows = [] ∷ []; width = 0 } → IsBrokenTree m 1 0 (Branch (lines (0 ∷ []) []) OneSum (one_tree (Branch (lines [] []) Empty NoTrees))) [] rule.NotApart
lone_broken m e = record {
  before = [];
  place = record { path = []; pivots = []; due = AllLines 1 0; lines = lines (0 ∷ []) []; finding = OneSum; children = lines [] [] ∷ [] };
  after = record { path = 0 ∷ []; pivots = []; due = Unnamed; lines = lines [] []; finding = Empty; children = [] } ∷ [];
  order = refl;
  sound = tt;
  breaks = record { breaks = λ h. let l = h.two in omega (arith, l); keeps = kept };
  path_is = refl;
}
  where
    kept : (earlier : Rule) → rule_number earlier < 5 → Keeps m (record { path = []; pivots = []; due = AllLines 1 0; lines = lines (0 ∷ []) []; finding = OneSum; children = lines [] [] ∷ [] }) earlier
    kept rule.Size l = rw e (refl, refl)
    kept rule.Lines l = (refl, refl)
    kept rule.NotApart l = absurd (omega (arith, l))
    kept _ l = tt
