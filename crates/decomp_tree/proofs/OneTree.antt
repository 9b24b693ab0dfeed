-- There is one decomposition of a matrix, but for what its networks say.
use Rattle.std.proofs.Common.{◌≡◌, ◌∙◌, ◌++◌, ℕ, zero, suc, List, [], ◌∷◌, length, map, get_or, refl, ap, ap₂, sym, subst, arith}
use Rattle.std.specs.List.{AllByRecursion}
use Rattle.cmr_base.specs.declared.line_set.LineSet.{LineSet}
use Rattle.cmr_base.specs.Matrix.{Matrix, height}
use Rattle.cmr_base.proofs.Lists.{all_prefix, all_back}
use Rattle.cmr_base.proofs.Booleans.{neither}
use Rattle.tree_type.specs.DecompositionTrees.{Finding, Empty, Cycle, Reduced, OneSum, Network, Conetwork, R10, TwoSum, ThreeSum, Enumerated, Violator, Undecided, Pivoted, Tree, Trees, Branch, NoTrees, MoreTrees, count_trees, lines_at_root}
use Rattle.tree_type.specs.Invariant.{HasChildren}
use Rattle.tree_type.specs.Places.{Due, AllLines, These, Unnamed, MadePivot, pivots_below, due_child, lines_of_each, places_from, places_below}
use Rattle.tree_type.specs.Soundness.{part, HasItsLines}
use Rattle.decomp_tree.specs.Shapes.{Case, HasNoLines, HasFault, IsReducible, IsApart, IsNetwork, IsConetwork, IsR10Matrix, IsTwoSum, IsThreeSum, IsShort, IsLeft, case_number, IsFirstCase, NodeSays, finding_in, set_in, HasParts, IsShapedAt}
use Rattle.decomp_tree.specs.PlainTrees.{plain_finding, plain_tree, plain_trees}
use Rattle.decomp_tree.specs.PlainTrees.{OneShape}
use Rattle.decomp_tree.proofs.FirstSeeds.{one_two, one_three}
use Rattle.decomp_tree.proofs.Components.{one_components}
use Rattle.decomp_tree.proofs.OneCycleFault.{one_cycle_fault}
use Rattle.decomp_tree.proofs.OneLeast.{least_on_lines, one_least}
use Rattle.decomp_tree.specs.Seen.{AreDue}

-- ---- one case

numbered_case : ℕ → Case
numbered_case k = get_or (IsLeft ∷ HasNoLines ∷ HasFault ∷ IsReducible ∷ IsApart ∷ IsNetwork ∷ IsConetwork ∷ IsR10Matrix ∷ IsTwoSum ∷ IsThreeSum ∷ IsShort ∷ []) k IsLeft

case_back : (c : Case) → numbered_case (case_number c) ≡ c
unfolding numbered_case
case_back HasNoLines = refl
case_back HasFault = refl
case_back IsReducible = refl
case_back IsApart = refl
case_back IsNetwork = refl
case_back IsConetwork = refl
case_back IsR10Matrix = refl
case_back IsTwoSum = refl
case_back IsThreeSum = refl
case_back IsShort = refl
case_back IsLeft = refl

one_case : (limit : ℕ) (n : Matrix) (c d : Case) → IsFirstCase limit n c → IsFirstCase limit n d → c ≡ d
one_case limit n c d x y =
    let same : case_number c ≡ case_number d = neither (case_number c) (case_number d) (λ l. y.first c l x.applies) (λ l. x.first d l y.applies) in
    sym (case_back c) ∙ ap numbered_case same ∙ case_back d

-- ---- one saying

abbrev AreSame : Finding → Finding → List LineSet → List LineSet → Type 0
AreSame found other parts others = (plain_finding found ≡ plain_finding other) × HasParts found parts others

pub set_same : (f g : LineSet) → (f.rows ≡ g.rows) × (f.columns ≡ g.columns) → f ≡ g
set_same f g e = ap₂ (λ (rows columns : List ℕ). let set : LineSet = record { rows = rows; columns = columns } in set) e.0 e.1

says_same : (n : Matrix) (case : Case) (found other : Finding) (parts others : List LineSet) → NodeSays case n found parts → NodeSays case n other others → AreSame found other parts others
says_same n HasNoLines Empty Empty parts others a b = (refl, tt)
says_same n HasNoLines Empty other parts others a b = absurd b
says_same n HasNoLines found other parts others a b = absurd a
says_same n HasFault (Cycle f) (Cycle g) parts others a b = (ap Cycle (set_same f g (one_cycle_fault n f.rows f.columns g.rows g.columns a b)), tt)
says_same n HasFault (Cycle f) other parts others a b = absurd b
says_same n HasFault found other parts others a b = absurd a
says_same n IsReducible (Reduced steps) (Reduced steps') parts others a b = (ap Reduced (a ∙ sym b), tt)
says_same n IsReducible (Reduced steps) other parts others a b = absurd b
says_same n IsReducible found other parts others a b = absurd a
says_same n IsApart OneSum OneSum parts others a b = (refl, one_components n parts others a.0 b.0)
says_same n IsApart OneSum other parts others a b = absurd b
says_same n IsApart found other parts others a b = absurd a
says_same n IsNetwork (Network net) (Network net') parts others a b = (refl, tt)
says_same n IsNetwork (Network net) other parts others a b = absurd b
says_same n IsNetwork found other parts others a b = absurd a
says_same n IsConetwork (Conetwork net) (Conetwork net') parts others a b = (refl, tt)
says_same n IsConetwork (Conetwork net) other parts others a b = absurd b
says_same n IsConetwork found other parts others a b = absurd a
says_same n IsR10Matrix R10 R10 parts others a b = (refl, tt)
says_same n IsR10Matrix R10 other parts others a b = absurd b
says_same n IsR10Matrix found other parts others a b = absurd a
says_same n IsTwoSum (TwoSum two) (TwoSum two') parts others a b = (ap TwoSum (one_two n two two' a b), tt)
says_same n IsTwoSum (TwoSum two) other parts others a b = absurd b
says_same n IsTwoSum found other parts others a b = absurd a
says_same n IsThreeSum (ThreeSum three) (ThreeSum three') parts others a b = (ap ThreeSum (one_three n three three' a b), tt)
says_same n IsThreeSum (ThreeSum three) other parts others a b = absurd b
says_same n IsThreeSum found other parts others a b = absurd a
says_same n IsShort (Violator f) (Violator g) parts others a b = (ap Violator (set_same f g (one_least n f.rows f.columns g.rows g.columns a b)), tt)
says_same n IsShort (Violator f) Enumerated parts others a b = let on = least_on_lines n f.rows f.columns a in absurd (b f.rows f.columns on.row_set on.column_set on.violator)
says_same n IsShort Enumerated (Violator g) parts others a b = let on = least_on_lines n g.rows g.columns b in absurd (a g.rows g.columns on.row_set on.column_set on.violator)
says_same n IsShort Enumerated Enumerated parts others a b = (refl, tt)
says_same n IsShort (Violator f) other parts others a b = absurd b
says_same n IsShort Enumerated other parts others a b = absurd b
says_same n IsShort found other parts others a b = absurd a
says_same n IsLeft Undecided Undecided parts others a b = (refl, tt)
says_same n IsLeft Undecided other parts others a b = absurd b
says_same n IsLeft found other parts others a b = absurd a

plain_in : (lines : LineSet) (f : Finding) → plain_finding (finding_in lines f) ≡ finding_in lines (plain_finding f)
plain_in lines Empty = refl
plain_in lines (Cycle f) = refl
plain_in lines (Reduced steps) = refl
plain_in lines OneSum = refl
plain_in lines (Network n) = refl
plain_in lines (Conetwork n) = refl
plain_in lines R10 = refl
plain_in lines (TwoSum two) = refl
plain_in lines (ThreeSum three) = refl
plain_in lines Enumerated = refl
plain_in lines (Violator f) = refl
plain_in lines Undecided = refl
plain_in lines (Pivoted place) = refl

-- the children of a one-sum have the lines of its parts
parts_same : (lines : LineSet) (finding found : Finding) (children others parts parts' : List LineSet) → finding ≡ finding_in lines found → HasParts found parts parts'
    → HasParts finding children (map (set_in lines) parts) → HasParts OneSum others (map (set_in lines) parts') → finding ≡ OneSum → children ≡ others
parts_same lines finding found children others parts parts' is same a b e = go found is same
  where
    here : children ≡ map (set_in lines) parts
    here = subst (λ f. HasParts f children (map (set_in lines) parts)) e a

    go : (f : Finding) → finding ≡ finding_in lines f → HasParts f parts parts' → children ≡ others
    go OneSum is same = here ∙ ap (map (set_in lines)) same ∙ sym b
    go Empty is same = let z : OneSum ≡ Empty = sym e ∙ is in cc
    go (Cycle x) is same = let z : OneSum ≡ Cycle (set_in lines x) = sym e ∙ is in cc
    go (Reduced x) is same = let z : OneSum ≡ finding_in lines (Reduced x) = sym e ∙ is in cc
    go (Network x) is same = let z : OneSum ≡ Network x = sym e ∙ is in cc
    go (Conetwork x) is same = let z : OneSum ≡ Conetwork x = sym e ∙ is in cc
    go R10 is same = let z : OneSum ≡ R10 = sym e ∙ is in cc
    go (TwoSum x) is same = let z : OneSum ≡ finding_in lines (TwoSum x) = sym e ∙ is in cc
    go (ThreeSum x) is same = let z : OneSum ≡ finding_in lines (ThreeSum x) = sym e ∙ is in cc
    go Enumerated is same = let z : OneSum ≡ Enumerated = sym e ∙ is in cc
    go (Violator x) is same = let z : OneSum ≡ Violator (set_in lines x) = sym e ∙ is in cc
    go Undecided is same = let z : OneSum ≡ Undecided = sym e ∙ is in cc
    go (Pivoted x) is same = let z : OneSum ≡ Pivoted x = sym e ∙ is in cc

-- ---- the lines of the children

children_plain : (f : Finding) (count : ℕ) → HasChildren f count → HasChildren (plain_finding f) count
children_plain Empty count h = h
children_plain (Cycle f) count h = h
children_plain (Reduced steps) count h = h
children_plain OneSum count h = h
children_plain (Network n) count h = h
children_plain (Conetwork n) count h = h
children_plain R10 count h = h
children_plain (TwoSum two) count h = h
children_plain (ThreeSum three) count h = h
children_plain Enumerated count h = h
children_plain (Violator f) count h = h
children_plain Undecided count h = h
children_plain (Pivoted place) count h = h

due_plain : (lines : LineSet) (f : Finding) (k : ℕ) → due_child lines f k ≡ due_child lines (plain_finding f) k
due_plain lines Empty k = refl
due_plain lines (Cycle f) k = refl
due_plain lines (Reduced steps) k = refl
due_plain lines OneSum k = refl
due_plain lines (Network n) k = refl
due_plain lines (Conetwork n) k = refl
due_plain lines R10 k = refl
due_plain lines (TwoSum two) k = refl
due_plain lines (ThreeSum three) k = refl
due_plain lines Enumerated k = refl
due_plain lines (Violator f) k = refl
due_plain lines Undecided k = refl
due_plain lines (Pivoted place) k = refl

all_due_plain : (lines : LineSet) (f : Finding) (k : ℕ) (children : List LineSet) → AreDue lines f k children → AreDue lines (plain_finding f) k children
all_due_plain lines f k [] h = tt
all_due_plain lines f k (child ∷ children) h = (subst (λ due. HasItsLines due child) (due_plain lines f k) h.0, all_due_plain lines f (suc k) children h.1)

due_same : (due : Due) (a b : LineSet) → ¬ (due ≡ Unnamed) → HasItsLines due a → HasItsLines due b → a ≡ b
due_same (AllLines rows columns) a b named x y = set_same a b (x.0 ∙ sym y.0, x.1 ∙ sym y.1)
due_same (These lines) a b named x y = set_same a b (x.0 ∙ sym y.0, x.1 ∙ sym y.1)
due_same Unnamed a b named x y = absurd (named refl)

named_same : (lines : LineSet) (f : Finding) (k : ℕ) (xs ys : List LineSet) → length xs ≡ length ys → ((k : ℕ) → ¬ (due_child lines f k ≡ Unnamed))
    → AreDue lines f k xs → AreDue lines f k ys → xs ≡ ys
named_same lines f k [] [] e named a b = refl
named_same lines f k [] (y ∷ ys) e named a b = absurd (omega arith)
named_same lines f k (x ∷ xs) [] e named a b = absurd (omega arith)
named_same lines f k (x ∷ xs) (y ∷ ys) e named a b =
    ap₂ (λ (z : LineSet) (zs : List LineSet). z ∷ zs) (due_same (due_child lines f k) x y (named k) a.0 b.0) (named_same lines f (suc k) xs ys (omega arith) named a.1 b.1)

none_same : (xs ys : List LineSet) → length xs ≡ 0 → length ys ≡ 0 → xs ≡ ys
none_same [] [] e f = refl
none_same [] (y ∷ ys) e f = absurd (omega arith)
none_same (x ∷ xs) ys e f = absurd (omega arith)

two_named : (lines : LineSet) (f : Finding) → ¬ (due_child lines f 0 ≡ Unnamed) → ((k : ℕ) → ¬ (due_child lines f (suc k) ≡ Unnamed)) → (k : ℕ) → ¬ (due_child lines f k ≡ Unnamed)
two_named lines f first later zero = first
two_named lines f first later (suc k) = later k

pub children_same : (lines : LineSet) (f : Finding) (xs ys : List LineSet) → HasChildren f (length xs) → HasChildren f (length ys) → AreDue lines f 0 xs
    → AreDue lines f 0 ys → (f ≡ OneSum → xs ≡ ys) → xs ≡ ys
children_same lines Empty xs ys x y a b one = none_same xs ys x y
children_same lines (Cycle f) xs ys x y a b one = none_same xs ys x y
children_same lines (Reduced steps) xs ys x y a b one = named_same lines (Reduced steps) 0 xs ys (x ∙ sym y) (λ k e. cc) a b
children_same lines OneSum xs ys x y a b one = one refl
children_same lines (Network n) xs ys x y a b one = none_same xs ys x y
children_same lines (Conetwork n) xs ys x y a b one = none_same xs ys x y
children_same lines R10 xs ys x y a b one = none_same xs ys x y
children_same lines (TwoSum two) xs ys x y a b one = named_same lines (TwoSum two) 0 xs ys (x ∙ sym y) (two_named lines (TwoSum two) (λ e. cc) (λ k e. cc)) a b
children_same lines (ThreeSum three) xs ys x y a b one = named_same lines (ThreeSum three) 0 xs ys (x ∙ sym y) (two_named lines (ThreeSum three) (λ e. cc) (λ k e. cc)) a b
children_same lines Enumerated xs ys x y a b one = none_same xs ys x y
children_same lines (Violator f) xs ys x y a b one = none_same xs ys x y
children_same lines Undecided xs ys x y a b one = none_same xs ys x y
children_same lines (Pivoted place) xs ys x y a b one = named_same lines (Pivoted place) 0 xs ys (x ∙ sym y) (λ k e. cc) a b

pub count_is : (trees : Trees) → length (lines_of_each trees) ≡ count_trees trees
count_is NoTrees = refl
count_is (MoreTrees tree trees) = ap suc (count_is trees)

module _ (limit : ℕ) (m : Matrix) where
  pub due_here : (path : List ℕ) (pivots : List MadePivot) (due : Due) (tree : Tree) → AllByRecursion (IsShapedAt limit m) (places_from path pivots due tree) → HasItsLines due (lines_at_root tree)
  due_here path pivots due (Branch lines finding trees) shaped = shaped.0.lines

  pub due_each : (path : List ℕ) (pivots : List MadePivot) (lines : LineSet) (finding : Finding) (k : ℕ) (trees : Trees)
      → AllByRecursion (IsShapedAt limit m) (places_below path pivots lines finding k trees) → AreDue lines finding k (lines_of_each trees)
  due_each path pivots lines finding k NoTrees shaped = tt
  due_each path pivots lines finding k (MoreTrees tree trees) shaped =
      let first = places_from (path ++ k ∷ []) pivots (due_child lines finding k) tree in
      let rest = places_below path pivots lines finding (suc k) trees in (
        due_here (path ++ k ∷ []) pivots (due_child lines finding k) tree (all_prefix (IsShapedAt limit m) first rest shaped),
        due_each path pivots lines finding (suc k) trees (all_back (IsShapedAt limit m) first rest shaped),
      )

  record IsSameNode (finding finding' : Finding) (trees trees' : Trees) : Type 0 where
    said : plain_finding finding ≡ plain_finding finding'
    children : lines_of_each trees ≡ lines_of_each trees'

  -- two nodes on the same lines
  same_node : (path path' : List ℕ) (pivots pivots' : List MadePivot) (due due' : Due) (lines : LineSet) (finding finding' : Finding) (trees trees' : Trees)
      → IsShapedAt limit m (record { path = path; pivots = pivots; due = due; lines = lines; finding = finding; children = lines_of_each trees })
      → IsShapedAt limit m (record { path = path'; pivots = pivots'; due = due'; lines = lines; finding = finding'; children = lines_of_each trees' })
      → AllByRecursion (IsShapedAt limit m) (places_below path (pivots_below lines finding pivots) lines finding 0 trees)
      → AllByRecursion (IsShapedAt limit m) (places_below path' (pivots_below lines finding' pivots') lines finding' 0 trees')
      → IsSameNode finding finding' trees trees'
  same_node path path' pivots pivots' due due' lines finding finding' trees trees' x y below below' =
      let case : x.case ≡ y.case = one_case limit (part m lines) x.case y.case x.first y.first in
      let same = says_same (part m lines) y.case x.found y.found x.parts y.parts (subst (λ c. NodeSays c (part m lines) x.found x.parts) case x.says) y.says in
      let said : plain_finding finding ≡ plain_finding finding' = ap plain_finding x.finding ∙ plain_in lines x.found ∙ ap (finding_in lines) same.0 ∙ sym (plain_in lines y.found) ∙ sym (ap plain_finding y.finding) in
      record {
        said = said;
        children = children_same lines (plain_finding finding') (lines_of_each trees) (lines_of_each trees')
            (subst (λ f. HasChildren f (length (lines_of_each trees))) said (children_plain finding (length (lines_of_each trees)) x.count))
            (children_plain finding' (length (lines_of_each trees')) y.count)
            (subst (λ f. AreDue lines f 0 (lines_of_each trees)) said (all_due_plain lines finding 0 (lines_of_each trees) (due_each path (pivots_below lines finding pivots) lines finding 0 trees below)))
            (all_due_plain lines finding' 0 (lines_of_each trees') (due_each path' (pivots_below lines finding' pivots') lines finding' 0 trees' below'))
            (λ e. one_sum lines finding finding' said e x.found x.parts y.parts (lines_of_each trees) (lines_of_each trees') x.finding same.1 x.children y.children);
      }
    where
      one_sum : (lines : LineSet) (finding finding' : Finding) → plain_finding finding ≡ plain_finding finding' → plain_finding finding' ≡ OneSum
          → (found : Finding) (parts parts' children others : List LineSet) → finding ≡ finding_in lines found
          → HasParts found parts parts' → HasParts finding children (map (set_in lines) parts) → HasParts finding' others (map (set_in lines) parts') → children ≡ others
      one_sum lines finding finding' said e found parts parts' children others is same a b =
          parts_same lines finding found children others parts parts' is same a (subst (λ f. HasParts f others (map (set_in lines) parts')) (only_one_sum finding' e) b) (only_one_sum finding (said ∙ e))
        where
          only_one_sum : (f : Finding) → plain_finding f ≡ OneSum → f ≡ OneSum
          only_one_sum OneSum e = refl
          only_one_sum Empty e = cc
          only_one_sum (Cycle f) e = cc
          only_one_sum (Reduced steps) e = cc
          only_one_sum (Network n) e = cc
          only_one_sum (Conetwork n) e = cc
          only_one_sum R10 e = cc
          only_one_sum (TwoSum two) e = cc
          only_one_sum (ThreeSum three) e = cc
          only_one_sum Enumerated e = cc
          only_one_sum (Violator f) e = cc
          only_one_sum Undecided e = cc
          only_one_sum (Pivoted place) e = cc

  mutual
    pub one_tree : (path path' : List ℕ) (pivots pivots' : List MadePivot) (due due' : Due) (tree tree' : Tree) → lines_at_root tree ≡ lines_at_root tree'
        → AllByRecursion (IsShapedAt limit m) (places_from path pivots due tree) → AllByRecursion (IsShapedAt limit m) (places_from path' pivots' due' tree') → plain_tree tree ≡ plain_tree tree'
    one_tree path path' pivots pivots' due due' (Branch lines finding trees) (Branch lines' finding' trees') same shaped shaped' =
        let node' = subst (λ l. IsShapedAt limit m (record { path = path'; pivots = pivots'; due = due'; lines = l; finding = finding'; children = lines_of_each trees' })) (sym same) shaped'.0 in
        let below' = subst (λ l. AllByRecursion (IsShapedAt limit m) (places_below path' (pivots_below l finding' pivots') l finding' 0 trees')) (sym same) shaped'.1 in
        let is = same_node path path' pivots pivots' due due' lines finding finding' trees trees' shaped.0 node' shaped.1 below' in
        ap (λ (l : LineSet). Branch l (plain_finding finding) (plain_trees trees)) same
        ∙ ap₂ (λ (f : Finding) (ts : Trees). Branch lines' f ts) is.said
        (one_trees path path' (pivots_below lines finding pivots) (pivots_below lines' finding' pivots') lines lines' finding finding' 0 0 trees trees' is.children shaped.1 shaped'.1)

    one_trees : (path path' : List ℕ) (pivots pivots' : List MadePivot) (lines lines' : LineSet) (finding finding' : Finding) (k k' : ℕ) (trees trees' : Trees)
        → lines_of_each trees ≡ lines_of_each trees'
        → AllByRecursion (IsShapedAt limit m) (places_below path pivots lines finding k trees)
        → AllByRecursion (IsShapedAt limit m) (places_below path' pivots' lines' finding' k' trees') → plain_trees trees ≡ plain_trees trees'
    one_trees path path' pivots pivots' lines lines' finding finding' k k' NoTrees NoTrees same shaped shaped' = refl
    one_trees path path' pivots pivots' lines lines' finding finding' k k' NoTrees (MoreTrees tree trees) same shaped shaped' = cc
    one_trees path path' pivots pivots' lines lines' finding finding' k k' (MoreTrees tree trees) NoTrees same shaped shaped' = cc
    one_trees path path' pivots pivots' lines lines' finding finding' k k' (MoreTrees tree trees) (MoreTrees tree' trees') same shaped shaped' =
        let first = places_from (path ++ k ∷ []) pivots (due_child lines finding k) tree in
        let rest = places_below path pivots lines finding (suc k) trees in
        let first' = places_from (path' ++ k' ∷ []) pivots' (due_child lines' finding' k') tree' in
        let rest' = places_below path' pivots' lines' finding' (suc k') trees' in
        let head : lines_at_root tree ≡ lines_at_root tree' = cc in
        let tail : lines_of_each trees ≡ lines_of_each trees' = cc in
        ap₂ (λ (t : Tree) (ts : Trees). MoreTrees t ts)
        (one_tree (path ++ k ∷ []) (path' ++ k' ∷ []) pivots pivots' (due_child lines finding k) (due_child lines' finding' k') tree tree' head
        (all_prefix (IsShapedAt limit m) first rest shaped) (all_prefix (IsShapedAt limit m) first' rest' shaped'))
        (one_trees path path' pivots pivots' lines lines' finding finding' (suc k) (suc k') trees trees' tail
        (all_back (IsShapedAt limit m) first rest shaped) (all_back (IsShapedAt limit m) first' rest' shaped'))

pub one_shape : OneShape
one_shape limit m tree other shaped shaped' =
    let all = AllLines (height m) m.width in
    one_tree limit m [] [] [] [] all all tree other
    (due_same all (lines_at_root tree) (lines_at_root other) (λ e. cc) (due_here limit m [] [] all tree shaped) (due_here limit m [] [] all other shaped')) shaped shaped'
