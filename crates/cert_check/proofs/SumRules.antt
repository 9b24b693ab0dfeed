-- The rules on separations and reductions from the tests of the code.
use Rattle.std.proofs.Common.{◌≡◌, ◌<◌, ◌↔◌, ◌∙◌, ◌*ℤ◌, IsTrue, ℕ, ℤ, pos, Bool, true, false, not, eqb, List, ◌∷◌, filter, get_or, Contains, nat_eq, w8, of_z, inl, inr, ◌⊎◌, refl, ap, sym, subst, arith, eqb-true}
use Rattle.std.proofs.lemmas.Bool.{true≢false}
use Rattle.std.proofs.lemmas.Int.{ints}
use Rattle.std.proofs.lemmas.List.Kept.{IsStrictlyIncreasing-filter}
use Rattle.std.specs.List.{AllByRecursion}
use Rattle.std.specs.List.Sorted.{IsStrictlyIncreasing}
use Rattle.std.specs.Prelude.{IsSome}
use Rattle.cmr_base.specs.declared.line.Line.{Line}
use Rattle.cmr_base.specs.declared.line.Line.TheVariants.{Row, Column}
use Rattle.cmr_base.specs.Reductions.{HasLine, line_reason, rows_without, columns_without}
use Rattle.cmr_base.specs.declared.line_set.LineSet.{LineSet}
use Rattle.cmr_base.specs.declared.separation.Two.{Two}
use Rattle.cmr_base.specs.declared.separation.Three.{Three}
use Rattle.cmr_base.specs.declared.separation.Connector.{Connector}
use Rattle.cmr_base.specs.Matrix.{Matrix, height, entry, IsEntry}
use Rattle.cmr_base.specs.LineSets.{AllBelow}
use Rattle.cmr_base.specs.declared.separation.Form.{Form}
use Rattle.cmr_base.specs.declared.separation.Form.TheVariants.{Delta, YForm, Mixed}
use Rattle.cmr_base.specs.Separations.{product_at, upper_block, lower_block}
use Rattle.tree_type.specs.Sides.{Sides, sides, inside, outside, HaveLines, AreEntries, IsReference, AreTwoBlocks, HasConnector, AreConnectorsOfSides, HasCornerSign, AreThreeBlocks}
use Rattle.cmr_base.proofs.Lists.{all_weaker, all_contained, all_contain}
use Rattle.cmr_base.proofs.ListsWithout.{contains_from_in, in-get_or}
use Rattle.cmr_base.proofs.Integers.{products}
use Rattle.cmr_base.proofs.Places.{contained_below}
use Rattle.tree_type.specs.declared.refusal.Rule.{Rule}
use Rattle.tree_type.specs.declared.refusal.Rule.TheVariants as rule
use Rattle.tree_type.specs.DecompositionTrees.{TwoSum, ThreeSum}
use Rattle.tree_type.specs.Invariant.{AreLines}
use Rattle.tree_type.specs.Soundness.{AreReductions, Demands, rule_number}
use Rattle.cert_check.specs.Answers.{Says, unless}
use Rattle.cert_check.specs.SideLines.{sides_from, IsConnectorIn}
use Rattle.cert_check.proofs.Sieves.{passed}

-- ---- blocks

pub entries_from : (M : ℕ → ℕ → ℤ) (rows columns : List ℕ) (f : ℕ → ℕ → ℤ) → AllByRecursion (λ r. AllByRecursion (λ c. M r c ≡ f r c) columns) rows → AreEntries M rows columns f
entries_from M rows columns f h r c hr hc = all_contained (λ k. M r k ≡ f r k) columns c (all_contained (λ k. AllByRecursion (λ c'. M k c' ≡ f k c') columns) rows r h hr) hc

pub from_entries : (M : ℕ → ℕ → ℤ) (rows columns : List ℕ) (f : ℕ → ℕ → ℤ) → AreEntries M rows columns f → AllByRecursion (λ r. AllByRecursion (λ c. M r c ≡ f r c) columns) rows
from_entries M rows columns f h =
    all_weaker (Contains rows) (λ r. AllByRecursion (λ c. M r c ≡ f r c) columns) (λ r hr. all_weaker (Contains columns) (λ c. M r c ≡ f r c) (λ c hc. h r c hr hc) columns (all_contain columns)) rows (all_contain rows)

pub entries_tested : (M : ℕ → ℕ → ℤ) (rows' rows columns' columns : List ℕ) (f g : ℕ → ℕ → ℤ) (b : Bool) → rows' ≡ rows → columns' ≡ columns → ((r c : ℕ) → f r c ≡ g r c)
    → IsTrue b ↔ AllByRecursion (λ r. AllByRecursion (λ c. M r c ≡ f r c) columns') rows' → IsTrue b ↔ AreEntries M rows columns g
entries_tested M rows' rows columns' columns f g b e e' same h =
    let k = subst (λ rs. IsTrue b ↔ AllByRecursion (λ r. AllByRecursion (λ c. M r c ≡ f r c) columns) rs) e (subst (λ cs. IsTrue b ↔ AllByRecursion (λ r. AllByRecursion (λ c. M r c ≡ f r c) cs) rows') e' h) in (
      (λ t r c hr hc. entries_from M rows columns f (k.0 t) r c hr hc ∙ same r c),
      λ are. k.1 (from_entries M rows columns f (λ r c hr hc. are r c hr hc ∙ sym (same r c))),
    )

pub made_is : (M : ℕ → ℕ → ℤ) (i j r c : ℕ) → (M r j *ℤ M i j) *ℤ M i c ≡ product_at M i j r c
made_is M i j r c = simp products

pub one_byte : (z w : ℤ) → IsEntry z → z ≡ w → IsTrue (nat_eq (of_z w8 z) 1) ↔ (w ≡ pos 1)
one_byte z w small e = ((λ t. sym e ∙ is_one (eqb-true (of_z w8 z) 1 t)), λ g. subst (λ (x : ℤ). IsTrue (nat_eq (of_z w8 x) 1)) (sym (e ∙ g)) refl)
  where
    is_one : of_z w8 z ≡ 1 → z ≡ pos 1
    is_one h = let low = small.low in let high = small.high in omega (arith, ints)

blocks_are : (M : ℕ → ℕ → ℤ) (s : Sides) (t : Three) (upper lower : ℕ → ℕ → ℤ) (made : Bool) → upper_block M t.form t.first t.second ≡ upper → lower_block M t.form t.first t.second ≡ lower
    → IsTrue made ↔ (AreEntries M s.rows_one s.columns_two upper × AreEntries M s.rows_two s.columns_one lower) → IsTrue made ↔ AreThreeBlocks M s t
blocks_are M s t upper lower made e f h = (
  (λ yes. let entries = h.0 yes in record {
    upper = subst (AreEntries M s.rows_one s.columns_two) (sym e) entries.0;
    lower = subst (AreEntries M s.rows_two s.columns_one) (sym f) entries.1;
  }),
  λ blocks. h.1 (subst (AreEntries M s.rows_one s.columns_two) e blocks.upper, subst (AreEntries M s.rows_two s.columns_one) f blocks.lower),
)

-- the blocks of rank one of the forms delta, y and mixed
pub made_blocks : (M : ℕ → ℕ → ℤ) (s : Sides) (t : Three) (made : Bool) → (t.form ≡ Delta) ⊎ ((t.form ≡ YForm) ⊎ (t.form ≡ Mixed))
    → IsTrue made ↔ (AreEntries M s.rows_one s.columns_two (product_at M t.first.row t.second.column) × AreEntries M s.rows_two s.columns_one (product_at M t.second.row t.first.column))
    → IsTrue made ↔ AreThreeBlocks M s t
made_blocks M s t made form h =
    let upper = product_at M t.first.row t.second.column in
    let lower = product_at M t.second.row t.first.column in
    let by_form : (f : Form) → upper_block M f t.first t.second ≡ upper → lower_block M f t.first t.second ≡ lower → t.form ≡ f → IsTrue made ↔ AreThreeBlocks M s t =
    λ f a b e. blocks_are M s t upper lower made (ap (λ x. upper_block M x t.first t.second) e ∙ a) (ap (λ x. lower_block M x t.first t.second) e ∙ b) h in
    elim form [
      | inl e ↦ by_form Delta refl refl e
      | inr (inl e) ↦ by_form YForm refl refl e
      | inr (inr e) ↦ by_form Mixed refl refl e
    ]

-- ---- lines in range

kept_lines : (n : ℕ) (test : ℕ → Bool) (xs : List ℕ) → AllBelow n xs → AllBelow n (filter test xs)
kept_lines n test xs lower k l = contained_below n xs (get_or (filter test xs) k 0) lower (passed test xs (get_or (filter test xs) k 0) (contains_from_in (filter test xs) (get_or (filter test xs) k 0) (in-get_or (filter test xs) k l))).0

pub side_lines : (m : Matrix) (lines side : LineSet) (t u : ℕ → Bool) → AreLines m lines → side.rows ≡ filter t lines.rows → side.columns ≡ filter u lines.columns → AreLines m side
side_lines m lines side t u are e f = record {
  rows = record { increasing = subst IsStrictlyIncreasing (sym e) (IsStrictlyIncreasing-filter t lines.rows are.rows.increasing); in_range = subst (AllBelow (height m)) (sym e) (kept_lines (height m) t lines.rows are.rows.in_range) };
  columns = record { increasing = subst IsStrictlyIncreasing (sym f) (IsStrictlyIncreasing-filter u lines.columns are.columns.increasing); in_range = subst (AllBelow m.width) (sym f) (kept_lines m.width u lines.columns are.columns.in_range) };
}

pub connector_in : (m : Matrix) (lines : LineSet) (flat : Bool) (c : Connector) → AreLines m lines → HasConnector flat lines.rows lines.columns c → IsConnectorIn m flat c
connector_in m lines true c are h = (contained_below (height m) lines.rows c.row are.rows.in_range h.0, contained_below m.width lines.columns c.column are.columns.in_range h.1, contained_below m.width lines.columns c.other are.columns.in_range h.2)
connector_in m lines false c are h = (contained_below (height m) lines.rows c.row are.rows.in_range h.0, contained_below m.width lines.columns c.column are.columns.in_range h.1, contained_below (height m) lines.rows c.other are.rows.in_range h.2)

abbrev sides_made : List ℕ → List ℕ → List ℕ → List ℕ → Sides
sides_made a b c d = record { rows_one = a; columns_one = b; rows_two = c; columns_two = d }

pub sides_are : (lines side one other : LineSet) → one.rows ≡ inside side.rows lines.rows → one.columns ≡ inside side.columns lines.columns
    → other.rows ≡ outside side.rows lines.rows → other.columns ≡ outside side.columns lines.columns → sides_from one other ≡ sides lines side
sides_are lines side one other a b c d =
    ap (λ x. sides_made x one.columns other.rows other.columns) a
    ∙ ap (λ x. sides_made (sides lines side).rows_one x other.rows other.columns) b
    ∙ ap (λ x. sides_made (sides lines side).rows_one (sides lines side).columns_one x other.columns) c
    ∙ ap (λ x. sides_made (sides lines side).rows_one (sides lines side).columns_one (sides lines side).rows_two x) d

-- ---- findings of sums

pub false_not : {D : Type 0} → IsTrue false ↔ D → ¬ D
false_not h d = true≢false (sym (h.1 d))

two_decides : (m : Matrix) (lines : LineSet) (two : Two) (yes : Bool) → HaveLines 2 (sides lines two.side) → IsReference (entry m) (sides lines two.side) two.row two.column
    → IsTrue yes ↔ AreTwoBlocks (entry m) (sides lines two.side) two.row two.column → Says m lines (TwoSum two) (unless yes rule.BadBlock)
two_decides m lines two true enough reference h children = kept
  where
    kept : (broken : Rule) → Demands broken m lines (TwoSum two) children
    kept rule.TooShort = enough
    kept rule.BadConnector = reference
    kept rule.BadBlock = h.0 refl
    kept _ = tt
two_decides m lines two false enough reference h children = (false_not h, before)
  where
    before : (earlier : Rule) → rule_number earlier < rule_number rule.BadBlock → Demands earlier m lines (TwoSum two) children
    before rule.TooShort l = enough
    before rule.BadConnector l = reference
    before rule.BadBlock l = absurd (omega (arith, l))
    before _ l = tt

pub two_says : (m : Matrix) (lines : LineSet) (two : Two) (s : Sides) (fine : Bool) → s ≡ sides lines two.side → HaveLines 2 s → IsReference (entry m) s two.row two.column
    → IsTrue fine ↔ AreTwoBlocks (entry m) s two.row two.column → Says m lines (TwoSum two) (unless fine rule.BadBlock)
two_says m lines two s fine e enough reference blocks =
    two_decides m lines two fine (subst (HaveLines 2) e enough) (subst (λ x. IsReference (entry m) x two.row two.column) e reference) (subst (λ x. IsTrue fine ↔ AreTwoBlocks (entry m) x two.row two.column) e blocks)

three_decides : (m : Matrix) (lines : LineSet) (t : Three) (fine : Bool) → HaveLines 4 (sides lines t.side) → AreConnectorsOfSides (entry m) (sides lines t.side) t → HasCornerSign (entry m) t
    → IsTrue fine ↔ AreThreeBlocks (entry m) (sides lines t.side) t → Says m lines (ThreeSum t) (unless fine rule.BadBlock)
three_decides m lines t true enough connectors sign h children = kept
  where
    kept : (broken : Rule) → Demands broken m lines (ThreeSum t) children
    kept rule.TooShort = enough
    kept rule.BadConnector = connectors
    kept rule.CornerSign = sign
    kept rule.BadBlock = h.0 refl
    kept _ = tt
three_decides m lines t false enough connectors sign h children = (false_not h, before)
  where
    before : (earlier : Rule) → rule_number earlier < rule_number rule.BadBlock → Demands earlier m lines (ThreeSum t) children
    before rule.TooShort l = enough
    before rule.BadConnector l = connectors
    before rule.CornerSign l = sign
    before rule.BadBlock l = absurd (omega (arith, l))
    before _ l = tt

pub three_says : (m : Matrix) (lines : LineSet) (t : Three) (s : Sides) (fine : Bool) → s ≡ sides lines t.side → HaveLines 4 s → AreConnectorsOfSides (entry m) s t → HasCornerSign (entry m) t
    → IsTrue fine ↔ AreThreeBlocks (entry m) s t → Says m lines (ThreeSum t) (unless fine rule.BadBlock)
three_says m lines t s fine e enough connectors sign blocks =
    three_decides m lines t fine (subst (HaveLines 4) e enough) (subst (λ x. AreConnectorsOfSides (entry m) x t) e connectors) sign (subst (λ x. IsTrue fine ↔ AreThreeBlocks (entry m) x t) e blocks)

-- ---- reductions

pub fewer_lines : (m : Matrix) (lines fewer : LineSet) (line : Line) → AreLines m lines → fewer.rows ≡ rows_without lines.rows line
    → fewer.columns ≡ columns_without lines.columns line → AreLines m fewer
fewer_lines m lines fewer (Row row) are e f = record {
  rows = record { increasing = subst IsStrictlyIncreasing (sym e) (IsStrictlyIncreasing-filter (λ other. not (eqb other row)) lines.rows are.rows.increasing); in_range = subst (AllBelow (height m)) (sym e) (kept_lines (height m) (λ other. not (eqb other row)) lines.rows are.rows.in_range) };
  columns = record { increasing = subst IsStrictlyIncreasing (sym f) are.columns.increasing; in_range = subst (AllBelow m.width) (sym f) are.columns.in_range };
}
fewer_lines m lines fewer (Column column) are e f = record {
  rows = record { increasing = subst IsStrictlyIncreasing (sym e) are.rows.increasing; in_range = subst (AllBelow (height m)) (sym e) are.rows.in_range };
  columns = record {
    increasing = subst IsStrictlyIncreasing (sym f) (IsStrictlyIncreasing-filter (λ other. not (eqb other column)) lines.columns are.columns.increasing);
    in_range = subst (AllBelow m.width) (sym f) (kept_lines m.width (λ other. not (eqb other column)) lines.columns are.columns.in_range);
  };
}

-- another step
pub reduced_more : {step : Line} (M : ℕ → ℕ → ℤ) (left fewer : LineSet) (steps rest : List Line) (Whole : Type 0)
    → HasLine left.rows left.columns step × IsSome (line_reason false M left.rows left.columns step)
    → fewer.rows ≡ rows_without left.rows step → fewer.columns ≡ columns_without left.columns step → steps ≡ step ∷ rest
    → AreReductions M left.rows left.columns steps ↔ Whole → AreReductions M fewer.rows fewer.columns rest ↔ Whole
reduced_more {step = step} M left fewer steps rest Whole here e f order whole = (
  (λ h. whole.0 (subst (AreReductions M left.rows left.columns) (sym order) (here.0, here.1, subst (λ rows. AreReductions M rows (columns_without left.columns step) rest) e (subst (λ columns. AreReductions M fewer.rows columns rest) f h)))),
  λ w. let all = subst (AreReductions M left.rows left.columns) order (whole.1 w) in
      subst (λ columns. AreReductions M fewer.rows columns rest) (sym f) (subst (λ rows. AreReductions M rows (columns_without left.columns step) rest) (sym e) all.2),
)
