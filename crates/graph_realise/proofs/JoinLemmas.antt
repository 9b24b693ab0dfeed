-- The arcs of the parts' trees in the tree of all rows.
use Rattle.std.proofs.Common.{◌≡◌, ◌≢◌, ◌<◌, ◌≤◌, ◌+◌, ◌∙◌, ◌==◌, ◌&&◌, ◌||◌, ◌⊎◌, inl, inr, ap₂, nat_lt, if◌then◌else◌, not, ℕ, Bool, true, false, length, sym, ap, refl, arith, Option, Some, None}
use Rattle.std.proofs.lemmas.Bool.{cases_lt}
use Rattle.std.proofs.lemmas.Bool.Decides.{nat_tests}
use Rattle.std.proofs.lemmas.List.{get_or_past}
use Rattle.cmr_base.specs.Cuts.{differ}
use Rattle.cmr_base.specs.Matrix.{Matrix, height}
use Rattle.cmr_base.proofs.RowLists.{is_eq, is_ne, not_both, same_or_not, two_cases}
use Rattle.cmr_base.proofs.Booleans.{and_true, and_false, or_false, is_lt, is_not_lt}
use Rattle.graph_realise.specs.Branches.{branch_at}
use Rattle.graph_realise.specs.Joints.{AreHung, AreOff, FitsJoint, IsArcJoined, IsClearBeside, IsLineFor, by_part, AreChosen, branch_end, hanging_of, hung, is_at_first, is_chosen, is_part, is_used, joined_side, number_at, part_or_first}
use Rattle.graph_realise.specs.Merging.{column_half, end_off, merged_lies, spot, reversed_lies, reversed_side}
use Rattle.graph_realise.specs.SideTables.{side_in, end_in, KeepsRow, AreTablesOf, IsArcChanged}
use Rattle.graph_realise.specs.BitTables.{Grid, cell, IsRowFilled}
use Rattle.graph_realise.proofs.SideLemmas.{keeps_row_same, keeps_row_trans}
use Rattle.graph_realise.proofs.TableLemmas.{cell_past}
use Rattle.graph_realise.specs.declared.arc_sides.ArcSides.{ArcSides}
use Rattle.graph_realise.specs.declared.joint.Joint.{Joint}

half_is : (M : ℕ → ℕ → Bool) (joint : Joint) (o : Option ℕ) → column_half M joint.row (hanging_of joint) o ≡ branch_end joint o
half_is M joint None = refl
half_is M joint (Some q) = refl

-- the ends in the tree of all rows, read in one entry
lies_at : (M : ℕ → ℕ → Bool) (joint : Joint) (lies lies' : Bool → ℕ → ℕ → Bool) (end : Bool) (r column : ℕ) → lies end r column ≡ lies' end r column
    → merged_lies M joint.row (hanging_of joint) lies end r column ≡ merged_lies M joint.row (hanging_of joint) lies' end r column
lies_at M joint lies lies' end r column e =
    ap (λ (z : Bool). if r == joint.row then (if M joint.row column then end else column_half M joint.row (hanging_of joint) ((hanging_of joint).touched column))
    else if M joint.row column then (if differ end ((hanging_of joint).half ((hanging_of joint).part r)) then false else M r column) else z) (off ((hanging_of joint).touched column))
  where
    off : (o : Option ℕ) → end_off M joint.row (hanging_of joint) lies end r column o ≡ end_off M joint.row (hanging_of joint) lies' end r column o
    off None = refl
    off (Some q) = ap (λ (z : Bool). if (hanging_of joint).part r == q then z else spot M joint.row (hanging_of joint) r q) e

-- ---- the arc of the row

-- the sides of the row's arc: the parts at its first end and the first ends of its columns are on side true
pub row_joined : (M : ℕ → ℕ → Bool) (m : Matrix) (joint : Joint) (old cleared with_parts new : ArcSides) → FitsJoint (height m) m.width joint → AreOff M joint → AreTablesOf m old
    → IsArcChanged (λ other. false) (λ end column. false) old cleared joint.row → AreChosen joint (is_at_first joint) joint.row (length joint.branches.items) cleared with_parts
    → IsArcChanged (λ other. side_in with_parts joint.row other) (λ end column. end_in with_parts end joint.row column || (end && M joint.row column)) with_parts new joint.row
    → IsArcJoined M joint old new joint.row
row_joined M m joint old cleared with_parts new fits off tables a b d = record { arcs = arcs; ends = ends }
  where
    one : AreTablesOf m cleared
    one = a.sizes m tables

    two : AreTablesOf m with_parts
    two = b.sizes m one

    chosen : (o : Option ℕ) → ((p : ℕ) → o ≡ Some p → p < length joint.branches.items) → is_chosen (is_at_first joint) (length joint.branches.items) o ≡ branch_end joint o
    chosen None range = refl
    chosen (Some p) range = rw (is_lt p (length joint.branches.items) (range p refl)) refl

    arcs : (s : ℕ) → s < old.arcs.width → side_in new joint.row s ≡ joined_side M joint old joint.row s
    arcs s w =
        d.to_arcs s (omega (arith, w, tables.arcs_width, two.arcs_width)) ∙ b.to_arcs s (omega (arith, w, tables.arcs_width, one.arcs_width))
        ∙ ap₂ (λ x y. x || y) (a.to_arcs s w) (chosen (number_at joint.part_of.items s) (λ p e. fits.row_parts s p e))
        ∙ sym (ap (λ (t : Bool). if t then branch_end joint (number_at joint.part_of.items s) else by_part M joint joint.row (reversed_side joint.row (side_in old) joint.row s) (number_at joint.part_of.items s)) (is_eq joint.row joint.row refl))

    value : (end : Bool) (column : ℕ) (t : Bool) → M joint.row column ≡ t
        → (branch_end joint (number_at joint.part_with.items column) || (end && t)) ≡ (if t then end else column_half M joint.row (hanging_of joint) ((hanging_of joint).touched column))
    value true column true e = ap (λ (o : Option ℕ). branch_end joint o || true) (off column e)
    value false column true e = ap (λ (o : Option ℕ). branch_end joint o || false) (off column e)
    value true column false e = or_false (branch_end joint (number_at joint.part_with.items column)) ∙ sym (half_is M joint (number_at joint.part_with.items column))
    value false column false e = or_false (branch_end joint (number_at joint.part_with.items column)) ∙ sym (half_is M joint (number_at joint.part_with.items column))

    ends : (end : Bool) (column : ℕ) → column < old.first.width
        → end_in new end joint.row column ≡ merged_lies M joint.row (hanging_of joint) (reversed_lies joint.row (side_in old) (end_in old)) end joint.row column
    ends end column w =
        d.to_ends end column (omega (arith, w, tables.first_width, two.first_width))
        ∙ ap (λ (z : Bool). z || (end && M joint.row column))
        (b.to_ends end column (omega (arith, w, tables.first_width, one.first_width))
        ∙ ap₂ (λ x y. x || y) (a.to_ends end column w) (chosen (number_at joint.part_with.items column) (λ p e. fits.column_parts column p e)))
        ∙ value end column (M joint.row column) refl
        ∙ sym (ap (λ (t : Bool). if t then (if M joint.row column then end else column_half M joint.row (hanging_of joint) ((hanging_of joint).touched column))
        else if M joint.row column then (if differ end ((hanging_of joint).half ((hanging_of joint).part joint.row)) then false else M joint.row column)
        else end_off M joint.row (hanging_of joint) (reversed_lies joint.row (side_in old) (end_in old)) end joint.row column ((hanging_of joint).touched column)) (is_eq joint.row joint.row refl))

-- ---- an arc of another row

-- the tables of the marks have the sizes of the tables of the sides
pub line_for : (m : Matrix) (joint : Joint) (sides : ArcSides) (arc part : ℕ) → FitsJoint (height m) m.width joint → AreTablesOf m sides → arc < height m
    → part < length joint.branches.items → IsLineFor joint sides arc part
line_for m joint sides arc part fits tables l k = record {
  arcs = omega (arith, l, tables.arcs_height);
  first = omega (arith, l, tables.first_height);
  last = omega (arith, l, tables.last_height);
  rows = omega (arith, k, fits.row_marks.tall);
  columns = omega (arith, k, fits.column_marks.tall);
  few = omega (arith, k, fits.few);
  rows_wide = omega (arith, fits.row_marks.wide, fits.rows, tables.arcs_width);
  columns_wide = omega (arith, fits.column_marks.wide, fits.columns, tables.first_width);
  ends_wide = omega (arith, tables.last_width, tables.first_width);
}

-- three rows that are filled change one arc
pub changed_by : (old : ArcSides) (arcs first last : Grid) (row : ℕ) (to_arcs : ℕ → Bool) (to_ends : Bool → ℕ → Bool)
    → IsRowFilled to_arcs old.arcs arcs row old.arcs.width → IsRowFilled (to_ends true) old.first first row old.first.width
    → IsRowFilled (to_ends false) old.last last row old.last.width → old.last.width ≡ old.first.width → IsArcChanged to_arcs to_ends old (record { arcs = arcs; first = first; last = last }) row
changed_by old arcs first last row to_arcs to_ends a f l wide = record {
  sizes = λ m t. record {
    arcs_height = a.rows.height ∙ t.arcs_height;
    arcs_width = a.rows.width ∙ t.arcs_width;
    first_height = f.rows.height ∙ t.first_height;
    first_width = f.rows.width ∙ t.first_width;
    last_height = l.rows.height ∙ t.last_height;
    last_width = l.rows.width ∙ t.last_width;
  };
  others = λ r n. record { arcs = λ other. a.rows.others r other n; ends = λ end column. others end r column n };
  to_arcs = λ other h. a.done other h h;
  to_ends = λ end column h. ends end column h;
}
  where
    others : (end : Bool) (r column : ℕ) → r ≢ row → end_in (record { arcs = arcs; first = first; last = last }) end r column ≡ end_in old end r column
    others true r column n = f.rows.others r column n
    others false r column n = l.rows.others r column n

    ends : (end : Bool) (column : ℕ) → column < old.first.width → end_in (record { arcs = arcs; first = first; last = last }) end row column ≡ to_ends end column
    ends true column h = f.done column h h
    ends false column h = l.done column (omega (arith, h, wide)) (omega (arith, h, wide))

pub filled_same : (values : ℕ → Bool) (table : Grid) (row : ℕ) → ((column : ℕ) → column < table.width → cell table row column ≡ values column) → IsRowFilled values table table row table.width
filled_same values table row same = record {
  rows = record { height = refl; width = refl; others = λ r column n. refl };
  done = λ column l w. same column w;
  left = λ column l. refl;
}

pub filled_as : (values values' : ℕ → Bool) (old new : Grid) (row : ℕ) → ((column : ℕ) → values column ≡ values' column)
    → IsRowFilled values old new row old.width → IsRowFilled values' old new row old.width
filled_as values values' old new row same f = record { rows = f.rows; done = λ column l w. f.done column l w ∙ same column; left = f.left }

-- the parts that satisfy a test are added one after another
module _ (joint : Joint) (X : ℕ → Bool) (r : ℕ) where
  -- no part is chosen at first
  chosen_none : (o : Option ℕ) → is_chosen X 0 o ≡ false
  chosen_none None = refl
  chosen_none (Some q) = rw (is_not_lt q 0 (omega arith)) refl

  pub none_chosen : (sides : ArcSides) → AreChosen joint X r 0 sides sides
  none_chosen sides = record {
    sizes = λ m t. t;
    others = λ s n. keeps_row_same sides s;
    to_arcs = λ other l. sym (ap (λ z. side_in sides r other || z) (chosen_none (number_at joint.part_of.items other)) ∙ or_false (side_in sides r other));
    to_ends = λ end column l. sym (ap (λ z. end_in sides end r column || z) (chosen_none (number_at joint.part_with.items column)) ∙ or_false (end_in sides end r column));
  }

  chosen_more : (count : ℕ) (o : Option ℕ) → is_chosen X (count + 1) o ≡ (is_chosen X count o || (X count && is_part count o))
  chosen_more count None = sym (and_false (X count))
  chosen_more count (Some q) = go (cases_lt q count) (same_or_not q count)
    where
      go : (q < count) ⊎ (count ≤ q) → (q ≡ count) ⊎ (q ≢ count) → (nat_lt q (count + 1) && X q) ≡ ((nat_lt q count && X q) || (X count && (q == count)))
      go (inl l) (inl e) = absurd (omega arith)
      go (inl l) (inr n) =
          let a = is_lt q (count + 1) (omega arith) in
          let b = is_lt q count l in
          rw (a, b, is_ne q count n, and_false (X count)) (sym (or_false (X q)))
      go (inr l) (inl e) =
          let a = is_lt q (count + 1) (omega arith) in
          let b = is_not_lt q count l in
          rw (a, b, is_eq q count e) (ap X e ∙ sym (and_true (X count)))
      go (inr l) (inr n) =
          let a : nat_lt q (count + 1) ≡ false = grind (arith, nat_tests) in
          let b = is_not_lt q count l in
          rw (a, b, is_ne q count n, and_false (X count)) refl

  or_both : (a b d e x : Bool) → e ≡ (b || (x && d)) → x ≡ true → ((a || b) || d) ≡ (a || e)
  or_both true b d e x f g = refl
  or_both false b d e x f g = sym (f ∙ ap (λ (z : Bool). b || (z && d)) g)

  or_none : (a b d e x : Bool) → e ≡ (b || (x && d)) → x ≡ false → (a || b) ≡ (a || e)
  or_none true b d e x f g = refl
  or_none false b d e x f g = sym (f ∙ ap (λ (z : Bool). b || (z && d)) g ∙ or_false b)

  pub part_chosen : (m : Matrix) (count : ℕ) (old now new : ArcSides) → FitsJoint (height m) m.width joint → AreTablesOf m old → AreTablesOf m now
      → count < length joint.branches.items → X count ≡ true → AreChosen joint X r count old now
      → IsArcChanged (λ other. side_in now r other || cell joint.row_marks count other) (λ end column. end_in now end r column || cell joint.column_marks count column) now new r
      → AreChosen joint X r (count + 1) old new
  part_chosen m count old now new fits tables tables' l holds so step = record {
    sizes = λ m t. step.sizes m (so.sizes m t);
    others = λ s n. keeps_row_trans old now new s (so.others s n) (step.others s n);
    to_arcs = λ other h.
        let inside : other < now.arcs.width = omega (arith, h, tables.arcs_width, tables'.arcs_width) in
        let marked : other < length joint.part_of.items = omega (arith, h, tables.arcs_width, fits.rows) in
        let o = number_at joint.part_of.items other in
        step.to_arcs other inside ∙ ap₂ (λ a b. a || b) (so.to_arcs other h) (fits.row_marks.exact count other l marked)
        ∙ or_both (side_in old r other) (is_chosen X count o) (is_part count o) (is_chosen X (count + 1) o) (X count) (chosen_more count o) holds;
    to_ends = λ end column h.
        let inside : column < now.first.width = omega (arith, h, tables.first_width, tables'.first_width) in
        let marked : column < length joint.part_with.items = omega (arith, h, tables.first_width, fits.columns) in
        let o = number_at joint.part_with.items column in
        step.to_ends end column inside ∙ ap₂ (λ a b. a || b) (so.to_ends end column h) (fits.column_marks.exact count column l marked)
        ∙ or_both (end_in old end r column) (is_chosen X count o) (is_part count o) (is_chosen X (count + 1) o) (X count) (chosen_more count o) holds;
  }

  pub part_passed : (count : ℕ) (old now : ArcSides) → X count ≡ false → AreChosen joint X r count old now → AreChosen joint X r (count + 1) old now
  part_passed count old now off so = record {
    sizes = so.sizes;
    others = so.others;
    to_arcs = λ other h.
        let o = number_at joint.part_of.items other in
        so.to_arcs other h ∙ or_none (side_in old r other) (is_chosen X count o) (is_part count o) (is_chosen X (count + 1) o) (X count) (chosen_more count o) off;
    to_ends = λ end column h.
        let o = number_at joint.part_with.items column in
        so.to_ends end column h ∙ or_none (end_in old end r column) (is_chosen X count o) (is_part count o) (is_chosen X (count + 1) o) (X count) (chosen_more count o) off;
  }

module _ (M : ℕ → ℕ → Bool) (joint : Joint) (r own : ℕ) where
  -- the kept entries and the hung entries are all entries
  kept_or_hung : (same inside within spot : Bool) → inside ≡ true → ((same && within) || (inside && (not same && spot))) ≡ (if same then within else spot)
  kept_or_hung true true true spot e = refl
  kept_or_hung true true false spot e = refl
  kept_or_hung false true within spot e = refl
  kept_or_hung same false within spot e = cc

  all_sides : (count : ℕ) (within : Bool) (o : Option ℕ) → number_at joint.part_of.items r ≡ Some own → ((a : ℕ) → o ≡ Some a → a < count)
      → ((is_part own o && within) || hung M joint r own count o) ≡ by_part M joint r within o
  all_sides count within None part range = refl
  all_sides count within (Some q) part range =
      kept_or_hung (q == own) (nat_lt q count) within (spot M joint.row (hanging_of joint) r q) (is_lt q count (range q refl))
      ∙ ap (λ (b : Bool). if b then within else spot M joint.row (hanging_of joint) r q) (reversed q)
    where
      reversed : (q : ℕ) → (q == own) ≡ (part_or_first (number_at joint.part_of.items r) == q)
      reversed q = go (same_or_not q own)
        where
          here : part_or_first (number_at joint.part_of.items r) ≡ own
          here = ap part_or_first part

          go : (q ≡ own) ⊎ (q ≢ own) → (q == own) ≡ (part_or_first (number_at joint.part_of.items r) == q)
          go (inl e) = is_eq q own e ∙ sym (is_eq (part_or_first (number_at joint.part_of.items r)) q (here ∙ sym e))
          go (inr n) = is_ne q own n ∙ sym (is_ne (part_or_first (number_at joint.part_of.items r)) q (λ e. n (sym e ∙ here)))

  -- a column of the row, and a column without the row
  used_by : (d x : Bool) → (false || (not d && (x && true))) ≡ (if d then false else x)
  used_by true x = refl
  used_by false true = refl
  used_by false false = refl

  unused_by : (y d x : Bool) → (y || (not d && (x && false))) ≡ y
  unused_by true d x = refl
  unused_by false true x = refl
  unused_by false false true = refl
  unused_by false false false = refl

  pub arc_joined : (m : Matrix) (reversed : Bool) (old kept with_hung new : ArcSides) → r ≢ joint.row → number_at joint.part_of.items r ≡ Some own
      → reversed ≡ side_in old r joint.row → FitsJoint (height m) m.width joint → AreOff M joint
      → AreTablesOf m old → own < length joint.branches.items
      → IsArcChanged (λ other. cell joint.row_marks own other && differ reversed (side_in old r other)) (λ end column. cell joint.column_marks own column && differ reversed (end_in old end r column)) old kept r
      → AreHung M joint r own (length joint.branches.items) kept with_hung
      → IsArcChanged (λ other. side_in with_hung r other) (is_used M joint r own with_hung) with_hung new r → IsArcJoined M joint old new r
  arc_joined m reversed old kept with_hung new apart part t fits off tables l k h u = record { arcs = arcs; ends = ends }
    where
      one : AreTablesOf m kept
      one = k.sizes m tables

      two : AreTablesOf m with_hung
      two = h.sizes m one

      arcs : (s : ℕ) → s < old.arcs.width → side_in new r s ≡ joined_side M joint old r s
      arcs s w =
          let o = number_at joint.part_of.items s in
          u.to_arcs s (omega (arith, w, tables.arcs_width, two.arcs_width)) ∙ h.to_arcs s (omega (arith, w, tables.arcs_width, one.arcs_width))
          ∙ ap (λ (z : Bool). z || hung M joint r own (length joint.branches.items) o)
          (k.to_arcs s w ∙ ap (λ (z : Bool). z && differ reversed (side_in old r s)) (fits.row_marks.exact own s l (omega (arith, w, tables.arcs_width, fits.rows))))
          ∙ all_sides (length joint.branches.items) (differ reversed (side_in old r s)) o part (λ a e. fits.row_parts s a e)
          ∙ ap (λ (b : Bool). by_part M joint r (differ b (side_in old r s)) o) t
          ∙ sym (ap (λ (b : Bool). if b then branch_end joint o else by_part M joint r (reversed_side joint.row (side_in old) r s) o) (is_ne r joint.row apart))

      within : (end : Bool) (column : ℕ) → column < old.first.width
          → end_in with_hung end r column ≡ by_part M joint r (differ reversed (end_in old end r column)) (number_at joint.part_with.items column)
      within end column w =
          let o = number_at joint.part_with.items column in
          h.to_ends end column (omega (arith, w, tables.first_width, one.first_width))
          ∙ ap (λ (z : Bool). z || hung M joint r own (length joint.branches.items) o)
          (k.to_ends end column w ∙ ap (λ (z : Bool). z && differ reversed (end_in old end r column)) (fits.column_marks.exact own column l (omega (arith, w, tables.first_width, fits.columns))))
          ∙ all_sides (length joint.branches.items) (differ reversed (end_in old end r column)) o part (λ a e. fits.column_parts column a e)

      by_off : (value : Bool) (end : Bool) (column : ℕ) (o : Option ℕ)
          → by_part M joint r (differ (side_in old r joint.row) (end_in old end r column)) o ≡ end_off M joint.row (hanging_of joint) (reversed_lies joint.row (side_in old) (end_in old)) end r column o
      by_off value end column None = refl
      by_off value end column (Some q) = refl

      ends : (end : Bool) (column : ℕ) → column < old.first.width
          → end_in new end r column ≡ merged_lies M joint.row (hanging_of joint) (reversed_lies joint.row (side_in old) (end_in old)) end r column
      ends end column w = u.to_ends end column (omega (arith, w, tables.first_width, two.first_width)) ∙ ap (λ (z : Bool). z || (not (differ end (branch_at joint.branches.items own).end) && (M r column && M joint.row column))) (within end column w)
          ∙ by_row (two_cases (M joint.row column))
        where
          by_row : (M joint.row column ≡ true) ⊎ (M joint.row column ≡ false)
              → (by_part M joint r (differ reversed (end_in old end r column)) (number_at joint.part_with.items column) || (not (differ end (branch_at joint.branches.items own).end) && (M r column && M joint.row column)))
              ≡ merged_lies M joint.row (hanging_of joint) (reversed_lies joint.row (side_in old) (end_in old)) end r column
          by_row (inl e) =
              ap (λ (o : Option ℕ). by_part M joint r (differ reversed (end_in old end r column)) o || (not (differ end (branch_at joint.branches.items own).end) && (M r column && M joint.row column))) (off column e)
              ∙ ap (λ (z : Bool). false || (not (differ end (branch_at joint.branches.items own).end) && (M r column && z))) e
              ∙ used_by (differ end (branch_at joint.branches.items own).end) (M r column)
              ∙ sym (ap (λ (o : Option ℕ). if differ end (branch_at joint.branches.items (part_or_first o)).end then false else M r column) part)
              ∙ sym (rw (is_ne r joint.row apart, e) refl)
          by_row (inr e) =
              ap (λ (z : Bool). by_part M joint r (differ reversed (end_in old end r column)) (number_at joint.part_with.items column) || (not (differ end (branch_at joint.branches.items own).end) && (M r column && z))) e
              ∙ unused_by (by_part M joint r (differ reversed (end_in old end r column)) (number_at joint.part_with.items column)) (differ end (branch_at joint.branches.items own).end) (M r column)
              ∙ ap (λ (b : Bool). by_part M joint r (differ b (end_in old end r column)) (number_at joint.part_with.items column)) t
              ∙ by_off true end column (number_at joint.part_with.items column)
              ∙ sym (rw (is_ne r joint.row apart, e) refl)

  -- ---- arcs with nothing else on their sides true

  pub part_reversed : (old new : ArcSides) (reversed : Bool) → reversed ≡ true
      → IsArcChanged (λ other. cell joint.row_marks own other && not (side_in old r other)) (λ end column. cell joint.column_marks own column && not (end_in old end r column)) old new r
      → IsArcChanged (λ other. cell joint.row_marks own other && differ reversed (side_in old r other)) (λ end column. cell joint.column_marks own column && differ reversed (end_in old end r column)) old new r
  part_reversed old new reversed e k = record {
    sizes = k.sizes;
    others = k.others;
    to_arcs = λ other l. k.to_arcs other l ∙ ap (λ t. cell joint.row_marks own other && t) (turns (side_in old r other));
    to_ends = λ end column l. k.to_ends end column l ∙ ap (λ t. cell joint.column_marks own column && t) (turns (end_in old end r column));
  }
    where
      turns : (x : Bool) → not x ≡ differ reversed x
      turns x = sym (ap (λ t. differ t x) e)

  pub part_stays : (m : Matrix) (old : ArcSides) (first last : Grid) (reversed : Bool) → reversed ≡ false → reversed ≡ side_in old r joint.row
      → number_at joint.part_of.items r ≡ Some own → FitsJoint (height m) m.width joint → AreOff M joint → AreTablesOf m old
      → IsClearBeside M joint old r → IsRowFilled (λ column. cell old.first r column && not (M joint.row column)) old.first first r old.first.width
      → IsRowFilled (λ column. cell old.last r column && not (M joint.row column)) old.last last r old.last.width
      → own < length joint.branches.items
      → IsArcChanged (λ other. cell joint.row_marks own other && differ reversed (side_in old r other)) (λ end column. cell joint.column_marks own column && differ reversed (end_in old end r column)) old (record { arcs = old.arcs; first = first; last = last }) r
  part_stays m old first last reversed e is_side part fits off tables clear f l inside =
      changed_by old old.arcs first last r (λ other. cell joint.row_marks own other && differ reversed (side_in old r other)) (λ end column. cell joint.column_marks own column && differ reversed (end_in old end r column))
      (filled_same (λ other. cell joint.row_marks own other && differ reversed (side_in old r other)) old.arcs r arcs)
      (filled_as (λ column. cell old.first r column && not (M joint.row column)) (λ column. cell joint.column_marks own column && differ reversed (end_in old true r column)) old.first first r (λ column. ends true column) f)
      (filled_as (λ column. cell old.last r column && not (M joint.row column)) (λ column. cell joint.column_marks own column && differ reversed (end_in old false r column)) old.last last r (λ column. ends false column) l)
      (omega (arith, tables.last_width, tables.first_width))
    where
      same : (x : Bool) → differ reversed x ≡ x
      same x = ap (λ t. differ t x) e

      other_part : (o : Option ℕ) → is_part own o ≡ false → o ≢ number_at joint.part_of.items r
      other_part o none q = not_both (is_part own o) (ap (is_part own) (q ∙ part) ∙ is_eq own own refl) none

      arcs : (other : ℕ) → other < old.arcs.width → cell old.arcs r other ≡ (cell joint.row_marks own other && differ reversed (side_in old r other))
      arcs other w = go (two_cases (is_part own (number_at joint.part_of.items other)))
        where
          mark : cell joint.row_marks own other ≡ is_part own (number_at joint.part_of.items other)
          mark = fits.row_marks.exact own other inside (omega (arith, w, tables.arcs_width, fits.rows))

          go : (is_part own (number_at joint.part_of.items other) ≡ true) ⊎ (is_part own (number_at joint.part_of.items other) ≡ false)
              → cell old.arcs r other ≡ (cell joint.row_marks own other && differ reversed (side_in old r other))
          go (inl q) = sym (ap (λ t. t && differ reversed (side_in old r other)) (mark ∙ q) ∙ same (side_in old r other))
          go (inr q) = at (same_or_not other joint.row) ∙ sym (ap (λ t. t && differ reversed (side_in old r other)) (mark ∙ q))
            where
              at : (other ≡ joint.row) ⊎ (other ≢ joint.row) → side_in old r other ≡ false
              at (inl z) = ap (side_in old r) z ∙ sym is_side ∙ e
              at (inr z) = clear.arcs other z (other_part (number_at joint.part_of.items other) q)

      ends : (end : Bool) (column : ℕ) → (end_in old end r column && not (M joint.row column)) ≡ (cell joint.column_marks own column && differ reversed (end_in old end r column))
      ends end column = by_row (two_cases (M joint.row column)) (cases_lt column (length joint.part_with.items))
        where
          o : Option ℕ
          o = number_at joint.part_with.items column

          mark : (column < length joint.part_with.items) ⊎ (length joint.part_with.items ≤ column) → cell joint.column_marks own column ≡ is_part own o
          mark (inl k) = fits.column_marks.exact own column inside k
          mark (inr k) = cell_past joint.column_marks own column (omega (arith, k, fits.column_marks.wide)) ∙ sym (ap (is_part own) (get_or_past joint.part_with.items column None k))

          by_row : (M joint.row column ≡ true) ⊎ (M joint.row column ≡ false) → (column < length joint.part_with.items) ⊎ (length joint.part_with.items ≤ column)
              → (end_in old end r column && not (M joint.row column)) ≡ (cell joint.column_marks own column && differ reversed (end_in old end r column))
          by_row (inl q) k = ap (λ t. end_in old end r column && not t) q ∙ and_false (end_in old end r column)
              ∙ sym (ap (λ t. t && differ reversed (end_in old end r column)) (mark k ∙ ap (is_part own) (off column q)))
          by_row (inr q) k = ap (λ t. end_in old end r column && not t) q ∙ and_true (end_in old end r column) ∙ by_mark (two_cases (is_part own o))
            where
              by_mark : (is_part own o ≡ true) ⊎ (is_part own o ≡ false) → end_in old end r column ≡ (cell joint.column_marks own column && differ reversed (end_in old end r column))
              by_mark (inl z) = sym (ap (λ t. t && differ reversed (end_in old end r column)) (mark k ∙ z) ∙ same (end_in old end r column))
              by_mark (inr z) = clear.ends end column q (other_part o z) ∙ sym (ap (λ t. t && differ reversed (end_in old end r column)) (mark k ∙ z))

-- ---- one arc after another

pub clear_stays : (M : ℕ → ℕ → Bool) (joint : Joint) (a b : ArcSides) (r : ℕ) → KeepsRow a b r → IsClearBeside M joint a r → IsClearBeside M joint b r
clear_stays M joint a b r k h = record {
  arcs = λ s n o. k.arcs s ∙ h.arcs s n o;
  ends = λ end c off o. k.ends end c ∙ h.ends end c off o;
}

pub joined_stays : (M : ℕ → ℕ → Bool) (joint : Joint) (old : ArcSides) (r : ℕ) (a b : ArcSides) → KeepsRow a b r → IsArcJoined M joint old a r → IsArcJoined M joint old b r
joined_stays M joint old r a b k h = record {
  arcs = λ s l. k.arcs s ∙ h.arcs s l;
  ends = λ end column l. k.ends end column ∙ h.ends end column l;
}

-- joined from a later state in which the arc is unchanged
pub joined_from : (M : ℕ → ℕ → Bool) (joint : Joint) (m : Matrix) (old now new : ArcSides) (r : ℕ) → AreTablesOf m old → AreTablesOf m now → KeepsRow old now r
    → IsArcJoined M joint now new r → IsArcJoined M joint old new r
joined_from M joint m old now new r a b k h = record {
  arcs = λ s l. h.arcs s (let e = a.arcs_width in let f = b.arcs_width in omega arith)
      ∙ ap (λ (z : Bool). if r == joint.row then branch_end joint (number_at joint.part_of.items s) else by_part M joint r z (number_at joint.part_of.items s))
      (ap (λ (z : Bool). differ z (side_in now r s)) (k.arcs joint.row) ∙ ap (differ (side_in old r joint.row)) (k.arcs s));
  ends = λ end column l. h.ends end column (let e = a.first_width in let f = b.first_width in omega arith)
      ∙ lies_at M joint (reversed_lies joint.row (side_in now) (end_in now)) (reversed_lies joint.row (side_in old) (end_in old)) end r column
      (ap (λ (z : Bool). differ z (end_in now end r column)) (k.arcs joint.row) ∙ ap (differ (side_in old r joint.row)) (k.ends end column));
}
