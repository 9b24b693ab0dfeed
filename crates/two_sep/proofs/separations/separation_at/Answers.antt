use Rattle.std.proofs.Common.{◌≡◌, ◌<◌, ◌+◌, ◌∙◌, map, ap, ap₂, sym, subst, arith, List, ℕ, get_or, inl, inr, Option, MatchOption, cond, nat_eq, of_z, w8}
use Rattle.std.proofs.lemmas.List.{get_or_default}
use Rattle.cmr_base.specs.Matrix.{height}
use Rattle.cmr_base.proofs.EntryBytes.{zero_byte}
use Rattle.line_growth.specs.declared.growing_set.GrowingSet.{GrowingSet}
use Rattle.line_growth.specs.GrowingSets.{IsSizedFor, set_of}
use Rattle.line_growth.proofs.SetSteps.{listed_columns, listed_rows}
use Rattle.two_sep.specs.FirstSeeds.{ArePassed, HasNoGoodSeed, IsFirstGoodSide}
use Rattle.two_sep.specs.declared.linked_lines.LinkedLines.{LinkedLines}
use Rattle.two_sep.specs.LinkedLines.{AreSizedFor}
use Rattle.two_sep.proofs.Crossing.{passed_on, passed_joined}
use Rattle.two_sep.proofs.FirstTwo.{first_two}
use Rattle.two_sep.proofs.separations.separation_at.Goals as goal
use Rattle.two_sep.proofs.separations.separation_at.Goals.{then-label-other+then-entry-ne0+in_ok-side+in_default, else-label-other, else-label-other-via-then-label-other+else-entry-ne0, else-label-other-via-else-label-other}

pub returns-in-Some : goal.returns-in-Some
returns-in-Some c =
    let m = c.args.matrix.now in
    let found = subst (λ (o : Option GrowingSet). MatchOption o (HasNoGoodSeed m c.args.row c.loop-column.column) (λ side. IsSizedFor m side × IsFirstGoodSide m c.args.row c.loop-column.column (set_of side))) c.in-Some.is c.in_ok-side.ensures.found in
    record {
      size = c.good_side.ensures.size;
      found = first_two m c.args.row c.loop-column.column c.loop-column.labels.items c.loop-column.invariant.passed (set_of c.in-Some.side) found.1 c.in_ok-line_set.field-0.rows c.in_ok-line_set.field-0.columns
          (listed_rows m c.in-Some.side found.0 _ c.in_ok-line_set.ensures.rows) (listed_columns m c.in-Some.side found.0 _ c.in_ok-line_set.ensures.columns);
    }

pub loop-column-preserved : goal.loop-column-preserved
loop-column-preserved c =
    let m = c.args.matrix.now in
    let i = c.args.row in
    let j = c.loop-column.column in
    let labels = c.loop-column.labels.items in
    let p = c.loop-column.invariant.passed in
    let rows = c.rows-rows.ensures.rows in
    let column_in : j < m.width = let a = c.loop-column-test.true in let b = c.columns-column-end.ensures.columns in omega arith in
    let size = p.linked.count in
    let label : get_or labels i 0 ≡ c.index-label.result.now = get_or_default labels i 0 c.index-label.result.now (let a = c.requires.row in omega arith) ∙ sym c.index-label.ensures in
    let other : get_or labels (height m + j) 0 ≡ c.index-other.result.now =
    ap (λ (k : ℕ). get_or labels (k + j) 0) (sym rows) ∙ get_or_default labels (c.rows-rows.result + j) 0 c.index-other.result.now (omega arith) ∙ sym c.index-other.ensures in
    elim c.if-label-other.branch [
      | then-label-other+then-entry-ne0+in_ok-side+in_default w ↦
          let none = subst (λ (o : Option GrowingSet). MatchOption o (HasNoGoodSeed m i j) (λ side. IsSizedFor m side × IsFirstGoodSide m i j (set_of side))) w.in_default.is w.in_ok-side.ensures.found in
          let same = ap (λ v. v.items) w.labels-is in
          record {
            size = subst (λ (linked : LinkedLines). AreSizedFor m linked) (sym w.linked-is) w.good_side.ensures.size;
            passed = passed_joined m i j labels p c.requires.row column_in (λ e. w.if-entry-ne0.true (ap (of_z w8) (w.entry.ensures.value ∙ e))) none c.if-label-other.labels.items
                (same ∙ w.join_labels.ensures ∙ ap₂ (λ (a b : ℕ). map (λ l. cond (nat_eq l a) b l) labels) (sym label) (sym other));
          }
      | else-label-other w ↦ record {
        size = subst (λ (linked : LinkedLines). AreSizedFor m linked) (sym w.linked-is) c.loop-column.invariant.size;
        passed = subst (λ (xs : List ℕ). ArePassed m i (j + 1) xs) (sym (ap (λ v. v.items) w.labels-is))
            (passed_on m i j labels p c.requires.row column_in
            (elim w.else-label-other.branch [
              | else-label-other-via-then-label-other+else-entry-ne0 w' ↦ inl (sym w'.entry.ensures.value ∙ zero_byte w'.entry.result w'.entry.ensures.small w'.if-entry-ne0.false)
              | else-label-other-via-else-label-other w' ↦ inr (label ∙ w'.if-label-other.false ∙ sym other)
            ]));
      }
    ]
