use Rattle.std.proofs.Common.{◌≡◌, ◌∙◌, ℕ, List, Option, length, refl, sym, ap, subst, arith}
use Rattle.cmr_base.specs.Trees.{support}
use Rattle.graph_realise.specs.Joints.{ArePartMarks, number_at}
use Rattle.graph_realise.specs.BitTables.{Grid}
use Rattle.graph_realise.proofs.JointLemmas.{named_number}
use Rattle.graph_realise.proofs.joint.Joint.new.Goals as goal

marked : (numbers given : List (Option ℕ)) (count many : ℕ) (marks : Grid) → given ≡ numbers → count ≡ many → ArePartMarks given count marks → ArePartMarks numbers many marks
marked numbers given count many marks e f h = subst (λ (xs : List (Option ℕ)). ArePartMarks xs many marks) e (subst (λ (n : ℕ). ArePartMarks given n marks) f h)

pub marks_of-requires-clause-numbers : goal.marks_of-requires-clause-numbers
marks_of-requires-clause-numbers c = λ row part e.
    let l = (c.in_ok-part_of.ensures.numbered.only part row (ap (λ (xs : List (Option ℕ)). number_at xs row) (sym c.deref-3.ensures.value) ∙ e)).0 in
    omega (arith, l, c.len.ensures)

pub marks_of-requires-2-clause-numbers : goal.marks_of-requires-2-clause-numbers
marks_of-requires-2-clause-numbers c = λ column part e.
    let l = named_number (support c.args.matrix.now) c.args.row c.args.parts.now (length c.args.parts.now) column part _ (c.in_ok-part_with.ensures.parts column)
    (ap (λ (xs : List (Option ℕ)). number_at xs column) (sym c.deref-4.ensures.value) ∙ e) in
    omega (arith, l, c.len-2.ensures)

pub returns-clause-joint : goal.returns-clause-joint
returns-clause-joint c = record {
  row = refl;
  rows = c.in_ok-part_of.ensures.size;
  columns = c.in_ok-part_with.ensures.size;
  numbered = c.in_ok-part_of.ensures.numbered;
  branches = c.in_ok-branches.ensures;
  with_columns = c.in_ok-part_with.ensures.parts;
  own_chunks = c.in_ok-row_chunks.ensures;
  row_marks = marked c.in_ok-part_of.part_of.items c.deref-3.result.now c.len.result (length c.args.parts.now) c.in_ok-row_marks.row_marks c.deref-3.ensures.value c.len.ensures c.in_ok-row_marks.ensures;
  column_marks = marked c.in_ok-part_with.part_with.items c.deref-4.result.now c.len-2.result (length c.args.parts.now) c.in_ok-column_marks.column_marks c.deref-4.ensures.value c.len-2.ensures c.in_ok-column_marks.ensures;
  few = omega (arith, c.requires.few, c.in_ok-part_of.ensures.shape.height_in);
}
