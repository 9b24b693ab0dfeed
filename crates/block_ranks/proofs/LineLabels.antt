-- Labels of lines that links join.
use Rattle.std.proofs.Common.{◌≡◌, ◌≢◌, ◌<◌, ◌≤◌, ◌+◌, ◌∙◌, cond, nat_eq, ℕ, pos, Bool, true, false, List, length, map, get_or, refl, ap, sym, arith}
use Rattle.std.specs.List.{range_with_len}
use Rattle.std.proofs.lemmas.List.{get_or-map, length-map}
use Rattle.std.proofs.lemmas.List.FromFn.{length-range_with_len, get_or-range_with_len}
use Rattle.cmr_base.specs.declared.line.Line.{Line}
use Rattle.cmr_base.specs.declared.line.Line.TheVariants.{Row, Column}
use Rattle.cmr_base.specs.Matrix.{Matrix, height, entry, IsMatrix}
use Rattle.cmr_base.specs.Seeds.{IsLine, line_number}
use Rattle.cmr_base.proofs.Booleans.{eq_of}
use Rattle.cmr_base.proofs.SeedLemmas.{line_is}
use Rattle.block_ranks.specs.Links.{AreLinkedLines, HaveLabelsUpTo, label_of}
use Rattle.block_ranks.specs.PlacesBeforeCuts.{IsPlaceBeforeCut}
use Rattle.block_ranks.proofs.PlaceSteps.{at, none_at_start, none_in_row, none_passed}

line_in : (m : Matrix) (line : Line) → IsLine (height m) m.width line → line_number (height m) line < height m + m.width
line_in m (Row r) l = omega arith
line_in m (Column c) l = omega arith

pub own_labels_up_to : (m : Matrix) → IsMatrix m → (labels : List ℕ) → labels ≡ range_with_len 0 (height m + m.width) → HaveLabelsUpTo m 0 0 labels
own_labels_up_to m is labels e = record {
  matrix = is;
  count = ap (λ (xs : List ℕ). length xs) e ∙ length-range_with_len 0 (height m + m.width);
  labelled = λ x y hx hy f S out. ap S (line_is (height m) m.width x y hx hy (sym (own x hx) ∙ (f ∙ own y hy)));
  none = none_at_start m;
}
  where
    own : (line : Line) → IsLine (height m) m.width line → label_of m labels line ≡ line_number (height m) line
    own line l =
        let k = line_number (height m) line in
        ap (λ (xs : List ℕ). get_or xs k 0) e ∙ (let in_range = line_in m line l in let f = get_or-range_with_len 0 (height m + m.width) k 0 in_range in omega arith)

module _ (m : Matrix) (row column : ℕ) (labels : List ℕ) (have : HaveLabelsUpTo m row column labels) where
  -- a position of a 0
  pub labels_at_zero : entry m row column ≡ pos 0 → HaveLabelsUpTo m row (column + 1) labels
  labels_at_zero zero = record { matrix = have.matrix; count = have.count; labelled = have.labelled; none = none_passed m row column have.none (λ before. before.nonzero zero) }

  -- the labels of the lines of this position, and a label after they are joined
  abbrev old : ℕ
  old = label_of m labels (Row row)

  abbrev kept : ℕ
  kept = label_of m labels (Column column)

  abbrev new : ℕ → ℕ
  new label = cond (nat_eq label old) kept label

  -- a nonzero that is not before a cut joins the labels of its lines
  pub labels_joined : row < height m → column < m.width → entry m row column ≢ pos 0 → ¬ (IsPlaceBeforeCut m (at row column))
      → (joined : List ℕ) → joined ≡ map new labels → HaveLabelsUpTo m row (column + 1) joined
  labels_joined lr lc nonzero not_before joined made = record {
    matrix = have.matrix;
    count = ap (λ (xs : List ℕ). length xs) made ∙ length-map labels new ∙ have.count;
    labelled = λ x y hx hy e. linked x y hx hy (nat_eq (label_of m labels x) old) (nat_eq (label_of m labels y) old) refl refl (sym (is x hx) ∙ (e ∙ is y hy));
    none = none_passed m row column have.none not_before;
  }
    where
      is : (x : Line) → IsLine (height m) m.width x → label_of m joined x ≡ new (label_of m labels x)
      is x hx =
          let k = line_number (height m) x in
          ap (λ (xs : List ℕ). get_or xs k 0) made ∙ get_or-map new labels k 0 0 (let l = line_in m x hx in let e = have.count in omega arith)

      here : AreLinkedLines m (Row row) (Column column)
      here S out = out (at row column) (record { row = lr; column = lc; nonzero = nonzero; not_before = not_before })

      linked : (x y : Line) → IsLine (height m) m.width x → IsLine (height m) m.width y → (s t : Bool) → nat_eq (label_of m labels x) old ≡ s → nat_eq (label_of m labels y) old ≡ t
          → cond s kept (label_of m labels x) ≡ cond t kept (label_of m labels y) → AreLinkedLines m x y
      linked x y hx hy true true f g e S out = have.labelled x y hx hy (eq_of (label_of m labels x) old f ∙ sym (eq_of (label_of m labels y) old g)) S out
      linked x y hx hy false false f g e S out = have.labelled x y hx hy e S out
      linked x y hx hy true false f g e S out =
          have.labelled x (Row row) hx lr (eq_of (label_of m labels x) old f) S out ∙ here S out ∙ have.labelled (Column column) y lc hy e S out
      linked x y hx hy false true f g e S out =
          have.labelled x (Column column) hx lc e S out ∙ sym (here S out) ∙ have.labelled (Row row) y lr hy (sym (eq_of (label_of m labels y) old g)) S out

  pub labels_of_row : m.width ≤ column → HaveLabelsUpTo m (row + 1) 0 labels
  labels_of_row full = record { matrix = have.matrix; count = have.count; labelled = have.labelled; none = none_in_row m row column full have.none }
