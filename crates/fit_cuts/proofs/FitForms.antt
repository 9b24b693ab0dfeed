-- A cut has one of the forms delta, Y and mixed if and only if both sides are fit.
use Rattle.std.proofs.Common.{◌≡◌, ◌≢◌, ◌<◌, ◌⊎◌, inl, inr, ℕ, ℤ, pos, Bool, true, false, not, ap, sym}
use Rattle.cmr_base.specs.declared.line.Line.{Line}
use Rattle.cmr_base.specs.declared.line.Line.TheVariants.{Column, Row}
use Rattle.cmr_base.specs.declared.separation.Connector.{Connector}
use Rattle.cmr_base.specs.declared.separation.Form.{Form}
use Rattle.cmr_base.specs.declared.separation.Form.TheVariants.{Delta, Mixed, YForm}
use Rattle.cmr_base.specs.LineSets.{first_lines}
use Rattle.cmr_base.specs.Matrix.{Matrix, height, entry, HasTernaryEntries}
use Rattle.cmr_base.specs.Separations.{AreCrossing, AreOn, HasBlocks, IsTied, Lines, ThreeSeparates, connector_lines, first_is_flat, opposite, product_at, second_is_flat}
use Rattle.cmr_base.proofs.Booleans.{not_is, not_not}
use Rattle.cmr_base.proofs.ListedLines.{first_lines_contain, has_line_from_line, line_from_has_line}
use Rattle.cmr_base.proofs.SignEntries.{sign_nonzero, zero_or_sign}
use Rattle.cuts.specs.LineCuts.{IsCut}
use Rattle.cuts.proofs.CutLemmas.{other_is_cut}
use Rattle.three_sep.specs.NumberedSeeds.{IsCrossing}
use Rattle.three_sep.proofs.CrossingLemmas.{crossing_from}
use Rattle.path_places.specs.PathPlaces.{IsEndColumn, IsEndRow, IsFit}
use Rattle.fit_cuts.specs.FitForms.{AreBothFit, CutsHaveForms, FitCutsSeparate, HasCrossingForm}
use Rattle.fit_cuts.proofs.CutEnds.{end_column_same, end_row_same, fit_same, lower_product, lower_sign, upper_product, upper_sign}

-- ---- the connector of a fit side

-- an end row with a nonzero in an end column and a zero in another
record IsFlatIn (m : Matrix) (T : Lines) (a : Connector) : Type 0 where
  pub row : IsEndRow m T a.row
  pub column : IsEndColumn m T a.column
  pub other : IsEndColumn m T a.other
  pub nonzero : entry m a.row a.column ≢ pos 0
  pub zero : entry m a.row a.other ≡ pos 0

-- an end column with a nonzero in an end row and a zero in another
record IsTallIn (m : Matrix) (T : Lines) (a : Connector) : Type 0 where
  pub row : IsEndRow m T a.row
  pub column : IsEndColumn m T a.column
  pub other : IsEndRow m T a.other
  pub nonzero : entry m a.row a.column ≢ pos 0
  pub zero : entry m a.other a.column ≡ pos 0

connector_of : (m : Matrix) (T : Lines) → HasTernaryEntries m → IsFit m T → (a : Connector) × (IsFlatIn m T a ⊎ IsTallIn m T a)
connector_of m T small ((r, c, er, ec, zero), (k, d, ek, ed, nonzero)) = elim (zero_or_sign (entry m r d) (small r d)) [
  | inr u ↦ (record { row = r; column = d; other = c }, inl (record { row = er; column = ed; other = ec; nonzero = sign_nonzero (entry m r d) u; zero = zero }))
  | inl e ↦ (record { row = k; column = d; other = r }, inr (record { row = ek; column = ed; other = er; nonzero = nonzero; zero = e }))
]

tall_same : (m : Matrix) (S T : Lines) (a : Connector) → ((x : Line) → S x ≡ T x) → IsTallIn m S a → IsTallIn m T a
tall_same m S T a same f = record {
  row = end_row_same m S T same a.row f.row;
  column = end_column_same m S T same a.column f.column;
  other = end_row_same m S T same a.other f.other;
  nonzero = f.nonzero;
  zero = f.zero;
}

-- the other side of the other side
twice_opposite : (T : Lines) (x : Line) → T x ≡ opposite (opposite T) x
twice_opposite T x = sym (not_not (T x))

-- ---- from two connectors to a form

flat_on : (m : Matrix) (T : Lines) (a : Connector) → IsFlatIn m T a → AreOn (first_lines (height m)) (first_lines m.width) T true (connector_lines true a)
flat_on m T a f = (
  (has_line_from_line (height m) m.width (Row a.row) f.row.on.0, f.row.on.1),
  (
    (has_line_from_line (height m) m.width (Column a.column) f.column.on.0, f.column.on.1),
    ((has_line_from_line (height m) m.width (Column a.other) f.other.on.0, f.other.on.1), tt),
  ),
)

tall_on : (m : Matrix) (T : Lines) (a : Connector) → IsTallIn m T a → AreOn (first_lines (height m)) (first_lines m.width) T true (connector_lines false a)
tall_on m T a f = (
  (has_line_from_line (height m) m.width (Row a.row) f.row.on.0, f.row.on.1),
  (
    (has_line_from_line (height m) m.width (Column a.column) f.column.on.0, f.column.on.1),
    ((has_line_from_line (height m) m.width (Row a.other) f.other.on.0, f.other.on.1), tt),
  ),
)

flat_off : (m : Matrix) (T : Lines) (a : Connector) → IsFlatIn m (opposite T) a → AreOn (first_lines (height m)) (first_lines m.width) T false (connector_lines true a)
flat_off m T a f = (
  (has_line_from_line (height m) m.width (Row a.row) f.row.on.0, not_is (T (Row a.row)) f.row.on.1),
  (
    (has_line_from_line (height m) m.width (Column a.column) f.column.on.0, not_is (T (Column a.column)) f.column.on.1),
    ((has_line_from_line (height m) m.width (Column a.other) f.other.on.0, not_is (T (Column a.other)) f.other.on.1), tt),
  ),
)

tall_off : (m : Matrix) (T : Lines) (a : Connector) → IsTallIn m (opposite T) a → AreOn (first_lines (height m)) (first_lines m.width) T false (connector_lines false a)
tall_off m T a f = (
  (has_line_from_line (height m) m.width (Row a.row) f.row.on.0, not_is (T (Row a.row)) f.row.on.1),
  (
    (has_line_from_line (height m) m.width (Column a.column) f.column.on.0, not_is (T (Column a.column)) f.column.on.1),
    ((has_line_from_line (height m) m.width (Row a.other) f.other.on.0, not_is (T (Row a.other)) f.other.on.1), tt),
  ),
)

module _ (m : Matrix) (T : Lines) (small : HasTernaryEntries m) (cut : IsCut m T) (a b : Connector) where
  abbrev M : ℕ → ℕ → ℤ
  M = entry m

  upper_crosses : IsEndRow m T a.row → IsEndColumn m (opposite T) b.column → M a.row b.column ≢ pos 0
  upper_crosses er ec = sign_nonzero (M a.row b.column) (upper_sign m T small cut a.row b.column er ec)

  lower_crosses : IsEndRow m (opposite T) b.row → IsEndColumn m T a.column → M b.row a.column ≢ pos 0
  lower_crosses er ec = sign_nonzero (M b.row a.column) (lower_sign m T small cut b.row a.column er ec)

  blocks : IsEndRow m T a.row → IsEndColumn m T a.column → IsEndRow m (opposite T) b.row → IsEndColumn m (opposite T) b.column
      → HasBlocks M (first_lines (height m)) (first_lines m.width) T (product_at M a.row b.column) (product_at M b.row a.column)
  blocks one_row one_column two_row two_column = record {
    upper = λ r c hr hc er ec. upper_product m T small cut a.row b.column one_row two_column r c (first_lines_contain (height m) r hr) (first_lines_contain m.width c hc) er ec;
    lower = λ r c hr hc er ec. lower_product m T small cut b.row a.column two_row one_column r c (first_lines_contain (height m) r hr) (first_lines_contain m.width c hc) er ec;
  }

  -- the other line of a connector is tied to the corner of the other side
  first_flat_tied : IsFlatIn m T a → IsEndRow m (opposite T) b.row → IsTied M true a b.row b.column
  first_flat_tied f er = (f.zero, sign_nonzero (M b.row a.other) (lower_sign m T small cut b.row a.other er f.other))

  first_tall_tied : IsTallIn m T a → IsEndColumn m (opposite T) b.column → IsTied M false a b.row b.column
  first_tall_tied f ec = (f.zero, sign_nonzero (M a.other b.column) (upper_sign m T small cut a.other b.column f.other ec))

  second_flat_tied : IsFlatIn m (opposite T) b → IsEndRow m T a.row → IsTied M true b a.row a.column
  second_flat_tied f er = (f.zero, sign_nonzero (M a.row b.other) (upper_sign m T small cut a.row b.other er f.other))

  second_tall_tied : IsTallIn m (opposite T) b → IsEndColumn m T a.column → IsTied M false b a.row a.column
  second_tall_tied f ec = (f.zero, sign_nonzero (M b.other a.column) (lower_sign m T small cut b.other a.column f.other ec))

  delta : IsFlatIn m T a → IsFlatIn m (opposite T) b → ThreeSeparates m T Delta a b
  delta f g = record {
    one = flat_on m T a f;
    two = flat_off m T b g;
    connectors = record {
      first_corner = f.nonzero;
      second_corner = g.nonzero;
      tied = record { upper = upper_crosses f.row g.column; lower = lower_crosses g.row f.column; first_tied = first_flat_tied f g.row; second_tied = second_flat_tied g f.row };
    };
    blocks = blocks f.row f.column g.row g.column;
    enough = cut.cut.enough;
  }

  y_form : IsTallIn m T a → IsTallIn m (opposite T) b → ThreeSeparates m T YForm a b
  y_form f g = record {
    one = tall_on m T a f;
    two = tall_off m T b g;
    connectors = record {
      first_corner = f.nonzero;
      second_corner = g.nonzero;
      tied = record { upper = upper_crosses f.row g.column; lower = lower_crosses g.row f.column; first_tied = first_tall_tied f g.column; second_tied = second_tall_tied g f.column };
    };
    blocks = blocks f.row f.column g.row g.column;
    enough = cut.cut.enough;
  }

  mixed : IsFlatIn m T a → IsTallIn m (opposite T) b → ThreeSeparates m T Mixed a b
  mixed f g = record {
    one = flat_on m T a f;
    two = tall_off m T b g;
    connectors = record {
      first_corner = f.nonzero;
      second_corner = g.nonzero;
      tied = record { upper = upper_crosses f.row g.column; lower = lower_crosses g.row f.column; first_tied = first_flat_tied f g.row; second_tied = second_tall_tied g f.column };
    };
    blocks = blocks f.row f.column g.row g.column;
    enough = cut.cut.enough;
  }

form_of : (m : Matrix) (T : Lines) → HasTernaryEntries m → IsCut m T → AreBothFit m T → HasCrossingForm m T
form_of m T small cut fit = go (connector_of m T small fit.one) (connector_of m (opposite T) small fit.two)
  where
    go : (a : Connector) × (IsFlatIn m T a ⊎ IsTallIn m T a) → (b : Connector) × (IsFlatIn m (opposite T) b ⊎ IsTallIn m (opposite T) b) → HasCrossingForm m T
    go (a, inl f) (b, inl g) = record { form = Delta; crossing = tt; first = a; second = b; separates = inl (delta m T small cut a b f g) }
    go (a, inr f) (b, inr g) = record { form = YForm; crossing = tt; first = a; second = b; separates = inl (y_form m T small cut a b f g) }
    go (a, inl f) (b, inr g) = record { form = Mixed; crossing = tt; first = a; second = b; separates = inl (mixed m T small cut a b f g) }
    go (a, inr f) (b, inl g) = record {
      form = Mixed;
      crossing = tt;
      first = b;
      second = a;
      separates = inr (mixed m (opposite T) small (other_is_cut m T cut) b a g (tall_same m T (opposite (opposite T)) a (twice_opposite T) f));
    }

-- ---- from a form to fit sides

module _ (m : Matrix) (T : Lines) where
  abbrev HasOn : Bool → Bool → Connector → Type 0
  HasOn value flat a = AreOn (first_lines (height m)) (first_lines m.width) T value (connector_lines flat a)

  row_on : (value flat : Bool) (a : Connector) → HasOn value flat a → (a.row < height m) × (T (Row a.row) ≡ value)
  row_on value true a on = (line_from_has_line (height m) m.width (Row a.row) on.0.0, on.0.1)
  row_on value false a on = (line_from_has_line (height m) m.width (Row a.row) on.0.0, on.0.1)

  column_on : (value flat : Bool) (a : Connector) → HasOn value flat a → (a.column < m.width) × (T (Column a.column) ≡ value)
  column_on value true a on = (line_from_has_line (height m) m.width (Column a.column) on.1.0.0, on.1.0.1)
  column_on value false a on = (line_from_has_line (height m) m.width (Column a.column) on.1.0.0, on.1.0.1)

  -- the lines of a connector are on the other side of the other side
  turned : (value flat : Bool) (a : Connector) → HasOn value flat a → AreOn (first_lines (height m)) (first_lines m.width) (opposite T) (not value) (connector_lines flat a)
  turned value true a on = ((on.0.0, ap not on.0.1), ((on.1.0.0, ap not on.1.0.1), ((on.1.1.0.0, ap not on.1.1.0.1), tt)))
  turned value false a on = ((on.0.0, ap not on.0.1), ((on.1.0.0, ap not on.1.0.1), ((on.1.1.0.0, ap not on.1.1.0.1), tt)))

  first_fit : (flat other_flat : Bool) (a b : Connector) → HasOn true flat a → HasOn false other_flat b → AreCrossing (entry m) flat other_flat a b
      → entry m a.row a.column ≢ pos 0 → IsFit m T
  first_fit flat other_flat a b one two crossing corner = go flat one crossing.first_tied
    where
      far_row : (b.row < height m) × (opposite T (Row b.row) ≡ true)
      far_row = let far = row_on false other_flat b two in (far.0, ap not far.1)

      far_column : (b.column < m.width) × (opposite T (Column b.column) ≡ true)
      far_column = let far = column_on false other_flat b two in (far.0, ap not far.1)

      row : IsEndRow m T a.row
      row = record { on = row_on true flat a one; across = b.column; far = far_column; nonzero = crossing.upper }

      column : IsEndColumn m T a.column
      column = record { on = column_on true flat a one; across = b.row; far = far_row; nonzero = crossing.lower }

      go : (kind : Bool) → HasOn true kind a → IsTied (entry m) kind a b.row b.column → IsFit m T
      go true on tied =
          let other : IsEndColumn m T a.other = record { on = (line_from_has_line (height m) m.width (Column a.other) on.1.1.0.0, on.1.1.0.1); across = b.row; far = far_row; nonzero = tied.1 } in
          ((a.row, a.other, row, other, tied.0), (a.row, a.column, row, column, corner))
      go false on tied =
          let other : IsEndRow m T a.other = record { on = (line_from_has_line (height m) m.width (Row a.other) on.1.1.0.0, on.1.1.0.1); across = b.column; far = far_column; nonzero = tied.1 } in
          ((a.other, a.column, other, column, tied.0), (a.row, a.column, row, column, corner))

fit_from : (m : Matrix) (T : Lines) (form : Form) (a b : Connector) → IsCrossing form → ThreeSeparates m T form a b → AreBothFit m T
fit_from m T form a b is t =
    let crossing = crossing_from (entry m) a b form is t.connectors.tied in
    let other : AreCrossing (entry m) (second_is_flat form) (first_is_flat form) b a =
    record { upper = crossing.lower; lower = crossing.upper; first_tied = crossing.second_tied; second_tied = crossing.first_tied } in
    record {
      one = first_fit m T (first_is_flat form) (second_is_flat form) a b t.one t.two crossing t.connectors.first_corner;
      two = first_fit m (opposite T) (second_is_flat form) (first_is_flat form) b a (turned m T false (second_is_flat form) b t.two)
          (turned m T true (first_is_flat form) a t.one) other t.connectors.second_corner;
    }

fit_of : (m : Matrix) (T : Lines) → HasCrossingForm m T → AreBothFit m T
fit_of m T has = elim has.separates [
  | inl t ↦ fit_from m T has.form has.first has.second has.crossing t
  | inr t ↦
      let fit = fit_from m (opposite T) has.form has.first has.second has.crossing t in
      record { one = fit_same m (opposite (opposite T)) T (λ x. not_not (T x)) fit.two; two = fit.one }
]

-- ---- the laws

pub cuts_have_forms : CutsHaveForms
cuts_have_forms m T small cut = (form_of m T small cut, fit_of m T)

pub fit_cuts_separate : FitCutsSeparate
fit_cuts_separate m T small cut fit none =
    let has = form_of m T small cut fit in
    elim has.separates [ inl t ↦ none has.form has.first has.second T t | inr t ↦ none has.form has.first has.second (opposite T) t ]
