-- A nonzero between the sides of a two-separation makes its block. So the lines of a nonzero without a good seed are together.
use Rattle.std.proofs.Common.{◌≡◌, ◌≢◌, ◌<◌, ◌≤◌, ◌+◌, ◌⊎◌, inl, inr, ◌∙◌, ◌*ℤ◌, cond, nat_eq, ℕ, ℤ, pos, Bool, true, false, List, length, map, get_or, ap, ap₂, sym, subst, refl, arith}
use Rattle.std.specs.List.{Contains, range_with_len}
use Rattle.std.proofs.lemmas.Bool.{false≢true, cases_lt}
use Rattle.std.proofs.lemmas.Bool.Decides.{nat_tests}
use Rattle.std.proofs.lemmas.List.{get_or-map, length-map}
use Rattle.std.proofs.lemmas.List.FromFn.{length-range_with_len, get_or-range_with_len}
use Rattle.cmr_base.specs.declared.line.Line.TheVariants.{Row, Column}
use Rattle.cmr_base.specs.Matrix.{Matrix, height, entry, IsMatrix}
use Rattle.cmr_base.specs.LineSets.{first_lines}
use Rattle.cmr_base.specs.Separations.{TwoSeparates, HasNoTwoSeparation, Lines, IsTwoSeparation}
use Rattle.cmr_base.proofs.Integers.{products}
use Rattle.cmr_base.proofs.RowLists.{two_cases}
use Rattle.cmr_base.proofs.ListedLines.{contains_first_lines, first_lines_contain}
use Rattle.cmr_base.proofs.SeedLemmas.{good_two_seed}
use Rattle.cmr_base.proofs.SignEntries.{sign_of_entry}
use Rattle.cmr_base.proofs.SignedProducts.{same_product}
use Rattle.two_sep.specs.FirstSeeds.{HasNoGoodSeed, AreTogether, ArePassed, line_at_number}
use Rattle.two_sep.proofs.LineNumbers.{line_of-row, line_of-column}

first_factor : (g x : ℤ) → g *ℤ x ≢ pos 0 → g ≢ pos 0
first_factor g x h e = h (ap (λ (z : ℤ). z *ℤ x) e ∙ none x)
  where
    none : (x : ℤ) → pos 0 *ℤ x ≡ pos 0
    none x = simp products

middle_factor : (g f e : ℤ) → g *ℤ (f *ℤ e) ≢ pos 0 → f ≢ pos 0
middle_factor g f e h q = h (ap (λ (z : ℤ). g *ℤ (z *ℤ e)) q ∙ none g e)
  where
    none : (g e : ℤ) → g *ℤ (pos 0 *ℤ e) ≡ pos 0
    none g e = simp products

module _ (m : Matrix) (is : IsMatrix m) where
  crossing : (rows columns : List ℕ) (side : Lines) (i j i' j' : ℕ) → IsTwoSeparation (entry m) rows columns side i' j' → Contains rows i → Contains columns j → entry m i j ≢ pos 0
      → side (Row i) ≡ false → side (Column j) ≡ true → IsTwoSeparation (entry m) rows columns side i j
  crossing rows columns side i j i' j' s hi hj nonzero ei ej =
      let here = s.blocks.lower i j hi hj ei ej in
      let product : entry m i j' *ℤ (entry m i' j *ℤ entry m i' j') ≢ pos 0 = λ e. nonzero (here ∙ e) in
      let e = sign_of_entry (entry m i' j') (is.small i' j') s.nonzero in
      let g = sign_of_entry (entry m i j') (is.small i j') (first_factor (entry m i j') (entry m i' j *ℤ entry m i' j') product) in
      let f = sign_of_entry (entry m i' j) (is.small i' j) (middle_factor (entry m i j') (entry m i' j) (entry m i' j') product) in
      record {
        one = ((hj, ej), tt);
        two = ((hi, ei), tt);
        nonzero = nonzero;
        blocks = record {
          upper = s.blocks.upper;
          lower = λ r c hr hc er ec. s.blocks.lower r c hr hc er ec
              ∙ same_product (entry m r j') (entry m i' c) (entry m i' j') (entry m i' j) (entry m i j') e f g
              ∙ sym (ap₂ (λ (x y : ℤ). x *ℤ y) (s.blocks.lower r j hr hj er ej) (ap₂ (λ (x y : ℤ). x *ℤ y) (s.blocks.lower i c hi hc ei ec) here));
        };
        enough = s.enough;
      }

  at_row : (side : Lines) (r : ℕ) → r < height m → side (line_at_number (height m) r) ≡ side (Row r)
  at_row side r l = ap side (line_of-row (height m) r l)

  at_column : (side : Lines) (c : ℕ) → c < m.width → side (line_at_number (height m) (height m + c)) ≡ side (Column c)
  at_column side c l = ap side (line_of-column (height m) c)

  -- the lines of a nonzero without good seed are together
  pub together_from_none : (i j : ℕ) → i < height m → j < m.width → entry m i j ≢ pos 0 → HasNoGoodSeed m i j → AreTogether m i (height m + j)
  together_from_none i j li lj nonzero none i' j' side s = at_row side i li ∙ go (two_cases (side (Row i))) (two_cases (side (Column j))) ∙ sym (at_column side j lj)
    where
      go : (side (Row i) ≡ true) ⊎ (side (Row i) ≡ false) → (side (Column j) ≡ true) ⊎ (side (Column j) ≡ false) → side (Row i) ≡ side (Column j)
      go (inl e) (inl f) = e ∙ sym f
      go (inr e) (inr f) = e ∙ sym f
      go (inl e) (inr f) = absurd (nonzero (s.blocks.upper i j (contains_first_lines (height m) i li) (contains_first_lines m.width j lj) e f))
      go (inr e) (inl f) =
          let t = crossing (first_lines (height m)) (first_lines m.width) side i j i' j' s (contains_first_lines (height m) i li) (contains_first_lines m.width j lj) nonzero e f in
          let g = good_two_seed (height m) m.width (entry m) i j side t in
          absurd (none g.0 g.1 g.2)

  -- a separation has no reference whose lines are together
  pub parted : (i j : ℕ) (side : Lines) → i < height m → j < m.width → AreTogether m i (height m + j) → TwoSeparates m side i j → ⊥
  parted i j side li lj together s = false≢true (sym s.two.0.1 ∙ (sym (at_row side i li) ∙ (together i j side s ∙ (at_column side j lj ∙ s.one.0.1))))

-- ---- the labels

module _ (m : Matrix) where
  pub own_labels_passed : IsMatrix m → (labels : List ℕ) → labels ≡ range_with_len 0 (height m + m.width) → ArePassed m 0 0 labels
  own_labels_passed is labels e = record {
    matrix = is;
    linked = record {
      count = ap (λ (xs : List ℕ). length xs) e ∙ length-range_with_len 0 (height m + m.width);
      labelled = λ x y hx hy f i j side s. ap (λ (k : ℕ). side (line_at_number (height m) k)) (sym (label x hx) ∙ (f ∙ label y hy));
    };
    before = λ i j li lj b. absurd (elim b [
      | inl l ↦ (omega arith)
      | inr h ↦ (let l = h.1 in omega arith)
    ]);
  }
    where
      label : (x : ℕ) → x < height m + m.width → get_or labels x 0 ≡ x
      label x l = ap (λ (xs : List ℕ). get_or xs x 0) e ∙ (let f = get_or-range_with_len 0 (height m + m.width) x 0 l in omega arith)

  module _ (row column : ℕ) (labels : List ℕ) (p : ArePassed m row column labels) where
    -- a position whose entry is 0, or whose lines have one label
    pub passed_on : row < height m → column < m.width → (entry m row column ≡ pos 0) ⊎ (get_or labels row 0 ≡ get_or labels (height m + column) 0) → ArePassed m row (column + 1) labels
    passed_on lr lc why = record {
      matrix = p.matrix;
      linked = p.linked;
      before = λ i j li lj b nonzero. elim b [
        | inl l ↦ p.before i j li lj (inl l) nonzero
        | inr h ↦ elim (cases_lt j column) [
          | inl k ↦ p.before i j li lj (inr (h.0, k)) nonzero
          | inr k ↦ let q : j ≡ column = let a = h.1 in omega arith in elim why [
            | inl zero ↦ absurd (nonzero (ap₂ (entry m) h.0 q ∙ zero))
            | inr one ↦ subst (λ (x : ℕ). AreTogether m x (height m + j)) (sym h.0) (subst (λ (x : ℕ). AreTogether m row (height m + x)) (sym q) (p.linked.labelled row (height m + column) (omega arith) (omega arith) one))
          ]
        ]
      ];
    }

    -- a nonzero without good seed joins its labels
    pub passed_joined : row < height m → column < m.width → entry m row column ≢ pos 0 → HasNoGoodSeed m row column
        → (joined : List ℕ) → joined ≡ map (λ label. cond (nat_eq label (get_or labels row 0)) (get_or labels (height m + column) 0) label) labels
        → ArePassed m row (column + 1) joined
    passed_joined lr lc nonzero none joined made =
        let new = λ (label : ℕ). cond (nat_eq label (get_or labels row 0)) (get_or labels (height m + column) 0) label in
        let count : length joined ≡ length labels = ap (λ (xs : List ℕ). length xs) made ∙ length-map labels new in
        let is : (k : ℕ) → k < length labels → get_or joined k 0 ≡ new (get_or labels k 0) = λ k l. ap (λ (xs : List ℕ). get_or xs k 0) made ∙ get_or-map new labels k 0 0 l in
        let here = together_from_none m p.matrix row column lr lc nonzero none in
        record {
          matrix = p.matrix;
          linked = record {
            count = count ∙ p.linked.count;
            labelled = λ x y hx hy e. labelled here x y hx hy (nat_eq (get_or labels x 0) (get_or labels row 0)) (nat_eq (get_or labels y 0) (get_or labels row 0)) refl refl
                (sym (is x (let a = p.linked.count in omega arith)) ∙ (e ∙ is y (let a = p.linked.count in omega arith)));
          };
          before = λ i j li lj b other. elim b [
            | inl l ↦ p.before i j li lj (inl l) other
            | inr h ↦ elim (cases_lt j column) [
              | inl k ↦ p.before i j li lj (inr (h.0, k)) other
              | inr k ↦ let q : j ≡ column = let a = h.1 in omega arith in
                  subst (λ (x : ℕ). AreTogether m x (height m + j)) (sym h.0) (subst (λ (x : ℕ). AreTogether m row (height m + x)) (sym q) here)
            ]
          ];
        }
      where
        eq : (a b : ℕ) → nat_eq a b ≡ true → a ≡ b
        eq a b e = grind (arith, nat_tests)

        labelled : AreTogether m row (height m + column) → (x y : ℕ) → x < height m + m.width → y < height m + m.width → (s t : Bool)
            → nat_eq (get_or labels x 0) (get_or labels row 0) ≡ s → nat_eq (get_or labels y 0) (get_or labels row 0) ≡ t
            → cond s (get_or labels (height m + column) 0) (get_or labels x 0) ≡ cond t (get_or labels (height m + column) 0) (get_or labels y 0) → AreTogether m x y
        labelled here x y hx hy true true f g e i j side s = p.linked.labelled x y hx hy (eq (get_or labels x 0) (get_or labels row 0) f ∙ sym (eq (get_or labels y 0) (get_or labels row 0) g)) i j side s
        labelled here x y hx hy false false f g e i j side s = p.linked.labelled x y hx hy e i j side s
        labelled here x y hx hy true false f g e i j side s =
            p.linked.labelled x row hx (omega arith) (eq (get_or labels x 0) (get_or labels row 0) f) i j side s
            ∙ here i j side s
            ∙ p.linked.labelled (height m + column) y (omega arith) hy e i j side s
        labelled here x y hx hy false true f g e i j side s =
            p.linked.labelled x (height m + column) hx (omega arith) e i j side s
            ∙ sym (here i j side s)
            ∙ p.linked.labelled row y (omega arith) hy (sym (eq (get_or labels y 0) (get_or labels row 0) g)) i j side s

    pub passed_row : m.width ≤ column → ArePassed m (row + 1) 0 labels
    passed_row full = record {
      matrix = p.matrix;
      linked = p.linked;
      before = λ i j li lj b nonzero. elim b [
        | inl l ↦ elim (cases_lt i row) [
          | inl k ↦ p.before i j li lj (inl k) nonzero
          | inr k ↦ p.before i j li lj (inr ((let q : i ≡ row = omega arith in q), (omega arith))) nonzero
        ]
        | inr h ↦ absurd (let l = h.1 in omega arith)
      ];
    }

    pub none_left : height m ≤ row → HasNoTwoSeparation m
    none_left full i j side s =
        let li = first_lines_contain (height m) i s.two.0.0 in
        let lj = first_lines_contain m.width j s.one.0.0 in
        parted m p.matrix i j side li lj (p.before i j li lj (inl (omega arith)) s.nonzero) s
