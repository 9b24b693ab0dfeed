-- Labels of lines as a list, and the tests of steps by labels.
use Rattle.std.proofs.Common.{◌≡◌, ◌≢◌, ◌∙◌, ◌<◌, ◌↔◌, ◌+◌, ℕ, ℤ, pos, Bool, true, false, not, cond, nat_eq, List, [], ◌∷◌, map, length, get_or, inl, inr, refl, sym, ap, subst, arith}
use Rattle.std.proofs.lemmas.List.{get_or-map, length-map}
use Rattle.cmr_base.specs.Matrix.{Matrix, height, entry, with_entry, IsMatrix}
use Rattle.cmr_base.specs.Signing.{IsSign}
use Rattle.cmr_base.specs.declared.line.Line.{Line}
use Rattle.cmr_base.specs.declared.line.Line.TheVariants.{Row, Column}
use Rattle.cmr_base.proofs.RowLists.{is_eq, is_ne, eq_of}
use Rattle.cmr_base.proofs.Booleans.{true_is_false}
use Rattle.ghouila.proofs.SignProducts.{sign_nonzero}
use Rattle.ghouila.proofs.SignsUnique.{row_in, column_in}
use Rattle.chains.specs.declared.step.SignStep.{SignStep}
use Rattle.chains.specs.SignSteps.{AreSigns, IsUnsignedOne, step_row, step_column, unsigned}
use Rattle.chains.specs.Chains.{AreJoined, JoinsTo, AreLinked, IsFreeStep}
use Rattle.chains.specs.ChainStates.{AreLabels, label_place, label_in}
use Rattle.chains.proofs.ChainViolators.{entry-unsigned}
use Rattle.chains.proofs.GivenSigns.{HasOneMore, one_more, signs_more, here_or, keeps, joined_on, links_more}
use Rattle.cmr_base.specs.Components.{IsLineOf}

place_inside : (a : Matrix) (labels : List ℕ) (x : Line) → length labels ≡ height a + a.width → IsLineOf a x → label_place a x < length labels
place_inside a labels (Row row) e l = omega arith
place_inside a labels (Column column) e l = omega arith

one_place : (a : Matrix) (x y : Line) → IsLineOf a x → IsLineOf a y → label_place a x ≡ label_place a y → x ≡ y
one_place a (Row i) (Row k) l m e = ap Row e
one_place a (Row i) (Column k) l m e = absurd (omega arith)
one_place a (Column i) (Row k) l m e = absurd (omega arith)
one_place a (Column i) (Column k) l m e = let same : i ≡ k = omega arith in ap Column same

-- if no entry is signed, each line has its own label
pub own_labels_are : (a : Matrix) (labels : List ℕ) → length labels ≡ height a + a.width → ((k : ℕ) → k < length labels → get_or labels k 0 ≡ k) → AreLabels a (unsigned a) labels
own_labels_are a labels long own = record {
  one_each = long;
  joined = λ i k h. absurd (h (entry-unsigned a i k));
  linked = λ x y l m e. ([], one_place a x y l m (sym (own (label_place a x) (place_inside a labels x long l)) ∙ e ∙ own (label_place a y) (place_inside a labels y long m)));
}

-- linked lines have one label
one_label : (a s : Matrix) (labels : List ℕ) → AreLabels a s labels → (x y : Line) → AreJoined s x y → label_in a labels x ≡ label_in a labels y
one_label a s labels w (Row i) (Row k) j = absurd j
one_label a s labels w (Row i) (Column k) j = w.joined i k j
one_label a s labels w (Column k) (Row i) j = sym (w.joined i k j)
one_label a s labels w (Column k) (Column i) j = absurd j

linked_label : (a s : Matrix) (labels : List ℕ) → AreLabels a s labels → (lines : List Line) (x y : Line) → JoinsTo s x lines y → label_in a labels x ≡ label_in a labels y
linked_label a s labels w [] x y e = ap (label_in a labels) e
linked_label a s labels w (k ∷ lines) x y (j, rest) = one_label a s labels w x k j ∙ linked_label a s labels w lines k y rest

-- a step is free if and only if the labels differ
pub free_by_labels : (a s : Matrix) (labels : List ℕ) (row column : ℕ) → AreLabels a s labels → row < height a → column < a.width → IsUnsignedOne a s row column
    → (label_in a labels (Row row) ≢ label_in a labels (Column column)) → IsFreeStep a s row column
free_by_labels a s labels row column w l m here differ = record { here = here; apart = λ links. differ (linked_label a s labels w links.0 (Row row) (Column column) links.1) }

pub free_labels : (a s : Matrix) (labels : List ℕ) (row column : ℕ) → AreLabels a s labels → row < height a → column < a.width → IsFreeStep a s row column
    → label_in a labels (Row row) ≢ label_in a labels (Column column)
free_labels a s labels row column w l m free e = free.apart (w.linked (Row row) (Column column) l m e)

module _ (a s t : Matrix) (labels more_labels : List ℕ) (r c : ℕ) (v : ℤ) (u : IsSign v) (more : HasOneMore s t r c v) (signs : AreSigns a t) (w : AreLabels a s labels) (r_in : r < height a) (c_in : c < a.width)
    (made : more_labels ≡ map (λ l. cond (nat_eq l (label_in a labels (Column c))) (label_in a labels (Row r)) l) labels) where
  new_label : (x : Line) → IsLineOf a x → label_in a more_labels x ≡ cond (nat_eq (label_in a labels x) (label_in a labels (Column c))) (label_in a labels (Row r)) (label_in a labels x)
  new_label x l = ap (λ ls. get_or ls (label_place a x) 0) made ∙ get_or-map (λ k. cond (nat_eq k (label_in a labels (Column c))) (label_in a labels (Row r)) k) labels (label_place a x) 0 0 (place_inside a labels x w.one_each l)

  at_row : cond (nat_eq (label_in a labels (Row r)) (label_in a labels (Column c))) (label_in a labels (Row r)) (label_in a labels (Row r)) ≡ label_in a labels (Row r)
  at_row = go (nat_eq (label_in a labels (Row r)) (label_in a labels (Column c)))
    where
      go : (b : Bool) → cond b (label_in a labels (Row r)) (label_in a labels (Row r)) ≡ label_in a labels (Row r)
      go true = refl
      go false = refl

  at_column : cond (nat_eq (label_in a labels (Column c)) (label_in a labels (Column c))) (label_in a labels (Row r)) (label_in a labels (Column c)) ≡ label_in a labels (Row r)
  at_column = ap (λ b. cond b (label_in a labels (Row r)) (label_in a labels (Column c))) (is_eq (label_in a labels (Column c)) (label_in a labels (Column c)) refl)

  joined : (i j : ℕ) → entry t i j ≢ pos 0 → label_in a more_labels (Row i) ≡ label_in a more_labels (Column j)
  joined i j h = new_label (Row i) (let l = row_in t i j h in let e = signs.same_height in omega arith)
      ∙ elim (here_or i j r c) [
        | inl p ↦ ap (λ x. cond (nat_eq (label_in a labels (Row x)) (label_in a labels (Column c))) (label_in a labels (Row r)) (label_in a labels (Row x))) p.0 ∙ at_row
            ∙ sym (ap (λ y. cond (nat_eq (label_in a labels (Column y)) (label_in a labels (Column c))) (label_in a labels (Row r)) (label_in a labels (Column y))) p.1 ∙ at_column)
        | inr d ↦ ap (λ l. cond (nat_eq l (label_in a labels (Column c))) (label_in a labels (Row r)) l) (w.joined i j (λ e. h (more.other i j d ∙ e)))
      ]
      ∙ sym (new_label (Column j) (let l = column_in t i j signs.ternary.rectangular h in let e = signs.same_width in omega arith))

  old_links : (x y : Line) → IsLineOf a x → IsLineOf a y → label_in a labels x ≡ label_in a labels y → AreLinked t x y
  old_links x y l m e = let k = w.linked x y l m e in (k.0, links_more s t (keeps s t r c v u more) k.0 x y k.1)

  edge : entry t r c ≢ pos 0
  edge e = sign_nonzero v u (sym more.here ∙ e)

  linked : (x y : Line) → IsLineOf a x → IsLineOf a y → label_in a more_labels x ≡ label_in a more_labels y → AreLinked t x y
  linked x y l m e = go (nat_eq (label_in a labels x) (label_in a labels (Column c))) (nat_eq (label_in a labels y) (label_in a labels (Column c))) refl refl (sym (new_label x l) ∙ e ∙ new_label y m)
    where
      go : (b d : Bool) → nat_eq (label_in a labels x) (label_in a labels (Column c)) ≡ b → nat_eq (label_in a labels y) (label_in a labels (Column c)) ≡ d
          → cond b (label_in a labels (Row r)) (label_in a labels x) ≡ cond d (label_in a labels (Row r)) (label_in a labels y) → AreLinked t x y
      go true true p q e = old_links x y l m (eq_of (label_in a labels x) (label_in a labels (Column c)) p ∙ sym (eq_of (label_in a labels y) (label_in a labels (Column c)) q))
      go false false p q e = old_links x y l m e
      go true false p q e =
          let f = old_links x (Column c) l c_in (eq_of (label_in a labels x) (label_in a labels (Column c)) p) in
          let g = old_links (Row r) y r_in m e in
          joined_on t f.0 x (Column c) y f.1 (Row r ∷ g.0, (edge, g.1))
      go false true p q e =
          let f = old_links x (Row r) l r_in e in
          let g = old_links (Column c) y c_in m (sym (eq_of (label_in a labels y) (label_in a labels (Column c)) q)) in
          joined_on t f.0 x (Row r) y f.1 (Column c ∷ g.0, (edge, g.1))

  pub labels_more : AreLabels a t more_labels
  labels_more = record { one_each = ap length made ∙ length-map labels (λ l. cond (nat_eq l (label_in a labels (Column c))) (label_in a labels (Row r)) l) ∙ w.one_each; joined = joined; linked = linked }

pub differ_test : (x y z : ℕ) → y ≡ z → (not (nat_eq x y) ≡ true) ↔ (x ≢ z)
differ_test x y z e = ((λ h f. true_is_false (sym h ∙ ap not (is_eq x y (f ∙ sym e)))), (λ d. ap not (is_ne x y (λ f. d (f ∙ e)))))

-- after another sign
labels_given : (a s t : Matrix) (labels made : List ℕ) (row column n : ℕ) (v : ℤ) → IsMatrix a → AreSigns a s → IsUnsignedOne a s row column → IsSign v
    → AreLabels a s labels → t ≡ with_entry s row column v → n ≡ height a
    → made ≡ map (λ l. cond (nat_eq l (get_or labels (n + column) 0)) (get_or labels row 0) l) labels → AreLabels a t made
labels_given a s t labels made row column n v is signs here u w e f g =
    subst (λ x. AreLabels a x made) (sym e) (labels_more a s (with_entry s row column v) labels made row column v u (one_more a s is.rectangular signs row column v here.one) (signs_more a s is.rectangular signs row column v here.one u) w
    (row_in a row column here.one) (column_in a row column is.rectangular here.one)
    (subst (λ k. made ≡ map (λ l. cond (nat_eq l (get_or labels (k + column) 0)) (get_or labels row 0) l) labels) f g))

-- if a step keeps its rule
pub step_labels : (a s t : Matrix) (labels made : List ℕ) (step : SignStep) (row column n : ℕ) (v : ℤ) → IsMatrix a → AreSigns a s
    → IsUnsignedOne a s (step_row step) (step_column step) → IsSign v → AreLabels a s labels
    → row ≡ step_row step → column ≡ step_column step → t ≡ with_entry s row column v → n ≡ height a
    → made ≡ map (λ l. cond (nat_eq l (get_or labels (n + column) 0)) (get_or labels row 0) l) labels → AreLabels a t made
step_labels a s t labels made step row column n v is signs here u w e f g h k =
    labels_given a s t labels made row column n v is signs (subst (λ i. IsUnsignedOne a s i column) (sym e) (subst (λ j. IsUnsignedOne a s (step_row step) j) (sym f) here)) u w g h k
