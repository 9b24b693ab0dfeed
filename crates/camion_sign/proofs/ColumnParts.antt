-- Labels of columns: columns that a path connects have one label.
use Rattle.std.proofs.Common.{◌≡◌, ◌≢◌, ◌∙◌, ◌<◌, ◌≤◌, ◌+◌, ℕ, Bool, true, false, cond, nat_eq, pos, List, [], ◌∷◌, map, length, get_or, inl, inr, refl, sym, ap, subst, arith}
use Rattle.std.proofs.lemmas.Bool.{cases_lt}
use Rattle.std.proofs.lemmas.List.{get_or-map, length-map}
use Rattle.cmr_base.specs.Matrix.{Matrix, height, entry, IsMatrix}
use Rattle.cmr_base.specs.CyclePlaces.{IsPath}
use Rattle.cmr_base.specs.Trees.{support}
use Rattle.cmr_base.proofs.RowLists.{is_eq}
use Rattle.camion_sign.specs.declared.column_parts.ColumnParts.{ColumnParts}
use Rattle.camion_sign.specs.ColumnParts.{AreJoinedBefore, HasPartsBefore}
use Rattle.camion_sign.proofs.Steps.{column_after, row_zero, within}

-- the ends of a path have one label
pub one_part : (m : Matrix) (t : ℕ) (labels : List ℕ) → AreJoinedBefore m t labels → (c d : ℕ) (lines : List ℕ) → IsPath (entry m) t c d lines → get_or labels c 0 ≡ get_or labels d 0
one_part m t labels joined c d [] path = absurd path
one_part m t labels joined c d (r ∷ []) (l, a, b) = joined r c d l a b
one_part m t labels joined c d (r ∷ j ∷ lines) (l, a, b, z, more) = joined r c j l a b ∙ one_part m t labels joined j d lines more

-- the columns before `from` in which the row is not 0 have one label, and so have those that an earlier row joins
pub record AreJoining (m : Matrix) (row from kept : ℕ) (labels : List ℕ) : Type 0 where
  pub long : length labels ≡ m.width
  pub joined : AreJoinedBefore m row labels
  pub here : (x : ℕ) → x < from → entry m row x ≢ pos 0 → get_or labels x 0 ≡ kept

-- the first column of the row
pub first_label : (m rows : Matrix) (row first kept : ℕ) (parts : ColumnParts) → HasPartsBefore m row parts → rows ≡ m
    → ((x : ℕ) → 0 ≤ x → x < first → support rows row x ≡ false) → get_or parts.labels.items first 0 ≡ kept
    → AreJoining m row (first + 1) kept parts.labels.items
first_label m rows row first kept parts w same zeros is_kept = record {
  long = w.one_each;
  joined = w.joined;
  here = column_after m rows row 0 first (λ (x : ℕ). get_or parts.labels.items x 0 ≡ kept) same zeros (λ x l one. omega (arith, l)) is_kept;
}

module _ (m rows : Matrix) (row from column kept : ℕ) (labels : List ℕ) (is : IsMatrix m) (tall : row < height m) (same : rows ≡ m) (zeros : (x : ℕ) → from ≤ x → x < column → support rows row x ≡ false) (w : AreJoining m row from kept labels) where
  -- the next column has the label already
  pub same_label : get_or labels column 0 ≡ kept → AreJoining m row (column + 1) kept labels
  same_label e = record { long = w.long; joined = w.joined; here = column_after m rows row from column (λ (x : ℕ). get_or labels x 0 ≡ kept) same zeros w.here e }

  -- it gets the label now
  module _ (label : ℕ) (more : List ℕ) (inside : column < length labels) (label_is : get_or labels column 0 ≡ label) (made : more ≡ map (λ l. cond (nat_eq l label) kept l) labels) where
    at : (x : ℕ) → x < length labels → get_or more x 0 ≡ cond (nat_eq (get_or labels x 0) label) kept (get_or labels x 0)
    at x l = ap (λ (ls : List ℕ). get_or ls x 0) made ∙ get_or-map (λ l. cond (nat_eq l label) kept l) labels x 0 0 l

    kept_stays : (b : Bool) → cond b kept kept ≡ kept
    kept_stays true = refl
    kept_stays false = refl

    in_labels : (r x : ℕ) → r < height m → entry m r x ≢ pos 0 → x < length labels
    in_labels r x l one = omega (arith, within m r x is l one, w.long)

    pub new_label : AreJoining m row (column + 1) kept more
    new_label = record {
      long = ap length made ∙ length-map labels (λ l. cond (nat_eq l label) kept l) ∙ w.long;
      joined = λ r x y l a b.
          at x (in_labels r x (omega (arith, l, tall)) a)
          ∙ ap (λ z. cond (nat_eq z label) kept z) (w.joined r x y l a b)
          ∙ sym (at y (in_labels r y (omega (arith, l, tall)) b));
      here = column_after m rows row from column (λ (x : ℕ). get_or more x 0 ≡ kept) same zeros
          (λ x l one. at x (in_labels row x tall one) ∙ ap (λ z. cond (nat_eq z label) kept z) (w.here x l one) ∙ kept_stays (nat_eq kept label))
          (at column inside ∙ ap (λ b. cond b kept (get_or labels column 0)) (is_eq (get_or labels column 0) label label_is));
    }

-- all columns of the row have one label
all_joined : (m : Matrix) (row kept : ℕ) (parts : ColumnParts) → IsMatrix m → length parts.labels.items ≡ m.width → AreJoinedBefore m row parts.labels.items
    → ((x : ℕ) → entry m row x ≢ pos 0 → get_or parts.labels.items x 0 ≡ kept)
    → HasPartsBefore m (row + 1) parts
all_joined m row kept parts is long before here = record {
  matrix = is;
  one_each = long;
  joined = λ r x y l a b. elim (cases_lt r row) [
    | inl lt ↦ before r x y lt a b
    | inr ge ↦ let q : r ≡ row = omega (arith, l, ge) in here x (subst (λ i. entry m i x ≢ pos 0) q a) ∙ sym (here y (subst (λ i. entry m i y ≢ pos 0) q b))
  ];
}

-- no column of the row is left
pub row_joined : (m rows : Matrix) (row from kept : ℕ) (parts : ColumnParts) → IsMatrix m → rows ≡ m → ((x : ℕ) → from ≤ x → support rows row x ≡ false)
    → AreJoining m row from kept parts.labels.items → HasPartsBefore m (row + 1) parts
row_joined m rows row from kept parts is same zeros w = all_joined m row kept parts is w.long w.joined (λ x one. elim (cases_lt x from) [
  | inl low ↦ w.here x low one
  | inr high ↦ absurd (one (row_zero m rows row x same (zeros x high)))
])

-- a row of zeros joins nothing
pub no_more_joined : (m rows : Matrix) (row : ℕ) (parts : ColumnParts) → rows ≡ m → ((x : ℕ) → 0 ≤ x → support rows row x ≡ false) → HasPartsBefore m row parts → HasPartsBefore m (row + 1) parts
no_more_joined m rows row parts same zeros w = all_joined m row 0 parts w.matrix w.one_each w.joined (λ x one. absurd (one (row_zero m rows row x same (zeros x (omega arith)))))
