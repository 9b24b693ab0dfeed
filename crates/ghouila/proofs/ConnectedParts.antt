-- A matrix has no violator if and only if none of its parts has one.
use Rattle.std.proofs.Common.{◌≡◌, ◌≢◌, ◌<◌, ◌⊎◌, inl, inr, ◌∙◌, ℕ, zero, suc, ℤ, pos, Bool, true, false, List, [], ◌∷◌, ◌+ℤ◌, length, slice_index_or, sym, subst, refl, arith}
use Rattle.std.proofs.lemmas.Bool.{false≢true}
use Rattle.std.proofs.lemmas.List.{get_or_default}
use Rattle.std.specs.List.{AllByRecursion, Contains}
use Rattle.cmr_base.specs.declared.line.Line.TheVariants.{Row, Column}
use Rattle.cmr_base.specs.declared.line_set.LineSet.{LineSet}
use Rattle.cmr_base.specs.Matrix.{Matrix, height, entry}
use Rattle.cmr_base.specs.LineSets.{first_lines, submatrix}
use Rattle.cmr_base.specs.Sums.{sum_over, IsTwoModFour}
use Rattle.cmr_base.specs.Violator.{HasNoViolator}
use Rattle.cmr_base.specs.Separations.{listed}
use Rattle.cmr_base.specs.Components.{part_at, AreComponents, ArePartsOf}
use Rattle.cmr_base.proofs.Integers.{sums}
use Rattle.cmr_base.proofs.RowLists.{two_cases}
use Rattle.cmr_base.proofs.ListedLines.{has_line_from_listed, listed_from_has_line, contains_first_lines, first_lines_contain}
use Rattle.ghouila.proofs.ViolatedLines.{ViolatedIn, FreeIn, narrower, widened, free_from_none, none_from_free, free_from_submatrix, submatrix_from_free}
use Rattle.ghouila.proofs.Sides.{On}
use Rattle.ghouila.proofs.JoinedSides.{joined}

-- the blocks between the two sides are zero
pub one_children : (M : ℕ → ℕ → ℤ) (P Q : ℕ → Type 0) (sr sc : ℕ → Bool) → ((r c : ℕ) → On P sr true r → On Q sc false c → M r c ≡ pos 0)
    → ((r c : ℕ) → On P sr false r → On Q sc true c → M r c ≡ pos 0)
    → ViolatedIn M P Q → ViolatedIn M (On P sr true) (On Q sc true) ⊎ ViolatedIn M (On P sr false) (On Q sc false)
one_children M P Q sr sc right below = joined M M M P Q sr sc (λ x. x) (λ x. x) (λ x. x) (λ x. x) (λ r. pos 0) (λ c. pos 0) (λ c. pos 0) (λ r. pos 0) (pos 1)
    (On P sr true) (On Q sc true) (On P sr false) (On Q sc false) (On P sr true) (On Q sc true) (On P sr false) (On Q sc false)
    (record {
      one = λ r x _ _ _ _. refl;
      right = λ r x p q e f. right r x (p, e) (q, f);
      below = λ r x p q e f. below r x (p, e) (q, f);
      two = λ r x _ _ _ _. refl;
    })
    (record {
      one_row = λ r p e. (p, e);
      one_column = λ r p e. (p, e);
      two_row = λ r p e. (p, e);
      two_column = λ r p e. (p, e);
      first_row = λ r h. h;
      first_column = λ r h. h;
      second_row = λ r h. h;
      second_column = λ r h. h;
    })
    (inl refl)
    (λ s t w no none. record {
      row = 0;
      column = 0;
      row_sign = pos 1;
      column_sign = pos 1;
      row_unit = inl refl;
      column_unit = inl refl;
      in_row = λ h. absurd (no h (λ _. refl));
      in_column = λ h. absurd (none h (λ _. refl));
      left = λ h z _. absurd (no h (λ _. refl));
      top = λ h r _. absurd (none h (λ _. refl));
      corner = λ h _. absurd (no h (λ _. refl));
    })
    (λ s t w no none. record {
      row = 0;
      column = 0;
      row_sign = pos 1;
      column_sign = pos 1;
      row_unit = inl refl;
      column_unit = inl refl;
      in_row = λ h. absurd (no h (λ _. refl));
      in_column = λ h. absurd (none h (λ _. refl));
      left = λ h z _. absurd (no h (λ _. refl));
      top = λ h r _. absurd (none h (λ _. refl));
      corner = λ h _. absurd (no h (λ _. refl));
    })

none_empty : (M : ℕ → ℕ → ℤ) (P Q : ℕ → Type 0) → ((r : ℕ) → P r → ⊥) → ViolatedIn M P Q → ⊥
none_empty M P Q never v = go v.R v.rows v.violator.two_mod_four
  where
    go : (R : List ℕ) → AllByRecursion P R → IsTwoModFour (sum_over R (λ r. sum_over v.C (λ c. M r c))) → ⊥
    go [] h (k, e) = plain k e
      where
        plain : (k : ℤ) → pos 0 ≡ pos 2 +ℤ ((k +ℤ k) +ℤ (k +ℤ k)) → ⊥
        plain k e = omega (arith, sums)
    go (r ∷ R) h two = never r h.0

abbrev row_of_part : LineSet → ℕ → Bool
row_of_part part r = listed part.rows part.columns (Row r)

abbrev column_of_part : LineSet → ℕ → Bool
column_of_part part c = listed part.rows part.columns (Column c)

-- no nonzero of the rows and columns is in a line of the part and a line outside
record IsCutOff (M : ℕ → ℕ → ℤ) (P Q : ℕ → Type 0) (part : LineSet) : Type 0 where
  right : (r c : ℕ) → P r → Q c → row_of_part part r ≡ true → column_of_part part c ≡ false → M r c ≡ pos 0
  below : (r c : ℕ) → P r → Q c → row_of_part part r ≡ false → column_of_part part c ≡ true → M r c ≡ pos 0

module _ (M : ℕ → ℕ → ℤ) where
  -- all lines of some violator are in one part
  in_a_part : (parts : List LineSet) (P Q : ℕ → Type 0) → ((a : ℕ) → a < length parts → IsCutOff M P Q (part_at parts a))
      → ((r : ℕ) → P r → (a : ℕ) × (a < length parts) × Contains (part_at parts a).rows r) → ((c : ℕ) → Q c → (a : ℕ) × (a < length parts) × Contains (part_at parts a).columns c)
      → ViolatedIn M P Q → (a : ℕ) × (a < length parts) × ViolatedIn M (Contains (part_at parts a).rows) (Contains (part_at parts a).columns)
  in_a_part [] P Q cut rows columns v = absurd (none_empty M P Q (λ r p. let l = (rows r p).1 in omega arith) v)
  in_a_part (part ∷ parts) P Q cut rows columns v = elim (one_children M P Q (row_of_part part) (column_of_part part)
      (λ r c p q. (cut 0 (omega arith)).right r c p.0 q.0 p.1 q.1) (λ r c p q. (cut 0 (omega arith)).below r c p.0 q.0 p.1 q.1) v) [
        | inl w ↦ (
          0,
          omega arith,
          widened M (Contains part.rows) (Contains part.columns) (On P (row_of_part part) true) (On Q (column_of_part part) true)
              (λ r h. has_line_from_listed part.rows part.columns (Row r) h.1) (λ c h. has_line_from_listed part.rows part.columns (Column c) h.1) w,
        )
        | inr w ↦
            let more = in_a_part parts (On P (row_of_part part) false) (On Q (column_of_part part) false)
            (λ a l. let k = cut (suc a) (omega arith) in record { right = λ r c p q e f. k.right r c p.0 q.0 e f; below = λ r c p q e f. k.below r c p.0 q.0 e f })
            (λ r p. row_later r p.1 (rows r p.0)) (λ c q. column_later c q.1 (columns c q.0)) w in
            (suc more.0, (let l = more.1 in omega arith), more.2)
      ]
    where
      row_later : (r : ℕ) → row_of_part part r ≡ false → (a : ℕ) × (a < length (part ∷ parts)) × Contains (part_at (part ∷ parts) a).rows r
          → (a : ℕ) × (a < length parts) × Contains (part_at parts a).rows r
      row_later r e (zero, l, h) = absurd (false≢true (sym e ∙ listed_from_has_line part.rows part.columns (Row r) h))
      row_later r e (suc a, l, h) = (a, omega arith, h)

      column_later : (c : ℕ) → column_of_part part c ≡ false → (a : ℕ) × (a < length (part ∷ parts)) × Contains (part_at (part ∷ parts) a).columns c
          → (a : ℕ) × (a < length parts) × Contains (part_at parts a).columns c
      column_later c e (zero, l, h) = absurd (false≢true (sym e ∙ listed_from_has_line part.rows part.columns (Column c) h))
      column_later c e (suc a, l, h) = (a, omega arith, h)

module _ (m : Matrix) (rows columns : List ℕ) (parts : List LineSet) (are : ArePartsOf (entry m) rows columns parts) where
  not_here : (a b : ℕ) (s : Bool) → s ≡ false → (a ≡ b → s ≡ true) → a ≢ b
  not_here a b s e f g = false≢true (sym e ∙ f g)

  cut_off : (a : ℕ) → a < length parts → IsCutOff (entry m) (Contains rows) (Contains columns) (part_at parts a)
  cut_off a l = record {
    right = λ r c p q e f. let b = are.columns_all c q in
        are.zero a b.0 r c l b.1 (not_here a b.0 (column_of_part (part_at parts a) c) f (λ g. listed_from_has_line (part_at parts a).rows (part_at parts a).columns (Column c) (subst (λ (k : ℕ). Contains (part_at parts k).columns c) (sym g) b.2)))
        (has_line_from_listed (part_at parts a).rows (part_at parts a).columns (Row r) e) b.2;
    below = λ r c p q e f. let b = are.rows_all r p in
        are.zero b.0 a r c b.1 l (λ g. not_here a b.0 (row_of_part (part_at parts a) r) e (λ g. listed_from_has_line (part_at parts a).rows (part_at parts a).columns (Row r) (subst (λ (k : ℕ). Contains (part_at parts k).rows r) (sym g) b.2)) (sym g))
        b.2 (has_line_from_listed (part_at parts a).rows (part_at parts a).columns (Column c) f);
  }

  free_parts : (FreeIn (entry m) (Contains rows) (Contains columns) → (a : ℕ) → a < length parts → HasNoViolator (submatrix m (part_at parts a).rows (part_at parts a).columns))
      × (((a : ℕ) → a < length parts → HasNoViolator (submatrix m (part_at parts a).rows (part_at parts a).columns)) → FreeIn (entry m) (Contains rows) (Contains columns))
  free_parts = (
    λ free a l. submatrix_from_free m (part_at parts a).rows (part_at parts a).columns
        (narrower (entry m) (Contains rows) (Contains columns) (Contains (part_at parts a).rows) (Contains (part_at parts a).columns) (are.rows_within a l) (are.columns_within a l) free),
    λ none v. let w = in_a_part (entry m) parts (Contains rows) (Contains columns) cut_off are.rows_all are.columns_all v in
        free_from_submatrix m (part_at parts w.0).rows (part_at parts w.0).columns (none w.0 w.1) w.2,
  )

  pub parts_decide : (HasNoViolator (submatrix m rows columns) → (a : ℕ) → a < length parts → HasNoViolator (submatrix m (part_at parts a).rows (part_at parts a).columns))
      × (((a : ℕ) → a < length parts → HasNoViolator (submatrix m (part_at parts a).rows (part_at parts a).columns)) → HasNoViolator (submatrix m rows columns))
  parts_decide = (λ none. free_parts.0 (free_from_submatrix m rows columns none), λ none. submatrix_from_free m rows columns (free_parts.1 none))

parts_from_components : (m : Matrix) (parts : List LineSet) → AreComponents m parts → ArePartsOf (entry m) (first_lines (height m)) (first_lines m.width) parts
parts_from_components m parts are = record {
  rows_within = rows_within;
  columns_within = columns_within;
  rows_all = λ r h. are.all (Row r) (first_lines_contain (height m) r h);
  columns_all = λ c h. are.all (Column c) (first_lines_contain m.width c h);
  zero = λ a b r c l k apart h g. (are.components a l).apart.upper r c
      (rows_within a l r h) (columns_within b k c g)
      (listed_from_has_line (part_at parts a).rows (part_at parts a).columns (Row r) h)
      (elim (two_cases (column_of_part (part_at parts a) c)) [
        | inl e ↦ absurd (apart (are.once a b (Column c) l k (has_line_from_listed (part_at parts a).rows (part_at parts a).columns (Column c) e) g))
        | inr e ↦ e
      ]);
}
  where
    at_place : (xs : List ℕ) (x : ℕ) (h : Contains xs x) → slice_index_or xs h.0 0 ≡ x
    at_place xs x h = get_or_default xs h.0 0 x h.1 ∙ h.2

    rows_within : (a : ℕ) → a < length parts → (r : ℕ) → Contains (part_at parts a).rows r → Contains (first_lines (height m)) r
    rows_within a l r h = let k = (are.row_sets a l).in_range h.0 h.1 in contains_first_lines (height m) r (subst (λ (x : ℕ). x < height m) (at_place (part_at parts a).rows r h) k)

    columns_within : (a : ℕ) → a < length parts → (c : ℕ) → Contains (part_at parts a).columns c → Contains (first_lines m.width) c
    columns_within a l c h = let k = (are.column_sets a l).in_range h.0 h.1 in contains_first_lines m.width c (subst (λ (x : ℕ). x < m.width) (at_place (part_at parts a).columns c h) k)

pub components_decide : (m : Matrix) (parts : List LineSet) → AreComponents m parts
    → (HasNoViolator m → (a : ℕ) → a < length parts → HasNoViolator (submatrix m (part_at parts a).rows (part_at parts a).columns))
    × (((a : ℕ) → a < length parts → HasNoViolator (submatrix m (part_at parts a).rows (part_at parts a).columns)) → HasNoViolator m)
components_decide m parts are =
    let law = free_parts m (first_lines (height m)) (first_lines m.width) parts (parts_from_components m parts are) in (
      λ none. law.0 (narrower (entry m) (λ r. r < height m) (λ c. c < m.width) (Contains (first_lines (height m))) (Contains (first_lines m.width)) (first_lines_contain (height m)) (first_lines_contain m.width) (free_from_none m none)),
      λ none. none_from_free m (narrower (entry m) (Contains (first_lines (height m))) (Contains (first_lines m.width)) (λ r. r < height m) (λ c. c < m.width) (contains_first_lines (height m)) (contains_first_lines m.width) (law.1 none)),
    )
