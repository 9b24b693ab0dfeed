-- A connected part of all lines of a matrix is a component.
use Rattle.std.proofs.Common.{◌≡◌, ◌≢◌, ◌∙◌, inl, inr, ℕ, pos, Bool, true, false, List, [], ◌∷◌, filter, refl, ap, sym, subst, arith}
use Rattle.std.specs.Prelude.{not}
use Rattle.std.specs.List.{Contains}
use Rattle.cmr_base.specs.declared.line.Line.{Line}
use Rattle.cmr_base.specs.declared.line.Line.TheVariants.{Row, Column}
use Rattle.cmr_base.specs.Components.{HasSome, IsApart, IsComponent}
use Rattle.cmr_base.specs.LineSets.{first_lines}
use Rattle.cmr_base.specs.Matrix.{Matrix, entry, height, is_nonzero}
use Rattle.cmr_base.specs.Reductions.{HasLine}
use Rattle.cmr_base.specs.Seeds.{IsLine}
use Rattle.cmr_base.specs.Separations.{Lines, listed}
use Rattle.cmr_base.proofs.Booleans.{is_not, nonzero_is, not_both, not_is, two_cases, zero_is}
use Rattle.cmr_base.proofs.ListedLines.{first_lines_contain, has_line_from_listed, listed_from_has_line}
use Rattle.cmr_base.proofs.Lists.{contains_first}
use Rattle.cmr_base.proofs.ListsWithout.{contains_from_in, in_from_contains}
use Rattle.cmr_base.proofs.RowLists.{filter_in, in_filter}
use Rattle.part_numbers.specs.ConnectedParts.{AreApartWithin, IsConnectedPart}

in_chosen : (test : ℕ → Bool) (lines : List ℕ) (line : ℕ) → Contains (filter test lines) line → Contains lines line × (test line ≡ true)
in_chosen test lines line h =
    let both = in_filter test line lines (in_from_contains (filter test lines) line h) in
    (contains_from_in lines line both.0, both.1)

chosen_in : (test : ℕ → Bool) (lines : List ℕ) (line : ℕ) → Contains lines line → test line ≡ true → Contains (filter test lines) line
chosen_in test lines line h e = contains_from_in (filter test lines) line (filter_in test line lines (in_from_contains lines line h) e)

module _ (m : Matrix) (rows columns : List ℕ) (is : IsConnectedPart (entry m) (first_lines (height m)) (first_lines m.width) rows columns) where
  -- tests that agree at each nonzero
  abbrev Agree : (row_test column_test : ℕ → Bool) → Type 0
  Agree row_test column_test = (row column : ℕ) → Contains (first_lines (height m)) row → Contains (first_lines m.width) column → entry m row column ≢ pos 0 → row_test row ≡ column_test column

  chosen_apart : (row_test column_test : ℕ → Bool) → Agree row_test column_test
      → AreApartWithin (entry m) (first_lines (height m)) (first_lines m.width) (filter row_test rows) (filter column_test columns)
  chosen_apart row_test column_test agree row column in_rows in_columns n =
      let both = is.apart row column in_rows in_columns n in
      let same = agree row column in_rows in_columns n in (
        λ h. let there = in_chosen row_test rows row h in chosen_in column_test columns column (both.0 there.0) (sym same ∙ there.1),
        λ h. let there = in_chosen column_test columns column h in chosen_in row_test rows row (both.1 there.0) (same ∙ there.1),
      )

  module _ (other : Lines) (apart : IsApart (height m) m.width (entry m) other) (some : HasSome (height m) m.width other)
      (within : (line : Line) → IsLine (height m) m.width line → other line ≡ true → listed rows columns line ≡ true) where
    sides_agree : Agree (λ row. other (Row row)) (λ column. other (Column column))
    sides_agree row column in_rows in_columns n = go (other (Row row)) (other (Column column)) refl refl
      where
        go : (a b : Bool) → other (Row row) ≡ a → other (Column column) ≡ b → other (Row row) ≡ other (Column column)
        go true true e f = e ∙ sym f
        go true false e f = absurd (n (apart.upper row column in_rows in_columns e f))
        go false true e f = absurd (n (apart.lower row column in_rows in_columns e f))
        go false false e f = e ∙ sym f

    -- a row of the part is in the other set
    all_if_row : (row : ℕ) → Contains (filter (λ r. other (Row r)) rows) row → (line : Line) → HasLine rows columns line → other line ≡ true
    all_if_row row h line has = go line has
      where
        all : ((r : ℕ) → Contains rows r → Contains (filter (λ r. other (Row r)) rows) r) × ((c : ℕ) → Contains columns c → Contains (filter (λ c. other (Column c)) columns) c)
        all = is.least (filter (λ r. other (Row r)) rows) (filter (λ c. other (Column c)) columns) row
            (chosen_apart (λ r. other (Row r)) (λ c. other (Column c)) sides_agree) (in_chosen (λ r. other (Row r)) rows row h).0 h

        go : (line : Line) → HasLine rows columns line → other line ≡ true
        go (Row r) g = (in_chosen (λ r. other (Row r)) rows r (all.0 r g)).1
        go (Column c) g = (in_chosen (λ c. other (Column c)) columns c (all.1 c g)).1

    -- otherwise the other lines of the part would be apart
    none_without_row : ((row : ℕ) → Contains rows row → other (Row row) ≡ false) → (line : Line) → HasLine rows columns line → other line ≡ true → ⊥
    none_without_row no_row line has = go line has
      where
        all : ((r : ℕ) → Contains rows r → Contains (filter (λ r. not (other (Row r))) rows) r)
            × ((c : ℕ) → Contains columns c → Contains (filter (λ c. not (other (Column c))) columns) c)
        all = is.least (filter (λ r. not (other (Row r))) rows) (filter (λ c. not (other (Column c))) columns) is.some.0
            (chosen_apart (λ r. not (other (Row r))) (λ c. not (other (Column c))) (λ row column in_rows in_columns n. ap not (sides_agree row column in_rows in_columns n)))
            is.some.1 (chosen_in (λ r. not (other (Row r))) rows is.some.0 is.some.1 (is_not (other (Row is.some.0)) (no_row is.some.0 is.some.1)))

        go : (line : Line) → HasLine rows columns line → other line ≡ true → ⊥
        go (Row r) g e = not_both (other (Row r)) e (no_row r g)
        go (Column c) g e = not_both (other (Column c)) e (not_is (other (Column c)) (in_chosen (λ c. not (other (Column c))) columns c (all.1 c g)).1)

    within_other : (line : Line) → HasLine rows columns line → other line ≡ true
    within_other = go (filter (λ r. other (Row r)) rows) refl
      where
        go : (chosen : List ℕ) → filter (λ r. other (Row r)) rows ≡ chosen → (line : Line) → HasLine rows columns line → other line ≡ true
        go (row ∷ chosen) e = all_if_row row (subst (λ (lines : List ℕ). Contains lines row) (sym e) (contains_first row chosen))
        go [] e = absurd (none_without_row no_row some.0 (has_line_from_listed rows columns some.0 (within some.0 some.1 some.2)) some.2)
          where
            no_row : (row : ℕ) → Contains rows row → other (Row row) ≡ false
            no_row row h = elim (two_cases (other (Row row))) [
              | inl t ↦ absurd (let below = (subst (λ (lines : List ℕ). Contains lines row) e (chosen_in (λ r. other (Row r)) rows row h t)).1 in omega (arith, below))
              | inr f ↦ f
            ]

  zero_entry : (row column : ℕ) → ((entry m row column ≢ pos 0) → ⊥) → entry m row column ≡ pos 0
  zero_entry row column no_nonzero = elim (two_cases (is_nonzero (entry m row column))) [
    | inl t ↦ absurd (no_nonzero (nonzero_is (entry m row column) t))
    | inr f ↦ zero_is (entry m row column) f
  ]

  pub whole_part : IsComponent (height m) m.width (entry m) (listed rows columns)
  whole_part = record {
    apart = record {
      upper = λ row column in_rows in_columns h g. zero_entry row column (λ n. not_both (listed rows columns (Column column))
          (listed_from_has_line rows columns (Column column) ((is.apart row column in_rows in_columns n).0 (has_line_from_listed rows columns (Row row) h))) g);
      lower = λ row column in_rows in_columns h g. zero_entry row column (λ n. not_both (listed rows columns (Row row))
          (listed_from_has_line rows columns (Row row) ((is.apart row column in_rows in_columns n).1 (has_line_from_listed rows columns (Column column) g))) h);
    };
    some = (
      Row is.some.0,
      first_lines_contain (height m) is.some.0 (is.rows_within is.some.0 is.some.1),
      listed_from_has_line rows columns (Row is.some.0) is.some.1,
    );
    least = λ other apart some within line inside h. within_other other apart some within line (has_line_from_listed rows columns line h);
  }
