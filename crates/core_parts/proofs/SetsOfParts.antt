-- Sets of the marked lines of each number, line by line.
use Rattle.std.proofs.Common.{◌≡◌, ◌≢◌, ◌<◌, ◌+◌, ◌++◌, ◌∙◌, inl, inr, take, ℕ, Bool, true, false, List, [], ◌∷◌, length, get_or, set, refl, ap, sym, subst, arith}
use Rattle.std.proofs.Math.Seq.{get_or-append_seam}
use Rattle.std.proofs.lemmas.Bool.{cases_lt}
use Rattle.std.proofs.lemmas.List.{get_or_append_left, get_or_default, get_or-set_other, get_or-set_same, get_or-take, length-append, length-set, length-take-le}
use Rattle.cmr_base.specs.declared.line_set.LineSet.{LineSet}
use Rattle.cmr_base.specs.Components.{no_lines, part_at}
use Rattle.cmr_base.specs.Indices.{IsAbove}
use Rattle.cmr_base.proofs.Booleans.{same_or_not, true_is_false, two_cases}
use Rattle.sparse_matrix.specs.LineMarks.{is_marked}
use Rattle.sparse_matrix.proofs.MarkedLines.{mark_inside}
use Rattle.part_numbers.specs.PartNumbering.{lines_of_part, part_number}
use Rattle.core_parts.specs.CoreParts.{IsAtPlace, place_at}
use Rattle.core_parts.specs.SetsOfParts.{ArePlacesBy, HaveColumns, HaveRows}
use Rattle.core_parts.proofs.PartLines.{part_below, part_other, part_unmarked, part_with}

-- the lists are those of the first marks
abbrev HaveLines : ℕ → (ℕ → List ℕ) → List Bool → List ℕ → Type 0
HaveLines count lists marks numbers = (part : ℕ) → part < count → lists part ≡ lines_of_part marks numbers part

module _ (marks : List Bool) (numbers : List ℕ) (k : ℕ) (below : k < length marks) where
  abbrev here : ℕ
  here = part_number numbers k

  lines_with : (count : ℕ) (lists next : ℕ → List ℕ) → is_marked marks k ≡ true → HaveLines count lists (take k marks) numbers → next here ≡ lists here ++ k ∷ []
      → ((part : ℕ) → part ≢ here → next part ≡ lists part) → HaveLines count next (take (k + 1) marks) numbers
  lines_with count lists next h have now others part l = elim (same_or_not part here) [
    | inl e ↦ ap next e ∙ now ∙ ap (λ (xs : List ℕ). xs ++ k ∷ []) (ap lists (sym e) ∙ have part l) ∙ sym (part_with marks numbers part k below h (sym e))
    | inr n ↦ others part n ∙ have part l ∙ sym (part_other marks numbers part k below h (λ e. n (sym e)))
  ]

  lines_without : (count : ℕ) (lists : ℕ → List ℕ) → is_marked marks k ≡ false → HaveLines count lists (take k marks) numbers → HaveLines count lists (take (k + 1) marks) numbers
  lines_without count lists h have part l = have part l ∙ sym (part_unmarked marks numbers part k below h)

  -- ---- a line is put into a set

  module _ (before sets : List LineSet) (inside : here < length before) where
    abbrev with_row : LineSet
    with_row = record { rows = (part_at sets here).rows ++ k ∷ []; columns = (part_at sets here).columns }

    abbrev with_column : LineSet
    with_column = record { rows = (part_at sets here).rows; columns = (part_at sets here).columns ++ k ∷ [] }

    set_here : (lines : LineSet) → length sets ≡ length before → part_at (set sets here lines) here ≡ lines
    set_here lines size = get_or-set_same sets here lines no_lines (omega (arith, size, inside))

    set_others : (lines : LineSet) (part : ℕ) → part ≢ here → part_at (set sets here lines) part ≡ part_at sets part
    set_others lines part n = get_or-set_other sets here part lines no_lines n

    -- a set in the form in which a slice gives it
    there : (default : LineSet) → length sets ≡ length before → get_or sets here default ≡ part_at sets here
    there default size = get_or_default sets here default no_lines (omega (arith, size, inside))

    pub row_above : (default : LineSet) → HaveRows before (take k marks) numbers sets → IsAbove k (get_or sets here default).rows
    row_above default have = subst (λ (lines : LineSet). IsAbove k lines.rows) (sym (there default have.size))
        (part_below marks numbers here k (part_at sets here).rows (have.rows here inside))

    pub column_above : (default : LineSet) → HaveColumns before (take k marks) numbers sets → IsAbove k (get_or sets here default).columns
    column_above default have = subst (λ (lines : LineSet). IsAbove k lines.columns) (sym (there default have.size))
        (part_below marks numbers here k (part_at sets here).columns (have.columns here inside))

    rows_with : is_marked marks k ≡ true → HaveRows before (take k marks) numbers sets → HaveRows before (take (k + 1) marks) numbers (set sets here with_row)
    rows_with h have = record {
      size = length-set sets here with_row ∙ have.size;
      rows = lines_with (length before) (λ part. (part_at sets part).rows) (λ part. (part_at (set sets here with_row) part).rows) h have.rows
          (ap (λ (lines : LineSet). lines.rows) (set_here with_row have.size)) (λ part n. ap (λ (lines : LineSet). lines.rows) (set_others with_row part n));
      columns = λ part. elim (same_or_not part here) [
        | inl e ↦ ap (λ (lines : LineSet). lines.columns) (ap (part_at (set sets here with_row)) e ∙ set_here with_row have.size)
            ∙ ap (λ (other : ℕ). (part_at sets other).columns) (sym e) ∙ have.columns part
        | inr n ↦ ap (λ (lines : LineSet). lines.columns) (set_others with_row part n) ∙ have.columns part
      ];
    }

    columns_with : is_marked marks k ≡ true → HaveColumns before (take k marks) numbers sets → HaveColumns before (take (k + 1) marks) numbers (set sets here with_column)
    columns_with h have = record {
      size = length-set sets here with_column ∙ have.size;
      rows = λ part. elim (same_or_not part here) [
        | inl e ↦ ap (λ (lines : LineSet). lines.rows) (ap (part_at (set sets here with_column)) e ∙ set_here with_column have.size)
            ∙ ap (λ (other : ℕ). (part_at sets other).rows) (sym e) ∙ have.rows part
        | inr n ↦ ap (λ (lines : LineSet). lines.rows) (set_others with_column part n) ∙ have.rows part
      ];
      columns = lines_with (length before) (λ part. (part_at sets part).columns) (λ part. (part_at (set sets here with_column) part).columns) h have.columns
          (ap (λ (lines : LineSet). lines.columns) (set_here with_column have.size)) (λ part n. ap (λ (lines : LineSet). lines.columns) (set_others with_column part n));
    }

    pub rows_put : (default new : LineSet) (next : List LineSet) → is_marked marks k ≡ true → next ≡ set sets here new
        → new ≡ record { rows = (get_or sets here default).rows ++ k ∷ []; columns = (get_or sets here default).columns } → HaveRows before (take k marks) numbers sets
        → HaveRows before (take (k + 1) marks) numbers next
    rows_put default new next h e f have = subst (HaveRows before (take (k + 1) marks) numbers)
        (sym (e ∙ ap (set sets here) (f ∙ ap (λ (lines : LineSet). let more : LineSet = record { rows = lines.rows ++ k ∷ []; columns = lines.columns } in more) (there default have.size))))
        (rows_with h have)

    pub columns_put : (default new : LineSet) (next : List LineSet) → is_marked marks k ≡ true → next ≡ set sets here new
        → new ≡ record { rows = (get_or sets here default).rows; columns = (get_or sets here default).columns ++ k ∷ [] } → HaveColumns before (take k marks) numbers sets
        → HaveColumns before (take (k + 1) marks) numbers next
    columns_put default new next h e f have = subst (HaveColumns before (take (k + 1) marks) numbers)
        (sym (e ∙ ap (set sets here) (f ∙ ap (λ (lines : LineSet). let more : LineSet = record { rows = lines.rows; columns = lines.columns ++ k ∷ [] } in more) (there default have.size))))
        (columns_with h have)

    -- the columns of the set are as many as the marked columns of its number before this one
    pub column_count : (default : LineSet) → HaveColumns before (take k marks) numbers sets → length (get_or sets here default).columns ≡ length (lines_of_part (take k marks) numbers here)
    column_count default have = ap (λ (lines : LineSet). length lines.columns) (there default have.size) ∙ ap length (have.columns here inside)

  pub rows_without : (before sets : List LineSet) → is_marked marks k ≡ false → HaveRows before (take k marks) numbers sets → HaveRows before (take (k + 1) marks) numbers sets
  rows_without before sets h have = record { size = have.size; rows = lines_without (length before) (λ part. (part_at sets part).rows) h have.rows; columns = have.columns }

  pub columns_without : (before sets : List LineSet) → is_marked marks k ≡ false → HaveColumns before (take k marks) numbers sets → HaveColumns before (take (k + 1) marks) numbers sets
  columns_without before sets h have = record { size = have.size; rows = have.rows; columns = lines_without (length before) (λ part. (part_at sets part).columns) h have.columns }

  -- ---- its place

  at_place_more : (lines more : List ℕ) (line place : ℕ) → IsAtPlace lines line place → IsAtPlace (lines ++ more) line place
  at_place_more lines more line place is = record {
    inside = let long = length-append lines more in let inside = is.inside in omega (arith, long, inside);
    there = get_or_append_left lines more 0 place is.inside ∙ is.there;
  }

  -- a place in a list of the first marks is a place in the list of one more
  place_later : (part line place : ℕ) → IsAtPlace (lines_of_part (take k marks) numbers part) line place → IsAtPlace (lines_of_part (take (k + 1) marks) numbers part) line place
  place_later part line place is = elim (two_cases (is_marked marks k)) [
    | inl h ↦ elim (same_or_not here part) [
      | inl e ↦ subst (λ (lines : List ℕ). IsAtPlace lines line place) (sym (part_with marks numbers part k below h e)) (at_place_more (lines_of_part
          (take k marks) numbers part) (k ∷ []) line place is)
      | inr n ↦ subst (λ (lines : List ℕ). IsAtPlace lines line place) (sym (part_other marks numbers part k below h n)) is
    ]
    | inr h ↦ subst (λ (lines : List ℕ). IsAtPlace lines line place) (sym (part_unmarked marks numbers part k below h)) is
  ]

  module _ (places : List ℕ) (place : ℕ) (are : ArePlacesBy (take k marks) numbers places) where
    many : length places ≡ k
    many = are.size ∙ length-take-le k marks (omega (arith, below))

    more_size : length (places ++ place ∷ []) ≡ length (take (k + 1) marks)
    more_size = let size = many in let long = length-append places (place ∷ []) in let taken = length-take-le (k + 1) marks (omega (arith, below)) in omega (arith, size, long, taken)

    place_before : (line : ℕ) → line < k → is_marked (take (k + 1) marks) line ≡ true
        → IsAtPlace (lines_of_part (take (k + 1) marks) numbers (part_number numbers line)) line (place_at (places ++ place ∷ []) line)
    place_before line l h =
        let size = many in
        let same : place_at (places ++ place ∷ []) line ≡ place_at places line = get_or_append_left places (place ∷ []) 0 line (omega (arith, size, l)) in
        let mark : is_marked (take k marks) line ≡ true = get_or-take k marks line false l ∙ sym (get_or-take (k + 1) marks line false (omega (arith, l))) ∙ h in
        subst (IsAtPlace (lines_of_part (take (k + 1) marks) numbers (part_number numbers line)) line) (sym same)
        (place_later (part_number numbers line) line (place_at places line) (are.place line mark))

    place_here : is_marked marks k ≡ true → place ≡ length (lines_of_part (take k marks) numbers here)
        → IsAtPlace (lines_of_part (take (k + 1) marks) numbers here) k (place_at (places ++ place ∷ []) k)
    place_here h e =
        let size = many in
        let lines = lines_of_part (take k marks) numbers here in
        let same : place_at (places ++ place ∷ []) k ≡ length lines = ap (place_at (places ++ place ∷ [])) (sym size) ∙ get_or-append_seam places place [] 0 ∙ e in
        subst (IsAtPlace (lines_of_part (take (k + 1) marks) numbers here) k) (sym same)
        (subst (λ (all : List ℕ). IsAtPlace all k (length lines)) (sym (part_with marks numbers here k below h refl)) (record {
          inside = let long = length-append lines (k ∷ []) in omega (arith, long);
          there = get_or-append_seam lines k [] 0;
        }))

    below_next : (line : ℕ) → is_marked (take (k + 1) marks) line ≡ true → line < k + 1
    below_next line h = let inside = mark_inside (take (k + 1) marks) line h in let taken = length-take-le (k + 1) marks (omega (arith, below)) in omega (arith, inside, taken)

    pub places_with : is_marked marks k ≡ true → place ≡ length (lines_of_part (take k marks) numbers here) → ArePlacesBy (take (k + 1) marks) numbers (places ++ place ∷ [])
    places_with h e = record {
      size = more_size;
      place = λ line mark. elim (cases_lt line k) [
        | inl l ↦ place_before line l mark
        | inr l ↦ let same : k ≡ line = (let next = below_next line mark in omega (arith, l, next)) in
            subst (λ (x : ℕ). IsAtPlace (lines_of_part (take (k + 1) marks) numbers (part_number numbers x)) x (place_at (places ++ place ∷ []) x)) same (place_here h e)
      ];
    }

    pub places_without : is_marked marks k ≡ false → ArePlacesBy (take (k + 1) marks) numbers (places ++ place ∷ [])
    places_without h = record {
      size = more_size;
      place = λ line mark. elim (cases_lt line k) [
        | inl l ↦ place_before line l mark
        | inr l ↦ let same : line ≡ k = (let next = below_next line mark in omega (arith, l, next)) in
            false_mark line same mark
      ];
    }
      where
        false_mark : {A : Type 0} (line : ℕ) → line ≡ k → is_marked (take (k + 1) marks) line ≡ true → A
        false_mark line e mark = true_is_false (sym mark ∙ ap (is_marked (take (k + 1) marks)) e ∙ get_or-take (k + 1) marks k false (omega arith) ∙ h)

-- ---- equal lists

pub rows_of_lists : (before first : List LineSet) (marks all_marks : List Bool) (numbers all_numbers : List ℕ) (sets : List LineSet) → before ≡ first → marks ≡ all_marks → numbers ≡ all_numbers
    → HaveRows before marks numbers sets → HaveRows first all_marks all_numbers sets
rows_of_lists before first marks all_marks numbers all_numbers sets e f g have = subst (λ (lines : List LineSet). HaveRows lines all_marks all_numbers sets) e
    (subst (λ (list : List Bool). HaveRows before list all_numbers sets) f (subst (λ (list : List ℕ). HaveRows before marks list sets) g have))

pub columns_of_lists : (before first : List LineSet) (marks all_marks : List Bool) (numbers all_numbers : List ℕ) (sets : List LineSet) → before ≡ first → marks ≡ all_marks → numbers ≡ all_numbers
    → HaveColumns before marks numbers sets → HaveColumns first all_marks all_numbers sets
columns_of_lists before first marks all_marks numbers all_numbers sets e f g have = subst (λ (lines : List LineSet). HaveColumns lines all_marks all_numbers sets) e
    (subst (λ (list : List Bool). HaveColumns before list all_numbers sets) f (subst (λ (list : List ℕ). HaveColumns before marks list sets) g have))
