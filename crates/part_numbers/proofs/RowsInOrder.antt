-- The parts in the order of their first rows.
use Rattle.std.proofs.Common.{◌≡◌, ◌<◌, ◌≤◌, ◌+◌, ◌∙◌, inl, inr, ℕ, true, false, sym, subst, arith}
use Rattle.std.proofs.lemmas.Bool.{cases_lt}
use Rattle.cmr_base.specs.declared.line.Line.TheVariants.{Row}
use Rattle.cmr_base.proofs.Booleans.{not_both, two_cases}
use Rattle.sparse_matrix.specs.LineMarks.{is_marked}
use Rattle.sparse_core.specs.declared.removal.TwoCore.{TwoCore}
use Rattle.part_numbers.specs.declared.reached.Search.{Search}
use Rattle.part_numbers.specs.PartNumbering.{part_number}
use Rattle.part_numbers.specs.PartSearches.{HasRowBefore, HasRowsBefore, ReachesLines}

row_before_later : (search : Search) (part row later : ℕ) → row ≤ later → HasRowBefore search part row → HasRowBefore search part later
row_before_later search part row later l has = record {
  first = has.first;
  before = let below = has.before in omega (arith, below, l);
  reached = has.reached;
  number = has.number;
}

-- the row is not in the core, or it is reached
pub rows_without : (core : TwoCore) (search : Search) (row count : ℕ) → (is_marked core.rows.items row ≡ true → is_marked search.rows.items row ≡ true) → HasRowsBefore core search row count
    → HasRowsBefore core search (row + 1) count
rows_without core search row count here has = record {
  reached = λ other l h. elim (cases_lt other row) [
    | inl b ↦ has.reached other b h
    | inr b ↦ let same : row ≡ other = omega (arith, l, b) in subst (λ (r : ℕ). is_marked search.rows.items r ≡ true) same (here (subst (λ (r : ℕ). is_marked core.rows.items r ≡ true) (sym same) h))
  ];
  started = λ part l. row_before_later search part row (row + 1) (omega arith) (has.started part l);
  ordered = has.ordered;
}

-- the lines of the part of the row are reached
module _ (core : TwoCore) (before after : Search) (row part : ℕ) (reaches : ReachesLines part before after) (here : is_marked after.rows.items row ≡ true)
    (number : part_number after.of_rows.items row ≡ part) (has : HasRowsBefore core before row part)
    (within : (other : ℕ) → is_marked after.rows.items other ≡ true → is_marked core.rows.items other ≡ true) where
  row_before_kept : (other limit : ℕ) → HasRowBefore before other limit → HasRowBefore after other limit
  row_before_kept other limit was = record {
    first = was.first;
    before = was.before;
    reached = reaches.reached (Row was.first) was.reached;
    number = reaches.numbers (Row was.first) was.reached ∙ was.number;
  }

  started_later : (other : ℕ) → other < part + 1 → HasRowBefore after other (row + 1)
  started_later other l = elim (cases_lt other part) [
    | inl b ↦ row_before_later after other row (row + 1) (omega arith) (row_before_kept other row (has.started other b))
    | inr b ↦ record { first = row; before = omega arith; reached = here; number = number ∙ (let same : part ≡ other = omega (arith, l, b) in same) }
  ]

  ordered_later : (other earlier : ℕ) → is_marked after.rows.items other ≡ true → earlier < part_number after.of_rows.items other → HasRowBefore after earlier other
  ordered_later other earlier h l = elim (two_cases (is_marked before.rows.items other)) [
    | inl g ↦ row_before_kept earlier other (has.ordered other earlier g (let same = reaches.numbers (Row other) g in omega (arith, l, same)))
    | inr f ↦ elim (reaches.others (Row other) h) [
      | inl g ↦ absurd (not_both (is_marked before.rows.items other) g f)
      | inr e ↦ row_before_later after earlier row other (not_before f) (row_before_kept earlier row (has.started earlier (omega (arith, l, e))))
    ]
  ]
    where
      not_before : is_marked before.rows.items other ≡ false → row ≤ other
      not_before f = elim (cases_lt other row) [
        | inl b ↦ absurd (not_both (is_marked before.rows.items other) (has.reached other b (within other h)) f)
        | inr b ↦ b
      ]

  pub rows_with : HasRowsBefore core after (row + 1) (part + 1)
  rows_with = record {
    reached = λ other l h. elim (cases_lt other row) [
      | inl b ↦ reaches.reached (Row other) (has.reached other b h)
      | inr b ↦ let same : row ≡ other = omega (arith, l, b) in subst (λ (r : ℕ). is_marked after.rows.items r ≡ true) same here
    ];
    started = started_later;
    ordered = ordered_later;
  }
