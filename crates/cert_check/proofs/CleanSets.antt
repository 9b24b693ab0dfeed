-- Row sets in the order of their numbers.
use Rattle.std.proofs.Common.{◌≡◌, ◌<◌, ◌≤◌, ◌+◌, ◌^◌, ◌∙◌, ◌↔◌, IsTrue, ℕ, Bool, List, ap, sym, subst, inl, inr, arith}
use Rattle.std.proofs.lemmas.Bool.{cases_lt}
use Rattle.cmr_base.specs.Matrix.{Matrix, height, transposed, IsMatrix}
use Rattle.cmr_base.proofs.TransposedLemmas.{violator_from_transposed, row_set_from_transposed, column_set_from_transposed, none_from_transposed}
use Rattle.cmr_base.specs.LineSets.{IsRowSet, set_number, set_numbered}
use Rattle.cmr_base.specs.Violator.{HasNoColumnSet, HasNoViolator, IsLeastColumnSet}
use Rattle.cmr_base.proofs.IncreasingLists.{row_set_increases}
use Rattle.cmr_base.proofs.SetNumbers.{numbered_same, row_set-numbered, set_number-lt}

-- no row set with a lesser number has a column set
abbrev pub NoneBefore : Matrix → ℕ → Type 0
NoneBefore m number = (others : List ℕ) → IsRowSet m others → set_number others < number → HasNoColumnSet m others

pub none_more : (m : Matrix) (number : ℕ) → HasNoColumnSet m (set_numbered (height m) 0 number) → NoneBefore m number → NoneBefore m (number + 1)
none_more m number none before others is h = elim (cases_lt (set_number others) number) [
  | inl less ↦ before others is less
  | inr past ↦
      let same : number ≡ set_number others = omega arith in
      let here : set_numbered (height m) 0 number ≡ others = ap (set_numbered (height m) 0) same ∙ numbered_same (height m) others (row_set_increases m others is) in
      subst (HasNoColumnSet m) here none
]

pub none_at_all : (m : Matrix) (number : ℕ) → 2 ^ height m ≤ number → NoneBefore m number → HasNoViolator m
none_at_all m number end before rows columns row_set column_set v =
    before rows row_set (omega (arith, set_number-lt (height m) rows (row_set_increases m rows row_set))) columns column_set v

-- a row set with a column set makes a violator
pub found_one : (m : Matrix) (number : ℕ) (columns : List ℕ) → IsLeastColumnSet m (set_numbered (height m) 0 number) columns → ¬ (HasNoViolator m)
found_one m number columns least none = none (set_numbered (height m) 0 number) columns (row_set-numbered m number) least.column_set least.violator

none_transposed : (m : Matrix) → IsMatrix m → HasNoViolator m → HasNoViolator (transposed m)
none_transposed m is none rows columns row_set column_set v =
    none columns rows (row_set_from_transposed m columns column_set) (column_set_from_transposed m rows row_set) (violator_from_transposed m columns rows is v)

pub clean_transposed : (m other : Matrix) (b : Bool) → IsMatrix m → other ≡ transposed m → IsTrue b ↔ HasNoViolator other → IsTrue b ↔ HasNoViolator m
clean_transposed m other b is e h = ((λ t. none_from_transposed m is (subst HasNoViolator e (h.0 t))), λ none. h.1 (subst HasNoViolator (sym e) (none_transposed m is none)))
