-- Marks of lines, and the values of runs at the lines of their nonzeros.
use Rattle.std.proofs.Common.{◌≡◌, ◌≢◌, ◌<◌, ◌∙◌, if◌then◌else◌, inl, inr, nat_eq, ℕ, zero, suc, pos, Bool, true, false, List, [], ◌∷◌, length, get_or, set, refl, ap, sym, arith}
use Rattle.std.proofs.lemmas.Bool.{cases_lt}
use Rattle.std.proofs.lemmas.List.{get_or_past}
use Rattle.std.specs.List.{AllByRecursion, Contains}
use Rattle.cmr_base.proofs.Booleans.{self_eq, true_is_false, two_cases}
use Rattle.cmr_base.proofs.ListsWithout.{contains_from_in, in_from_contains}
use Rattle.cmr_base.proofs.SignEntries.{sign_nonzero}
use Rattle.ghouila.specs.Found.{marked}
use Rattle.ghouila.proofs.MarkedMembers.{in_marked}
use Rattle.sparse_matrix.specs.declared.nonzero.Nonzero.{Nonzero}
use Rattle.sparse_matrix.specs.LineMarks.{is_marked}
use Rattle.sparse_matrix.specs.SparseRows.{value_in, IsNonzeroWithin}

pub contains_marked : (marks : List Bool) (line : ℕ) → is_marked marks line ≡ true → Contains (marked marks) line
contains_marked marks line e = contains_from_in (marked marks) line ((in_marked marks line).1 e)

pub marked_contains : (marks : List Bool) (line : ℕ) → Contains (marked marks) line → is_marked marks line ≡ true
marked_contains marks line h = (in_marked marks line).0 (in_from_contains (marked marks) line h)

pub mark_inside : (marks : List Bool) (line : ℕ) → is_marked marks line ≡ true → line < length marks
mark_inside marks line e = elim (cases_lt line (length marks)) [
  | inl l ↦ l
  | inr l ↦ true_is_false (sym e ∙ get_or_past marks line false l)
]

pub kept_mark : (marks : List Bool) (k line : ℕ) → is_marked marks line ≡ true → is_marked (set marks k true) line ≡ true
kept_mark [] k line e = e
kept_mark (x ∷ marks) zero zero e = refl
kept_mark (x ∷ marks) zero (suc line) e = e
kept_mark (x ∷ marks) (suc k) zero e = e
kept_mark (x ∷ marks) (suc k) (suc line) e = kept_mark marks k line e

abbrev pub no_nonzero : Nonzero
no_nonzero = record { line = 0; value = pos 0 }

-- a run has a value in the line of each of its nonzeros
pub value_there : (width : ℕ) (run : List Nonzero) (k : ℕ) → k < length run → AllByRecursion (IsNonzeroWithin width) run → value_in run (get_or run k no_nonzero).line ≢ pos 0
value_there width [] k l within e = absurd (omega arith)
value_there width (x ∷ run) zero l within e = sign_nonzero x.value within.0.sign (sym (ap (λ (b : Bool). if b then x.value else value_in run x.line) (self_eq x.line)) ∙ e)
value_there width (x ∷ run) (suc k) l within e = elim (two_cases (nat_eq x.line (get_or run k no_nonzero).line)) [
  | inl h ↦ sign_nonzero x.value within.0.sign (sym (ap (λ (b : Bool). if b then x.value else value_in run (get_or run k no_nonzero).line) h) ∙ e)
  | inr h ↦ value_there width run k (omega (arith, l)) within.1 (sym (ap (λ (b : Bool). if b then x.value else value_in run (get_or run k no_nonzero).line) h) ∙ e)
]
