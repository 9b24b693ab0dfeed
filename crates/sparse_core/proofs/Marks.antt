-- Marks of the lines that remain.
use Rattle.std.proofs.Common.{◌≡◌, ◌<◌, ◌+◌, ℕ, zero, suc, Bool, true, false, List, [], ◌∷◌, length, set, replicate, refl, ap, sym, arith}
use Rattle.std.specs.List.{range_with_len}
use Rattle.cmr_base.specs.LineSets.{without, first_lines}
use Rattle.cmr_base.specs.Members.{IsDistinct}
use Rattle.cmr_base.proofs.Booleans.{is_ne, is_eq}
use Rattle.cmr_base.proofs.Members.{increasing_are_distinct}
use Rattle.ghouila.specs.Found.{marked_from, marked}
use Rattle.ghouila.proofs.Marks.{marked_increases}

without_lower : (line first : ℕ) (marks : List Bool) → line < first → without (marked_from first marks) line ≡ marked_from first marks
without_lower line first [] l = refl
without_lower line first (true ∷ marks) l = rw (is_ne first line (omega (arith, l))) (ap (λ (xs : List ℕ). first ∷ xs) (without_lower line (first + 1) marks (omega (arith, l))))
without_lower line first (false ∷ marks) l = without_lower line (first + 1) marks (omega (arith, l))

without_from : (first : ℕ) (marks : List Bool) (k line : ℕ) → line ≡ first + k → k < length marks → marked_from first (set marks k false) ≡ without (marked_from first marks) line
without_from first [] k line e l = absurd (omega arith)
without_from first (true ∷ marks) zero line e l = rw (is_eq first line (omega (arith, e))) (sym (without_lower line (first + 1) marks (omega (arith, e))))
without_from first (false ∷ marks) zero line e l = sym (without_lower line (first + 1) marks (omega (arith, e)))
without_from first (true ∷ marks) (suc k) line e l =
    rw (is_ne first line (omega (arith, e))) (ap (λ (xs : List ℕ). first ∷ xs) (without_from (first + 1) marks k line (omega (arith, e)) (omega (arith, l))))
without_from first (false ∷ marks) (suc k) line e l = without_from (first + 1) marks k line (omega (arith, e)) (omega (arith, l))

-- without the mark of a line
pub marked-unmarked : (marks : List Bool) (line : ℕ) → line < length marks → marked (set marks line false) ≡ without (marked marks) line
marked-unmarked marks line l = without_from 0 marks line line (omega arith) l

all_from : (first n : ℕ) → marked_from first (replicate n true) ≡ range_with_len first n
all_from first zero = refl
all_from first (suc n) = let next : first + 1 ≡ suc first = omega arith in ap (λ (xs : List ℕ). first ∷ xs) (rw next (all_from (suc first) n))

pub all_marked_lines : (n : ℕ) → marked (replicate n true) ≡ first_lines n
all_marked_lines n = all_from 0 n

pub distinct_marks : (marks : List Bool) → IsDistinct (marked marks)
distinct_marks marks = increasing_are_distinct 0 (length marks) (marked marks) (marked_increases 0 (length marks) marks (omega arith))
