-- Finite sets of lines by a property: some test decides it for the lines of a matrix. Numbers of lines of a set in two parts.
use Rattle.std.proofs.Common.{◌≡◌, ◌<◌, ◌≤◌, ◌+◌, ◌&&◌, ◌⊎◌, inl, inr, ℕ, zero, suc, Bool, true, false, not, cond, nat_eq, refl, sym, subst, arith}
use Rattle.std.specs.Prelude.{◌↔◌}
use Rattle.std.proofs.lemmas.Bool.{false≢true}
use Rattle.cmr_base.specs.declared.line.Line.{Line}
use Rattle.cmr_base.specs.declared.line.Line.TheVariants.{Column, Row}
use Rattle.cmr_base.specs.LineSets.{first_lines}
use Rattle.cmr_base.specs.Separations.{Lines, count_lines_in}
use Rattle.cmr_base.specs.Seeds.{IsLine, count}
use Rattle.cmr_base.proofs.Booleans.{is_eq, is_ne, same_or_not}
use Rattle.cmr_base.proofs.LineCounts.{inside_is}

-- what is true or not leads to no contradiction
pub either : (A : Type 0) → (A ⊎ (¬ A) → ⊥) → ⊥
either A none = none (inr (λ a. none (inl a)))

-- the set with these rows and columns
abbrev pub set_by : (ℕ → Bool) → (ℕ → Bool) → Lines
set_by rows columns (Row r) = rows r
set_by rows columns (Column c) = columns c

abbrev pub Decides : (ℕ → Type 0) → ℕ → (ℕ → Bool) → Type 0
Decides P k test = (x : ℕ) → x < k → (test x ≡ true) ↔ P x

decided_numbers : (P : ℕ → Type 0) (k : ℕ) → ((test : ℕ → Bool) → Decides P k test → ⊥) → ⊥
decided_numbers P zero none = none (λ x. false) (λ x l. absurd (omega arith))
decided_numbers P (suc k) none = decided_numbers P k (λ test is. either (P k) (more test is))
  where
    more : (test : ℕ → Bool) → Decides P k test → P k ⊎ (¬ (P k)) → ⊥
    more test is known = none (λ x. cond (nat_eq x k) (value known) (test x)) (λ x l. go known x l (same_or_not x k))
      where
        value : P k ⊎ (¬ (P k)) → Bool
        value (inl p) = true
        value (inr p) = false

        there : (known : P k ⊎ (¬ (P k))) → (value known ≡ true) ↔ P k
        there (inl p) = (λ e. p, λ q. refl)
        there (inr p) = (λ e. absurd (false≢true e), λ q. absurd (p q))

        go : (known : P k ⊎ (¬ (P k))) (x : ℕ) → x < suc k → (x ≡ k) ⊎ (¬ (x ≡ k)) → (cond (nat_eq x k) (value known) (test x) ≡ true) ↔ P x
        go known x l (inl e) = subst (λ (t : Bool). (cond t (value known) (test x) ≡ true) ↔ P x) (sym (is_eq x k e)) (subst (λ (y : ℕ). (value known ≡ true) ↔ P y) (sym e) (there known))
        go known x l (inr n) = subst (λ (t : Bool). (cond t (value known) (test x) ≡ true) ↔ P x) (sym (is_ne x k n)) (is x (omega arith))

pub decided_lines : (P : Line → Type 0) (m n : ℕ) → ((S : Lines) → ((x : Line) → IsLine m n x → (S x ≡ true) ↔ P x) → ⊥) → ⊥
decided_lines P m n none = decided_numbers (λ r. P (Row r)) m (λ rows are. decided_numbers (λ c. P (Column c)) n (λ columns are_columns. none (set_by rows columns) (both rows columns are are_columns)))
  where
    both : (rows columns : ℕ → Bool) → Decides (λ r. P (Row r)) m rows → Decides (λ c. P (Column c)) n columns → (x : Line) → IsLine m n x → (set_by rows columns x ≡ true) ↔ P x
    both rows columns are are_columns (Row r) l = are r l
    both rows columns are are_columns (Column c) l = are_columns c l

-- ---- numbers of lines

-- the lines of one set that are not in another
abbrev pub apart_from : Lines → Lines → Lines
apart_from T S x = T x && not (S x)

count_parts : (p q : ℕ → Bool) (k : ℕ) → count p k ≤ count q k + count (λ y. p y && not (q y)) k
count_parts p q zero = omega arith
count_parts p q (suc k) = go (p k) (q k) (count_parts p q k)
  where
    go : (s t : Bool) → count p k ≤ count q k + count (λ y. p y && not (q y)) k
        → cond s (suc (count p k)) (count p k) ≤ cond t (suc (count q k)) (count q k) + cond (s && not t) (suc (count (λ y. p y && not (q y)) k)) (count (λ y. p y && not (q y)) k)
    go true true h = omega (arith, h)
    go true false h = omega (arith, h)
    go false true h = omega (arith, h)
    go false false h = omega (arith, h)

pub lines_of_parts : (m n : ℕ) (T S : Lines)
    → count_lines_in T (first_lines m) (first_lines n) ≤ count_lines_in S (first_lines m) (first_lines n) + count_lines_in (apart_from T S) (first_lines m) (first_lines n)
lines_of_parts m n T S =
    let whole = inside_is m n T in
    let part = inside_is m n S in
    let others = inside_is m n (apart_from T S) in
    let rows = count_parts (λ x. T (Row x)) (λ x. S (Row x)) m in
    let columns = count_parts (λ x. T (Column x)) (λ x. S (Column x)) n in
    omega arith
