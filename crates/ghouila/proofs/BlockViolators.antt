-- A violator of a matrix of four blocks, block by block.
use Rattle.std.proofs.Common.{ℕ, ℤ, Bool, true, false, not, cond, List, [], ◌∷◌, ◌≡◌, ◌+ℤ◌, ◌∙◌, ap₂, refl, arith, subst}
use Rattle.std.specs.List.{AllByRecursion}
use Rattle.cmr_base.specs.Sums.{sum_over, IsEven, IsTwoModFour}
use Rattle.cmr_base.specs.Violator.{IsViolator}
use Rattle.cmr_base.proofs.Integers.{sums}
use Rattle.cmr_base.proofs.SumLaws.{sum_over-add}
use Rattle.cmr_base.proofs.Booleans.{not_is}

-- the lines of a side, by their names in another matrix
abbrev pub kept : (ℕ → Bool) → (ℕ → ℕ) → List ℕ → List ℕ
kept p g [] = []
kept p g (x ∷ xs) = cond (p x) (g x ∷ kept p g xs) (kept p g xs)

abbrev pub other : (ℕ → Bool) → ℕ → Bool
other p x = not (p x)

pub all_kept : (P Q : ℕ → Type 0) (p : ℕ → Bool) (g : ℕ → ℕ) → ((x : ℕ) → P x → p x ≡ true → Q (g x)) → (xs : List ℕ) → AllByRecursion P xs → AllByRecursion Q (kept p g xs)
all_kept P Q p g f [] h = tt
all_kept P Q p g f (x ∷ xs) h = go (p x) refl (all_kept P Q p g f xs h.1)
  where
    go : (t : Bool) → p x ≡ t → AllByRecursion Q (kept p g xs) → AllByRecursion Q (cond t (g x ∷ kept p g xs) (kept p g xs))
    go true e k = (f x h.0 e, k)
    go false e k = k

pub all_other : (P Q : ℕ → Type 0) (p : ℕ → Bool) (g : ℕ → ℕ) → ((x : ℕ) → P x → p x ≡ false → Q (g x)) → (xs : List ℕ) → AllByRecursion P xs → AllByRecursion Q (kept (other p) g xs)
all_other P Q p g f xs h = all_kept P Q (other p) g (λ x k e. f x k (not_is (p x) e)) xs h

pub all_pairs : (P Q : ℕ → Type 0) (xs : List ℕ) → AllByRecursion P xs → AllByRecursion Q xs → AllByRecursion (λ x. P x × Q x) xs
all_pairs P Q [] h k = tt
all_pairs P Q (x ∷ xs) h k = ((h.0, k.0), all_pairs P Q xs h.1 k.1)

-- a sum is the sum over one side plus the sum over the other side
pub line : (P : ℕ → Type 0) (p : ℕ → Bool) (g h : ℕ → ℕ) (F G H : ℕ → ℤ) → ((x : ℕ) → P x → p x ≡ true → F x ≡ G (g x)) → ((x : ℕ) → P x → p x ≡ false → F x ≡ H (h x))
    → (xs : List ℕ) → AllByRecursion P xs → sum_over xs F ≡ sum_over (kept p g xs) G +ℤ sum_over (kept (other p) h xs) H
line P p g h F G H one two [] ps = refl
line P p g h F G H one two (x ∷ xs) ps = go (p x) refl (line P p g h F G H one two xs ps.1)
  where
    first : (a b c d f : ℤ) → b ≡ c +ℤ d → f ≡ a → f +ℤ b ≡ (a +ℤ c) +ℤ d
    first a b c d f e k = omega (arith, sums)

    second : (a b c d f : ℤ) → b ≡ c +ℤ d → f ≡ a → f +ℤ b ≡ c +ℤ (a +ℤ d)
    second a b c d f e k = omega (arith, sums)

    go : (t : Bool) → p x ≡ t → sum_over xs F ≡ sum_over (kept p g xs) G +ℤ sum_over (kept (other p) h xs) H
        → F x +ℤ sum_over xs F ≡ sum_over (cond t (g x ∷ kept p g xs) (kept p g xs)) G +ℤ sum_over (cond (not t) (h x ∷ kept (other p) h xs) (kept (other p) h xs)) H
    go true e k = first (G (g x)) (sum_over xs F) (sum_over (kept p g xs) G) (sum_over (kept (other p) h xs) H) (F x) k (one x ps.0 e)
    go false e k = second (H (h x)) (sum_over xs F) (sum_over (kept p g xs) G) (sum_over (kept (other p) h xs) H) (F x) k (two x ps.0 e)

-- M is the matrix of the blocks M1, A; D, M2, by the names of its lines in the blocks
pub record Blocks (M : ℕ → ℕ → ℤ) (P Q : ℕ → Type 0) (sr sc : ℕ → Bool) (f g h k : ℕ → ℕ) (M1 A D M2 : ℕ → ℕ → ℤ) : Type 0 where
  pub one : (r x : ℕ) → P r → Q x → sr r ≡ true → sc x ≡ true → M r x ≡ M1 (f r) (g x)
  pub right : (r x : ℕ) → P r → Q x → sr r ≡ true → sc x ≡ false → M r x ≡ A (f r) (k x)
  pub below : (r x : ℕ) → P r → Q x → sr r ≡ false → sc x ≡ true → M r x ≡ D (h r) (g x)
  pub two : (r x : ℕ) → P r → Q x → sr r ≡ false → sc x ≡ false → M r x ≡ M2 (h r) (k x)

-- the lines R1, R2 and C1, C2 are a violator of the matrix of four blocks
pub record Cut (M1 A D M2 : ℕ → ℕ → ℤ) (R1 C1 R2 C2 : List ℕ) : Type 0 where
  pub rows1 : AllByRecursion (λ r. IsEven (sum_over C1 (λ x. M1 r x) +ℤ sum_over C2 (λ x. A r x))) R1
  pub rows2 : AllByRecursion (λ r. IsEven (sum_over C1 (λ x. D r x) +ℤ sum_over C2 (λ x. M2 r x))) R2
  pub columns1 : AllByRecursion (λ x. IsEven (sum_over R1 (λ r. M1 r x) +ℤ sum_over R2 (λ r. D r x))) C1
  pub columns2 : AllByRecursion (λ x. IsEven (sum_over R1 (λ r. A r x) +ℤ sum_over R2 (λ r. M2 r x))) C2
  pub total : IsTwoModFour ((sum_over R1 (λ r. sum_over C1 (λ x. M1 r x)) +ℤ sum_over R1 (λ r. sum_over C2 (λ x. A r x)))
      +ℤ (sum_over R2 (λ r. sum_over C1 (λ x. D r x)) +ℤ sum_over R2 (λ r. sum_over C2 (λ x. M2 r x))))

module _ (M : ℕ → ℕ → ℤ) (P Q : ℕ → Type 0) (sr sc : ℕ → Bool) (f g h k : ℕ → ℕ) (M1 A D M2 : ℕ → ℕ → ℤ) (b : Blocks M P Q sr sc f g h k M1 A D M2) (R C : List ℕ) (ps : AllByRecursion P R) (qs : AllByRecursion Q C) where
  row_one : (r : ℕ) → P r → sr r ≡ true → sum_over C (λ x. M r x) ≡ sum_over (kept sc g C) (λ x. M1 (f r) x) +ℤ sum_over (kept (other sc) k C) (λ x. A (f r) x)
  row_one r p e = line Q sc g k (λ x. M r x) (λ x. M1 (f r) x) (λ x. A (f r) x) (λ x q t. b.one r x p q e t) (λ x q t. b.right r x p q e t) C qs

  row_two : (r : ℕ) → P r → sr r ≡ false → sum_over C (λ x. M r x) ≡ sum_over (kept sc g C) (λ x. D (h r) x) +ℤ sum_over (kept (other sc) k C) (λ x. M2 (h r) x)
  row_two r p e = line Q sc g k (λ x. M r x) (λ x. D (h r) x) (λ x. M2 (h r) x) (λ x q t. b.below r x p q e t) (λ x q t. b.two r x p q e t) C qs

  column_one : (x : ℕ) → Q x → sc x ≡ true → sum_over R (λ r. M r x) ≡ sum_over (kept sr f R) (λ r. M1 r (g x)) +ℤ sum_over (kept (other sr) h R) (λ r. D r (g x))
  column_one x q e = line P sr f h (λ r. M r x) (λ r. M1 r (g x)) (λ r. D r (g x)) (λ r p t. b.one r x p q t e) (λ r p t. b.below r x p q t e) R ps

  column_two : (x : ℕ) → Q x → sc x ≡ false → sum_over R (λ r. M r x) ≡ sum_over (kept sr f R) (λ r. A r (k x)) +ℤ sum_over (kept (other sr) h R) (λ r. M2 r (k x))
  column_two x q e = line P sr f h (λ r. M r x) (λ r. A r (k x)) (λ r. M2 r (k x)) (λ r p t. b.right r x p q t e) (λ r p t. b.two r x p q t e) R ps

  pub cut : IsViolator M R C → Cut M1 A D M2 (kept sr f R) (kept sc g C) (kept (other sr) h R) (kept (other sc) k C)
  cut v = record {
    rows1 = all_kept (λ r. P r × IsEven (sum_over C (λ x. M r x))) (λ r. IsEven (sum_over (kept sc g C) (λ x. M1 r x) +ℤ sum_over (kept (other sc) k C) (λ x. A r x))) sr f
        (λ r p e. subst IsEven (row_one r p.0 e) p.1) R (all_pairs P (λ r. IsEven (sum_over C (λ x. M r x))) R ps v.even_rows);
    rows2 = all_other (λ r. P r × IsEven (sum_over C (λ x. M r x))) (λ r. IsEven (sum_over (kept sc g C) (λ x. D r x) +ℤ sum_over (kept (other sc) k C) (λ x. M2 r x))) sr h
        (λ r p e. subst IsEven (row_two r p.0 e) p.1) R (all_pairs P (λ r. IsEven (sum_over C (λ x. M r x))) R ps v.even_rows);
    columns1 = all_kept (λ x. Q x × IsEven (sum_over R (λ r. M r x))) (λ x. IsEven (sum_over (kept sr f R) (λ r. M1 r x) +ℤ sum_over (kept (other sr) h R) (λ r. D r x))) sc g
        (λ x q e. subst IsEven (column_one x q.0 e) q.1) C (all_pairs Q (λ x. IsEven (sum_over R (λ r. M r x))) C qs v.even_columns);
    columns2 = all_other (λ x. Q x × IsEven (sum_over R (λ r. M r x))) (λ x. IsEven (sum_over (kept sr f R) (λ r. A r x) +ℤ sum_over (kept (other sr) h R) (λ r. M2 r x))) sc k
        (λ x q e. subst IsEven (column_two x q.0 e) q.1) C (all_pairs Q (λ x. IsEven (sum_over R (λ r. M r x))) C qs v.even_columns);
    total = subst IsTwoModFour
        (line P sr f h (λ r. sum_over C (λ x. M r x)) (λ r. sum_over (kept sc g C) (λ x. M1 r x) +ℤ sum_over (kept (other sc) k C) (λ x. A r x)) (λ r. sum_over (kept sc g C) (λ x. D r x) +ℤ sum_over (kept (other sc) k C) (λ x. M2 r x)) row_one row_two R ps
        ∙ ap₂ (λ (y z : ℤ). y +ℤ z) (sum_over-add (kept sr f R) (λ r. sum_over (kept sc g C) (λ x. M1 r x)) (λ r. sum_over (kept (other sc) k C) (λ x. A r x)))
        (sum_over-add (kept (other sr) h R) (λ r. sum_over (kept sc g C) (λ x. D r x)) (λ r. sum_over (kept (other sc) k C) (λ x. M2 r x)))) v.two_mod_four;
  }
