-- A nonempty set of lists has, up to double negation, a least list: the first in lexicographic order of the shortest lists.
use Rattle.std.proofs.Common.{ℕ, zero, suc, List, [], ◌∷◌, ◌≡◌, ◌<◌, ◌≤◌, sym, ap, refl, arith, subst, ◌⊎◌, inl, inr, length}
use Rattle.std.proofs.lemmas.Bool.{cases_lt}
use Rattle.cmr_base.specs.CyclePlaces.{IsNotAfter}

pub least_number : (Q : ℕ → Type 0) (bound x : ℕ) → x < bound → Q x → ((y : ℕ) → Q y → ((z : ℕ) → Q z → y ≤ z) → ⊥) → ⊥
least_number Q zero x l q k = absurd (omega arith)
least_number Q (suc bound) x l q k = k x q (λ z r. elim (cases_lt z x) [
  | inl lt ↦ absurd (least_number Q bound z (omega arith) r k)
  | inr ge ↦ ge
])

shortest : (P : List ℕ → Type 0) (bound : ℕ) (p : List ℕ) → length p < bound → P p → ((q : List ℕ) → P q → ((o : List ℕ) → P o → length q ≤ length o) → ⊥) → ⊥
shortest P zero p l h k = absurd (omega arith)
shortest P (suc bound) p l h k = k p h (λ o r. elim (cases_lt (length o) (length p)) [
  | inl lt ↦ absurd (shortest P bound o (omega arith) r k)
  | inr ge ↦ ge
])

-- the least of the lists of length m
first_list : (m : ℕ) (P : List ℕ → Type 0) (p : List ℕ) → length p ≡ m → P p → ((q : List ℕ) → length q ≡ m → P q → ((o : List ℕ) → length o ≡ m → P o → IsNotAfter q o) → ⊥) → ⊥
first_list zero P [] e h k = k [] refl h (λ o f g. tt)
first_list zero P (x ∷ p) e h k = absurd (omega arith)
first_list (suc m) P [] e h k = absurd (omega arith)
first_list (suc m) P (x ∷ p) e h k = least_number (λ y. (ys : List ℕ) × (length ys ≡ m) × P (y ∷ ys)) (suc x) x (omega arith) (p, omega arith, h)
    (λ y w low. first_list m (λ zs. P (y ∷ zs)) w.0 w.1 w.2
    (λ zs f g first. k (y ∷ zs) (ap suc f) g (after y zs low first)))
  where
    after : (y : ℕ) (zs : List ℕ) → ((z : ℕ) → ((ys : List ℕ) × (length ys ≡ m) × P (z ∷ ys)) → y ≤ z) → ((o : List ℕ) → length o ≡ m → P (y ∷ o) → IsNotAfter zs o)
        → (o : List ℕ) → length o ≡ suc m → P o → IsNotAfter (y ∷ zs) o
    after y zs low first [] e h = absurd (omega arith)
    after y zs low first (z ∷ o) e h = elim (cases_lt y z) [
      | inl lt ↦ inl lt
      | inr ge ↦ let le : y ≤ z = low z (o, omega arith, h) in let q : z ≡ y = omega arith in
          inr (sym q, first o (omega arith) (subst (λ (v : ℕ). P (v ∷ o)) q h))
    ]

-- a shortest list that is the least of the shortest lists
pub least_list : (P : List ℕ → Type 0) (p : List ℕ) → P p
    → ((q : List ℕ) → P q → ((o : List ℕ) → P o → (length q < length o) ⊎ ((length q ≡ length o) × IsNotAfter q o)) → ⊥) → ⊥
least_list P p h k = shortest P (suc (length p)) p (omega arith) h
    (λ q g short. first_list (length q) P q refl g
    (λ r e f first. k r f (λ o w. elim (cases_lt (length q) (length o)) [
      | inl lt ↦ inl (omega arith)
      | inr ge ↦ let le : length q ≤ length o = short o w in inr (omega arith, first o (omega arith) w)
    ])))
