-- The numbers below a bound that have a property, in increasing order.
use Rattle.std.proofs.Common.{◌≡◌, ◌+◌, ◌++◌, inl, inr, ℕ, zero, suc, List, [], ◌∷◌, refl, subst, arith}
use Rattle.std.proofs.lemmas.Bool.{cases_eq}
use Rattle.camion_sign.specs.FaultLines.{IsBuilt}
use Rattle.camion_sign.proofs.LineLists.{pushed}
use Rattle.decompositions_exist.proofs.NotExcluded.{NotExcluded, one_of_two}

passed : (P : ℕ → Type 0) (n : ℕ) (xs : List ℕ) → IsBuilt P n xs → ¬ (P n) → IsBuilt P (suc n) xs
passed P n xs b out = record {
  increasing = b.increasing;
  members = λ y. (
    (λ h. let w = (b.members y).0 h in (let l = w.0 in omega (arith, l), w.1)),
    (λ w. elim (cases_eq y n) [
      | inl same ↦ absurd (out (subst P same w.1))
      | inr apart ↦ (b.members y).1 (let l = w.0 in omega (arith, l, apart), w.1)
    ]),
  );
}

pub collected : (P : ℕ → Type 0) (bound : ℕ) → NotExcluded ((xs : List ℕ) × IsBuilt P bound xs)
collected P zero none = none ([], record { increasing = λ k l. omega (arith, l); members = λ y. ((λ h. absurd h), (λ w. let l = w.0 in absurd (omega (arith, l)))) })
collected P (suc n) none = collected P n (λ below. one_of_two (P n) (λ either. elim either [
  | inl there ↦ none (below.0 ++ n ∷ [], subst (λ k. IsBuilt P k (below.0 ++ n ∷ [])) (let e : n + 1 ≡ suc n = omega arith in e) (pushed P n below.0 (below.0 ++ n ∷ []) below.1 there refl))
  | inr out ↦ none (below.0, passed P n below.0 below.1 out)
]))
