-- A matrix with a two-separation has no violator if and only if neither child has one.
use Rattle.std.proofs.Common.{ℕ, ℤ, pos, Bool, true, false, ◌≡◌, ◌*ℤ◌, sym, refl, subst, ◌⊎◌, inl, inr}
use Rattle.ghouila.proofs.ViolatedLines.{ViolatedIn, FreeIn, narrower}
use Rattle.ghouila.proofs.Sides.{On, With, IsTwo}
use Rattle.ghouila.proofs.BlockViolators.{Blocks}
use Rattle.ghouila.proofs.JoinedSides.{Sides, joined}
use Rattle.ghouila.proofs.ThreeSides.{with_in}
use Rattle.cmr_base.proofs.SignEntries.{twice_by_sign}
use Rattle.cmr_base.proofs.Integers.{times_one}

module _ (M : ℕ → ℕ → ℤ) (P Q : ℕ → Type 0) (sr sc : ℕ → Bool) (i j : ℕ) (t : IsTwo M P Q sr sc i j) where
  zero_product : pos 0 ≡ pos 0 *ℤ pos 0
  zero_product = refl

  blocks : Blocks M P Q sr sc (λ x. x) (λ x. x) (λ x. x) (λ x. x) M (λ r x. pos 0 *ℤ pos 0) (λ r x. M r j *ℤ (M i x *ℤ M i j)) M
  blocks = record {
    one = λ r x p q e f. refl;
    right = λ r x p q e f. t.zero r x (p, e) (q, f);
    below = λ r x p q e f. t.product r x (p, e) (q, f);
    two = λ r x p q e f. refl;
  }

  sides : Sides P Q sr sc (λ x. x) (λ x. x) (λ x. x) (λ x. x) (On P sr true) (On Q sc true) (On P sr false) (On Q sc false)
      (With P sr true (λ r. r ≡ i)) (On Q sc true) (On P sr false) (With Q sc false (λ c. c ≡ j))
  sides = record {
    one_row = λ r p e. (p, e);
    one_column = λ r p e. (p, e);
    two_row = λ r p e. (p, e);
    two_column = λ r p e. (p, e);
    first_row = λ r h. inl h;
    first_column = λ r h. h;
    second_row = λ r h. h;
    second_column = λ r h. inl h;
  }

  pub two_children : ViolatedIn M P Q → ViolatedIn M (With P sr true (λ r. r ≡ i)) (On Q sc true) ⊎ ViolatedIn M (On P sr false) (With Q sc false (λ c. c ≡ j))
  two_children = joined M M M P Q sr sc (λ x. x) (λ x. x) (λ x. x) (λ x. x) (λ r. pos 0) (λ x. pos 0) (λ x. M i x *ℤ M i j) (λ r. M r j) (pos 1)
      (On P sr true) (On Q sc true) (On P sr false) (On Q sc false)
      (With P sr true (λ r. r ≡ i)) (On Q sc true) (On P sr false) (With Q sc false (λ c. c ≡ j))
      blocks sides (inl refl)
      (λ s t' u _ no. record {
        row = i;
        column = j;
        row_sign = M i j;
        column_sign = pos 1;
        row_unit = t.unit;
        column_unit = inl refl;
        in_row = λ _. inr refl;
        in_column = λ h. absurd (no h (λ _. refl));
        left = λ _ z h. twice_by_sign (M i j) (M i z) t.unit;
        top = λ h r _. absurd (no h (λ _. refl));
        corner = λ _ h. absurd (no h (λ _. refl));
      })
      (λ s t' u no _. record {
        row = i;
        column = j;
        row_sign = pos 1;
        column_sign = pos 1;
        row_unit = inl refl;
        column_unit = inl refl;
        in_row = λ h. absurd (no h (λ _. refl));
        in_column = λ _. inr refl;
        left = λ h z _. absurd (no h (λ _. refl));
        top = λ _ r h. times_one (M r j);
        corner = λ h _. absurd (no h (λ _. refl));
      })

  pub two_separation : (FreeIn M P Q → FreeIn M (With P sr true (λ r. r ≡ i)) (On Q sc true) × FreeIn M (On P sr false) (With Q sc false (λ c. c ≡ j)))
      × (FreeIn M (With P sr true (λ r. r ≡ i)) (On Q sc true) × FreeIn M (On P sr false) (With Q sc false (λ c. c ≡ j)) → FreeIn M P Q)
  two_separation = (
    λ free. (
      narrower M P Q (With P sr true (λ r. r ≡ i)) (On Q sc true) (with_in P sr true (λ r. r ≡ i) (λ x h. subst P (sym h) t.row.0)) (λ x h. h.0) free,
      narrower M P Q (On P sr false) (With Q sc false (λ c. c ≡ j)) (λ x h. h.0) (with_in Q sc false (λ c. c ≡ j) (λ x h. subst Q (sym h) t.column.0)) free,
    ),
    λ both v. elim (two_children v) [
      | inl w ↦ both.0 w
      | inr w ↦ both.1 w
    ],
  )
