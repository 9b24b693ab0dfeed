-- A matrix with a concentrated three-separation has no violator if and only if neither child has one.
use Rattle.std.proofs.Common.{ℕ, ℤ, Bool, true, false, sym, refl, subst, ◌⊎◌, inl, inr}
use Rattle.ghouila.proofs.ViolatedLines.{ViolatedIn, FreeIn, narrower}
use Rattle.ghouila.proofs.Sides.{On, With, determinant, IsConcentrated, ConnectorRow, ConnectorColumn}
use Rattle.ghouila.proofs.ThreeSides.{with_in}
use Rattle.ghouila.proofs.ConcentratedSides.{concentrated_children}

module _ (M : ℕ → ℕ → ℤ) (P Q : ℕ → Type 0) (sr sc : ℕ → Bool) (i p k j q o : ℕ) (t : IsConcentrated M P Q sr sc i p k j q o) where
  abbrev P1 : ℕ → Type 0
  P1 = With P sr true (ConnectorRow false k o)

  abbrev Q1 : ℕ → Type 0
  Q1 = With Q sc true (ConnectorColumn false j o)

  abbrev P2 : ℕ → Type 0
  P2 = With P sr false (ConnectorRow true i q)

  abbrev Q2 : ℕ → Type 0
  Q2 = With Q sc false (ConnectorColumn true p q)

  violated_child : ViolatedIn M P Q → ViolatedIn M P1 Q1 ⊎ ViolatedIn M P2 Q2
  violated_child = concentrated_children M M M P Q sr sc (λ x. x) (λ x. x) (λ x. x) (λ x. x) (On P sr true) (On Q sc true) (On P sr false) (On Q sc false) P1 Q1 P2 Q2
      i p q k o j i p q (determinant M k o p q)
      (record {
        one = λ r x _ _ e f. refl;
        right = λ r x p q e f. t.zero r x (p, e) (q, f);
        below = λ r x p q e f. t.below r x (p, e) (q, f);
        two = λ r x _ _ e f. refl;
      })
      (record {
        one_row = λ r p e. (p, e);
        one_column = λ r p e. (p, e);
        two_row = λ r p e. (p, e);
        two_column = λ r p e. (p, e);
        first_row = λ r h. inl h;
        first_column = λ r h. inl h;
        second_row = λ r h. inl h;
        second_column = λ r h. inl h;
      })
      (record {
        unit_ip = t.unit_ip;
        unit_iq = t.unit_iq;
        unit_kj = t.unit_kj;
        unit_oj = t.unit_oj;
        unit_d = t.unit_determinant;
        det = refl;
        zero_j = λ r h. t.zero r j h t.column_j;
        corner = t.zero i j t.row_i t.column_j;
        zero_i = λ c h. t.zero i c t.row_i h;
        same_p = refl;
        same_q = refl;
      })
      (record {
        in_i = inl t.row_i;
        in_k = inr (inl refl);
        in_o = inr (inr refl);
        in_p = inl t.column_p;
        in_q = inl t.column_q;
        in_j = inr refl;
        in_i2 = inr refl;
        in_p2 = inr (inl refl);
        in_q2 = inr (inr refl);
      })

  rows_in : (r : ℕ) → ConnectorRow false k o r → P r
  rows_in r (inl h) = subst P (sym h) t.row_k.0
  rows_in r (inr h) = subst P (sym h) t.row_o.0

  columns_in : (c : ℕ) → ConnectorColumn true p q c → Q c
  columns_in c (inl h) = subst Q (sym h) t.column_p.0
  columns_in c (inr h) = subst Q (sym h) t.column_q.0

  pub concentrated_separation : (FreeIn M P Q → FreeIn M P1 Q1 × FreeIn M P2 Q2) × (FreeIn M P1 Q1 × FreeIn M P2 Q2 → FreeIn M P Q)
  concentrated_separation = (
    λ free. (
      narrower M P Q P1 Q1 (with_in P sr true (ConnectorRow false k o) rows_in) (with_in Q sc true (ConnectorColumn false j o) (λ c h. subst Q (sym h) t.column_j.0)) free,
      narrower M P Q P2 Q2 (with_in P sr false (ConnectorRow true i q) (λ r h. subst P (sym h) t.row_i.0)) (with_in Q sc false (ConnectorColumn true p q) columns_in) free,
    ),
    λ both v. elim (violated_child v) [
      | inl w ↦ both.0 w
      | inr w ↦ both.1 w
    ],
  )
