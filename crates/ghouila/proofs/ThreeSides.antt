-- A matrix with an embedded three-separation has no violator if and only if neither child has one.
use Rattle.std.proofs.Common.{ℕ, ℤ, pos, negsuc, Bool, true, false, ◌≡◌, ◌*ℤ◌, neg_ℤ, ◌∙◌, sym, ap, ap₂, refl, arith, subst, ◌⊎◌, inl, inr}
use Rattle.cmr_base.specs.Signing.{IsSign}
use Rattle.ghouila.proofs.ViolatedLines.{ViolatedIn, FreeIn, narrower}
use Rattle.ghouila.proofs.Sides.{On, With, IsThree, IsFirstOther, IsSecondOther, corners, ConnectorRow, ConnectorColumn}
use Rattle.cmr_base.proofs.Integers.{sums, products, mul_comm, times_one}
use Rattle.ghouila.proofs.ParityBits.{when}
use Rattle.ghouila.proofs.BlockViolators.{Blocks}
use Rattle.ghouila.proofs.BorderedSides.{Edge}
use Rattle.ghouila.proofs.JoinedSides.{Sides, joined}
use Rattle.cmr_base.proofs.SignEntries.{sign-mul, twice_by_sign}

-- ---- units

pub times_zero : (u v : ℤ) → pos 0 ≡ u *ℤ (v *ℤ pos 0)
times_zero u v = simp products

corner_one : (u x : ℤ) → IsSign u → x ≡ u *ℤ (pos 1 *ℤ (u *ℤ x))
corner_one u x (inl e) = rw e (plain x)
  where
    plain : (x : ℤ) → x ≡ pos 1 *ℤ (pos 1 *ℤ (pos 1 *ℤ x))
    plain x = simp products
corner_one u x (inr e) = rw e (plain x)
  where
    plain : (x : ℤ) → x ≡ negsuc 0 *ℤ (pos 1 *ℤ (negsuc 0 *ℤ x))
    plain x = simp products (omega (arith, sums))

-- a unit x is u*w, with a unit u, if x*u*w is 1
corner_two : (x u w : ℤ) → IsSign x → IsSign u → (x *ℤ u) *ℤ w ≡ pos 1 → x ≡ u *ℤ (pos 1 *ℤ w)
corner_two x u w (inl e) (inl f) h = plain x u w e f (sym (one w) ∙ ap (λ (n : ℤ). n *ℤ w) (sym (ap₂ (λ (n m : ℤ). n *ℤ m) e f)) ∙ h)
  where
    one : (w : ℤ) → pos 1 *ℤ w ≡ w
    one w = simp products

    plain : (x u w : ℤ) → x ≡ pos 1 → u ≡ pos 1 → w ≡ pos 1 → x ≡ u *ℤ (pos 1 *ℤ w)
    plain x u w e f g = rw (e, f, g) refl
corner_two x u w (inl e) (inr f) h = plain x u w e f (other w ∙ ap neg_ℤ (ap (λ (n : ℤ). n *ℤ w) (sym (ap₂ (λ (n m : ℤ). n *ℤ m) e f)) ∙ h))
  where
    other : (w : ℤ) → w ≡ neg_ℤ (negsuc 0 *ℤ w)
    other w = simp products (omega (arith, sums))

    plain : (x u w : ℤ) → x ≡ pos 1 → u ≡ negsuc 0 → w ≡ negsuc 0 → x ≡ u *ℤ (pos 1 *ℤ w)
    plain x u w e f g = rw (e, f, g) refl
corner_two x u w (inr e) (inl f) h = plain x u w e f (other w ∙ ap neg_ℤ (ap (λ (n : ℤ). n *ℤ w) (sym (ap₂ (λ (n m : ℤ). n *ℤ m) e f)) ∙ h))
  where
    other : (w : ℤ) → w ≡ neg_ℤ (negsuc 0 *ℤ w)
    other w = simp products (omega (arith, sums))

    plain : (x u w : ℤ) → x ≡ negsuc 0 → u ≡ pos 1 → w ≡ negsuc 0 → x ≡ u *ℤ (pos 1 *ℤ w)
    plain x u w e f g = rw (e, f, g) refl
corner_two x u w (inr e) (inr f) h = plain x u w e f (sym (one w) ∙ ap (λ (n : ℤ). n *ℤ w) (sym (ap₂ (λ (n m : ℤ). n *ℤ m) e f)) ∙ h)
  where
    one : (w : ℤ) → pos 1 *ℤ w ≡ w
    one w = simp products

    plain : (x u w : ℤ) → x ≡ negsuc 0 → u ≡ negsuc 0 → w ≡ pos 1 → x ≡ u *ℤ (pos 1 *ℤ w)
    plain x u w e f g = rw (e, f, g) refl

-- ---- the law

pub with_in : (P : ℕ → Type 0) (side : ℕ → Bool) (s : Bool) (More : ℕ → Type 0) → ((x : ℕ) → More x → P x) → (x : ℕ) → With P side s More x → P x
with_in P side s More f x (inl h) = h.0
with_in P side s More f x (inr h) = f x h

module _ (M : ℕ → ℕ → ℤ) (P Q : ℕ → Type 0) (sr sc : ℕ → Bool) (flat1 flat2 : Bool) (i p k j q o : ℕ) (t : IsThree M P Q sr sc flat1 flat2 i p k j q o) (plus : corners M i p k j ≡ pos 1) where
  a : ℕ → ℤ
  a r = M r j

  blocks : Blocks M P Q sr sc (λ x. x) (λ x. x) (λ x. x) (λ x. x) M (λ r x. M r j *ℤ (M i x *ℤ M i j)) (λ r x. M r p *ℤ (M k x *ℤ M k p)) M
  blocks = record {
    one = λ r x p q e f. refl;
    right = λ r x p q e f. t.right r x (p, e) (q, f);
    below = λ r x p q e f. t.below r x (p, e) (q, f);
    two = λ r x p q e f. refl;
  }

  sides : Sides P Q sr sc (λ x. x) (λ x. x) (λ x. x) (λ x. x) (On P sr true) (On Q sc true) (On P sr false) (On Q sc false)
      (With P sr true (ConnectorRow flat2 k o)) (With Q sc true (ConnectorColumn flat2 j o)) (With P sr false (ConnectorRow flat1 i q)) (With Q sc false (ConnectorColumn flat1 p q))
  sides = record {
    one_row = λ r p e. (p, e);
    one_column = λ r p e. (p, e);
    two_row = λ r p e. (p, e);
    two_column = λ r p e. (p, e);
    first_row = λ r h. inl h;
    first_column = λ r h. inl h;
    second_row = λ r h. inl h;
    second_column = λ r h. inl h;
  }

  -- the corner at (k, j), up to the sign of row k
  e : ℤ
  e = M k p *ℤ M k j

  edge1 : (s t u : Bool)
      → Edge M (With P sr true (ConnectorRow flat2 k o)) (With Q sc true (ConnectorColumn flat2 j o)) (On P sr true) (On Q sc true) (λ r. M r j) (λ x. M k x *ℤ M k p) (when u (M k p *ℤ M k j)) s t
  edge1 s t' u = go flat2 u t.other2
    where
      row_k : (f : Bool) → ConnectorRow f k o k
      row_k true = refl
      row_k false = inl refl

      column_j : (f : Bool) → ConnectorColumn f j o j
      column_j true = inl refl
      column_j false = refl

      go : (f u : Bool) → IsSecondOther M P Q sr sc f i p k j o
          → Edge M (With P sr true (ConnectorRow f k o)) (With Q sc true (ConnectorColumn f j o)) (On P sr true) (On Q sc true) (λ r. M r j) (λ x. M k x *ℤ M k p) (when u (M k p *ℤ M k j)) s t'
      go f true other = record {
        row = k;
        column = j;
        row_sign = M k p;
        column_sign = pos 1;
        row_unit = t.unit_kp;
        column_unit = inl refl;
        in_row = λ _. inr (row_k f);
        in_column = λ _. inr (column_j f);
        left = λ _ z h. twice_by_sign (M k p) (M k z) t.unit_kp;
        top = λ _ r h. times_one (M r j);
        corner = λ _ _. corner_one (M k p) (M k j) t.unit_kp;
      }
      go true false other = record {
        row = k;
        column = o;
        row_sign = M k p;
        column_sign = M i o *ℤ M i j;
        row_unit = t.unit_kp;
        column_unit = sign-mul (M i o) (M i j) other.2 t.unit_ij;
        in_row = λ _. inr refl;
        in_column = λ _. inr (inr refl);
        left = λ _ z h. twice_by_sign (M k p) (M k z) t.unit_kp;
        top = λ _ r h. t.right r o h other.0 ∙ mul_comm (M r j) (M i o *ℤ M i j);
        corner = λ _ _. other.1 ∙ times_zero (M k p) (M i o *ℤ M i j);
      }
      go false false other = record {
        row = o;
        column = j;
        row_sign = M o p;
        column_sign = pos 1;
        row_unit = other.2;
        column_unit = inl refl;
        in_row = λ _. inr (inr refl);
        in_column = λ _. inr refl;
        left = λ _ z h. t.below o z other.0 h;
        top = λ _ r h. times_one (M r j);
        corner = λ _ _. other.1 ∙ times_zero (M o p) (pos 1);
      }

  edge2 : (s t u : Bool)
      → Edge M (With P sr false (ConnectorRow flat1 i q)) (With Q sc false (ConnectorColumn flat1 p q)) (On P sr false) (On Q sc false) (λ r. M r p) (λ x. M i x *ℤ M i j) (when u (M k p *ℤ M k j)) s t
  edge2 s t' u = go flat1 u t.other1
    where
      row_i : (f : Bool) → ConnectorRow f i q i
      row_i true = refl
      row_i false = inl refl

      column_p : (f : Bool) → ConnectorColumn f p q p
      column_p true = inl refl
      column_p false = refl

      go : (f u : Bool) → IsFirstOther M P Q sr sc f i p k j q
          → Edge M (With P sr false (ConnectorRow f i q)) (With Q sc false (ConnectorColumn f p q)) (On P sr false) (On Q sc false) (λ r. M r p) (λ x. M i x *ℤ M i j) (when u (M k p *ℤ M k j)) s t'
      go f true other = record {
        row = i;
        column = p;
        row_sign = M i j;
        column_sign = pos 1;
        row_unit = t.unit_ij;
        column_unit = inl refl;
        in_row = λ _. inr (row_i f);
        in_column = λ _. inr (column_p f);
        left = λ _ z h. twice_by_sign (M i j) (M i z) t.unit_ij;
        top = λ _ r h. times_one (M r p);
        corner = λ _ _. corner_two (M i p) (M i j) (M k p *ℤ M k j) t.unit_ip t.unit_ij plus;
      }
      go true false other = record {
        row = i;
        column = q;
        row_sign = M i j;
        column_sign = M k q *ℤ M k p;
        row_unit = t.unit_ij;
        column_unit = sign-mul (M k q) (M k p) other.2 t.unit_kp;
        in_row = λ _. inr refl;
        in_column = λ _. inr (inr refl);
        left = λ _ z h. twice_by_sign (M i j) (M i z) t.unit_ij;
        top = λ _ r h. t.below r q h other.0 ∙ mul_comm (M r p) (M k q *ℤ M k p);
        corner = λ _ _. other.1 ∙ times_zero (M i j) (M k q *ℤ M k p);
      }
      go false false other = record {
        row = q;
        column = p;
        row_sign = M q j;
        column_sign = pos 1;
        row_unit = other.2;
        column_unit = inl refl;
        in_row = λ _. inr (inr refl);
        in_column = λ _. inr refl;
        left = λ _ z h. t.right q z other.0 h;
        top = λ _ r h. times_one (M r p);
        corner = λ _ _. other.1 ∙ times_zero (M q j) (pos 1);
      }

  second_row_in : (f : Bool) → IsSecondOther M P Q sr sc f i p k j o → (r : ℕ) → ConnectorRow f k o r → P r
  second_row_in true other r h = subst P (sym h) t.row2.0
  second_row_in false other r (inl h) = subst P (sym h) t.row2.0
  second_row_in false other r (inr h) = subst P (sym h) other.0.0

  second_column_in : (f : Bool) → IsSecondOther M P Q sr sc f i p k j o → (r : ℕ) → ConnectorColumn f j o r → Q r
  second_column_in true other r (inl h) = subst Q (sym h) t.column2.0
  second_column_in true other r (inr h) = subst Q (sym h) other.0.0
  second_column_in false other r h = subst Q (sym h) t.column2.0

  first_row_in : (f : Bool) → IsFirstOther M P Q sr sc f i p k j q → (r : ℕ) → ConnectorRow f i q r → P r
  first_row_in true other r h = subst P (sym h) t.row1.0
  first_row_in false other r (inl h) = subst P (sym h) t.row1.0
  first_row_in false other r (inr h) = subst P (sym h) other.0.0

  first_column_in : (f : Bool) → IsFirstOther M P Q sr sc f i p k j q → (r : ℕ) → ConnectorColumn f p q r → Q r
  first_column_in true other r (inl h) = subst Q (sym h) t.column1.0
  first_column_in true other r (inr h) = subst Q (sym h) other.0.0
  first_column_in false other r h = subst Q (sym h) t.column1.0

  pub three_children : ViolatedIn M P Q
      → ViolatedIn M (With P sr true (ConnectorRow flat2 k o)) (With Q sc true (ConnectorColumn flat2 j o)) ⊎ ViolatedIn M (With P sr false (ConnectorRow flat1 i q)) (With Q sc false (ConnectorColumn flat1 p q))
  three_children = joined M M M P Q sr sc (λ x. x) (λ x. x) (λ x. x) (λ x. x) (λ r. M r j) (λ x. M i x *ℤ M i j) (λ x. M k x *ℤ M k p) (λ r. M r p) (M k p *ℤ M k j)
      (On P sr true) (On Q sc true) (On P sr false) (On Q sc false)
      (With P sr true (ConnectorRow flat2 k o)) (With Q sc true (ConnectorColumn flat2 j o)) (With P sr false (ConnectorRow flat1 i q)) (With Q sc false (ConnectorColumn flat1 p q))
      blocks sides (sign-mul (M k p) (M k j) t.unit_kp t.unit_kj) (λ s t u _ _. edge1 s t u) (λ s t u _ _. edge2 s t u)

  pub three_separation : (FreeIn M P Q → FreeIn M (With P sr true (ConnectorRow flat2 k o)) (With Q sc true (ConnectorColumn flat2 j o)) × FreeIn M (With P sr false (ConnectorRow flat1 i q)) (With Q sc false (ConnectorColumn flat1 p q)))
      × (FreeIn M (With P sr true (ConnectorRow flat2 k o)) (With Q sc true (ConnectorColumn flat2 j o)) × FreeIn M (With P sr false (ConnectorRow flat1 i q)) (With Q sc false (ConnectorColumn flat1 p q)) → FreeIn M P Q)
  three_separation = (
    λ free. (
      narrower M P Q (With P sr true (ConnectorRow flat2 k o)) (With Q sc true (ConnectorColumn flat2 j o)) (with_in P sr true (ConnectorRow flat2 k o) (second_row_in flat2 t.other2)) (with_in Q sc true (ConnectorColumn flat2 j o) (second_column_in flat2 t.other2)) free,
      narrower M P Q (With P sr false (ConnectorRow flat1 i q)) (With Q sc false (ConnectorColumn flat1 p q)) (with_in P sr false (ConnectorRow flat1 i q) (first_row_in flat1 t.other1)) (with_in Q sc false (ConnectorColumn flat1 p q) (first_column_in flat1 t.other1)) free,
    ),
    λ both v. elim (three_children v) [
      | inl w ↦ both.0 w
      | inr w ↦ both.1 w
    ],
  )
