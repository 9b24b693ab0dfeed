-- The sum of two matrices without violators has none.
use Rattle.std.proofs.Common.{ℕ, suc, ◌+◌, ◌-◌, ◌<◌, ◌≤◌, ℤ, pos, Bool, true, false, nat_lt, ◌*ℤ◌, ◌∙◌, refl, arith, inl, inr}
use Rattle.cmr_base.specs.Signing.{IsSign}
use Rattle.cmr_base.specs.MatrixSums.{four_blocks, sum_along, connecting_rows, connecting_columns, EndsIn, BeginsWithConnector}
use Rattle.ghouila.proofs.ViolatedLines.{FreeIn}
use Rattle.ghouila.proofs.ParityBits.{when}
use Rattle.ghouila.proofs.BlockViolators.{Blocks}
use Rattle.cmr_base.proofs.Lists.{all_weaker}
use Rattle.ghouila.proofs.BorderedSides.{Edge}
use Rattle.ghouila.proofs.JoinedSides.{Sides, joined}
use Rattle.ghouila.proofs.ThreeSides.{times_zero}
use Rattle.cmr_base.proofs.Booleans.{lt_of, at_least_of}
use Rattle.cmr_base.proofs.Integers.{times_one}

-- no violator among m rows and n columns
abbrev pub Free : ℕ → ℕ → (ℕ → ℕ → ℤ) → Type 0
Free m n M = FreeIn M (λ r. r < m) (λ c. c < n)

abbrev one_blocks : (m n : ℕ) (first second : ℕ → ℕ → ℤ) → ℕ → ℕ → ℤ
one_blocks m n first second = four_blocks m n 0 0 first (λ r c. pos 0) (λ r c. pos 0) second

abbrev two_blocks : (m n : ℕ) (first second : ℕ → ℕ → ℤ) → ℕ → ℕ → ℤ
two_blocks m n first second = four_blocks m n 1 0 first (λ r c. first r n *ℤ second 0 c) (λ r c. pos 0) second

beyond : (r m u up : ℕ) → r < m + u → m ≤ r → (up ≤ up + (r - m)) × (up + (r - m) < up + u)
beyond r m u up l k = (omega arith, omega arith)

wider : (r m k : ℕ) → r < m → r < m + k
wider r m k l = omega arith

pub blocks_of : (m n u v up left : ℕ) (first right below second : ℕ → ℕ → ℤ)
    → Blocks (four_blocks m n up left first right below second) (λ r. r < m + u) (λ c. c < n + v) (λ r. nat_lt r m) (λ c. nat_lt c n) (λ x. x) (λ x. x) (λ r. up + (r - m)) (λ c. left + (c - n)) first right below second
blocks_of m n u v up left first right below second = record {
  one = λ r x _ _ e f. rw (e, f) refl;
  right = λ r x _ _ e f. rw (e, f) refl;
  below = λ r x _ _ e f. rw (e, f) refl;
  two = λ r x _ _ e f. rw (e, f) refl;
}

pub sides_of : (m n u v up left mm nn : ℕ)
    → Sides (λ r. r < m + u) (λ c. c < n + v) (λ r. nat_lt r m) (λ c. nat_lt c n) (λ x. x) (λ x. x) (λ r. up + (r - m)) (λ c. left + (c - n))
    (λ r. r < m) (λ c. c < n) (λ r. (up ≤ r) × (r < up + u)) (λ c. (left ≤ c) × (c < left + v))
    (λ r. r < m + mm) (λ c. c < n + nn) (λ r. r < up + u) (λ c. c < left + v)
sides_of m n u v up left mm nn = record {
  one_row = λ r _ e. lt_of r m e;
  one_column = λ c _ e. lt_of c n e;
  two_row = λ r l e. beyond r m u up l (at_least_of r m e);
  two_column = λ c l e. beyond c n v left l (at_least_of c n e);
  first_row = λ r l. wider r m mm l;
  first_column = λ c l. wider c n nn l;
  second_row = λ r l. l.1;
  second_column = λ c l. l.1;
}

one_more : (m k : ℕ) → m < m + suc k
one_more m k = omega arith

two_more : (m : ℕ) → m + 1 < m + 2
two_more m = omega arith

module _ (flat1 flat2 : Bool) (e : ℤ) (m n u v : ℕ) (first second : ℕ → ℕ → ℤ) (unit : IsSign e) (one : EndsIn flat1 e m n first) (two : BeginsWithConnector flat2 e u v second) where
  edge1 : (s t w : Bool) → Edge first (λ r. r < m + connecting_rows flat1) (λ c. c < n + connecting_columns flat1) (λ r. r < m) (λ c. c < n) (λ r. first r n) (λ c. first m c) (when w e) s t
  edge1 s t w = go flat1 w one
    where
      go : (f w : Bool) → EndsIn f e m n first
          → Edge first (λ r. r < m + connecting_rows f) (λ c. c < n + connecting_columns f) (λ r. r < m) (λ c. c < n) (λ r. first r n) (λ c. first m c) (when w e) s t
      go true true h = record {
        row = m;
        column = n + 1;
        row_sign = pos 1;
        column_sign = pos 1;
        row_unit = inl refl;
        column_unit = inl refl;
        in_row = λ _. one_more m 0;
        in_column = λ _. two_more n;
        left = λ _ z _. times_one (first m z);
        top = λ _ r l. h.2 r l ∙ times_one (first r n);
        corner = λ _ _. h.1 ∙ (times_one e ∙ times_one (pos 1 *ℤ e));
      }
      go true false h = record {
        row = m;
        column = n;
        row_sign = pos 1;
        column_sign = pos 1;
        row_unit = inl refl;
        column_unit = inl refl;
        in_row = λ _. one_more m 0;
        in_column = λ _. one_more n 1;
        left = λ _ z _. times_one (first m z);
        top = λ _ r l. times_one (first r n);
        corner = λ _ _. h.0 ∙ times_zero (pos 1) (pos 1);
      }
      go false true h = record {
        row = m + 1;
        column = n;
        row_sign = pos 1;
        column_sign = pos 1;
        row_unit = inl refl;
        column_unit = inl refl;
        in_row = λ _. two_more m;
        in_column = λ _. one_more n 0;
        left = λ _ z l. h.2 z l ∙ times_one (first m z);
        top = λ _ r l. times_one (first r n);
        corner = λ _ _. h.1 ∙ (times_one e ∙ times_one (pos 1 *ℤ e));
      }
      go false false h = record {
        row = m;
        column = n;
        row_sign = pos 1;
        column_sign = pos 1;
        row_unit = inl refl;
        column_unit = inl refl;
        in_row = λ _. one_more m 1;
        in_column = λ _. one_more n 0;
        left = λ _ z _. times_one (first m z);
        top = λ _ r l. times_one (first r n);
        corner = λ _ _. h.0 ∙ times_zero (pos 1) (pos 1);
      }

  edge2 : (s t w : Bool)
      → Edge second (λ r. r < connecting_rows flat2 + u) (λ c. c < connecting_columns flat2 + v) (λ r. (connecting_rows flat2 ≤ r) × (r < connecting_rows flat2 + u)) (λ c. (connecting_columns flat2 ≤ c) × (c < connecting_columns flat2 + v)) (λ r. second r 0) (λ c. second 0 c) (when w e) s t
  edge2 s t w = go flat2 w two
    where
      go : (f w : Bool) → BeginsWithConnector f e u v second
          → Edge second (λ r. r < connecting_rows f + u) (λ c. c < connecting_columns f + v) (λ r. (connecting_rows f ≤ r) × (r < connecting_rows f + u)) (λ c. (connecting_columns f ≤ c) × (c < connecting_columns f + v)) (λ r. second r 0) (λ c. second 0 c) (when w e) s t
      go true true h = record {
        row = 0;
        column = 0;
        row_sign = pos 1;
        column_sign = pos 1;
        row_unit = inl refl;
        column_unit = inl refl;
        in_row = λ _. omega arith;
        in_column = λ _. omega arith;
        left = λ _ z _. times_one (second 0 z);
        top = λ _ r l. times_one (second r 0);
        corner = λ _ _. h.0 ∙ (times_one e ∙ times_one (pos 1 *ℤ e));
      }
      go true false h = record {
        row = 0;
        column = 1;
        row_sign = pos 1;
        column_sign = pos 1;
        row_unit = inl refl;
        column_unit = inl refl;
        in_row = λ _. omega arith;
        in_column = λ _. omega arith;
        left = λ _ z _. times_one (second 0 z);
        top = λ _ r l. h.2 r l.0 l.1 ∙ times_one (second r 0);
        corner = λ _ _. h.1 ∙ times_zero (pos 1) (pos 1);
      }
      go false true h = record {
        row = 0;
        column = 0;
        row_sign = pos 1;
        column_sign = pos 1;
        row_unit = inl refl;
        column_unit = inl refl;
        in_row = λ _. omega arith;
        in_column = λ _. omega arith;
        left = λ _ z _. times_one (second 0 z);
        top = λ _ r l. times_one (second r 0);
        corner = λ _ _. h.0 ∙ (times_one e ∙ times_one (pos 1 *ℤ e));
      }
      go false false h = record {
        row = 1;
        column = 0;
        row_sign = pos 1;
        column_sign = pos 1;
        row_unit = inl refl;
        column_unit = inl refl;
        in_row = λ _. omega arith;
        in_column = λ _. omega arith;
        left = λ _ z l. h.2 z l.0 l.1 ∙ times_one (second 0 z);
        top = λ _ r l. times_one (second r 0);
        corner = λ _ _. h.1 ∙ times_zero (pos 1) (pos 1);
      }

  pub three_sum_free : Free (m + connecting_rows flat1) (n + connecting_columns flat1) first
      → Free (connecting_rows flat2 + u) (connecting_columns flat2 + v) second → Free (m + u) (n + v) (sum_along flat2 m n first second)
  three_sum_free free1 free2 w = elim (joined (sum_along flat2 m n first second) first second (λ r. r < m + u) (λ c. c < n + v) (λ r. nat_lt r m) (λ c. nat_lt c n) (λ x. x) (λ x. x) (λ r. connecting_rows flat2 + (r - m)) (λ c. connecting_columns flat2 + (c - n))
      (λ r. first r n) (λ c. second 0 c) (λ c. first m c) (λ r. second r 0) e
      (λ r. r < m) (λ c. c < n) (λ r. (connecting_rows flat2 ≤ r) × (r < connecting_rows flat2 + u)) (λ c. (connecting_columns flat2 ≤ c) × (c < connecting_columns flat2 + v))
      (λ r. r < m + connecting_rows flat1) (λ c. c < n + connecting_columns flat1) (λ r. r < connecting_rows flat2 + u) (λ c. c < connecting_columns flat2 + v)
      (blocks_of m n u v (connecting_rows flat2) (connecting_columns flat2) first (λ r c. first r n *ℤ second 0 c) (λ r c. second r 0 *ℤ first m c) second)
      (sides_of m n u v (connecting_rows flat2) (connecting_columns flat2) (connecting_rows flat1) (connecting_columns flat1)) unit (λ s t w _ _. edge1 s t w) (λ s t w _ _. edge2 s t w) w) [
        | inl x ↦ free1 x
        | inr x ↦ free2 x
      ]

pub two_sum_free : (m n u v : ℕ) (first second : ℕ → ℕ → ℤ) → Free m (n + 1) first → Free (1 + u) v second → Free (m + u) (n + v) (two_blocks m n first second)
two_sum_free m n u v first second free1 free2 w = elim (joined (two_blocks m n first second) first second (λ r. r < m + u) (λ c. c < n + v) (λ r. nat_lt r m) (λ c. nat_lt c n) (λ x. x) (λ x. x) (λ r. 1 + (r - m)) (λ c. 0 + (c - n))
    (λ r. first r n) (λ c. second 0 c) (λ c. pos 0) (λ r. pos 0) (pos 1)
    (λ r. r < m) (λ c. c < n) (λ r. (1 ≤ r) × (r < 1 + u)) (λ c. (0 ≤ c) × (c < 0 + v))
    (λ r. r < m + 0) (λ c. c < n + 1) (λ r. r < 1 + u) (λ c. c < 0 + v)
    (blocks_of m n u v 1 0 first (λ r c. first r n *ℤ second 0 c) (λ r c. pos 0) second)
    (sides_of m n u v 1 0 0 1) (inl refl)
    (λ s t w no _. record {
      row = 0;
      column = n;
      row_sign = pos 1;
      column_sign = pos 1;
      row_unit = inl refl;
      column_unit = inl refl;
      in_row = λ h. absurd (no h (λ _. refl));
      in_column = λ _. one_more n 0;
      left = λ h z _. absurd (no h (λ _. refl));
      top = λ _ r l. times_one (first r n);
      corner = λ h _. absurd (no h (λ _. refl));
    })
    (λ s t w _ no. record {
      row = 0;
      column = 0;
      row_sign = pos 1;
      column_sign = pos 1;
      row_unit = inl refl;
      column_unit = inl refl;
      in_row = λ _. omega arith;
      in_column = λ h. absurd (no h (λ _. refl));
      left = λ _ z _. times_one (second 0 z);
      top = λ h r _. absurd (no h (λ _. refl));
      corner = λ _ h. absurd (no h (λ _. refl));
    }) w) [
      | inl x ↦ free1 (record { R = x.R; C = x.C; rows = all_weaker (λ r. r < m + 0) (λ r. r < m) (λ r l. omega arith) x.R x.rows; columns = x.columns; violator = x.violator })
      | inr x ↦ free2 (record { R = x.R; C = x.C; rows = x.rows; columns = all_weaker (λ c. c < 0 + v) (λ c. c < v) (λ c l. omega arith) x.C x.columns; violator = x.violator })
    ]

pub one_sum_free : (m n u v : ℕ) (first second : ℕ → ℕ → ℤ) → Free m n first → Free u v second → Free (m + u) (n + v) (one_blocks m n first second)
one_sum_free m n u v first second free1 free2 w = elim (joined (one_blocks m n first second) first second (λ r. r < m + u) (λ c. c < n + v) (λ r. nat_lt r m) (λ c. nat_lt c n) (λ x. x) (λ x. x) (λ r. 0 + (r - m)) (λ c. 0 + (c - n))
    (λ r. pos 0) (λ c. pos 0) (λ c. pos 0) (λ r. pos 0) (pos 1)
    (λ r. r < m) (λ c. c < n) (λ r. (0 ≤ r) × (r < 0 + u)) (λ c. (0 ≤ c) × (c < 0 + v))
    (λ r. r < m + 0) (λ c. c < n + 0) (λ r. r < 0 + u) (λ c. c < 0 + v)
    (blocks_of m n u v 0 0 first (λ r c. pos 0) (λ r c. pos 0) second)
    (sides_of m n u v 0 0 0 0) (inl refl)
    (λ s t w no none. record {
      row = 0;
      column = 0;
      row_sign = pos 1;
      column_sign = pos 1;
      row_unit = inl refl;
      column_unit = inl refl;
      in_row = λ h. absurd (no h (λ _. refl));
      in_column = λ h. absurd (none h (λ _. refl));
      left = λ h z _. absurd (no h (λ _. refl));
      top = λ h r _. absurd (none h (λ _. refl));
      corner = λ h _. absurd (no h (λ _. refl));
    })
    (λ s t w no none. record {
      row = 0;
      column = 0;
      row_sign = pos 1;
      column_sign = pos 1;
      row_unit = inl refl;
      column_unit = inl refl;
      in_row = λ h. absurd (no h (λ _. refl));
      in_column = λ h. absurd (none h (λ _. refl));
      left = λ h z _. absurd (no h (λ _. refl));
      top = λ h r _. absurd (none h (λ _. refl));
      corner = λ h _. absurd (no h (λ _. refl));
    }) w) [
      | inl x ↦ free1 (record { R = x.R; C = x.C; rows = all_weaker (λ r. r < m + 0) (λ r. r < m) (λ r l. omega arith) x.R x.rows; columns = all_weaker (λ c. c < n + 0) (λ c. c < n) (λ c l. omega arith) x.C x.columns; violator = x.violator })
      | inr x ↦ free2 (record { R = x.R; C = x.C; rows = all_weaker (λ c. c < 0 + u) (λ c. c < u) (λ c l. omega arith) x.R x.rows; columns = all_weaker (λ c. c < 0 + v) (λ c. c < v) (λ c l. omega arith) x.C x.columns; violator = x.violator })
    ]
