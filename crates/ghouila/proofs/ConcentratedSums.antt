-- The concentrated sum of two matrices without violators has none.
use Rattle.std.proofs.Common.{ℕ, ◌+◌, ◌-◌, ◌<◌, ◌≤◌, ℤ, pos, nat_lt, ◌≡◌, ◌*ℤ◌, ◌-ℤ◌, ◌∙◌, sym, ap₂, refl, arith, subst, inl, inr}
use Rattle.std.proofs.lemmas.Bool.{cases_lt}
use Rattle.cmr_base.specs.Signing.{IsSign}
use Rattle.cmr_base.specs.Separations.{spread, zeros}
use Rattle.cmr_base.specs.MatrixSums.{four_blocks, core_block, IsCore}
use Rattle.cmr_base.proofs.Lists.{all_weaker}
use Rattle.ghouila.proofs.BlockSums.{Free, blocks_of, sides_of}
use Rattle.ghouila.proofs.ConcentratedSides.{concentrated_children}

spread_same : (d x y z w x' y' z' w' a b c e : ℤ) → x ≡ x' → y ≡ y' → z ≡ z' → w ≡ w' → spread d x y z w a b c e ≡ spread d x' y' z' w' a b c e
spread_same d x y z w x' y' z' w' a b c e f g h k = rw (f, g, h, k) refl

pub determinant_same : (x y z w x' y' z' w' : ℤ) → x ≡ x' → y ≡ y' → z ≡ z' → w ≡ w' → x *ℤ w -ℤ y *ℤ z ≡ x' *ℤ w' -ℤ y' *ℤ z'
determinant_same x y z w x' y' z' w' f g h k = rw (f, g, h, k) refl

-- the core is the last lines of the first matrix and the first lines of the second
module _ (m n u v : ℕ) (first second : ℕ → ℕ → ℤ) (long : (2 ≤ u) × (1 ≤ v)) (core : IsCore m n first) (same : (r c : ℕ) → r < 3 → c < 3 → second r c ≡ first (m + r) (n + c))
    (above : (r : ℕ) → r < m → first r (n + 2) ≡ pos 0) (right : (c : ℕ) → 3 ≤ c → c < 2 + v → second 0 c ≡ pos 0) where
  at : (r c a b : ℕ) → r < 3 → c < 3 → m + r ≡ a → n + c ≡ b → second r c ≡ first a b
  at r c a b l k e f = same r c l k ∙ ap₂ (λ (x y : ℕ). first x y) e f

  kp : second 1 0 ≡ first (m + 1) n
  kp = at 1 0 (m + 1) n (omega arith) (omega arith) refl (omega arith)

  kq : second 1 1 ≡ first (m + 1) (n + 1)
  kq = at 1 1 (m + 1) (n + 1) (omega arith) (omega arith) refl refl

  op : second 2 0 ≡ first (m + 2) n
  op = at 2 0 (m + 2) n (omega arith) (omega arith) refl (omega arith)

  oq : second 2 1 ≡ first (m + 2) (n + 1)
  oq = at 2 1 (m + 2) (n + 1) (omega arith) (omega arith) refl refl

  abbrev d : ℤ
  d = second 1 0 *ℤ second 2 1 -ℤ second 1 1 *ℤ second 2 0

  d_is : d ≡ first (m + 1) n *ℤ first (m + 2) (n + 1) -ℤ first (m + 1) (n + 1) *ℤ first (m + 2) n
  d_is = determinant_same (second 1 0) (second 1 1) (second 2 0) (second 2 1) (first (m + 1) n) (first (m + 1) (n + 1)) (first (m + 2) n) (first (m + 2) (n + 1)) kp kq op oq

  zero_above : (r : ℕ) → r < m + 1 → first r (n + 2) ≡ pos 0
  zero_above r l = elim (cases_lt r m) [
    | inl lt ↦ above r lt
    | inr ge ↦ subst (λ (k : ℕ). first k (n + 2) ≡ pos 0) (omega arith) core.zero
  ]

  zero_beside : (c : ℕ) → 2 ≤ c → c < 2 + v → second 0 c ≡ pos 0
  zero_beside c l k = elim (cases_lt 2 c) [
    | inl lt ↦ right c lt k
    | inr ge ↦ subst (λ (x : ℕ). second 0 x ≡ pos 0) (omega arith) (at 0 2 m (n + 2) (omega arith) (omega arith) (omega arith) refl ∙ core.zero)
  ]

  abbrev blocks : ℕ → ℕ → ℤ
  blocks = four_blocks (m + 1) (n + 2) 1 2 first zeros (core_block m first second) second

  pub concentrated_sum_free : Free (m + 3) (n + 3) first → Free (1 + u) (2 + v) second → Free ((m + 1) + u) ((n + 2) + v) blocks
  concentrated_sum_free free1 free2 w =
      let base = blocks_of (m + 1) (n + 2) u v 1 2 first zeros (core_block m first second) second in
      elim (concentrated_children blocks first second (λ r. r < (m + 1) + u) (λ c. c < (n + 2) + v) (λ r. nat_lt r (m + 1)) (λ c. nat_lt c (n + 2)) (λ x. x) (λ x. x) (λ r. 1 + (r - (m + 1))) (λ c. 2 + (c - (n + 2)))
      (λ r. r < m + 1) (λ c. c < n + 2) (λ r. (1 ≤ r) × (r < 1 + u)) (λ c. (2 ≤ c) × (c < 2 + v))
      (λ r. r < (m + 1) + 2) (λ c. c < (n + 2) + 1) (λ r. r < 1 + u) (λ c. c < 2 + v)
      m n (n + 1) (m + 1) (m + 2) (n + 2) 0 0 1 d
      (record {
        one = base.one;
        right = base.right;
        below = λ r x p q e f. base.below r x p q e f ∙ spread_same d (second 1 0) (second 1 1) (second 2 0) (second 2 1) (first (m + 1) n) (first (m + 1) (n + 1)) (first (m + 2) n) (first (m + 2) (n + 1))
            (second (1 + (r - (m + 1))) 0) (second (1 + (r - (m + 1))) 1) (first (m + 1) x) (first (m + 2) x) kp kq op oq;
        two = base.two;
      })
      (sides_of (m + 1) (n + 2) u v 1 2 2 1)
      (record {
        unit_ip = core.g;
        unit_iq = core.h;
        unit_kj = core.s;
        unit_oj = core.t;
        unit_d = subst IsSign (sym d_is) core.determinant;
        det = d_is;
        zero_j = zero_above;
        corner = core.zero;
        zero_i = λ c h. zero_beside c h.0 h.1;
        same_p = at 0 0 m n (omega arith) (omega arith) (omega arith) (omega arith);
        same_q = at 0 1 m (n + 1) (omega arith) (omega arith) (omega arith) refl;
      })
      (record {
        in_i = omega arith;
        in_k = omega arith;
        in_o = omega arith;
        in_p = omega arith;
        in_q = omega arith;
        in_j = omega arith;
        in_i2 = omega arith;
        in_p2 = omega arith;
        in_q2 = let l = long.1 in omega arith;
      }) w) [
        | inl x ↦ free1 (record { R = x.R; C = x.C; rows = all_weaker (λ r. r < (m + 1) + 2) (λ r. r < m + 3) (λ r l. omega arith) x.R x.rows; columns = all_weaker (λ c. c < (n + 2) + 1) (λ c. c < n + 3) (λ c l. omega arith) x.C x.columns; violator = x.violator })
        | inr x ↦ free2 x
      ]
