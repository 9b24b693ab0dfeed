-- The sum of the two matrices of a three-separation of the forms delta, Y and mixed.
use Rattle.std.proofs.Common.{◌≡◌, ◌<◌, ◌≤◌, ◌+◌, ◌-◌, ◌∙◌, ◌++◌, ◌*ℤ◌, ℕ, suc, ℤ, pos, Bool, true, false, List, [], ◌∷◌, map, length, get_or, ap, ap₂, sym, subst, refl, arith, length-append}
use Rattle.cmr_base.specs.declared.separation.Connector.{Connector}
use Rattle.cmr_base.specs.Matrix.{Matrix, height, entry}
use Rattle.cmr_base.specs.LineSets.{submatrix}
use Rattle.cmr_base.specs.Members.{IsIn}
use Rattle.cmr_base.specs.Signing.{IsSign}
use Rattle.cmr_base.specs.Separations.{product_at, corner_product}
use Rattle.cmr_base.specs.MatrixSums.{connecting_rows, connecting_columns, EndsIn, BeginsWithConnector, HaveCornerSum, sum_along, corner_sum}
use Rattle.cmr_base.proofs.Integers.{products}
use Rattle.cmr_base.proofs.Members.{in_at}
use Rattle.cmr_base.proofs.SignEntries.{sign-mul, twice_by_sign}
use Rattle.compose.specs.declared.sides.Sides.{Sides}
use Rattle.compose.specs.declared.signed_line.SignedLine.{SignedLine}
use Rattle.compose.specs.Arrangements.{signed, plain, signed_submatrix, last_rows, last_columns, begin_rows, begin_columns}
use Rattle.compose.proofs.OrderedBlocks.{blocks_ordered, filled_is}
use Rattle.compose.proofs.SignedPlaces.{at, at_plain, at_after, at_next, length-framed, height-signed, entry_of, factors_swapped, ones, one_left, one_right}

-- the other line of the first connector, and of the second
abbrev pub IsFirstOther : (ℕ → ℕ → ℤ) → Bool → Sides → (first second : Connector) → Type 0
IsFirstOther M true s f g = IsIn f.other s.columns_one × (M f.row f.other ≡ pos 0) × IsSign (M g.row f.other)
IsFirstOther M false s f g = IsIn f.other s.rows_one × (M f.other f.column ≡ pos 0) × IsSign (M f.other g.column)

abbrev pub IsSecondOther : (ℕ → ℕ → ℤ) → Bool → Sides → (first second : Connector) → Type 0
IsSecondOther M true s f g = IsIn g.other s.columns_two × (M g.row g.other ≡ pos 0) × IsSign (M f.row g.other)
IsSecondOther M false s f g = IsIn g.other s.rows_two × (M g.other g.column ≡ pos 0) × IsSign (M g.other f.column)

-- the properties of the sides of a separation
pub record AreCornered (M : ℕ → ℕ → ℤ) (flat1 flat2 : Bool) (s : Sides) (f g : Connector) : Type 0 where
  pub row_i : IsIn f.row s.rows_one
  pub column_p : IsIn f.column s.columns_one
  pub row_k : IsIn g.row s.rows_two
  pub column_j : IsIn g.column s.columns_two
  pub unit_ip : IsSign (M f.row f.column)
  pub unit_kj : IsSign (M g.row g.column)
  pub unit_ij : IsSign (M f.row g.column)
  pub unit_kp : IsSign (M g.row f.column)
  pub other1 : IsFirstOther M flat1 s f g
  pub other2 : IsSecondOther M flat2 s f g
  pub upper : (r c : ℕ) → IsIn r s.rows_one → IsIn c s.columns_two → M r c ≡ product_at M f.row g.column r c
  pub lower : (r c : ℕ) → IsIn r s.rows_two → IsIn c s.columns_one → M r c ≡ product_at M g.row f.column r c

around : (s x : ℤ) → IsSign s → pos 1 *ℤ (s *ℤ (x *ℤ s)) ≡ x
around s x u = one_right s (x *ℤ s) ∙ sym (twice_by_sign s x u)

pair_cancel : (a b x : ℤ) → IsSign a → IsSign b → (a *ℤ b) *ℤ (pos 1 *ℤ (a *ℤ (x *ℤ b))) ≡ x
pair_cancel a b x u v = turn a b x ∙ (ap (λ (z : ℤ). a *ℤ (z *ℤ a)) (sym (twice_by_sign b x v)) ∙ sym (twice_by_sign a x u))
  where
    turn : (a b x : ℤ) → (a *ℤ b) *ℤ (pos 1 *ℤ (a *ℤ (x *ℤ b))) ≡ a *ℤ ((b *ℤ (x *ℤ b)) *ℤ a)
    turn a b x = simp products

corner_is : (a b c d : ℤ) → IsSign d → (a *ℤ b) *ℤ (c *ℤ d) ≡ pos 1 → b *ℤ (c *ℤ a) ≡ d
corner_is a b c d u h = twice_by_sign d (b *ℤ (c *ℤ a)) u ∙ (turn a b c d ∙ (ap (λ (z : ℤ). d *ℤ z) h ∙ last d))
  where
    turn : (a b c d : ℤ) → d *ℤ ((b *ℤ (c *ℤ a)) *ℤ d) ≡ d *ℤ ((a *ℤ b) *ℤ (c *ℤ d))
    turn a b c d = simp products

    last : (d : ℤ) → d *ℤ pos 1 ≡ d
    last d = simp products

twice_left : (s x t : ℤ) → IsSign s → s *ℤ (s *ℤ (x *ℤ t)) ≡ t *ℤ x
twice_left s x t u = turn s x t ∙ sym (twice_by_sign s (t *ℤ x) u)
  where
    turn : (s x t : ℤ) → s *ℤ (s *ℤ (x *ℤ t)) ≡ s *ℤ ((t *ℤ x) *ℤ s)
    turn s x t = simp products

twice_inside : (s x t : ℤ) → IsSign s → s *ℤ (x *ℤ (s *ℤ t)) ≡ t *ℤ x
twice_inside s x t u = turn s x t ∙ sym (twice_by_sign s (t *ℤ x) u)
  where
    turn : (s x t : ℤ) → s *ℤ (x *ℤ (s *ℤ t)) ≡ s *ℤ ((t *ℤ x) *ℤ s)
    turn s x t = simp products

zero_end : (s t z : ℤ) → z ≡ pos 0 → s *ℤ (t *ℤ z) ≡ pos 0
zero_end s t z e = ap (λ (x : ℤ). s *ℤ (t *ℤ x)) e ∙ none s t
  where
    none : (s t : ℤ) → s *ℤ (t *ℤ pos 0) ≡ pos 0
    none s t = simp products

turn_below : (u x y : ℤ) → (u *ℤ x) *ℤ y ≡ x *ℤ (y *ℤ u)
turn_below u x y = simp products

ends_at : (f : Bool) (e : ℤ) (F : ℕ → ℕ → ℤ) (x y x' y' : ℕ) → x ≡ x' → y ≡ y' → EndsIn f e x' y' F → EndsIn f e x y F
ends_at f e F x y x' y' ex ey h = subst (λ (z : ℕ). EndsIn f e z y F) (sym ex) (subst (λ (z : ℕ). EndsIn f e x' z F) (sym ey) h)

begins_at : (f : Bool) (e : ℤ) (F : ℕ → ℕ → ℤ) (x y x' y' : ℕ) → x ≡ x' → y ≡ y' → BeginsWithConnector f e x' y' F → BeginsWithConnector f e x y F
begins_at f e F x y x' y' ex ey h = subst (λ (z : ℕ). BeginsWithConnector f e z y F) (sym ex) (subst (λ (z : ℕ). BeginsWithConnector f e x' z F) (sym ey) h)

-- a position from 1 on is the successor of a position
earlier : (r u : ℕ) → 1 ≤ r → r < 1 + u → (x : ℕ) × (r ≡ 1 + x) × (x < u)
earlier r u l k = (r - 1, omega arith, omega arith)

taken : (n c l : ℕ) → n ≡ l + c → n - c ≡ l
taken n c l e = omega arith

taken_prefix : (n c l : ℕ) → n ≡ c + l → n - c ≡ l
taken_prefix n c l e = omega arith

module _ (m : Matrix) (flat1 flat2 : Bool) (s : Sides) (f g : Connector) (t : AreCornered (entry m) flat1 flat2 s f g) (plus : corner_product (entry m) f g ≡ pos 1) where
  abbrev R1 : List ℕ
  R1 = s.rows_one

  abbrev C1 : List ℕ
  C1 = s.columns_one

  abbrev R2 : List ℕ
  R2 = s.rows_two

  abbrev C2 : List ℕ
  C2 = s.columns_two

  abbrev M : ℕ → ℕ → ℤ
  M = entry m

  abbrev i : ℕ
  i = f.row

  abbrev p : ℕ
  p = f.column

  abbrev q : ℕ
  q = f.other

  abbrev k : ℕ
  k = g.row

  abbrev j : ℕ
  j = g.column

  abbrev o : ℕ
  o = g.other

  abbrev lr : Bool → List SignedLine
  lr b = last_rows M b R1 f g

  abbrev lc : Bool → List SignedLine
  lc b = last_columns M b C1 f g

  abbrev br : Bool → List SignedLine
  br b = begin_rows M b R2 f g

  abbrev bc : Bool → List SignedLine
  bc b = begin_columns M b C2 f g

  abbrev first : Bool → Matrix
  first b = signed_submatrix m (lr b) (lc b)

  abbrev second : Bool → Matrix
  second b = signed_submatrix m (br b) (bc b)

  length-lr : (b : Bool) → length (lr b) ≡ length R1 + connecting_rows b
  length-lr true = let e = length-framed [] R1 (plain k ∷ []) in omega arith
  length-lr false = let e = length-framed [] R1 (signed o (M o p *ℤ M k p) ∷ plain k ∷ []) in omega arith

  length-lc : (b : Bool) → length (lc b) ≡ length C1 + connecting_columns b
  length-lc true = let e = length-framed [] C1 (signed o (M i o *ℤ M i j) ∷ plain j ∷ []) in omega arith
  length-lc false = let e = length-framed [] C1 (plain j ∷ []) in omega arith

  length-br : (b : Bool) → length (br b) ≡ connecting_rows b + length R2
  length-br true = let e = length-framed (signed i (M i j) ∷ []) R2 [] in omega arith
  length-br false = let e = length-framed (signed i (M i j) ∷ signed q (M q j) ∷ []) R2 [] in omega arith

  length-bc : (b : Bool) → length (bc b) ≡ connecting_columns b + length C2
  length-bc true = let e = length-framed (signed p (M k p) ∷ signed q (M k q) ∷ []) C2 [] in omega arith
  length-bc false = let e = length-framed (signed p (M k p) ∷ []) C2 [] in omega arith

  first_height : (b : Bool) → height (first b) ≡ length R1 + connecting_rows b
  first_height b = height-signed m (lr b) (lc b) ∙ length-lr b

  second_height : (b : Bool) → height (second b) ≡ connecting_rows b + length R2
  second_height b = height-signed m (br b) (bc b) ∙ length-br b

  row1_at : (b : Bool) (a : ℕ) → a < length R1 → at (lr b) a ≡ plain (get_or R1 a 0)
  row1_at true a l = at_plain R1 (plain k ∷ []) a l
  row1_at false a l = at_plain R1 (signed o (M o p *ℤ M k p) ∷ plain k ∷ []) a l

  column1_at : (b : Bool) (a : ℕ) → a < length C1 → at (lc b) a ≡ plain (get_or C1 a 0)
  column1_at true a l = at_plain C1 (signed o (M i o *ℤ M i j) ∷ plain j ∷ []) a l
  column1_at false a l = at_plain C1 (plain j ∷ []) a l

  row2_at : (b : Bool) (a : ℕ) → a < length R2 → at (br b) (connecting_rows b + a) ≡ plain (get_or R2 a 0)
  row2_at true a l = at_next (signed i (M i j)) (map plain R2 ++ []) (1 + a) a (omega arith) ∙ at_plain R2 [] a l
  row2_at false a l = at_next (signed i (M i j)) (signed q (M q j) ∷ (map plain R2 ++ [])) (2 + a) (suc a) (omega arith) ∙ at_plain R2 [] a l

  column2_at : (b : Bool) (a : ℕ) → a < length C2 → at (bc b) (connecting_columns b + a) ≡ plain (get_or C2 a 0)
  column2_at true a l = at_next (signed p (M k p)) (signed q (M k q) ∷ (map plain C2 ++ [])) (2 + a) (suc a) (omega arith) ∙ at_plain C2 [] a l
  column2_at false a l = at_next (signed p (M k p)) (map plain C2 ++ []) (1 + a) a (omega arith) ∙ at_plain C2 [] a l

  first_inner : (b : Bool) (x y : ℕ) → x < length R1 → y < length C1 → entry (first b) x y ≡ M (get_or R1 x 0) (get_or C1 y 0)
  first_inner b x y lx ly = entry_of m (lr b) (lc b) x y (get_or R1 x 0) (get_or C1 y 0) (pos 1) (pos 1) (row1_at b x lx) (column1_at b y ly) ∙ ones (M (get_or R1 x 0) (get_or C1 y 0))

  second_inner : (b : Bool) (x y : ℕ) → x < length R2 → y < length C2 → entry (second b) (connecting_rows b + x) (connecting_columns b + y) ≡ M (get_or R2 x 0) (get_or C2 y 0)
  second_inner b x y lx ly = entry_of m (br b) (bc b) (connecting_rows b + x) (connecting_columns b + y) (get_or R2 x 0) (get_or C2 y 0) (pos 1) (pos 1) (row2_at b x lx) (column2_at b y ly) ∙ ones (M (get_or R2 x 0) (get_or C2 y 0))

  -- the column a, the row c, the column d and the row b
  column_a : (b : Bool) → IsSecondOther M b s f g → (a : ℕ) → a < length R1 → entry (first b) a (length C1) ≡ M (get_or R1 a 0) j
  column_a true other a l =
      entry_of m (lr true) (lc true) a (length C1) (get_or R1 a 0) o (pos 1) (M i o *ℤ M i j) (row1_at true a l) (at_after C1 (signed o (M i o *ℤ M i j) ∷ plain j ∷ []) (length C1) 0 (omega arith))
      ∙ (ap (λ (z : ℤ). pos 1 *ℤ ((M i o *ℤ M i j) *ℤ z)) (t.upper (get_or R1 a 0) o (in_at R1 a l) other.0) ∙ around (M i o *ℤ M i j) (M (get_or R1 a 0) j) (sign-mul (M i o) (M i j) other.2 t.unit_ij))
  column_a false other a l =
      entry_of m (lr false) (lc false) a (length C1) (get_or R1 a 0) j (pos 1) (pos 1) (row1_at false a l) (at_after C1 (plain j ∷ []) (length C1) 0 (omega arith)) ∙ ones (M (get_or R1 a 0) j)

  row_c : (b : Bool) → IsSecondOther M b s f g → (a : ℕ) → a < length C1 → entry (first b) (length R1) a ≡ M k (get_or C1 a 0)
  row_c true other a l =
      entry_of m (lr true) (lc true) (length R1) a k (get_or C1 a 0) (pos 1) (pos 1) (at_after R1 (plain k ∷ []) (length R1) 0 (omega arith)) (column1_at true a l) ∙ ones (M k (get_or C1 a 0))
  row_c false other a l =
      entry_of m (lr false) (lc false) (length R1) a o (get_or C1 a 0) (M o p *ℤ M k p) (pos 1) (at_after R1 (signed o (M o p *ℤ M k p) ∷ plain k ∷ []) (length R1) 0 (omega arith)) (column1_at false a l)
      ∙ (ap (λ (z : ℤ). (M o p *ℤ M k p) *ℤ (pos 1 *ℤ z)) (t.lower o (get_or C1 a 0) other.0 (in_at C1 a l)) ∙ pair_cancel (M o p) (M k p) (M k (get_or C1 a 0)) other.2 t.unit_kp)

  column_d : (b : Bool) (a : ℕ) → a < length R2 → entry (second b) (connecting_rows b + a) 0 ≡ M k p *ℤ M (get_or R2 a 0) p
  column_d true a l = entry_of m (br true) (bc true) (1 + a) 0 (get_or R2 a 0) p (pos 1) (M k p) (row2_at true a l) refl ∙ one_right (M k p) (M (get_or R2 a 0) p)
  column_d false a l = entry_of m (br false) (bc false) (2 + a) 0 (get_or R2 a 0) p (pos 1) (M k p) (row2_at false a l) refl ∙ one_right (M k p) (M (get_or R2 a 0) p)

  row_b : (b : Bool) (a : ℕ) → a < length C2 → entry (second b) 0 (connecting_columns b + a) ≡ M i j *ℤ M i (get_or C2 a 0)
  row_b true a l = entry_of m (br true) (bc true) 0 (2 + a) i (get_or C2 a 0) (M i j) (pos 1) refl (column2_at true a l) ∙ one_left (M i j) (M i (get_or C2 a 0))
  row_b false a l = entry_of m (br false) (bc false) 0 (1 + a) i (get_or C2 a 0) (M i j) (pos 1) refl (column2_at false a l) ∙ one_left (M i j) (M i (get_or C2 a 0))

  first_ends : (b : Bool) → IsSecondOther M b s f g → EndsIn b (M k j) (length R1) (length C1) (entry (first b))
  first_ends true other = (
    entry_of m (lr true) (lc true) (length R1) (length C1) k o (pos 1) (M i o *ℤ M i j) (at_after R1 (plain k ∷ []) (length R1) 0 (omega arith)) (at_after C1 (signed o (M i o *ℤ M i j) ∷ plain j ∷ []) (length C1) 0 (omega arith))
        ∙ zero_end (pos 1) (M i o *ℤ M i j) (M k o) other.1,
    entry_of m (lr true) (lc true) (length R1) (length C1 + 1) k j (pos 1) (pos 1) (at_after R1 (plain k ∷ []) (length R1) 0 (omega arith)) (at_after C1 (signed o (M i o *ℤ M i j) ∷ plain j ∷ []) (length C1 + 1) 1 refl) ∙ ones (M k j),
    λ r l. entry_of m (lr true) (lc true) r (length C1 + 1) (get_or R1 r 0) j (pos 1) (pos 1) (row1_at true r l) (at_after C1 (signed o (M i o *ℤ M i j) ∷ plain j ∷ []) (length C1 + 1) 1 refl)
        ∙ (ones (M (get_or R1 r 0) j) ∙ sym (column_a true other r l)),
  )
  first_ends false other = (
    entry_of m (lr false) (lc false) (length R1) (length C1) o j (M o p *ℤ M k p) (pos 1) (at_after R1 (signed o (M o p *ℤ M k p) ∷ plain k ∷ []) (length R1) 0 (omega arith)) (at_after C1 (plain j ∷ []) (length C1) 0 (omega arith))
        ∙ zero_end (M o p *ℤ M k p) (pos 1) (M o j) other.1,
    entry_of m (lr false) (lc false) (length R1 + 1) (length C1) k j (pos 1) (pos 1) (at_after R1 (signed o (M o p *ℤ M k p) ∷ plain k ∷ []) (length R1 + 1) 1 refl) (at_after C1 (plain j ∷ []) (length C1) 0 (omega arith)) ∙ ones (M k j),
    λ c l. entry_of m (lr false) (lc false) (length R1 + 1) c k (get_or C1 c 0) (pos 1) (pos 1) (at_after R1 (signed o (M o p *ℤ M k p) ∷ plain k ∷ []) (length R1 + 1) 1 refl) (column1_at false c l)
        ∙ (ones (M k (get_or C1 c 0)) ∙ sym (row_c false other c l)),
  )

  second_begins : (b : Bool) → IsFirstOther M b s f g → BeginsWithConnector b (M k j) (length R2) (length C2) (entry (second b))
  second_begins true other = (
    entry_of m (br true) (bc true) 0 0 i p (M i j) (M k p) refl refl ∙ corner_is (M i p) (M i j) (M k p) (M k j) t.unit_kj plus,
    entry_of m (br true) (bc true) 0 1 i q (M i j) (M k q) refl refl ∙ zero_end (M i j) (M k q) (M i q) other.1,
    λ r l h. let e = earlier r (length R2) l h in subst (λ (y : ℕ). entry (second true) y 1 ≡ entry (second true) y 0) (sym e.1)
        (entry_of m (br true) (bc true) (1 + e.0) 1 (get_or R2 e.0 0) q (pos 1) (M k q) (row2_at true e.0 e.2) refl
        ∙ (ap (λ (z : ℤ). pos 1 *ℤ (M k q *ℤ z)) (t.lower (get_or R2 e.0 0) q (in_at R2 e.0 e.2) other.0)
        ∙ (one_right (M k q) (M (get_or R2 e.0 0) p *ℤ (M k q *ℤ M k p)) ∙ (twice_inside (M k q) (M (get_or R2 e.0 0) p) (M k p) other.2 ∙ sym (column_d true e.0 e.2))))),
  )
  second_begins false other = (
    entry_of m (br false) (bc false) 0 0 i p (M i j) (M k p) refl refl ∙ corner_is (M i p) (M i j) (M k p) (M k j) t.unit_kj plus,
    entry_of m (br false) (bc false) 1 0 q p (M q j) (M k p) refl refl ∙ zero_end (M q j) (M k p) (M q p) other.1,
    λ c l h. let e = earlier c (length C2) l h in subst (λ (y : ℕ). entry (second false) 1 y ≡ entry (second false) 0 y) (sym e.1)
        (entry_of m (br false) (bc false) 1 (1 + e.0) q (get_or C2 e.0 0) (M q j) (pos 1) refl (column2_at false e.0 e.2)
        ∙ (ap (λ (z : ℤ). M q j *ℤ (pos 1 *ℤ z)) (t.upper q (get_or C2 e.0 0) other.0 (in_at C2 e.0 e.2))
        ∙ (one_left (M q j) (M q j *ℤ (M i (get_or C2 e.0 0) *ℤ M i j)) ∙ (twice_left (M q j) (M i (get_or C2 e.0 0)) (M i j) other.2 ∙ sym (row_b false e.0 e.2))))),
  )

  abbrev F : Matrix
  F = first flat2

  abbrev S : Matrix
  S = second flat1

  before_rows : height F - connecting_rows flat2 ≡ length R1
  before_rows = taken (height F) (connecting_rows flat2) (length R1) (first_height flat2)

  before_columns : F.width - connecting_columns flat2 ≡ length C1
  before_columns = taken F.width (connecting_columns flat2) (length C1) (length-lc flat2)

  after_rows : height S - connecting_rows flat1 ≡ length R2
  after_rows = taken_prefix (height S) (connecting_rows flat1) (length R2) (second_height flat1)

  after_columns : S.width - connecting_columns flat1 ≡ length C2
  after_columns = taken_prefix S.width (connecting_columns flat1) (length C2) (length-bc flat1)

  pub corner_connected : HaveCornerSum flat1 flat2 F S
  corner_connected = record {
    first_rows = let e = first_height flat2 in omega arith;
    first_columns = let e = length-lc flat2 in omega arith;
    second_rows = let e = second_height flat1 in omega arith;
    second_columns = let e = length-bc flat1 in omega arith;
    corner = M k j;
    sign = t.unit_kj;
    one = ends_at flat2 (M k j) (entry F) (height F - connecting_rows flat2) (F.width - connecting_columns flat2) (length R1) (length C1) before_rows before_columns (first_ends flat2 t.other2);
    two = begins_at flat1 (M k j) (entry S) (height S - connecting_rows flat1) (S.width - connecting_columns flat1) (length R2) (length C2) after_rows after_columns (second_begins flat1 t.other1);
  }

  pub corner_whole : corner_sum flat1 flat2 F S ≡ submatrix m (R1 ++ R2) (C1 ++ C2)
  corner_whole = filled_is m (R1 ++ R2) (C1 ++ C2)
      ((height F - connecting_rows flat2) + (height S - connecting_rows flat1)) ((F.width - connecting_columns flat2) + (S.width - connecting_columns flat1))
      (sum_along flat1 (height F - connecting_rows flat2) (F.width - connecting_columns flat2) (entry F) (entry S))
      (ap₂ (λ (x y : ℕ). x + y) before_rows after_rows ∙ sym (length-append R1 R2)) (ap₂ (λ (x y : ℕ). x + y) before_columns after_columns ∙ sym (length-append C1 C2))
      (λ a b la lb. ap₂ (λ (x y : ℕ). sum_along flat1 x y (entry F) (entry S) a b) before_rows before_columns
      ∙ blocks_ordered M R1 C1 R2 C2 (connecting_rows flat1) (connecting_columns flat1) (entry F) (λ r c. entry F r (length C1) *ℤ entry S 0 c) (λ r c. entry S r 0 *ℤ entry F (length R1) c) (entry S)
      (first_inner flat2)
      (λ x y lx ly. ap₂ (λ (u v : ℤ). u *ℤ v) (column_a flat2 t.other2 x lx) (row_b flat1 y ly)
      ∙ (factors_swapped (M (get_or R1 x 0) j) (M i j) (M i (get_or C2 y 0)) ∙ sym (t.upper (get_or R1 x 0) (get_or C2 y 0) (in_at R1 x lx) (in_at C2 y ly))))
      (λ x y lx ly. ap₂ (λ (u v : ℤ). u *ℤ v) (column_d flat1 x lx) (row_c flat2 t.other2 y ly)
      ∙ (turn_below (M k p) (M (get_or R2 x 0) p) (M k (get_or C1 y 0)) ∙ sym (t.lower (get_or R2 x 0) (get_or C1 y 0) (in_at R2 x lx) (in_at C1 y ly))))
      (second_inner flat1) a b (let e = length-append R1 R2 in omega arith) (let e = length-append C1 C2 in omega arith))
