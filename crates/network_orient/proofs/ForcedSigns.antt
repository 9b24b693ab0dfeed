-- The signs of an agreement of two matrices in a group of columns, up to one factor.
use Rattle.std.proofs.Common.{◌≡◌, ◌≢◌, ◌<◌, ◌≤◌, ◌∙◌, ◌⊎◌, inl, inr, ◌+◌, ◌*ℤ◌, w8, to_z, of_z, ℕ, zero, suc, ℤ, pos, negsuc, List, length, replicate, refl, ap, ap₂, sym, subst, arith}
use Rattle.std.proofs.lemmas.Bool.{cases_eq, cases_lt}
use Rattle.std.proofs.lemmas.List.{get_or-replicate, get_or_past, length-replicate}
use Rattle.std.proofs.lemmas.List.FromFn.{get_or-range_with_len, length-range_with_len}
use Rattle.cmr_base.specs.Matrix.{Matrix, entry, IsEntry}
use Rattle.cmr_base.specs.LineSets.{first_lines}
use Rattle.cmr_base.specs.Signing.{IsSign}
use Rattle.cmr_base.specs.Supports.{HaveOneSupport}
use Rattle.cmr_base.proofs.Integers.{products, sums, mul_assoc, mul_comm, mul-zero, one-mul}
use Rattle.cmr_base.proofs.SignEntries.{sign_is_entry}
use Rattle.ghouila.proofs.Bytes.{product_bytes}
use Rattle.ghouila.proofs.SignProducts.{sign-mul, sign_square}
use Rattle.network_orient.specs.SignedGroups.{AgreeBefore, AreSignedGroups, IsCoarser, IsMerged, IsRowForced, IsRowJoined, IsRowMultiplied, KeepsProducts, group_of, sign_of, row_sign_by}

-- each column in a group of its own
pub own_groups : (m n : Matrix) → AreSignedGroups m n 0 (first_lines m.width) (replicate m.width (pos 1))
own_groups m n = record {
  group_each = length-range_with_len 0 m.width;
  sign_each = length-replicate m.width (pos 1);
  each_sign = λ column. inl (one column (cases_lt column m.width));
  forced = λ agreement c d lc ld e. forced agreement c d lc ld (sym (get_or-range_with_len 0 m.width c 0 lc) ∙ e ∙ get_or-range_with_len 0 m.width d 0 ld);
}
  where
    one : (column : ℕ) → (column < m.width) ⊎ (m.width ≤ column) → sign_of (replicate m.width (pos 1)) column ≡ pos 1
    one column (inl l) = get_or-replicate m.width column (pos 1) (pos 1) l
    one column (inr l) = get_or_past (replicate m.width (pos 1)) column (pos 1) (omega (arith, l, length-replicate m.width (pos 1)))

    forced : (agreement : AgreeBefore (entry m) (entry n) 0) (c d : ℕ) → c < m.width → d < m.width → 0 + c ≡ 0 + d
        → sign_of (replicate m.width (pos 1)) c *ℤ sign_of (replicate m.width (pos 1)) d ≡ agreement.column_sign c *ℤ agreement.column_sign d
    forced agreement c d lc ld e =
        let same : c ≡ d = omega arith in
        ap₂ (λ x y. x *ℤ y) (one c (inl lc)) (one d (inl ld)) ∙ sym (ap (λ k. agreement.column_sign c *ℤ agreement.column_sign k) (sym same) ∙ sign_square (agreement.column_sign c) (agreement.column_signs c))

-- a property of all signs that turn the first rows is a property of all signs that turn more rows
abbrev agree_earlier : (M N : ℕ → ℕ → ℤ) (count later : ℕ) → count ≤ later → AgreeBefore M N later → AgreeBefore M N count
agree_earlier M N count later fits agreement = record {
  row_sign = agreement.row_sign;
  column_sign = agreement.column_sign;
  row_signs = agreement.row_signs;
  column_signs = agreement.column_signs;
  entries = λ row column l. agreement.entries row column (omega (arith, l, fits));
}

pub groups_later : (m n : Matrix) (count later : ℕ) (groups : List ℕ) (signs : List ℤ) → count ≤ later → AreSignedGroups m n count groups signs → AreSignedGroups m n later groups signs
groups_later m n count later groups signs fits all = record {
  group_each = all.group_each;
  sign_each = all.sign_each;
  each_sign = all.each_sign;
  forced = λ agreement. all.forced (agree_earlier (entry m) (entry n) count later fits agreement);
}

-- ---- products of signs

square_left : (s x : ℤ) → s *ℤ s ≡ pos 1 → s *ℤ (s *ℤ x) ≡ x
square_left s x e = sym (mul_assoc s s x) ∙ ap (λ z. z *ℤ x) e ∙ one-mul x

-- the equation of a row for the product of the signs of two columns
row_says : (s t a b r u v : ℤ) → IsSign a → IsSign b → IsSign r → (s *ℤ (a *ℤ (r *ℤ (u *ℤ a)))) *ℤ (t *ℤ (b *ℤ (r *ℤ (v *ℤ b)))) ≡ (s *ℤ t) *ℤ (u *ℤ v)
row_says s t a b r u v ia ib ir =
    ap₂ (λ x y. (s *ℤ x) *ℤ (t *ℤ y)) (inner a u ia) (inner b v ib)
    ∙ outer s t u v
  where
    inner : (a u : ℤ) → IsSign a → a *ℤ (r *ℤ (u *ℤ a)) ≡ r *ℤ u
    inner a u ia = moved a u ∙ square_left a (r *ℤ u) (sign_square a ia)
      where
        moved : (a u : ℤ) → a *ℤ (r *ℤ (u *ℤ a)) ≡ a *ℤ (a *ℤ (r *ℤ u))
        moved a u = simp products

    outer : (s t u v : ℤ) → (s *ℤ (r *ℤ u)) *ℤ (t *ℤ (r *ℤ v)) ≡ (s *ℤ t) *ℤ (u *ℤ v)
    outer s t u v = moved s t u v ∙ square_left r ((s *ℤ t) *ℤ (u *ℤ v)) (sign_square r ir)
      where
        moved : (s t u v : ℤ) → (s *ℤ (r *ℤ u)) *ℤ (t *ℤ (r *ℤ v)) ≡ r *ℤ (r *ℤ ((s *ℤ t) *ℤ (u *ℤ v)))
        moved s t u v = simp products

-- a column of one group and a column of the other, if a factor joins the groups
across : (x y s t f u v w z : ℤ) → IsSign u → IsSign v → f ≡ (s *ℤ t) *ℤ (u *ℤ v) → x *ℤ t ≡ w *ℤ v → y *ℤ s ≡ z *ℤ u → (x *ℤ f) *ℤ y ≡ w *ℤ z
across x y s t f u v w z iu iv e p q =
    ap (λ k. (x *ℤ k) *ℤ y) e ∙ gather x y s t u v ∙ ap₂ (λ k l. (k *ℤ l) *ℤ (u *ℤ v)) p q ∙ spread w z u v
    ∙ square_left u (v *ℤ (v *ℤ (w *ℤ z))) (sign_square u iu) ∙ square_left v (w *ℤ z) (sign_square v iv)
  where
    gather : (x y s t u v : ℤ) → (x *ℤ ((s *ℤ t) *ℤ (u *ℤ v))) *ℤ y ≡ ((x *ℤ t) *ℤ (y *ℤ s)) *ℤ (u *ℤ v)
    gather x y s t u v = simp products

    spread : (w z u v : ℤ) → ((w *ℤ v) *ℤ (z *ℤ u)) *ℤ (u *ℤ v) ≡ u *ℤ (u *ℤ (v *ℤ (v *ℤ (w *ℤ z))))
    spread w z u v = simp products

both_moved : (x y f : ℤ) → IsSign f → (x *ℤ f) *ℤ (y *ℤ f) ≡ x *ℤ y
both_moved x y f i = moved x y f ∙ square_left f (x *ℤ y) (sign_square f i)
  where
    moved : (x y f : ℤ) → (x *ℤ f) *ℤ (y *ℤ f) ≡ f *ℤ (f *ℤ (x *ℤ y))
    moved x y f = simp products

-- an entry of a row, if a column gives the row its sign
multiplied_entry : (s t a b r u v : ℤ) → IsSign a → IsSign u → s *ℤ t ≡ u *ℤ v → r *ℤ (v *ℤ b) ≡ (s *ℤ (a *ℤ (r *ℤ (u *ℤ a)))) *ℤ (t *ℤ b)
multiplied_entry s t a b r u v ia iu e =
    sym (gather s t a b r u
    ∙ square_left a ((s *ℤ t) *ℤ (r *ℤ (u *ℤ b))) (sign_square a ia)
    ∙ ap (λ k. k *ℤ (r *ℤ (u *ℤ b))) e ∙ spread u v r b
    ∙ square_left u (r *ℤ (v *ℤ b)) (sign_square u iu))
  where
    gather : (s t a b r u : ℤ) → (s *ℤ (a *ℤ (r *ℤ (u *ℤ a)))) *ℤ (t *ℤ b) ≡ a *ℤ (a *ℤ ((s *ℤ t) *ℤ (r *ℤ (u *ℤ b))))
    gather s t a b r u = simp products

    spread : (u v r b : ℤ) → (u *ℤ v) *ℤ (r *ℤ (u *ℤ b)) ≡ u *ℤ (u *ℤ (r *ℤ (v *ℤ b)))
    spread u v r b = simp products

times_zero : (s t : ℤ) → s *ℤ (t *ℤ pos 0) ≡ pos 0
times_zero s t = simp products

-- ---- groups joined

pub merged_coarser : (width : ℕ) (groups new_groups : List ℕ) (signs new_signs : List ℤ) (replaced stays : ℕ) (factor : ℤ) → width ≡ length groups
    → IsMerged groups signs new_groups new_signs replaced stays factor → IsCoarser width groups new_groups
merged_coarser width groups new_groups signs new_signs replaced stays factor same merged c d lc ld e = go (cases_eq (group_of groups c) replaced)
  where
    go : (group_of groups c ≡ replaced) ⊎ (group_of groups c ≢ replaced) → group_of new_groups c ≡ group_of new_groups d
    go (inl f) = (merged.moved c (omega (arith, lc, same)) f).0 ∙ sym (merged.moved d (omega (arith, ld, same)) (sym e ∙ f)).0
    go (inr k) = (merged.others c (omega (arith, lc, same)) k).0 ∙ e ∙ sym (merged.others d (omega (arith, ld, same)) (λ f. k (e ∙ f))).0

pub merged_products : (width : ℕ) (groups new_groups : List ℕ) (signs new_signs : List ℤ) (replaced stays : ℕ) (factor : ℤ) → width ≡ length groups → IsSign factor
    → IsMerged groups signs new_groups new_signs replaced stays factor → KeepsProducts width groups signs new_signs
merged_products width groups new_groups signs new_signs replaced stays factor same factor_sign merged c d lc ld e = go (cases_eq (group_of groups c) replaced)
  where
    go : (group_of groups c ≡ replaced) ⊎ (group_of groups c ≢ replaced) → sign_of new_signs c *ℤ sign_of new_signs d ≡ sign_of signs c *ℤ sign_of signs d
    go (inl f) =
        ap₂ (λ x y. x *ℤ y) (merged.moved c (omega (arith, lc, same)) f).1 (merged.moved d (omega (arith, ld, same)) (sym e ∙ f)).1
        ∙ both_moved (sign_of signs c) (sign_of signs d) factor factor_sign
    go (inr k) = ap₂ (λ x y. x *ℤ y) (merged.others c (omega (arith, lc, same)) k).1 (merged.others d (omega (arith, ld, same)) (λ f. k (e ∙ f))).1

module _ (m n : Matrix) where
  -- two columns in which a row has nonzeros
  pub joined_groups : (row first other : ℕ) (groups new_groups : List ℕ) (signs new_signs : List ℤ) (factor : ℤ) → first < m.width → other < m.width
      → IsSign (entry m row first) → IsSign (entry m row other) → IsSign factor
      → factor ≡ row_sign_by m n signs row first *ℤ row_sign_by m n signs row other
      → AreSignedGroups m n (row + 1) groups signs → IsMerged groups signs new_groups new_signs (group_of groups other) (group_of groups first) factor
      → AreSignedGroups m n (row + 1) new_groups new_signs
  joined_groups row first other groups new_groups signs new_signs factor lf lo first_sign other_sign factor_sign is_factor old merged = record {
    group_each = merged.group_each ∙ old.group_each;
    sign_each = merged.sign_each ∙ old.sign_each;
    each_sign = λ c. each c (cases_lt c m.width);
    forced = λ agreement c d lc ld e. forced agreement c d lc ld e (cases_eq (group_of groups c) (group_of groups other)) (cases_eq (group_of groups d) (group_of groups other));
  }
    where
      inside : (c : ℕ) → c < m.width → c < length groups
      inside c l = omega (arith, l, old.group_each)

      each : (c : ℕ) → (c < m.width) ⊎ (m.width ≤ c) → IsSign (sign_of new_signs c)
      each c (inr l) = inl (get_or_past new_signs c (pos 1) (omega (arith, l, merged.sign_each, old.sign_each)))
      each c (inl l) = go (cases_eq (group_of groups c) (group_of groups other))
        where
          go : (group_of groups c ≡ group_of groups other) ⊎ (group_of groups c ≢ group_of groups other) → IsSign (sign_of new_signs c)
          go (inl e) = subst IsSign (sym (merged.moved c (inside c l) e).1) (sign-mul (sign_of signs c) factor (old.each_sign c) factor_sign)
          go (inr k) = subst IsSign (sym (merged.others c (inside c l) k).1) (old.each_sign c)

      factor_by : (agreement : AgreeBefore (entry m) (entry n) (row + 1)) → factor ≡ (sign_of signs first *ℤ sign_of signs other) *ℤ (agreement.column_sign first *ℤ agreement.column_sign other)
      factor_by agreement =
          is_factor
          ∙ ap₂ (λ x y. (sign_of signs first *ℤ (entry m row first *ℤ x)) *ℤ (sign_of signs other *ℤ (entry m row other *ℤ y))) (agreement.entries row first (omega arith)) (agreement.entries row other (omega arith))
          ∙ row_says (sign_of signs first) (sign_of signs other) (entry m row first) (entry m row other) (agreement.row_sign row) (agreement.column_sign first) (agreement.column_sign other)
          first_sign other_sign (agreement.row_signs row)

      -- the first column is moved, the second is not
      one_moved : (agreement : AgreeBefore (entry m) (entry n) (row + 1)) (c d : ℕ) → c < m.width → d < m.width → group_of new_groups c ≡ group_of new_groups d
          → group_of groups c ≡ group_of groups other → group_of groups d ≢ group_of groups other → sign_of new_signs c *ℤ sign_of new_signs d ≡ agreement.column_sign c *ℤ agreement.column_sign d
      one_moved agreement c d lc ld e f k =
          let moved = merged.moved c (inside c lc) f in
          let kept = merged.others d (inside d ld) k in
          ap₂ (λ x y. x *ℤ y) moved.1 kept.1
          ∙ across (sign_of signs c) (sign_of signs d) (sign_of signs first) (sign_of signs other) factor (agreement.column_sign first) (agreement.column_sign other) (agreement.column_sign c) (agreement.column_sign d)
          (agreement.column_signs first) (agreement.column_signs other) (factor_by agreement) (old.forced agreement c other lc lo f) (old.forced agreement d first ld lf (sym kept.0 ∙ sym e ∙ moved.0))

      forced : (agreement : AgreeBefore (entry m) (entry n) (row + 1)) (c d : ℕ) → c < m.width → d < m.width → group_of new_groups c ≡ group_of new_groups d
          → (group_of groups c ≡ group_of groups other) ⊎ (group_of groups c ≢ group_of groups other) → (group_of groups d ≡ group_of groups other) ⊎ (group_of groups d ≢ group_of groups other)
          → sign_of new_signs c *ℤ sign_of new_signs d ≡ agreement.column_sign c *ℤ agreement.column_sign d
      forced agreement c d lc ld e (inl f) (inl g) =
          ap₂ (λ x y. x *ℤ y) (merged.moved c (inside c lc) f).1 (merged.moved d (inside d ld) g).1
          ∙ both_moved (sign_of signs c) (sign_of signs d) factor factor_sign ∙ old.forced agreement c d lc ld (f ∙ sym g)
      forced agreement c d lc ld e (inl f) (inr k) = one_moved agreement c d lc ld e f k
      forced agreement c d lc ld e (inr k) (inl g) =
          mul_comm (sign_of new_signs c) (sign_of new_signs d) ∙ one_moved agreement d c ld lc (sym e) g k ∙ mul_comm (agreement.column_sign d) (agreement.column_sign c)
      forced agreement c d lc ld e (inr k) (inr h) =
          let kept = merged.others c (inside c lc) k in
          let stays = merged.others d (inside d ld) h in
          ap₂ (λ x y. x *ℤ y) kept.1 stays.1 ∙ old.forced agreement c d lc ld (sym kept.0 ∙ e ∙ stays.0)

  -- ---- a row by its sign

  pub zero_row_multiplied : (signs : List ℤ) (row : ℕ) (sign : ℤ) → HaveOneSupport m n → ((column : ℕ) → entry m row column ≡ pos 0) → IsRowMultiplied m n signs row sign
  zero_row_multiplied signs row sign support none column l = (support.zeros_same row column).0 (none column) ∙ sym (ap (λ z. sign *ℤ (sign_of signs column *ℤ z)) (none column) ∙ times_zero sign (sign_of signs column))

  pub row_multiplied : (signs : List ℤ) (row first : ℕ) (sign : ℤ) → HaveOneSupport m n → IsRowForced m n signs row
      → first < m.width → entry m row first ≢ pos 0 → IsSign (entry m row first) → sign ≡ row_sign_by m n signs row first
      → AgreeBefore (entry m) (entry n) (row + 1) → IsRowMultiplied m n signs row sign
  row_multiplied signs row first sign support forced lf nonzero first_sign is_sign agreement column l = go (cases (entry m row column))
    where
      cases : (z : ℤ) → (z ≡ pos 0) ⊎ (z ≢ pos 0)
      cases (pos zero) = inl refl
      cases (pos (suc k)) = inr (λ e. omega (arith, sums))
      cases (negsuc k) = inr (λ e. omega (arith, sums))

      go : (entry m row column ≡ pos 0) ⊎ (entry m row column ≢ pos 0) → entry n row column ≡ sign *ℤ (sign_of signs column *ℤ entry m row column)
      go (inl e) = (support.zeros_same row column).0 e ∙ sym (ap (λ z. sign *ℤ (sign_of signs column *ℤ z)) e ∙ times_zero sign (sign_of signs column))
      go (inr k) =
          agreement.entries row column (omega arith)
          ∙ multiplied_entry (sign_of signs first) (sign_of signs column) (entry m row first) (entry m row column) (agreement.row_sign row) (agreement.column_sign first) (agreement.column_sign column)
          first_sign (agreement.column_signs first) (forced agreement first column lf l nonzero k)
          ∙ sym (ap (λ z. z *ℤ (sign_of signs column *ℤ entry m row column)) (is_sign ∙ ap (λ z. sign_of signs first *ℤ (entry m row first *ℤ z)) (agreement.entries row first (omega arith))))

-- ---- the columns of a row, one after another

-- the columns of the nonzeros below `count` are in the group of the first
pub record IsRowJoinedTo (m n : Matrix) (row first count : ℕ) (old_groups groups : List ℕ) (old_signs signs : List ℤ) : Type 0 where
  pub all : AreSignedGroups m n (row + 1) groups signs
  pub coarser : IsCoarser m.width old_groups groups
  pub kept : KeepsProducts m.width old_groups old_signs signs
  pub joined : (column : ℕ) → column < count → entry m row column ≢ pos 0 → group_of groups column ≡ group_of groups first

module _ (m n : Matrix) (row first : ℕ) (old_groups : List ℕ) (old_signs : List ℤ) where
  pub none_joined : AreSignedGroups m n (row + 1) old_groups old_signs → IsRowJoinedTo m n row first 0 old_groups old_groups old_signs old_signs
  none_joined all = record { all = all; coarser = λ c d lc ld e. e; kept = λ c d lc ld e. refl; joined = λ column l. absurd (omega arith) }

  pub zeros_joined : (count next : ℕ) (groups : List ℕ) (signs : List ℤ) → IsRowJoinedTo m n row first count old_groups groups old_signs signs
      → ((column : ℕ) → count ≤ column → column < next → entry m row column ≡ pos 0)
      → IsRowJoinedTo m n row first next old_groups groups old_signs signs
  zeros_joined count next groups signs before zeros = record { all = before.all; coarser = before.coarser; kept = before.kept; joined = λ column l nonzero. go column l nonzero (cases_lt column count) }
    where
      go : (column : ℕ) → column < next → entry m row column ≢ pos 0 → (column < count) ⊎ (count ≤ column) → group_of groups column ≡ group_of groups first
      go column l nonzero (inl k) = before.joined column k nonzero
      go column l nonzero (inr k) = absurd (nonzero (zeros column k l))

  pub one_joined : (count : ℕ) (groups new_groups : List ℕ) (signs new_signs : List ℤ) → count < m.width → first < m.width → IsRowJoinedTo m n row first count old_groups groups old_signs signs
      → AreSignedGroups m n (row + 1) new_groups new_signs → IsCoarser m.width groups new_groups → KeepsProducts m.width groups signs new_signs → group_of new_groups count ≡ group_of new_groups first
      → IsRowJoinedTo m n row first (count + 1) old_groups new_groups old_signs new_signs
  one_joined count groups new_groups signs new_signs inside lf before all coarser kept e = record {
    all = all;
    kept = λ c d lc ld f. kept c d lc ld (before.coarser c d lc ld f) ∙ before.kept c d lc ld f;
    coarser = λ c d lc ld f. coarser c d lc ld (before.coarser c d lc ld f);
    joined = λ column l nonzero. go column l nonzero (cases_eq column count);
  }
    where
      go : (column : ℕ) → column < count + 1 → entry m row column ≢ pos 0 → (column ≡ count) ⊎ (column ≢ count) → group_of new_groups column ≡ group_of new_groups first
      go column l nonzero (inl f) = ap (group_of new_groups) f ∙ e
      go column l nonzero (inr k) = coarser column first (omega arith) lf (before.joined column (omega arith) nonzero)

  pub all_joined : (groups : List ℕ) (signs : List ℤ) → IsRowJoinedTo m n row first m.width old_groups groups old_signs signs → IsRowJoined m groups row
  all_joined groups signs all c d lc ld hc hd = all.joined c lc hc ∙ sym (all.joined d ld hd)

-- the rows below `count` are joined
pub record AreRowsJoined (m n : Matrix) (count : ℕ) (groups : List ℕ) (signs : List ℤ) : Type 0 where
  pub all : AreSignedGroups m n count groups signs
  pub joined : (row : ℕ) → row < count → IsRowJoined m groups row
  pub forced : (row : ℕ) → row < count → IsRowForced m n signs row

pub one_row_joined : (m n : Matrix) (count : ℕ) (groups new_groups : List ℕ) (signs new_signs : List ℤ) → AreRowsJoined m n count groups signs
    → AreSignedGroups m n (count + 1) new_groups new_signs → IsCoarser m.width groups new_groups → KeepsProducts m.width groups signs new_signs → IsRowJoined m new_groups count
    → AreRowsJoined m n (count + 1) new_groups new_signs
one_row_joined m n count groups new_groups signs new_signs before all coarser kept here = record {
  all = all;
  joined = λ row l. go row l (cases_eq row count);
  forced = λ row l. by row l (cases_eq row count);
}
  where
    go : (row : ℕ) → row < count + 1 → (row ≡ count) ⊎ (row ≢ count) → IsRowJoined m new_groups row
    go row l (inl e) = subst (IsRowJoined m new_groups) (sym e) here
    go row l (inr k) = λ c d lc ld hc hd. coarser c d lc ld (before.joined row (omega arith) c d lc ld hc hd)

    by : (row : ℕ) → row < count + 1 → (row ≡ count) ⊎ (row ≢ count) → IsRowForced m n new_signs row
    by row l (inl e) = subst (IsRowForced m n new_signs) (sym e) (λ agreement c d lc ld hc hd. all.forced agreement c d lc ld (here c d lc ld hc hd))
    by row l (inr k) = λ agreement c d lc ld hc hd. kept c d lc ld (before.joined row (omega arith) c d lc ld hc hd) ∙ before.forced row (omega arith) agreement c d lc ld hc hd

pub no_row_joined : (m n : Matrix) (groups : List ℕ) (signs : List ℤ) → groups ≡ first_lines m.width → signs ≡ replicate m.width (pos 1) → AreRowsJoined m n 0 groups signs
no_row_joined m n groups signs e f = record { all = rw (e, f) (own_groups m n); joined = λ row l. absurd (omega arith); forced = λ row l. absurd (omega arith) }

-- ---- the entries of a row multiplied

-- the product with which the code compares an entry, as signed bytes
pub multiplied_bytes : (sign s x p q : ℤ) → IsSign sign → IsEntry s → IsEntry x → IsEntry p → IsEntry q → p ≡ to_z w8 (of_z w8 s) *ℤ to_z w8 (of_z w8 x)
    → q ≡ to_z w8 (of_z w8 sign) *ℤ to_z w8 (of_z w8 p) → q ≡ sign *ℤ (s *ℤ x)
multiplied_bytes sign s x p q is_sign hs hx hp hq e f = product_bytes sign p q (sign_is_entry sign is_sign) hp f ∙ ap (λ z. sign *ℤ z) (product_bytes s x p hs hx e)

-- a column in which both rows are 0
pub zero_multiplied : (m n : Matrix) (row column : ℕ) (sign s : ℤ) → HaveOneSupport m n → entry m row column ≡ pos 0 → entry n row column ≡ sign *ℤ (s *ℤ entry m row column)
zero_multiplied m n row column sign s same e = (same.zeros_same row column).0 e ∙ sym (ap (λ z. sign *ℤ (s *ℤ z)) e ∙ ap (λ z. sign *ℤ z) (mul-zero s) ∙ mul-zero sign)

-- the columns before a position, the columns from there to the next one, and the next one
pub columns_to_next : (P : ℕ → Type 0) (place next : ℕ) → ((column : ℕ) → column < place → P column)
    → ((column : ℕ) → place ≤ column → column < next → P column) → P next → (column : ℕ) → column < next + 1 → P column
columns_to_next P place next before between here column l = go (cases_lt column place) (cases_eq column next)
  where
    go : (column < place) ⊎ (place ≤ column) → (column ≡ next) ⊎ (column ≢ next) → P column
    go (inl k) e = before column k
    go (inr k) (inl e) = subst P (sym e) here
    go (inr k) (inr d) = between column k (omega arith)

pub columns_all : (P : ℕ → Type 0) (place : ℕ) → ((column : ℕ) → column < place → P column) → ((column : ℕ) → place ≤ column → P column) → (column : ℕ) → P column
columns_all P place before past column = go (cases_lt column place)
  where
    go : (column < place) ⊎ (place ≤ column) → P column
    go (inl k) = before column k
    go (inr k) = past column k
