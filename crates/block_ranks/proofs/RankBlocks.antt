-- Blocks of rank zero, one and two.
use Rattle.std.proofs.Common.{◌≡◌, ◌≢◌, inl, inr, ◌∙◌, ℕ, ℤ, pos, neg_ℤ, ◌*ℤ◌, ◌-ℤ◌, ◌+ℤ◌, List, [], ◌∷◌, refl, ap, ap₂, sym, subst, arith}
use Rattle.cmr_base.specs.Determinants.{determinant}
use Rattle.cmr_base.specs.Matrix.{IsEntry}
use Rattle.cmr_base.specs.PlacedPivots.{reduced}
use Rattle.cmr_base.specs.Separations.{product_at}
use Rattle.cmr_base.specs.Signing.{IsSign}
use Rattle.cmr_base.proofs.Integers.{sums, products}
use Rattle.cmr_base.proofs.Lists.{one_more_first}
use Rattle.cmr_base.proofs.SignEntries.{product_is_entry, sign-mul, sign_square, sign_of_entry, zero_or_sign, sign_nonzero}
use Rattle.ghouila.proofs.Expansions.{determinant_is, schur}
use Rattle.ghouila.proofs.Minors.{one_minor, sign_twice}
use Rattle.block_ranks.specs.BlockRanks.{HasRank, IsSquareIn}

-- ---- determinants of one, two and three lines

determinant_one : (M : ℕ → ℕ → ℤ) (r c : ℕ) → determinant M (r ∷ []) (c ∷ []) ≡ M r c
determinant_one M r c = determinant_is M (c ∷ []) (r ∷ []) refl ∙ one_minor M r c

determinant_two : (M : ℕ → ℕ → ℤ) (r s c d : ℕ) → determinant M (r ∷ s ∷ []) (c ∷ d ∷ []) ≡ M r c *ℤ M s d -ℤ M s c *ℤ M r d
determinant_two M r s c d = determinant_is M (c ∷ d ∷ []) (r ∷ s ∷ []) refl ∙ plain (M r c) (M r d) (M s c) (M s d)
  where
    plain : (x y z w : ℤ) → x *ℤ (w *ℤ pos 1 -ℤ pos 0) -ℤ (z *ℤ (y *ℤ pos 1 -ℤ pos 0) -ℤ pos 0) ≡ x *ℤ w -ℤ z *ℤ y
    plain x y z w = simp products (omega (arith, sums))

-- a pivot at an entry of a square of three lines whose determinant is 0
three_reduced : (M : ℕ → ℕ → ℤ) (k l r p q c : ℕ) → IsSign (M k p) → determinant M (k ∷ l ∷ r ∷ []) (p ∷ q ∷ c ∷ []) ≡ pos 0
    → determinant (reduced M k p) (l ∷ r ∷ []) (q ∷ c ∷ []) ≡ pos 0
three_reduced M k l r p q c u e =
    let s = schur M k p (q ∷ c ∷ []) (l ∷ r ∷ []) (k ∷ l ∷ r ∷ []) u (one_more_first k (l ∷ r ∷ [])) in
    let z = determinant (reduced M k p) (l ∷ r ∷ []) (q ∷ c ∷ []) in
    let is = determinant_is (reduced M k p) (q ∷ c ∷ []) (l ∷ r ∷ []) refl in
    let both : s.sign *ℤ (M k p *ℤ z) ≡ pos 0 = ap (λ (x : ℤ). s.sign *ℤ (M k p *ℤ x)) is ∙ sym s.equal ∙ sym (determinant_is M (p ∷ q ∷ c ∷ []) (k ∷ l ∷ r ∷ []) refl) ∙ e in
    let one : M k p *ℤ z ≡ pos 0 = sym (sign_twice s.sign (M k p *ℤ z) s.is_sign) ∙ ap (λ (x : ℤ). s.sign *ℤ x) both ∙ none s.sign in
    sym (sign_twice (M k p) z u) ∙ ap (λ (x : ℤ). M k p *ℤ x) one ∙ none (M k p)
  where
    none : (x : ℤ) → x *ℤ pos 0 ≡ pos 0
    none x = simp products

-- ---- signs

-- a 2x2 determinant that is 0 gives the product
product_from_two : (a x y z : ℤ) → IsSign a → a *ℤ z -ℤ x *ℤ y ≡ pos 0 → z ≡ x *ℤ (y *ℤ a)
product_from_two a x y z u e =
    sym (sign_twice a z u) ∙ ap (λ (w : ℤ). a *ℤ w) (equal (a *ℤ z) (x *ℤ y) e) ∙ turned a x y
  where
    equal : (s t : ℤ) → s -ℤ t ≡ pos 0 → s ≡ t
    equal s t e = omega (arith, sums)

    turned : (a x y : ℤ) → a *ℤ (x *ℤ y) ≡ x *ℤ (y *ℤ a)
    turned a x y = simp products

-- ---- blocks

-- a nonzero of a block, and the block is the product of its row and its column
pub record HasProduct (M : ℕ → ℕ → ℤ) (is_row is_column : ℕ → Type 0) : Type 0 where
  pub row : ℕ
  pub column : ℕ
  pub row_in : is_row row
  pub column_in : is_column column
  pub nonzero : M row column ≢ pos 0
  pub product : (r c : ℕ) → is_row r → is_column c → M r c ≡ product_at M row column r c

-- A nonzero of a block, and another entry that is not 0 after the elimination of the nonzero's row and column. What is left of the block
-- is the product of the other entry's row and column.
pub record HasTwoAt (M : ℕ → ℕ → ℤ) (is_row is_column : ℕ → Type 0) (row column : ℕ) : Type 0 where
  pub other_row : ℕ
  pub other_column : ℕ
  pub row_in : is_row row
  pub column_in : is_column column
  pub other_row_in : is_row other_row
  pub other_column_in : is_column other_column
  pub nonzero : M row column ≢ pos 0
  pub left : reduced M row column other_row other_column ≢ pos 0
  pub rest : IsSign (reduced M row column other_row other_column) → (r c : ℕ) → is_row r → is_column c → reduced M row column r c ≡ product_at (reduced M row column) other_row other_column r c

-- the same at some nonzero
abbrev pub HasTwo : (M : ℕ → ℕ → ℤ) (is_row is_column : ℕ → Type 0) → Type 0
HasTwo M is_row is_column = (row : ℕ) × (column : ℕ) × HasTwoAt M is_row is_column row column

module _ (M : ℕ → ℕ → ℤ) (is_row is_column : ℕ → Type 0) where
  one_in : (r c : ℕ) → is_row r → is_column c → IsSquareIn is_row is_column (r ∷ []) (c ∷ []) 1
  one_in r c hr hc = record { height = refl; width = refl; rows_in = (hr, tt); columns_in = (hc, tt) }

  two_in : (r s c d : ℕ) → is_row r → is_row s → is_column c → is_column d → IsSquareIn is_row is_column (r ∷ s ∷ []) (c ∷ d ∷ []) 2
  two_in r s c d hr hs hc hd = record { height = refl; width = refl; rows_in = (hr, (hs, tt)); columns_in = (hc, (hd, tt)) }

  three_in : (r s t c d e : ℕ) → is_row r → is_row s → is_row t → is_column c → is_column d → is_column e → IsSquareIn is_row is_column (r ∷ s ∷ t ∷ []) (c ∷ d ∷ e ∷ []) 3
  three_in r s t c d e hr hs ht hc hd he = record { height = refl; width = refl; rows_in = (hr, (hs, (ht, tt))); columns_in = (hc, (hd, (he, tt))) }

  -- a block of rank zero is zero
  pub zero_block : HasRank M is_row is_column 0 → (r c : ℕ) → is_row r → is_column c → M r c ≡ pos 0
  zero_block h r c hr hc = sym (determinant_one M r c) ∙ h.larger (r ∷ []) (c ∷ []) (one_in r c hr hc)

  -- ---- rank one

  pub product_block : ((r c : ℕ) → is_row r → is_column c → IsEntry (M r c)) → HasRank M is_row is_column 1 → HasProduct M is_row is_column
  product_block small h = go h.rows h.columns h.square h.regular
    where
      go : (rows columns : List ℕ) → IsSquareIn is_row is_column rows columns 1 → determinant M rows columns ≢ pos 0 → HasProduct M is_row is_column
      go [] columns s n = absurd (let e = s.height in omega arith)
      go (i ∷ []) [] s n = absurd (let e = s.width in omega arith)
      go (i ∷ k ∷ rows) columns s n = absurd (let e = s.height in omega arith)
      go (i ∷ []) (j ∷ k ∷ columns) s n = absurd (let e = s.width in omega arith)
      go (i ∷ []) (j ∷ []) s n =
          let hi = s.rows_in.0 in
          let hj = s.columns_in.0 in
          let nonzero : M i j ≢ pos 0 = λ e. n (determinant_one M i j ∙ e) in
          let u = sign_of_entry (M i j) (small i j hi hj) nonzero in
          record {
            row = i;
            column = j;
            row_in = hi;
            column_in = hj;
            nonzero = nonzero;
            product = λ r c hr hc. product_from_two (M i j) (M r j) (M i c) (M r c) u (sym (determinant_two M i r j c) ∙ h.larger (i ∷ r ∷ []) (j ∷ c ∷ []) (two_in i r j c hi hr hj hc));
          }

  -- ---- rank two

  -- after the elimination of any nonzero of a block of rank two, the rest is a product
  two_rest : HasRank M is_row is_column 2 → (k p l q : ℕ) → is_row k → is_column p → is_row l → is_column q → IsSign (M k p) → IsSign (reduced M k p l q)
      → (r c : ℕ) → is_row r → is_column c → reduced M k p r c ≡ product_at (reduced M k p) l q r c
  two_rest h k p l q hk hp hl hq u v r c hr hc =
      product_from_two (reduced M k p l q) (reduced M k p r q) (reduced M k p l c) (reduced M k p r c) v
      (sym (determinant_two (reduced M k p) l r q c) ∙ three_reduced M k l r p q c u (h.larger (k ∷ l ∷ r ∷ []) (p ∷ q ∷ c ∷ []) (three_in k l r p q c hk hl hr hp hq hc)))

  pub two_block : ((r c : ℕ) → is_row r → is_column c → IsEntry (M r c)) → HasRank M is_row is_column 2 → HasTwo M is_row is_column
  two_block small h = go h.rows h.columns h.square h.regular
    where
      at : (r s c d : ℕ) → is_row r → is_row s → is_column c → is_column d → IsSign (M r c) → M r c *ℤ M s d -ℤ M s c *ℤ M r d ≢ pos 0 → HasTwo M is_row is_column
      at r s c d hr hs hc hd u n = (
        r,
        c,
        record {
          other_row = s;
          other_column = d;
          row_in = hr;
          column_in = hc;
          other_row_in = hs;
          other_column_in = hd;
          nonzero = sign_nonzero (M r c) u;
          left = λ e. n (back (M r c) (M r d) (M s c) (M s d) (sign_square (M r c) u) e);
          rest = two_rest h r c s d hr hc hs hd u;
        },
      )
        where
          back : (a y z w : ℤ) → a *ℤ a ≡ pos 1 → w -ℤ a *ℤ (z *ℤ y) ≡ pos 0 → a *ℤ w -ℤ z *ℤ y ≡ pos 0
          back a y z w one e =
              let is : w ≡ a *ℤ (z *ℤ y) = omega (arith, sums) in
              rw is (regroup a (z *ℤ y) one)
            where
              regroup : (a t : ℤ) → a *ℤ a ≡ pos 1 → a *ℤ (a *ℤ t) -ℤ t ≡ pos 0
              regroup a t one = plain (gathered a t ∙ rw one refl)
                where
                  gathered : (a t : ℤ) → a *ℤ (a *ℤ t) ≡ (a *ℤ a) *ℤ t
                  gathered a t = simp products

                  one_times : (t : ℤ) → pos 1 *ℤ t ≡ t
                  one_times t = simp products

                  plain : a *ℤ (a *ℤ t) ≡ pos 1 *ℤ t → a *ℤ (a *ℤ t) -ℤ t ≡ pos 0
                  plain e = let f = one_times t in omega (arith, sums)

      go : (rows columns : List ℕ) → IsSquareIn is_row is_column rows columns 2 → determinant M rows columns ≢ pos 0 → HasTwo M is_row is_column
      go [] columns s n = absurd (let e = s.height in omega arith)
      go (i ∷ []) columns s n = absurd (let e = s.height in omega arith)
      go (i ∷ k ∷ o ∷ rows) columns s n = absurd (let e = s.height in omega arith)
      go (i ∷ k ∷ []) [] s n = absurd (let e = s.width in omega arith)
      go (i ∷ k ∷ []) (j ∷ []) s n = absurd (let e = s.width in omega arith)
      go (i ∷ k ∷ []) (j ∷ l ∷ o ∷ columns) s n = absurd (let e = s.width in omega arith)
      go (i ∷ k ∷ []) (j ∷ l ∷ []) s n =
          let hi = s.rows_in.0 in
          let hk = s.rows_in.1.0 in
          let hj = s.columns_in.0 in
          let hl = s.columns_in.1.0 in
          let value = determinant_two M i k j l in
          elim (zero_or_sign (M i j) (small i j hi hj)) [
            | inr u ↦ at i k j l hi hk hj hl u (λ e. n (value ∙ e))
            | inl e ↦ elim (zero_or_sign (M i l) (small i l hi hl)) [
              | inr u ↦ at i k l j hi hk hl hj u (λ f. n (value ∙ turned (M i j) (M i l) (M k j) (M k l) f))
              | inl f ↦ absurd (n (value ∙ zeros (M i j) (M i l) (M k j) (M k l) e f))
            ]
          ]
        where
          turned : (x y z w : ℤ) → y *ℤ z -ℤ w *ℤ x ≡ pos 0 → x *ℤ w -ℤ z *ℤ y ≡ pos 0
          turned x y z w e = flip (x *ℤ w) (z *ℤ y) (y *ℤ z) (w *ℤ x) (swapped z y) (swapped x w) e
            where
              swapped : (s t : ℤ) → s *ℤ t ≡ t *ℤ s
              swapped s t = simp products

              flip : (a b c d : ℤ) → b ≡ c → a ≡ d → c -ℤ d ≡ pos 0 → a -ℤ b ≡ pos 0
              flip a b c d e f g = omega (arith, sums)

          zeros : (x y z w : ℤ) → x ≡ pos 0 → y ≡ pos 0 → x *ℤ w -ℤ z *ℤ y ≡ pos 0
          zeros x y z w e f = rw (e, f) (simp products)

-- ---- any nonzero of a block

negative_sign : (z : ℤ) → IsSign z → IsSign (neg_ℤ z)
negative_sign z (inl e) = rw e (inr refl)
negative_sign z (inr e) = rw e (inl refl)

-- the row and the column of a nonzero are zero after their elimination
module _ (M : ℕ → ℕ → ℤ) (k p : ℕ) (u : IsSign (M k p)) where
  pub none_in_row : (c : ℕ) → reduced M k p k c ≡ pos 0
  none_in_row c = plain (M k c) (M k p *ℤ (M k p *ℤ M k c)) (sign_twice (M k p) (M k c) u)
    where
      plain : (y z : ℤ) → z ≡ y → y -ℤ z ≡ pos 0
      plain y z e = omega (arith, sums)

  pub none_in_column : (r : ℕ) → reduced M k p r p ≡ pos 0
  none_in_column r = plain (M r p) (M k p *ℤ (M r p *ℤ M k p)) (swapped (M k p) (M r p) ∙ sign_twice (M k p) (M r p) u)
    where
      plain : (y z : ℤ) → z ≡ y → y -ℤ z ≡ pos 0
      plain y z e = omega (arith, sums)

      swapped : (a x : ℤ) → a *ℤ (x *ℤ a) ≡ a *ℤ (a *ℤ x)
      swapped a x = simp products

-- A sum of two products is a product after the elimination of a nonzero s. The nonzero is in the row (F, U) and the column (G, W); the
-- other factors are those of another row and column.
eliminated : (F U G W f u g w s x y z : ℤ) → IsSign s → s ≡ F *ℤ G +ℤ U *ℤ W → x ≡ f *ℤ g +ℤ u *ℤ w → y ≡ f *ℤ G +ℤ u *ℤ W → z ≡ F *ℤ g +ℤ U *ℤ w
    → x -ℤ s *ℤ (y *ℤ z) ≡ s *ℤ ((F *ℤ u -ℤ U *ℤ f) *ℤ (G *ℤ w -ℤ W *ℤ g))
eliminated F U G W f u g w s x y z sign at_s at_x at_y at_z =
    ap (λ (t : ℤ). t -ℤ s *ℤ (y *ℤ z)) (sym (sign_twice s x sign)) ∙ factored s (s *ℤ x) (y *ℤ z) ∙ ap (λ (t : ℤ). s *ℤ t) (rw (at_s, at_x, at_y, at_z) (inner F U G W f u g w))
  where
    factored : (s t v : ℤ) → s *ℤ t -ℤ s *ℤ v ≡ s *ℤ (t -ℤ v)
    factored s t v = simp products (omega (arith, sums))

    inner : (F U G W f u g w : ℤ) → (F *ℤ G +ℤ U *ℤ W) *ℤ (f *ℤ g +ℤ u *ℤ w) -ℤ (f *ℤ G +ℤ u *ℤ W) *ℤ (F *ℤ g +ℤ U *ℤ w) ≡ (F *ℤ u -ℤ U *ℤ f) *ℤ (G *ℤ w -ℤ W *ℤ g)
    inner F U G W f u g w = simp products (omega (arith, sums))

-- an entry of a product from the entries at another position of it, with a sign as a factor of each
with_signs : (s x y v w : ℤ) → IsSign s → IsSign v → IsSign w → s *ℤ (x *ℤ y) ≡ (s *ℤ (x *ℤ w)) *ℤ ((s *ℤ (v *ℤ y)) *ℤ (s *ℤ (v *ℤ w)))
with_signs s x y v w us uv uw = sym (gathered s x y v w
    ∙ sign_twice s (v *ℤ (v *ℤ (w *ℤ (w *ℤ (s *ℤ (x *ℤ y)))))) us
    ∙ sign_twice v (w *ℤ (w *ℤ (s *ℤ (x *ℤ y)))) uv
    ∙ sign_twice w (s *ℤ (x *ℤ y)) uw)
  where
    gathered : (s x y v w : ℤ) → (s *ℤ (x *ℤ w)) *ℤ ((s *ℤ (v *ℤ y)) *ℤ (s *ℤ (v *ℤ w))) ≡ s *ℤ (s *ℤ (v *ℤ (v *ℤ (w *ℤ (w *ℤ (s *ℤ (x *ℤ y)))))))
    gathered s x y v w = simp products

-- A block that has a nonzero as in `HasTwoAt` has it at each nonzero: it is the sum of two products.
module _ (M : ℕ → ℕ → ℤ) (is_row is_column : ℕ → Type 0) (i j : ℕ) (two : HasTwoAt M is_row is_column i j) (small : (r c : ℕ) → is_row r → is_column c → IsEntry (M r c))
    (small_left : (r c : ℕ) → is_row r → is_column c → IsEntry (reduced M i j r c)) (k p : ℕ) (hk : is_row k) (hp : is_column p) (nonzero : M k p ≢ pos 0) where
  abbrev l : ℕ
  l = two.other_row

  abbrev q : ℕ
  q = two.other_column

  -- the factors of the two products
  abbrev F : ℕ → ℤ
  F r = M i j *ℤ M r j

  abbrev G : ℕ → ℤ
  G c = M i c

  abbrev U : ℕ → ℤ
  U r = reduced M i j r q

  abbrev W : ℕ → ℤ
  W c = reduced M i j l c *ℤ reduced M i j l q

  corner : IsSign (M i j)
  corner = sign_of_entry (M i j) (small i j two.row_in two.column_in) two.nonzero

  left_sign : IsSign (reduced M i j l q)
  left_sign = sign_of_entry (reduced M i j l q) (small_left l q two.other_row_in two.other_column_in) two.left

  sum : (r c : ℕ) → is_row r → is_column c → M r c ≡ F r *ℤ G c +ℤ U r *ℤ W c
  sum r c hr hc = plain (M r c) (M i j) (M r j) (M i c) ∙ ap (λ (z : ℤ). F r *ℤ G c +ℤ z) (two.rest left_sign r c hr hc)
    where
      plain : (x a f g : ℤ) → x ≡ (a *ℤ f) *ℤ g +ℤ (x -ℤ a *ℤ (f *ℤ g))
      plain x a f g = simp products (omega (arith, sums))

  sign : IsSign (M k p)
  sign = sign_of_entry (M k p) (small k p hk hp) nonzero

  abbrev row_left : ℕ → ℤ
  row_left r = F k *ℤ U r -ℤ U k *ℤ F r

  abbrev column_left : ℕ → ℤ
  column_left c = G p *ℤ W c -ℤ W p *ℤ G c

  left_is : (r c : ℕ) → is_row r → is_column c → reduced M k p r c ≡ M k p *ℤ (row_left r *ℤ column_left c)
  left_is r c hr hc = eliminated (F k) (U k) (G p) (W p) (F r) (U r) (G c) (W c) (M k p) (M r c) (M r p) (M k c) sign (sum k p hk hp) (sum r c hr hc) (sum r p hr hp) (sum k c hk hc)

  -- a row, and a column, that are not eliminated
  left_row : (r : ℕ) × is_row r × IsSign (row_left r)
  left_row = elim (zero_or_sign (U k) (small_left k q hk two.other_column_in)) [
    | inr u ↦ (i, two.row_in, subst IsSign (sym (first (F k) (U i) (U k) (F i) (none_in_row M i j corner q) (sign_square (M i j) corner))) (negative_sign (U k) u))
    | inl none ↦ elim (zero_or_sign (M k j) (small k j hk two.column_in)) [
      | inr u ↦ (l, two.other_row_in, subst IsSign (sym (other (F k) (U l) (U k) (F l) none)) (sign-mul (F k) (U l) (sign-mul (M i j) (M k j) corner u) left_sign))
      | inl e ↦ absurd (nonzero (sum k p hk hp ∙ neither (M i j) (M k j) (G p) (U k) (W p) e none))
    ]
  ]
    where
      first : (f u t g : ℤ) → u ≡ pos 0 → g ≡ pos 1 → f *ℤ u -ℤ t *ℤ g ≡ neg_ℤ t
      first f u t g e h = rw (e, h) (simp products (omega (arith, sums)))

      other : (f u t g : ℤ) → t ≡ pos 0 → f *ℤ u -ℤ t *ℤ g ≡ f *ℤ u
      other f u t g e = rw e (simp products (omega (arith, sums)))

      neither : (a f g u w : ℤ) → f ≡ pos 0 → u ≡ pos 0 → (a *ℤ f) *ℤ g +ℤ u *ℤ w ≡ pos 0
      neither a f g u w e h = rw (e, h) (simp products (omega (arith, sums)))

  left_column : (c : ℕ) × is_column c × IsSign (column_left c)
  left_column = elim (zero_or_sign (W p) (product_is_entry (reduced M i j l p) (reduced M i j l q) (small_left l p two.other_row_in hp) (small_left l q two.other_row_in two.other_column_in))) [
    | inr u ↦ (j, two.column_in, subst IsSign (sym (first (G p) (reduced M i j l j) (reduced M i j l q) (W p) (G j) (none_in_column M i j corner l))) (negative_sign (W p *ℤ G j) (sign-mul (W p) (G j) u corner)))
    | inl none ↦ elim (zero_or_sign (M i p) (small i p two.row_in hp)) [
      | inr u ↦ (q, two.other_column_in, subst IsSign (sym (other (G p) (W q) (W p) (G q) none)) (sign-mul (G p) (W q) u (sign-mul (reduced M i j l q) (reduced M i j l q) left_sign left_sign)))
      | inl e ↦ absurd (nonzero (sum k p hk hp ∙ neither (F k) (G p) (U k) (W p) e none))
    ]
  ]
    where
      first : (g x y w h : ℤ) → x ≡ pos 0 → g *ℤ (x *ℤ y) -ℤ w *ℤ h ≡ neg_ℤ (w *ℤ h)
      first g x y w h e = rw e (simp products (omega (arith, sums)))

      other : (g v w h : ℤ) → w ≡ pos 0 → g *ℤ v -ℤ w *ℤ h ≡ g *ℤ v
      other g v w h e = rw e (simp products (omega (arith, sums)))

      neither : (f g u w : ℤ) → g ≡ pos 0 → w ≡ pos 0 → f *ℤ g +ℤ u *ℤ w ≡ pos 0
      neither f g u w e h = rw (e, h) (simp products (omega (arith, sums)))

  pub two_at_any : HasTwoAt M is_row is_column k p
  two_at_any =
      let r = left_row in
      let c = left_column in
      record {
        other_row = r.0;
        other_column = c.0;
        row_in = hk;
        column_in = hp;
        other_row_in = r.1;
        other_column_in = c.1;
        nonzero = nonzero;
        left = λ e. sign_nonzero (M k p *ℤ (row_left r.0 *ℤ column_left c.0)) (sign-mul (M k p) (row_left r.0 *ℤ column_left c.0) sign (sign-mul (row_left r.0) (column_left c.0) r.2 c.2)) (sym (left_is r.0 c.0 r.1 c.1) ∙ e);
        rest = λ u x y hx hy. left_is x y hx hy ∙ with_signs (M k p) (row_left x) (column_left y) (row_left r.0) (column_left c.0) sign r.2 c.2
            ∙ sym (ap₂ (λ (a b : ℤ). a *ℤ b) (left_is x c.0 hx c.1) (ap₂ (λ (a b : ℤ). a *ℤ b) (left_is r.0 y r.1 hy) (left_is r.0 c.0 r.1 c.1)));
      }
