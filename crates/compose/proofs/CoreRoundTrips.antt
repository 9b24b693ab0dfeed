-- The concentrated sum of the two matrices of a three-separation of the concentrated form.
use Rattle.std.proofs.Common.{◌≡◌, ◌<◌, ◌≤◌, ◌+◌, ◌-◌, ◌∙◌, ◌++◌, inl, inr, ◌*ℤ◌, ◌-ℤ◌, ℕ, zero, suc, ℤ, pos, List, [], ◌∷◌, map, length, get_or, ap, ap₂, sym, subst, refl, arith, length-append}
use Rattle.std.proofs.lemmas.List.{length-map, append-nil, append_assoc}
use Rattle.cmr_base.specs.declared.separation.Connector.{Connector}
use Rattle.cmr_base.specs.Matrix.{Matrix, height, entry}
use Rattle.cmr_base.specs.LineSets.{submatrix}
use Rattle.cmr_base.specs.Members.{IsIn}
use Rattle.cmr_base.specs.Signing.{IsSign}
use Rattle.cmr_base.specs.Separations.{zeros, spread, core_determinant, spread_at}
use Rattle.cmr_base.specs.MatrixSums.{four_blocks, IsCore, HaveConcentratedSum, core_block, concentrated_sum}
use Rattle.cmr_base.proofs.Members.{in_at}
use Rattle.cmr_base.proofs.Parts.{entry-submatrix}
use Rattle.compose.specs.declared.sides.Sides.{Sides}
use Rattle.compose.specs.Arrangements.{plain, framed, signed_submatrix, others}
use Rattle.compose.proofs.OrderedBlocks.{get_left, get_after, blocks_ordered, filled_is}
use Rattle.compose.proofs.SignedPlaces.{plain_submatrix, plain_before}
use Rattle.compose.proofs.SideLines.{in_either, in_others}

-- the properties of the sides of a separation
pub record AreCored (M : ℕ → ℕ → ℤ) (s : Sides) (f g : Connector) : Type 0 where
  pub row_i : IsIn f.row s.rows_one
  pub column_p : IsIn f.column s.columns_one
  pub column_q : IsIn f.other s.columns_one
  pub row_k : IsIn g.row s.rows_two
  pub row_o : IsIn g.other s.rows_two
  pub column_j : IsIn g.column s.columns_two
  pub unit_ip : IsSign (M f.row f.column)
  pub unit_iq : IsSign (M f.row f.other)
  pub unit_kj : IsSign (M g.row g.column)
  pub unit_oj : IsSign (M g.other g.column)
  pub columns_increase : f.column < f.other
  pub rows_increase : g.row < g.other
  pub determinant : IsSign (core_determinant M f g)
  pub upper : (r c : ℕ) → IsIn r s.rows_one → IsIn c s.columns_two → M r c ≡ pos 0
  pub lower : (r c : ℕ) → IsIn r s.rows_two → IsIn c s.columns_one → M r c ≡ spread_at M f g r c

get_next : (x : ℕ) (xs : List ℕ) (a : ℕ) → get_or (x ∷ xs) (1 + a) 0 ≡ get_or xs a 0
get_next x xs a = ap (λ (k : ℕ). get_or (x ∷ xs) k 0) (plainly a)
  where
    plainly : (a : ℕ) → 1 + a ≡ suc a
    plainly a = omega arith

get_second : (x y : ℕ) (xs : List ℕ) (a : ℕ) → get_or (x ∷ y ∷ xs) (2 + a) 0 ≡ get_or xs a 0
get_second x y xs a = ap (λ (k : ℕ). get_or (x ∷ y ∷ xs) k 0) (plainly a)
  where
    plainly : (a : ℕ) → 2 + a ≡ suc (suc a)
    plainly a = omega arith

block_same : {x y z w a b c e x' y' z' w' a' b' c' e' : ℤ} → x ≡ x' → y ≡ y' → z ≡ z' → w ≡ w' → a ≡ a' → b ≡ b' → c ≡ c' → e ≡ e'
    → spread (x *ℤ w -ℤ y *ℤ z) x y z w a b c e ≡ spread (x' *ℤ w' -ℤ y' *ℤ z') x' y' z' w' a' b' c' e'
block_same fx fy fz fw fa fb fc fe = λ l. spread (fx l *ℤ fw l -ℤ fy l *ℤ fz l) (fx l) (fy l) (fz l) (fw l) (fa l) (fb l) (fc l) (fe l)

determinant_same : {x y z w x' y' z' w' : ℤ} → x ≡ x' → y ≡ y' → z ≡ z' → w ≡ w' → x *ℤ w -ℤ y *ℤ z ≡ x' *ℤ w' -ℤ y' *ℤ z'
determinant_same fx fy fz fw = λ l. fx l *ℤ fw l -ℤ fy l *ℤ fz l

core_at : (F : ℕ → ℕ → ℤ) (x y x' y' : ℕ) → x ≡ x' → y ≡ y' → IsCore x' y' F → IsCore x y F
core_at F x y x' y' ex ey h = subst (λ (z : ℕ). IsCore z y F) (sym ex) (subst (λ (z : ℕ). IsCore x' z F) (sym ey) h)

module _ (m : Matrix) (s : Sides) (f g : Connector) (t : AreCored (entry m) s f g) where
  abbrev M : ℕ → ℕ → ℤ
  M = entry m

  abbrev i : ℕ
  i = f.row

  abbrev p : ℕ
  p = f.column

  abbrev q : ℕ
  q = f.other

  abbrev k : ℕ
  k = g.row

  abbrev j : ℕ
  j = g.column

  abbrev o : ℕ
  o = g.other

  abbrev A : List ℕ
  A = others (i ∷ []) s.rows_one

  abbrev B : List ℕ
  B = others (p ∷ q ∷ []) s.columns_one

  abbrev D : List ℕ
  D = others (k ∷ o ∷ []) s.rows_two

  abbrev E : List ℕ
  E = others (j ∷ []) s.columns_two

  abbrev F : Matrix
  F = submatrix m (A ++ (i ∷ k ∷ o ∷ [])) (B ++ (p ∷ q ∷ j ∷ []))

  abbrev S : Matrix
  S = submatrix m (i ∷ k ∷ o ∷ D) (p ∷ q ∷ j ∷ E)

  F_height : height F ≡ length A + 3
  F_height = length-map (A ++ (i ∷ k ∷ o ∷ [])) (λ row. map (entry m row) (B ++ (p ∷ q ∷ j ∷ []))) ∙ length-append A (i ∷ k ∷ o ∷ [])

  F_width : F.width ≡ length B + 3
  F_width = length-append B (p ∷ q ∷ j ∷ [])

  S_height : height S ≡ 3 + length D
  S_height = let e = length-map (i ∷ k ∷ o ∷ D) (λ row. map (entry m row) (p ∷ q ∷ j ∷ E)) in omega arith

  F_at : (a b : ℕ) → a < length A + 3 → b < length B + 3 → entry F a b ≡ M (get_or (A ++ (i ∷ k ∷ o ∷ [])) a 0) (get_or (B ++ (p ∷ q ∷ j ∷ [])) b 0)
  F_at a b la lb = entry-submatrix m (A ++ (i ∷ k ∷ o ∷ [])) (B ++ (p ∷ q ∷ j ∷ [])) a b (let e = length-append A (i ∷ k ∷ o ∷ []) in omega arith) (let e = length-append B (p ∷ q ∷ j ∷ []) in omega arith)

  S_at : (a b : ℕ) → a < 3 + length D → b < 3 + length E → entry S a b ≡ M (get_or (i ∷ k ∷ o ∷ D) a 0) (get_or (p ∷ q ∷ j ∷ E) b 0)
  S_at a b la lb = entry-submatrix m (i ∷ k ∷ o ∷ D) (p ∷ q ∷ j ∷ E) a b (omega arith) (omega arith)

  -- an entry of the core
  core_cell : (a b x y : ℕ) → a ≡ length A + x → b ≡ length B + y → x < 3 → y < 3 → entry F a b ≡ M (get_or (i ∷ k ∷ o ∷ []) x 0) (get_or (p ∷ q ∷ j ∷ []) y 0)
  core_cell a b x y e h lx ly = F_at a b (omega arith) (omega arith) ∙ ap₂ M (get_after A (i ∷ k ∷ o ∷ []) a x e) (get_after B (p ∷ q ∷ j ∷ []) b y h)

  here : (n : ℕ) → n ≡ n + 0
  here n = omega arith

  core : IsCore (length A) (length B) (entry F)
  core = record {
    g = subst IsSign (sym (core_cell (length A) (length B) 0 0 (here (length A)) (here (length B)) (omega arith) (omega arith))) t.unit_ip;
    h = subst IsSign (sym (core_cell (length A) (length B + 1) 0 1 (here (length A)) refl (omega arith) (omega arith))) t.unit_iq;
    zero = core_cell (length A) (length B + 2) 0 2 (here (length A)) refl (omega arith) (omega arith) ∙ t.upper i j t.row_i t.column_j;
    s = subst IsSign (sym (core_cell (length A + 1) (length B + 2) 1 2 refl refl (omega arith) (omega arith))) t.unit_kj;
    t = subst IsSign (sym (core_cell (length A + 2) (length B + 2) 2 2 refl refl (omega arith) (omega arith))) t.unit_oj;
    determinant = subst IsSign (sym (determinant_same
        (core_cell (length A + 1) (length B) 1 0 refl (here (length B)) (omega arith) (omega arith))
        (core_cell (length A + 1) (length B + 1) 1 1 refl refl (omega arith) (omega arith))
        (core_cell (length A + 2) (length B) 2 0 refl (here (length B)) (omega arith) (omega arith))
        (core_cell (length A + 2) (length B + 1) 2 1 refl refl (omega arith) (omega arith)))) t.determinant;
  }

  before_rows : height F - 3 ≡ length A
  before_rows = let e = F_height in omega arith

  before_columns : F.width - 3 ≡ length B
  before_columns = let e = F_width in omega arith

  same : (r c : ℕ) → r < 3 → c < 3 → entry S r c ≡ entry F ((height F - 3) + r) ((F.width - 3) + c)
  same r c lr lc = S_at r c (omega arith) (omega arith)
      ∙ ap₂ M (get_left (i ∷ k ∷ o ∷ []) D r lr) (get_left (p ∷ q ∷ j ∷ []) E c lc)
      ∙ sym (core_cell ((height F - 3) + r) ((F.width - 3) + c) r c (ap (λ (n : ℕ). n + r) before_rows) (ap (λ (n : ℕ). n + c) before_columns) lr lc)

  pub core_connected : HaveConcentratedSum F S
  core_connected = record {
    first_rows = let e = F_height in omega arith;
    first_columns = let e = F_width in omega arith;
    second_rows = let e = S_height in omega arith;
    second_columns = omega arith;
    core = core_at (entry F) (height F - 3) (F.width - 3) (length A) (length B) before_rows before_columns core;
    same = same;
    above = λ r l. let lr : r < length A = (let e = before_rows in omega arith) in
        F_at r (F.width - 1) (omega arith) (let e = F_width in omega arith)
        ∙ ap₂ M (get_left A (i ∷ k ∷ o ∷ []) r lr) (get_after B (p ∷ q ∷ j ∷ []) (F.width - 1) 2 (let e = F_width in omega arith))
        ∙ t.upper (get_or A r 0) j (in_others (i ∷ []) s.rows_one (get_or A r 0) (in_at A r lr)) t.column_j;
    right = λ c l h. let inside : c < 3 + length E = omega arith in
        S_at 0 c (omega arith) inside
        ∙ ap (M i) (get_after (p ∷ q ∷ j ∷ []) E c (c - 3) (omega arith))
        ∙ t.upper i (get_or E (c - 3) 0) t.row_i (in_others (j ∷ []) s.columns_two (get_or E (c - 3) 0) (in_at E (c - 3) (later c (length E) l inside)));
  }
    where
      later : (c n : ℕ) → 3 ≤ c → c < 3 + n → c - 3 < n
      later c n l h = omega arith

  abbrev rows1 : List ℕ
  rows1 = A ++ (i ∷ [])

  abbrev columns1 : List ℕ
  columns1 = B ++ (p ∷ q ∷ [])

  rows1_in : (a : ℕ) → a < length rows1 → IsIn (get_or rows1 a 0) s.rows_one
  rows1_in a l = elim (in_either A (i ∷ []) (get_or rows1 a 0) (in_at rows1 a l)) [
    | inl u ↦ in_others (i ∷ []) s.rows_one (get_or rows1 a 0) u
    | inr u ↦ one (get_or rows1 a 0) u
  ]
    where
      one : (x : ℕ) → IsIn x (i ∷ []) → IsIn x s.rows_one
      one x (inl e) = subst (λ (x : ℕ). IsIn x s.rows_one) (sym e) t.row_i
      one x (inr u) = absurd u

  columns1_in : (b : ℕ) → b < length columns1 → IsIn (get_or columns1 b 0) s.columns_one
  columns1_in b l = elim (in_either B (p ∷ q ∷ []) (get_or columns1 b 0) (in_at columns1 b l)) [
    | inl u ↦ in_others (p ∷ q ∷ []) s.columns_one (get_or columns1 b 0) u
    | inr u ↦ two (get_or columns1 b 0) u
  ]
    where
      two : (x : ℕ) → IsIn x (p ∷ q ∷ []) → IsIn x s.columns_one
      two x (inl e) = subst (λ (x : ℕ). IsIn x s.columns_one) (sym e) t.column_p
      two x (inr (inl e)) = subst (λ (x : ℕ). IsIn x s.columns_one) (sym e) t.column_q
      two x (inr (inr u)) = absurd u

  rows2_in : (a : ℕ) → a < length (k ∷ o ∷ D) → IsIn (get_or (k ∷ o ∷ D) a 0) s.rows_two
  rows2_in zero l = t.row_k
  rows2_in (suc zero) l = t.row_o
  rows2_in (suc (suc a)) l = in_others (k ∷ o ∷ []) s.rows_two (get_or D a 0) (in_at D a (omega arith))

  columns2_in : (b : ℕ) → b < length (j ∷ E) → IsIn (get_or (j ∷ E) b 0) s.columns_two
  columns2_in zero l = t.column_j
  columns2_in (suc b) l = in_others (j ∷ []) s.columns_two (get_or E b 0) (in_at E b (omega arith))

  length_rows1 : length rows1 ≡ length A + 1
  length_rows1 = length-append A (i ∷ [])

  length_columns1 : length columns1 ≡ length B + 2
  length_columns1 = length-append B (p ∷ q ∷ [])

  -- the rows and columns of side one are rows and columns of the first matrix
  row_same : (a : ℕ) → a < length rows1 → get_or (A ++ (i ∷ k ∷ o ∷ [])) a 0 ≡ get_or rows1 a 0
  row_same a l = ap (λ (xs : List ℕ). get_or xs a 0) (sym (append_assoc A (i ∷ []) (k ∷ o ∷ []))) ∙ get_left rows1 (k ∷ o ∷ []) a l

  column_same : (b : ℕ) → b < length columns1 → get_or (B ++ (p ∷ q ∷ j ∷ [])) b 0 ≡ get_or columns1 b 0
  column_same b l = ap (λ (xs : List ℕ). get_or xs b 0) (sym (append_assoc B (p ∷ q ∷ []) (j ∷ []))) ∙ get_left columns1 (j ∷ []) b l

  inner : (a b : ℕ) → a < length rows1 → b < length columns1 → entry F a b ≡ M (get_or rows1 a 0) (get_or columns1 b 0)
  inner a b la lb = F_at a b (let e = length_rows1 in omega arith) (let e = length_columns1 in omega arith) ∙ ap₂ M (row_same a la) (column_same b lb)

  model : (x y b : ℕ) → x ≡ length A + y → y < 3 → b < length columns1 → entry F x b ≡ M (get_or (i ∷ k ∷ o ∷ []) y 0) (get_or columns1 b 0)
  model x y b e l lb = F_at x b (omega arith) (let h = length_columns1 in omega arith) ∙ ap₂ M (get_after A (i ∷ k ∷ o ∷ []) x y e) (column_same b lb)

  lower : (a b : ℕ) → a < length (k ∷ o ∷ D) → b < length columns1 → core_block (length A) (entry F) (entry S) (1 + a) b ≡ M (get_or (k ∷ o ∷ D) a 0) (get_or columns1 b 0)
  lower a b la lb =
      block_same (S_at 1 0 (omega arith) (omega arith)) (S_at 1 1 (omega arith) (omega arith)) (S_at 2 0 (omega arith) (omega arith)) (S_at 2 1 (omega arith) (omega arith))
      (S_at (1 + a) 0 (omega arith) (omega arith) ∙ ap (λ (x : ℕ). M x p) (get_next i (k ∷ o ∷ D) a))
      (S_at (1 + a) 1 (omega arith) (omega arith) ∙ ap (λ (x : ℕ). M x q) (get_next i (k ∷ o ∷ D) a))
      (model (length A + 1) 1 b refl (omega arith) lb) (model (length A + 2) 2 b refl (omega arith) lb)
      ∙ sym (t.lower (get_or (k ∷ o ∷ D) a 0) (get_or columns1 b 0) (rows2_in a la) (columns1_in b lb))

  outer : (a b : ℕ) → a < length (k ∷ o ∷ D) → b < length (j ∷ E) → entry S (1 + a) (2 + b) ≡ M (get_or (k ∷ o ∷ D) a 0) (get_or (j ∷ E) b 0)
  outer a b la lb = S_at (1 + a) (2 + b) (omega arith) (omega arith) ∙ ap₂ M (get_next i (k ∷ o ∷ D) a) (get_second p q (j ∷ E) b)

  abbrev blocks : ℕ → ℕ → ℕ → ℕ → ℕ → ℤ
  blocks x y z = four_blocks x y 1 2 (entry F) zeros (core_block z (entry F) (entry S)) (entry S)

  core_rows : height F - 2 ≡ length rows1
  core_rows = let h = length_rows1 in let u = F_height in omega arith

  core_columns : F.width - 1 ≡ length columns1
  core_columns = let h = length_columns1 in let u = F_width in omega arith

  in_sides : concentrated_sum F S ≡ submatrix m (rows1 ++ (k ∷ o ∷ D)) (columns1 ++ (j ∷ E))
  in_sides = filled_is m (rows1 ++ (k ∷ o ∷ D)) (columns1 ++ (j ∷ E)) ((height F - 2) + (height S - 1)) ((F.width - 1) + (S.width - 2)) (blocks (height F - 2) (F.width - 1) (height F - 3))
      (let e = length-append rows1 (k ∷ o ∷ D) in let h = length_rows1 in let u = F_height in let v = S_height in omega arith)
      (let e = length-append columns1 (j ∷ E) in let h = length_columns1 in let u = F_width in omega arith)
      (λ a b la lb.
      ap₂ (λ (x y : ℕ). blocks x y (height F - 3) a b) core_rows core_columns
      ∙ ap (λ (z : ℕ). blocks (length rows1) (length columns1) z a b) before_rows
      ∙ blocks_ordered M rows1 columns1 (k ∷ o ∷ D) (j ∷ E) 1 2 (entry F) zeros (core_block (length A) (entry F) (entry S)) (entry S) inner
      (λ x y lx ly. sym (t.upper (get_or rows1 x 0) (get_or (j ∷ E) y 0) (rows1_in x lx) (columns2_in y ly)))
      lower outer a b (let e = length-append rows1 (k ∷ o ∷ D) in omega arith) (let e = length-append columns1 (j ∷ E) in omega arith))

  core_whole : concentrated_sum F S ≡ submatrix m (A ++ (i ∷ k ∷ o ∷ D)) (B ++ (p ∷ q ∷ j ∷ E))
  core_whole = in_sides ∙ ap₂ (submatrix m) (append_assoc A (i ∷ []) (k ∷ o ∷ D)) (append_assoc B (p ∷ q ∷ []) (j ∷ E))

  -- ---- the matrices are the matrices of the lines without signs

  pub first_is : signed_submatrix m (framed [] A (plain i ∷ plain k ∷ plain o ∷ [])) (framed [] B (plain p ∷ plain q ∷ plain j ∷ [])) ≡ F
  first_is = ap₂ (signed_submatrix m) (plain_before A (i ∷ k ∷ o ∷ [])) (plain_before B (p ∷ q ∷ j ∷ [])) ∙ plain_submatrix m (A ++ (i ∷ k ∷ o ∷ [])) (B ++ (p ∷ q ∷ j ∷ []))

  pub second_is : signed_submatrix m (framed (plain i ∷ plain k ∷ plain o ∷ []) D []) (framed (plain p ∷ plain q ∷ plain j ∷ []) E []) ≡ S
  second_is = ap₂ (λ xs ys. signed_submatrix m (plain i ∷ plain k ∷ plain o ∷ xs) (plain p ∷ plain q ∷ plain j ∷ ys)) (append-nil (map plain D)) (append-nil (map plain E)) ∙ plain_submatrix m (i ∷ k ∷ o ∷ D) (p ∷ q ∷ j ∷ E)

  pub core_round_trip : (X Y : Matrix) → X ≡ F → Y ≡ S → HaveConcentratedSum X Y × (concentrated_sum X Y ≡ submatrix m (A ++ (i ∷ k ∷ o ∷ D)) (B ++ (p ∷ q ∷ j ∷ E)))
  core_round_trip X Y ex ey = (
    subst (λ (Z : Matrix). HaveConcentratedSum Z Y) (sym ex) (subst (λ (Z : Matrix). HaveConcentratedSum F Z) (sym ey) core_connected),
    ap₂ concentrated_sum ex ey ∙ core_whole,
  )
