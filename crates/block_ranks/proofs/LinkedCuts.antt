-- The pivot at a nonzero whose row and column are linked has no cut. A cut after the pivot would give a set of lines that contains the row
-- or the column, but not both, and that no link leaves.
use Rattle.std.proofs.Common.{◌≡◌, ◌≢◌, ◌<◌, ◌⊎◌, inl, inr, ◌∙◌, ℕ, ℤ, pos, ◌*ℤ◌, ◌-ℤ◌, true, false, not, ap, sym, subst, arith}
use Rattle.std.proofs.lemmas.Bool.{false≢true}
use Rattle.cmr_base.specs.declared.line.Line.TheVariants.{Row, Column}
use Rattle.cmr_base.specs.LineSets.{first_lines}
use Rattle.cmr_base.specs.Matrix.{Matrix, height, entry, IsEntry, IsMatrix, HasTernaryEntries}
use Rattle.cmr_base.specs.PlacedPivots.{reduced}
use Rattle.cmr_base.specs.Separations.{AreEnough, Lines, opposite, product_at}
use Rattle.cmr_base.specs.Signing.{IsSign}
use Rattle.cmr_base.proofs.Booleans.{not_not, same_or_not, two_cases}
use Rattle.cmr_base.proofs.Integers.{sums, products}
use Rattle.cmr_base.proofs.SignEntries.{sign_of_entry, zero_is_entry}
use Rattle.ghouila.specs.PivotLaws.{pivot_at, IsPivotPlace}
use Rattle.ghouila.proofs.Minors.{sign_twice}
use Rattle.ghouila.proofs.PivotLaws.{entry_after, pivots_undo_themselves, same_height}
use Rattle.ghouila.proofs.PivotSums.{pivoted_apart}
use Rattle.ghouila.proofs.WholePivots.{entry_there, entry_elsewhere}
use Rattle.cuts.specs.LineCuts.{IsCut}
use Rattle.cuts.proofs.CutLemmas.{lower_at, other_enough, other_is_cut, upper_at}
use Rattle.three_sep.specs.FirstCuts.{HasNoCut}
use Rattle.block_ranks.specs.BlockRanks.{is_row_of, is_column_of}
use Rattle.block_ranks.specs.Links.{AreLinkedLines, HasNoLinkOut}
use Rattle.block_ranks.proofs.KeptCuts.{before_if_cut, before_if_inside, crossed_side, kept}
use Rattle.block_ranks.proofs.RankBlocks.{HasTwoAt, none_in_column, none_in_row, two_at_any}
use Rattle.block_ranks.proofs.TurnedSides.{column_elsewhere, column_there, cut_after, row_elsewhere, row_there, turned_enough, turned_side}

-- no link leaves the rows of side one and the columns of side two of a cut
crossed_has_none_out : (m : Matrix) (T : Lines) → HasTernaryEntries m → IsCut m T → HasNoLinkOut m (crossed_side T)
crossed_has_none_out m T small cut place link = go (two_cases (T (Row place.row))) (two_cases (T (Column place.column)))
  where
    go : (T (Row place.row) ≡ true) ⊎ (T (Row place.row) ≡ false) → (T (Column place.column) ≡ true) ⊎ (T (Column place.column) ≡ false) → T (Row place.row) ≡ not (T (Column place.column))
    go (inl e) (inr f) = e ∙ sym (ap not f)
    go (inr e) (inl f) = e ∙ sym (ap not f)
    go (inl e) (inl f) = absurd (before_if_inside m T small cut place.row place.column link.row link.column e f link.nonzero link.not_before)
    go (inr e) (inr f) = absurd (before_if_inside m (opposite T) small (other_is_cut m T cut) place.row place.column link.row link.column (ap not e) (ap not f) link.nonzero link.not_before)

module _ (m : Matrix) (is : IsMatrix m) (r c : ℕ) (lr : r < height m) (lc : c < m.width) (nonzero : entry m r c ≢ pos 0) (ternary : HasTernaryEntries (pivot_at m r c)) where
  abbrev n : Matrix
  n = pivot_at m r c

  abbrev M : ℕ → ℕ → ℤ
  M = entry m

  abbrev E : ℕ → ℕ → ℤ
  E = entry n

  sign : IsSign (M r c)
  sign = sign_of_entry (M r c) (is.small r c) nonzero

  place : IsPivotPlace m r c
  place = record { row_in = lr; column_in = lc; nonzero = sign }

  -- the pivot of the pivot is the matrix
  back : pivot_at n r c ≡ m
  back = pivots_undo_themselves m r c is.rectangular place

  row_after : (x : ℕ) → x < height m → x < height n
  row_after x l = let e = same_height m r c place in omega arith

  at_place : E r c ≡ M r c
  at_place = entry_after m r c place r c lr lc ∙ entry_there M r c

  nonzero_after : E r c ≢ pos 0
  nonzero_after e = nonzero (sym at_place ∙ e)

  place_after : IsPivotPlace n r c
  place_after = record { row_in = row_after r lr; column_in = lc; nonzero = subst IsSign (sym at_place) sign }

  -- an entry after the pivot, and one before it
  after_is : (x y : ℕ) → x < height m → y < m.width → x ≢ r → y ≢ c → E x y ≡ reduced M r c x y
  after_is x y lx ly s t = entry_after m r c place x y lx ly ∙ entry_elsewhere M r c x y s ∙ pivoted_apart M r c x y t

  before_is : (x y : ℕ) → x < height m → y < m.width → x ≢ r → y ≢ c → M x y ≡ reduced E r c x y
  before_is x y lx ly s t = ap (λ (k : Matrix). entry k x y) (sym back) ∙ entry_after n r c place_after x y (row_after x lx) ly ∙ entry_elsewhere E r c x y s ∙ pivoted_apart E r c x y t

  -- ---- the row and the column on one side

  same_side : (T : Lines) → IsCut n T → T (Row r) ≡ true → T (Column c) ≡ true → AreLinkedLines m (Row r) (Column c) → ⊥
  same_side T cut er ec linked = false≢true (sym (ap not ec) ∙ sym (linked (crossed_side T) (crossed_has_none_out m T is.small before)) ∙ er)
    where
      before : IsCut m T
      before = subst (λ (k : Matrix). IsCut k T) back (kept n T ternary cut r c (row_after r lr) lc er ec nonzero_after (subst HasTernaryEntries (sym back) is.small))

  -- ---- the row on side one, and the column on side two

  module _ (T : Lines) (cut : IsCut n T) (er : T (Row r) ≡ true) (ec : T (Column c) ≡ false) where
    -- side one without the row, and with the column
    abbrev S : Lines
    S = opposite (turned_side (opposite T) r c)

    row_out : S (Row r) ≡ false
    row_out = ap not (row_there (opposite T) r c)

    column_in : S (Column c) ≡ true
    column_in = ap not (column_there (opposite T) r c)

    row_same : (x : ℕ) → x ≢ r → S (Row x) ≡ T (Row x)
    row_same x s = ap not (row_elsewhere (opposite T) r c x s) ∙ not_not (T (Row x))

    column_same : (y : ℕ) → y ≢ c → S (Column y) ≡ T (Column y)
    column_same y t = ap not (column_elsewhere (opposite T) r c y t) ∙ not_not (T (Column y))

    enough : AreEnough (first_lines (height m)) (first_lines m.width) S 4
    enough = other_enough m (turned_side (opposite T) r c) 4
        (turned_enough (opposite T) r c (height m) m.width lr lc (ap not er) (ap not ec) 4
        (other_enough m T 4 (subst (λ (h : ℕ). AreEnough (first_lines h) (first_lines m.width) T 4) (same_height m r c place) cut.cut.enough)))

    -- the upper block is zero
    upper_entry : (x y : ℕ) → x < height m → y < m.width → T (Row x) ≡ true → T (Column y) ≡ false
        → E x y ≡ E x cut.corners.two.column *ℤ (E cut.corners.one.row y *ℤ E cut.corners.one.row cut.corners.two.column)
    upper_entry x y lx ly = upper_at n cut.cut.closed x y (row_after x lx) ly

    upper_product : (x y : ℕ) → x < height m → y < m.width → T (Row x) ≡ true → T (Column y) ≡ false → E x y ≡ product_at E r c x y
    upper_product x y lx ly ex ey = rw (upper_entry x y lx ly ex ey, upper_entry x c lx lc ex ec, upper_entry r y lr ly er ey) (plain (E x cut.corners.two.column) (E r cut.corners.two.column) (E cut.corners.one.row y) (E cut.corners.one.row c) (E cut.corners.one.row cut.corners.two.column) (E r c) (upper_entry r c lr lc er ec) place_after.nonzero)
      where
        plain : (x r y c e s : ℤ) → s ≡ r *ℤ (c *ℤ e) → IsSign s → x *ℤ (y *ℤ e) ≡ (x *ℤ (c *ℤ e)) *ℤ ((r *ℤ (y *ℤ e)) *ℤ s)
        plain x r y c e s at u = sym (gathered x r y c e s ∙ ap (λ (z : ℤ). z *ℤ (s *ℤ (x *ℤ (y *ℤ e)))) (sym at) ∙ sign_twice s (x *ℤ (y *ℤ e)) u)
          where
            gathered : (x r y c e s : ℤ) → (x *ℤ (c *ℤ e)) *ℤ ((r *ℤ (y *ℤ e)) *ℤ s) ≡ (r *ℤ (c *ℤ e)) *ℤ (s *ℤ (x *ℤ (y *ℤ e)))
            gathered x r y c e s = simp products

    upper_is_zero : (x y : ℕ) → is_row_of m S true x → is_column_of m S false y → M x y ≡ pos 0
    upper_is_zero x y hx hy =
        let s : x ≢ r = λ e. false≢true (sym row_out ∙ (ap (λ (k : ℕ). S (Row k)) (sym e) ∙ hx.1)) in
        let t : y ≢ c = λ e. false≢true (sym hy.1 ∙ (ap (λ (k : ℕ). S (Column k)) e ∙ column_in)) in
        before_is x y hx.0 hy.0 s t ∙ equal (E x y) (E x c) (E r y) (E r c) (upper_product x y hx.0 hy.0 (sym (row_same x s) ∙ hx.1) (sym (column_same y t) ∙ hy.1))
      where
        equal : (z f g a : ℤ) → z ≡ f *ℤ (g *ℤ a) → z -ℤ a *ℤ (f *ℤ g) ≡ pos 0
        equal z f g a e = rw e (simp products (omega (arith, sums)))

    -- after the elimination of the row and the column, the lower block is the product after the pivot
    abbrev L : ℕ → ℕ → ℤ
    L = reduced M r c

    row_apart : cut.corners.two.row ≢ r
    row_apart e = false≢true (sym cut.cut.row_two ∙ (ap (λ (x : ℕ). T (Row x)) e ∙ er))

    column_apart : cut.corners.one.column ≢ c
    column_apart e = false≢true (sym ec ∙ (ap (λ (y : ℕ). T (Column y)) (sym e) ∙ cut.cut.column_one))

    lk : cut.corners.two.row < height m
    lk = let l = cut.are_inside.row_two in let e = same_height m r c place in omega arith

    left_entry : (x y : ℕ) → is_row_of m S false x → is_column_of m S true y → L x y ≡ product_at L cut.corners.two.row cut.corners.one.column x y
    left_entry x y hx hy = go (same_or_not x r) (same_or_not y c)
      where
        in_row : (z f g e : ℤ) → z ≡ pos 0 → f ≡ pos 0 → z ≡ f *ℤ (g *ℤ e)
        in_row z f g e h h' = rw (h, h') (simp products)

        in_column : (z f g e : ℤ) → z ≡ pos 0 → g ≡ pos 0 → z ≡ f *ℤ (g *ℤ e)
        in_column z f g e h h' = rw (h, h') (simp products)

        go : (x ≡ r) ⊎ (x ≢ r) → (y ≡ c) ⊎ (y ≢ c) → L x y ≡ product_at L cut.corners.two.row cut.corners.one.column x y
        go (inl e) t = in_row (L x y) (L x cut.corners.one.column) (L cut.corners.two.row y) (L cut.corners.two.row cut.corners.one.column) (subst (λ (k : ℕ). L k y ≡ pos 0) (sym e) (none_in_row M r c sign y))
            (subst (λ (k : ℕ). L k cut.corners.one.column ≡ pos 0) (sym e) (none_in_row M r c sign cut.corners.one.column))
        go (inr s) (inl e) = in_column (L x y) (L x cut.corners.one.column) (L cut.corners.two.row y) (L cut.corners.two.row cut.corners.one.column) (subst (λ (k : ℕ). L x k ≡ pos 0) (sym e) (none_in_column M r c sign x))
            (subst (λ (k : ℕ). L cut.corners.two.row k ≡ pos 0) (sym e) (none_in_column M r c sign cut.corners.two.row))
        go (inr s) (inr t) =
            let lp = cut.are_inside.column_one in
            rw (
              sym (after_is x y hx.0 hy.0 s t),
              sym (after_is x cut.corners.one.column hx.0 lp s column_apart),
              sym (after_is cut.corners.two.row y lk hy.0 row_apart t),
              sym (after_is cut.corners.two.row cut.corners.one.column lk lp row_apart column_apart),
            )
            (lower_at n cut.cut.closed x y (row_after x hx.0) hy.0 (sym (row_same x s) ∙ hx.1) (sym (column_same y t) ∙ hy.1))

    left_is_small : (x y : ℕ) → is_row_of m S false x → is_column_of m S true y → IsEntry (L x y)
    left_is_small x y hx hy = go (same_or_not x r) (same_or_not y c)
      where
        go : (x ≡ r) ⊎ (x ≢ r) → (y ≡ c) ⊎ (y ≢ c) → IsEntry (L x y)
        go (inl e) t = subst (λ (k : ℕ). IsEntry (L k y)) (sym e) (subst IsEntry (sym (none_in_row M r c sign y)) zero_is_entry)
        go (inr s) (inl e) = subst (λ (k : ℕ). IsEntry (L x k)) (sym e) (subst IsEntry (sym (none_in_column M r c sign x)) zero_is_entry)
        go (inr s) (inr t) = subst IsEntry (after_is x y hx.0 hy.0 s t) (ternary x y)

    two : HasTwoAt M (is_row_of m S false) (is_column_of m S true) r c
    two = record {
      other_row = cut.corners.two.row;
      other_column = cut.corners.one.column;
      row_in = (lr, row_out);
      column_in = (lc, column_in);
      other_row_in = (lk, row_same cut.corners.two.row row_apart ∙ cut.cut.row_two);
      other_column_in = (cut.are_inside.column_one, column_same cut.corners.one.column column_apart ∙ cut.cut.column_one);
      nonzero = nonzero;
      left = λ e. cut.lower (after_is cut.corners.two.row cut.corners.one.column lk cut.are_inside.column_one row_apart column_apart ∙ e);
      rest = λ u. left_entry;
    }

    -- no link leaves this set
    none_out : HasNoLinkOut m S
    none_out at link = go (two_cases (S (Row at.row))) (two_cases (S (Column at.column)))
      where
        go : (S (Row at.row) ≡ true) ⊎ (S (Row at.row) ≡ false) → (S (Column at.column) ≡ true) ⊎ (S (Column at.column) ≡ false) → S (Row at.row) ≡ S (Column at.column)
        go (inl e) (inl f) = e ∙ sym f
        go (inr e) (inr f) = e ∙ sym f
        go (inl e) (inr f) = absurd (link.nonzero (upper_is_zero at.row at.column (link.row, e) (link.column, f)))
        go (inr e) (inl f) =
            let here = two_at_any M (is_row_of m S false) (is_column_of m S true) r c two (λ x y hx hy. is.small x y) left_is_small at.row at.column (link.row, e) (link.column, f) link.nonzero in
            absurd (before_if_cut m at.row at.column link.row link.column link.nonzero
            (λ small. (turned_side S at.row at.column, cut_after m S is.small enough upper_is_zero at.row at.column here small)) link.not_before)

    other_sides : AreLinkedLines m (Row r) (Column c) → ⊥
    other_sides linked = false≢true (sym row_out ∙ (linked S none_out ∙ column_in))

  pub linked_has_no_cut : AreLinkedLines m (Row r) (Column c) → HasNoCut n
  linked_has_no_cut linked T cut = go (two_cases (T (Row r))) (two_cases (T (Column c)))
    where
      go : (T (Row r) ≡ true) ⊎ (T (Row r) ≡ false) → (T (Column c) ≡ true) ⊎ (T (Column c) ≡ false) → ⊥
      go (inl e) (inl f) = same_side T cut e f linked
      go (inr e) (inr f) = same_side (opposite T) (other_is_cut n T cut) (ap not e) (ap not f) linked
      go (inl e) (inr f) = other_sides T cut e f linked
      go (inr e) (inl f) = other_sides (opposite T) (other_is_cut n T cut) (ap not e) (ap not f) linked
