-- Properties of all cuts with given lines in side one and given lines in side two.
use Rattle.std.proofs.Common.{ℕ, zero, suc, Bool, true, false, not, ◌≡◌, ◌≢◌, ◌<◌, ◌≤◌, ◌+◌, ◌∙◌, sym, ap, refl, arith, get_or, List, ◌⊎◌, inl, inr, nat_eq, nat_lt, cond, subst, pos, ◌*ℤ◌, ◌||◌}
use Rattle.cmr_base.specs.declared.line.Line.{Line}
use Rattle.cmr_base.specs.declared.line.Line.TheVariants.{Row, Column}
use Rattle.cmr_base.specs.Matrix.{Matrix, height, entry, transposed, IsMatrix}
use Rattle.cmr_base.specs.Separations.{Lines, opposite}
use Rattle.cmr_base.specs.Trees.{support}
use Rattle.cmr_base.proofs.Booleans.{two_cases, same_or_not, ne_of, and_is, true_is, nonzero_is, not_both, not_is, is_not, is_and, is_eq, or_left, or_right}
use Rattle.cmr_base.proofs.LineCounts.{outside_is}
use Rattle.cmr_base.proofs.NextNonzeros.{column_in}
use Rattle.cmr_base.proofs.Parts.{height-transposed, is_matrix-transposed}
use Rattle.cmr_base.proofs.SeedLemmas.{count_grows}
use Rattle.cmr_base.proofs.TransposedLines.{support-transposed}
use Rattle.cuts.specs.declared.groups.Groups.{Groups}
use Rattle.cmr_base.specs.Seeds.{count}
use Rattle.cuts.specs.LineCuts.{IsCut, name_of, HoldTogether}
use Rattle.cuts.specs.Covers.{IsHalved, IsNonzeroOn, AreOnOneSide, AreWithin, AreOutside, Covers, AddsAtMost, AreUnlike, AreAllUnlike, AreClasses, may_be_outside, AreAtMost, LeavesFew, GetName}
use Rattle.cuts.specs.Classes.{AreClassNumbers, is_between, is_in_heap}
use Rattle.cuts.specs.CutSides.{HasNumbers, columns_heap, heap_of, rows_heap}
use Rattle.cuts.specs.declared.heaps.Heaps.{Heaps}
use Rattle.cuts.specs.declared.sides.Side.{Side}
use Rattle.cuts.specs.declared.line_patterns.LinePatterns.{LinePatterns}
use Rattle.cmr_base.specs.declared.line_mask.LineMask.{LineMask}
use Rattle.cmr_base.specs.LineMasks.{as_set}
use Rattle.cuts.proofs.CutLemmas.{lower_at, other_is_cut, upper_at}
use Rattle.cuts.proofs.WordLemmas.{as_first, as_second, first_zero, second_zero}
use Rattle.cmr_base.specs.Components.{IsLineOf}

-- ---- one pattern

-- two lines of one side that are not 0 on lines of the other side have equal patterns there
module _ (m : Matrix) (is : IsMatrix m) (T : Lines) (w : IsCut m T) where
  lower : (r c : ℕ) → r < height m → c < m.width → T (Row r) ≡ false → T (Column c) ≡ true
      → entry m r c ≡ entry m r w.corners.one.column *ℤ (entry m w.corners.two.row c *ℤ entry m w.corners.two.row w.corners.one.column)
  lower r c lr lc er ec = lower_at m w.cut.closed r c lr lc er ec

  upper : (r c : ℕ) → r < height m → c < m.width → T (Row r) ≡ true → T (Column c) ≡ false
      → entry m r c ≡ entry m r w.corners.two.column *ℤ (entry m w.corners.one.row c *ℤ entry m w.corners.one.row w.corners.two.column)
  upper r c lr lc er ec = upper_at m w.cut.closed r c lr lc er ec

  row_like : (r met c : ℕ) → r < height m → T (Row r) ≡ false → met < m.width → T (Column met) ≡ true → support m r met ≡ true → c < m.width
      → T (Column c) ≡ true → support m r c ≡ support m w.corners.two.row c
  row_like r met c lr er lm em s lc ec =
      let factor : entry m r w.corners.one.column ≢ pos 0 = λ z.
      nonzero_is (entry m r met) s (lower r met lr lm er em ∙ first_zero (entry m r w.corners.one.column) (entry m w.corners.two.row met) (entry m w.corners.two.row w.corners.one.column) z) in
      as_second (entry m r c) (entry m r w.corners.one.column) (entry m w.corners.two.row c) (entry m w.corners.two.row w.corners.one.column) (is.small r w.corners.one.column) (is.small w.corners.two.row c) (is.small w.corners.two.row w.corners.one.column)
      factor w.lower (lower r c lr lc er ec)

  column_like : (c met r : ℕ) → c < m.width → T (Column c) ≡ false → met < height m → T (Row met) ≡ true → support m met c ≡ true → r < height m
      → T (Row r) ≡ true → support m r c ≡ support m r w.corners.two.column
  column_like c met r lc ec lm em s lr er =
      let factor : entry m w.corners.one.row c ≢ pos 0 = λ z.
      nonzero_is (entry m met c) s (upper met c lm lc em ec ∙ second_zero (entry m met w.corners.two.column) (entry m w.corners.one.row c) (entry m w.corners.one.row w.corners.two.column) z) in
      as_first (entry m r c) (entry m r w.corners.two.column) (entry m w.corners.one.row c) (entry m w.corners.one.row w.corners.two.column) (is.small r w.corners.two.column) (is.small w.corners.one.row c) (is.small w.corners.one.row w.corners.two.column)
      factor w.upper (upper r c lr lc er ec)

-- two unlike lines are not both in side two
pub one_pattern : (m : Matrix) (H T : Lines) (x y : Line) → IsMatrix m → IsCut m T → AreWithin m H T → IsLineOf m x → IsLineOf m y → AreUnlike m H x y → T x ≡ false → T y ≡ false → ⊥
one_pattern m H T (Row r) (Row s) is w within lx ly u ex ey =
    let (a, la, ha, sa) = u.met_one in
    let (b, lb, hb, sb) = u.met_two in
    let (c, lc, hc, d) = u.differ in
    let ec = within (Column c) lc hc in
    d (row_like m is T w r a c lx ex la (within (Column a) la ha) sa lc ec ∙ sym (row_like m is T w s b c ly ey lb (within (Column b) lb hb) sb lc ec))
one_pattern m H T (Column c) (Column d) is w within lx ly u ex ey =
    let (a, la, ha, sa) = u.met_one in
    let (b, lb, hb, sb) = u.met_two in
    let (r, lr, hr, n) = u.differ in
    let er = within (Row r) lr hr in
    n (column_like m is T w c a r lx ex la (within (Row a) la ha) sa lr er ∙ sym (column_like m is T w d b r ly ey lb (within (Row b) lb hb) sb lr er))
one_pattern m H T (Row r) (Column d) is w within lx ly u ex ey = u.differ
one_pattern m H T (Column c) (Row s) is w within lx ly u ex ey = u.differ

-- ---- consequences for the cuts with H in side one and K in side two

pub covers_more : (m : Matrix) (H K P P' : Lines) → AreWithin m P P' → Covers m H K P → Covers m H K P'
covers_more m H K P P' more h T w x l e = more x l (h T w x l e)

within_sum : (m : Matrix) (H X H' T : Lines) → AddsAtMost m H' H X → AreWithin m H T → AreWithin m X T → AreWithin m H' T
within_sum m H X H' T adds h x z l e = elim (adds z l e) [
  | inl old ↦ h z l old
  | inr new ↦ x z l new
]

-- ---- one set contains another, or a line is missing

abbrev AllOrOne : (ℕ → Bool) → (ℕ → Bool) → ℕ → Type 0
AllOrOne test other size = ((a : ℕ) → a < size → test a ≡ true → other a ≡ true) ⊎ ((a : ℕ) × (a < size) × (test a ≡ true) × (other a ≡ false))

all_or_one : (test other : ℕ → Bool) (size : ℕ) → AllOrOne test other size
all_or_one test other zero = inl (λ a l e. absurd (omega (arith, l)))
all_or_one test other (suc k) = elim (all_or_one test other k) [
  | inr (a, l, e, f) ↦ inr (a, omega (arith, l), e, f)
  | inl all ↦ elim (two_cases (other k)) [
    | inl t ↦ inl (λ a l e. last all a l e (λ same. ap other same ∙ t))
    | inr f ↦ elim (two_cases (test k)) [
      | inl t ↦ inr (k, omega arith, t, f)
      | inr n ↦ inl (λ a l e. last all a l e (λ same. absurd (not_both (test a) e (ap test same ∙ n))))
    ]
  ]
]
  where
    last : ((a : ℕ) → a < k → test a ≡ true → other a ≡ true) → (a : ℕ) → a < suc k → test a ≡ true → (a ≡ k → other a ≡ true) → other a ≡ true
    last all a l e here = elim (same_or_not a k) [
      | inl same ↦ here same
      | inr n ↦ all a (omega (arith, l, n)) e
    ]

within_or_not : (m : Matrix) (X T : Lines) → AreWithin m X T ⊎ ((x : Line) × IsLineOf m x × (X x ≡ true) × (T x ≡ false))
within_or_not m X T = elim (all_or_one (λ r. X (Row r)) (λ r. T (Row r)) (height m)) [
  | inr (r, l, e, f) ↦ inr (Row r, l, e, f)
  | inl rows ↦ elim (all_or_one (λ c. X (Column c)) (λ c. T (Column c)) m.width) [
    | inr (c, l, e, f) ↦ inr (Column c, l, e, f)
    | inl columns ↦ inl (both rows columns)
  ]
]
  where
    both : ((r : ℕ) → r < height m → X (Row r) ≡ true → T (Row r) ≡ true) → ((c : ℕ) → c < m.width → X (Column c) ≡ true → T (Column c) ≡ true) → AreWithin m X T
    both rows columns (Row r) l e = rows r l e
    both rows columns (Column c) l e = columns c l e

-- ---- halves

-- of two sets, each line of one of which is unlike each line of the other, one is in side one
pub halved_by_unlike : (m : Matrix) (H X Y H1 H2 : Lines) → IsMatrix m → AreAllUnlike m H X Y → AddsAtMost m H1 H X → AddsAtMost m H2 H Y → IsHalved m H H1 H2
halved_by_unlike m H X Y H1 H2 is unlike adds1 adds2 T w one = elim (within_or_not m X T) [
  | inl all ↦ inl (within_sum m H X H1 T adds1 one all)
  | inr (x, lx, hx, ex) ↦ elim (within_or_not m Y T) [
    | inl all ↦ inr (within_sum m H Y H2 T adds2 one all)
    | inr (y, ly, hy, ey) ↦ absurd (one_pattern m H T x y is w one lx ly (unlike x y lx ly hx hy) ex ey)
  ]
]

pub covers_halves : (m : Matrix) (H K P H1 H2 : Lines) → IsHalved m H H1 H2 → Covers m H1 K P → Covers m H2 K P → Covers m H K P
covers_halves m H K P H1 H2 halved h1 h2 T w = elim (halved T w.cut w.one) [
  | inl all ↦ h1 T (record { cut = w.cut; one = all; two = w.two })
  | inr all ↦ h2 T (record { cut = w.cut; one = all; two = w.two })
]

-- the same for the lines of side two
pub covers_halves_beside : (m : Matrix) (H K P K1 K2 : Lines) → IsHalved m K K1 K2 → Covers m H K1 P → Covers m H K2 P → Covers m H K P
covers_halves_beside m H K P K1 K2 halved h1 h2 T w = elim (halved (opposite T) (other_is_cut m T w.cut) (λ z l h. ap not (w.two z l h))) [
  | inl all ↦ h1 T (record { cut = w.cut; one = w.one; two = λ z l h. not_is (T z) (all z l h) })
  | inr all ↦ h2 T (record { cut = w.cut; one = w.one; two = λ z l h. not_is (T z) (all z l h) })
]

pub covers_line : (m : Matrix) (H K P H' K' : Lines) (x : Line) → IsLineOf m x → ((z : Line) → IsLineOf m z → H' z ≡ true → (H z ≡ true) ⊎ (z ≡ x))
    → ((z : Line) → IsLineOf m z → K' z ≡ true → (K z ≡ true) ⊎ (z ≡ x))
    → Covers m H' K P → Covers m H K' P → Covers m H K P
covers_line m H K P H' K' x lx adds1 adds2 h1 h2 T w = elim (two_cases (T x)) [
  | inl t ↦ h1 T (record { cut = w.cut; one = one t; two = w.two })
  | inr f ↦ h2 T (record { cut = w.cut; one = w.one; two = two f })
]
  where
    one : T x ≡ true → AreWithin m H' T
    one t z l e = elim (adds1 z l e) [
      | inl old ↦ w.one z l old
      | inr same ↦ ap T same ∙ t
    ]

    two : T x ≡ false → AreOutside m K' T
    two f z l e = elim (adds2 z l e) [
      | inl old ↦ w.two z l old
      | inr same ↦ ap T same ∙ f
    ]

-- ---- fewer than four lines

-- a side that has none of H has only lines of pattern 0 and of one class outside H
module _ (m : Matrix) (H T : Lines) (is : IsMatrix m) (w : IsCut m T) (within : AreWithin m H T) where
  not_in : (x : Line) → IsLineOf m x → T x ≡ false → H x ≡ false
  not_in x l e = elim (two_cases (H x)) [
    | inl h ↦ absurd (not_both (T x) (within x l h) e)
    | inr f ↦ f
  ]

  module _ (line : ℕ → Line) (class : ℕ → ℕ) (size bound : ℕ) (low : (a : ℕ) → a < size → IsLineOf m (line a)) (classes : AreClasses m H line class) (at_most : AreAtMost H line class size bound) where
    bounded : (given : ℕ) → ((a : ℕ) → a < size → T (line a) ≡ false → (nat_eq (class a) 0 || nat_eq (class a) given) ≡ true) → count (λ a. not (T (line a))) size ≤ bound
    bounded given all =
        let l = count_grows (λ a. not (T (line a))) (may_be_outside H line class given) size (λ a la e.
        let f = not_is (T (line a)) e in
        is_and (not (H (line a))) (nat_eq (class a) 0 || nat_eq (class a) given) (is_not (H (line a)) (not_in (line a) (low a la) f)) (all a la f)) in
        let b = at_most given in omega (arith, l, b)

    of_class : (s : ℕ) → s < size → T (line s) ≡ false → class s ≢ 0 → (a : ℕ) → a < size → T (line a) ≡ false → (nat_eq (class a) 0 || nat_eq (class a) (class s)) ≡ true
    of_class s ls es ns a la ea = elim (same_or_not (class a) 0) [
      | inl zero_class ↦ or_left (nat_eq (class a) 0) (nat_eq (class a) (class s)) (is_eq (class a) 0 zero_class)
      | inr na ↦ elim (same_or_not (class a) (class s)) [
        | inl same ↦ or_right (nat_eq (class a) 0) (nat_eq (class a) (class s)) (is_eq (class a) (class s) same)
        | inr n ↦
            let u = classes a s (low a la) (low s ls) (not_in (line a) (low a la) ea) (not_in (line s) (low s ls) es) na ns n in
            absurd (one_pattern m H T (line a) (line s) is w within (low a la) (low s ls) u ea es)
      ]
    ]

    few_outside : count (λ a. not (T (line a))) size ≤ bound
    few_outside = elim (all_or_one (λ a. not (T (line a))) (λ a. nat_eq (class a) 0) size) [
      | inl all ↦ bounded 0 (λ a la e. or_left (nat_eq (class a) 0) (nat_eq (class a) 0) (all a la (is_not (T (line a)) e)))
      | inr (s, ls, e, f) ↦ bounded (class s) (of_class s ls (not_is (T (line s)) e) (ne_of (class s) 0 f))
    ]

  pub no_few : LeavesFew m H → ⊥
  no_few f =
      let a = few_outside Row f.rows (height m) f.most_rows (λ r l. l) f.row_classes f.rows_at_most in
      let b = few_outside Column f.columns m.width f.most_columns (λ c l. l) f.column_classes f.columns_at_most in
      let few = f.few in
      let all = outside_is (height m) m.width T in
      let four = w.cut.enough.two in omega (arith, a, b, all, few, four)

-- side two has fewer than four lines
pub covers_few : (m : Matrix) (H K P : Lines) → IsMatrix m → LeavesFew m H → Covers m H K P
covers_few m H K P is few T w = absurd (no_few m H T is w.cut w.one few)

-- side one has fewer than four lines
pub covers_few_beside : (m : Matrix) (H K P : Lines) → IsMatrix m → LeavesFew m K → Covers m H K P
covers_few_beside m H K P is few T w = absurd (no_few m K (opposite T) is (other_is_cut m T w.cut) (λ z l h. ap not (w.two z l h)) few)

-- ---- the group of a line

-- lines of one name are in side one, or otherwise in side two
pub covers_group : (m : Matrix) (groups : Groups) (name : ℕ) (H G H' P : Lines) → HoldTogether (IsCut m) m groups
    → ((x : Line) → IsLineOf m x → G x ≡ true → name_of m groups x ≡ name) → AddsAtMost m H' H G
    → (K : Lines) → ((x : Line) → IsLineOf m x → K x ≡ false) → Covers m H' K P → Covers m H G P → (T : Lines) → IsCut m T → AreWithin m H T → (x : Line) → IsLineOf m x → T x ≡ false → P x ≡ true
covers_group m groups name H G H' P together named adds K empty h1 h2 T w one = elim (within_or_not m G T) [
  | inl all ↦ h1 T (record { cut = w; one = within_sum m H G H' T adds one all; two = λ z l k. absurd (not_both (K z) k (empty z l)) })
  | inr (x, lx, gx, ex) ↦ h2 T (record { cut = w; one = one; two = λ z l g. together T w z x l lx (named z l g ∙ sym (named x lx gx)) ∙ ex })
]

-- the lines outside P are on the side of the first line of the search
pub group_of_covers : (m : Matrix) (groups : Groups) (name : ℕ) (H G H' K P : Lines) (e : Line) → IsLineOf m e → ((x : Line) → IsLineOf m x → H x ≡ true → x ≡ e) → HoldTogether (IsCut m) m groups
    → ((x : Line) → IsLineOf m x → G x ≡ true → name_of m groups x ≡ name) → AddsAtMost m H' H G → ((x : Line) → IsLineOf m x → K x ≡ false) → Covers m H' K P → Covers m H G P → AreOnOneSide m e P
group_of_covers m groups name H G H' K P e le only together named adds empty h1 h2 T w x l n = elim (two_cases (T e)) [
  | inl t ↦ in_one T w t ∙ sym t
  | inr f ↦ not_is (T x) (in_one (opposite T) (other_is_cut m T w) (ap not f)) ∙ sym f
]
  where
    in_one : (S : Lines) → IsCut m S → S e ≡ true → S x ≡ true
    in_one S v t = elim (two_cases (S x)) [
      | inl s ↦ s
      | inr s ↦ absurd (not_both (P x) (covers_group m groups name H G H' P together named adds K empty h1 h2 S v (λ z lz hz. ap S (only z lz hz) ∙ t) x l s) n)
    ]

-- the names of the lines of such a group
pub group_named : (m : Matrix) (before after : Groups) (P : Lines) (e : Line) → IsLineOf m e → HoldTogether (IsCut m) m before
    → ((T : Lines) → IsCut m T → (x : Line) → IsLineOf m x → P x ≡ false → T x ≡ T e)
    → GetName m before after P e → HoldTogether (IsCut m) m after
group_named m before after P e le together same named T w a b la lb is = sym (like a la).2 ∙ together T w (like a la).0 (like b lb).0 (like a la).1 (like b lb).1 (sym (like a la).3 ∙ is ∙ (like b lb).3) ∙ (like b lb).2
  where
    -- a line that is on the same side and had this name before
    like : (x : Line) → IsLineOf m x → (y : Line) × IsLineOf m y × (T y ≡ T x) × (name_of m after x ≡ name_of m before y)
    like x l = elim (two_cases (P x)) [
      | inl p ↦ (x, l, refl, named.kept x l p)
      | inr n ↦ (e, le, sym (same T w x l n), named.renamed x l n)
    ]

-- ---- classes by numbers

-- rows by their numbers for the columns of a set
unlike_rows : (m : Matrix) (lines : LineMask) (classes : List ℕ) → IsMatrix m → AreClassNumbers m lines.columns.words classes → (r s : ℕ) → r < height m
    → s < height m → get_or classes r 0 ≢ 0 → get_or classes s 0 ≢ 0 → get_or classes r 0 ≢ get_or classes s 0
    → AreUnlike m (as_set lines) (Row r) (Row s)
unlike_rows m lines classes is so r s lr ls nr ns d = record {
  met_one = let (c, h, t) = so.met r lr nr in (c, column_in m r c is lr t, h, t);
  met_two = let (c, h, t) = so.met s ls ns in (c, column_in m s c is ls t, h, t);
  differ = let (c, h, n) = so.apart r s lr ls d in (c, width_of c n, h, n);
}
  where
    width_of : (c : ℕ) → support m r c ≢ support m s c → c < m.width
    width_of c n = elim (two_cases (support m r c)) [
      | inl t ↦ column_in m r c is lr t
      | inr f ↦ column_in m s c is ls (true_is (support m s c) (λ e. n (f ∙ sym e)))
    ]

-- columns by their numbers for the rows of a set
unlike_columns : (m : Matrix) (lines : LineMask) (classes : List ℕ) → IsMatrix m → AreClassNumbers (transposed m) lines.rows.words classes → (c d : ℕ)
    → c < m.width → d < m.width → get_or classes c 0 ≢ 0 → get_or classes d 0 ≢ 0 → get_or classes c 0 ≢ get_or classes d 0
    → AreUnlike m (as_set lines) (Column c) (Column d)
unlike_columns m lines classes is so c d lc ld nc nd n = record {
  met_one = met c lc nc;
  met_two = met d ld nd;
  differ = let (r, h, u) = so.apart c d (tall c lc) (tall d ld) n in (r, height_of r u, h, λ e. u (support-transposed m is r c ∙ e ∙ sym (support-transposed m is r d)));
}
  where
    tall : (x : ℕ) → x < m.width → x < height (transposed m)
    tall x l = let e = height-transposed m in omega (arith, l, e)

    low : (x r : ℕ) → x < m.width → support (transposed m) x r ≡ true → r < height m
    low x r l t = column_in (transposed m) x r (is_matrix-transposed m is) (tall x l) t

    met : (x : ℕ) → x < m.width → get_or classes x 0 ≢ 0 → IsNonzeroOn m (as_set lines) (Column x)
    met x l nx = let (r, h, t) = so.met x (tall x l) nx in (r, low x r l t, h, sym (support-transposed m is r x) ∙ t)

    height_of : (r : ℕ) → support (transposed m) c r ≢ support (transposed m) d r → r < height m
    height_of r u = elim (two_cases (support (transposed m) c r)) [
      | inl t ↦ low c r lc t
      | inr f ↦ low d r ld (true_is (support (transposed m) d r) (λ e. u (f ∙ sym e)))
    ]

pub row_classes : (m : Matrix) (lines : LineMask) (classes : List ℕ) → IsMatrix m → AreClassNumbers m lines.columns.words classes → AreClasses m (as_set lines) Row (λ r. get_or classes r 0)
row_classes m lines classes is so r s lr ls er es nr ns d = unlike_rows m lines classes is so r s lr ls nr ns d

pub column_classes : (m : Matrix) (lines : LineMask) (classes : List ℕ) → IsMatrix m → AreClassNumbers (transposed m) lines.rows.words classes
    → AreClasses m (as_set lines) Column (λ c. get_or classes c 0)
column_classes m lines classes is so c d lc ld ec ed nc nd n = unlike_columns m lines classes is so c d lc ld nc nd n

-- the classes of one heap differ from the classes of the other
heaps_differ : (heaps : Heaps) (one other : ℕ) → is_in_heap heaps one true ≡ true → is_in_heap heaps other false ≡ true → (one ≢ 0) × (other ≢ 0) × (one ≢ other)
heaps_differ heaps one other e f =
    let a = and_is (not (nat_eq one 0)) (is_between heaps.low heaps.high one) e in
    let b = and_is (not (nat_eq other 0)) (not (is_between heaps.low heaps.high other)) f in
    (ne_of one 0 (not_is (nat_eq one 0) a.0), ne_of other 0 (not_is (nat_eq other 0) b.0), λ same. not_both (is_between heaps.low heaps.high other) (sym (ap (is_between heaps.low heaps.high) same) ∙ a.1) (not_is (is_between heaps.low heaps.high other) b.1))

pub rows_halved : (m : Matrix) (lines : LineMask) (heaps : Heaps) (classes : List ℕ) (H1 H2 : Lines) → IsMatrix m
    → AreClassNumbers m lines.columns.words classes → AddsAtMost m H1 (as_set lines) (rows_heap heaps classes true)
    → AddsAtMost m H2 (as_set lines) (rows_heap heaps classes false) → IsHalved m (as_set lines) H1 H2
rows_halved m lines heaps classes H1 H2 is so adds1 adds2 = halved_by_unlike m (as_set lines) (rows_heap heaps classes true) (rows_heap heaps classes false) H1 H2 is unlike adds1 adds2
  where
    unlike : AreAllUnlike m (as_set lines) (rows_heap heaps classes true) (rows_heap heaps classes false)
    unlike (Row r) (Row s) lr ls hr hs = let (nr, ns, d) = heaps_differ heaps (get_or classes r 0) (get_or classes s 0) hr hs in unlike_rows m lines classes is so r s lr ls nr ns d
    unlike (Row r) (Column c) lr lc hr hc = absurd (not_both false hc refl)
    unlike (Column c) (Row r) lc lr hc hr = absurd (not_both false hc refl)
    unlike (Column c) (Column d) lc ld hc hd = absurd (not_both false hc refl)

pub columns_halved : (m : Matrix) (lines : LineMask) (heaps : Heaps) (classes : List ℕ) (H1 H2 : Lines) → IsMatrix m
    → AreClassNumbers (transposed m) lines.rows.words classes → AddsAtMost m H1 (as_set lines) (columns_heap heaps classes true)
    → AddsAtMost m H2 (as_set lines) (columns_heap heaps classes false) → IsHalved m (as_set lines) H1 H2
columns_halved m lines heaps classes H1 H2 is so adds1 adds2 = halved_by_unlike m (as_set lines) (columns_heap heaps classes true) (columns_heap heaps classes false) H1 H2 is unlike adds1 adds2
  where
    unlike : AreAllUnlike m (as_set lines) (columns_heap heaps classes true) (columns_heap heaps classes false)
    unlike (Column c) (Column d) lc ld hc hd = let (nc, nd, n) = heaps_differ heaps (get_or classes c 0) (get_or classes d 0) hc hd in unlike_columns m lines classes is so c d lc ld nc nd n
    unlike (Row r) (Column c) lr lc hr hc = absurd (not_both false hr refl)
    unlike (Column c) (Row r) lc lr hc hr = absurd (not_both false hr refl)
    unlike (Row r) (Row s) lr ls hr hs = absurd (not_both false hr refl)

-- the same with fewer known lines
pub covers_less : (m : Matrix) (H K P less_one less_two : Lines) → AreWithin m less_one H → AreWithin m less_two K → Covers m less_one less_two P → Covers m H K P
covers_less m H K P less_one less_two one two h T w = h T (record { cut = w.cut; one = λ x l e. w.one x l (one x l e); two = λ x l e. w.two x l (two x l e) })

-- two sides with at most these further lines
pub halved_within : (m : Matrix) (H one other more_one more_other : Lines) → IsHalved m H one other → AddsAtMost m more_one H one → AddsAtMost m more_other H other → IsHalved m H more_one more_other
halved_within m H one other more_one more_other halved adds1 adds2 T cut within = elim (halved T cut within) [
  | inl h ↦ inl (λ x l e. elim (adds1 x l e) [ inl old ↦ within x l old | inr new ↦ h x l new ])
  | inr h ↦ inr (λ x l e. elim (adds2 x l e) [ inl old ↦ within x l old | inr new ↦ h x l new ])
]

-- each cut has one of the two heaps in side one
pub heaps_halved : (m : Matrix) (patterns : LinePatterns) (one other : Lines) → IsMatrix m → HasNumbers m patterns.side.now
    → ((x : Line) → one x ≡ true → heap_of patterns true x ≡ true) → ((x : Line) → other x ≡ true → heap_of patterns false x ≡ true)
    → IsHalved m (as_set patterns.side.now.lines) one other
heaps_halved m patterns one other is has in_one in_other = elim (two_cases by_columns) [
  | inl t ↦ columns_halved m side.lines patterns.columns.heaps side.column_numbers.items one other is has.columns (λ x l e. inr (sym (ap (λ (b : Bool). heap b true x) t) ∙ in_one x e)) (λ x l e. inr (sym (ap (λ (b : Bool). heap b false x) t) ∙ in_other x e))
  | inr f ↦ rows_halved m side.lines patterns.rows.heaps side.row_numbers.items one other is has.rows (λ x l e. inr (sym (ap (λ (b : Bool). heap b true x) f) ∙ in_one x e)) (λ x l e. inr (sym (ap (λ (b : Bool). heap b false x) f) ∙ in_other x e))
]
  where
    side : Side
    side = patterns.side.now

    by_columns : Bool
    by_columns = nat_lt patterns.rows.heaps.lighter patterns.columns.heaps.lighter

    heap : Bool → Bool → Lines
    heap b inside = cond b (columns_heap patterns.columns.heaps side.column_numbers.items inside) (rows_heap patterns.rows.heaps side.row_numbers.items inside)

-- the patterns of the lines outside a side show that few lines can be on the other side
pub patterns_few : (m : Matrix) (patterns : LinePatterns) → IsMatrix m → HasNumbers m patterns.side.now → patterns.rows.most + patterns.columns.most < 4 → LeavesFew m (as_set patterns.side.now.lines)
patterns_few m patterns is has few = record {
  rows = row_class;
  columns = column_class;
  most_rows = patterns.rows.most;
  most_columns = patterns.columns.most;
  row_classes = row_classes m lines patterns.side.now.row_numbers.items is has.rows;
  column_classes = column_classes m lines patterns.side.now.column_numbers.items is has.columns;
  rows_at_most = λ given. subst (λ (n : ℕ). count (may_be_outside (as_set lines) Row row_class given) n ≤ patterns.rows.most) has.lines.rows (patterns.most_rows given);
  columns_at_most = λ given. subst (λ (n : ℕ). count (may_be_outside (as_set lines) Column column_class given) n ≤ patterns.columns.most) has.lines.columns (patterns.most_columns given);
  few = few;
}
  where
    lines : LineMask
    lines = patterns.side.now.lines

    row_class : ℕ → ℕ
    row_class r = get_or patterns.side.now.row_numbers.items r 0

    column_class : ℕ → ℕ
    column_class c = get_or patterns.side.now.column_numbers.items c 0
