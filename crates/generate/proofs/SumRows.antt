-- The rows of a sum of circulants.
use Rattle.std.proofs.Common.{◌≡◌, ◌<◌, ◌≤◌, ◌+◌, ◌-◌, ◌*◌, ◌/◌, ◌∙◌, ◌++◌, ◌*ℤ◌, ◌-ℤ◌, ◌%◌, ◌⊎◌, ℕ, zero, suc, ℤ, pos, negsuc, neg_ℤ, Bool, true, false, nat_lt, cond, List, [], ◌∷◌, map, length, take, get_or, replicate, refl, ap, ap₂, sym, subst, arith, inl, inr, length-append, w8, to_z, of_z}
use Rattle.std.specs.List.{AllByRecursion}
use Rattle.std.proofs.lemmas.Bool.{cases_lt}
use Rattle.std.proofs.lemmas.Int.{ints}
use Rattle.std.proofs.lemmas.List.{append-nil, append_assoc, ext_get_or, length-map, length-replicate, get_or-map, get_or_append_left, get_or-append_right, get_or-replicate, take_more, take_all}
use Rattle.std.proofs.lemmas.Nat.{div-add-mod', mod_below}
use Rattle.std.proofs.lemmas.List.FromFn.{length-range_with_len}
use Rattle.cmr_base.specs.Matrix.{Matrix, height, entry, row_of, IsEntry}
use Rattle.cmr_base.specs.LineSets.{first_lines}
use Rattle.cmr_base.specs.MatrixSums.{filled, four_blocks, two_sum}
use Rattle.cmr_base.specs.Separations.{zeros}
use Rattle.cmr_base.proofs.Booleans.{is_lt, is_not_lt}
use Rattle.cmr_base.proofs.FilledMatrices.{line_at}
use Rattle.cmr_base.proofs.Lists.{all-append, all_at, all_by_places}
use Rattle.cmr_base.proofs.SmallEntries.{entry_as_byte, entry_at, negative_is_entry, zero_is_entry}
use Rattle.generate.specs.Generated.{circulant, circulant_sum}
use Rattle.generate.proofs.JoinedRows.{joined, joined-append, times, one_times, IsRow, AreRows, all_cells, sum_height, sum_width}

-- ---- rows given by their entries
row-filled : (m n : ℕ) (entries : ℕ → ℕ → ℤ) (r : ℕ) → r < m → row_of (filled m n entries) r ≡ map (entries r) (first_lines n)
row-filled m n entries r h =
    get_or-map (λ row. map (entries row) (first_lines n)) (first_lines m) r 0 [] (let e = length-range_with_len 0 m in omega (arith, h))
    ∙ ap (λ (r : ℕ). map (entries r) (first_lines n)) (line_at m r h)

from_places : (n : ℕ) (f : ℕ → ℤ) (xs : List ℤ) → length xs ≡ n → ((k : ℕ) → k < n → f k ≡ get_or xs k (pos 0)) → map f (first_lines n) ≡ xs
from_places n f xs count at =
    let many = length-range_with_len 0 n in
    let mapped = length-map (first_lines n) f in
    ext_get_or (pos 0) (map f (first_lines n)) xs (mapped ∙ many ∙ sym count)
    (λ k h.
    let inside : k < n = omega (arith, h, many, mapped) in
    get_or-map f (first_lines n) k 0 (pos 0) (omega (arith, inside, many)) ∙ ap f (line_at n k inside) ∙ at k inside)

-- ---- rows of a two-sum with a circulant

-- the entries that a row with this last entry gains
abbrev pub growth : ℤ → List ℤ
growth x = neg_ℤ x ∷ pos 0 ∷ pos 0 ∷ neg_ℤ x ∷ []

-- the first row of a circulant, multiplied by x
product_at : (x : ℤ) (j : ℕ) → j < 5 → x *ℤ entry circulant 0 (0 + j) ≡ get_or (x ∷ growth x) j (pos 0)
product_at x zero h = let e : x *ℤ pos 1 ≡ x = omega (arith, ints) in e
product_at x (suc zero) h = let e : x *ℤ negsuc 0 ≡ neg_ℤ x = omega (arith, ints) in e
product_at x (suc (suc zero)) h = let e : x *ℤ pos 0 ≡ pos 0 = omega (arith, ints) in e
product_at x (suc (suc (suc zero))) h = let e : x *ℤ pos 0 ≡ pos 0 = omega (arith, ints) in e
product_at x (suc (suc (suc (suc zero)))) h = let e : x *ℤ negsuc 0 ≡ neg_ℤ x = omega (arith, ints) in e
product_at x (suc (suc (suc (suc (suc j))))) h = absurd (omega (arith, h))

pub circulant_rows : AllByRecursion (IsRow 5) circulant.rows
circulant_rows =
    let a : IsEntry (pos 1) = record { low = omega (arith, ints); high = omega (arith, ints) } in
    let b : IsEntry (negsuc 0) = record { low = omega (arith, ints); high = omega (arith, ints) } in
    let o = zero_is_entry in (
      record { long = refl; small = (a, (b, (o, (o, (b, tt))))) },
      (
        record { long = refl; small = (b, (a, (b, (o, (o, tt))))) },
        (
          record { long = refl; small = (o, (b, (a, (b, (o, tt))))) },
          (
            record { long = refl; small = (o, (o, (b, (a, (b, tt))))) },
            (record { long = refl; small = (b, (o, (o, (b, (a, tt))))) }, tt),
          ),
        ),
      ),
    )

circulant_row : (i : ℕ) → i < 5 → IsRow 5 (row_of circulant i)
circulant_row i h = all_at (IsRow 5) circulant.rows i [] circulant_rows h

module _ (m : Matrix) (h w : ℕ) (tall : height m ≡ h) (wide : m.width ≡ w + 1) where
  abbrev blocks : ℕ → ℕ → ℤ
  blocks = four_blocks h w 1 0 (entry m) (λ r c. entry m r w *ℤ entry circulant 0 c) zeros (entry circulant)

  as_filled : two_sum m circulant ≡ filled (h + 4) (w + 5) blocks
  as_filled =
      let e : m.width - 1 ≡ w = omega (arith, wide) in
      ap₂ (λ (a b : ℕ). filled (a + 4) (b + 5) (four_blocks a b 1 0 (entry m) (λ r c. entry m r b *ℤ entry circulant 0 c) zeros (entry circulant))) tall e

  block_at : (s t : Bool) (r k : ℕ) → nat_lt r h ≡ s → nat_lt k w ≡ t
      → blocks r k ≡ cond s (cond t (entry m r k) (entry m r w *ℤ entry circulant 0 (0 + (k - w)))) (cond t (pos 0) (entry circulant (1 + (r - h)) (0 + (k - w))))
  block_at s t r k e f =
      ap₂ (λ (s t : Bool). cond s (cond t (entry m r k) (entry m r w *ℤ entry circulant 0 (0 + (k - w)))) (cond t (pos 0) (entry circulant (1 + (r - h)) (0 + (k - w))))) e f

  old_row : (r : ℕ) → r < h → length (row_of m r) ≡ w + 1 → row_of (two_sum m circulant) r ≡ row_of m r ++ growth (entry m r w)
  old_row r inside long =
      ap (λ (n : Matrix). row_of n r) as_filled ∙ row-filled (h + 4) (w + 5) blocks r (omega (arith, inside))
      ∙ from_places (w + 5) (blocks r) (row_of m r ++ growth (entry m r w)) (let e = length-append (row_of m r) (growth (entry m r w)) in omega (arith, e, long)) at
    where
      tail_at : (j : ℕ) → get_or (row_of m r ++ growth (entry m r w)) (w + j) (pos 0) ≡ get_or (entry m r w ∷ growth (entry m r w)) j (pos 0)
      tail_at zero =
          let e : w + 0 ≡ w = omega arith in
          ap (λ (k : ℕ). get_or (row_of m r ++ growth (entry m r w)) k (pos 0)) e ∙ get_or_append_left (row_of m r) (growth (entry m r w)) (pos 0) w (omega (arith, long))
      tail_at (suc j) =
          let e : w + suc j - (w + 1) ≡ j = omega arith in
          get_or-append_right (row_of m r) (growth (entry m r w)) (w + 1) (w + suc j) (pos 0) long (omega arith) ∙ ap (λ (k : ℕ). get_or (growth (entry m r w)) k (pos 0)) e

      at : (k : ℕ) → k < w + 5 → blocks r k ≡ get_or (row_of m r ++ growth (entry m r w)) k (pos 0)
      at k lt = elim (cases_lt k w) [
        | inl left ↦ block_at true true r k (is_lt r h inside) (is_lt k w left) ∙ sym (get_or_append_left (row_of m r) (growth (entry m r w)) (pos 0) k (omega (arith, left, long)))
        | inr right ↦
            let e : w + (k - w) ≡ k = omega (arith, right) in
            block_at true false r k (is_lt r h inside) (is_not_lt k w right) ∙ product_at (entry m r w) (k - w) (omega (arith, lt, right)) ∙ sym (tail_at (k - w))
            ∙ ap (λ (k : ℕ). get_or (row_of m r ++ growth (entry m r w)) k (pos 0)) e
      ]

  new_row : (r : ℕ) → h ≤ r → r < h + 4 → row_of (two_sum m circulant) r ≡ replicate w (pos 0) ++ row_of circulant (1 + (r - h))
  new_row r from inside =
      ap (λ (n : Matrix). row_of n r) as_filled ∙ row-filled (h + 4) (w + 5) blocks r inside
      ∙ from_places (w + 5) (blocks r) (replicate w (pos 0) ++ row_of circulant (1 + (r - h)))
      (let e = length-append (replicate w (pos 0)) (row_of circulant (1 + (r - h))) in let f = length-replicate w (pos 0) in let g = (circulant_row (1 + (r - h)) (omega (arith, from, inside))).long in omega (arith, e, f, g)) at
    where
      at : (k : ℕ) → k < w + 5 → blocks r k ≡ get_or (replicate w (pos 0) ++ row_of circulant (1 + (r - h))) k (pos 0)
      at k lt = elim (cases_lt k w) [
        | inl left ↦ block_at false true r k (is_not_lt r h from) (is_lt k w left)
            ∙ sym (get_or_append_left (replicate w (pos 0)) (row_of circulant (1 + (r - h))) (pos 0) k (let f = length-replicate w (pos 0) in omega (arith, f, left)) ∙ get_or-replicate w k (pos 0) (pos 0) left)
        | inr right ↦
            let e : 0 + (k - w) ≡ k - w = omega arith in
            block_at false false r k (is_not_lt r h from) (is_not_lt k w right) ∙ ap (λ (c : ℕ). entry circulant (1 + (r - h)) c) e
            ∙ sym (get_or-append_right (replicate w (pos 0)) (row_of circulant (1 + (r - h))) w k (pos 0) (length-replicate w (pos 0)) right)
      ]

-- ---- rows with entries -1, 0 and 1
with_growth : (n : ℕ) (row : List ℤ) (x : ℤ) → IsRow n row → IsEntry x → IsRow (n + 4) (row ++ growth x)
with_growth n row x is small = record {
  long = let e = is.long in let f = length-append row (growth x) in omega (arith, e, f);
  small = all-append IsEntry row (growth x) is.small (negative_is_entry x small, (zero_is_entry, (zero_is_entry, (negative_is_entry x small, tt))));
}

after_zeros : (n w : ℕ) (row : List ℤ) → IsRow n row → IsRow (w + n) (replicate w (pos 0) ++ row)
after_zeros n w row is = record {
  long = let e = is.long in let f = length-append (replicate w (pos 0)) row in let g = length-replicate w (pos 0) in omega (arith, e, f, g);
  small = all-append IsEntry (replicate w (pos 0)) row
      (all_by_places IsEntry (replicate w (pos 0)) (pos 0) (λ k h. subst IsEntry (sym (get_or-replicate w k (pos 0) (pos 0) (let g = length-replicate w (pos 0) in omega (arith, g, h)))) zero_is_entry)) is.small;
}

-- ---- sums of circulants

row_more : (k r : ℕ) → 1 ≤ k → length (row_of (circulant_sum k) r) ≡ 4 * k + 1 → r < 4 * k + 1
    → row_of (circulant_sum (k + 1)) r ≡ row_of (circulant_sum k) r ++ growth (entry (circulant_sum k) r (4 * k))
row_more zero r some long h = absurd (omega (arith, some))
row_more (suc n) r some long h =
    let e : suc n + 1 ≡ suc (suc n) = omega arith in
    ap (λ (k : ℕ). row_of (circulant_sum k) r) e ∙ old_row (circulant_sum (suc n)) (4 * suc n + 1) (4 * suc n) (sum_height (suc n) some) (sum_width (suc n) some) r h long

-- the circulant after `s` others begins a row
row_first : (s r : ℕ) → ((s ≡ 0) ⊎ (4 * s + 1 ≤ r)) → r < 4 * s + 5 → row_of (circulant_sum (s + 1)) r ≡ replicate (4 * s) (pos 0) ++ row_of circulant (r - 4 * s)
row_first zero r from h = let e : r ≡ r - 0 = omega arith in ap (row_of circulant) e
row_first (suc n) r (inl none) h = absurd (omega (arith, none))
row_first (suc n) r (inr from) h =
    let e : suc n + 1 ≡ suc (suc n) = omega arith in
    let f : 1 + (r - (4 * suc n + 1)) ≡ r - 4 * suc n = omega (arith, from) in
    let some : 1 ≤ suc n = omega arith in
    ap (λ (k : ℕ). row_of (circulant_sum k) r) e ∙ new_row (circulant_sum (suc n)) (4 * suc n + 1) (4 * suc n) (sum_height (suc n) some) (sum_width (suc n) some) r from (omega (arith, h))
    ∙ ap (λ (i : ℕ). replicate (4 * suc n) (pos 0) ++ row_of circulant i) f

first_row : (s r : ℕ) → ((s ≡ 0) ⊎ (4 * s + 1 ≤ r)) → r < 4 * s + 5 → IsRow (4 * (s + 1) + 1) (row_of (circulant_sum (s + 1)) r)
first_row s r from h =
    let e : 4 * s + 5 ≡ 4 * (s + 1) + 1 = omega arith in
    subst (λ (n : ℕ). IsRow n (row_of (circulant_sum (s + 1)) r)) e
    (subst (IsRow (4 * s + 5)) (sym (row_first s r from h)) (after_zeros 5 (4 * s) (row_of circulant (r - 4 * s)) (circulant_row (r - 4 * s) (omega (arith, h)))))

is_sum_row : (k r : ℕ) → r < 4 * (k + 1) + 1 → IsRow (4 * (k + 1) + 1) (row_of (circulant_sum (k + 1)) r)
is_sum_row zero r h = first_row 0 r (inl refl) (omega (arith, h))
is_sum_row (suc n) r h = elim (cases_lt r (4 * (n + 1) + 1)) [
  | inr past ↦ first_row (suc n) r (inr (omega (arith, past))) (omega (arith, h))
  | inl inside ↦
      let before = is_sum_row n r inside in
      let e : suc n + 1 ≡ n + 1 + 1 = omega arith in
      let f : 4 * (n + 1) + 1 + 4 ≡ 4 * (suc n + 1) + 1 = omega arith in
      let small : IsEntry (entry (circulant_sum (n + 1)) r (4 * (n + 1))) = entry_at (row_of (circulant_sum (n + 1)) r) before.small (4 * (n + 1)) in
      subst (λ (k : ℕ). IsRow (4 * (suc n + 1) + 1) (row_of (circulant_sum k) r)) (sym e)
      (subst (IsRow (4 * (suc n + 1) + 1)) (sym (row_more (n + 1) r (omega arith) before.long inside))
      (subst (λ (long : ℕ). IsRow long (row_of (circulant_sum (n + 1)) r ++ growth (entry (circulant_sum (n + 1)) r (4 * (n + 1))))) f
      (with_growth (4 * (n + 1) + 1) (row_of (circulant_sum (n + 1)) r) (entry (circulant_sum (n + 1)) r (4 * (n + 1))) before small)))
]

is_row_of_sum : (k r : ℕ) → 1 ≤ k → r < 4 * k + 1 → IsRow (4 * k + 1) (row_of (circulant_sum k) r)
is_row_of_sum zero r some h = absurd (omega (arith, some))
is_row_of_sum (suc n) r some h =
    let e : n + 1 ≡ suc n = omega arith in
    subst (λ (k : ℕ). IsRow (4 * k + 1) (row_of (circulant_sum k) r)) e (is_sum_row n r (omega (arith, h)))

-- ---- a row that grows

-- The cells after the old ones are the row in the sum of `count` circulants, and its last entry is `last`.
pub record IsGrowing (old cells : List ℤ) (count row : ℕ) (last : ℤ) : Type 0 where
  pub row_is : cells ≡ old ++ row_of (circulant_sum count) row
  pub last_is : last ≡ entry (circulant_sum count) row (4 * count)
  pub small : IsEntry last

pub grown_on : (old cells new : List ℤ) (count row : ℕ) (last next : ℤ) → 1 ≤ count → row < 4 * count + 1 → IsGrowing old cells count row last → new ≡ cells ++ growth last → next ≡ neg_ℤ last
    → IsGrowing old new (count + 1) row next
grown_on old cells new count row last next some inside before pushed is_negated =
    let m = circulant_sum count in
    let is = is_row_of_sum count row some inside in
    let more = row_more count row some is.long inside in
    let e : 4 * (count + 1) - (4 * count + 1) ≡ 3 = omega arith in
    record {
      row_is = pushed ∙ ap₂ (λ (xs : List ℤ) (x : ℤ). xs ++ growth x) before.row_is before.last_is ∙ append_assoc old (row_of m row) (growth (entry m row (4 * count))) ∙ ap (λ (xs : List ℤ). old ++ xs) (sym more);
      last_is = is_negated ∙ ap neg_ℤ before.last_is
          ∙ sym (ap (λ (xs : List ℤ). get_or xs (4 * (count + 1)) (pos 0)) more
          ∙ get_or-append_right (row_of m row) (growth (entry m row (4 * count))) (4 * count + 1) (4 * (count + 1)) (pos 0) is.long (omega arith)
          ∙ ap (λ (k : ℕ). get_or (growth (entry m row (4 * count))) k (pos 0)) e);
      small = subst IsEntry (sym is_negated) (negative_is_entry last before.small);
    }

-- a row begins as a row of its circulant, after zeros for the `before` circulants before it
pub begun : (old cells new : List ℤ) (before row : ℕ) (last : ℤ) → ((before ≡ 0) ⊎ (4 * before + 1 ≤ row)) → row < 4 * before + 5 → cells ≡ old ++ replicate (4 * before) (pos 0)
    → new ≡ cells ++ times (pos 1) (row_of circulant (row - 4 * before)) → last ≡ entry circulant (row - 4 * before) 4 → IsGrowing old new (before + 1) row last
begun old cells new before row last from inside zeros_pushed pushed is =
    let first = row_first before row from inside in
    let circular = circulant_row (row - 4 * before) (omega (arith, inside)) in
    let e : 4 * (before + 1) - 4 * before ≡ 4 = omega arith in
    record {
      row_is = pushed ∙ ap₂ (λ (xs ys : List ℤ). xs ++ ys) zeros_pushed (one_times (row_of circulant (row - 4 * before)))
          ∙ append_assoc old (replicate (4 * before) (pos 0)) (row_of circulant (row - 4 * before)) ∙ ap (λ (xs : List ℤ). old ++ xs) (sym first);
      last_is = is
          ∙ sym (ap (λ (xs : List ℤ). get_or xs (4 * (before + 1)) (pos 0)) first
          ∙ get_or-append_right (replicate (4 * before) (pos 0)) (row_of circulant (row - 4 * before)) (4 * before) (4 * (before + 1)) (pos 0) (length-replicate (4 * before) (pos 0)) (omega arith)
          ∙ ap (λ (k : ℕ). get_or (row_of circulant (row - 4 * before)) k (pos 0)) e);
      small = subst IsEntry (sym is) (entry_at (row_of circulant (row - 4 * before)) circular.small 4);
    }

-- ---- the circulant that begins a row

before_four : (q r d row : ℕ) → q * 4 + r ≡ d → d ≡ row - 1 → (q ≡ 0) ⊎ (4 * q + 1 ≤ row)
before_four zero r d row e f = inl refl
before_four (suc q) r d row e f = inr (omega (arith, e, f))

pub brought_after : (d row : ℕ) → d ≡ row - 1 → (d / 4 ≡ 0) ⊎ (4 * (d / 4) + 1 ≤ row)
brought_after d row e = before_four (d / 4) (d % 4) d row (div-add-mod' d 4) e

pub brought_within : (d row : ℕ) → d ≡ row - 1 → row < 4 * (d / 4) + 5
brought_within d row e = let f = div-add-mod' d 4 in let g = mod_below d 4 (omega arith) in omega (arith, e, f, g)

pub brought_by_one : (d row size : ℕ) → d ≡ row - 1 → row < 4 * size + 1 → 1 ≤ size → d / 4 + 1 ≤ size
brought_by_one d row size e h some = let f = div-add-mod' d 4 in omega (arith, e, f, h, some)

-- a negated byte
pub negated_byte : (x : ℤ) → IsEntry x → to_z w8 (of_z w8 (pos 0 -ℤ x)) ≡ neg_ℤ x
negated_byte x small = let e : neg_ℤ x ≡ pos 0 -ℤ x = omega (arith, ints) in entry_as_byte (pos 0 -ℤ x) (subst IsEntry e (negative_is_entry x small)) ∙ sym e

-- ---- all rows

pub more_rows : (m : Matrix) (r : ℕ) (cells new : List ℤ) → r < height m → cells ≡ joined (take r m.rows) → new ≡ cells ++ row_of m r → new ≡ joined (take (r + 1) m.rows)
more_rows m r cells new inside before pushed =
    pushed ∙ ap₂ (λ (xs ys : List ℤ). xs ++ ys) before (sym (append-nil (row_of m r))) ∙ sym (joined-append (take r m.rows) (row_of m r ∷ [])) ∙ sym (ap joined (take_more m.rows r [] inside))

pub sum_cells : (size lines : ℕ) (cells : List ℤ) (row : ℕ) → 1 ≤ size → lines ≡ 4 * size + 1 → lines ≤ row
    → cells ≡ joined (take row (circulant_sum size).rows) → AreRows lines lines cells (circulant_sum size).rows
sum_cells size lines cells row some e ended before =
    let m = circulant_sum size in
    let tall = sum_height size some in
    all_cells lines m.rows lines cells (before ∙ ap joined (take_all row m.rows (omega (arith, tall, e, ended)))) (tall ∙ sym e)
    (subst (λ (n : ℕ). AllByRecursion (IsRow n) m.rows) (sym e) (all_by_places (IsRow (4 * size + 1)) m.rows [] (λ r h. is_row_of_sum size r some (omega (arith, h, tall)))))
