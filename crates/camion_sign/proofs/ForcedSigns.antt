-- The sign that the mark of a place forces.
use Rattle.std.proofs.Common.{◌≡◌, ◌≢◌, ◌∙◌, ◌+ℤ◌, ◌⊎◌, ℕ, suc, ℤ, pos, negsuc, Bool, true, false, List, inl, inr, sym, ap, ap₂, subst, arith}
use Rattle.cmr_base.specs.Matrix.{Matrix, entry, with_entry, IsEntry, IsMatrix}
use Rattle.cmr_base.specs.Signing.{IsSign}
use Rattle.cmr_base.specs.Sums.{sum_over}
use Rattle.cmr_base.specs.LineSets.{submatrix_sum}
use Rattle.cmr_base.specs.Planes.{is_minus}
use Rattle.cmr_base.specs.CyclePlaces.{IsCyclePlace, cycle_columns, cycle_rows, path_sum}
use Rattle.cmr_base.specs.declared.line_set.LineSet.{LineSet}
use Rattle.cmr_base.proofs.Integers.{sums}
use Rattle.ghouila.proofs.SignedSums.{zero_or_sign}
use Rattle.ghouila.proofs.SignProducts.{sign_nonzero}
use Rattle.ghouila.proofs.Cycles.{IsCycle, below, by_places, same_below, two_terms}
use Rattle.ghouila.proofs.Routes.{Route, sum_by_places}
use Rattle.chains.specs.SignSteps.{AreSigns, IsUnsignedOne, IsZeroModFour}
use Rattle.chains.proofs.GivenSigns.{HasOneMore, keeps, one_more, signs_more}
use Rattle.camion_sign.specs.SignOrder.{IsCycleLines, IsRowsTurn}
use Rattle.camion_sign.specs.Signings.{HasPathWith, HasPlaceWith}
use Rattle.camion_sign.specs.Walks.{HasValuesBefore, TwoIf}
use Rattle.camion_sign.proofs.FirstFaults.{place_unique}
use Rattle.camion_sign.proofs.ForcedCycles.{IsOrdered, ordered, signed_cycle, the_route, whole_sum}
use Rattle.camion_sign.proofs.PlaceLinks.{same_path_sum}

-- the signs are not 0 in the ones of the rows before the present one
pub signs_before : (a s : Matrix) (t : ℕ) → AreSigns a s → IsRowsTurn a s t → HasValuesBefore a s t
signs_before a s t signs turn = record { small = signs.ternary.small; same_height = signs.same_height; same_width = signs.same_width; nonzero = turn.earlier }

pub sign_if : (z : ℤ) → IsEntry z → z ≢ pos 0 → IsSign z
sign_if z small other = elim (zero_or_sign z small) [ inl e ↦ absurd (other e) | inr u ↦ u ]

-- the sign -1 if the mark is the partner's sign, and 1 otherwise
pub equal_closes : (z p : ℤ) → IsSign z → IsSign p → z ≡ p → (sum : ℤ) → TwoIf (is_minus z) sum → IsZeroModFour ((p +ℤ negsuc 0) +ℤ sum)
equal_closes z p (inl e) (inl f) same sum two = let w : TwoIf false sum = subst (λ x. TwoIf (is_minus x) sum) e two in (w.0, rw f (let g = w.1 in omega (arith, sums)))
equal_closes z p (inr e) (inr f) same sum two = let w : TwoIf true sum = subst (λ x. TwoIf (is_minus x) sum) e two in (w.0, rw f (let g = w.1 in omega (arith, sums)))
equal_closes z p (inl e) (inr f) same sum two = absurd (omega (arith, sums))
equal_closes z p (inr e) (inl f) same sum two = absurd (omega (arith, sums))

pub other_closes : (z p : ℤ) → IsSign z → IsSign p → z ≢ p → (sum : ℤ) → TwoIf (is_minus z) sum → IsZeroModFour ((p +ℤ pos 1) +ℤ sum)
other_closes z p (inl e) (inr f) other sum two = let w : TwoIf false sum = subst (λ x. TwoIf (is_minus x) sum) e two in (w.0, rw f (let g = w.1 in omega (arith, sums)))
other_closes z p (inr e) (inl f) other sum two = let w : TwoIf true sum = subst (λ x. TwoIf (is_minus x) sum) e two in (w.0 +ℤ pos 1, rw f (let g = w.1 in omega (arith, sums)))
other_closes z p (inl e) (inl f) other sum two = absurd (other (e ∙ sym f))
other_closes z p (inr e) (inr f) other sum two = absurd (other (e ∙ sym f))

-- the sum of a cycle is that of its path and of the two entries of its last row
module _ (M : ℕ → ℕ → ℤ) (small : (i j : ℕ) → IsEntry (M i j)) (t c d : ℕ) (path : List ℕ) (q : Route M small t c d path) (N : ℕ → ℕ → ℤ) (y : IsCycle N t q.k q.way.row q.way.col) where
  cycle_total : sum_over (cycle_rows t path) (λ i. sum_over (cycle_columns c d path) (λ j. N i j)) ≡ (N t c +ℤ N t d) +ℤ path_sum N c d path
  cycle_total =
      sum_by_places M small t c d path q N ∙ by_places N t q.k q.way.row q.way.col y
      ∙ plain (N t (q.way.col q.k)) (N t (q.way.col 0)) (N t c) (N t d) (sum_over (below q.k) (λ i. sum_over (below (suc q.k)) (λ j. N (q.way.row i) (q.way.col j)))) (path_sum N c d path) (ap (N t) q.way.starts) (ap (N t) q.way.ends) (inner ∙ sym (q.sum_is N))
    where
      plain : (a b c d p s : ℤ) → b ≡ c → a ≡ d → p ≡ s → (a +ℤ b) +ℤ p ≡ (c +ℤ d) +ℤ s
      plain a b c d p s e f g = omega (arith, sums)

      inner : sum_over (below q.k) (λ i. sum_over (below (suc q.k)) (λ j. N (q.way.row i) (q.way.col j))) ≡ sum_over (below q.k) (λ i. N (q.way.row i) (q.way.col (suc i)) +ℤ N (q.way.row i) (q.way.col i))
      inner = same_below q.k (λ i. sum_over (below (suc q.k)) (λ j. N (q.way.row i) (q.way.col j))) (λ i. N (q.way.row i) (q.way.col (suc i)) +ℤ N (q.way.row i) (q.way.col i))
          (λ i l. two_terms (λ j. N (q.way.row i) (q.way.col j)) (suc q.k) i (omega arith) (λ j m a b. y.none i j l (omega arith) a b))

module _ (a s : Matrix) (is : IsMatrix a) (signs : AreSigns a s) (t c d : ℕ) (turn : IsRowsTurn a s t) (here : IsUnsignedOne a s t d) (signed : entry s t c ≢ pos 0) (cycle : LineSet) (lines : IsCycleLines a t c d cycle) (v : ℤ) (u : IsSign v) where
  more : HasOneMore s (with_entry s t d v) t d v
  more = one_more a s is.rectangular signs t d v here.one

  after : AreSigns a (with_entry s t d v)
  after = signs_more a s is.rectangular signs t d v here.one u

  o : IsOrdered a t c d cycle
  o = ordered a t c d cycle lines

  old_sign : entry (with_entry s t d v) t c ≢ pos 0
  old_sign = keeps s (with_entry s t d v) t d v u more t c signed

  new_sign : entry (with_entry s t d v) t d ≢ pos 0
  new_sign e = sign_nonzero v u (sym more.here ∙ e)

  ends_signed : (x y : ℕ) → ((x ≡ c) × (y ≡ d)) ⊎ ((x ≡ d) × (y ≡ c)) → (entry (with_entry s t d v) t x ≢ pos 0) × (entry (with_entry s t d v) t y ≢ pos 0)
  ends_signed x y (inl q) = (subst (λ i. entry (with_entry s t d v) t i ≢ pos 0) (sym q.0) old_sign, subst (λ i. entry (with_entry s t d v) t i ≢ pos 0) (sym q.1) new_sign)
  ends_signed x y (inr q) = (subst (λ i. entry (with_entry s t d v) t i ≢ pos 0) (sym q.0) new_sign, subst (λ i. entry (with_entry s t d v) t i ≢ pos 0) (sym q.1) old_sign)

  -- the entries of row t in the cycle
  kept_sign : entry (with_entry s t d v) t c ≡ entry s t c
  kept_sign = more.other t c (inr (λ e. signed (ap (entry s t) e ∙ here.no_sign)))

  ends_sum : (x y : ℕ) → ((x ≡ c) × (y ≡ d)) ⊎ ((x ≡ d) × (y ≡ c)) → entry (with_entry s t d v) t x +ℤ entry (with_entry s t d v) t y ≡ entry s t c +ℤ v
  ends_sum x y (inl q) = ap₂ (λ i j. i +ℤ j) (ap (entry (with_entry s t d v) t) q.0 ∙ kept_sign) (ap (entry (with_entry s t d v) t) q.1 ∙ more.here)
  ends_sum x y (inr q) =
      ap₂ (λ i j. i +ℤ j) (ap (entry (with_entry s t d v) t) q.0 ∙ more.here) (ap (entry (with_entry s t d v) t) q.1 ∙ kept_sign) ∙ plain v (entry s t c)
    where
      plain : (i j : ℤ) → i +ℤ j ≡ j +ℤ i
      plain i j = omega (arith, sums)

  total : submatrix_sum (with_entry s t d v) cycle.rows cycle.columns ≡ (entry s t c +ℤ v) +ℤ path_sum (entry (with_entry s t d v)) o.first o.last o.path
  total =
      let ends = ends_signed o.first o.last o.ends in
      whole_sum a is t c d cycle o (entry (with_entry s t d v))
      ∙ cycle_total (entry a) is.small t o.first o.last o.path (the_route a is t c d cycle o) (entry (with_entry s t d v))
      (signed_cycle a is t c d cycle o (entry (with_entry s t d v)) after.ternary.small after.inside (λ i j l h. keeps s (with_entry s t d v) t d v u more i j (turn.earlier i j l h)) ends.0 ends.1)
      ∙ ap (λ z. z +ℤ path_sum (entry (with_entry s t d v)) o.first o.last o.path) (ends_sum o.first o.last o.ends)

  -- the sum of its path
  path_two : (x y : ℕ) (two : Bool) → o.first ≡ x → o.last ≡ y → HasPathWith a s t x y two → TwoIf two (path_sum (entry (with_entry s t d v)) o.first o.last o.path)
  path_two x y two e f (path, place, sum) =
      let mine : IsCyclePlace (entry a) t x y o.path = subst (λ i. IsCyclePlace (entry a) t i y o.path) e (subst (λ j. IsCyclePlace (entry a) t o.first j o.path) f o.place) in
      let same = place_unique (entry a) t x y path o.path place mine in
      let rows = same_path_sum (entry a) (entry s) (entry (with_entry s t d v)) t x y o.path (λ i j l. more.other i j (inl (omega arith))) mine.is_path in
      subst (TwoIf two) (ap (path_sum (entry s) x y) same ∙ sym rows ∙ sym (ap₂ (λ i j. path_sum (entry (with_entry s t d v)) i j o.path) e f)) sum

  cycle_two : (two : Bool) → ((o.first ≡ c) × (o.last ≡ d)) ⊎ ((o.first ≡ d) × (o.last ≡ c)) → HasPlaceWith a s t c d two → TwoIf two (path_sum (entry (with_entry s t d v)) o.first o.last o.path)
  cycle_two two (inl q) (inl place) = path_two c d two q.0 q.1 place
  cycle_two two (inr q) (inr place) = path_two d c two q.0 q.1 place
  cycle_two two (inl q) (inr place) = absurd (let k = o.place.order in let l = place.1.order in let e = q.0 in let f = q.1 in omega arith)
  cycle_two two (inr q) (inl place) = absurd (let k = o.place.order in let l = place.1.order in let e = q.0 in let f = q.1 in omega arith)

  -- the sum of the cycle
  pub forced_four : (two : Bool) → HasPlaceWith a s t c d two → ((sum : ℤ) → TwoIf two sum → IsZeroModFour ((entry s t c +ℤ v) +ℤ sum))
      → IsZeroModFour (submatrix_sum (with_entry s t d v) cycle.rows cycle.columns)
  forced_four two place closes = subst IsZeroModFour (sym total) (closes (path_sum (entry (with_entry s t d v)) o.first o.last o.path) (cycle_two two o.ends place))
