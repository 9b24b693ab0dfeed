-- Rows with different digests: none is a copy or the negative of another.
use Rattle.std.proofs.Common.{◌≡◌, ◌<◌, ◌*◌, ◌+◌, ◌&&◌, ◌||◌, ◌∙◌, inl, inr, ℕ, zero, suc, Bool, true, false, true≢false, cond, not, eqb, Option, Some, is_some, MatchOption, ℤ, pos, neg_ℤ, List, [], ◌∷◌, length, map, take, drop, get_or, None, refl, ap, ap₂, sym, subst, arith}
use Rattle.std.proofs.lemmas.Bool.{cases_lt, eqb-false}
use Rattle.std.proofs.lemmas.List.{take-map, drop-map}
use Rattle.std.proofs.lemmas.List.Folds.{list_any_none}
use Rattle.std.proofs.lemmas.List.FromFn.{length-range_with_len, get_or-range_with_len}
use Rattle.cmr_base.specs.declared.line.Line.{Line}
use Rattle.cmr_base.specs.declared.line.Line.TheVariants.{Row, Column}
use Rattle.cmr_base.specs.Matrix.{Matrix, height, row_of, entry, is_nonzero, transposed, IsMatrix, IsRectangular}
use Rattle.cmr_base.specs.LineSets.{first_lines}
use Rattle.cmr_base.specs.Members.{IsIn}
use Rattle.cmr_base.specs.Planes.{bits_of, words_for, words_of}
use Rattle.cmr_base.specs.Reductions.{nonzeros_at, equal_at, first_reason}
use Rattle.cmr_base.proofs.ListedLines.{first_lines_contain}
use Rattle.cmr_base.proofs.Parts.{height-transposed, is_matrix-transposed}
use Rattle.cmr_base.proofs.RemovedLines.{in_first_lines}
use Rattle.cmr_base.proofs.ThinLines.{and_is, not_is, false_is, equal_is, nonzero_is, thin_from_count}
use Rattle.cmr_base.proofs.TransposedLemmas.{entries-transposed}
use Rattle.sp_reduce.specs.LineKinds.{is_twin}
use Rattle.digests.specs.Digests.{AreDifferent}
use Rattle.sp_reduce.specs.RowDigests.{digest_of, digest_at, AreUnlikeRows, HasNoReducibleLine}
use Rattle.sp_reduce.proofs.SideLemmas.{none_is}
use Rattle.sp_reduce.proofs.Views.{reason_of_twin}
use Rattle.sp_reduce.proofs.Weights.{nonzero-neg}

-- ---- the words of a row depend only on its support

digits : List Bool → ℕ
digits [] = 0
digits (b ∷ bs) = digits bs * 2 + cond b 1 0

cut : ℕ → List Bool → List ℕ
cut zero bs = []
cut (suc n) bs = digits (take 64 bs) ∷ cut n (drop 64 bs)

digits_are : (test : ℤ → Bool) (zs : List ℤ) → bits_of test zs ≡ digits (map test zs)
unfolding digits
digits_are test [] = refl
digits_are test (z ∷ zs) = ap (λ (n : ℕ). n * 2 + cond (test z) 1 0) (digits_are test zs)

words_are : (n : ℕ) (test : ℤ → Bool) (zs : List ℤ) → words_of n test zs ≡ cut n (map test zs)
unfolding cut
words_are zero test zs = refl
words_are (suc n) test zs =
    ap₂ (λ (w : ℕ) (ws : List ℕ). w ∷ ws) (digits_are test (take 64 zs) ∙ ap digits (sym (take-map test 64 zs)))
    (words_are n test (drop 64 zs) ∙ ap (cut n) (sym (drop-map test 64 zs)))

same_tests : (test : ℤ → Bool) (zs ws : List ℤ) → length zs ≡ length ws → ((k : ℕ) → k < length zs → test (get_or zs k (pos 0)) ≡ test (get_or ws k (pos 0))) → map test zs ≡ map test ws
same_tests test [] [] long same = refl
same_tests test [] (w ∷ ws) long same = absurd (omega (arith, long))
same_tests test (z ∷ zs) [] long same = absurd (omega (arith, long))
same_tests test (z ∷ zs) (w ∷ ws) long same =
    ap₂ (λ (b : Bool) (bs : List Bool). b ∷ bs) (same 0 (omega arith)) (same_tests test zs ws (omega (arith, long)) (λ k h. same (suc k) (omega (arith, h))))

-- rows with one support have one digest
digest_same : (m : Matrix) (row other : ℕ) → IsRectangular m → row < height m → other < height m
    → ((k : ℕ) → k < m.width → is_nonzero (entry m row k) ≡ is_nonzero (entry m other k)) → digest_at m row ≡ digest_at m other
digest_same m row other is h g same =
    let long = is row h in
    let long' = is other g in
    let alike = same_tests is_nonzero (row_of m row) (row_of m other) (long ∙ sym long') (λ k l. same k (omega (arith, l, long))) in
    ap digest_of (words_are (words_for m.width) is_nonzero (row_of m row) ∙ ap (cut (words_for m.width)) alike ∙ sym (words_are (words_for m.width) is_nonzero (row_of m other)))

-- ---- so no row is reducible

twins_alike : (binary : Bool) (xs : List ℕ) (f g : ℕ → ℤ) → (equal_at xs f g || not binary && equal_at xs f (λ k. neg_ℤ (g k))) ≡ true → (x : ℕ) → IsIn x xs → is_nonzero (f x) ≡ is_nonzero (g x)
twins_alike binary xs f g e x h = go (equal_at xs f g) refl e
  where
    go : (b : Bool) → equal_at xs f g ≡ b → (b || not binary && equal_at xs f (λ k. neg_ℤ (g k))) ≡ true → is_nonzero (f x) ≡ is_nonzero (g x)
    go true q e = ap is_nonzero (equal_is xs f g q x h)
    go false q e = ap is_nonzero (equal_is xs f (λ k. neg_ℤ (g k)) (and_is (not binary) (equal_at xs f (λ k. neg_ℤ (g k))) e).1 x h) ∙ nonzero-neg (g x)

module _ (m : Matrix) (is : IsRectangular m) (unlike : AreUnlikeRows m) (binary : Bool) (row : ℕ) (h : row < height m) where
  no_twin : (other : ℕ) → other < height m → is_twin binary (entry m) (first_lines m.width) row other ≡ false
  no_twin other g =
      let M = entry m in
      let columns = first_lines m.width in
      let same = equal_at columns (M other) (M row) || not binary && equal_at columns (M other) (λ k. neg_ℤ (M row k)) in
      false_is (is_twin binary M columns row other)
      (λ e.
      let both = and_is (not (eqb other row)) same e in
      unlike.unlike other row g h (eqb-false other row (not_is (eqb other row) both.0))
      (digest_same m other row is g h (λ k l. twins_alike binary columns (M other) (M row) both.1 k (in_first_lines m.width k l))))

  pub no_reason : (kind cross : ℕ → Line) → first_reason binary (entry m) kind cross (first_lines (height m)) (first_lines m.width) row ≡ None
  no_reason kind cross =
      let rows = first_lines (height m) in
      let columns = first_lines m.width in
      none_is (first_reason binary (entry m) kind cross rows columns row)
      (reason_of_twin (entry m) kind cross rows columns row binary (unlike.many row h)
      ∙ list_any_none (is_twin binary (entry m) columns row) rows
      (λ k d l.
      let inside : k < height m = omega (arith, l, length-range_with_len 0 (height m)) in
      no_twin (get_or rows k d) (omega (arith, get_or-range_with_len 0 (height m) k d inside, inside))))

pub none_reducible : (m : Matrix) → IsMatrix m → AreUnlikeRows m → AreUnlikeRows (transposed m) → (binary : Bool) → HasNoReducibleLine binary m
none_reducible m is rows columns binary (Row row) h = no_reason m is.rectangular rows binary row (first_lines_contain (height m) row h) Row Column
none_reducible m is rows columns binary (Column column) h =
    let inside : column < height (transposed m) = omega (arith, first_lines_contain m.width column h, height-transposed m) in
    subst (λ (M : ℕ → ℕ → ℤ). first_reason binary M Column Row (first_lines m.width) (first_lines (height m)) column ≡ None) (entries-transposed m is)
    (subst (λ (n : ℕ). first_reason binary (entry (transposed m)) Column Row (first_lines n) (first_lines (height m)) column ≡ None) (height-transposed m)
    (no_reason (transposed m) (is_matrix-transposed m is).rectangular columns binary column inside Column Row))

-- ---- rows with different digests are unlike

pub unlike_rows : (m : Matrix) (digests : List ℕ) → length digests ≡ height m → ((k : ℕ) → k < height m → get_or digests k 0 ≡ digest_at m k)
    → ((k : ℕ) → k < height m → 1 < nonzeros_at (first_lines m.width) (entry m k)) → AreDifferent digests → AreUnlikeRows m
unlike_rows m digests long are many apart = record {
  many = many;
  unlike = λ row other h g d e. elim (cases_lt row other) [
    | inl below ↦ apart row other below (omega (arith, g, long)) (are row h ∙ e ∙ sym (are other g))
    | inr above ↦ apart other row (omega (arith, above, d)) (omega (arith, h, long)) (are other g ∙ sym e ∙ sym (are row h))
  ];
}

-- ---- a row with two nonzeros has no fewer

pub second_is : (P : Type 0) (Q : ℕ → Type 0) (found : Option ℕ) → MatchOption found P Q → is_some found ≡ true → (next : ℕ) × Q next
second_is P Q None is e = absurd (true≢false (sym e))
second_is P Q (Some next) is e = (next, is)

pub two_nonzeros : (m : Matrix) (row first second : ℕ) → first < m.width → second < m.width → first < second → is_nonzero (entry m row first) ≡ true → is_nonzero (entry m row second) ≡ true
    → 1 < nonzeros_at (first_lines m.width) (entry m row)
two_nonzeros m row first second h g below one other = elim (cases_lt 1 (nonzeros_at (first_lines m.width) (entry m row))) [
  | inl many ↦ many
  | inr few ↦
      let same = thin_from_count (first_lines m.width) (entry m row) few first second (in_first_lines m.width first h) (in_first_lines m.width second g)
      (nonzero_is (entry m row first) one) (nonzero_is (entry m row second) other) in
      absurd (omega (arith, same, below))
]
