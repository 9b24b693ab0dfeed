-- Words that represent numbers within limits; the names of their faults do not matter.
use Rattle.std.proofs.Common.{◌≡◌, ◌<◌, ◌≤◌, ◌∙◌, ℕ, true, false, cond, leb, ltb, eqb, List, Ok, Err, refl, ap, subst, arith}
use Rattle.std.proofs.lemmas.Bool.{leb-true, le-leb}
use Rattle.std.proofs.lemmas.Bool.Decides.{nat_tests}
use Rattle.text_fields.specs.declared.error.LimitFault.{LimitFault}
use Rattle.text_fields.specs.declared.error.LimitFault.TheVariants.{Number, OutOfRange, NotRising}
use Rattle.text_fields.specs.Limits.{limited, line_in, increasing_line_in}
use Rattle.text_fields.specs.Numbers.{count_in}
use Rattle.text_fields.specs.Result.{renamed}
use Rattle.text_fields.proofs.Results.{bind_ok, guard_ok, bar_ok, renamed_ok}

limited_found : (most : ℕ) (word : List ℕ) (n : ℕ) → limited most word ≡ Ok n → (count_in word ≡ Ok n) × (n ≤ most)
limited_found most word n h =
    let b = bind_ok (renamed Number (count_in word)) (λ k. cond (leb k most) (Ok k) (Err OutOfRange)) n h in
    let g = guard_ok (leb b.0 most) b.0 n OutOfRange b.2 in
    (renamed_ok Number (count_in word) b.0 b.1 ∙ ap Ok g.1, subst (λ k. k ≤ most) g.1 (leb-true b.0 most g.0))

line_found : (most : ℕ) (word : List ℕ) (n : ℕ) → line_in most word ≡ Ok n → (count_in word ≡ Ok n) × (0 < n) × (n ≤ most)
line_found most word n h =
    let b = bind_ok (limited most word) (λ k. cond (eqb k 0) (Err OutOfRange) (Ok k)) n h in
    let g = bar_ok (eqb b.0 0) b.0 n OutOfRange b.2 in
    let l = limited_found most word b.0 b.1 in
    let above : 0 < b.0 = grind (arith, g.0) in
    (l.0 ∙ ap Ok g.1, omega (arith, g.1), omega (arith, g.1, l.1))

module _ {K : Type 0} (name : LimitFault → K) where
  pub limited_ok : (most : ℕ) (word : List ℕ) (n : ℕ) → renamed name (limited most word) ≡ Ok n → (count_in word ≡ Ok n) × (n ≤ most)
  limited_ok most word n h = limited_found most word n (renamed_ok name (limited most word) n h)

  pub limited_again : (most : ℕ) (word : List ℕ) (n : ℕ) → count_in word ≡ Ok n → n ≤ most → renamed name (limited most word) ≡ Ok n
  limited_again most word n h le = let t : leb n most ≡ true = le-leb n most le in rw (h, t) refl

  pub line_in_ok : (most : ℕ) (word : List ℕ) (n : ℕ) → renamed name (line_in most word) ≡ Ok n → (count_in word ≡ Ok n) × (0 < n) × (n ≤ most)
  line_in_ok most word n h = line_found most word n (renamed_ok name (line_in most word) n h)

  pub line_in_again : (most : ℕ) (word : List ℕ) (n : ℕ) → count_in word ≡ Ok n → 0 < n → n ≤ most → renamed name (line_in most word) ≡ Ok n
  line_in_again most word n h above within =
      let t : leb n most ≡ true = le-leb n most within in
      let some : eqb n 0 ≡ false = grind (arith, nat_tests) in
      rw (h, t, some) refl

  pub increasing_line_ok : (most before : ℕ) (word : List ℕ) (n : ℕ) → renamed name (increasing_line_in most before word) ≡ Ok n → (count_in word ≡ Ok n) × (0 < n) × (n ≤ most) × (before < n)
  increasing_line_ok most before word n h =
      let b = bind_ok (line_in most word) (λ k. cond (ltb before k) (Ok k) (Err NotRising)) n (renamed_ok name (increasing_line_in most before word) n h) in
      let g = guard_ok (ltb before b.0) b.0 n NotRising b.2 in
      let l = line_found most word b.0 b.1 in
      let above : before < b.0 = grind (arith, nat_tests, g.0) in
      (l.0 ∙ ap Ok g.1, omega (arith, g.1, l.1), omega (arith, g.1, l.2), omega (arith, g.1))

  pub increasing_line_again : (most before : ℕ) (word : List ℕ) (n : ℕ) → count_in word ≡ Ok n → 0 < n → n ≤ most → before < n → renamed name (increasing_line_in most before word) ≡ Ok n
  increasing_line_again most before word n h above within increasing =
      let t : leb n most ≡ true = le-leb n most within in
      let some : eqb n 0 ≡ false = grind (arith, nat_tests) in
      let increases : ltb before n ≡ true = grind (arith, nat_tests) in
      rw (h, t, some, increases) refl
