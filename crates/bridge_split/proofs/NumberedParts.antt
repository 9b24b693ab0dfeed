-- The parts as lists, in the order of their numbers.
use Rattle.std.proofs.Common.{ℕ, Bool, true, List, [], ◌∷◌, ◌≡◌, ◌≢◌, ◌<◌, ◌≤◌, ◌∙◌, sym, ap, refl, arith, subst, inl, inr, length, get_or, eqb-true, Option, Some, None}
use Rattle.std.specs.List.Sorted.{IsStrictlyIncreasing}
use Rattle.std.proofs.lemmas.Bool.{cases_eq}
use Rattle.std.proofs.lemmas.List.FromFn.{length-map-range_with_len, get_or-map-range_with_len}
use Rattle.std.proofs.lemmas.List.Kept.{IsStrictlyIncreasing-filter}
use Rattle.cmr_base.specs.Members.{IsIn}
use Rattle.cmr_base.specs.Splits.{LeadsTo, AreLinked, AreParts}
use Rattle.cmr_base.proofs.ListsWithout.{place_of, IsPlaceOf, place_is}
use Rattle.cmr_base.proofs.Members.{in_at, some_in}
use Rattle.cmr_base.proofs.Submatrices.{increasing_places}
use Rattle.cmr_base.proofs.RowLists.{is_eq, filter_in, in_filter}
use Rattle.bridge_split.specs.PartNumbers.{is_number, number_at, numbered_rows, numbered_parts, ArePartNumbers}
use Rattle.bridge_split.proofs.Links.{joined_off}
use Rattle.bridge_split.proofs.PartWalks.{same_number, no_number}

number_is : (a : ℕ) (o : Option ℕ) → o ≡ Some a → is_number a o ≡ true
number_is a None e = absurd (no_number None a refl e)
number_is a (Some n) e = is_eq n a (same_number (Some n) n a refl e)

is_the_number : (a : ℕ) (o : Option ℕ) → is_number a o ≡ true → o ≡ Some a
is_the_number a None e = cc
is_the_number a (Some n) e = ap Some (eqb-true n a e)

-- the first number of an increasing list is its least
pub first_least : (xs : List ℕ) → IsStrictlyIncreasing xs → (x : ℕ) → IsIn x xs → get_or xs 0 0 ≤ x
first_least xs increases x h = go (place_is x xs h)
  where
    go : IsPlaceOf x xs (place_of x xs) → get_or xs 0 0 ≤ x
    go p = elim (cases_eq (place_of x xs) 0) [
      | inl e ↦ let f : get_or xs 0 0 ≡ x = ap (λ (v : ℕ). get_or xs v 0) (sym e) ∙ p.there in omega arith
      | inr n ↦ let l = increasing_places xs 0 (place_of x xs) increases (omega arith) p.in_range in let f = p.there in omega arith
    ]

module _ (M : ℕ → ℕ → Bool) (S : List ℕ) (i : ℕ) (increases : IsStrictlyIncreasing S) (numbers : List (Option ℕ)) (count : ℕ) (n : ArePartNumbers M S i (number_at numbers) count) where
  -- rows of one part have one number
  pub linked_number : (j k : ℕ) → IsIn j S → IsIn k S → j ≢ i → k ≢ i → AreLinked M S i j k → number_at numbers j ≡ number_at numbers k
  linked_number j k hj hk nj nk (rows, e) = go j rows hj nj e
    where
      go : (j : ℕ) (rows : List ℕ) → IsIn j S → j ≢ i → LeadsTo M S i j rows k → number_at numbers j ≡ number_at numbers k
      go j [] hj nj e = ap (number_at numbers) e
      go j (x ∷ rows) hj nj (hx, join, e) = n.joined j x hj hx nj (joined_off M S i j x join) join ∙ go x rows hx (joined_off M S i j x join) e

  at_number : (a : ℕ) → a < count → get_or (numbered_parts numbers S count) a [] ≡ numbered_rows numbers S a
  at_number a l = get_or-map-range_with_len (numbered_rows numbers S) 0 count a a [] l (omega arith)

  many : length (numbered_parts numbers S count) ≡ count
  many = length-map-range_with_len (numbered_rows numbers S) 0 count

  in_part : (a k : ℕ) → a < count → IsIn k S → number_at numbers k ≡ Some a → IsIn k (get_or (numbered_parts numbers S count) a [])
  in_part a k l h e = subst (IsIn k) (sym (at_number a l)) (filter_in (λ row. is_number a (number_at numbers row)) k S h (number_is a (number_at numbers k) e))

  part_in : (a k : ℕ) → a < count → IsIn k (get_or (numbered_parts numbers S count) a []) → IsIn k S × (k ≢ i) × (number_at numbers k ≡ Some a)
  part_in a k l h =
      let r = in_filter (λ row. is_number a (number_at numbers row)) k S (subst (IsIn k) (at_number a l) h) in
      let e = is_the_number a (number_at numbers k) r.1 in
      (r.0, (λ q. no_number (number_at numbers i) a n.own (ap (number_at numbers) (sym q) ∙ e)), e)

  increasing_part : (a : ℕ) → a < count → IsStrictlyIncreasing (get_or (numbered_parts numbers S count) a [])
  increasing_part a l = subst IsStrictlyIncreasing (sym (at_number a l)) (IsStrictlyIncreasing-filter (λ row. is_number a (number_at numbers row)) S increases)

  filled_part : (a : ℕ) → a < count → 0 < length (get_or (numbered_parts numbers S count) a [])
  filled_part a l = let f = n.filled a l in some_in f.0 (get_or (numbered_parts numbers S count) a []) (in_part a f.0 l f.1 f.3)

  pub numbered_are_parts : AreParts M S i (numbered_parts numbers S count)
  numbered_are_parts = record {
    all = λ k h off. let f = n.numbered k h off in (f.0, (let e = many in let l = f.1 in omega arith), in_part f.0 k f.1 h f.2);
    only = λ a k l h. let r = part_in a k (low a l) h in (r.0, r.1);
    linked = λ a j k l hj hk. let p = part_in a j (low a l) hj in let q = part_in a k (low a l) hk in n.linked j k a p.2 q.2;
    apart = λ a b j k la lb ne hj hk link.
        let p = part_in a j (low a la) hj in
        let q = part_in b k (low b lb) hk in
        ne (same_number (number_at numbers k) a b (sym (linked_number j k p.0 q.0 p.1 q.1 link) ∙ p.2) q.2);
    filled = λ a l. filled_part a (low a l);
    increasing = λ a l. increasing_part a (low a l);
    ordered = λ a b l lb.
        let B = get_or (numbered_parts numbers S count) b [] in
        let q = part_in b (get_or B 0 0) (low b lb) (in_at B 0 (filled_part b (low b lb))) in
        let r = n.ordered (get_or B 0 0) a b q.2 l in
        let la : a < count = let m = low b lb in omega arith in
        let m = first_least (get_or (numbered_parts numbers S count) a []) (increasing_part a la) r.0 (in_part a r.0 la r.1 r.3) in
        let s = r.4 in omega arith;
  }
    where
      low : (a : ℕ) → a < length (numbered_parts numbers S count) → a < count
      low a l = let e = many in omega arith
