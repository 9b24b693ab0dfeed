-- The first row that splits the others.
use Rattle.std.proofs.Common.{ℕ, suc, ◌+◌, Bool, List, ◌∷◌, ◌++◌, ◌≡◌, ◌<◌, ◌≤◌, sym, ap, arith, subst, length, get_or, take, drop, length-take, get_or-take, take-append-drop, drop-cons, Option, Some, ◌∙◌}
use Rattle.std.specs.List.Sorted.{IsStrictlyIncreasing}
use Rattle.cmr_base.specs.Matrix.{Matrix}
use Rattle.cmr_base.specs.Members.{IsIn}
use Rattle.cmr_base.specs.Splits.{Splits, IsFirstSplit}
use Rattle.cmr_base.specs.Trees.{support}
use Rattle.cmr_base.proofs.ListsWithout.{place_of, IsPlaceOf, place_is}
use Rattle.cmr_base.proofs.Places.{each_more, found_at}
use Rattle.bridge_split.specs.PartNumbers.{number_at, ArePartNumbers, HasPartRoom, IsSearching}
use Rattle.bridge_split.specs.declared.part_walk.PartWalk.{PartWalk}
use Rattle.bridge_split.proofs.NumberedParts.{linked_number}
use Rattle.bridge_split.proofs.PartWalks.{same_number}

-- a list cut at a position
cut_at : (xs : List ℕ) (p : ℕ) → p < length xs → xs ≡ take p xs ++ get_or xs p 0 ∷ drop (suc p) xs
cut_at xs p l = sym (take-append-drop p xs) ∙ ap (λ (ys : List ℕ). take p xs ++ ys) (drop-cons xs p 0 l)

before_place : (xs : List ℕ) (p x : ℕ) → IsIn x (take p xs) → (q : ℕ) × (q < p) × (get_or xs q 0 ≡ x)
before_place xs p x h =
    let q = found_at (take p xs) x h in
    let low : q.0 < p = let l = q.1 in let k = length-take p xs in omega arith in
    (q.0, low, sym (get_or-take p xs q.0 0 low) ∙ q.2)

module _ (M : ℕ → ℕ → Bool) (S : List ℕ) (increases : IsStrictlyIncreasing S) where
  -- a row with two parts or more splits
  pub splits_two : (i : ℕ) (numbers : List (Option ℕ)) (count : ℕ) → ArePartNumbers M S i (number_at numbers) count → IsIn i S → 2 ≤ count → Splits M S i
  splits_two i numbers count n hi l =
      let a = n.filled 0 (omega arith) in
      let b = n.filled 1 (omega arith) in
      record {
        here = hi;
        one = a.0;
        two = b.0;
        one_in = a.1;
        two_in = b.1;
        one_other = a.2;
        two_other = b.2;
        apart = λ link. let e = same_number (number_at numbers b.0) 0 1 (sym (linked_number M S i increases numbers count n a.0 b.0 a.1 b.1 a.2 b.2 link) ∙ a.3) b.3 in omega arith;
      }

  pub splits_none : (i : ℕ) (numbers : List (Option ℕ)) (count : ℕ) → ArePartNumbers M S i (number_at numbers) count → count < 2 → ¬ (Splits M S i)
  splits_none i numbers count n l s =
      let a = n.numbered s.one s.one_in s.one_other in
      let b = n.numbered s.two s.two_in s.two_other in
      s.apart (n.linked s.one s.two a.0 a.2 (b.2 ∙ ap Some (let la = a.1 in let lb = b.1 in let e : b.0 ≡ a.0 = omega arith in e)))

  -- the rows before a place do not split
  pub first_split : (p : ℕ) → p < length S → ((q : ℕ) → q < p → ¬ (Splits M S (get_or S q 0))) → Splits M S (get_or S p 0) → IsFirstSplit M S (get_or S p 0)
  first_split p l none s = record {
    before = take p S;
    after = drop (suc p) S;
    place = cut_at S p l;
    splits = s;
    none = λ r h t. let q = before_place S p r h in none q.0 q.1 (subst (Splits M S) (sym q.2) t);
  }

  pub none_splits : (p : ℕ) → length S ≤ p → ((q : ℕ) → q < p → ¬ (Splits M S (get_or S q 0))) → (row : ℕ) → ¬ (Splits M S row)
  none_splits p l none row s = go (place_is row S s.here)
    where
      go : IsPlaceOf row S (place_of row S) → ⊥
      go q = none (place_of row S) (let m = q.in_range in omega arith) (subst (Splits M S) (sym q.there) s)

module _ (m : Matrix) (S : List ℕ) (increases : IsStrictlyIncreasing S) where
  pub searching_on : (p count : ℕ) (walk walk' : PartWalk) → IsSearching m S p walk → p < length S → HasPartRoom m walk'
      → ArePartNumbers (support m) S (get_or S p 0) (number_at walk'.part.items) count → count < 2
      → IsSearching m S (p + 1) walk'
  searching_on p count walk walk' w l room n few = record {
    room = room;
    none = each_more (λ (q : ℕ). ¬ (Splits (support m) S (get_or S q 0))) p w.none (splits_none (support m) S increases (get_or S p 0) walk'.part.items count n few);
  }

  -- a row that is known not to split
  pub searching_past : (p : ℕ) (walk : PartWalk) → IsSearching m S p walk → ¬ (Splits (support m) S (get_or S p 0)) → IsSearching m S (p + 1) walk
  searching_past p walk w whole = record {
    room = w.room;
    none = each_more (λ (q : ℕ). ¬ (Splits (support m) S (get_or S q 0))) p w.none whole;
  }
