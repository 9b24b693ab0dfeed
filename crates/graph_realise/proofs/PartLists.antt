-- Parts as lists. Each row has a number that names its part, and linked rows are in one part.
use Rattle.std.proofs.Common.{ℕ, Bool, List, [], ◌≡◌, ◌≢◌, ◌<◌, sym, refl, arith, subst, ◌⊎◌, inl, inr, nat_eq, ◌≤◌, ◌==◌, slice_index_or, length}
use Rattle.std.proofs.lemmas.Bool.Decides.{nat_tests}
use Rattle.std.specs.List.Sorted.{IsStrictlyIncreasing}
use Rattle.cmr_base.specs.Members.{IsIn}
use Rattle.cmr_base.specs.Splits.{AreLinked, IsUncut, IsUncutBy, Agree, IsNaming, AreParts, AreSides, IsPart, part_rows}
use Rattle.cmr_base.proofs.Places.{increasing_same}
use Rattle.cmr_base.proofs.ListsWithout.{in-get_or}
use Rattle.cmr_base.proofs.RowLists.{same_or_not}
use Rattle.graph_realise.specs.Merging.{IsNumbering}
use Rattle.graph_realise.proofs.PartRows.{in_part, part_in}

-- a part, described by its rows
pub record IsWholePart (M : ℕ → ℕ → Bool) (S : List ℕ) (i : ℕ) (P : List ℕ) : Type 0 where
  pub inside : (k : ℕ) → IsIn k P → IsIn k S × (k ≢ i)
  pub linked : (j k : ℕ) → IsIn j P → IsIn k P → AreLinked M S i j k
  pub closed : (j k : ℕ) → IsIn j P → IsIn k S → k ≢ i → AreLinked M S i j k → IsIn k P
  pub first : IsIn (slice_index_or P 0 0) P
  pub increasing : IsStrictlyIncreasing P

pub whole_part : (M : ℕ → ℕ → Bool) (S : List ℕ) (i : ℕ) (parts : List (List ℕ)) → AreParts M S i parts → (a : ℕ) → a < length parts → IsWholePart M S i (slice_index_or parts a [])
whole_part M S i parts all a l = record {
  inside = λ k h. all.only a k l h;
  linked = λ j k hj hk. all.linked a j k l hj hk;
  closed = λ j k hj hk n link. go j k hj link (all.all k hk n);
  first = in-get_or (slice_index_or parts a []) 0 (all.filled a l);
  increasing = all.increasing a l;
}
  where
    go : (j k : ℕ) → IsIn j (slice_index_or parts a []) → AreLinked M S i j k → (b : ℕ) × (b < length parts) × IsIn k (slice_index_or parts b []) → IsIn k (slice_index_or parts a [])
    go j k hj link (b, m, hk) = pick (same_or_not b a)
      where
        pick : (b ≡ a) ⊎ (b ≢ a) → IsIn k (slice_index_or parts a [])
        pick (inl e) = subst (λ (z : ℕ). IsIn k (slice_index_or parts z [])) e hk
        pick (inr n) = absurd (all.apart a b j k l m (λ e. n (sym e)) hj hk link)

pub is_whole : (M : ℕ → ℕ → Bool) (S : List ℕ) (i : ℕ) (P : List ℕ) → IsPart M S i P → IsWholePart M S i P
is_whole M S i P (parts, all, (a, l, e)) = subst (IsWholePart M S i) e (whole_part M S i parts all a l)

-- parts with linked rows are the same
pub linked_same : (M : ℕ → ℕ → Bool) (S : List ℕ) (i : ℕ) (P Q : List ℕ) → IsWholePart M S i P → IsWholePart M S i Q → (j k : ℕ) → IsIn j P → IsIn k Q → AreLinked M S i j k → P ≡ Q
linked_same M S i P Q p q j k hj hk link = increasing_same P Q p.increasing q.increasing
    (λ x h. let s = p.inside x h in q.closed k x hk s.0 s.1 (p.linked k x both h))
    (λ x h. let s = q.inside x h in p.closed k x both s.0 s.1 (q.linked k x hk h))
  where
    both : IsIn k P
    both = let s = q.inside k hk in p.closed j k hj s.0 s.1 link

-- ---- numbers for the parts

pub uncut_same : (M : ℕ → ℕ → Bool) (i : ℕ) (A B A' B' : List ℕ) → ((x : ℕ) → IsIn x A' → IsIn x A) → ((x : ℕ) → IsIn x B' → IsIn x B) → IsUncutBy M i B A → IsUncutBy M i B' A'
uncut_same M i A B A' B' f g uncut j hj = go (uncut j (f j hj))
  where
    go : IsUncut M i B j → IsUncut M i B' j
    go (inl all) = inl (λ c u. all c (u.0, (u.1.0, g u.1.0 u.1.1, u.1.2)))
    go (inr all) = inr (λ c u. all c (u.0, (u.1.0, g u.1.0 u.1.1, u.1.2)))

-- parts with fewer rows also agree
pub agree_fewer : (M : ℕ → ℕ → Bool) (i : ℕ) (A B A' B' : List ℕ) → ((x : ℕ) → IsIn x A' → IsIn x A) → ((x : ℕ) → IsIn x B' → IsIn x B) → Agree M i A B → Agree M i A' B'
agree_fewer M i A B A' B' f g (inl s) = inl (uncut_same M i A B A' B' f g s)
agree_fewer M i A B A' B' f g (inr s) = inr (uncut_same M i B A B' A' g f s)

module _ (M : ℕ → ℕ → Bool) (S : List ℕ) (i : ℕ) (parts : List (List ℕ)) (P : AreParts M S i parts) (part : ℕ → ℕ) (numbered : IsNumbering S i parts part) where
  pub number_at : (a k : ℕ) → a < length parts → IsIn k (slice_index_or parts a []) → part k ≡ a
  number_at a k l h = go (same_or_not (part k) a)
    where
      go : (part k ≡ a) ⊎ (part k ≢ a) → part k ≡ a
      go (inl e) = e
      go (inr n) = let s = P.only a k l h in let q = numbered k s.0 s.1 in absurd (P.apart (part k) a k k q.0 l n q.1 h ([], refl))

  -- the numbers name the parts
  pub numbers_name : IsNaming M S i part
  numbers_name j k hj hk nj nk = (
    (λ e. let p = numbered j hj nj in let q = numbered k hk nk in P.linked (part j) j k p.0 p.1 (subst (λ (z : ℕ). IsIn k (slice_index_or parts z [])) (sym e) q.1)),
    (λ l. go l (same_or_not (part j) (part k))),
  )
    where
      go : AreLinked M S i j k → (part j ≡ part k) ⊎ (part j ≢ part k) → part j ≡ part k
      go l (inl e) = e
      go l (inr n) = let p = numbered j hj nj in let q = numbered k hk nk in absurd (P.apart (part j) (part k) j k p.0 q.0 n p.1 q.1 l)

  -- the rows with a number are the rows of the list
  pub to_list : (a k : ℕ) → IsIn k (part_rows part i a S) → IsIn k (slice_index_or parts a [])
  to_list a k h = let q = in_part part i a k S h in let p = numbered k q.0 q.1 in subst (λ (z : ℕ). IsIn k (slice_index_or parts z [])) q.2 p.1

  pub from_list : (a k : ℕ) → a < length parts → IsIn k (slice_index_or parts a []) → IsIn k (part_rows part i a S)
  from_list a k l h = let q = P.only a k l h in part_in part i a k S q.0 q.1 (number_at a k l h)

  -- parts of one side agree
  pub sides_agree : (sides : List ℕ) → AreSides M i parts sides → (j k : ℕ) → IsIn j S → IsIn k S → j ≢ i → k ≢ i → part j ≢ part k
      → (slice_index_or sides (part j) 0 == 1) ≡ (slice_index_or sides (part k) 0 == 1) → Agree M i (part_rows part i (part j) S) (part_rows part i (part k) S)
  sides_agree sides fit j k hj hk nj nk n e =
      let p = numbered j hj nj in
      let q = numbered k hk nk in
      let few = fit.count in
      agree_fewer M i (slice_index_or parts (part j) []) (slice_index_or parts (part k) []) (part_rows part i (part j) S) (part_rows part i (part k) S) (to_list (part j)) (to_list (part k))
      (fit.agree (part j) (part k) p.0 q.0 n (one_of_two (slice_index_or sides (part j) 0) (slice_index_or sides (part k) 0) (fit.two (part j) (omega arith)) (fit.two (part k) (omega arith)) e))
    where
      one_of_two : (a b : ℕ) → a ≤ 1 → b ≤ 1 → nat_eq a 1 ≡ nat_eq b 1 → a ≡ b
      one_of_two a b l m e = grind (arith, nat_tests)
