-- The steps of the search for a tree.
use Rattle.std.proofs.Common.{◌≡◌, ◌≢◌, ◌<◌, ◌≤◌, ◌+◌, ◌∙◌, ◌↔◌, ◌==◌, if◌then◌else◌, ℕ, Bool, true, false, List, [], ◌∷◌, ◌++◌, length, get_or, sym, ap, refl, subst, arith, ◌⊎◌, inl, inr, Option, Some, None, MatchOption}
use Rattle.std.specs.Prelude.{slice_index_or}
use Rattle.std.specs.List.Sorted.{IsStrictlyIncreasing}
use Rattle.std.proofs.Math.Path.{fun_ext}
use Rattle.std.proofs.lemmas.Bool.{cases_lt}
use Rattle.std.proofs.lemmas.List.{get_or_past}
use Rattle.cmr_base.specs.Cuts.{IsCuts, HasCuts}
use Rattle.cmr_base.specs.LineSets.{AllBelow}
use Rattle.cmr_base.specs.Members.{IsIn}
use Rattle.cmr_base.specs.Splits.{AreParts, AreSides, HasNoThree, IsCommon, IsFirstSplit, Splits}
use Rattle.cmr_base.proofs.ListsWithout.{head_below, increasing_distinct, increasing_tail}
use Rattle.cmr_base.proofs.Members.{in_at}
use Rattle.cmr_base.proofs.RowLists.{is_eq, is_ne, not_both, same_or_not}
use Rattle.graph_realise.specs.Branches.{branch_at}
use Rattle.graph_realise.specs.Joints.{AreInRows, ArePartMarks, AreOff, FitsJoint, IsArcJoined, IsClearBeside, IsJointOf, IsPartWith, IsPartTouched, by_part, branch_end, hanging_of, number_at, part_or_first}
use Rattle.graph_realise.specs.Merging.{DescribesParts, Hanging, KeepsCuts, hanging_by, heavier, merged_lies, merged_side, spot, reversed_lies, reversed_side}
use Rattle.graph_realise.specs.RowNumbers.{AreDisjoint}
use Rattle.graph_realise.specs.TreeSearches.{AreWholeBelow, IsSplit}
use Rattle.graph_realise.specs.SideTables.{side_in, end_in, AreClear, KeepsOutside}
use Rattle.graph_realise.specs.declared.arc_sides.ArcSides.{ArcSides}
use Rattle.graph_realise.specs.declared.joint.Joint.{Joint}
use Rattle.bridge_split.specs.declared.splitting.SplitRow.{SplitRow}
use Rattle.graph_realise.proofs.NoCuts.{no_three}
use Rattle.graph_realise.proofs.CutTables.{has_fewer, is_fewer, is_same}
use Rattle.graph_realise.proofs.JoinLemmas.{clear_stays}
use Rattle.graph_realise.proofs.JointLemmas.{named_touched}
use Rattle.graph_realise.proofs.MergedTables.{keeps_after, keeps_own, merged_kept}
use Rattle.graph_realise.proofs.SideLemmas.{keeps_row_trans}
use Rattle.graph_realise.proofs.TableLemmas.{cell_past}
use Rattle.graph_realise.proofs.WholeRows.{stays_whole}
use Rattle.cmr_base.proofs.Places.{fewer_distinct}
use Rattle.cmr_base.proofs.Booleans.{false_is}
use Rattle.bridge_split.proofs.PartWalks.{no_number}

-- ---- lists of rows

-- at least one row is removed
pub fewer_rows : (xs ys : List ℕ) (x : ℕ) → IsStrictlyIncreasing xs → ((y : ℕ) → IsIn y xs → IsIn y ys) → IsIn x ys → ¬ (IsIn x xs) → length xs < length ys
fewer_rows xs ys x increasing sub here gone = let l = fewer_distinct (x ∷ xs) ys (gone, increasing_distinct xs increasing) into in omega arith
  where
    into : (y : ℕ) → (y ≡ x) ⊎ IsIn y xs → IsIn y ys
    into y (inl e) = subst (λ (z : ℕ). IsIn z ys) (sym e) here
    into y (inr h) = sub y h

-- ---- the parts at a row

pub one_part_whole : (M : ℕ → ℕ → Bool) (S : List ℕ) (i : ℕ) (parts : List (List ℕ)) → AreParts M S i parts → length parts < 2 → ¬ (Splits M S i)
one_part_whole M S i parts all few s =
    let a = all.all s.one s.one_in s.one_other in
    let b = all.all s.two s.two_in s.two_other in
    let la = a.1 in
    let lb = b.1 in
    let e : b.0 ≡ a.0 = omega arith in
    s.apart (all.linked a.0 s.one s.two a.1 a.2 (subst (λ (z : ℕ). IsIn s.two (slice_index_or parts z [])) e b.2))

-- a row before another row of an increasing list
in_before : (before after : List ℕ) (i row : ℕ) → IsStrictlyIncreasing (before ++ i ∷ after) → IsIn row (before ++ i ∷ after) → row < i → IsIn row before
in_before [] after i row increases (inl e) low = absurd (omega arith)
in_before [] after i row increases (inr h) low = let l = head_below i row after increases h in absurd (omega arith)
in_before (b ∷ before) after i row increases (inl e) low = inl e
in_before (b ∷ before) after i row increases (inr h) low = inr (in_before before after i row (increasing_tail b (before ++ i ∷ after) increases) h low)

pub split_is : (M : ℕ → ℕ → Bool) (S : List ℕ) (split : SplitRow) → IsStrictlyIncreasing S → IsFirstSplit M S split.row → AreParts M S split.row split.parts → IsSplit M S split
split_is M S split increases first parts = record {
  here = first.splits.here;
  parts = parts;
  two = elim (cases_lt (length split.parts) 2) [ inl l ↦ absurd (one_part_whole M S split.row split.parts parts l first.splits) | inr l ↦ l ];
  first = λ row low s. first.none row (in_before first.before first.after split.row row (subst IsStrictlyIncreasing first.place increases) (subst (IsIn row) first.place s.here) low) s;
}

pub parts_disjoint : (M : ℕ → ℕ → Bool) (S : List ℕ) (i : ℕ) (parts : List (List ℕ)) → AreParts M S i parts → AreDisjoint parts
parts_disjoint M S i parts all a b row la lb ha hb = go (same_or_not a b)
  where
    go : (a ≡ b) ⊎ (a ≢ b) → a ≡ b
    go (inl e) = e
    go (inr n) = absurd (all.apart a b row row la lb n ha hb ([], refl))

pub parts_in_rows : (M : ℕ → ℕ → Bool) (S : List ℕ) (i m : ℕ) (parts : List (List ℕ)) → AreParts M S i parts → ((x : ℕ) → IsIn x S → x < m) → AreInRows m parts
parts_in_rows M S i m parts all below a l k h = below (get_or (slice_index_or parts a []) k 0) (all.only a (get_or (slice_index_or parts a []) k 0) l (in_at (slice_index_or parts a []) k h)).0

module _ (M : ℕ → ℕ → Bool) (m n : ℕ) (short : (r c : ℕ) → M r c ≡ true → c < n) (S : List ℕ) (below : (x : ℕ) → IsIn x S → x < m) (i : ℕ) (here : IsIn i S) (parts : List (List ℕ)) (all : AreParts M S i parts)
    (ends : List ℕ) (fit : AreSides M i parts ends) (joint : Joint) (J : IsJointOf M m n i parts ends joint) where
  part : ℕ → ℕ
  part r = part_or_first (number_at joint.part_of.items r)

  -- a row except i has the number of its part
  numbered : (r : ℕ) → IsIn r S → r ≢ i → (a : ℕ) × (a < length parts) × IsIn r (slice_index_or parts a []) × (number_at joint.part_of.items r ≡ Some a)
  numbered r hr nr = let q = all.all r hr nr in (q.0, q.1, q.2, J.numbered.inside q.0 r q.1 q.2)

  -- the part of a column
  touched_at : (c : ℕ) → IsPartTouched M i S joint.part_of.items c (number_at joint.part_with.items c)
  touched_at c = named_touched M i parts S joint.part_of.items all J.numbered c (number_at joint.part_with.items c) (J.with_columns c)

  pub row_number : number_at joint.part_of.items i ≡ None
  row_number = go (number_at joint.part_of.items i) refl
    where
      go : (o : Option ℕ) → number_at joint.part_of.items i ≡ o → number_at joint.part_of.items i ≡ None
      go None e = e
      go (Some a) e = let q = J.numbered.only a i e in absurd ((all.only a i q.0 q.1).1 refl)

  pub fits : FitsJoint m n joint
  fits = record {
    row = rw J.row (below i here);
    rows = J.rows;
    columns = J.columns;
    row_parts = λ row a e. let l = (J.numbered.only a row e).0 in let k = J.branches.many in omega arith;
    column_parts = λ column a e. by_column column a e (cases_lt column n);
    commons = λ a column e. common_in a column e (cases_lt a (length parts));
    row_marks = subst (λ (count : ℕ). ArePartMarks joint.part_of.items count joint.row_marks) (sym J.branches.many) J.row_marks;
    column_marks = subst (λ (count : ℕ). ArePartMarks joint.part_with.items count joint.column_marks) (sym J.branches.many) J.column_marks;
    few = omega (arith, J.few, J.branches.many);
  }
    where
      touched_in : (column a : ℕ) → number_at joint.part_with.items column ≡ Some a
          → IsPartWith M S joint.part_of.items column (number_at joint.part_with.items column) → a < length joint.branches.items
      touched_in column a e (inl h) = absurd (no_number (number_at joint.part_with.items column) a h.1 e)
      touched_in column a e (inr h) = let l = (J.numbered.only a h.0 (sym h.3 ∙ e)).0 in let k = J.branches.many in omega arith

      by_column : (column a : ℕ) → number_at joint.part_with.items column ≡ Some a → (column < n) ⊎ (n ≤ column) → a < length joint.branches.items
      by_column column a e (inl l) = elim (touched_at column) [ inl off ↦ absurd (no_number (number_at joint.part_with.items column) a off.1 e) | inr on ↦ touched_in column a e on.1 ]
      by_column column a e (inr l) = absurd (no_number (number_at joint.part_with.items column) a (get_or_past joint.part_with.items column None (let k = J.columns in omega arith)) e)

      common_in : (a column : ℕ) → (branch_at joint.branches.items a).common ≡ Some column → (a < length parts) ⊎ (length parts ≤ a) → column < n
      common_in a column e (inl l) = short i column (subst (λ (o : Option ℕ). MatchOption o ((c : ℕ) → ¬ (IsCommon M i (slice_index_or parts a []) c)) (IsCommon M i (slice_index_or parts a []))) e (J.branches.each a l).common).0
      common_in a column e (inr l) = absurd (no_number (branch_at joint.branches.items a).common column (ap (λ b. b.common) (get_or_past joint.branches.items a (record { end = false; weight = 0; common = None }) (let k = J.branches.many in omega arith))) e)

  -- the row's own columns have no part
  pub named_off : AreOff M joint
  named_off c on = elim (touched_at c) [
    | inl used ↦ used.1
    | inr with_part ↦ absurd (not_both (M i c) (sym (ap (λ (r : ℕ). M r c) J.row) ∙ on) with_part.0)
  ]

  pub all_numbered : (r : ℕ) → IsIn r S → r ≢ joint.row → number_at joint.part_of.items r ≢ None
  all_numbered r hr nr e = no_number (number_at joint.part_of.items r) q.0 e q.3
    where
      q : (a : ℕ) × (a < length parts) × IsIn r (slice_index_or parts a []) × (number_at joint.part_of.items r ≡ Some a)
      q = numbered r hr (λ z. nr (z ∙ sym J.row))

  describes : DescribesParts M n S i parts (λ r. part_or_first (number_at joint.part_of.items r)) (λ p. (branch_at joint.branches.items p).weight) (λ p. (branch_at joint.branches.items p).common) (number_at joint.part_with.items)
  describes = record {
    numbers = λ r hr nr. let q = numbered r hr nr in subst (λ (z : ℕ). (z < length parts) × IsIn r (slice_index_or parts z [])) (sym (ap part_or_first q.3)) (q.1, q.2);
    weights = λ a l. (J.branches.each a l).weight;
    shared = λ a. share a (cases_lt a (length parts));
    columns = λ r c hr nr off on. elim (touched_at c) [ inl used ↦ absurd (not_both (M i c) used.0 off) | inr with_part ↦ column r c hr nr off on with_part.1 ];
  }
    where
      share : (a : ℕ) → (a < length parts) ⊎ (length parts ≤ a)
          → MatchOption (branch_at joint.branches.items a).common ((c : ℕ) → ¬ (IsCommon M i (slice_index_or parts a []) c)) (IsCommon M i (slice_index_or parts a []))
      share a (inl l) = (J.branches.each a l).common
      share a (inr l) =
          rw (get_or_past joint.branches.items a (record { end = false; weight = 0; common = None }) (let k = J.branches.many in omega arith), get_or_past parts a [] l)
          (λ c u. u.1.1)

      column : (r c : ℕ) → IsIn r S → r ≢ i → M i c ≡ false → M r c ≡ true → IsPartWith M S joint.part_of.items c (number_at joint.part_with.items c)
          → number_at joint.part_with.items c ≡ Some (part_or_first (number_at joint.part_of.items r))
      column r c hr nr off on (inl h) = absurd (not_both (M r c) on (h.0 r hr))
      column r c hr nr off on (inr (s, hs, ons, f)) =
          let p = numbered r hr nr in
          let q = numbered s hs (λ e. not_both (M s c) ons (ap (λ (z : ℕ). M z c) e ∙ off)) in
          f ∙ q.3 ∙ ap (λ (z : ℕ). Some z) (one (same_or_not q.0 p.0) ∙ sym (ap part_or_first p.3))
        where
          p : (a : ℕ) × (a < length parts) × IsIn r (slice_index_or parts a []) × (number_at joint.part_of.items r ≡ Some a)
          p = numbered r hr nr

          q : (a : ℕ) × (a < length parts) × IsIn s (slice_index_or parts a []) × (number_at joint.part_of.items s ≡ Some a)
          q = numbered s hs (λ e. not_both (M s c) ons (ap (λ (z : ℕ). M z c) e ∙ off))

          one : (q.0 ≡ p.0) ⊎ (q.0 ≢ p.0) → q.0 ≡ p.0
          one (inl e) = e
          one (inr d) = absurd (all.apart q.0 p.0 s r q.1 p.1 d q.2 p.2 (r ∷ [], (hr, (c, off, ons, on), refl)))

  hanging_is : hanging_by ends (λ r. part_or_first (number_at joint.part_of.items r)) (λ p. (branch_at joint.branches.items p).weight) (λ p. (branch_at joint.branches.items p).common) (number_at joint.part_with.items) ≡ hanging_of joint
  hanging_is = ap (λ (h : ℕ → Bool). record { part = λ r. part_or_first (number_at joint.part_of.items r); half = h; above = heavier (λ p. (branch_at joint.branches.items p).weight); common = λ p. (branch_at joint.branches.items p).common; touched = number_at joint.part_with.items })
      (fun_ext (λ p. half p (cases_lt p (length parts))))
    where
      half : (p : ℕ) → (p < length parts) ⊎ (length parts ≤ p) → (slice_index_or ends p 0 == 1) ≡ (branch_at joint.branches.items p).end
      half p (inl l) = sym (J.branches.each p l).end_is
      half p (inr l) = ap (λ (z : ℕ). z == 1) (get_or_past ends p 0 (let k = fit.count in omega arith))
          ∙ sym (ap (λ b. b.end) (get_or_past joint.branches.items p (record { end = false; weight = 0; common = None }) (let k = J.branches.many in omega arith)))

  -- the row with part a
  module _ (a : ℕ) (l : a < length parts) (T : List ℕ) (rows : (x : ℕ) → IsIn x T ↔ ((x ≡ joint.row) ⊎ (number_at joint.part_of.items x ≡ Some a))) where
    pub with_list : (x : ℕ) → IsIn x T → (x ≡ i) ⊎ IsIn x (slice_index_or parts a [])
    with_list x h = go ((rows x).0 h)
      where
        go : (x ≡ joint.row) ⊎ (number_at joint.part_of.items x ≡ Some a) → (x ≡ i) ⊎ IsIn x (slice_index_or parts a [])
        go (inl e) = inl (e ∙ J.row)
        go (inr e) = inr (J.numbered.only a x e).1

    pub list_with : (x : ℕ) → (x ≡ i) ⊎ IsIn x (slice_index_or parts a []) → IsIn x T
    list_with x (inl e) = (rows x).1 (inl (e ∙ sym J.row))
    list_with x (inr h) = (rows x).1 (inr (J.numbered.inside a x l h))

    pub with_in_rows : (x : ℕ) → IsIn x T → IsIn x S
    with_in_rows x h = go (with_list x h)
      where
        go : (x ≡ i) ⊎ IsIn x (slice_index_or parts a []) → IsIn x S
        go (inl e) = subst (λ (z : ℕ). IsIn z S) (sym e) here
        go (inr k) = (all.only a x l k).0

    pub with_below : AllBelow m T
    with_below k h = below (get_or T k 0) (with_in_rows (get_or T k 0) (in_at T k h))

    -- a row of another part
    pub with_fewer : 2 ≤ length parts → IsStrictlyIncreasing T → length T < length S
    with_fewer two increasing = go (same_or_not a 0)
      where
        other : (b : ℕ) → b < length parts → b ≢ a → length T < length S
        other b k n =
            let x = get_or (slice_index_or parts b []) 0 0 in
            let h = in_at (slice_index_or parts b []) 0 (all.filled b k) in
            fewer_rows T S x increasing with_in_rows (all.only b x k h).0 (λ g. none x h (with_list x g))
          where
            none : (x : ℕ) → IsIn x (slice_index_or parts b []) → (x ≡ i) ⊎ IsIn x (slice_index_or parts a []) → ⊥
            none x h (inl e) = (all.only b x k h).1 e
            none x h (inr g) = n (parts_disjoint M S i parts all b a x k l h g)

        go : (a ≡ 0) ⊎ (a ≢ 0) → length T < length S
        go (inl e) = other 1 (omega arith) (λ f. let g = f in absurd (omega arith))
        go (inr n) = other 0 (omega arith) (λ f. n (sym f))

    pub kept_more : (old new : ArcSides) → ((b : ℕ) → b < a → KeepsCuts M i (slice_index_or parts b []) (side_in old) (end_in old)) → KeepsOutside old new T
        → IsCuts M (λ r. IsIn r T) (side_in new) (end_in new) → (b : ℕ) → b < a + 1 → KeepsCuts M i (slice_index_or parts b []) (side_in new) (end_in new)
    kept_more old new kept others K b k = go (cases_lt b a)
      where
        outside : (r : ℕ) → b < a → IsIn r (slice_index_or parts b []) → (r ≡ i) ⊎ IsIn r (slice_index_or parts a []) → ⊥
        outside r w h (inl e) = (all.only b r (omega arith) h).1 e
        outside r w h (inr g) = let e = parts_disjoint M S i parts all b a r (omega arith) l h g in absurd (omega arith)

        go : (b < a) ⊎ (a ≤ b) → KeepsCuts M i (slice_index_or parts b []) (side_in new) (end_in new)
        go (inl w) = keeps_after M i (slice_index_or parts b []) (side_in old) (side_in new) (end_in old) (end_in new)
            (λ r s hr hs n. (others r (λ g. outside r w hr (with_list r g))).arcs s) (λ end r c hr off. (others r (λ g. outside r w hr (with_list r g))).ends end c) (kept b w)
        go (inr w) =
            let e : b ≡ a = omega arith in
            subst (λ (z : ℕ). KeepsCuts M i (slice_index_or parts z []) (side_in new) (end_in new)) (sym e)
            (keeps_own M i (slice_index_or parts a []) (side_in new) (end_in new) (is_fewer M (λ r. IsIn r T) (λ r. (r ≡ i) ⊎ IsIn r (slice_index_or parts a [])) (side_in new) (end_in new) list_with K))

    -- the arcs of the rows of this part and of earlier parts have nothing else on their sides true
    pub clear_more : (old new : ArcSides) → ((b r : ℕ) → b < a → IsIn r (slice_index_or parts b []) → IsClearBeside M joint old r) → KeepsOutside old new T → AreClear M T new
        → (b r : ℕ) → b < a + 1 → IsIn r (slice_index_or parts b []) → IsClearBeside M joint new r
    clear_more old new clear others own b r k hr = go (cases_lt b a)
      where
        outside : b < a → (r ≡ i) ⊎ IsIn r (slice_index_or parts a []) → ⊥
        outside w (inl e) = (all.only b r (omega arith) hr).1 e
        outside w (inr g) = let e = parts_disjoint M S i parts all b a r (omega arith) l hr g in absurd (omega arith)

        in_own : a ≡ b → IsClearBeside M joint new r
        in_own e = record {
          arcs = λ s n o. own.arcs r s (list_with r (inr here_too)) (λ h. not_with s n o ((rows s).0 h));
          ends = λ end c off o. own.ends end r c (list_with r (inr here_too)) (λ x hx. zero c off o x (M x c) refl (with_list x hx));
        }
          where
            here_too : IsIn r (slice_index_or parts a [])
            here_too = subst (λ (z : ℕ). IsIn r (slice_index_or parts z [])) (sym e) hr

            of_part : (x : ℕ) → IsIn x (slice_index_or parts a []) → number_at joint.part_of.items x ≡ Some a
            of_part x h = J.numbered.inside a x l h

            not_with : (s : ℕ) → s ≢ joint.row → number_at joint.part_of.items s ≢ number_at joint.part_of.items r → (s ≡ joint.row) ⊎ (number_at joint.part_of.items s ≡ Some a) → ⊥
            not_with s n o (inl q) = n q
            not_with s n o (inr q) = o (q ∙ sym (of_part r here_too))

            zero : (c : ℕ) → M joint.row c ≡ false → number_at joint.part_with.items c ≢ number_at joint.part_of.items r → (x : ℕ) (t : Bool) → M x c ≡ t
                → (x ≡ i) ⊎ IsIn x (slice_index_or parts a []) → M x c ≡ false
            zero c off o x t f (inl q) = ap (λ (z : ℕ). M z c) (q ∙ sym J.row) ∙ off
            zero c off o x false f (inr h) = f
            zero c off o x true f (inr h) =
                let q = all.only a x l h in
                absurd (o (describes.columns x c q.0 q.1 (ap (λ (z : ℕ). M z c) (sym J.row) ∙ off) f ∙ ap (λ (z : Option ℕ). Some (part_or_first z)) (of_part x h) ∙ sym (of_part r here_too)))

        go : (b < a) ⊎ (a ≤ b) → IsClearBeside M joint new r
        go (inl w) = clear_stays M joint old new r (others r (λ g. outside w (with_list r g))) (clear b r w hr)
        go (inr w) = in_own (omega arith)

    pub others_more : (first old new : ArcSides) → KeepsOutside first old S → KeepsOutside old new T → KeepsOutside first new S
    others_more first old new h k r n = keeps_row_trans first old new r (h r n) (k r (λ g. n (with_in_rows r g)))

    pub none_more : ¬ (HasCuts M (λ r. IsIn r T)) → ¬ (HasCuts M (λ r. IsIn r S))
    none_more none K = none (has_fewer M (λ r. IsIn r S) (λ r. IsIn r T) with_in_rows K)

    -- rows that were tested need no other test
    pub whole_more : AreWholeBelow M S i → AreWholeBelow M T (i + 1)
    whole_more whole row low s = stays_whole M S i here parts all a l T with_list list_with row (pick (cases_lt row i)) s
      where
        pick : (row < i) ⊎ (i ≤ row) → (row ≡ i) ⊎ (¬ (Splits M S row))
        pick (inl before) = inr (whole row before)
        pick (inr past) = inl (omega (arith, low))

  module _ (old new : ArcSides) (wide : new.first.width ≡ n) (wide_last : new.last.width ≡ n) (new_arcs : new.arcs.width ≡ m) (old_wide : old.first.width ≡ n) (old_arcs : old.arcs.width ≡ m)
      (K : (a : ℕ) → a < length parts → KeepsCuts M i (slice_index_or parts a []) (side_in old) (end_in old)) (joined : (r : ℕ) → IsIn r S → IsArcJoined M joint old new r) where
    cuts : IsCuts M (λ r. IsIn r S) (merged_side M i (hanging_of joint) (reversed_side i (side_in old))) (merged_lies M i (hanging_of joint) (reversed_lies i (side_in old) (end_in old)))
    cuts = subst (λ (h : Hanging). IsCuts M (λ r. IsIn r S) (merged_side M i h (reversed_side i (side_in old))) (merged_lies M i h (reversed_lies i (side_in old) (end_in old)))) hanging_is
        (merged_kept M n short S i here parts all ends fit (λ r. part_or_first (number_at joint.part_of.items r)) (λ p. (branch_at joint.branches.items p).weight) (λ p. (branch_at joint.branches.items p).common) (number_at joint.part_with.items)
        describes (side_in old) (end_in old) K)

    sides : (r s : ℕ) → IsIn r S → IsIn s S → r ≢ s → side_in new r s ≡ merged_side M i (hanging_of joint) (reversed_side i (side_in old)) r s
    sides r s hr hs n = (joined r hr).arcs s (let l = below s hs in omega arith)
        ∙ ap (λ (z : ℕ). if r == z then branch_end joint (number_at joint.part_of.items s) else by_part M joint r (reversed_side z (side_in old) r s) (number_at joint.part_of.items s)) J.row
        ∙ go (same_or_not r i) (same_or_not s i)
      where
        spots : (q : ℕ) → spot M joint.row (hanging_of joint) r q ≡ spot M i (hanging_of joint) r q
        spots q = refl

        go : (r ≡ i) ⊎ (r ≢ i) → (s ≡ i) ⊎ (s ≢ i)
            → (if r == i then branch_end joint (number_at joint.part_of.items s) else by_part M joint r (reversed_side i (side_in old) r s) (number_at joint.part_of.items s))
            ≡ merged_side M i (hanging_of joint) (reversed_side i (side_in old)) r s
        go (inl a) (inl b) = absurd (n (a ∙ sym b))
        go (inl a) (inr b) = let q = numbered s hs b in rw (is_eq r i a, q.3) refl
        go (inr a) (inl b) = rw (is_ne r i a, is_eq s i b, b, row_number) refl
        go (inr a) (inr b) = let q = numbered s hs b in rw (is_ne r i a, is_ne s i b, q.3) refl

    past : (end : Bool) (r c : ℕ) → n ≤ c → end_in new end r c ≡ merged_lies M i (hanging_of joint) (reversed_lies i (side_in old) (end_in old)) end r c
    past end r c l = outside end ∙ sym (go (same_or_not r i))
      where
        outside : (end : Bool) → end_in new end r c ≡ false
        outside true = cell_past new.first r c (omega arith)
        outside false = cell_past new.last r c (omega arith)

        off : M i c ≡ false
        off = false_is (M i c) (λ e. let k = short i c e in omega arith)

        none : number_at joint.part_with.items c ≡ None
        none = get_or_past joint.part_with.items c None (let k = J.columns in omega arith)

        go : (r ≡ i) ⊎ (r ≢ i) → merged_lies M i (hanging_of joint) (reversed_lies i (side_in old) (end_in old)) end r c ≡ false
        go (inl a) = rw (is_eq r i a, off, none) refl
        go (inr a) = rw (is_ne r i a, off, none) refl

    tips : (end : Bool) (r c : ℕ) → IsIn r S → end_in new end r c ≡ merged_lies M i (hanging_of joint) (reversed_lies i (side_in old) (end_in old)) end r c
    tips end r c hr = go (cases_lt c n)
      where
        go : (c < n) ⊎ (n ≤ c) → end_in new end r c ≡ merged_lies M i (hanging_of joint) (reversed_lies i (side_in old) (end_in old)) end r c
        go (inl l) = (joined r hr).ends end c (omega arith) ∙ ap (λ (z : ℕ). merged_lies M z (hanging_of joint) (reversed_lies z (side_in old) (end_in old)) end r c) J.row
        go (inr l) = past end r c l

    pub joined_cuts : IsCuts M (λ r. IsIn r S) (side_in new) (end_in new)
    joined_cuts = is_same M (λ r. IsIn r S) (merged_side M i (hanging_of joint) (reversed_side i (side_in old))) (side_in new) (merged_lies M i (hanging_of joint) (reversed_lies i (side_in old) (end_in old))) (end_in new) sides tips cuts

    -- the arcs of all rows have nothing else on their sides true
    pub joined_clear : AreClear M S new
    joined_clear = record {
      arcs = λ r s hr n. beside r s hr n (cases_lt s m);
      ends = λ end r c hr none. tips end r c hr ∙ away end r c (none i here) (unnamed c none (touched_at c)) (same_or_not r i);
    }
      where
        no_part : (s : ℕ) → ¬ (IsIn s S) → (o : Option ℕ) → number_at joint.part_of.items s ≡ o → number_at joint.part_of.items s ≡ None
        no_part s n None e = e
        no_part s n (Some a) e = let q = J.numbered.only a s e in absurd (n (all.only a s q.0 q.1).0)

        in_none : (r : ℕ) (within t : Bool) → (if t then branch_end joint None else by_part M joint r within None) ≡ false
        in_none r within true = refl
        in_none r within false = refl

        beside : (r s : ℕ) → IsIn r S → ¬ (IsIn s S) → (s < m) ⊎ (m ≤ s) → side_in new r s ≡ false
        beside r s hr n (inl l) = (joined r hr).arcs s (omega arith)
            ∙ ap (λ (o : Option ℕ). if r == joint.row then branch_end joint o else by_part M joint r (reversed_side joint.row (side_in old) r s) o) (no_part s n (number_at joint.part_of.items s) refl)
            ∙ in_none r (reversed_side joint.row (side_in old) r s) (r == joint.row)
        beside r s hr n (inr l) = cell_past new.arcs r s (omega arith)

        unnamed : (c : ℕ) → ((x : ℕ) → IsIn x S → M x c ≡ false) → IsPartTouched M i S joint.part_of.items c (number_at joint.part_with.items c) → number_at joint.part_with.items c ≡ None
        unnamed c none (inl h) = h.1
        unnamed c none (inr (off, inl h)) = h.1
        unnamed c none (inr (off, inr (x, hx, on, e))) = absurd (not_both (M x c) on (none x hx))

        away : (end : Bool) (r c : ℕ) → M i c ≡ false → number_at joint.part_with.items c ≡ None → (r ≡ i) ⊎ (r ≢ i)
            → merged_lies M i (hanging_of joint) (reversed_lies i (side_in old) (end_in old)) end r c ≡ false
        away end r c off none (inl a) = rw (is_eq r i a, off, none) refl
        away end r c off none (inr a) = rw (is_ne r i a, off, none) refl

-- a column with three nonzeros and no row that splits
pub some_three : (M : ℕ → ℕ → Bool) (S : List ℕ) → ¬ (HasNoThree M S) → ((row : ℕ) → ¬ (Splits M S row)) → ¬ (HasCuts M (λ r. IsIn r S))
some_three M S three none K = three (no_three M S K none)
