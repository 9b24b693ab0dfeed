-- The parts of rows and of columns.
use Rattle.std.proofs.Common.{true, ◌≡◌, ◌≢◌, ◌<◌, ◌≤◌, ◌+◌, ◌++◌, ◌∙◌, ◌↔◌, ℕ, ◌&&◌, ◌||◌, not, refl, Bool, false, List, [], ◌∷◌, length, length-append, get_or, sym, ap, ap₂, subst, arith, ◌⊎◌, inl, inr, Option, Some, None}
use Rattle.std.specs.Prelude.{slice_index_or}
use Rattle.std.proofs.lemmas.Bool.{cases_lt}
use Rattle.std.proofs.lemmas.List.{get_or_append_left, get_or_at, get_or_past}
use Rattle.cmr_base.specs.BitSets.{Bits}
use Rattle.cmr_base.specs.Members.{IsIn}
use Rattle.cmr_base.specs.Splits.{AreParts}
use Rattle.bridge_split.proofs.PartWalks.{no_number, same_number}
use Rattle.cmr_base.proofs.Booleans.{and_is, not_is, or_is, or_true}
use Rattle.cmr_base.proofs.Members.{in-append, in_at}
use Rattle.cmr_base.proofs.RowLists.{not_both, in_or_not, is_eq, is_ne, same_or_not}
use Rattle.graph_realise.specs.Joints.{ArePartMarks, AreColumnsOf, AreColumnsOfParts, IsSetOfPart, set_at, AreNumbered, AreOfRows, IsPartNumber, IsPartTouched, is_part, number_at}
use Rattle.graph_realise.specs.BitTables.{Grid, cell, IsCellSet}
use Rattle.graph_realise.specs.RowNumbers.{AreDisjoint}
use Rattle.cmr_base.proofs.Places.{each_more, found_at}

-- ---- the columns of the rows of a part

module _ (M : ℕ → ℕ → Bool) (rows : List ℕ) where
  pub columns_of_none : (columns : ℕ → Bool) → ((c : ℕ) → columns c ≡ false) → AreColumnsOf M rows 0 columns
  columns_of_none columns none = record {
    into = λ c e. absurd (not_both (columns c) e (none c));
    from = λ p c l. absurd (omega arith);
  }

  pub columns_of_more : (place : ℕ) (columns columns' : ℕ → Bool) → AreColumnsOf M rows place columns
      → ((c : ℕ) → columns' c ≡ (columns c || M (get_or rows place 0) c)) → AreColumnsOf M rows (place + 1) columns'
  columns_of_more place columns columns' so more = record {
    into = λ c e. elim (or_is (columns c) (M (get_or rows place 0) c) (sym (more c) ∙ e)) [
      | inl f ↦ let q = so.into c f in let l = q.1 in (q.0, omega arith, q.2)
      | inr f ↦ (place, omega arith, f)
    ];
    from = λ p c l on. more c ∙ from p c l on (cases_lt p place);
  }
    where
      from : (p c : ℕ) → p < place + 1 → M (get_or rows p 0) c ≡ true → (p < place) ⊎ (place ≤ p) → (columns c || M (get_or rows place 0) c) ≡ true
      from p c l on (inl k) = ap (λ t. t || M (get_or rows place 0) c) (so.from p c k on)
      from p c l on (inr k) =
          let e : p ≡ place = omega arith in
          ap (λ t. columns c || t) (ap (λ (z : ℕ). M (get_or rows z 0) c) (sym e) ∙ on) ∙ or_true (columns c)

-- one more part
pub sets_more : (M : ℕ → ℕ → Bool) (n : ℕ) (parts : List (List ℕ)) (count : ℕ) (sets : List Bits) (set : Bits) → AreColumnsOfParts M n parts count sets
    → IsSetOfPart M n (slice_index_or parts count []) set
    → AreColumnsOfParts M n parts (count + 1) (sets ++ set ∷ [])
sets_more M n parts count sets set so here = record {
  many = length-append sets (set ∷ []) ∙ ap (λ (z : ℕ). z + 1) so.many;
  each = each_more (λ a. IsSetOfPart M n (slice_index_or parts a []) (set_at (sets ++ set ∷ []) a)) count
      (λ a l. subst (IsSetOfPart M n (slice_index_or parts a [])) (sym (get_or_append_left sets (set ∷ []) (set_at [] 0) a (let k = so.many in omega arith))) (so.each a l))
      (subst (IsSetOfPart M n (slice_index_or parts count [])) (sym (get_or_at sets set [] (set_at [] 0) count so.many)) here);
}

module _ (M : ℕ → ℕ → Bool) (i : ℕ) where
  -- those in which row i is 0
  pub of_rows : (rows : List ℕ) (place : ℕ) (met columns : ℕ → Bool) → AreColumnsOf M rows place met → ((c : ℕ) → columns c ≡ (met c && not (M i c))) → AreOfRows M i rows place columns
  of_rows rows place met columns are is = record {
    into = λ c e. let g = and_is (met c) (not (M i c)) (sym (is c) ∙ e) in (not_is (M i c) g.1, are.into c g.0);
    from = λ p c l off on. is c ∙ ap₂ (λ s t. s && not t) (are.from p c l on) off;
  }

  -- ---- the parts of columns

  module _ (parts : List (List ℕ)) where
    pub named_none : (c : ℕ) (found : Option ℕ) → found ≡ None → IsPartNumber M i parts 0 c found
    named_none c found e = inl (λ a r l. absurd (omega arith), e)

    -- the columns of another part have its number
    pub named_more : (count : ℕ) (columns : ℕ → Bool) (c : ℕ) (old new : Option ℕ) → AreOfRows M i (slice_index_or parts count []) (length (slice_index_or parts count [])) columns
        → IsPartNumber M i parts count c old → (columns c ≡ true → new ≡ Some count) → (columns c ≡ false → new ≡ old) → IsPartNumber M i parts (count + 1) c new
    named_more count columns c old new of so inside outside = go (columns c) refl
      where
        part : List ℕ
        part = slice_index_or parts count []

        never : (r : ℕ) (t : Bool) → columns c ≡ false → IsIn r part → M i c ≡ false → M r c ≡ t → M r c ≡ false
        never r true e h off on = let q = found_at part r h in absurd (not_both (columns c) (of.from q.0 c q.1 off (ap (λ (z : ℕ). M z c) q.2 ∙ on)) e)
        never r false e h off on = on

        kept : columns c ≡ false → IsPartNumber M i parts count c old → IsPartNumber M i parts (count + 1) c new
        kept e (inl h) = inl (λ a r l hr off. pick a r l hr off (cases_lt a count), outside e ∙ h.1)
          where
            pick : (a r : ℕ) → a < count + 1 → IsIn r (slice_index_or parts a []) → M i c ≡ false → (a < count) ⊎ (count ≤ a) → M r c ≡ false
            pick a r l hr off (inl k) = h.0 a r k hr off
            pick a r l hr off (inr k) = let q : a ≡ count = omega arith in never r (M r c) e (subst (λ (z : ℕ). IsIn r (slice_index_or parts z [])) q hr) off refl
        kept e (inr (a, r, l, hr, off, on, f)) = inr (a, r, omega arith, hr, off, on, outside e ∙ f)

        go : (t : Bool) → columns c ≡ t → IsPartNumber M i parts (count + 1) c new
        go true e = let q = of.into c e in let p = q.1 in inr (count, get_or part p.0 0, omega arith, in_at part p.0 p.1, q.0, p.2, inside e)
        go false e = kept e so

    -- the number of a part is the number of its rows
    pub named_touched : (rows : List ℕ) (part_of : List (Option ℕ)) → AreParts M rows i parts → AreNumbered parts (length parts) part_of → (c : ℕ) (found : Option ℕ)
        → IsPartNumber M i parts (length parts) c found → IsPartTouched M i rows part_of c found
    named_touched rows part_of all numbered c found so = go (M i c) refl so
      where
        go : (t : Bool) → M i c ≡ t → IsPartNumber M i parts (length parts) c found → IsPartTouched M i rows part_of c found
        go true e (inl h) = inl (e, h.1)
        go true e (inr (a, r, l, hr, off, on, f)) = absurd (not_both (M i c) e off)
        go false e (inl h) = inr (e, inl (λ r hr. zero_at r hr (same_or_not r i), h.1))
          where
            zero_at : (r : ℕ) → IsIn r rows → (r ≡ i) ⊎ (r ≢ i) → M r c ≡ false
            zero_at r hr (inl q) = ap (λ (z : ℕ). M z c) q ∙ e
            zero_at r hr (inr n) = let q = all.all r hr n in h.0 q.0 r q.1 q.2 e
        go false e (inr (a, r, l, hr, off, on, f)) = inr (e, inr (r, (all.only a r l hr).0, on, f ∙ sym (numbered.inside a r l hr)))

-- another part
pub numbered_more : (parts : List (List ℕ)) (count : ℕ) (old new : List (Option ℕ)) → AreDisjoint parts → count < length parts → AreNumbered parts count old
    → ((row : ℕ) → IsIn row (slice_index_or parts count []) → number_at new row ≡ Some count) → ((row : ℕ) → ¬ (IsIn row (slice_index_or parts count [])) → number_at new row ≡ number_at old row)
    → AreNumbered parts (count + 1) new
numbered_more parts count old new disjoint l so inside outside = record {
  inside = λ a row m h. into a row h (cases_lt a count) m;
  only = λ a row e. from a row e (in_or_not row (slice_index_or parts count []));
}
  where
    into : (a row : ℕ) → IsIn row (slice_index_or parts a []) → (a < count) ⊎ (count ≤ a) → a < count + 1 → number_at new row ≡ Some a
    into a row h (inl m) k = outside row (λ g. apart (disjoint a count row (omega arith) l h g)) ∙ so.inside a row m h
      where
        apart : a ≡ count → ⊥
        apart e = absurd (omega arith)
    into a row h (inr m) k =
        let e : a ≡ count = omega arith in
        inside row (subst (λ (z : ℕ). IsIn row (slice_index_or parts z [])) e h) ∙ ap (λ (z : ℕ). Some z) (sym e)

    from : (a row : ℕ) → number_at new row ≡ Some a → IsIn row (slice_index_or parts count []) ⊎ (¬ (IsIn row (slice_index_or parts count []))) → (a < count + 1) × IsIn row (slice_index_or parts a [])
    from a row e (inl h) =
        let q = same_number (number_at new row) count a (inside row h) e in
        (omega arith, subst (λ (z : ℕ). IsIn row (slice_index_or parts z [])) q h)
    from a row e (inr n) = let k = so.only a row (sym (outside row n) ∙ e) in let m = k.0 in (omega arith, k.1)

-- another row of the row with a part
pub rows_more : (In : ℕ → Type 0) (row : ℕ) (rows : List ℕ) → ((x : ℕ) → IsIn x rows ↔ ((x < row) × In x)) → In row → (x : ℕ) → IsIn x (rows ++ row ∷ []) ↔ ((x < row + 1) × In x)
rows_more In row rows so here x = (λ h. to ((in-append rows row x).0 h), λ h. (in-append rows row x).1 (from h.1 (cases_lt x row) h.0))
  where
    to : IsIn x rows ⊎ (x ≡ row) → (x < row + 1) × In x
    to (inl h) = let k = (so x).0 h in let l = k.0 in (omega arith, k.1)
    to (inr e) = (omega arith, subst In (sym e) here)

    from : In x → (x < row) ⊎ (row ≤ x) → x < row + 1 → IsIn x rows ⊎ (x ≡ row)
    from h (inl l) m = inl ((so x).1 (l, h))
    from h (inr l) m = inr (omega arith)

pub rows_same : (In : ℕ → Type 0) (row : ℕ) (rows : List ℕ) → ((x : ℕ) → IsIn x rows ↔ ((x < row) × In x)) → ¬ (In row) → (x : ℕ) → IsIn x rows ↔ ((x < row + 1) × In x)
rows_same In row rows so none x = (λ h. let k = (so x).0 h in let l = k.0 in (omega arith, k.1), λ h. (so x).1 (below h.1 (cases_lt x row) h.0, h.1))
  where
    below : In x → (x < row) ⊎ (row ≤ x) → x < row + 1 → x < row
    below h (inl l) m = l
    below h (inr l) m = let e : x ≡ row = omega arith in absurd (none (subst In e h))

-- a row with a number is a row of a part
pub numbered_row : (i size : ℕ) (numbers : List (Option ℕ)) (part count x : ℕ) → i < size → size ≤ count → length numbers ≤ count → (x ≡ i) ⊎ (number_at numbers x ≡ Some part) → x < count
numbered_row i size numbers part count x l s e (inl h) = omega arith
numbered_row i size numbers part count x l s e (inr h) = go (cases_lt x count)
  where
    go : (x < count) ⊎ (count ≤ x) → x < count
    go (inl m) = m
    go (inr m) = absurd (no_number (number_at numbers x) part (get_or_past numbers x None (omega arith)) h)

-- ---- marks of lines by their numbers

-- the lines below `upto` are marked
pub record IsMarkedTo (numbers : List (Option ℕ)) (count upto : ℕ) (marks : Grid) : Type 0 where
  pub tall : marks.height ≡ count
  pub wide : marks.width ≡ length numbers
  pub done : (part line : ℕ) → part < count → line < upto → cell marks part line ≡ is_part part (number_at numbers line)
  pub left : (part line : ℕ) → upto ≤ line → cell marks part line ≡ false

pub none_marked : (numbers : List (Option ℕ)) (count : ℕ) (marks : Grid) → marks.height ≡ count → marks.width ≡ length numbers
    → ((part line : ℕ) → cell marks part line ≡ false) → IsMarkedTo numbers count 0 marks
none_marked numbers count marks tall wide none = record { tall = tall; wide = wide; done = λ part line l m. absurd (omega arith); left = λ part line l. none part line }

pub marked_more : (numbers : List (Option ℕ)) (count line number : ℕ) (old new : Grid) → number_at numbers line ≡ Some number
    → IsMarkedTo numbers count line old → IsCellSet old new number line true → IsMarkedTo numbers count (line + 1) new
marked_more numbers count line number old new e so s = record {
  tall = s.rows.height ∙ so.tall;
  wide = s.rows.width ∙ so.wide;
  done = λ part at l m. at_line part at l (same_or_not part number) (cases_lt at line) m;
  left = λ part at l. stays part at (same_or_not part number) (λ q. absurd (omega arith)) ∙ so.left part at (omega arith);
}
  where
    stays : (part at : ℕ) → (part ≡ number) ⊎ (part ≢ number) → at ≢ line → cell new part at ≡ cell old part at
    stays part at (inl f) n = ap (λ (p : ℕ). cell new p at) f ∙ s.others at n ∙ sym (ap (λ (p : ℕ). cell old p at) f)
    stays part at (inr n) m = s.rows.others part at n

    at_line : (part at : ℕ) → part < count → (part ≡ number) ⊎ (part ≢ number) → (at < line) ⊎ (line ≤ at) → at < line + 1 → cell new part at ≡ is_part part (number_at numbers at)
    at_line part at l q (inl m) k = stays part at q (λ f. absurd (omega arith)) ∙ so.done part at l m
    at_line part at l (inl f) (inr m) k =
        let g : at ≡ line = omega arith in
        ap (cell new part) g ∙ ap (λ (p : ℕ). cell new p line) f ∙ s.here
        ∙ sym (ap (λ (x : ℕ). is_part part (number_at numbers x)) g ∙ ap (is_part part) e ∙ is_eq number part (sym f))
    at_line part at l (inr n) (inr m) k =
        let g : at ≡ line = omega arith in
        s.rows.others part at n ∙ so.left part at m
        ∙ sym (ap (λ (x : ℕ). is_part part (number_at numbers x)) g ∙ ap (is_part part) e ∙ is_ne number part (λ h. n (sym h)))

pub marked_none : (numbers : List (Option ℕ)) (count line : ℕ) (marks : Grid) → number_at numbers line ≡ None → IsMarkedTo numbers count line marks → IsMarkedTo numbers count (line + 1) marks
marked_none numbers count line marks e so = record {
  tall = so.tall;
  wide = so.wide;
  done = λ part at l m. go part at l (cases_lt at line) m;
  left = λ part at l. so.left part at (omega arith);
}
  where
    go : (part at : ℕ) → part < count → (at < line) ⊎ (line ≤ at) → at < line + 1 → cell marks part at ≡ is_part part (number_at numbers at)
    go part at l (inl m) k = so.done part at l m
    go part at l (inr m) k = let g : at ≡ line = omega arith in so.left part at m ∙ sym (ap (λ (x : ℕ). is_part part (number_at numbers x)) g ∙ ap (is_part part) e)

pub all_marked : (numbers : List (Option ℕ)) (count upto : ℕ) (marks : Grid) → length numbers ≤ upto → IsMarkedTo numbers count upto marks → ArePartMarks numbers count marks
all_marked numbers count upto marks l so = record { tall = so.tall; wide = so.wide; exact = λ part line m k. so.done part line m (omega arith) }

-- the part of a column is one of the parts
pub named_number : (M : ℕ → ℕ → Bool) (i : ℕ) (parts : List (List ℕ)) (count column part : ℕ) (found : Option ℕ) → IsPartNumber M i parts count column found → found ≡ Some part → part < count
named_number M i parts count column part found so e = go so
  where
    go : IsPartNumber M i parts count column found → part < count
    go (inl h) = absurd (no_number found part h.1 e)
    go (inr (a, r, l, hr, off, on, f)) = let q = same_number found a part f e in omega arith
