-- The tests of cuts, and their table.
use Rattle.std.proofs.Common.{ℕ, ◌+◌, ◌*◌, Bool, true, false, List, [], ◌∷◌, ◌++◌, ◌≡◌, ◌<◌, ◌∙◌, sym, refl, arith, subst, ◌⊎◌, inl, inr, length, get_or, ◌&&◌}
use Rattle.std.proofs.lemmas.Bool.{cases_lt}
use Rattle.std.proofs.lemmas.List.{get_or_append_left}
use Rattle.std.proofs.lemmas.Nat.{mul-add-lt}
use Rattle.std.proofs.Math.Seq.{get_or-append_seam}
use Rattle.cmr_base.specs.Splits.{IsUncut, IsUncutBy, Agree}
use Rattle.cmr_base.proofs.Booleans.{and_is, is_and}
use Rattle.cmr_base.proofs.Lists.{length-more}
use Rattle.cmr_base.specs.ColumnSets.{has_column, Denies, IsApart, IsWithin}
use Rattle.bridge_split.specs.Cutting.{AreCommonColumns, IsUncutIn, AreUncutIn, rows_at_part, IsCutTable, HasCutsOfParts, disagree}

module _ (M : ℕ → ℕ → Bool) where
  -- the columns of a row as a set
  pub uncut_sets : (columns words : List ℕ) (j : ℕ) → ((column : ℕ) → has_column words column ≡ M j column) → IsWithin columns words ⊎ IsApart columns words → IsUncutIn M (has_column columns) j
  uncut_sets columns words j row (inl w) = inl (λ column e. sym (row column) ∙ w column e)
  uncut_sets columns words j row (inr w) = inr (λ column e. sym (row column) ∙ w column e)

  pub sets_uncut : (columns words : List ℕ) (j : ℕ) → ((column : ℕ) → has_column words column ≡ M j column) → IsUncutIn M (has_column columns) j → IsWithin columns words ⊎ IsApart columns words
  sets_uncut columns words j row (inl w) = inl (λ column e. row column ∙ w column e)
  sets_uncut columns words j row (inr w) = inr (λ column e. row column ∙ w column e)

  -- ---- the table

  pub line_starts : (columns : ℕ → Bool) (parts : List (List ℕ)) (before : List Bool) → HasCutsOfParts M columns parts 0 before before
  line_starts columns parts before = record { size = omega arith; same = λ k l. refl; right = λ b l. absurd (omega arith) }

  pub line_more : (columns : ℕ → Bool) (parts : List (List ℕ)) (upto : ℕ) (before cuts cuts' : List Bool) (b : Bool) → HasCutsOfParts M columns parts upto before cuts → cuts' ≡ cuts ++ b ∷ []
      → Denies b (AreUncutIn M columns (rows_at_part parts upto)) → HasCutsOfParts M columns parts (upto + 1) before cuts'
  line_more columns parts upto before cuts cuts' b w e here = rw e (record {
    size = let s = w.size in let l = length-more cuts b in omega arith;
    same = λ k l. get_or_append_left cuts (b ∷ []) false k (let s = w.size in omega arith) ∙ w.same k l;
    right = λ a l. elim (cases_lt a upto) [
      | inl lt ↦ subst (λ (t : Bool). Denies t (AreUncutIn M columns (rows_at_part parts a))) (sym (get_or_append_left cuts (b ∷ []) false (length before + a) (let s = w.size in omega arith))) (w.right a lt)
      | inr ge ↦ let q : a ≡ upto = omega arith in
          let p : length before + a ≡ length cuts = let s = w.size in omega arith in
          subst (λ (z : ℕ). Denies (get_or (cuts ++ b ∷ []) z false) (AreUncutIn M columns (rows_at_part parts a))) (sym p)
          (subst (λ (t : Bool). Denies t (AreUncutIn M columns (rows_at_part parts a))) (sym (get_or-append_seam cuts b [] false))
          (subst (λ (z : ℕ). Denies b (AreUncutIn M columns (rows_at_part parts z))) (sym q) here))
    ];
  })

  pub denied : (t : Bool) (P Q : Type 0) → (P → Q) → (Q → P) → Denies t P → Denies t Q
  denied true P Q f g n = λ q. n (g q)
  denied false P Q f g p = f p

  pub uncut_by : (i : ℕ) (Q P : List ℕ) (columns : ℕ → Bool) → AreCommonColumns M i Q columns → AreUncutIn M columns P → IsUncutBy M i Q P
  uncut_by i Q P columns same all j h = go (all j h)
    where
      go : IsUncutIn M columns j → IsUncut M i Q j
      go (inl f) = inl (λ column c. f column ((same column).1 c))
      go (inr f) = inr (λ column c. f column ((same column).1 c))

  pub by_uncut : (i : ℕ) (Q P : List ℕ) (columns : ℕ → Bool) → AreCommonColumns M i Q columns → IsUncutBy M i Q P → AreUncutIn M columns P
  by_uncut i Q P columns same all j h = go (all j h)
    where
      go : IsUncut M i Q j → IsUncutIn M columns j
      go (inl f) = inl (λ column c. f column ((same column).0 c))
      go (inr f) = inr (λ column c. f column ((same column).0 c))

  module _ (i : ℕ) (parts : List (List ℕ)) where
    pub table_starts : (cuts : List Bool) → cuts ≡ [] → IsCutTable M i parts 0 cuts
    table_starts cuts e = rw e (record { size = omega arith; right = λ a b l. absurd (omega arith) })

    pub table_more : (upto : ℕ) (columns : ℕ → Bool) (cuts cuts' : List Bool) → IsCutTable M i parts upto cuts → HasCutsOfParts M columns parts (length parts) cuts cuts'
        → AreCommonColumns M i (rows_at_part parts upto) columns → IsCutTable M i parts (upto + 1) cuts'
    table_more upto columns cuts cuts' w h common = record {
      size = let s = w.size in let t = h.size in omega arith;
      right = λ a b l m. elim (cases_lt a upto) [
        | inl lt ↦
            let k : a * length parts + b < length cuts = let s = w.size in let t = mul-add-lt a (length parts) b upto lt m in omega arith in
            subst (λ (t : Bool). Denies t (IsUncutBy M i (rows_at_part parts a) (rows_at_part parts b))) (sym (h.same (a * length parts + b) k)) (w.right a b lt m)
        | inr ge ↦
            let q : a ≡ upto = omega arith in
            let p : upto * length parts + b ≡ length cuts + b = let s = w.size in omega arith in
            subst (λ (z : ℕ). Denies (get_or cuts' (z * length parts + b) false) (IsUncutBy M i (rows_at_part parts z) (rows_at_part parts b))) (sym q)
            (subst (λ (z : ℕ). Denies (get_or cuts' z false) (IsUncutBy M i (rows_at_part parts upto) (rows_at_part parts b))) (sym p)
            (denied (get_or cuts' (length cuts + b) false) (AreUncutIn M columns (rows_at_part parts b)) (IsUncutBy M i (rows_at_part parts upto) (rows_at_part parts b))
            (uncut_by i (rows_at_part parts upto) (rows_at_part parts b) columns common) (by_uncut i (rows_at_part parts upto) (rows_at_part parts b) columns common) (h.right b m)))
      ];
    }

    -- the entries of the table for two parts
    module _ (cuts : List Bool) (w : IsCutTable M i parts (length parts) cuts) (a b : ℕ) (la : a < length parts) (lb : b < length parts) where
      pub disagree_true : disagree cuts (length parts) a b ≡ true → ¬ (Agree M i (rows_at_part parts a) (rows_at_part parts b))
      disagree_true e = go (get_or cuts (a * length parts + b) false) (get_or cuts (b * length parts + a) false) e (w.right a b la lb) (w.right b a lb la)
        where
          go : (s t : Bool) → (s && t) ≡ true → Denies s (IsUncutBy M i (rows_at_part parts a) (rows_at_part parts b))
              → Denies t (IsUncutBy M i (rows_at_part parts b) (rows_at_part parts a)) → ¬ (Agree M i (rows_at_part parts a) (rows_at_part parts b))
          go true true e n m = λ g. elim g [ inl u ↦ m u | inr u ↦ n u ]
          go true false e n m = cc
          go false t e n m = cc

      pub disagree_false : disagree cuts (length parts) a b ≡ false → Agree M i (rows_at_part parts a) (rows_at_part parts b)
      disagree_false e = go (get_or cuts (a * length parts + b) false) (get_or cuts (b * length parts + a) false) e (w.right a b la lb) (w.right b a lb la)
        where
          go : (s t : Bool) → (s && t) ≡ false → Denies s (IsUncutBy M i (rows_at_part parts a) (rows_at_part parts b))
              → Denies t (IsUncutBy M i (rows_at_part parts b) (rows_at_part parts a)) → Agree M i (rows_at_part parts a) (rows_at_part parts b)
          go true true e n m = cc
          go true false e n m = inl m
          go false t e n m = inr n

-- disagreement is symmetric
pub disagree_back : (cuts : List Bool) (count a b : ℕ) → disagree cuts count a b ≡ true → disagree cuts count b a ≡ true
disagree_back cuts count a b e =
    let both = and_is (get_or cuts (a * count + b) false) (get_or cuts (b * count + a) false) e in
    is_and (get_or cuts (b * count + a) false) (get_or cuts (a * count + b) false) both.1 both.0
