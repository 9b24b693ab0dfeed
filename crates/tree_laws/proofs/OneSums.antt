-- Nodes whose children are parts with no nonzero between them.
use Rattle.std.proofs.Common.{◌≡◌, ◌≢◌, ◌<◌, ◌+◌, ◌∙◌, ◌&&◌, ◌||◌, inl, inr, ℕ, zero, suc, pos, Bool, true, false, cond, int_eq, List, [], ◌∷◌, length, Contains, refl, ap, sym, arith}
use Rattle.std.specs.List.{AllByRecursion, list_any, count_by}
use Rattle.std.proofs.lemmas.List.Sums.{sum_by-cons}
use Rattle.std.proofs.lemmas.Bool.Decides.{Decides-int_eq}
use Rattle.cmr_base.specs.declared.line_set.LineSet.{LineSet}
use Rattle.cmr_base.specs.Matrix.{Matrix, entry}
use Rattle.tree_type.specs.Sides.{is_among}
use Rattle.cmr_base.proofs.Lists.{all_contained}
use Rattle.cmr_base.proofs.ListsWithout.{true_is_false}
use Rattle.cmr_base.proofs.ThinLines.{and_is}
use Rattle.cmr_base.proofs.Booleans.{or_is}
use Rattle.ghouila.proofs.ViolatedLines.{FreeIn, narrower}
use Rattle.tree_type.specs.Soundness.{AreApart}
use Rattle.tree_type.proofs.Among.{among_contains}
use Rattle.tree_laws.proofs.FreeSets.{IsFreeOn}
use Rattle.tree_laws.proofs.NumberedParts.{free_from_parts}

-- the first child that passes
abbrev index_of : (LineSet → Bool) → List LineSet → ℕ
index_of test [] = 0
index_of test (child ∷ children) = cond (test child) 0 (suc (index_of test children))

pub counted : (test : LineSet → Bool) (child : LineSet) (children : List LineSet) → count_by test (child ∷ children) ≡ cond (test child) 1 0 + count_by test children
counted test child children = sum_by-cons (λ x. cond (test x) 1 0) child children

none_first : (n k : ℕ) → 0 + n ≡ k → n ≡ k
none_first n k e = omega (arith, e)

none_passes : (test : LineSet → Bool) (children : List LineSet) → count_by test children ≡ 0 → list_any test children ≡ true → ⊥
none_passes test [] e h = true_is_false (sym h)
none_passes test (child ∷ children) e h = go (test child) refl (sym (counted test child children) ∙ e) h (λ f g. none_passes test children f g)
  where
    go : (b : Bool) → test child ≡ b → cond (test child) 1 0 + count_by test children ≡ 0 → (test child || list_any test children) ≡ true
        → (count_by test children ≡ 0 → list_any test children ≡ true → ⊥) → ⊥
    go true t e h k = absurd (clash (rw t at e))
      where
        clash : 1 + count_by test children ≡ 0 → ⊥
        clash e = omega (arith, e)
    go false t e h k = k (none_first (count_by test children) 0 (rw t at e)) (rw t at h)

one_passes : (test : LineSet → Bool) (children : List LineSet) → count_by test children ≡ 1 → list_any test children ≡ true
one_passes test [] e = absurd (omega (arith, e))
one_passes test (child ∷ children) e = go (test child) refl (sym (counted test child children) ∙ e) (λ f. one_passes test children f)
  where
    go : (b : Bool) → test child ≡ b → cond (test child) 1 0 + count_by test children ≡ 1 → (count_by test children ≡ 1 → list_any test children ≡ true) → (test child || list_any test children) ≡ true
    go true t e k = rw t refl
    go false t e k = rw t (k (none_first (count_by test children) 1 (rw t at e)))

index_below : (test : LineSet → Bool) (children : List LineSet) → list_any test children ≡ true → index_of test children < length children
index_below test [] h = true_is_false (sym h)
index_below test (child ∷ children) h = go (test child) refl h (λ f. index_below test children f)
  where
    go : (b : Bool) → test child ≡ b → (test child || list_any test children) ≡ true
        → (list_any test children ≡ true → index_of test children < length children)
        → cond (test child) 0 (suc (index_of test children)) < suc (length children)
    go true t h k = rw t (omega arith)
    go false t h k = rw t (let l = k (rw t at h) in omega (arith, l))

weaker_any : (p q : LineSet → Bool) (children : List LineSet) → list_any (λ x. p x && q x) children ≡ true → (list_any p children ≡ true) × (list_any q children ≡ true)
weaker_any p q [] h = true_is_false (sym h)
weaker_any p q (child ∷ children) h = elim (or_is (p child && q child) (list_any (λ x. p x && q x) children) h) [
  | inl e ↦ let w = and_is (p child) (q child) e in (rw w.0 refl, rw w.1 refl)
  | inr e ↦ let w = weaker_any p q children e in (any_later p w.0, any_later q w.1)
]
  where
    any_later : (test : LineSet → Bool) → list_any test children ≡ true → (test child || list_any test children) ≡ true
    any_later test e = go (test child) e
      where
        go : (b : Bool) → list_any test children ≡ true → (b || list_any test children) ≡ true
        go true e = refl
        go false e = e

-- if each of two tests is passed by exactly one child, and some child passes both, it is the same child
same_index : (p q : LineSet → Bool) (children : List LineSet) → count_by p children ≡ 1 → count_by q children ≡ 1 → list_any (λ x. p x && q x) children ≡ true
    → index_of p children ≡ index_of q children
same_index p q [] e f h = refl
same_index p q (child ∷ children) e f h =
    go (p child) (q child) refl refl (sym (counted p child children) ∙ e) (sym (counted q child children) ∙ f) h (λ a b c. same_index p q children a b c)
  where
    go : (a b : Bool) → p child ≡ a → q child ≡ b → cond (p child) 1 0 + count_by p children ≡ 1 → cond (q child) 1 0 + count_by q children ≡ 1
        → ((p child && q child) || list_any (λ x. p x && q x) children) ≡ true
        → (count_by p children ≡ 1 → count_by q children ≡ 1 → list_any (λ x. p x && q x) children ≡ true → index_of p children ≡ index_of q children)
        → cond (p child) 0 (suc (index_of p children)) ≡ cond (q child) 0 (suc (index_of q children))
    go true true t u e f h k = rw (t, u) refl
    go false false t u e f h k = rw (t, u) (ap suc (k (none_first (count_by p children) 1 (rw t at e)) (none_first (count_by q children) 1 (rw u at f)) (rw t at h)))
    go true false t u e f h k = absurd (none_passes p children (less (rw t at e)) (weaker_any p q children (rw (t, u) at h)).0)
      where
        less : 1 + count_by p children ≡ 1 → count_by p children ≡ 0
        less e = omega (arith, e)
    go false true t u e f h k = absurd (none_passes q children (less (rw u at f)) (weaker_any p q children (rw t at h)).1)
      where
        less : 1 + count_by q children ≡ 1 → count_by q children ≡ 0
        less e = omega (arith, e)

-- lines of one child contain no violator if the child contains none
at_child : (m : Matrix) (children : List LineSet) → AllByRecursion (IsFreeOn m) children → (part : ℕ) → part < length children → (P Q : ℕ → Type 0)
    → ((r : ℕ) → P r → (list_any (λ child. is_among child.rows r) children ≡ true) × (index_of (λ child. is_among child.rows r) children ≡ part))
    → ((c : ℕ) → Q c → (list_any (λ child. is_among child.columns c) children ≡ true) × (index_of (λ child. is_among child.columns c) children ≡ part)) → FreeIn (entry m) P Q
at_child m [] free part l P Q rows columns = absurd (omega (arith, l))
at_child m (child ∷ children) free zero l P Q rows columns =
    narrower (entry m) (Contains child.rows) (Contains child.columns) P Q
    (λ r h. among_contains child.rows r (at_first (λ x. is_among x.rows r) (rows r h).1)) (λ c h. among_contains child.columns c (at_first (λ x. is_among x.columns c) (columns c h).1)) free.0
  where
    at_first : (test : LineSet → Bool) → cond (test child) 0 (suc (index_of test children)) ≡ 0 → test child ≡ true
    at_first test e = go (test child) refl e
      where
        go : (b : Bool) → test child ≡ b → cond b 0 (suc (index_of test children)) ≡ 0 → test child ≡ true
        go true t e = t
        go false t e = absurd (omega (arith, e))
at_child m (child ∷ children) free (suc part) l P Q rows columns =
    at_child m children free.1 part (omega (arith, l)) P Q (λ r h. at_later (λ x. is_among x.rows r) (rows r h)) (λ c h. at_later (λ x. is_among x.columns c) (columns c h))
  where
    at_later : (test : LineSet → Bool) → ((test child || list_any test children) ≡ true) × (cond (test child) 0 (suc (index_of test children)) ≡ suc part)
        → (list_any test children ≡ true) × (index_of test children ≡ part)
    at_later test w = go (test child) w.0 w.1
      where
        go : (b : Bool) → (b || list_any test children) ≡ true → cond b 0 (suc (index_of test children)) ≡ suc part → (list_any test children ≡ true) × (index_of test children ≡ part)
        go true h e = absurd (omega (arith, e))
        go false h e = (h, omega (arith, e))

pub free_apart : (m : Matrix) (lines : LineSet) (children : List LineSet) → AreApart (entry m) lines children → AllByRecursion (IsFreeOn m) children → IsFreeOn m lines
free_apart m lines children apart free =
    free_from_parts (entry m) (Contains lines.rows) (Contains lines.columns) row_part column_part (length children)
    (λ r h. index_below (has_row r) children (one_passes (has_row r) children (one_row r h)))
    (λ c h. index_below (has_column c) children (one_passes (has_column c) children (one_column c h)))
    (λ r c h k d. zero_between r c h k d (int_eq (entry m r c) (pos 0)) refl)
    (λ part l. at_child m children free part l (λ r. Contains lines.rows r × (row_part r ≡ part)) (λ c. Contains lines.columns c × (column_part c ≡ part))
    (λ r h. (one_passes (has_row r) children (one_row r h.0), h.1)) (λ c h. (one_passes (has_column c) children (one_column c h.0), h.1)))
  where
    has_row : ℕ → LineSet → Bool
    has_row r child = is_among child.rows r

    has_column : ℕ → LineSet → Bool
    has_column c child = is_among child.columns c

    row_part : ℕ → ℕ
    row_part r = index_of (has_row r) children

    column_part : ℕ → ℕ
    column_part c = index_of (has_column c) children

    one_row : (r : ℕ) → Contains lines.rows r → count_by (has_row r) children ≡ 1
    one_row r h = all_contained (λ row. count_by (has_row row) children ≡ 1) lines.rows r apart.rows h

    one_column : (c : ℕ) → Contains lines.columns c → count_by (has_column c) children ≡ 1
    one_column c h = all_contained (λ column. count_by (has_column column) children ≡ 1) lines.columns c apart.columns h

    zero_between : (r c : ℕ) → Contains lines.rows r → Contains lines.columns c → row_part r ≢ column_part c → (b : Bool) → int_eq (entry m r c) (pos 0) ≡ b → entry m r c ≡ pos 0
    zero_between r c h k d true e = (Decides-int_eq (entry m r c) (pos 0)).0 e
    zero_between r c h k d false e = absurd (d (same_index (has_row r) (has_column c) children (one_row r h) (one_column c k)
        (apart.nonzeros r c h k (λ z. true_is_false (sym ((Decides-int_eq (entry m r c) (pos 0)).1 z) ∙ e)))))
