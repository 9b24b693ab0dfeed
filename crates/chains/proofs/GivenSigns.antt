-- The effect of another sign: unchanged signs, and newly linked lines.
use Rattle.std.proofs.Common.{◌≡◌, ◌≢◌, ◌∙◌, ◌<◌, ◌⊎◌, ◌+◌, ◌++◌, ℕ, suc, ℤ, pos, Bool, true, false, cond, nat_eq, List, [], ◌∷◌, length, get_or, set, inl, inr, refl, sym, ap, subst, arith}
use Rattle.std.proofs.lemmas.List.{length-set, get_or-set_same, get_or-set_other}
use Rattle.cmr_base.specs.Matrix.{Matrix, height, row_of, entry, with_entry, IsEntry, IsRectangular}
use Rattle.cmr_base.specs.Signing.{IsSign}
use Rattle.cmr_base.specs.declared.line.Line.{Line}
use Rattle.cmr_base.specs.declared.line.Line.TheVariants.{Row, Column}
use Rattle.cmr_base.proofs.Entries.{height-with_entry, entry-with_entry_other_column, entry-with_entry_other_row}
use Rattle.cmr_base.proofs.RowLists.{same_or_not, is_eq, eq_of}
use Rattle.cmr_base.proofs.SignEntries.{sign_is_entry}
use Rattle.ghouila.proofs.SignProducts.{sign_nonzero}
use Rattle.ghouila.proofs.SignsUnique.{row_in, column_in}
use Rattle.chains.specs.declared.step.SignStep.{SignStep}
use Rattle.chains.specs.SignSteps.{AreSigns, LeadTo, signed_by}
use Rattle.chains.specs.Chains.{AreJoined, JoinsTo, AreLinked}

-- another sign
pub record HasOneMore (s t : Matrix) (r c : ℕ) (v : ℤ) : Type 0 where
  pub here : entry t r c ≡ v
  pub other : (i j : ℕ) → (i ≢ r) ⊎ (j ≢ c) → entry t i j ≡ entry s i j

-- one more step
pub lead_more : (Rule : Matrix → SignStep → ℤ → Type 0) (s end : Matrix) (steps : List SignStep) (step : SignStep) (v : ℤ) → LeadTo Rule s steps end
    → Rule end step v → LeadTo Rule s (steps ++ step ∷ []) (signed_by end step v)
lead_more Rule s end [] step v e rule = subst (λ x. LeadTo Rule x (step ∷ []) (signed_by end step v)) (sym e) (v, rule, refl)
lead_more Rule s end (x ∷ steps) step v (w, first, rest) rule = (w, first, lead_more Rule (signed_by s x w) end steps step v rest rule)

pub here_or : (i j r c : ℕ) → ((i ≡ r) × (j ≡ c)) ⊎ ((i ≢ r) ⊎ (j ≢ c))
here_or i j r c = elim (same_or_not i r) [ inr d ↦ inr (inl d) | inl e ↦ elim (same_or_not j c) [ inr d ↦ inr (inr d) | inl f ↦ inl (e, f) ] ]

module _ (a s : Matrix) (rectangular : IsRectangular a) (signs : AreSigns a s) (r c : ℕ) (v : ℤ) (one : entry a r c ≢ pos 0) where
  row_inside : r < height s
  row_inside = let l = row_in a r c one in let e = signs.same_height in omega arith

  column_inside : c < s.width
  column_inside = let l = column_in a r c rectangular one in let e = signs.same_width in omega arith

  changed : row_of (with_entry s r c v) r ≡ set (row_of s r) c v
  changed = get_or-set_same s.rows r (set (row_of s r) c v) [] row_inside

  long : length (row_of s r) ≡ s.width
  long = signs.ternary.rectangular r row_inside

  pub one_more : HasOneMore s (with_entry s r c v) r c v
  one_more = record { here = ap (λ row. get_or row c (pos 0)) changed ∙ get_or-set_same (row_of s r) c v (pos 0) (let l = column_inside in let e = long in omega arith); other = other }
    where
      other : (i j : ℕ) → (i ≢ r) ⊎ (j ≢ c) → entry (with_entry s r c v) i j ≡ entry s i j
      other i j (inl d) = entry-with_entry_other_row s r c v i j d
      other i j (inr d) = elim (same_or_not i r) [
        | inl e ↦ subst (λ k. entry (with_entry s r c v) k j ≡ entry s k j) (sym e) (entry-with_entry_other_column s r c v row_inside j d)
        | inr e ↦ entry-with_entry_other_row s r c v i j e
      ]

  still_rectangular : IsRectangular (with_entry s r c v)
  still_rectangular i l = elim (same_or_not i r) [
    | inl e ↦ ap (λ k. length (row_of (with_entry s r c v) k)) e ∙ ap length changed ∙ length-set (row_of s r) c v ∙ long
    | inr d ↦ ap length (get_or-set_other s.rows r i (set (row_of s r) c v) [] d) ∙ signs.ternary.rectangular i (omega (arith, height-with_entry s r c v))
  ]

  still_small : IsSign v → (i j : ℕ) → IsEntry (entry (with_entry s r c v) i j)
  still_small u i j = elim (here_or i j r c) [
    | inl w ↦ subst (λ x. IsEntry (entry (with_entry s r c v) x j)) (sym w.0) (subst (λ y. IsEntry (entry (with_entry s r c v) r y)) (sym w.1) (subst IsEntry (sym one_more.here) (sign_is_entry v u)))
    | inr d ↦ subst IsEntry (sym (one_more.other i j d)) (signs.ternary.small i j)
  ]

  pub signs_more : IsSign v → AreSigns a (with_entry s r c v)
  signs_more u = record {
    ternary = record { rectangular = still_rectangular; small = still_small u };
    same_height = height-with_entry s r c v ∙ signs.same_height;
    same_width = signs.same_width;
    inside = λ i j z. elim (here_or i j r c) [
      | inl w ↦ absurd (one (subst (λ x. entry a x c ≡ pos 0) w.0 (subst (λ y. entry a i y ≡ pos 0) w.1 z)))
      | inr d ↦ one_more.other i j d ∙ signs.inside i j z
    ];
  }

module _ (s t : Matrix) (r c : ℕ) (v : ℤ) (u : IsSign v) (more : HasOneMore s t r c v) where
  pub keeps : (i j : ℕ) → entry s i j ≢ pos 0 → entry t i j ≢ pos 0
  keeps i j h e = elim (here_or i j r c) [
    | inl w ↦ sign_nonzero v u (sym more.here ∙ ap (λ x. entry t x c) (sym w.0) ∙ ap (λ y. entry t i y) (sym w.1) ∙ e)
    | inr d ↦ h (sym (more.other i j d) ∙ e)
  ]

-- ---- labels of the lines: equal if signed entries link the lines

pub record Labels (s : Matrix) : Type 0 where
  pub label : Line → ℕ
  pub joins : (i j : ℕ) → entry s i j ≢ pos 0 → label (Row i) ≡ label (Column j)
  pub links : (x y : Line) → label x ≡ label y → AreLinked s x y

pub joined_on : (s : Matrix) (lines : List Line) (x y z : Line) → JoinsTo s x lines y → AreLinked s y z → AreLinked s x z
joined_on s [] x y z e w = subst (λ l. AreLinked s l z) (sym e) w
joined_on s (k ∷ lines) x y z (j, rest) w = let v = joined_on s lines k y z rest w in (k ∷ v.0, (j, v.1))

joined_more : (s t : Matrix) → ((i j : ℕ) → entry s i j ≢ pos 0 → entry t i j ≢ pos 0) → (x y : Line) → AreJoined s x y → AreJoined t x y
joined_more s t h (Row i) (Row k) g = g
joined_more s t h (Row i) (Column j) g = h i j g
joined_more s t h (Column j) (Row i) g = h i j g
joined_more s t h (Column j) (Column k) g = g

pub links_more : (s t : Matrix) → ((i j : ℕ) → entry s i j ≢ pos 0 → entry t i j ≢ pos 0) → (lines : List Line) (x y : Line) → JoinsTo s x lines y → JoinsTo t x lines y
links_more s t h [] x y e = e
links_more s t h (k ∷ lines) x y (j, rest) = (joined_more s t h x k j, links_more s t h lines k y rest)

pub no_labels : (s : Matrix) → ((i j : ℕ) → entry s i j ≡ pos 0) → Labels s
no_labels s zeros = record { label = label; joins = λ i j h. absurd (h (zeros i j)); links = λ x y e. ([], same x y e) }
  where
    label : Line → ℕ
    label (Row i) = i + i
    label (Column j) = suc (j + j)

    same : (x y : Line) → label x ≡ label y → x ≡ y
    same (Row i) (Row k) e = let q : i ≡ k = omega arith in ap Row q
    same (Row i) (Column j) e = absurd (omega arith)
    same (Column j) (Row i) e = absurd (omega arith)
    same (Column j) (Column k) e = let q : j ≡ k = omega arith in ap Column q

module _ (s t : Matrix) (r c : ℕ) (v : ℤ) (u : IsSign v) (more : HasOneMore s t r c v) (w : Labels s) where
  new_label : Line → ℕ
  new_label x = cond (nat_eq (w.label x) (w.label (Column c))) (w.label (Row r)) (w.label x)

  edge : entry t r c ≢ pos 0
  edge e = sign_nonzero v u (sym more.here ∙ e)

  at_row : new_label (Row r) ≡ w.label (Row r)
  unfolding new_label
  at_row = go (nat_eq (w.label (Row r)) (w.label (Column c)))
    where
      go : (b : Bool) → cond b (w.label (Row r)) (w.label (Row r)) ≡ w.label (Row r)
      go true = refl
      go false = refl

  at_column : new_label (Column c) ≡ w.label (Row r)
  unfolding new_label
  at_column = ap (λ b. cond b (w.label (Row r)) (w.label (Column c))) (is_eq (w.label (Column c)) (w.label (Column c)) refl)

  new_joins : (i j : ℕ) → entry t i j ≢ pos 0 → new_label (Row i) ≡ new_label (Column j)
  unfolding new_label
  new_joins i j h = elim (here_or i j r c) [
    | inl p ↦ ap (λ x. new_label (Row x)) p.0 ∙ at_row ∙ sym at_column ∙ sym (ap (λ y. new_label (Column y)) p.1)
    | inr d ↦ ap (λ l. cond (nat_eq l (w.label (Column c))) (w.label (Row r)) l) (w.joins i j (λ e. h (more.other i j d ∙ e)))
  ]

  old_links : (x y : Line) → w.label x ≡ w.label y → AreLinked t x y
  old_links x y e = let l = w.links x y e in (l.0, links_more s t (keeps s t r c v u more) l.0 x y l.1)

  new_links : (x y : Line) → new_label x ≡ new_label y → AreLinked t x y
  unfolding new_label
  new_links x y = go (nat_eq (w.label x) (w.label (Column c))) (nat_eq (w.label y) (w.label (Column c))) refl refl
    where
      go : (a b : Bool) → nat_eq (w.label x) (w.label (Column c)) ≡ a → nat_eq (w.label y) (w.label (Column c)) ≡ b
          → cond a (w.label (Row r)) (w.label x) ≡ cond b (w.label (Row r)) (w.label y) → AreLinked t x y
      go true true p q e = old_links x y (eq_of (w.label x) (w.label (Column c)) p ∙ sym (eq_of (w.label y) (w.label (Column c)) q))
      go false false p q e = old_links x y e
      go true false p q e =
          let l = old_links x (Column c) (eq_of (w.label x) (w.label (Column c)) p) in
          let k = old_links (Row r) y e in
          joined_on t l.0 x (Column c) y l.1 (Row r ∷ k.0, (edge, k.1))
      go false true p q e =
          let l = old_links x (Row r) e in
          let k = old_links (Column c) y (sym (eq_of (w.label y) (w.label (Column c)) q)) in
          joined_on t l.0 x (Row r) y l.1 (Column c ∷ k.0, (edge, k.1))

  pub more_labels : Labels t
  more_labels = record { label = new_label; joins = new_joins; links = new_links }
