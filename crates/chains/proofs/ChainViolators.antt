-- A sound chain shows that each signing of its matrix has a violator.
use Rattle.std.proofs.Common.{◌≡◌, ◌≢◌, ◌∙◌, ◌⊎◌, ◌↔◌, ℕ, zero, suc, ℤ, pos, negsuc, neg_ℤ, ◌-ℤ◌, ◌*ℤ◌, Bool, true, false, nat_eq, List, [], ◌∷◌, replicate, length, get_or, inl, inr, refl, sym, ap, subst, arith}
use Rattle.std.proofs.lemmas.Int.{ints}
use Rattle.std.proofs.lemmas.List.{get_or-replicate, length-replicate}
use Rattle.cmr_base.specs.Matrix.{Matrix, height, entry, with_entry, IsEntry, IsTernary}
use Rattle.cmr_base.specs.Signing.{IsSign}
use Rattle.cmr_base.specs.Sums.{sum_over, IsEven, IsTwoModFour}
use Rattle.cmr_base.specs.Members.{IsIn, IsDistinct}
use Rattle.cmr_base.specs.LineSets.{IsRowSet, IsColumnSet}
use Rattle.cmr_base.specs.Violator.{IsViolator}
use Rattle.cmr_base.specs.Supports.{AgreeUpToSigns}
use Rattle.cmr_base.specs.declared.line.Line.TheVariants.{Row, Column}
use Rattle.cmr_base.specs.declared.line_set.LineSet.{LineSet}
use Rattle.cmr_base.proofs.Integers.{sums, products}
use Rattle.cmr_base.proofs.Lists.{get_or-replicated}
use Rattle.cmr_base.proofs.Parity.{even-sum_over, even_by_difference}
use Rattle.cmr_base.proofs.SumLaws.{sum_over-sub}
use Rattle.cmr_base.proofs.Members.{all_in, all_of_members, increasing_are_distinct}
use Rattle.cmr_base.proofs.IncreasingLists.{row_set_increases, column_set_increases}
use Rattle.cmr_base.proofs.RowLists.{is_eq, is_ne}
use Rattle.cmr_base.proofs.Entries.{no_minus}
use Rattle.ghouila.proofs.SignedSums.{zero_or_sign}
use Rattle.ghouila.proofs.SignProducts.{sign_nonzero}
use Rattle.ghouila.proofs.Cycles.{four_or_two}
use Rattle.ghouila.proofs.SignsUnique.{violator_up_to_signs}
use Rattle.ghouila.proofs.CamionLaw.{camion as equivalence}
use Rattle.ghouila.proofs.NetworkSignings.{same_at_members}
use Rattle.cmr_base.specs.Trees.{IsBinary}
use Rattle.chains.specs.declared.step.SignStep.{SignStep}
use Rattle.chains.specs.declared.step.SignStep.TheVariants.{Free, Forced}
use Rattle.chains.specs.SignSteps.{AreSigns, IsZeroModFour, unsigned, LeadTo}
use Rattle.chains.specs.Chains.{KeepsRule, IsSignedViolator}
use Rattle.chains.specs.Laws.{ChainsMeanViolators, ChainsRefuteRegularity}
use Rattle.chains.proofs.GivenSigns.{HasOneMore, here_or, one_more, signs_more, Labels, no_labels, more_labels}

violator_in : (M N : ℕ → ℕ → ℤ) (R C : List ℕ) → ((i j : ℕ) → IsIn i R → IsIn j C → M i j ≡ N i j) → IsViolator M R C → IsViolator N R C
violator_in M N R C e v = record {
  even_rows = all_of_members (λ i. IsEven (sum_over C (λ j. N i j))) R (λ i h. subst IsEven (same_at_members C (λ j. M i j) (λ j. N i j) (λ j g. e i j h g)) (all_in (λ x. IsEven (sum_over C (λ j. M x j))) R v.even_rows i h));
  even_columns = all_of_members (λ j. IsEven (sum_over R (λ i. N i j))) C (λ j h. subst IsEven (same_at_members R (λ i. M i j) (λ i. N i j) (λ i g. e i j g h)) (all_in (λ x. IsEven (sum_over R (λ i. M i x))) C v.even_columns j h));
  two_mod_four = subst IsTwoModFour (same_at_members R (λ i. sum_over C (λ j. M i j)) (λ i. sum_over C (λ j. N i j)) (λ i h. same_at_members C (λ j. M i j) (λ j. N i j) (λ j g. e i j h g))) v.two_mod_four;
}

-- a sum with at most one nonzero term
no_member : (xs : List ℕ) (f : ℕ → ℤ) → ((y : ℕ) → IsIn y xs → f y ≡ pos 0) → sum_over xs f ≡ pos 0
no_member [] f h = refl
no_member (y ∷ ys) f h = rw (h y (inl refl), no_member ys f (λ z g. h z (inr g))) refl

one_member : (xs : List ℕ) (f : ℕ → ℤ) (x : ℕ) → IsDistinct xs → IsIn x xs → ((y : ℕ) → IsIn y xs → y ≢ x → f y ≡ pos 0) → sum_over xs f ≡ f x
one_member [] f x d i h = absurd i
one_member (y ∷ ys) f x d (inl e) h =
    let rest : sum_over ys f ≡ pos 0 = no_member ys f (λ z g. h z (inr g) (λ q. d.0 (subst (λ k. IsIn k ys) (q ∙ e) g))) in
    let first : f y ≡ f x = ap f (sym e) in omega (arith, sums)
one_member (y ∷ ys) f x d (inr i) h =
    let rest : sum_over ys f ≡ f x = one_member ys f x d.1 i (λ z g q. h z (inr g) q) in
    let first : f y ≡ pos 0 = h y (inl refl) (λ q. d.0 (subst (λ k. IsIn k ys) (sym q) i)) in omega (arith, sums)

-- sums that differ in only one entry
pub one_entry : (F G : ℕ → ℕ → ℤ) (R C : List ℕ) (r c : ℕ) → IsDistinct R → IsDistinct C → IsIn r R → IsIn c C → ((i j : ℕ) → IsIn i R → IsIn j C → (i ≢ r) ⊎ (j ≢ c) → F i j ≡ G i j)
    → sum_over R (λ i. sum_over C (λ j. F i j)) -ℤ sum_over R (λ i. sum_over C (λ j. G i j)) ≡ F r c -ℤ G r c
one_entry F G R C r c dr dc hr hc e =
    sym (sum_over-sub R (λ i. sum_over C (λ j. F i j)) (λ i. sum_over C (λ j. G i j)))
    ∙ same_at_members R (λ i. sum_over C (λ j. F i j) -ℤ sum_over C (λ j. G i j)) (λ i. sum_over C (λ j. F i j -ℤ G i j)) (λ i h. sym (sum_over-sub C (λ j. F i j) (λ j. G i j)))
    ∙ one_member R (λ i. sum_over C (λ j. F i j -ℤ G i j)) r dr hr (λ i h d. no_member C (λ j. F i j -ℤ G i j) (λ j g. none (F i j) (G i j) (e i j h g (inl d))))
    ∙ one_member C (λ j. F r j -ℤ G r j) c dc hc (λ j g d. none (F r j) (G r j) (e r j hr g (inr d)))
  where
    none : (x y : ℤ) → x ≡ y → x -ℤ y ≡ pos 0
    none x y e = omega (arith, sums)

pub sign_four : (s t x y : ℤ) → s -ℤ t ≡ x -ℤ y → IsZeroModFour s → IsZeroModFour t → IsSign x → IsSign y → x ≡ y
sign_four s t x y e (k, f) (l, g) (inl u) (inl v) = u ∙ sym v
sign_four s t x y e (k, f) (l, g) (inr u) (inr v) = u ∙ sym v
sign_four s t x y e (k, f) (l, g) (inl u) (inr v) = absurd (omega (arith, sums))
sign_four s t x y e (k, f) (l, g) (inr u) (inl v) = absurd (omega (arith, sums))

-- ---- a signing that agrees with the signs given so far

record IsMatched (a s : Matrix) (N : ℕ → ℕ → ℤ) : Type 0 where
  small : (i j : ℕ) → IsEntry (N i j)
  support : (i j : ℕ) → (entry a i j ≡ pos 0) ↔ (N i j ≡ pos 0)
  same : (i j : ℕ) → entry s i j ≢ pos 0 → entry s i j ≡ N i j

sign_of : (a s : Matrix) (N : ℕ → ℕ → ℤ) → IsMatched a s N → (i j : ℕ) → entry a i j ≢ pos 0 → IsSign (N i j)
sign_of a s N m i j h = elim (zero_or_sign (N i j) (m.small i j)) [ inl z ↦ absurd (h ((m.support i j).1 z)) | inr u ↦ u ]

more_matched : (a s t : Matrix) (N : ℕ → ℕ → ℤ) (r c : ℕ) (v : ℤ) → HasOneMore s t r c v → v ≡ N r c → IsMatched a s N → IsMatched a t N
more_matched a s t N r c v more e m = record { small = m.small; support = m.support; same = same }
  where
    same : (i j : ℕ) → entry t i j ≢ pos 0 → entry t i j ≡ N i j
    same i j h = elim (here_or i j r c) [
      | inl w ↦ ap (λ x. entry t x j) w.0 ∙ ap (λ y. entry t r y) w.1 ∙ more.here ∙ e ∙ ap (λ x. N x c) (sym w.0) ∙ ap (λ y. N i y) (sym w.1)
      | inr d ↦ more.other i j d ∙ m.same i j (λ z. h (more.other i j d ∙ z))
    ]

-- a number or its negative
abbrev turn : Bool → ℤ → ℤ
turn true z = neg_ℤ z
turn false z = z

turn_small : (b : Bool) (z : ℤ) → IsEntry z → IsEntry (turn b z)
turn_small true z h = let l = h.low in let g = h.high in record { low = omega (arith, sums); high = omega (arith, sums) }
turn_small false z h = h

turn_zero : (b : Bool) (z : ℤ) → (z ≡ pos 0) ↔ (turn b z ≡ pos 0)
turn_zero true z = ((λ e. ap neg_ℤ e), (λ e. omega (arith, sums)))
turn_zero false z = ((λ e. e), (λ e. e))

turn_twice : (b : Bool) (z : ℤ) → z ≡ turn b (turn b z)
turn_twice true z = omega (arith, sums)
turn_twice false z = refl

abbrev sign_for : Bool → ℤ
sign_for true = negsuc 0
sign_for false = pos 1

for_sign : (b : Bool) → IsSign (sign_for b)
for_sign true = inr refl
for_sign false = inl refl

turn_back : (b d : Bool) (z : ℤ) → z ≡ sign_for b *ℤ (sign_for d *ℤ turn b (turn d z))
turn_back true true z = simp products (omega (arith, sums))
turn_back true false z = simp products (omega (arith, sums))
turn_back false true z = simp products (omega (arith, sums))
turn_back false false z = simp products (omega (arith, sums))

-- the signing with the lines of one label multiplied by -1
module _ (a s : Matrix) (N : ℕ → ℕ → ℤ) (w : Labels s) (m : IsMatched a s N) (top : ℕ) where
  abbrev turned : ℕ → ℕ → ℤ
  turned i j = turn (nat_eq (w.label (Row i)) top) (turn (nat_eq (w.label (Column j)) top) (N i j))

  turned_matched : IsMatched a s turned
  turned_matched = record {
    small = λ i j. turn_small (nat_eq (w.label (Row i)) top) (turn (nat_eq (w.label (Column j)) top) (N i j)) (turn_small (nat_eq (w.label (Column j)) top) (N i j) (m.small i j));
    support = λ i j. (
      (λ z. (turn_zero (nat_eq (w.label (Row i)) top) (turn (nat_eq (w.label (Column j)) top) (N i j))).0 ((turn_zero (nat_eq (w.label (Column j)) top) (N i j)).0 ((m.support i j).0 z))),
      (λ z. (m.support i j).1 ((turn_zero (nat_eq (w.label (Column j)) top) (N i j)).1 ((turn_zero (nat_eq (w.label (Row i)) top) (turn (nat_eq (w.label (Column j)) top) (N i j))).1 z))),
    );
    same = λ i j h. m.same i j h ∙ subst (λ l. N i j ≡ turn (nat_eq (w.label (Row i)) top) (turn (nat_eq l top) (N i j))) (w.joins i j h) (turn_twice (nat_eq (w.label (Row i)) top) (N i j));
  }

  turned_at : (r c : ℕ) → w.label (Row r) ≢ top → w.label (Column c) ≡ top → N r c ≡ negsuc 0 → pos 1 ≡ turned r c
  turned_at r c d e f = rw (is_ne (w.label (Row r)) top d, is_eq (w.label (Column c)) top e, f) refl

  turned_back : AgreeUpToSigns turned N
  turned_back = record {
    row_sign = λ i. sign_for (nat_eq (w.label (Row i)) top);
    column_sign = λ j. sign_for (nat_eq (w.label (Column j)) top);
    row_signs = λ i. for_sign (nat_eq (w.label (Row i)) top);
    column_signs = λ j. for_sign (nat_eq (w.label (Column j)) top);
    entries = λ i j. turn_back (nat_eq (w.label (Row i)) top) (nat_eq (w.label (Column j)) top) (N i j);
  }

-- ---- the law

record Found (a : Matrix) (N : ℕ → ℕ → ℤ) : Type 0 where
  rows : List ℕ
  columns : List ℕ
  row_set : IsRowSet a rows
  column_set : IsColumnSet a columns
  violator : IsViolator N rows columns

-- an entry of a 0/1 matrix and its sign have one parity
same_parity : (x y : ℤ) → x ≢ negsuc 0 → IsEntry x → IsEntry y → (x ≡ pos 0) ↔ (y ≡ pos 0) → IsEven (x -ℤ y)
same_parity x y b u v e = go (zero_or_sign x u) (zero_or_sign y v)
  where
    go : (x ≡ pos 0) ⊎ IsSign x → (y ≡ pos 0) ⊎ IsSign y → IsEven (x -ℤ y)
    go (inl p) (inl q) = (pos 0, omega (arith, sums))
    go (inl p) (inr q) = absurd (sign_nonzero y q (e.0 p))
    go (inr p) (inl q) = absurd (sign_nonzero x p (e.1 q))
    go (inr (inr p)) (inr q) = absurd (b p)
    go (inr (inl p)) (inr (inl q)) = (pos 0, omega (arith, sums))
    go (inr (inl p)) (inr (inr q)) = (pos 1, omega (arith, sums))

even_line : (xs : List ℕ) (f g : ℕ → ℤ) → ((x : ℕ) → IsEven (f x -ℤ g x)) → sum_over xs f ≡ pos 2 → IsEven (sum_over xs g)
even_line xs f g h e = even_by_difference (sum_over xs f) (sum_over xs g)
    (subst IsEven (sum_over-sub xs f g) (even-sum_over xs (λ x. f x -ℤ g x) (all_of_members (λ x. IsEven (f x -ℤ g x)) xs (λ x i. h x))))
    (pos 1, e)

module _ (a : Matrix) (is : IsTernary a) (binary : IsBinary a) (lines : LineSet) (end : Matrix) where
  chain : (steps : List SignStep) (s : Matrix) (N : ℕ → ℕ → ℤ) → AreSigns a s → IsMatched a s N → Labels s → LeadTo (KeepsRule a) s steps end → IsSignedViolator a end lines → Found a N
  chain [] s N f m w e v = record {
    rows = lines.rows;
    columns = lines.columns;
    row_set = v.row_set;
    column_set = v.column_set;
    violator = violator_in (entry end) N lines.rows lines.columns (λ i j h g. subst (λ t. entry t i j ≡ N i j) e (equal i j h g)) v.violator;
  }
    where
      equal : (i j : ℕ) → IsIn i lines.rows → IsIn j lines.columns → entry s i j ≡ N i j
      equal i j h g = elim (zero_or_sign (N i j) (m.small i j)) [
        | inl z ↦ f.inside i j ((m.support i j).1 z) ∙ sym z
        | inr u ↦ m.same i j (subst (λ t. entry t i j ≢ pos 0) (sym e) (v.all_signed i j h g (λ z. sign_nonzero (N i j) u ((m.support i j).0 z))))
      ]
  chain (Free r c ∷ steps) s N f m w (v, (rule, plus), rest) v' = go (sign_of a s N m r c rule.here.one) (λ K k. chain steps (with_entry s r c v) K (signs_more a s is.rectangular f r c v rule.here.one (inl plus)) k (more_labels s (with_entry s r c v) r c v (inl plus) (one_more a s is.rectangular f r c v rule.here.one) w) rest v')
    where
      go : IsSign (N r c) → ((K : ℕ → ℕ → ℤ) → IsMatched a (with_entry s r c v) K → Found a K) → Found a N
      go (inl e) again = again N (more_matched a s (with_entry s r c v) N r c v (one_more a s is.rectangular f r c v rule.here.one) (plus ∙ sym e) m)
      go (inr e) again =
          let top = w.label (Column c) in
          let K = turned a s N w m top in
          let found = again K (more_matched a s (with_entry s r c v) K r c v (one_more a s is.rectangular f r c v rule.here.one) (plus ∙ turned_at a s N w m top r c (λ q. rule.apart (w.links (Row r) (Column c) q)) refl e) (turned_matched a s N w m top)) in
          record { rows = found.rows; columns = found.columns; row_set = found.row_set; column_set = found.column_set; violator = violator_up_to_signs K N found.rows found.columns (turned_back a s N w m top) found.violator }
  chain (Forced r c cycle ∷ steps) s N f m w (v, rule, rest) v' = go (four_or_two (sum_over cycle.rows (λ i. sum_over cycle.columns (λ j. N i j))) even) (λ k. chain steps (with_entry s r c v) N (signs_more a s is.rectangular f r c v rule.here.one rule.is_sign) k (more_labels s (with_entry s r c v) r c v rule.is_sign (one_more a s is.rectangular f r c v rule.here.one) w) rest v')
    where
      parity : (i j : ℕ) → IsEven (entry a i j -ℤ N i j)
      parity i j = same_parity (entry a i j) (N i j) (no_minus a binary i j) (is.small i j) (m.small i j) (m.support i j)

      row_even : (i : ℕ) → IsIn i cycle.rows → IsEven (sum_over cycle.columns (λ j. N i j))
      row_even i h = even_line cycle.columns (λ j. entry a i j) (λ j. N i j) (λ j. parity i j) (rule.two_each.row_twos i h)

      column_even : (j : ℕ) → IsIn j cycle.columns → IsEven (sum_over cycle.rows (λ i. N i j))
      column_even j h = even_line cycle.rows (λ i. entry a i j) (λ i. N i j) (λ i. parity i j) (rule.two_each.column_twos j h)

      even : IsEven (sum_over cycle.rows (λ i. sum_over cycle.columns (λ j. N i j)))
      even = even-sum_over cycle.rows (λ i. sum_over cycle.columns (λ j. N i j)) (all_of_members (λ i. IsEven (sum_over cycle.columns (λ j. N i j))) cycle.rows row_even)

      equal : (i j : ℕ) → IsIn i cycle.rows → IsIn j cycle.columns → (i ≢ r) ⊎ (j ≢ c) → entry (with_entry s r c v) i j ≡ N i j
      equal i j h g d = (one_more a s is.rectangular f r c v rule.here.one).other i j d ∙ elim (zero_or_sign (N i j) (m.small i j)) [
        | inl z ↦ f.inside i j ((m.support i j).1 z) ∙ sym z
        | inr u ↦ m.same i j (rule.others i j h g (λ e. sign_nonzero (N i j) u ((m.support i j).0 e)) d)
      ]

      go : IsZeroModFour (sum_over cycle.rows (λ i. sum_over cycle.columns (λ j. N i j))) ⊎ IsTwoModFour (sum_over cycle.rows (λ i. sum_over cycle.columns (λ j. N i j)))
          → (IsMatched a (with_entry s r c v) N → Found a N) → Found a N
      go (inr two) again = record {
        rows = cycle.rows;
        columns = cycle.columns;
        row_set = rule.row_set;
        column_set = rule.column_set;
        violator = record {
          even_rows = all_of_members (λ i. IsEven (sum_over cycle.columns (λ j. N i j))) cycle.rows row_even;
          even_columns = all_of_members (λ j. IsEven (sum_over cycle.rows (λ i. N i j))) cycle.columns column_even;
          two_mod_four = two;
        };
      }
      go (inl four) again = again (more_matched a s (with_entry s r c v) N r c v (one_more a s is.rectangular f r c v rule.here.one)
          (sym (one_more a s is.rectangular f r c v rule.here.one).here ∙ sign_four (sum_over cycle.rows (λ i. sum_over cycle.columns (λ j. entry (with_entry s r c v) i j))) (sum_over cycle.rows (λ i. sum_over cycle.columns (λ j. N i j))) (entry (with_entry s r c v) r c) (N r c)
          (one_entry (entry (with_entry s r c v)) N cycle.rows cycle.columns r c (increasing_are_distinct 0 (height a) cycle.rows (row_set_increases a cycle.rows rule.row_set)) (increasing_are_distinct 0 a.width cycle.columns (column_set_increases a cycle.columns rule.column_set)) rule.row_in rule.column_in equal)
          rule.four four (subst IsSign (sym (one_more a s is.rectangular f r c v rule.here.one).here) rule.is_sign) (sign_of a s N m r c rule.here.one))
          m)

abbrev pub zeros : ℕ → ℕ → Matrix
zeros n k = record { rows = replicate n (replicate k (pos 0)); width = k }

pub same_zeros : (n k h w : ℕ) → n ≡ h → k ≡ w → zeros n k ≡ zeros h w
same_zeros n k h w e f = rw (e, f) refl

pub entry-unsigned : (a : Matrix) (i j : ℕ) → entry (unsigned a) i j ≡ pos 0
entry-unsigned a i j = rows (height a) i
  where
    rows : (n i : ℕ) → get_or (get_or (replicate n (replicate a.width (pos 0))) i []) j (pos 0) ≡ pos 0
    rows zero i = refl
    rows (suc n) zero = get_or-replicated a.width j (pos 0)
    rows (suc n) (suc i) = rows n i

pub unsigned_signs : (a : Matrix) → AreSigns a (unsigned a)
unsigned_signs a = record {
  ternary = record {
    rectangular = λ i h. ap length (get_or-replicate (height a) i (replicate a.width (pos 0)) [] (omega (arith, h, length-replicate (height a) (replicate a.width (pos 0))))) ∙ length-replicate a.width (pos 0);
    small = λ i j. subst IsEntry (sym (entry-unsigned a i j)) (record { low = omega (arith, ints); high = omega (arith, ints) });
  };
  same_height = length-replicate (height a) (replicate a.width (pos 0));
  same_width = refl;
  inside = λ i j z. entry-unsigned a i j;
}

pub chains_mean_violators : ChainsMeanViolators
chains_mean_violators a m signs sized binary is sound small support free =
    let found = chain a is binary sized.chain.violator signs sized.chain.steps (unsigned a) (entry m) (unsigned_signs a)
    (record { small = small.small; support = support.zeros_same; same = λ i j h. absurd (h (entry-unsigned a i j)) })
    (no_labels (unsigned a) (entry-unsigned a)) sound.steps sound.violator in
    free found.rows found.columns
    (record { increasing = found.row_set.increasing; in_range = λ k h. let l = found.row_set.in_range k h in let e = support.height_same in omega arith })
    (record { increasing = found.column_set.increasing; in_range = λ k h. let l = found.column_set.in_range k h in let e = support.width_same in omega arith })
    found.violator

pub chains_refute_regularity : ChainsRefuteRegularity
chains_refute_regularity a signs sized binary is sound (m, small, support, unimodular) = chains_mean_violators a m signs sized binary is sound small support ((equivalence m small.small).0 unimodular)
