-- Loops over the lines of a side: the lines so far are done, and the others are as they were.
use Rattle.std.proofs.Common.{◌≡◌, ◌<◌, ◌≤◌, ◌+◌, ◌++◌, ◌∙◌, inl, inr, ℕ, Bool, false, cond, List, [], ◌∷◌, length, get_or, sym, ap, subst, arith}
use Rattle.std.proofs.lemmas.Bool.{cases_eq}
use Rattle.std.proofs.lemmas.List.{get_or_append_left}
use Rattle.std.proofs.Math.Seq.{get_or-append_seam}
use Rattle.cmr_base.specs.Matrix.{Matrix, entry}
use Rattle.sp_reduce.specs.declared.side.StayingLines.{StayingLines}
use Rattle.sp_reduce.specs.LineKinds.{table, is_twin}
use Rattle.sp_reduce.specs.StayingSides.{weight}
use Rattle.sp_reduce.specs.Changes.{crosses, has_minus, IsHeldAt, HasForgotten, IsSameAt, IsUnsettled}

-- ---- the numbers of the lines so far

pub pushed_each : (xs ys : List ℕ) (x : ℕ) (f : ℕ → ℕ) (count : ℕ) → length xs ≡ count → ys ≡ xs ++ x ∷ [] → x ≡ f count
    → ((at : ℕ) → at < count → get_or xs at 0 ≡ f at) → (at : ℕ) → at < count + 1 → get_or ys at 0 ≡ f at
pushed_each xs ys x f count long e here each at h = elim (cases_eq at count) [
  | inl q ↦
      ap (λ (zs : List ℕ). get_or zs at 0) e ∙ ap (λ (k : ℕ). get_or (xs ++ x ∷ []) k 0) (q ∙ sym long) ∙ get_or-append_seam xs x [] 0
      ∙ here ∙ ap f (sym q)
  | inr d ↦ ap (λ (zs : List ℕ). get_or zs at 0) e ∙ get_or_append_left xs (x ∷ []) 0 at (omega (arith, h, d, long)) ∙ each at (omega (arith, h, d))
]

-- ---- a crossing line is forgotten

module _ (m : Matrix) (start now new : StayingLines) (removed place : ℕ) (same : now ≡ record start { counts = now.counts; sums = now.sums; minus_sums = now.minus_sums; settled = now.settled }) (rest : (at : ℕ) → place ≤ at → IsSameAt start now at) where
  crosses_same : (at : ℕ) → crosses m now removed at ≡ crosses m start removed at
  crosses_same at = ap (λ (s : StayingLines). crosses m s removed at) same

  minus_same : (at : ℕ) → has_minus m now removed at ≡ has_minus m start removed at
  minus_same at = ap (λ (s : StayingLines). has_minus m s removed at) same

  forgotten_here : HasForgotten m now new removed place → HasForgotten m start new removed place
  forgotten_here h =
      let was = rest place (omega arith) in
      record {
        count = ap (λ (b : Bool). get_or new.counts.items place 0 + cond b 1 0) (sym (crosses_same place)) ∙ h.count ∙ was.count;
        sum = ap (λ (b : Bool). get_or new.sums.items place 0 + cond b (weight removed) 0) (sym (crosses_same place)) ∙ h.sum ∙ was.sum;
        minus_sum = ap (λ (b : Bool). get_or new.minus_sums.items place 0 + cond b (weight removed) 0) (sym (minus_same place)) ∙ h.minus_sum ∙ was.minus_sum;
        was = λ e. sym was.settled ∙ h.was e;
        many = λ e c. h.many e (crosses_same place ∙ c);
      }

  -- what the line at this position includes is as it was
  pub held_left : IsHeldAt m start removed place → IsHeldAt m now removed place
  held_left h =
      let was = rest place (omega arith) in
      record {
        count = λ e. subst (λ (n : ℕ). 1 ≤ n) (sym was.count) (h.count (sym (crosses_same place) ∙ e));
        sum = λ e. subst (λ (n : ℕ). weight removed ≤ n) (sym was.sum) (h.sum (sym (crosses_same place) ∙ e));
        minus_sum = λ e. subst (λ (n : ℕ). weight removed ≤ n) (sym was.minus_sum) (h.minus_sum (sym (minus_same place) ∙ e));
      }

  pub forgotten_more : ((at : ℕ) → at < place → HasForgotten m start now removed at) → HasForgotten m now new removed place → ((at : ℕ) → (at ≡ place → ⊥) → IsSameAt now new at)
      → (at : ℕ) → at < place + 1 → HasForgotten m start new removed at
  forgotten_more done here others at h = elim (cases_eq at place) [
    | inl q ↦ subst (λ (k : ℕ). HasForgotten m start new removed k) (sym q) (forgotten_here here)
    | inr d ↦
        let was = done at (omega (arith, h, d)) in
        let is = others at d in
        record {
          count = ap (λ (n : ℕ). n + cond (crosses m start removed at) 1 0) is.count ∙ was.count;
          sum = ap (λ (n : ℕ). n + cond (crosses m start removed at) (weight removed) 0) is.sum ∙ was.sum;
          minus_sum = ap (λ (n : ℕ). n + cond (has_minus m start removed at) (weight removed) 0) is.minus_sum ∙ was.minus_sum;
          was = λ e. was.was (sym is.settled ∙ e);
          many = λ e c. subst (λ (n : ℕ). 1 < n) (sym is.count) (was.many (sym is.settled ∙ e) c);
        }
  ]

  pub others_left : ((at : ℕ) → (at ≡ place → ⊥) → IsSameAt now new at) → (at : ℕ) → place + 1 ≤ at → IsSameAt start new at
  others_left others at h =
      let was = rest at (omega (arith, h)) in
      let is = others at (λ e. omega (arith, h, e)) in
      record { count = is.count ∙ was.count; sum = is.sum ∙ was.sum; minus_sum = is.minus_sum ∙ was.minus_sum; settled = is.settled ∙ was.settled }

-- ---- lines are settled no more

module _ (binary : Bool) (m : Matrix) (start now new : StayingLines) (across : List ℕ) (changed place : ℕ) (same : now ≡ record start { settled = now.settled })
    (rest : (at : ℕ) → place ≤ at → get_or now.settled.items at false ≡ get_or start.settled.items at false) where
  unsettled_here : IsUnsettled binary m now new across changed place → IsUnsettled binary m start new across changed place
  unsettled_here h = record {
    was = λ e. sym (rest place (omega arith)) ∙ h.was e;
    other = h.other;
    no_twin = λ e.
        ap (λ (s : StayingLines). is_twin binary (table (entry m) s.kind) across (get_or s.stays.items changed 0) (get_or s.stays.items place 0)) (sym same)
        ∙ h.no_twin e;
  }

  pub unsettled_more : ((at : ℕ) → at < place → IsUnsettled binary m start now across changed at) → IsUnsettled binary m now new across changed place
      → ((at : ℕ) → (at ≡ place → ⊥) → get_or new.settled.items at false ≡ get_or now.settled.items at false)
      → (at : ℕ) → at < place + 1 → IsUnsettled binary m start new across changed at
  unsettled_more done here others at h = elim (cases_eq at place) [
    | inl q ↦ subst (λ (k : ℕ). IsUnsettled binary m start new across changed k) (sym q) (unsettled_here here)
    | inr d ↦
        let was = done at (omega (arith, h, d)) in
        record {
          was = λ e. was.was (sym (others at d) ∙ e);
          other = λ e. was.other (sym (others at d) ∙ e);
          no_twin = λ e. was.no_twin (sym (others at d) ∙ e);
        }
  ]

  pub marks_left : ((at : ℕ) → (at ≡ place → ⊥) → get_or new.settled.items at false ≡ get_or now.settled.items at false)
      → (at : ℕ) → place + 1 ≤ at → get_or new.settled.items at false ≡ get_or start.settled.items at false
  marks_left others at h = others at (λ e. omega (arith, h, e)) ∙ rest at (omega (arith, h))
