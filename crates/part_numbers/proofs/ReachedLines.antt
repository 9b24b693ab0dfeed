-- One more line of a part is reached.
use Rattle.std.proofs.Common.{◌≡◌, ◌≢◌, ◌++◌, ◌∙◌, ◌⊎◌, inl, inr, ℕ, Bool, true, false, List, [], ◌∷◌, length, refl, ap, sym, subst, arith, append_assoc}
use Rattle.std.specs.Prelude.{◌↔◌, IsTrue, not}
use Rattle.std.specs.List.{AllByRecursion, Contains}
use Rattle.std.proofs.lemmas.List.Elements.{Contains-append_left, Contains-append_right}
use Rattle.cmr_base.specs.declared.line.Line.{Line}
use Rattle.cmr_base.specs.Matrix.{entry}
use Rattle.cmr_base.proofs.Booleans.{not_both, true_is, true_is_false}
use Rattle.cmr_base.proofs.Lists.{all-append, all_weaker, contains_first, length-more}
use Rattle.sparse_matrix.specs.SparseRows.{SparseRows, matrix_of_runs}
use Rattle.sparse_core.specs.declared.removal.TwoCore.{TwoCore}
use Rattle.part_numbers.specs.declared.reached.Search.{Search}
use Rattle.part_numbers.specs.PartSearches.{AreAdjacent, AreInseparable, GrowsPart, FollowsAll, IsFollowed, IsFree, IsReachedWith, IsSized, ReachesLine, ReachesLines, is_in_core, is_reached}
use Rattle.part_numbers.specs.PartSearches.{reached_number}
use Rattle.part_numbers.proofs.InseparableLines.{adjacent_back, adjacent_inseparable, inseparable_back, inseparable_self, inseparable_then, line_cases}

-- ---- lines that are reached stay reached

pub reaches_then : (part : ℕ) (first second third : Search) → ReachesLines part first second → ReachesLines part second third → ReachesLines part first third
reaches_then part first second third early late = record {
  reached = λ line h. late.reached line (early.reached line h);
  numbers = λ line h. late.numbers line (early.reached line h) ∙ early.numbers line h;
  others = λ line h. elim (late.others line h) [
    | inl g ↦ elim (early.others line g) [
      | inl f ↦ inl f
      | inr e ↦ inr (late.numbers line g ∙ e)
    ]
    | inr e ↦ inr e
  ];
  queue = (
    early.queue.0 ++ late.queue.0,
    late.queue.1 ∙ ap (λ (lines : List Line). lines ++ late.queue.0) early.queue.1 ∙ append_assoc first.queue.items early.queue.0 late.queue.0,
  );
}

pub reaches_one : (part : ℕ) (before after : Search) (line : Line) → is_reached before line ≡ false → ReachesLine before after line part → ReachesLines part before after
reaches_one part before after line free is = record {
  reached = λ other h. is.others_reached other (differs other h) ∙ h;
  numbers = λ other h. is.other_numbers other (differs other h);
  others = λ other h. elim (line_cases other line) [
    | inl e ↦ inr (ap (reached_number after) e ∙ is.number)
    | inr n ↦ inl (sym (is.others_reached other n) ∙ h)
  ];
  queue = (line ∷ [], is.queue);
}
  where
    differs : (other : Line) → is_reached before other ≡ true → other ≢ line
    differs other h e = not_both (is_reached before other) h (ap (is_reached before) e ∙ free)

pub with_kept : (part : ℕ) (before after : Search) (line other : Line) → ReachesLines part before after → is_reached before other ≡ true → IsReachedWith before line other
    → IsReachedWith after line other
with_kept part before after line other reaches h is = record {
  reached = reaches.reached line is.reached;
  number = reaches.numbers line is.reached ∙ is.number ∙ sym (reaches.numbers other h);
}

pub followed_kept : (m : SparseRows) (core : TwoCore) (part : ℕ) (before after : Search) (line : Line) → ReachesLines part before after → is_reached before line ≡ true
    → IsFollowed m core before line → IsFollowed m core after line
followed_kept m core part before after line reaches h followed other inside adjacent = with_kept part before after other line reaches h (followed other inside adjacent)

-- ---- a line that is not reached

pub free_test : (core : TwoCore) (search : Search) (line : Line) (mark : Bool) → is_in_core core line ≡ true → is_reached search line ≡ mark → IsTrue (not mark) ↔ IsFree core search line
free_test core search line true h g = (λ t. true_is_false (sym t), λ free. true_is_false (sym g ∙ free.free))
free_test core search line false h g = (λ t. record { inside = h; free = g }, λ free. refl)

pub reached_if_not_free : (core : TwoCore) (search : Search) (line : Line) → (IsFree core search line → ⊥) → is_in_core core line ≡ true → is_reached search line ≡ true
reached_if_not_free core search line not_free h = true_is (is_reached search line) (λ f. not_free (record { inside = h; free = f }))

module _ (m : SparseRows) (core : TwoCore) (part : ℕ) (before after : Search) (line : Line) (grows : GrowsPart m core part before) (free : IsFree core before line)
    (sized : IsSized m after) (is : ReachesLine before after line part)
    (same_part : (other : Line) → is_reached before other ≡ true → reached_number before other ≡ part → AreInseparable m core line other) where
  reaches : ReachesLines part before after
  reaches = reaches_one part before after line free.free is

  -- a reached line is the new line, or it was reached before
  was : (other : Line) → is_reached after other ≡ true → (other ≡ line) ⊎ ((is_reached before other ≡ true) × (reached_number after other ≡ reached_number before other))
  was other h = elim (line_cases other line) [
    | inl e ↦ inl e
    | inr n ↦ inr (sym (is.others_reached other n) ∙ h, is.other_numbers other n)
  ]

  new_number : (other : Line) → other ≡ line → reached_number after other ≡ part
  new_number other e = ap (reached_number after) e ∙ is.number

  inseparable_later : (x y : Line) → is_reached after x ≡ true → IsReachedWith after y x → AreInseparable m core x y
  inseparable_later x y h there = go (was x h) (was y there.reached)
    where
      go : (x ≡ line) ⊎ ((is_reached before x ≡ true) × (reached_number after x ≡ reached_number before x))
          → (y ≡ line) ⊎ ((is_reached before y ≡ true) × (reached_number after y ≡ reached_number before y)) → AreInseparable m core x y
      go (inl e) (inl f) = subst (AreInseparable m core x) (e ∙ sym f) (inseparable_self m core x)
      go (inl e) (inr f) = subst (λ (z : Line). AreInseparable m core z y) (sym e) (same_part y f.0 (sym f.1 ∙ there.number ∙ new_number x e))
      go (inr e) (inl f) = subst (AreInseparable m core x) (sym f) (inseparable_back m core line x (same_part x e.0 (sym e.1 ∙ sym there.number ∙ new_number y f)))
      go (inr e) (inr f) = grows.searched.inseparable x y e.0 (record { reached = f.0; number = sym f.1 ∙ there.number ∙ e.1 })

  queued_later : (other : Line) → is_reached after other ≡ true → Contains (before.queue.items ++ line ∷ []) other
  queued_later other h = elim (was other h) [
    | inl e ↦ Contains-append_right before.queue.items (line ∷ []) other (subst (λ (z : Line). Contains (z ∷ []) other) e (contains_first other []))
    | inr g ↦ Contains-append_left before.queue.items (line ∷ []) other (grows.searched.queued other g.0)
  ]

  pub grows_later : GrowsPart m core part after
  grows_later = record {
    searched = record {
      sized = sized;
      within = λ other h. elim (was other h) [
        | inl e ↦ ap (is_in_core core) e ∙ free.inside
        | inr g ↦ grows.searched.within other g.0
      ];
      inseparable = inseparable_later;
      queued = λ other h. subst (λ (queue : List Line). Contains queue other) (sym is.queue) (queued_later other h);
      reached = subst (AllByRecursion (λ other. is_reached after other ≡ true)) (sym is.queue)
          (all-append (λ other. is_reached after other ≡ true) before.queue.items (line ∷ [])
          (all_weaker (λ other. is_reached before other ≡ true) (λ other. is_reached after other ≡ true) reaches.reached before.queue.items grows.searched.reached) (is.reached, tt));
      counted =
          let longer = ap length is.queue ∙ length-more before.queue.items line in
          let before_count = grows.searched.counted in
          let one_more = is.count in
          omega (arith, longer, before_count, one_more);
    };
    at_most = λ other h. elim (was other h) [
      | inl e ↦ let number = new_number other e in omega (arith, number)
      | inr g ↦ let most = grows.at_most other g.0 in let number = g.1 in omega (arith, most, number)
    ];
    followed = λ other h. elim (was other h) [
      | inl e ↦ inr (new_number other e)
      | inr g ↦ elim (grows.followed other g.0) [
        | inl f ↦ inl (followed_kept m core part before after other reaches g.0 f)
        | inr e ↦ inr (g.1 ∙ e)
      ]
    ];
  }

-- ---- a line with a nonzero in a line that is reached

module _ (m : SparseRows) (core : TwoCore) (part : ℕ) (search : Search) (from line : Line) (grows : GrowsPart m core part search) (from_reached : is_reached search from ≡ true)
    (adjacent : AreAdjacent (entry (matrix_of_runs m)) from line) where
  pub reached_with : is_in_core core line ≡ true → is_reached search line ≡ true → IsReachedWith search line from
  reached_with inside h = elim (grows.followed from from_reached) [
    | inl f ↦ f line inside adjacent
    | inr e ↦ elim (grows.followed line h) [
      | inl f ↦ record { reached = h; number = sym (f from (grows.searched.within from from_reached) (adjacent_back (entry (matrix_of_runs m)) from line adjacent)).number }
      | inr g ↦ record { reached = h; number = g ∙ sym e }
    ]
  ]

  module _ (free : IsFree core search line) where
    from_number : reached_number search from ≡ part
    from_number = elim (grows.followed from from_reached) [
      | inl f ↦ absurd (not_both (is_reached search line) (f line free.inside adjacent).reached free.free)
      | inr e ↦ e
    ]

    pub inseparable_from : (other : Line) → is_reached search other ≡ true → reached_number search other ≡ part → AreInseparable m core line other
    inseparable_from other h e = inseparable_then m core line from other
        (inseparable_back m core from line (adjacent_inseparable m core from line (grows.searched.within from from_reached) free.inside adjacent))
        (grows.searched.inseparable from other from_reached (record { reached = h; number = e ∙ sym from_number }))

    pub new_with : (later : Search) → ReachesLine search later line part → IsReachedWith later line from
    new_with later is = record {
      reached = is.reached;
      number = is.number ∙ sym (is.other_numbers from (λ e. not_both (is_reached search from) from_reached (ap (is_reached search) e ∙ free.free)) ∙ from_number);
    }

-- ---- the first line of a part

pub grows_from_followed : (m : SparseRows) (core : TwoCore) (part : ℕ) (search : Search) → FollowsAll m core part search → GrowsPart m core part search
grows_from_followed m core part search has = record {
  searched = has.searched;
  at_most = λ line h. let below = has.below line h in omega (arith, below);
  followed = λ line h. inl (has.followed line h);
}

pub grows_first : (m : SparseRows) (core : TwoCore) (part : ℕ) (before after : Search) (line : Line) → FollowsAll m core part before → IsFree core before line
    → IsSized m after → ReachesLine before after line part → GrowsPart m core part after
grows_first m core part before after line has free sized is = grows_later m core part before after line (grows_from_followed m core part before has) free sized is
    (λ other h e. absurd (let below = has.below other h in omega (arith, below, e)))
