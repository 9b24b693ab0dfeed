-- The counts, sums and marks of two sides stay right when a line is removed.
use Rattle.std.proofs.Common.{◌≡◌, ◌≢◌, ◌<◌, ◌≤◌, ◌+◌, ◌∙◌, ℕ, Bool, true, false, cond, List, length, get_or, refl, ap, sym, subst, arith}
use Rattle.std.specs.List.Sorted.{IsStrictlyIncreasing}
use Rattle.std.proofs.lemmas.List.Edits.{length-remove}
use Rattle.cmr_base.specs.declared.line.Line.{Line}
use Rattle.cmr_base.specs.declared.line.Reason.{Reason}
use Rattle.cmr_base.specs.declared.line.Reason.TheVariants.{Zero, Unit as One, Copy, Negative}
use Rattle.cmr_base.specs.Matrix.{Matrix, entry, is_nonzero}
use Rattle.cmr_base.specs.LineSets.{AllBelow, without}
use Rattle.cmr_base.specs.Planes.{is_minus}
use Rattle.cmr_base.specs.Reductions.{nonzeros_at}
use Rattle.cmr_base.specs.Members.{IsIn}
use Rattle.cmr_base.proofs.Members.{IsWithin}
use Rattle.cmr_base.proofs.ListsWithout.{in_from_contains, in-get_or, increasing_distinct, same_place, place_of, place_is, within-without, without_increases}
use Rattle.sp_reduce.specs.declared.kind.LineKind.{LineKind}
use Rattle.sp_reduce.specs.declared.side.StayingLines.{StayingLines}
use Rattle.sp_reduce.specs.LineKinds.{line_named, cross_named, index_of_line, count_of_kind, cross_size, table, is_twin}
use Rattle.sp_reduce.specs.StayingSides.{weight, weight_at, minus_weight_at, IsSide, IsAcross, AreNonzerosCounted, IsSettled}
use Rattle.sp_reduce.specs.Changes.{IsRemovedAt, crosses, has_minus, IsHeld, IsForgetting, IsUnsettled, WasRightBefore}
use Rattle.sp_reduce.proofs.KindLemmas.{number-line_named, meant_for}
use Rattle.sp_reduce.proofs.Meanings.{irreducible_from_none, none_from_irreducible, irreducible_fewer}
use Rattle.sp_reduce.proofs.Renewals.{irreducible_after}
use Rattle.sp_reduce.proofs.WithoutLemmas.{sum_by-without, remove-without, HasStood, stood}

within_below : (bound : ℕ) (xs ys : List ℕ) → IsWithin xs ys → AllBelow bound ys → AllBelow bound xs
within_below bound xs ys within below k h =
    let x = get_or xs k 0 in
    let w = place_is x ys (within x (in-get_or xs k h)) in
    subst (λ (y : ℕ). y < bound) w.there (below (place_of x ys) w.in_range)

named : Reason → ℕ
named Zero = 0
named (One line) = index_of_line line
named (Copy line) = 0
named (Negative line) = 0

pub unit_number : (kind : LineKind) (line : Line) (c : ℕ) → One line ≡ One (line_named kind c) → index_of_line line ≡ c
unfolding named
unit_number kind line c e = ap named e ∙ number-line_named kind c

-- ---- the side whose lines lose a crossing line

module _ (binary : Bool) (m : Matrix) (side : StayingLines) (across : List ℕ) (removed : ℕ) (reason : Reason) (b : WasRightBefore binary m side across removed reason) where
  count_before : (at : ℕ) → at < length side.stays.items
      → get_or side.counts.items at 0 ≡ cond (crosses m side removed at) 1 0 + nonzeros_at across (table (entry m) side.kind (get_or side.stays.items at 0))
  count_before at h =
      let f = table (entry m) side.kind (get_or side.stays.items at 0) in
      b.counted.counts at h
      ∙ sum_by-without (λ k. cond (is_nonzero (f k)) 1 0) removed b.before (increasing_distinct b.before b.lines.increasing) (in_from_contains b.before removed b.there)
      ∙ ap (λ (lines : List ℕ). cond (is_nonzero (f removed)) 1 0 + nonzeros_at lines f) (sym b.left)

  sum_before : (at : ℕ) → at < length side.stays.items
      → get_or side.sums.items at 0 ≡ cond (crosses m side removed at) (weight removed) 0 + weight_at across (table (entry m) side.kind (get_or side.stays.items at 0))
  sum_before at h =
      let f = table (entry m) side.kind (get_or side.stays.items at 0) in
      b.counted.sums at h
      ∙ sum_by-without (λ k. cond (is_nonzero (f k)) (weight k) 0) removed b.before (increasing_distinct b.before b.lines.increasing) (in_from_contains b.before removed b.there)
      ∙ ap (λ (lines : List ℕ). cond (is_nonzero (f removed)) (weight removed) 0 + weight_at lines f) (sym b.left)

  minus_sum_before : (at : ℕ) → at < length side.stays.items
      → get_or side.minus_sums.items at 0 ≡ cond (has_minus m side removed at) (weight removed) 0 + minus_weight_at across (table (entry m) side.kind (get_or side.stays.items at 0))
  minus_sum_before at h =
      let f = table (entry m) side.kind (get_or side.stays.items at 0) in
      b.counted.minus_sums at h
      ∙ sum_by-without (λ k. cond (is_minus (f k)) (weight k) 0) removed b.before (increasing_distinct b.before b.lines.increasing) (in_from_contains b.before removed b.there)
      ∙ ap (λ (lines : List ℕ). cond (is_minus (f removed)) (weight removed) 0 + minus_weight_at lines f) (sym b.left)

  pub held : IsHeld m side removed
  held at h = record {
    count = λ e. at_least (get_or side.counts.items at 0) (cond (crosses m side removed at) 1 0) (nonzeros_at across (table (entry m) side.kind (get_or side.stays.items at 0))) 1 (count_before at h)
        (ap (λ (c : Bool). cond c 1 0) e);
    sum = λ e. at_least (get_or side.sums.items at 0) (cond (crosses m side removed at) (weight removed) 0) (weight_at across (table (entry m) side.kind (get_or side.stays.items at 0))) (weight removed)
        (sum_before at h) (ap (λ (c : Bool). cond c (weight removed) 0) e);
    minus_sum = λ e. at_least (get_or side.minus_sums.items at 0) (cond (has_minus m side removed at) (weight removed) 0)
        (minus_weight_at across (table (entry m) side.kind (get_or side.stays.items at 0))) (weight removed) (minus_sum_before at h) (ap (λ (c : Bool). cond c (weight removed) 0) e);
  }
    where
      at_least : (o c x w : ℕ) → o ≡ c + x → c ≡ w → w ≤ o
      at_least o c x w e f = omega arith

  less : (n o c x : ℕ) → n + c ≡ o → o ≡ c + x → n ≡ x
  less n o c x e f = omega arith

  count_after : (new : StayingLines) → IsForgetting m side new removed → (at : ℕ) → at < length side.stays.items
      → get_or new.counts.items at 0 ≡ nonzeros_at across (table (entry m) side.kind (get_or side.stays.items at 0))
  count_after new f at h =
      less (get_or new.counts.items at 0) (get_or side.counts.items at 0) (cond (crosses m side removed at) 1 0) (nonzeros_at across (table (entry m) side.kind (get_or side.stays.items at 0)))
      (f.each at h).count (count_before at h)

  pub counted_after : (new : StayingLines) → IsForgetting m side new removed → AreNonzerosCounted m new across
  counted_after new f = subst (λ (s : StayingLines). AreNonzerosCounted m s across) (sym f.same) (record {
    counts = λ at h. count_after new f at h;
    sums = λ at h.
        less (get_or new.sums.items at 0) (get_or side.sums.items at 0) (cond (crosses m side removed at) (weight removed) 0) (weight_at across (table (entry m) side.kind (get_or side.stays.items at 0)))
        (f.each at h).sum (sum_before at h);
    minus_sums = λ at h.
        less (get_or new.minus_sums.items at 0) (get_or side.minus_sums.items at 0) (cond (has_minus m side removed at) (weight removed) 0)
        (minus_weight_at across (table (entry m) side.kind (get_or side.stays.items at 0))) (f.each at h).minus_sum (minus_sum_before at h);
  })

  -- marks that stand for few of the lines are right
  pub settled_after : (new : StayingLines) → IsSide m side → new.kind ≡ side.kind → new.stays.items ≡ side.stays.items
      → ((at : ℕ) → at < length side.stays.items → get_or new.settled.items at false ≡ true → get_or side.settled.items at false ≡ true)
      → ((at : ℕ) → at < length side.stays.items → get_or new.settled.items at false ≡ true → crosses m side removed at ≡ true → 1 < nonzeros_at across (table (entry m) side.kind (get_or side.stays.items at 0)))
      → ((at : ℕ) → at < length side.stays.items → get_or new.settled.items at false ≡ true → (c : ℕ) → reason ≡ One (line_named side.kind c) → IsIn c side.stays.items
      → (get_or side.stays.items at 0 ≢ c) × (is_twin binary (table (entry m) side.kind) across c (get_or side.stays.items at 0) ≡ false))
      → IsSettled binary m new across
  settled_after new is kind stays was many unit at h e =
      let N = table (entry m) side.kind in
      let line = get_or side.stays.items at 0 in
      let inside : at < length side.stays.items = subst (λ (xs : List ℕ). at < length xs) stays h in
      let before : ¬ _ = irreducible_from_none binary N (line_named side.kind) (cross_named side.kind) side.stays.items b.before line b.lines.increasing (b.settled at inside (was at inside e)) in
      rw (kind, stays, b.left)
      (none_from_irreducible binary N (line_named side.kind) (cross_named side.kind) side.stays.items (without b.before removed) line
      (irreducible_after binary N (line_named side.kind) b.before side.stays.items removed line reason b.lines.increasing (in-get_or side.stays.items at inside)
      (meant_for binary (entry m) side.kind b.before side.stays.items removed reason is.increasing b.why) before
      (λ c. subst (λ (lines : List ℕ). 1 < nonzeros_at lines (N line)) b.left (many at inside e c))
      (λ c q i. let w = unit at inside e c q i in (w.0, ap (λ (lines : List ℕ). is_twin binary N lines c line) (sym b.left) ∙ w.1))))

  pub across_left : IsAcross m side.kind across
  across_left = subst (λ (lines : List ℕ). IsAcross m side.kind lines) (sym b.left) (record {
    increasing = without_increases removed b.before b.lines.increasing;
    in_range = within_below (cross_size m side.kind) (without b.before removed) b.before (within-without removed b.before) b.lines.in_range;
  })

  -- it was forgotten, and then some lines were settled no more
  module _ (is : IsSide m side) (new last : StayingLines) (f : IsForgetting m side new removed) (same : last ≡ record new { settled = last.settled })
      (was : (at : ℕ) → at < length side.stays.items → get_or last.settled.items at false ≡ true → get_or new.settled.items at false ≡ true) where
    settled_last : ((at : ℕ) → at < length side.stays.items → get_or last.settled.items at false ≡ true → (c : ℕ) → reason ≡ One (line_named side.kind c) → IsIn c side.stays.items
        → (get_or side.stays.items at 0 ≢ c) × (is_twin binary (table (entry m) side.kind) across c (get_or side.stays.items at 0) ≡ false)) → IsSettled binary m last across
    settled_last unit =
        settled_after last is (ap (λ (s : StayingLines). s.kind) same ∙ ap (λ (s : StayingLines). s.kind) f.same) (ap (λ (s : StayingLines). s.stays.items) same ∙ ap (λ (s : StayingLines). s.stays.items) f.same)
        (λ at h e. (f.each at h).was (was at h e))
        (λ at h e c. subst (λ (n : ℕ). 1 < n) (count_after new f at h) ((f.each at h).many (was at h e) c)) unit

    -- the reason names no line that stays
    pub settled_unnamed : ((c : ℕ) → reason ≡ One (line_named side.kind c) → IsIn c side.stays.items → ⊥) → IsSettled binary m last across
    settled_unnamed none = settled_last (λ at h e c q i. absurd (none c q i))

    -- the reason names the line at a place, and this line and its twins are settled no more
    pub settled_named : (line : Line) (changed : ℕ) → reason ≡ One line → changed < length side.stays.items → get_or side.stays.items changed 0 ≡ index_of_line line
        → ((at : ℕ) → at < length side.stays.items → IsUnsettled binary m new last across changed at) → IsSettled binary m last across
    settled_named line changed e inside here unsettled = settled_last (λ at h mark c q i.
        let there : get_or side.stays.items changed 0 ≡ c = here ∙ unit_number side.kind line c (sym e ∙ q) in (
          (λ p. (unsettled at h).other mark (same_place side.stays.items at changed (increasing_distinct side.stays.items is.increasing) h inside (p ∙ sym there))),
          ap (λ (line : ℕ). is_twin binary (table (entry m) side.kind) across line (get_or side.stays.items at 0)) (sym there)
              ∙ ap (λ (s : StayingLines). is_twin binary (table (entry m) s.kind) across (get_or s.stays.items changed 0) (get_or s.stays.items at 0)) (sym f.same)
              ∙ (unsettled at h).no_twin mark,
        ))

-- ---- the side that loses a line

module _ (m : Matrix) (own new : StayingLines) (place : ℕ) (is : IsSide m own) (inside : place < length own.stays.items) (cut : IsRemovedAt place own new) where
  shorter : length new.stays.items + 1 ≡ length own.stays.items
  shorter = ap (λ (xs : List ℕ). length xs + 1) cut.stays ∙ length-remove own.stays.items place inside

  pub cut_without : new.stays.items ≡ without own.stays.items (get_or own.stays.items place 0)
  cut_without = cut.stays ∙ remove-without own.stays.items place (increasing_distinct own.stays.items is.increasing) inside

  place_before : (at : ℕ) → at < length new.stays.items → (old : ℕ) × HasStood (length own.stays.items) place at old
  place_before at h = stood (length own.stays.items) place at inside (omega (arith, h, shorter))

  pub cut_side : IsSide m new
  cut_side = record {
    increasing = subst IsStrictlyIncreasing (sym cut_without) (without_increases (get_or own.stays.items place 0) own.stays.items is.increasing);
    in_range = λ at h. let w = place_before at h in
        rw (cut.kind, cut.stays) (subst (λ (n : ℕ). n < count_of_kind m own.kind) (sym (w.1.number own.stays.items refl)) (is.in_range w.0 w.1.in_range));
    parallel = record {
      counts = same (length new.counts.items) (length own.counts.items) (ap (λ (xs : List ℕ). length xs + 1) cut.counts ∙ length-remove own.counts.items place (omega (arith, is.parallel.counts, inside))) is.parallel.counts;
      sums = same (length new.sums.items) (length own.sums.items) (ap (λ (xs : List ℕ). length xs + 1) cut.sums ∙ length-remove own.sums.items place (omega (arith, is.parallel.sums, inside))) is.parallel.sums;
      minus_sums = same (length new.minus_sums.items) (length own.minus_sums.items)
          (ap (λ (xs : List ℕ). length xs + 1) cut.minus_sums ∙ length-remove own.minus_sums.items place (omega (arith, is.parallel.minus_sums, inside))) is.parallel.minus_sums;
      settled = same (length new.settled.items) (length own.settled.items) (ap (λ (xs : List Bool). length xs + 1) cut.settled ∙ length-remove own.settled.items place (omega (arith, is.parallel.settled, inside))) is.parallel.settled;
    };
  }
    where
      same : (n o : ℕ) → n + 1 ≡ o → o ≡ length own.stays.items → n ≡ length new.stays.items
      same n o e f = omega (arith, e, f, shorter)

  pub cut_counted : (across : List ℕ) → AreNonzerosCounted m own across → AreNonzerosCounted m new across
  cut_counted across counted = record {
    counts = λ at h. let w = place_before at h in
        rw (cut.kind, cut.stays, cut.counts)
        (w.1.number own.counts.items is.parallel.counts ∙ counted.counts w.0 w.1.in_range
        ∙ ap (λ (line : ℕ). nonzeros_at across (table (entry m) own.kind line)) (sym (w.1.number own.stays.items refl)));
    sums = λ at h. let w = place_before at h in
        rw (cut.kind, cut.stays, cut.sums)
        (w.1.number own.sums.items is.parallel.sums ∙ counted.sums w.0 w.1.in_range
        ∙ ap (λ (line : ℕ). weight_at across (table (entry m) own.kind line)) (sym (w.1.number own.stays.items refl)));
    minus_sums = λ at h. let w = place_before at h in
        rw (cut.kind, cut.stays, cut.minus_sums)
        (w.1.number own.minus_sums.items is.parallel.minus_sums ∙ counted.minus_sums w.0 w.1.in_range
        ∙ ap (λ (line : ℕ). minus_weight_at across (table (entry m) own.kind line)) (sym (w.1.number own.stays.items refl)));
  }

  pub cut_settled : (binary : Bool) (across : List ℕ) → IsStrictlyIncreasing across → IsSettled binary m own across → IsSettled binary m new across
  cut_settled binary across increases settled at h e =
      let w = place_before at h in
      let N = table (entry m) own.kind in
      let line = get_or own.stays.items w.0 0 in
      let mark : get_or own.settled.items w.0 false ≡ true = sym (w.1.mark own.settled.items is.parallel.settled) ∙ ap (λ (bs : List Bool). get_or bs at false) (sym cut.settled) ∙ e in
      let within : IsWithin new.stays.items own.stays.items = subst (λ (xs : List ℕ). IsWithin xs own.stays.items) (sym cut_without) (within-without (get_or own.stays.items place 0) own.stays.items) in
      let same : get_or new.stays.items at 0 ≡ line = ap (λ (xs : List ℕ). get_or xs at 0) cut.stays ∙ w.1.number own.stays.items refl in
      rw (cut.kind, same)
      (none_from_irreducible binary N (line_named own.kind) (cross_named own.kind) new.stays.items across line
      (irreducible_fewer binary N new.stays.items own.stays.items across line within
      (irreducible_from_none binary N (line_named own.kind) (cross_named own.kind) own.stays.items across line increases (settled w.0 w.1.in_range mark))))
