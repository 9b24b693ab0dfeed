-- Lines added to a set, step by step.
use Rattle.std.proofs.Common.{ℕ, zero, suc, ◌+◌, ◌-◌, ◌*◌, ◌%◌, ◌*ℤ◌, ◌&&◌, ℤ, Bool, true, false, not, cond, nat_eq, List, [], ◌∷◌, ◌++◌, ◌≡◌, ◌<◌, ◌≤◌, ◌∙◌, sym, ap, refl, arith, subst, ◌⊎◌, inl, inr, length, length-append}
use Rattle.std.specs.Ordering.{int_eq}
use Rattle.std.proofs.lemmas.Bool.{false≢true, cases_lt, cases_eq}
use Rattle.std.proofs.lemmas.Bool.Decides.{Decides-int_eq}
use Rattle.cmr_base.specs.BitSets.{Bits}
use Rattle.cmr_base.specs.ColumnSets.{has_column}
use Rattle.cmr_base.specs.Differences.{differ, differs_at}
use Rattle.cmr_base.specs.Matrix.{Matrix, entry, height, IsMatrix}
use Rattle.cmr_base.specs.Members.{IsIn}
use Rattle.cmr_base.specs.Planes.{has_bit}
use Rattle.cmr_base.specs.Seeds.{count as number_of_lines}
use Rattle.cmr_base.proofs.ColumnWords.{column_at}
use Rattle.cmr_base.proofs.DifferenceWords.{difference_in}
use Rattle.cmr_base.proofs.LineCounts.{count_more, count_same, less}
use Rattle.cmr_base.proofs.Members.{in-append}
use Rattle.cmr_base.proofs.RowLists.{two_cases}
use Rattle.cmr_base.proofs.Booleans.{false_is, is_ne, not_both, not_false, not_is, same_test, self_eq}
use Rattle.line_growth.specs.GrowingLines.{DecidesUnlike, Growth, is_inside, count_left, IsGrowth, HasGrown, HasAdded, HasTaken}

-- ---- lists of waiting lines

pushed_more : (xs ys : List ℕ) (x y : ℕ) → ys ≡ xs ++ x ∷ [] → IsIn y xs → IsIn y ys
pushed_more xs ys x y e h = subst (λ (z : List ℕ). IsIn y z) (sym e) ((in-append xs x y).1 (inl h))

pushed_last : (xs ys : List ℕ) (x : ℕ) → ys ≡ xs ++ x ∷ [] → IsIn x ys
pushed_last xs ys x e = subst (λ (z : List ℕ). IsIn x z) (sym e) ((in-append xs x x).1 (inr refl))

in_pushed : (xs ys : List ℕ) (x y : ℕ) → ys ≡ xs ++ x ∷ [] → IsIn y ys → IsIn y xs ⊎ (y ≡ x)
in_pushed xs ys x y e h = (in-append xs x y).0 (subst (λ (z : List ℕ). IsIn y z) e h)

pushed_length : (xs ys : List ℕ) (x : ℕ) → ys ≡ xs ++ x ∷ [] → length ys ≡ suc (length xs)
pushed_length xs ys x e = ap (λ (z : List ℕ). length z) e ∙ length-append xs (x ∷ []) ∙ omega arith

-- ---- the number of lines outside

-- one line fewer
left_less : (before after : ℕ → Bool) (line count : ℕ) → line < count → before line ≡ false → after line ≡ true → ((x : ℕ) → before x ≡ true → after x ≡ true)
    → ((x : ℕ) → after x ≡ true → (x ≡ line) ⊎ (before x ≡ true))
    → number_of_lines (λ x. not (before x)) count ≡ suc (number_of_lines (λ x. not (after x)) count)
left_less before after line count l out here kept only =
    count_more line (λ x. not (before x)) count l (ap not out)
    ∙ ap suc (count_same (less line (λ x. not (before x))) (λ x. not (after x)) count (λ y k. same y))
  where
    same : (y : ℕ) → cond (nat_eq line y) false (not (before y)) ≡ not (after y)
    same y = elim (cases_eq y line) [
      | inl e ↦ subst (λ (z : ℕ). cond (nat_eq line z) false (not (before z)) ≡ not (after z)) (sym e)
          (ap (λ (t : Bool). cond t false (not (before line))) (self_eq line) ∙ ap not (sym here))
      | inr n ↦ ap (λ (t : Bool). cond t false (not (before y))) (is_ne line y (λ e. n (sym e)))
          ∙ ap not (same_test (before y) (after y) (kept y) (λ e. elim (only y e) [ inl q ↦ absurd (n q) | inr h ↦ h ]))
    ]

pub count_most : (test : ℕ → Bool) (size : ℕ) → number_of_lines test size ≤ size
count_most test zero = omega arith
count_most test (suc k) = elim (two_cases (test k)) [
  | inl e ↦ rw e (let h = count_most test k in omega arith)
  | inr e ↦ rw e (let h = count_most test k in omega arith)
]

-- all lines
all_left : (test : ℕ → Bool) (size : ℕ) → ((x : ℕ) → test x ≡ true) → number_of_lines test size ≡ size
all_left test zero h = refl
all_left test (suc k) h = rw (h k) (ap suc (all_left test k h))

-- no line is in the set
pub empty : (lines : Growth) (left : ℕ) → ((x : ℕ) → is_inside lines x ≡ false) → left ≡ lines.inside.size → lines.fresh ≡ [] → IsGrowth lines left
empty lines left none all fresh =
    let nothing : (x : ℕ) → ¬ (IsIn x lines.fresh) = λ x h. subst (λ (v : List ℕ). IsIn x v) fresh h in
    record {
      fresh_in = λ x h. absurd (nothing x h);
      fresh_inside = λ x h. absurd (nothing x h);
      left = all ∙ sym (all_left (λ x. not (is_inside lines x)) lines.inside.size (λ x. ap not (none x)));
    }

-- ---- lines that pass a test

module _ (P : ℕ → Type 0) where
  pub grown_none : (lines : Growth) → HasGrown P lines lines
  grown_none lines = record { size = refl; kept = λ x h. h; only = λ x h. inl h; news = λ x h. inl h; waits = λ x h. h; room_same = refl }

  pub grown_joined : (before lines after : Growth) → HasGrown P before lines → (Q : ℕ → Type 0) → HasGrown Q lines after → ((x : ℕ) → Q x → P x) → HasGrown P before after
  grown_joined before lines after g Q a into = record {
    size = a.size ∙ g.size;
    kept = λ x e. a.kept x (g.kept x e);
    only = λ x e. elim (a.only x e) [ inl h ↦ g.only x h | inr q ↦ inr (into x q) ];
    news = λ x e. elim (a.news x e) [ inl h ↦ elim (g.news x h) [ inl k ↦ inl k | inr k ↦ inr (a.waits x k) ] | inr h ↦ inr h ];
    waits = λ x h. a.waits x (g.waits x h);
    room_same = a.room_same ∙ g.room_same;
  }

  pub grown_more : (before lines after : Growth) → HasGrown P before lines → (line : ℕ) → HasAdded line lines after → P line → HasGrown P before after
  grown_more before lines after g line a fits = grown_joined before lines after g (λ x. x ≡ line) a.grown (λ x q. subst P (sym q) fits)

-- ---- one line

pub some_left : (line left : ℕ) (lines : Growth) → IsGrowth lines left → line < lines.inside.size → is_inside lines line ≡ false → 1 ≤ left
some_left line left lines w l out = let a = w.left in let b = count_more line (λ x. not (is_inside lines x)) lines.inside.size l (ap not out) in omega arith

-- a line is put into the set
module _ (line left : ℕ) (before after : Growth) (w : IsGrowth before left) (l : line < before.inside.size) (out : is_inside before line ≡ false) (size : after.inside.size ≡ before.inside.size)
    (only : (x : ℕ) → is_inside after x ≡ true → (x ≡ line) ⊎ (is_inside before x ≡ true)) (here : is_inside after line ≡ true) (kept : (x : ℕ) → is_inside before x ≡ true → is_inside after x ≡ true) where
  fewer : count_left before ≡ suc (count_left after)
  fewer = left_less (is_inside before) (is_inside after) line before.inside.size l out here kept only ∙ ap (λ (n : ℕ). suc (number_of_lines (λ x. not (is_inside after x)) n)) (sym size)

  -- the line does not wait yet
  pub inserted : (now : ℕ) → after.fresh ≡ before.fresh → now + 1 ≡ left → IsGrowth after now
  inserted now fresh less =
      let waits : (x : ℕ) → IsIn x after.fresh → IsIn x before.fresh = λ x h. subst (λ (z : List ℕ). IsIn x z) fresh h in
      record {
        fresh_in = λ x h. subst (λ (n : ℕ). x < n) (sym size) (w.fresh_in x (waits x h));
        fresh_inside = λ x h. kept x (w.fresh_inside x (waits x h));
        left = let a = w.left in let b = fewer in omega arith;
      }

  -- the line waits
  pub pushed : (now : ℕ) → after.fresh ≡ before.fresh ++ line ∷ [] → now + 1 ≡ left → IsGrowth after now
  pushed now fresh less = record {
    fresh_in = λ x h. subst (λ (n : ℕ). x < n) (sym size) (elim (in_pushed before.fresh after.fresh line x fresh h) [ inl g ↦ w.fresh_in x g | inr e ↦ subst (λ (z : ℕ). z < before.inside.size) (sym e) l ]);
    fresh_inside = λ x h. elim (in_pushed before.fresh after.fresh line x fresh h) [ inl g ↦ kept x (w.fresh_inside x g) | inr e ↦ subst (λ (z : ℕ). is_inside after z ≡ true) (sym e) here ];
    left = let a = w.left in let b = fewer in omega arith;
  }

  pub adds : after.fresh ≡ before.fresh ++ line ∷ [] → HasAdded line before after
  adds fresh = record {
    line_in = here;
    grown = record {
      size = size;
      kept = kept;
      only = λ x e. elim (only x e) [ inl q ↦ inr q | inr h ↦ inl h ];
      news = λ x e. elim (only x e) [ inl q ↦ inr (subst (λ (z : ℕ). IsIn z after.fresh) (sym q) (pushed_last before.fresh after.fresh line fresh)) | inr h ↦ inl h ];
      waits = λ x h. pushed_more before.fresh after.fresh line x fresh h;
      room_same = let a = pushed_length before.fresh after.fresh line fresh in let b = fewer in omega arith;
    };
  }

-- fewer lines wait
pub waits_less : (left : ℕ) (before after : Growth) → IsGrowth before left → after.inside ≡ before.inside → ((x : ℕ) → IsIn x after.fresh → IsIn x before.fresh) → IsGrowth after left
waits_less left before after w inside less = record {
  fresh_in = λ x h. subst (λ (set : Bits). x < set.size) (sym inside) (w.fresh_in x (less x h));
  fresh_inside = λ x h. subst (λ (set : Bits). has_column set.words x ≡ true) (sym inside) (w.fresh_inside x (less x h));
  left = w.left ∙ ap (λ (set : Bits). number_of_lines (λ x. not (has_column set.words x)) set.size) (sym inside);
}

pub takes : (line left : ℕ) (before after : Growth) → IsGrowth before left → before.fresh ≡ line ∷ after.fresh → after.inside ≡ before.inside → HasTaken line before after
takes line left before after w fresh inside =
    let first : IsIn line before.fresh = subst (λ (z : List ℕ). IsIn line z) (sym fresh) (inl refl) in
    record {
      inside_same = inside;
      line_inside = w.fresh_inside line first;
      line_in = w.fresh_in line first;
      others = λ x h. subst (λ (z : List ℕ). IsIn x z) fresh h;
      room_less =
          let a = ap (λ (z : List ℕ). length z) fresh in
          let b = ap (λ (set : Bits). number_of_lines (λ x. not (has_column set.words x)) set.size) inside in
          omega arith;
    }

-- ---- pulls, a word at a time

differs_not : (a b : ℤ) → differ a b ≡ false → a ≡ b
differs_not a b e = go (int_eq a b) refl e
  where
    go : (t : Bool) → int_eq a b ≡ t → not t ≡ false → a ≡ b
    go true f e = (Decides-int_eq a b).0 f
    go false f e = absurd (false≢true (sym e))

differs_from : (a b : ℤ) → differ a b ≡ true → ¬ (a ≡ b)
differs_from a b d e = not_both (differ a b) d (ap not ((Decides-int_eq a b).1 e))

-- a line found for the first time passes the test
pub found_passes : (word t s : Bool) → word ≡ (t && not s) → word ≡ true → t ≡ true
found_passes word true s is e = refl
found_passes word false s is e = sym is ∙ e

-- a line that passes the test was inside before, or is found
seen_or_found : (word t s : Bool) → word ≡ (t && not s) → t ≡ true → (s ≡ true) ⊎ (word ≡ true)
seen_or_found word true true is e = inl refl
seen_or_found word true false is e = inr is
seen_or_found word false s is e = absurd (false≢true e)

-- the bits of a word as a set of columns
pub bit_in : (word k : ℕ) → k < 64 → has_column (word ∷ []) k ≡ has_bit word k
bit_in word k l = ap (has_column (word ∷ [])) (omega arith) ∙ column_at (word ∷ []) 0 k l

-- the lines of a chunk that are not inside, as the bits of a word
module _ (lines : Growth) (chunk word : ℕ) (is : (k : ℕ) → k < 64 → has_bit word k ≡ not (is_inside lines (64 * chunk + k))) where
  pub other_out : (k : ℕ) → k < 64 → has_column (word ∷ []) k ≡ true → is_inside lines (64 * chunk + k) ≡ false
  other_out k l e = not_is (is_inside lines (64 * chunk + k)) (sym (is k l) ∙ (sym (bit_in word k l) ∙ e))

  -- the lines before the next bit are inside
  pub others_in : (first next : ℕ) → next ≤ 64 → ((k : ℕ) → first ≤ k → k < next → has_column (word ∷ []) k ≡ false) → (x : ℕ) → 64 * chunk + first ≤ x
      → x < 64 * chunk + next → is_inside lines x ≡ true
  others_in first next most none x low high = at (x - 64 * chunk) (omega arith)
    where
      at : (k : ℕ) → 64 * chunk + k ≡ x → is_inside lines x ≡ true
      at k e = subst (λ (z : ℕ). is_inside lines z ≡ true) e
          (not_false (is_inside lines (64 * chunk + k)) (sym (is k (omega arith)) ∙ (sym (bit_in word k (omega arith)) ∙ none k (omega arith) (omega arith))))

-- the bits up to the next bit are inside
pub found_until : (bits : List ℕ) (lines after : Growth) (first from next : ℕ) → ((line : ℕ) → is_inside lines line ≡ true → is_inside after line ≡ true)
    → ((k : ℕ) → k < from → has_column bits k ≡ true → is_inside lines (first + k) ≡ true)
    → ((k : ℕ) → from ≤ k → k < next → has_column bits k ≡ false) → is_inside after (first + next) ≡ true → (k : ℕ) → k < next + 1 → has_column bits k ≡ true → is_inside after (first + k) ≡ true
found_until bits lines after first from next kept before none here k l e = elim (cases_lt k from) [
  | inl h ↦ kept (first + k) (before k h e)
  | inr h ↦ elim (cases_lt k next) [
    | inl m ↦ absurd (not_both (has_column bits k) e (none k h m))
    | inr m ↦ let q : k ≡ next = omega arith in subst (λ (x : ℕ). is_inside after (first + x) ≡ true) (sym q) here
  ]
]

-- at the end all bits are inside
pub found_all : (bits : List ℕ) (lines : Growth) (first from : ℕ) → ((k : ℕ) → k < from → has_column bits k ≡ true → is_inside lines (first + k) ≡ true)
    → ((k : ℕ) → from ≤ k → has_column bits k ≡ false) → (k : ℕ) → has_column bits k ≡ true
    → is_inside lines (first + k) ≡ true
found_all bits lines first from before none k e = elim (cases_lt k from) [
  | inl h ↦ before k h e
  | inr h ↦ absurd (not_both (has_column bits k) e (none k h))
]

module _ (m : Matrix) (row : ℕ) (factor : ℤ) (model : ℕ) where
  abbrev pub IsMultipleAt : ℕ → Type 0
  IsMultipleAt x = entry m row x ≡ factor *ℤ entry m model x

  pub differing : (x : ℕ) → differs_at m row factor model x ≡ true → ¬ (IsMultipleAt x)
  differing x e = differs_from (entry m row x) (factor *ℤ entry m model x) e

  -- the lines of a chunk and of the chunks before it
  pub pulled_until : (chunk word : ℕ) (lines after : Growth) → ((k : ℕ) → k < 64 → has_bit word k ≡ (differs_at m row factor model (64 * chunk + k) && not (is_inside lines (64 * chunk + k))))
      → ((x : ℕ) → x < 64 * chunk → is_inside lines x ≡ false → IsMultipleAt x) → ((x : ℕ) → is_inside lines x ≡ true → is_inside after x ≡ true)
      → ((k : ℕ) → k < 64 → has_bit word k ≡ true → is_inside after (64 * chunk + k) ≡ true)
      → (x : ℕ) → x < 64 * (chunk + 1) → is_inside after x ≡ false → IsMultipleAt x
  pulled_until chunk word lines after is done kept taken x l e = elim (cases_lt x (64 * chunk)) [
    | inl h ↦ done x h (false_is (is_inside lines x) (λ t. not_both (is_inside after x) (kept x t) e))
    | inr h ↦ there (omega arith)
  ]
    where
      there : 64 * chunk + x % 64 ≡ x → IsMultipleAt x
      there at = elim (two_cases (differs_at m row factor model (64 * chunk + x % 64))) [
        | inr d ↦ subst (λ (z : ℕ). IsMultipleAt z) at (differs_not (entry m row (64 * chunk + x % 64)) (factor *ℤ entry m model (64 * chunk + x % 64)) d)
        | inl d ↦ absurd (elim (seen_or_found (has_bit word (x % 64)) (differs_at m row factor model (64 * chunk + x % 64)) (is_inside lines (64 * chunk + x % 64)) (is (x % 64) (omega arith)) d) [
          | inl s ↦ not_both (is_inside after x) (kept x (subst (λ (z : ℕ). is_inside lines z ≡ true) at s)) e
          | inr b ↦ not_both (is_inside after x) (subst (λ (z : ℕ). is_inside after z ≡ true) at (taken (x % 64) (omega arith) b)) e
        ])
      ]

  -- a line of a chunk that is inside and differs
  pub chunk_unlike : IsMatrix m → row < height m → model < height m → (chunk : ℕ) (lines : Growth) → m.width ≡ lines.inside.size
      → (k : ℕ) × (k < 64) × (differs_at m row factor model (64 * chunk + k) ≡ true) × (is_inside lines (64 * chunk + k) ≡ true)
      → DecidesUnlike true IsMultipleAt lines
  chunk_unlike shape row_in model_in chunk lines width (k, s, d, e) =
      let low = difference_in m row factor model (64 * chunk + k) shape row_in model_in d in
      (64 * chunk + k, omega arith, e, differing (64 * chunk + k) d)

  -- no line of a chunk is inside and differs
  pub chunk_alike : (chunk : ℕ) (lines : Growth) → ((x : ℕ) → x < 64 * chunk → is_inside lines x ≡ true → IsMultipleAt x)
      → ¬ ((k : ℕ) × (k < 64) × (differs_at m row factor model (64 * chunk + k) ≡ true) × (is_inside lines (64 * chunk + k) ≡ true))
      → (x : ℕ) → x < 64 * (chunk + 1) → is_inside lines x ≡ true → IsMultipleAt x
  chunk_alike chunk lines done none x l e = elim (cases_lt x (64 * chunk)) [
    | inl h ↦ done x h e
    | inr h ↦ there (omega arith)
  ]
    where
      there : 64 * chunk + x % 64 ≡ x → IsMultipleAt x
      there at = elim (two_cases (differs_at m row factor model (64 * chunk + x % 64))) [
        | inr d ↦ subst (λ (z : ℕ). IsMultipleAt z) at (differs_not (entry m row (64 * chunk + x % 64)) (factor *ℤ entry m model (64 * chunk + x % 64)) d)
        | inl d ↦ absurd (none (x % 64, omega arith, d, subst (λ (z : ℕ). is_inside lines z ≡ true) (sym at) e))
      ]
