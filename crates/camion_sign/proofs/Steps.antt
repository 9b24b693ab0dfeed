-- The state of a walk, as lists.
use Rattle.std.proofs.Common.{ℕ, zero, suc, ◌+◌, ◌-◌, ◌*◌, ◌&&◌, not, ap₂, Bool, true, false, List, [], ◌∷◌, ◌++◌, ◌≡◌, ◌≢◌, ◌<◌, ◌≤◌, ℤ, pos, ◌+ℤ◌, length, get_or, set, replicate, ◌⊎◌, inl, inr, ◌∙◌, sym, ap, refl, arith, subst, get_or-set_same, get_or-set_other, length-set, add-one}
use Rattle.std.proofs.lemmas.Bool.{cases_lt, cases_eq}
use Rattle.std.proofs.lemmas.List.{get_or_append_left, get_or_past, length-replicate}
use Rattle.std.proofs.Math.Seq.{get_or-append_seam}
use Rattle.cmr_base.specs.BitSets.{Bits}
use Rattle.cmr_base.specs.Matrix.{Matrix, height, entry, IsMatrix, row_of, transposed}
use Rattle.cmr_base.specs.ColumnSets.{has_column}
use Rattle.cmr_base.specs.CyclePlaces.{IsPath}
use Rattle.cmr_base.proofs.Booleans.{nonzero_is, not_both, true_is_false, two_cases, zero_is}
use Rattle.cmr_base.proofs.Lists.{get_or-replicated, length-more}
use Rattle.cmr_base.proofs.Parts.{entry-transposed, height-transposed}
use Rattle.camion_sign.specs.declared.walk.ReachedColumn.{ReachedColumn}
use Rattle.camion_sign.specs.declared.walk.Walk.{Walk}
use Rattle.camion_sign.specs.NearColumns.{AreWaiting}
use Rattle.camion_sign.specs.Trails.{IsUpTo}
use Rattle.camion_sign.specs.Walks.{IsReachingChunk, is_fresh, Progress, IsQueue, IsWanted, Goes, IsMet, IsPrefix, IsSettled, TwoIf, flip, step_at, place_in, progress, AreInStep, HasOneMore, HasPlacesAndMarks, IsWalking, IsReaching, IsOpen, GrowsFrom, IsUntouched, NoneWaits, IsSpreading, HasSettled, IsGoing, HasWalked}
use Rattle.cmr_base.specs.Planes.{has_bit}
use Rattle.cmr_base.specs.Trees.{support}
use Rattle.cmr_base.proofs.ColumnWords.{column_at}
use Rattle.camion_sign.proofs.FreshColumns.{fresh_is, not_fresh}
use Rattle.camion_sign.proofs.Trails.{path_trail}
use Rattle.camion_sign.proofs.Walks.{IsOneMore, few, fewer, met_before, next, settles, least, all_met, all_settled, begin, with_key, kept_here, reached, visit}

pub within : (m : Matrix) (row x : ℕ) → IsMatrix m → row < height m → entry m row x ≢ pos 0 → x < m.width
within m row x is l h = elim (cases_lt x m.width) [
  | inl lt ↦ lt
  | inr ge ↦ absurd (h (get_or_past (row_of m row) x (pos 0) (let e = is.rectangular row l in omega arith)))
]

-- a zero of the matrix by its rows is one of the matrix
pub row_zero : (m rows : Matrix) (r x : ℕ) → rows ≡ m → support rows r x ≡ false → entry m r x ≡ pos 0
row_zero m rows r x same none = zero_is (entry m r x) (sym (ap (λ (a : Matrix). support a r x) same) ∙ none)

-- a nonzero of the matrix by its rows is one of the matrix
pub row_one : (m rows : Matrix) (r x : ℕ) → rows ≡ m → support rows r x ≡ true → entry m r x ≢ pos 0
row_one m rows r x same one = nonzero_is (entry m r x) (sym (ap (λ (a : Matrix). support a r x) same) ∙ one)

-- what holds for the nonzeros before `from` and for the next one holds for all nonzeros up to the next one
pub column_after : (m rows : Matrix) (row from column : ℕ) (P : ℕ → Type 0) → rows ≡ m → ((x : ℕ) → from ≤ x → x < column → support rows row x ≡ false)
    → ((x : ℕ) → x < from → entry m row x ≢ pos 0 → P x) → P column
    → (x : ℕ) → x < column + 1 → entry m row x ≢ pos 0 → P x
column_after m rows row from column P same zeros before here x l one = elim (cases_lt x from) [
  | inl low ↦ before x low one
  | inr high ↦ elim (cases_lt x column) [
    | inl between ↦ absurd (one (row_zero m rows row x same (zeros x high between)))
    | inr last ↦ let is : column ≡ x = omega (arith, l, last) in subst P is here
  ]
]

-- a column is a row of the transposed matrix
pub column_inside : (m columns : Matrix) (x : ℕ) → columns ≡ transposed m → x < m.width → x < height columns
column_inside m columns x same inside = subst (λ (a : Matrix). x < height a) (sym same) (omega (arith, inside, height-transposed m))

-- a zero of the transposed matrix is one of the matrix
pub column_zero : (m columns : Matrix) (r x : ℕ) → IsMatrix m → columns ≡ transposed m → support columns x r ≡ false → entry m r x ≡ pos 0
column_zero m columns r x is same none = sym (entry-transposed m r x is) ∙ zero_is (entry (transposed m) x r) (sym (ap (λ (a : Matrix). support a x r) same) ∙ none)

-- a nonzero of the transposed matrix is one of the matrix
pub column_one : (m columns : Matrix) (r x : ℕ) → IsMatrix m → columns ≡ transposed m → support columns x r ≡ true → entry m r x ≢ pos 0
column_one m columns r x is same one zero_there = nonzero_is (entry (transposed m) x r) (sym (ap (λ (a : Matrix). support a x r) same) ∙ one) (entry-transposed m r x is ∙ zero_there)

-- the lists after the walk has reached another column
one_more : (steps : List ReachedColumn) (places used : List ℕ) (x r h : ℕ) (two : Bool) → x < length places
    → IsOneMore (progress steps places used) (progress (steps ++ record { column = x; row = r; before = h; is_two = two } ∷ []) (set places x (length steps)) used) x r h two
one_more steps places used x r h two l = record {
  count = length-more steps (record { column = x; row = r; before = h; is_two = two });
  column = ap (λ v. v.column) last;
  columns = λ j m. ap (λ v. v.column) (before j m);
  row = ap (λ v. v.row) last;
  rows = λ j m. ap (λ v. v.row) (before j m);
  before = ap (λ v. v.before) last;
  befores = λ j m. ap (λ v. v.before) (before j m);
  is_two = ap (λ v. v.is_two) last;
  twos = λ j m. ap (λ v. v.is_two) (before j m);
  place = get_or-set_same places x (length steps) 4294967295 l;
  places = λ z q. get_or-set_other places x z (length steps) 4294967295 q;
  used = λ q. refl;
}
  where
    last : step_at (steps ++ record { column = x; row = r; before = h; is_two = two } ∷ []) (length steps) ≡ record { column = x; row = r; before = h; is_two = two }
    last = get_or-append_seam steps (record { column = x; row = r; before = h; is_two = two }) [] (record { column = 0; row = 0; before = 0; is_two = false })

    before : (j : ℕ) → j < length steps → step_at (steps ++ record { column = x; row = r; before = h; is_two = two } ∷ []) j ≡ step_at steps j
    before j m = get_or_append_left steps (record { column = x; row = r; before = h; is_two = two } ∷ []) (record { column = 0; row = 0; before = 0; is_two = false }) j m

pub any_default : (xs : List ℕ) (i d e : ℕ) → i < length xs → get_or xs i d ≡ get_or xs i e
any_default [] i d e l = absurd (omega arith)
any_default (x ∷ xs) zero d e l = refl
any_default (x ∷ xs) (suc i) d e l = any_default xs i d e (omega arith)

pub any_step : (xs : List ReachedColumn) (i : ℕ) (d e : ReachedColumn) → i < length xs → get_or xs i d ≡ get_or xs i e
any_step [] i d e l = absurd (omega arith)
any_step (x ∷ xs) zero d e l = refl
any_step (x ∷ xs) (suc i) d e l = any_step xs i d e (omega arith)

pub step_is : (steps : List ReachedColumn) (j : ℕ) (step : ReachedColumn) → j < length steps → step ≡ get_or steps j step → step_at steps j ≡ step
step_is steps j step l e = any_step steps j (record { column = 0; row = 0; before = 0; is_two = false }) step l ∙ sym e

same_progress : (walk : Walk) (steps : List ReachedColumn) (places used : List ℕ) → walk.steps.items ≡ steps → walk.places.items ≡ places → walk.used.words ≡ used
    → progress walk.steps.items walk.places.items walk.used.words ≡ progress steps places used
same_progress walk steps places used e f g =
    ap (λ (v : List ReachedColumn). progress v walk.places.items walk.used.words) e ∙ ap (λ (v : List ℕ). progress steps v walk.used.words) f ∙ ap (λ (v : List ℕ). progress steps places v) g

grows_same : (walk : Walk) → GrowsFrom walk walk
grows_same walk = record { longer = omega arith; steps = λ j l. refl; places = λ x l. l }

-- ---- the columns of a row

pub start_row : (m values : Matrix) (t c h r : ℕ) (from : ReachedColumn) (walk : Walk) → IsWalking m values t c h r walk → IsOpen m t h walk
    → from ≡ get_or walk.steps.items h from → IsReaching m values t c h r 0 from walk walk
start_row m values t c h r from walk w o e = record {
  fits = w.fits;
  in_step = w.in_step;
  grows = grows_same walk;
  used = refl;
  within = o.within;
  from_is = step_is walk.steps.items h from o.within e;
  key = w.key;
  prefix = fewer (entry m) (entry values) t c m.width (progress walk.steps.items walk.places.items walk.used.words) w.key h (λ s x. r ≤ s) (λ s x. (r < s) ⊎ ((r ≡ s) × (0 ≤ x))) w.prefix
      (λ s x q. elim q [ inl l ↦ omega arith | inr p ↦ let f = p.0 in omega arith ]);
  met = λ x l. absurd (omega arith);
}

module _ (m values : Matrix) (t c h r low : ℕ) (from : ReachedColumn) (old walk : Walk) (w : IsReaching m values t c h r low from old walk) where
  -- a column that the walk has reached before is met
  passed : (x : ℕ) → low ≤ x → place_in walk.places.items x < 4294967295
      → IsMet (entry m) (entry values) t c m.width (progress walk.steps.items walk.places.items walk.used.words) w.key x (w.key h ++ r ∷ x ∷ [])
  passed x after met = met_before (entry m) (entry values) t c m.width (progress walk.steps.items walk.places.items walk.used.words) w.key h r x (λ s y. (r < s) ⊎ ((r ≡ s) × (low ≤ y))) w.prefix w.within met (inr (refl, after))

  -- the walk has reached the columns of the row below `high` before
  pub pass_columns : (high : ℕ) → low ≤ high
      → ((x : ℕ) → low ≤ x → x < high → entry m r x ≢ pos 0 → IsWanted (entry m) t c x → place_in walk.places.items x < 4294967295)
      → IsReaching m values t c h r high from old walk
  pass_columns high up there = record {
    fits = w.fits;
    in_step = w.in_step;
    grows = w.grows;
    used = w.used;
    within = w.within;
    from_is = w.from_is;
    key = w.key;
    prefix = fewer (entry m) (entry values) t c m.width (progress walk.steps.items walk.places.items walk.used.words) w.key h (λ s x. (r < s) ⊎ ((r ≡ s) × (low ≤ x))) (λ s x. (r < s) ⊎ ((r ≡ s) × (high ≤ x))) w.prefix
        (λ s x q. elim q [ inl l ↦ inl l | inr p ↦ inr (p.0, (let f = p.1 in omega arith)) ]);
    met = λ x l n z. elim (cases_lt x low) [
      | inl before ↦ w.met x before n z
      | inr after ↦ passed x after (there x after l n z)
    ];
  }

  -- all columns of the row are met, if those from `low` on are reached
  pub met_all : ((x : ℕ) → low ≤ x → entry m r x ≢ pos 0 → IsWanted (entry m) t c x → place_in walk.places.items x < 4294967295) → (x : ℕ) → entry m r x ≢ pos 0
      → IsWanted (entry m) t c x
      → IsMet (entry m) (entry values) t c m.width (progress walk.steps.items walk.places.items walk.used.words) w.key x (w.key h ++ r ∷ x ∷ [])
  met_all rest x n z = elim (cases_lt x low) [
    | inl before ↦ w.met x before n z
    | inr after ↦ passed x after (rest x after n z)
  ]

-- the walk reaches a column of the row now
module _ (m values : Matrix) (t c h r x : ℕ) (from : ReachedColumn) (old walk : Walk) (w : IsReaching m values t c h r x from old walk) where
  pub reach_column : (walk2 : Walk) (same : Bool) → x < m.width → entry m r x ≢ pos 0 → place_in walk.places.items x ≡ 4294967295
      → Goes (entry m) (entry values) t c m.width (progress walk.steps.items walk.places.items walk.used.words) w.key h → r < t → entry m r from.column ≢ pos 0
      → TwoIf same (entry values r from.column +ℤ entry values r x)
      → walk2.steps.items ≡ walk.steps.items ++ record { column = x; row = r; before = h; is_two = flip from.is_two same } ∷ []
      → walk2.places.items ≡ set walk.places.items x (length walk.steps.items) → walk2.used ≡ walk.used
      → walk2.reached.size ≡ walk.reached.size → AreInStep m t c walk2.places.items walk2.reached
      → IsReaching m values t c h r (x + 1) from old walk2
  reach_column walk2 same low to unmet goes early leads two steps2 places2 used2 columns2 in_step2 = record {
    fits = record {
      matrix = w.fits.matrix;
      rows = ap (λ (set : Bits). set.size) used2 ∙ w.fits.rows;
      columns = columns2 ∙ w.fits.columns;
      one_each = ap length places2 ∙ length-set walk.places.items x (length walk.steps.items) ∙ w.fits.one_each ∙ sym columns2;
    };
    in_step = in_step2;
    grows = record {
      longer = let a = w.grows.longer in let b = more in omega arith;
      steps = λ j l. kept j (let a = w.grows.longer in omega arith) ∙ w.grows.steps j l;
      places = λ y l. rw places2 (grown y (w.grows.places y l));
    };
    used = used2 ∙ w.used;
    within = let a = w.within in let b = more in omega arith;
    from_is = kept h w.within ∙ w.from_is;
    key = with_key M V t c m.width s s' w.key h r x same;
    prefix = subst (λ (v : Progress). IsPrefix M V t c m.width v (with_key M V t c m.width s s' w.key h r x same) h Q) (sym now) (visit M V t c m.width s s' w.key h r x same P Q top_width w.prefix w.within one unmet' goes early leads' to low (inr (refl, omega arith)) two' still);
    met = λ y l n z. subst (λ (v : Progress). IsMet M V t c m.width v (with_key M V t c m.width s s' w.key h r x same) y (with_key M V t c m.width s s' w.key h r x same h ++ r ∷ y ∷ [])) (sym now) (elim (cases_lt y x) [
      | inl lt ↦ kept_here M V t c m.width s s' w.key h r x same P Q top_width w.prefix w.within one unmet' y r y (w.met y lt n z)
      | inr ge ↦ let q : x ≡ y = omega arith in
          subst (λ (z : ℕ). IsMet M V t c m.width s' (with_key M V t c m.width s s' w.key h r x same) z (with_key M V t c m.width s s' w.key h r x same h ++ r ∷ z ∷ [])) q
          (reached M V t c m.width s s' w.key h r x same P Q top_width w.prefix w.within one unmet')
    ]);
  }
    where
      M : ℕ → ℕ → ℤ
      M = entry m

      V : ℕ → ℕ → ℤ
      V = entry values

      new : ReachedColumn
      new = record { column = x; row = r; before = h; is_two = flip from.is_two same }

      s : Progress
      s = progress walk.steps.items walk.places.items walk.used.words

      s' : Progress
      s' = progress (walk.steps.items ++ new ∷ []) (set walk.places.items x (length walk.steps.items)) walk.used.words

      P : ℕ → ℕ → Type 0
      P q y = (r < q) ⊎ ((r ≡ q) × (x ≤ y))

      Q : ℕ → ℕ → Type 0
      Q q y = (r < q) ⊎ ((r ≡ q) × (x + 1 ≤ y))

      now : progress walk2.steps.items walk2.places.items walk2.used.words ≡ s'
      now = same_progress walk2 (walk.steps.items ++ new ∷ []) (set walk.places.items x (length walk.steps.items)) walk.used.words steps2 places2 (ap (λ (set : Bits). set.words) used2)

      top_width : m.width < 4294967295
      top_width = let a = w.fits.matrix.width_in in omega arith

      one : IsOneMore s s' x r h (flip (s.is_two h) same)
      one = subst (λ (step : ReachedColumn). IsOneMore s (progress (walk.steps.items ++ record { column = x; row = r; before = h; is_two = flip step.is_two same } ∷ []) (set walk.places.items x (length walk.steps.items)) walk.used.words) x r h (flip (s.is_two h) same))
          w.from_is (one_more walk.steps.items walk.places.items walk.used.words x r h (flip (s.is_two h) same) (omega (arith, w.fits.one_each, w.fits.columns)))

      unmet' : place_in walk.places.items x ≡ 4294967295
      unmet' = unmet

      leads' : M r (s.column h) ≢ pos 0
      leads' = subst (λ (step : ReachedColumn). M r step.column ≢ pos 0) (sym w.from_is) leads

      two' : TwoIf same (V r (s.column h) +ℤ V r x)
      two' = subst (λ (step : ReachedColumn). TwoIf same (V r step.column +ℤ V r x)) (sym w.from_is) two

      still : (q y : ℕ) → Q q y → P q y × ((r < q) ⊎ ((r ≡ q) × (x < y)))
      still q y (inl l) = (inl l, inl l)
      still q y (inr p) = (inr (p.0, (let f = p.1 in omega arith)), inr (p.0, (let f = p.1 in omega arith)))

      more : length walk2.steps.items ≡ suc (length walk.steps.items)
      more = ap length steps2 ∙ length-more walk.steps.items new

      kept : (j : ℕ) → j < length walk.steps.items → step_at walk2.steps.items j ≡ step_at walk.steps.items j
      kept j l = ap (λ (steps : List ReachedColumn). step_at steps j) steps2 ∙ get_or_append_left walk.steps.items (new ∷ []) (record { column = 0; row = 0; before = 0; is_two = false }) j l

      grown : (y : ℕ) → place_in walk.places.items y < 4294967295 → place_in (set walk.places.items x (length walk.steps.items)) y < 4294967295
      grown y l = elim (cases_eq y x) [
        | inl q ↦ absurd (let e = ap (place_in walk.places.items) q in let u = unmet' in omega arith)
        | inr q ↦ let e = get_or-set_other walk.places.items x y (length walk.steps.items) 4294967295 q in omega arith
      ]

-- the walk has reached all columns of the row: the row is taken
pub end_row : (m values : Matrix) (t c h r low : ℕ) (from : ReachedColumn) (old walk walk2 : Walk) → IsReaching m values t c h r low from old walk
    → ((x : ℕ) → low ≤ x → entry m r x ≢ pos 0 → IsWanted (entry m) t c x → place_in walk.places.items x < 4294967295)
    → walk2.steps.items ≡ walk.steps.items → walk2.places.items ≡ walk.places.items → HasOneMore walk.used r walk2.used → walk2.reached ≡ walk.reached → IsWalking m values t c h (r + 1) walk2
end_row m values t c h r low from old walk walk2 w rest steps2 places2 used2 reached2 = record {
  fits = record {
    matrix = w.fits.matrix;
    rows = used2.size ∙ w.fits.rows;
    columns = ap (λ (set : Bits). set.size) reached2 ∙ w.fits.columns;
    one_each = ap length places2 ∙ w.fits.one_each ∙ sym (ap (λ (set : Bits). set.size) reached2);
  };
  in_step = subst (λ (v : List ℕ). AreInStep m t c v walk2.reached) (sym places2) (subst (AreInStep m t c walk.places.items) (sym reached2) w.in_step);
  key = w.key;
  prefix = subst (λ (v : Progress). IsPrefix (entry m) (entry values) t c m.width v w.key h (λ s x. r + 1 ≤ s)) (sym (same_progress walk2 walk.steps.items walk.places.items walk2.used.words steps2 places2 refl)) (record {
    queue = record {
      some = w.prefix.queue.some;
      first = w.prefix.queue.first;
      start = w.prefix.queue.start;
      inside = w.prefix.queue.inside;
      placed = w.prefix.queue.placed;
      listed = w.prefix.queue.listed;
      topped = w.prefix.queue.topped;
      sorted = w.prefix.queue.sorted;
      trail = w.prefix.queue.trail;
      ends = w.prefix.queue.ends;
      sums = w.prefix.queue.sums;
      earlier = w.prefix.queue.earlier;
      parent = w.prefix.queue.parent;
    };
    fits = w.prefix.fits;
    done = w.prefix.done;
    gone = λ s x u n z. elim (used2.only s u) [
      | inl q ↦
          let met' = met_all m values t c h r low from old walk w rest x (subst (λ (y : ℕ). entry m y x ≢ pos 0) q n) z in
          (met'.0, λ k. subst (λ (y : ℕ). IsUpTo (w.key (place_in walk.places.items x)) (w.key h ++ y ∷ x ∷ [])) (sym q) met'.1)
      | inr old_is ↦ w.prefix.gone s x old_is n z
    ];
    prefix = λ j s x a b q. w.prefix.prefix j s x a b (inl (omega arith));
  });
}

pub same_goes : (m values : Matrix) (t c h r low : ℕ) (from : ReachedColumn) (old walk : Walk) (w : IsReaching m values t c h r low from old walk)
    → IsOpen m t h old → Goes (entry m) (entry values) t c m.width (progress walk.steps.items walk.places.items walk.used.words) w.key h
same_goes m values t c h r low from old walk w o = elim o.goes [ inl z ↦ inl z | inr z ↦ inr (ap (λ (v : ReachedColumn). entry m t v.column) (w.grows.steps h o.within) ∙ z) ]

-- ---- the columns of a word

-- what a walk reaches from itself on
pub reach_self : (m values : Matrix) (t c h r low : ℕ) (from : ReachedColumn) (old walk : Walk) → IsReaching m values t c h r low from old walk
    → IsReaching m values t c h r low (step_at walk.steps.items h) walk walk
reach_self m values t c h r low from old walk w = record {
  fits = w.fits;
  in_step = w.in_step;
  grows = grows_same walk;
  used = refl;
  within = w.within;
  from_is = refl;
  key = w.key;
  prefix = w.prefix;
  met = w.met;
}

pub reach_more : (m values : Matrix) (t c h r low high : ℕ) (from : ReachedColumn) (old walk walk2 : Walk) → IsReaching m values t c h r low from old walk
    → IsReaching m values t c h r high (step_at walk.steps.items h) walk walk2 → IsReaching m values t c h r high from old walk2
reach_more m values t c h r low high from old walk walk2 w v = record {
  fits = v.fits;
  in_step = v.in_step;
  grows = record {
    longer = let a = w.grows.longer in let b = v.grows.longer in omega arith;
    steps = λ j l. v.grows.steps j (let a = w.grows.longer in omega arith) ∙ w.grows.steps j l;
    places = λ x l. v.grows.places x (w.grows.places x l);
  };
  used = v.used ∙ w.used;
  within = v.within;
  from_is = v.from_is ∙ w.from_is;
  key = v.key;
  prefix = v.prefix;
  met = v.met;
}

pub start_chunk : (m values : Matrix) (t c h r chunk rest : ℕ) (from : ReachedColumn) (old walk : Walk) (columns : List ℕ)
    → IsReaching m values t c h r (64 * chunk) from old walk → ((x : ℕ) → has_column columns x ≡ support m r x)
    → ((k : ℕ) → k < 64 → has_bit rest k ≡ (has_bit (get_or columns chunk 0) k && not (has_bit (get_or walk.reached.words chunk 0) k))) → IsReachingChunk m values t c h r chunk rest from old walk
start_chunk m values t c h r chunk rest from old walk columns w are bits = record {
  low = 64 * chunk;
  up = omega arith;
  inside = omega arith;
  state = w;
  open_bit = λ k l h. let fresh = fresh_is m t c r columns walk.places.items walk.reached are w.in_step (64 * chunk + k) (sym (bit k l) ∙ h) in (omega arith, fresh.0, fresh.1);
  closed_bit = λ k l h up n z. not_fresh m t c r columns walk.places.items walk.reached are w.in_step (64 * chunk + k) (sym (bit k l) ∙ h) n z;
}
  where
    bit : (k : ℕ) → k < 64 → has_bit rest k ≡ is_fresh columns walk.reached.words (64 * chunk + k)
    bit k l = bits k l ∙ ap₂ (λ a b. a && not b) (sym (column_at columns chunk k l)) (sym (column_at walk.reached.words chunk k l))

module _ (m values : Matrix) (t c h r chunk rest : ℕ) (from : ReachedColumn) (old walk : Walk) (w : IsReachingChunk m values t c h r chunk rest from old walk) where
  -- the columns below a bit are passed, if they have no bit
  pub pass_bits : (bit : ℕ) → bit ≤ 64 → w.low ≤ 64 * chunk + bit → ((k : ℕ) → k < bit → has_bit rest k ≡ false) → IsReaching m values t c h r (64 * chunk + bit) from old walk
  pass_bits bit small low none = pass_columns m values t c h r w.low from old walk w.state (64 * chunk + bit) low (λ x up below n z.
      let up2 = w.up in
      let at : 64 * chunk + (x - 64 * chunk) ≡ x = omega arith in
      subst (λ (y : ℕ). place_in walk.places.items y < 4294967295) at (w.closed_bit (x - 64 * chunk) (omega arith) (none (x - 64 * chunk) (omega arith)) (omega arith)
      (subst (λ (y : ℕ). entry m r y ≢ pos 0) (sym at) n) (subst (IsWanted (entry m) t c) (sym at) z)))

  -- the walk has reached the column of the bit
  pub next_bit : (bit rest2 place : ℕ) (walk2 : Walk) → bit < 64 → IsReaching m values t c h r (64 * chunk + bit + 1) from old walk2
      → walk2.places.items ≡ set walk.places.items (64 * chunk + bit) place
      → w.low ≤ 64 * chunk + bit → has_bit rest2 bit ≡ false → ((k : ℕ) → k < bit → has_bit rest k ≡ false)
      → ((k : ℕ) → k < 64 → k ≢ bit → has_bit rest2 k ≡ has_bit rest k) → IsReachingChunk m values t c h r chunk rest2 from old walk2
  next_bit bit rest2 place walk2 small state places2 low gone none same = record {
    low = 64 * chunk + bit + 1;
    up = omega arith;
    inside = omega arith;
    state = state;
    open_bit = λ k l h.
        let other : k ≢ bit = λ e. not_both (has_bit rest2 bit) (ap (has_bit rest2) (sym e) ∙ h) gone in
        let before = w.open_bit k l (sym (same k l other) ∙ h) in
        let after : bit < k = (elim (cases_lt k bit) [ inl lt ↦ absurd (not_both (has_bit rest k) (sym (same k l other) ∙ h) (none k lt)) | inr ge ↦ omega (arith, ge, other) ]) in
        (omega arith, before.1, still k other ∙ before.2);
    closed_bit = λ k l h up n z.
        let other : k ≢ bit = λ e. omega arith in
        rw (still k other) (w.closed_bit k l (sym (same k l other) ∙ h) (omega arith) n z);
  }
    where
      still : (k : ℕ) → k ≢ bit → place_in walk2.places.items (64 * chunk + k) ≡ place_in walk.places.items (64 * chunk + k)
      still k other = ap (λ (v : List ℕ). place_in v (64 * chunk + k)) places2 ∙ get_or-set_other walk.places.items (64 * chunk + bit) (64 * chunk + k) place 4294967295 (λ e. other (omega arith))

-- ---- the rows of a column

pub start_rows : (m values : Matrix) (t c h pending : ℕ) (walk : Walk) → IsWalking m values t c h 0 walk → IsOpen m t h walk → pending ≤ m.width
    → NoneWaits m t c pending walk.places.items → IsSpreading m values t c h 0 pending walk walk
start_rows m values t c h pending walk w o l waits = record {
  walking = w;
  low_in = omega arith;
  gone = λ r a. absurd (omega arith);
  open_is = o;
  column_is = refl;
  pending_in = l;
  waits = waits;
}

module _ (m values : Matrix) (t c h low : ℕ) (old walk : Walk) {pending : ℕ} (w : IsSpreading m values t c h low pending old walk) where
  -- the walk has taken each row below `high` that meets the column
  taken_below : (high : ℕ) → ((r : ℕ) → low ≤ r → r < high → entry m r (step_at old.steps.items h).column ≢ pos 0 → has_column walk.used.words r ≡ true)
      → (r : ℕ) → r < high → entry m r (step_at old.steps.items h).column ≢ pos 0 → has_column walk.used.words r ≡ true
  taken_below high between r below leads = elim (cases_lt r low) [
    | inl before ↦ w.gone r before leads
    | inr after ↦ between r after below leads
  ]

  -- the walk passes to a later row
  pub walks_from : (row : ℕ) → low ≤ row → IsWalking m values t c h row walk
  walks_from row up = record {
    fits = w.walking.fits;
    in_step = w.walking.in_step;
    key = w.walking.key;
    prefix = fewer (entry m) (entry values) t c m.width (progress walk.steps.items walk.places.items walk.used.words) w.walking.key h (λ s x. low ≤ s) (λ s x. row ≤ s) w.walking.prefix (λ s x l. omega arith);
  }

  -- the walk takes the next row now
  pub take_row : (row : ℕ) (walk1 : Walk) (pending1 : ℕ) → row < t → ((r : ℕ) → low ≤ r → r < row → entry m r (step_at old.steps.items h).column ≢ pos 0 → has_column walk.used.words r ≡ true)
      → IsWalking m values t c h (row + 1) walk1 → GrowsFrom walk walk1 → HasOneMore walk.used row walk1.used
      → pending ≤ pending1 → pending1 ≤ m.width → ((d : ℕ) → c < d → pending ≤ d → d < pending1 → entry m t d ≢ pos 0 → (place_in walk1.places.items d ≢ 4294967295) ⊎ IsUntouched m t d)
      → IsSpreading m values t c h (row + 1) pending1 old walk1
  take_row row walk1 pending1 early between walking grows used le wide waits = record {
    walking = walking;
    low_in = omega arith;
    gone = λ r a leads. elim (cases_lt r row) [
      | inl lt ↦ used.kept r (taken_below row between r lt leads)
      | inr ge ↦ let q : row ≡ r = omega arith in subst (λ (y : ℕ). has_column walk1.used.words y ≡ true) q used.here
    ];
    open_is = record {
      within = let a = w.open_is.within in let b = grows.longer in omega arith;
      goes = elim w.open_is.goes [ inl z ↦ inl z | inr z ↦ inr (ap (λ (v : ReachedColumn). entry m t v.column) (grows.steps h w.open_is.within) ∙ z) ];
    };
    column_is = ap (λ (v : ReachedColumn). v.column) (grows.steps h w.open_is.within) ∙ w.column_is;
    pending_in = wide;
    waits = λ d a b n. elim (cases_lt d pending) [
      | inl lt ↦ elim (w.waits d a lt n) [
        | inl l ↦ inl (λ e. let g = grows.places d (let b = w.walking.prefix.queue.topped d in omega arith) in omega arith)
        | inr u ↦ inr u
      ]
      | inr ge ↦ waits d a ge b n
    ];
  }

  -- the rows before t are done: the walk has taken each row from `low` on that meets the column, or the rest is not before t
  pub end_rows : ((r : ℕ) → low ≤ r → r < t → entry m r (step_at old.steps.items h).column ≢ pos 0 → has_column walk.used.words r ≡ true) → IsWalking m values t c (h + 1) 0 walk
  end_rows rest = subst (λ (n : ℕ). IsWalking m values t c n 0 walk) (sym (add-one h)) (record {
    fits = w.walking.fits;
    in_step = w.walking.in_step;
    key = w.walking.key;
    prefix = next (entry m) (entry values) t c m.width (progress walk.steps.items walk.places.items walk.used.words) w.walking.key h t 0 (λ s x. low ≤ s) (λ s x. 0 ≤ s) w.walking.prefix w.open_is.within w.low_in
        (λ r goes early leads. taken_below t rest r early (leads_old r leads));
  })
    where
      leads_old : (r : ℕ) → entry m r (step_at walk.steps.items h).column ≢ pos 0 → entry m r (step_at old.steps.items h).column ≢ pos 0
      leads_old r = subst (λ (y : ℕ). entry m r y ≢ pos 0) w.column_is

  -- no column waits: the walk may end here
  pub settle_rows : HasSettled m values t c walk
  settle_rows = record {
    fits = w.walking.fits;
    key = w.walking.key;
    queue = w.walking.prefix.queue;
    settled = settles (entry m) (entry values) t c m.width (progress walk.steps.items walk.places.items walk.used.words) w.walking.key h t 0 (λ s x. low ≤ s) w.walking.prefix w.open_is.within w.low_in
        (λ r x early leads. elim (cases_lt r low) [
          | inl before ↦ inl (w.gone r before (subst (λ (y : ℕ). entry m r y ≢ pos 0) w.column_is leads))
          | inr after ↦ inr after
        ]);
  }

-- ---- waiting last columns

-- an earlier row does not meet a column whose first nonzero is in row t or later
pub untouched : (m columns : Matrix) (t x : ℕ) → IsMatrix m → columns ≡ transposed m → ((r : ℕ) → r < t → support columns x r ≡ false) → IsUntouched m t x
untouched m columns t x is same zeros r early meets = meets (column_zero m columns r x is same (zeros r early))

-- a column that does not wait is not met by an earlier row
pub waits_or : (m : Matrix) (t c from end : ℕ) (places columns : List ℕ) (reached : Bits) → AreInStep m t c places reached
    → AreWaiting m t (c + 1) (has_column columns) → ((d : ℕ) → from ≤ d → d < end → has_column columns d ≡ true → has_column reached.words d ≡ true)
    → (d : ℕ) → c < d → from ≤ d → d < end → entry m t d ≢ pos 0 → (place_in places d ≢ 4294967295) ⊎ IsUntouched m t d
waits_or m t c from end places columns reached step waiting met d order up below n = elim (two_cases (has_column columns d)) [
  | inl has ↦ inl (λ e. let l = step.has d (inr order) (met d up below has) in omega arith)
  | inr lacks ↦ inr (λ r early meets. true_is_false (sym (waiting d r (omega arith) n early meets) ∙ lacks))
]

-- ---- the whole walk

-- the first columns do not wait
pub pass_first : (m values : Matrix) (t c pending : ℕ) (walk : Walk) (columns : List ℕ) → IsGoing m values t c 0 (c + 1) walk
    → AreInStep m t c walk.places.items walk.reached → AreWaiting m t (c + 1) (has_column columns) → c + 1 ≤ pending → pending ≤ m.width
    → ((d : ℕ) → c + 1 ≤ d → d < pending → has_column columns d ≡ true → has_column walk.reached.words d ≡ true) → IsGoing m values t c 0 pending walk
pass_first m values t c pending walk columns g step waiting up inside met = record {
  state = elim g.state [ inl w ↦ inl w | inr s ↦ inr (let e = s.0 in omega arith, s.1) ];
  pending_in = inside;
  waits = λ d order below n. waits_or m t c (c + 1) pending walk.places.items columns walk.reached step waiting met d order (omega arith) below n;
}

pub begin_walk : (m values : Matrix) (t c : ℕ) (walk walk2 : Walk) → HasPlacesAndMarks m walk → c < m.width → walk2.steps.items ≡ record { column = c; row = 0; before = 0; is_two = false } ∷ []
    → walk2.places.items ≡ set (replicate (length walk.places.items) 4294967295) c 0 → walk2.used.size ≡ walk.used.size → ((r : ℕ) → has_column walk2.used.words r ≡ false)
    → walk2.reached.size ≡ walk.reached.size → AreInStep m t c walk2.places.items walk2.reached → IsGoing m values t c 0 (c + 1) walk2
begin_walk m values t c walk walk2 f l steps2 places2 rows2 unused columns2 in_step2 = record {
  state = inl (record {
    fits = record {
      matrix = f.matrix;
      rows = rows2 ∙ f.rows;
      columns = columns2 ∙ f.columns;
      one_each = ap length places2 ∙ length-set (replicate (length walk.places.items) 4294967295) c 0 ∙ length-replicate {A = ℕ} (length walk.places.items) 4294967295 ∙ f.one_each ∙ sym columns2;
    };
    in_step = in_step2;
    key = λ j. [];
    prefix = subst (λ (v : Progress). IsPrefix (entry m) (entry values) t c m.width v (λ j. []) 0 (λ r x. 0 ≤ r)) (sym (same_progress walk2 first (set (replicate (length walk.places.items) 4294967295) c 0) walk2.used.words steps2 places2 refl))
        (begin (entry m) (entry values) t c m.width (progress first (set (replicate (length walk.places.items) 4294967295) c 0) walk2.used.words) (λ r x. 0 ≤ r) l refl refl refl
        (get_or-set_same (replicate (length walk.places.items) 4294967295) c 0 4294967295 (omega (arith, length-replicate {A = ℕ} (length walk.places.items) 4294967295, f.one_each, f.columns)))
        (λ z q. get_or-set_other (replicate (length walk.places.items) 4294967295) c z 0 4294967295 q ∙ get_or-replicated (length walk.places.items) z 4294967295)
        unused);
  });
  pending_in = omega arith;
  waits = λ d a b. absurd (omega arith);
}
  where
    first : List ReachedColumn
    first = record { column = c; row = 0; before = 0; is_two = false } ∷ []

pub is_walking : (m values : Matrix) (t c h pending : ℕ) (walk : Walk) → IsGoing m values t c h pending walk → pending < m.width → IsWalking m values t c h 0 walk
is_walking m values t c h pending walk g l = elim g.state [ inl w ↦ w | inr s ↦ absurd (let e = s.0 in omega arith) ]

pub smaller : (m values : Matrix) (t c h pending : ℕ) (walk : Walk) → IsGoing m values t c h pending walk → pending < m.width → h < length walk.steps.items → m.width - (h + 1) < m.width - h
smaller m values t c h pending walk g l k =
    let w = is_walking m values t c h pending walk g l in
    let f = few (entry m) (entry values) t c m.width (progress walk.steps.items walk.places.items walk.used.words) w.key w.prefix.queue in omega arith

-- a trail cannot go on through a column in which row t is not 0
pub skip_place : (m values : Matrix) (t c h pending pending2 : ℕ) (walk walk2 : Walk) (step : ReachedColumn) → IsGoing m values t c h pending walk
    → pending < m.width → h < length walk.steps.items → h ≢ 0 → step ≡ get_or walk.steps.items h step → entry m t step.column ≢ pos 0
    → walk2 ≡ walk → pending2 ≡ pending → IsGoing m values t c (h + 1) pending2 walk2
skip_place m values t c h pending pending2 walk walk2 step g l k other step_is' n e f =
    subst (λ (v : Walk). IsGoing m values t c (h + 1) pending2 v) (sym e) (subst (λ (v : ℕ). IsGoing m values t c (h + 1) v walk) (sym f) (record {
      state = inl (subst (λ (v : ℕ). IsWalking m values t c v 0 walk) (sym (add-one h)) (record {
        fits = w.fits;
        in_step = w.in_step;
        key = w.key;
        prefix = next (entry m) (entry values) t c m.width (progress walk.steps.items walk.places.items walk.used.words) w.key h 0 0 (λ r x. 0 ≤ r) (λ r x. 0 ≤ r) w.prefix k (omega arith)
            (λ r goes early leads. absurd (elim goes [ inl z ↦ other z | inr z ↦ n (ap (λ (v : ReachedColumn). entry m t v.column) (sym (step_is walk.steps.items h step k step_is')) ∙ z) ]));
      }));
      pending_in = g.pending_in;
      waits = g.waits;
    }))
  where
    w : IsWalking m values t c h 0 walk
    w = is_walking m values t c h pending walk g l

pub went_on : (m values : Matrix) (t c h pending pending2 : ℕ) (walk walk2 : Walk)
    → IsWalking m values t c (h + 1) 0 walk ⊎ ((pending ≡ m.width) × HasSettled m values t c walk) → pending ≤ m.width
    → NoneWaits m t c pending walk.places.items → walk2 ≡ walk → pending2 ≡ pending → IsGoing m values t c (h + 1) pending2 walk2
went_on m values t c h pending pending2 walk walk2 state l waits e f =
    subst (λ (v : Walk). IsGoing m values t c (h + 1) pending2 v) (sym e) (subst (λ (v : ℕ). IsGoing m values t c (h + 1) v walk) (sym f) (record { state = state; pending_in = l; waits = waits }))

pub path_touches : (m : Matrix) (t c d : ℕ) (lines : List ℕ) → IsPath (entry m) t c d lines → (r : ℕ) × (r < t) × (entry m r d ≢ pos 0)
path_touches m t c d [] h = absurd h
path_touches m t c d (r ∷ []) h = (r, h.0, h.2)
path_touches m t c d (r ∷ j ∷ lines) h = path_touches m t j d lines h.4

pub end_walk : (m values : Matrix) (t c h pending : ℕ) (walk : Walk) → IsGoing m values t c h pending walk → t < height m
    → (length walk.steps.items ≤ h) ⊎ (m.width ≤ pending) → HasWalked m values t c walk
end_walk m values t c h pending walk g tall end = elim g.state [
  | inl w ↦ elim (cases_lt h (length walk.steps.items)) [
    | inl lt ↦ from_settled w.fits w.key w.prefix.queue
        (settles (entry m) (entry values) t c m.width (progress walk.steps.items walk.places.items walk.used.words) w.key h 0 0 (λ r x. 0 ≤ r) w.prefix lt (omega arith) (λ r x early leads. inr (omega arith)))
        (elim end [ inl l ↦ absurd (omega arith) | inr l ↦ l ])
    | inr ge ↦ from_all w (let k = w.prefix.fits in omega arith)
  ]
  | inr s ↦ from_settled s.1.fits s.1.key s.1.queue s.1.settled (let e = s.0 in omega arith)
]
  where
    from_settled : HasPlacesAndMarks m walk → (key : ℕ → List ℕ)
        → IsQueue (entry m) (entry values) t c m.width (progress walk.steps.items walk.places.items walk.used.words) key
        → IsSettled (entry m) (entry values) t c m.width (progress walk.steps.items walk.places.items walk.used.words) key → m.width ≤ pending
        → HasWalked m values t c walk
    from_settled fits key queue settled wide = record {
      fits = fits;
      key = key;
      queue = queue;
      least = least (entry m) (entry values) t c m.width (progress walk.steps.items walk.places.items walk.used.words) key queue settled;
      none = λ d lines order n unmet h. elim (g.waits d order (let a = within m t d fits.matrix tall n in omega arith) n) [
        | inl met ↦ met unmet
        | inr u ↦ let v = path_touches m t c d lines h in u v.0 v.1 v.2
      ];
    }

    from_all : IsWalking m values t c h 0 walk → h ≡ length walk.steps.items → HasWalked m values t c walk
    from_all w e =
        let prefix = subst (λ (v : ℕ). IsPrefix (entry m) (entry values) t c m.width (progress walk.steps.items walk.places.items walk.used.words) w.key v (λ r x. 0 ≤ r)) e w.prefix in
        record {
          fits = w.fits;
          key = w.key;
          queue = w.prefix.queue;
          least = least (entry m) (entry values) t c m.width (progress walk.steps.items walk.places.items walk.used.words) w.key w.prefix.queue (all_settled (entry m) (entry values) t c m.width (progress walk.steps.items walk.places.items walk.used.words) w.key (λ r x. 0 ≤ r) prefix);
          none = λ d lines order n unmet h.
              let v = path_trail (entry m) t c d lines h in
              let met = all_met (entry m) (entry values) t c m.width (progress walk.steps.items walk.places.items walk.used.words) w.key (λ r x. 0 ≤ r) prefix (lines ++ d ∷ []) v.0 (inr (omega (arith, order, v.1))) in
              let q = ap (place_in walk.places.items) v.1 in omega arith;
        }
