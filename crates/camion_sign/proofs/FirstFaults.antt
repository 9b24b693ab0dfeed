-- The places and faults that a walk determines.
use Rattle.std.proofs.Common.{ℕ, zero, suc, ◌+◌, List, [], ◌∷◌, ◌++◌, ◌≡◌, ◌≢◌, ◌<◌, ℤ, pos, ◌+ℤ◌, Bool, true, false, ◌≤◌, length, get_or, reverse, Option, Some, MatchOption, ◌⊎◌, inl, inr, ◌∙◌, sym, ap, refl, arith, subst, append_assoc}
use Rattle.std.proofs.lemmas.Bool.{cases_lt}
use Rattle.std.proofs.lemmas.List.{reverse-append}
use Rattle.cmr_base.specs.Matrix.{Matrix, entry, IsEntry}
use Rattle.cmr_base.specs.CyclePlaces.{IsPath, IsNotAfter, IsCyclePlace, IsFaultAt, cycle_rows, cycle_columns, path_sum}
use Rattle.cmr_base.specs.Trees.{support}
use Rattle.cmr_base.proofs.Booleans.{zero_is}
use Rattle.cmr_base.specs.Sums.{sum_over, IsTwoModFour}
use Rattle.cmr_base.proofs.Integers.{sums}
use Rattle.ghouila.proofs.Routes.{route, place_sum}
use Rattle.camion_sign.specs.declared.walk.ReachedColumn.{ReachedColumn}
use Rattle.camion_sign.specs.declared.walk.Walk.{Walk}
use Rattle.camion_sign.specs.declared.fault.Fault.{Fault}
use Rattle.camion_sign.specs.Trails.{IsUpTo, IsTrail, trail_sum}
use Rattle.camion_sign.specs.Walks.{HasWalked, TwoIf, flip, step_at, place_in}
use Rattle.camion_sign.specs.FaultLines.{HasNoFaultAt, IsColumnFault, IsFirstFault}
use Rattle.camion_sign.proofs.Trails.{not_after, path_trail, trail_path}
use Rattle.camion_sign.proofs.Walks.{two_add}
use Rattle.camion_sign.proofs.EntryTests.{two_not}
use Rattle.camion_sign.proofs.Steps.{any_default, step_is}

-- the path of a place is unique
pub same_list : (p q : List ℕ) → length p ≡ length q → IsNotAfter p q → IsNotAfter q p → p ≡ q
same_list [] [] e a b = refl
same_list [] (y ∷ ys) e a b = absurd (omega arith)
same_list (x ∷ xs) [] e a b = absurd (omega arith)
same_list (x ∷ xs) (y ∷ ys) e a b = go a b (λ f g. same_list xs ys (omega arith) f g)
  where
    go : (x < y) ⊎ ((x ≡ y) × IsNotAfter xs ys) → (y < x) ⊎ ((y ≡ x) × IsNotAfter ys xs) → (IsNotAfter xs ys → IsNotAfter ys xs → xs ≡ ys) → x ∷ xs ≡ y ∷ ys
    go (inl l) (inl m) k = absurd (omega arith)
    go (inl l) (inr (q, g)) k = absurd (omega arith)
    go (inr (q, f)) (inl m) k = absurd (omega arith)
    go (inr (q, f)) (inr (s, g)) k = ap (λ (v : ℕ). v ∷ xs) q ∙ ap (λ (vs : List ℕ). y ∷ vs) (k f g)

pub place_unique : (M : ℕ → ℕ → ℤ) (t c d : ℕ) (p q : List ℕ) → IsCyclePlace M t c d p → IsCyclePlace M t c d q → p ≡ q
place_unique M t c d p q a b = go (a.least q b.is_path) (b.least p a.is_path)
  where
    go : (length p < length q) ⊎ ((length p ≡ length q) × IsNotAfter p q) → (length q < length p) ⊎ ((length q ≡ length p) × IsNotAfter q p) → p ≡ q
    go (inl l) (inl m) = absurd (omega arith)
    go (inl l) (inr m) = absurd (let e = m.0 in omega arith)
    go (inr l) (inl m) = absurd (let e = l.0 in omega arith)
    go (inr l) (inr m) = same_list p q l.0 l.1 m.1

module _ (m values : Matrix) (t c d : ℕ) (walk : Walk) (w : HasWalked m values t c walk) (order : c < d) (met : place_in walk.places.items d < 4294967295) where
  -- the step at which the walk reached column d is not the first
  pub later_step : 0 < place_in walk.places.items d
  later_step = positive (place_in walk.places.items d) refl
    where
      positive : (j : ℕ) → place_in walk.places.items d ≡ j → 0 < j
      positive zero e = absurd (let a = ap (λ (j : ℕ). (step_at walk.steps.items j).column) e in let b = w.queue.first in let v = (w.queue.listed d met).1 in omega arith)
      positive (suc j) e = omega arith

  -- the trail to column d ends with the row of this step, and d
  pub key_is : (key : List ℕ) → key ≡ w.key (step_at walk.steps.items (place_in walk.places.items d)).before
      → w.key (place_in walk.places.items d) ≡ (key ++ (step_at walk.steps.items (place_in walk.places.items d)).row ∷ []) ++ d ∷ []
  key_is key e =
      w.queue.parent (place_in walk.places.items d) later_step (w.queue.listed d met).0
      ∙ ap (λ (x : ℕ). w.key (step_at walk.steps.items (place_in walk.places.items d)).before ++ (step_at walk.steps.items (place_in walk.places.items d)).row ∷ x ∷ []) (w.queue.listed d met).1
      ∙ ap (λ (k : List ℕ). k ++ (step_at walk.steps.items (place_in walk.places.items d)).row ∷ d ∷ []) (sym e)
      ∙ sym (append_assoc key ((step_at walk.steps.items (place_in walk.places.items d)).row ∷ []) (d ∷ []))

  module _ (first : entry m t c ≢ pos 0) (last : entry m t d ≢ pos 0) (lines : List ℕ) (lines_are : w.key (place_in walk.places.items d) ≡ lines ++ d ∷ []) where
    path : IsPath (entry m) t c d lines × (trail_sum (entry values) c (lines ++ d ∷ []) ≡ path_sum (entry values) c d lines)
    path = trail_path (entry m) t (entry values) c d lines (subst (IsTrail (entry m) t c) lines_are (w.queue.trail (place_in walk.places.items d) (w.queue.listed d met).0))

    pub is_place : IsCyclePlace (entry m) t c d lines
    is_place = record {
      order = order;
      first = first;
      last = last;
      is_path = path.0;
      least = λ other h. let v = path_trail (entry m) t c d other h in
          not_after lines other d (subst (λ (k : List ℕ). IsUpTo k (other ++ d ∷ [])) lines_are (w.least d (other ++ d ∷ []) order met v.0 v.1));
    }

    -- the sum of the values on it
    pub sum_two : TwoIf (step_at walk.steps.items (place_in walk.places.items d)).is_two (path_sum (entry values) c d lines)
    sum_two = subst (TwoIf (step_at walk.steps.items (place_in walk.places.items d)).is_two) path.1
        (subst (λ (k : List ℕ). TwoIf (step_at walk.steps.items (place_in walk.places.items d)).is_two (trail_sum (entry values) c k)) lines_are (w.queue.sums (place_in walk.places.items d) (w.queue.listed d met).0))

-- the values are those of the matrix
module _ (m : Matrix) (t c d : ℕ) (walk : Walk) (w : HasWalked m m t c walk) (order : c < d) (met : place_in walk.places.items d < 4294967295) (first : entry m t c ≢ pos 0) (last : entry m t d ≢ pos 0) where
  abbrev is_two_at : Bool
  is_two_at = (step_at walk.steps.items (place_in walk.places.items d)).is_two

  module _ (lines : List ℕ) (lines_are : w.key (place_in walk.places.items d) ≡ lines ++ d ∷ []) where
    here : IsCyclePlace (entry m) t c d lines
    here = is_place m m t c d walk w order met first last lines lines_are

    -- whether its cycle has the sum 2 modulo 4
    is_fault_if : (same : Bool) → TwoIf same (entry m t c +ℤ entry m t d)
        → ((flip is_two_at same ≡ true) → IsFaultAt (entry m) t c d lines) × (IsFaultAt (entry m) t c d lines → flip is_two_at same ≡ true)
    is_fault_if same two = (
      (λ f. record { place = here; two_mod_four = subst IsTwoModFour (sym sum) (subst (λ (b : Bool). TwoIf b (path_sum (entry m) c d lines +ℤ (entry m t c +ℤ entry m t d))) f whole) }),
      (λ f. two_not (path_sum (entry m) c d lines +ℤ (entry m t c +ℤ entry m t d)) (flip is_two_at same) whole (subst IsTwoModFour sum f.two_mod_four)),
    )
      where
        small : (i j : ℕ) → IsEntry (entry m i j)
        small i j = w.fits.matrix.small i j

        plain : (a b : ℤ) → a +ℤ b ≡ b +ℤ a
        plain a b = omega (arith, sums)

        sum : sum_over (cycle_rows t lines) (λ i. sum_over (cycle_columns c d lines) (λ j. entry m i j)) ≡ path_sum (entry m) c d lines +ℤ (entry m t c +ℤ entry m t d)
        sum = place_sum (entry m) small t c d lines here (route (entry m) small t c d lines here.is_path) ∙ plain (entry m t c +ℤ entry m t d) (path_sum (entry m) c d lines)

        whole : TwoIf (flip is_two_at same) (path_sum (entry m) c d lines +ℤ (entry m t c +ℤ entry m t d))
        whole = two_add is_two_at same (path_sum (entry m) c d lines) (entry m t c +ℤ entry m t d) (sum_two m m t c d walk w order met first last lines lines_are) two

  -- the same, without the lines
  pub fault_if : (same : Bool) → TwoIf same (entry m t c +ℤ entry m t d)
      → ((flip is_two_at same ≡ true) → (lines : List ℕ) × IsFaultAt (entry m) t c d lines) × ((lines : List ℕ) × IsFaultAt (entry m) t c d lines → flip is_two_at same ≡ true)
  fault_if same two =
      let lines = w.key (step_at walk.steps.items (place_in walk.places.items d)).before ++ (step_at walk.steps.items (place_in walk.places.items d)).row ∷ [] in
      let k = key_is m m t c d walk w order met (w.key (step_at walk.steps.items (place_in walk.places.items d)).before) refl in
      let v = is_fault_if lines k same two in (
        (λ f. (lines, v.0 f)),
        (λ f. v.1 (subst (IsFaultAt (entry m) t c d) (place_unique (entry m) t c d f.0 lines f.1.place (here lines k)) f.1)),
      )

pub column_fault : (m : Matrix) (t c d : ℕ) (lines : List ℕ) → (path : List ℕ) × IsFaultAt (entry m) t c d path → IsCyclePlace (entry m) t c d lines
    → ((y : ℕ) → y < d → HasNoFaultAt m t c y) → IsColumnFault m t c d lines
column_fault m t c d lines f place none = record { fault = subst (IsFaultAt (entry m) t c d) (place_unique (entry m) t c d f.0 lines f.1.place place) f.1; least = none }

-- ---- another column, or another row

pub one_more_last : (m : Matrix) (t c d : ℕ) → ((y : ℕ) → y < d → HasNoFaultAt m t c y) → HasNoFaultAt m t c d → (y : ℕ) → y < d + 1 → HasNoFaultAt m t c y
one_more_last m t c d before here y l = elim (cases_lt y d) [
  | inl lt ↦ before y lt
  | inr ge ↦ let q : d ≡ y = omega arith in subst (HasNoFaultAt m t c) q here
]

-- columns in which the row is 0 are no first columns
pub zeros_first : (m a : Matrix) (t from first : ℕ) → a ≡ m → ((x y : ℕ) → x < from → HasNoFaultAt m t x y)
    → ((x : ℕ) → from ≤ x → x < first → support a t x ≡ false) → (x y : ℕ) → x < first → HasNoFaultAt m t x y
zeros_first m a t from first is before zeros x y l path f = elim (cases_lt x from) [
  | inl low ↦ before x y low path f
  | inr high ↦ f.place.first (zero_is (entry m t x) (sym (ap (λ (b : Matrix). support b t x) is) ∙ zeros x high l))
]

-- columns in which the row is 0 are last columns of no place
pub zeros_last : (m a : Matrix) (t c from last : ℕ) → a ≡ m → ((y : ℕ) → y < from → HasNoFaultAt m t c y)
    → ((y : ℕ) → from ≤ y → y < last → support a t y ≡ false) → (y : ℕ) → y < last → HasNoFaultAt m t c y
zeros_last m a t c from last is before zeros y l path f = elim (cases_lt y from) [
  | inl lt ↦ before y lt path f
  | inr ge ↦ f.place.last (zero_is (entry m t y) (sym (ap (λ (x : Matrix). support x t y) is) ∙ zeros y ge l))
]

-- the first fault of the first row with one
pub first_of_rows : (m : Matrix) (t : ℕ) (found : Option Fault) (f : Fault) → found ≡ Some f → ((r x y : ℕ) → r < t → HasNoFaultAt m r x y)
    → MatchOption found ((x y : ℕ) → HasNoFaultAt m t x y) (λ f. (f.row ≡ t) × IsColumnFault m t f.first f.last f.lines.items × ((x y : ℕ) → x < f.first → HasNoFaultAt m t x y))
    → IsFirstFault m f.row f.first f.last f.lines.items
first_of_rows m t found f is before h = go (subst (λ (o : Option Fault). MatchOption o ((x y : ℕ) → HasNoFaultAt m t x y) (λ f. (f.row ≡ t) × IsColumnFault m t f.first f.last f.lines.items × ((x y : ℕ) → x < f.first → HasNoFaultAt m t x y))) is h)
  where
    go : (f.row ≡ t) × IsColumnFault m t f.first f.last f.lines.items × ((x y : ℕ) → x < f.first → HasNoFaultAt m t x y) → IsFirstFault m f.row f.first f.last f.lines.items
    go (row, fault, none) = rw row (record {
      fault = fault.fault;
      first = λ r x y e. elim e [
        | inl l ↦ before r x y l
        | inr p ↦ subst (λ (z : ℕ). HasNoFaultAt m z x y) (sym p.0) (elim p.1 [
          | inl l ↦ none x y l
          | inr q ↦ subst (λ (z : ℕ). HasNoFaultAt m t z y) (sym q.0) (fault.least y q.1)
        ])
      ];
    })

-- ---- values read from a walk

pub met_step : (m values : Matrix) (t c d : ℕ) (walk : Walk) (place : ℕ) (step : ReachedColumn) → HasWalked m values t c walk → d < m.width
    → place ≡ get_or walk.places.items d place → place_in walk.places.items d < 4294967295 → step ≡ get_or walk.steps.items place step
    → step_at walk.steps.items (place_in walk.places.items d) ≡ step
met_step m values t c d walk place step w l e met f =
    let a : place_in walk.places.items d ≡ place = any_default walk.places.items d 4294967295 place (omega (arith, w.fits.one_each, w.fits.columns)) ∙ sym e in
    ap (step_at walk.steps.items) a ∙ step_is walk.steps.items place step (let b = (w.queue.listed d met).0 in omega arith) f

-- ---- the path, backwards

pub begin_back : (m values : Matrix) (t c d : ℕ) (walk : Walk) (step : ReachedColumn) (lines : List ℕ) → c < d → place_in walk.places.items d < 4294967295
    → step_at walk.steps.items (place_in walk.places.items d) ≡ step → lines ≡ step.row ∷ []
    → (w : HasWalked m values t c walk) → w.key (place_in walk.places.items d) ≡ w.key step.before ++ (reverse lines ++ d ∷ [])
begin_back m values t c d walk step lines order met e f w =
    key_is m values t c d walk w order met (w.key (step_at walk.steps.items (place_in walk.places.items d)).before) refl
    ∙ ap (λ (s : ReachedColumn). (w.key s.before ++ s.row ∷ []) ++ d ∷ []) e
    ∙ append_assoc (w.key step.before) (step.row ∷ []) (d ∷ [])
    ∙ ap (λ (v : List ℕ). w.key step.before ++ (reverse v ++ d ∷ [])) (sym f)

pub before_in : (m values : Matrix) (t c d : ℕ) (walk : Walk) (step : ReachedColumn) → HasWalked m values t c walk → c < d
    → place_in walk.places.items d < 4294967295 → step_at walk.steps.items (place_in walk.places.items d) ≡ step → step.before < length walk.steps.items
before_in m values t c d walk step w order met e =
    let a = w.queue.earlier (place_in walk.places.items d) (later_step m values t c d walk w order met) (w.queue.listed d met).0 in
    let b = ap (λ (s : ReachedColumn). s.before) e in let k = (w.queue.listed d met).0 in omega arith

pub earlier_place : (m values : Matrix) (t c : ℕ) (walk : Walk) (place : ℕ) (step : ReachedColumn) → HasWalked m values t c walk → place ≢ 0
    → place < length walk.steps.items → step ≡ get_or walk.steps.items place step → step.before < place
earlier_place m values t c walk place step w other l e =
    let a = w.queue.earlier place (positive place other) l in
    let b = ap (λ (s : ReachedColumn). s.before) (step_is walk.steps.items place step l e) in omega arith
  where
    positive : (n : ℕ) → n ≢ 0 → 0 < n
    positive n h = omega arith

pub go_back : (m values : Matrix) (t c d : ℕ) (walk : Walk) (place : ℕ) (step : ReachedColumn) (lines more : List ℕ) → place ≢ 0
    → place < length walk.steps.items → step ≡ get_or walk.steps.items place step → more ≡ (lines ++ step.column ∷ []) ++ step.row ∷ []
    → ((w : HasWalked m values t c walk) → w.key (place_in walk.places.items d) ≡ w.key place ++ (reverse lines ++ d ∷ []))
    → (w : HasWalked m values t c walk) → w.key (place_in walk.places.items d) ≡ w.key step.before ++ (reverse more ++ d ∷ [])
go_back m values t c d walk place step lines more other l e f before w =
    before w
    ∙ ap (λ (k : List ℕ). k ++ (reverse lines ++ d ∷ [])) (w.queue.parent place (positive place other) l ∙ ap (λ (s : ReachedColumn). w.key s.before ++ s.row ∷ s.column ∷ []) (step_is walk.steps.items place step l e))
    ∙ append_assoc (w.key step.before) (step.row ∷ step.column ∷ []) (reverse lines ++ d ∷ [])
    ∙ ap (λ (v : List ℕ). w.key step.before ++ (v ++ d ∷ [])) (sym (ap reverse f ∙ reverse-append (lines ++ step.column ∷ []) (step.row ∷ []) ∙ ap (λ (v : List ℕ). step.row ∷ v) (reverse-append lines (step.column ∷ []))))
  where
    positive : (n : ℕ) → n ≢ 0 → 0 < n
    positive n h = omega arith

pub path_back : (m values : Matrix) (t c d : ℕ) (walk : Walk) (place : ℕ) (lines path : List ℕ) → HasWalked m values t c walk → c < d
    → place_in walk.places.items d < 4294967295 → entry m t c ≢ pos 0 → entry m t d ≢ pos 0 → place ≡ 0 → path ≡ reverse lines
    → ((w : HasWalked m values t c walk) → w.key (place_in walk.places.items d) ≡ w.key place ++ (reverse lines ++ d ∷ [])) → IsCyclePlace (entry m) t c d path
path_back m values t c d walk place lines path w order met first last z e k =
    is_place m values t c d walk w order met first last path
    (k w ∙ ap (λ (v : List ℕ). v ++ (reverse lines ++ d ∷ [])) (ap w.key z ∙ w.queue.start) ∙ ap (λ (v : List ℕ). v ++ d ∷ []) (sym e))
