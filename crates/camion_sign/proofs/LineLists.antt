-- The lines of a cycle as increasing lists.
use Rattle.std.proofs.Common.{ℕ, suc, ◌+◌, ◌-◌, ◌∙◌, nat_lt, Bool, true, false, cond, None, ap, List, [], ◌∷◌, ◌++◌, ◌≡◌, ◌<◌, ◌≤◌, Option, Some, MatchOption, length, get_or, drop, ◌⊎◌, inl, inr, sym, arith, subst}
use Rattle.std.proofs.lemmas.Bool.{cases_eq, cases_lt}
use Rattle.std.proofs.lemmas.Bool.Decides.{nat_tests}
use Rattle.cmr_base.proofs.Members.{in-append, in_at, increasing-append}
use Rattle.cmr_base.specs.Matrix.{Matrix, height, entry, IsMatrix}
use Rattle.cmr_base.specs.Members.{IsIn}
use Rattle.camion_sign.specs.declared.fault.Fault.{Fault}
use Rattle.cmr_base.specs.CyclePlaces.{IsCyclePlace, HasNoCycleFault, IsPath, IsCycleFault, path_rows, path_columns, cycle_rows, cycle_columns}
use Rattle.camion_sign.specs.SignOrder.{IsCycleLines}
use Rattle.camion_sign.specs.FaultLines.{IsBuilt, IsFirstFault, IsGathering, IsLeastFrom, left_to_gather, within}
use Rattle.camion_sign.proofs.Steps as steps
use Rattle.ghouila.proofs.SignsUnique.{row_in}

pub one_row : (path : List ℕ) (from : ℕ) (found : Option ℕ) → 0 < length path → length path < 2 → IsLeastFrom (get_or path 0 0 ∷ []) from found → IsLeastFrom (path_rows path) from found
one_row [] from found some few h = absurd (omega arith)
one_row (r ∷ []) from found some few h = h
one_row (r ∷ j ∷ rest) from found some few h = absurd (omega arith)

pub more_rows : (path : List ℕ) (from : ℕ) (found : Option ℕ) → 2 ≤ length path → IsLeastFrom (get_or path 0 0 ∷ path_rows (drop 2 path)) from found → IsLeastFrom (path_rows path) from found
more_rows [] from found some h = absurd (omega arith)
more_rows (r ∷ []) from found some h = absurd (omega arith)
more_rows (r ∷ j ∷ rest) from found some h = h

pub more_columns : (path : List ℕ) (from : ℕ) (found : Option ℕ) → 2 ≤ length path → IsLeastFrom (get_or path 1 0 ∷ path_columns (drop 2 path)) from found → IsLeastFrom (path_columns path) from found
more_columns [] from found some h = absurd (omega arith)
more_columns (r ∷ []) from found some h = absurd (omega arith)
more_columns (r ∷ j ∷ rest) from found some h = h

-- a pushed line is above the others
pub above : (P : ℕ → Type 0) (x : ℕ) (list : List ℕ) → IsBuilt P x list → (k : ℕ) → k < length list → get_or list k 0 < x
above P x list b k l = ((b.members (get_or list k 0)).0 (in_at list k l)).0

pub pushed : (P : ℕ → Type 0) (x : ℕ) (list list2 : List ℕ) → IsBuilt P x list → P x → list2 ≡ list ++ x ∷ [] → IsBuilt P (x + 1) list2
pushed P x list list2 b p e = rw e (record {
  increasing = increasing-append list x b.increasing (λ y h. ((b.members y).0 h).0);
  members = λ y. (
    (λ h. elim ((in-append list x y).0 h) [ inl g ↦ let w = (b.members y).0 g in (let l = w.0 in omega arith, w.1) | inr q ↦ (omega arith, subst P (sym q) p) ]),
    (λ w. (in-append list x y).1 (elim (cases_eq y x) [ inl q ↦ inr q | inr d ↦ inl ((b.members y).1 (let l = w.0 in omega arith, w.1)) ])),
  );
})

-- ---- lines gathered by repeatedly taking the least

-- there is no other line up to the least line
pub built_up : (lines found : List ℕ) (from to : ℕ) → from ≤ to → ((x : ℕ) → IsIn x lines → x < to → x < from) → IsBuilt (λ line. IsIn line lines) from found
    → IsBuilt (λ line. IsIn line lines) to found
built_up lines found from to l none b = record {
  increasing = b.increasing;
  members = λ y. (
    (λ h. let w = (b.members y).0 h in (let k = w.0 in omega arith, w.1)),
    (λ w. (b.members y).1 (none y w.1 w.0, w.1)),
  );
}

within_is : (next : Option ℕ) (bound line : ℕ) → within next bound ≡ Some line → (next ≡ Some line) × (line < bound)
within_is None bound line e = absurd (cc)
within_is (Some x) bound line e = go (cases_lt x bound)
  where
    go : (x < bound) ⊎ (bound ≤ x) → (Some x ≡ Some line) × (line < bound)
    go (inl l) = let t : nat_lt x bound ≡ true = grind (arith, nat_tests) in let f : Some x ≡ Some line = sym (ap (λ b. cond b (Some x) None) t) ∙ e in (f, let g : x ≡ line = cc in omega arith)
    go (inr l) = let t : nat_lt x bound ≡ false = grind (arith, nat_tests) in let f : None ≡ Some line = sym (ap (λ b. cond b (Some x) None) t) ∙ e in absurd (cc)

module _ (lines : List ℕ) (bound : ℕ) (next : Option ℕ) (found : List ℕ) (g : IsGathering lines bound next found) where
  least_at : (line : ℕ) → within next bound ≡ Some line → IsIn line lines × (g.from ≤ line) × ((x : ℕ) → IsIn x lines → g.from ≤ x → line ≤ x)
  least_at line e = subst (λ o. IsLeastFrom lines g.from o) (within_is next bound line e).0 g.least

  built_to_line : (line : ℕ) → within next bound ≡ Some line → IsBuilt (λ x. IsIn x lines) line found
  built_to_line line e = built_up lines found g.from line (least_at line e).1 (λ x h l. elim (cases_lt x g.from) [ inl k ↦ k | inr k ↦ absurd (let q = (least_at line e).2 x h k in omega arith) ]) g.built

  pub line_above : (line : ℕ) → within next bound ≡ Some line → (k : ℕ) → k < length found → get_or found k 0 < line
  line_above line e = above (λ x. IsIn x lines) line found (built_to_line line e)

  pub line_gathered : (line : ℕ) (after : Option ℕ) (more : List ℕ) → within next bound ≡ Some line → more ≡ found ++ line ∷ []
      → IsLeastFrom lines (line + 1) after → IsGathering lines bound after more
  line_gathered line after more e f least = record {
    from = line + 1;
    inside = let l = (within_is next bound line e).1 in omega arith;
    built = pushed (λ x. IsIn x lines) line found more (built_to_line line e) (least_at line e).0 f;
    least = least;
  }

  pub all_gathered : within next bound ≡ None → IsBuilt (λ x. IsIn x lines) bound found
  all_gathered e = built_up lines found g.from bound g.inside (none next g.least e) g.built
    where
      none : (o : Option ℕ) → IsLeastFrom lines g.from o → within o bound ≡ None → (x : ℕ) → IsIn x lines → x < bound → x < g.from
      none None least e x h l = least x h
      none (Some line) least e x h l = elim (cases_lt x g.from) [
        | inl k ↦ k
        | inr k ↦ absurd (let q = least.2 x h k in let under : line < bound = omega arith in some (nat_lt line bound) (grind (arith, nat_tests)) e)
      ]
        where
          some : (b : Bool) → b ≡ true → cond b (Some line) None ≡ None → ⊥
          some true t e = absurd (cc)
          some false t e = absurd (cc)

pub fewer_left : (lines : List ℕ) (bound : ℕ) (next after : Option ℕ) (line : ℕ) → within next bound ≡ Some line → IsLeastFrom lines (line + 1) after
    → left_to_gather bound after < left_to_gather bound next
fewer_left lines bound next after line e least = subst (λ o. left_to_gather bound after < left_to_gather bound o) (sym (within_is next bound line e).0) (go after least)
  where
    go : (o : Option ℕ) → IsLeastFrom lines (line + 1) o → left_to_gather bound o < suc (bound - line)
    go None least = omega arith
    go (Some x) least = let l = least.1 in let k = (within_is next bound line e).1 in omega arith

pub path_rows_low : (m : Matrix) (t c d : ℕ) (lines : List ℕ) → IsPath (entry m) t c d lines → (x : ℕ) → IsIn x (path_rows lines) → x < t
path_rows_low m t c d [] h x g = absurd g
path_rows_low m t c d (r ∷ []) h x (inl e) = let l = h.0 in omega arith
path_rows_low m t c d (r ∷ []) h x (inr g) = absurd g
path_rows_low m t c d (r ∷ j ∷ rest) h x (inl e) = let l = h.0 in omega arith
path_rows_low m t c d (r ∷ j ∷ rest) h x (inr g) = path_rows_low m t j d rest h.4 x g

pub path_columns_low : (m : Matrix) (t c d : ℕ) (lines : List ℕ) → IsMatrix m → t < height m → IsPath (entry m) t c d lines → (x : ℕ) → IsIn x (path_columns lines) → x < m.width
path_columns_low m t c d [] is l h x g = absurd g
path_columns_low m t c d (r ∷ []) is l h x g = absurd g
path_columns_low m t c d (r ∷ j ∷ rest) is l h x (inl e) = let low = h.0 in let w = steps.within m r j is (omega arith) h.2 in omega arith
path_columns_low m t c d (r ∷ j ∷ rest) is l h x (inr g) = path_columns_low m t j d rest is l h.4 x g

pub cycle_fault_is : (m : Matrix) (t c d : ℕ) (lines R C : List ℕ) {high wide : ℕ} → IsMatrix m → IsFirstFault m t c d lines → high ≡ height m → wide ≡ m.width
    → IsBuilt (λ x. IsIn x (cycle_rows t lines)) high R → IsBuilt (λ x. IsIn x (cycle_columns c d lines)) wide C → IsCycleFault m R C
cycle_fault_is m t c d lines R C {high = high} {wide = wide} is f h w rows columns = record {
  row = t;
  first_column = c;
  last_column = d;
  path = lines;
  fault = f.fault;
  first = λ t' c' d' path' g e. f.first t' c' d' e path' g;
  row_set = record { increasing = rows.increasing; in_range = λ k l. let b = above (λ x. IsIn x (cycle_rows t lines)) high R rows k l in omega arith };
  column_set = record { increasing = columns.increasing; in_range = λ k l. let b = above (λ x. IsIn x (cycle_columns c d lines)) wide C columns k l in omega arith };
  rows_are = λ i. ((λ g. ((rows.members i).0 g).1), (λ g. (rows.members i).1 (row_low i g, g)));
  columns_are = λ j. ((λ g. ((columns.members j).0 g).1), (λ g. (columns.members j).1 (column_low j g, g)));
}
  where
    high_t : t < height m
    high_t = row_in m t c f.fault.place.first

    row_low : (i : ℕ) → (i ≡ t) ⊎ IsIn i (path_rows lines) → i < high
    row_low i (inl e) = let l = high_t in omega arith
    row_low i (inr g) = let l = high_t in let k = path_rows_low m t c d lines f.fault.place.is_path i g in omega arith

    column_low : (j : ℕ) → (j ≡ c) ⊎ ((j ≡ d) ⊎ IsIn j (path_columns lines)) → j < wide
    column_low j (inl e) = let l = steps.within m t c is high_t f.fault.place.first in omega arith
    column_low j (inr (inl e)) = let l = steps.within m t d is high_t f.fault.place.last in omega arith
    column_low j (inr (inr g)) = let l = path_columns_low m t c d lines is high_t f.fault.place.is_path j g in omega arith

-- the complete lists, with the lines as the two calls received them
pub fault_lines : (m : Matrix) (o : Option Fault) (f : Fault) (rows_of columns_of R C : List ℕ) {high wide : ℕ} → IsMatrix m → o ≡ Some f
    → MatchOption o (HasNoCycleFault (entry m)) (λ f. IsFirstFault m f.row f.first f.last f.lines.items)
    → rows_of ≡ f.lines.items → columns_of ≡ f.lines.items → high ≡ height m → wide ≡ m.width
    → IsBuilt (λ x. IsIn x (cycle_rows f.row rows_of)) high R → IsBuilt (λ x. IsIn x (cycle_columns f.first f.last columns_of)) wide C → IsCycleFault m R C
fault_lines m o f rows_of columns_of R C {high = high} {wide = wide} is e found a b h w rows columns =
    cycle_fault_is m f.row f.first f.last f.lines.items R C is
    (subst (λ (x : Option Fault). MatchOption x (HasNoCycleFault (entry m)) (λ f. IsFirstFault m f.row f.first f.last f.lines.items)) e found) h w
    (subst (λ (l : List ℕ). IsBuilt (λ x. IsIn x (cycle_rows f.row l)) high R) a rows)
    (subst (λ (l : List ℕ). IsBuilt (λ x. IsIn x (cycle_columns f.first f.last l)) wide C) b columns)

-- the lines of the cycle of a place
pub cycle_lines_are : (m : Matrix) (t c d : ℕ) (lines rows_of columns_of R C : List ℕ) {high wide : ℕ} → IsMatrix m → IsCyclePlace (entry m) t c d lines
    → rows_of ≡ lines → columns_of ≡ lines → high ≡ height m → wide ≡ m.width
    → IsBuilt (λ x. IsIn x (cycle_rows t rows_of)) high R → IsBuilt (λ x. IsIn x (cycle_columns c d columns_of)) wide C → IsCycleLines m t c d (record { rows = R; columns = C })
cycle_lines_are m t c d lines rows_of columns_of R C {high = high} {wide = wide} is place a b h w built_rows built_columns = record {
  path = lines;
  place = inl place;
  row_set = record { increasing = rows.increasing; in_range = λ k l. let b = above (λ x. IsIn x (cycle_rows t lines)) high R rows k l in omega arith };
  column_set = record { increasing = columns.increasing; in_range = λ k l. let b = above (λ x. IsIn x (cycle_columns c d lines)) wide C columns k l in omega arith };
  rows_are = λ i. ((λ g. ((rows.members i).0 g).1), (λ g. (rows.members i).1 (row_low i g, g)));
  columns_are = λ j. ((λ g. ((columns.members j).0 g).1), (λ g. (columns.members j).1 (column_low j g, g)));
}
  where
    rows : IsBuilt (λ x. IsIn x (cycle_rows t lines)) high R
    rows = subst (λ (l : List ℕ). IsBuilt (λ x. IsIn x (cycle_rows t l)) high R) a built_rows

    columns : IsBuilt (λ x. IsIn x (cycle_columns c d lines)) wide C
    columns = subst (λ (l : List ℕ). IsBuilt (λ x. IsIn x (cycle_columns c d l)) wide C) b built_columns

    high_t : t < height m
    high_t = row_in m t c place.first

    row_low : (i : ℕ) → (i ≡ t) ⊎ IsIn i (path_rows lines) → i < high
    row_low i (inl e) = let l = high_t in omega arith
    row_low i (inr g) = let l = high_t in let k = path_rows_low m t c d lines place.is_path i g in omega arith

    column_low : (j : ℕ) → (j ≡ c) ⊎ ((j ≡ d) ⊎ IsIn j (path_columns lines)) → j < wide
    column_low j (inl e) = let l = steps.within m t c is high_t place.first in omega arith
    column_low j (inr (inl e)) = let l = steps.within m t d is high_t place.last in omega arith
    column_low j (inr (inr g)) = let l = path_columns_low m t c d lines is high_t place.is_path j g in omega arith
