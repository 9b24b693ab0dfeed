-- The lines of two lists.
use Rattle.std.proofs.Common.{◌≡◌, ◌<◌, ◌⊎◌, ◌∙◌, ◌||◌, inl, inr, nat_eq, ℕ, Bool, true, false, List, [], ◌∷◌, sym, refl}
use Rattle.std.specs.List.{Contains, list_any}
use Rattle.std.proofs.lemmas.Bool.{false≢true}
use Rattle.cmr_base.specs.declared.line.Line.{Line}
use Rattle.cmr_base.specs.declared.line.Line.TheVariants.{Row, Column}
use Rattle.cmr_base.specs.LineSets.{first_lines}
use Rattle.cmr_base.specs.Members.{IsIn}
use Rattle.cmr_base.specs.Reductions.{HasLine}
use Rattle.cmr_base.specs.Separations.{listed}
use Rattle.cmr_base.specs.Seeds.{IsLine}
use Rattle.cmr_base.proofs.RowLists.{eq_of, is_eq}
use Rattle.cmr_base.proofs.ListsWithout.{in_from_contains, contains_from_in}
use Rattle.cmr_base.proofs.RemovedLines.{in_first_lines, first_lines_in}

pub in_from_listed : (x : ℕ) (xs : List ℕ) → list_any (λ y. nat_eq y x) xs ≡ true → IsIn x xs
in_from_listed x [] e = false≢true e
in_from_listed x (y ∷ ys) e = go (nat_eq y x) refl e (in_from_listed x ys)
  where
    go : (t : Bool) → nat_eq y x ≡ t → (t || list_any (λ y. nat_eq y x) ys) ≡ true → (list_any (λ y. nat_eq y x) ys ≡ true → IsIn x ys) → (x ≡ y) ⊎ IsIn x ys
    go true f e more = inl (sym (eq_of y x f))
    go false f e more = inr (more e)

pub listed_from_in : (x : ℕ) (xs : List ℕ) → IsIn x xs → list_any (λ y. nat_eq y x) xs ≡ true
listed_from_in x [] h = absurd h
listed_from_in x (y ∷ ys) h = go (nat_eq y x) refl h (listed_from_in x ys)
  where
    go : (t : Bool) → nat_eq y x ≡ t → (x ≡ y) ⊎ IsIn x ys → (IsIn x ys → list_any (λ y. nat_eq y x) ys ≡ true) → (t || list_any (λ y. nat_eq y x) ys) ≡ true
    go true f h more = refl
    go false f (inl q) more = absurd (false≢true (sym f ∙ is_eq y x (sym q)))
    go false f (inr i) more = more i

-- a line is listed if and only if the lists have it
pub has_line_from_listed : (rows columns : List ℕ) (line : Line) → listed rows columns line ≡ true → HasLine rows columns line
has_line_from_listed rows columns (Row row) e = contains_from_in rows row (in_from_listed row rows e)
has_line_from_listed rows columns (Column column) e = contains_from_in columns column (in_from_listed column columns e)

pub listed_from_has_line : (rows columns : List ℕ) (line : Line) → HasLine rows columns line → listed rows columns line ≡ true
listed_from_has_line rows columns (Row row) h = listed_from_in row rows (in_from_contains rows row h)
listed_from_has_line rows columns (Column column) h = listed_from_in column columns (in_from_contains columns column h)

-- the lines of a matrix
pub contains_first_lines : (n x : ℕ) → x < n → Contains (first_lines n) x
contains_first_lines n x l = contains_from_in (first_lines n) x (in_first_lines n x l)

pub first_lines_contain : (n x : ℕ) → Contains (first_lines n) x → x < n
first_lines_contain n x h = first_lines_in n x (in_from_contains (first_lines n) x h)

pub has_line_from_line : (m n : ℕ) (line : Line) → IsLine m n line → HasLine (first_lines m) (first_lines n) line
has_line_from_line m n (Row row) l = contains_first_lines m row l
has_line_from_line m n (Column column) l = contains_first_lines n column l

pub line_from_has_line : (m n : ℕ) (line : Line) → HasLine (first_lines m) (first_lines n) line → IsLine m n line
line_from_has_line m n (Row row) h = first_lines_contain m row h
line_from_has_line m n (Column column) h = first_lines_contain n column h
