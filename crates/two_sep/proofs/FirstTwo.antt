-- The first two-separation, with its side as lists.
use Rattle.std.proofs.Common.{◌≡◌, ◌<◌, ◌⊎◌, inl, inr, ◌∙◌, filter, nat_eq, ℕ, ℤ, Bool, List, ap, sym, subst, arith}
use Rattle.std.specs.List.{list_any}
use Rattle.std.proofs.lemmas.List.Kept.{IsStrictlyIncreasing-filter}
use Rattle.cmr_base.specs.declared.line.Line.{Line}
use Rattle.cmr_base.specs.declared.line.Line.TheVariants.{Row, Column}
use Rattle.cmr_base.specs.Matrix.{Matrix, height, entry}
use Rattle.cmr_base.specs.LineSets.{IsRowSet, IsColumnSet, first_lines}
use Rattle.cmr_base.specs.Separations.{Lines, listed}
use Rattle.cmr_base.specs.Seeds.{IsLine, IsGoodTwo, IsBefore, two_key}
use Rattle.cmr_base.proofs.ListedLines.{in_from_listed, listed_from_in, first_lines_contain}
use Rattle.cmr_base.proofs.RowLists.{filter_in, in_filter}
use Rattle.cmr_base.proofs.RemovedLines.{first_lines_increase, in_first_lines, row_set_from_within, column_set_from_within}
use Rattle.cmr_base.proofs.SeedLemmas.{outside_grows, two_separation_of_seed}
use Rattle.cmr_base.proofs.Booleans.{same_test}
use Rattle.two_sep.specs.FirstSeeds.{IsFirstTwoSeparation, IsFirstGoodSide, ArePassed}
use Rattle.two_sep.proofs.Crossing.{parted}

pub listed_filter : (p : ℕ → Bool) (n x : ℕ) → x < n → list_any (λ y. nat_eq y x) (filter p (first_lines n)) ≡ p x
listed_filter p n x l = same_test (list_any (λ y. nat_eq y x) (filter p (first_lines n))) (p x)
    (λ e. (in_filter p x (first_lines n) (in_from_listed x (filter p (first_lines n)) e)).1)
    (λ e. listed_from_in x (filter p (first_lines n)) (filter_in p x (first_lines n) (in_first_lines n x l) e))

-- a good seed with the same lines of the matrix
module _ (m n : ℕ) (M : ℕ → ℕ → ℤ) (i j : ℕ) (S T : Lines) (same : (line : Line) → IsLine m n line → S line ≡ T line) where
  pub good_same : (seed : Line) → IsGoodTwo m n M i j seed S → IsGoodTwo m n M i j seed T
  good_same seed g = (
    g.0,
    record {
      line = g.1.line;
      not_first = g.1.not_first;
      not_second = g.1.not_second;
      grown = record {
        closed = record {
          upper = λ r c hr hc e f. g.1.grown.closed.upper r c hr hc (same (Row r) (first_lines_contain m r hr) ∙ e) (same (Column c) (first_lines_contain n c hc) ∙ f);
          lower = λ r c hr hc e f. g.1.grown.closed.lower r c hr hc (same (Row r) (first_lines_contain m r hr) ∙ e) (same (Column c) (first_lines_contain n c hc) ∙ f);
        };
        has = (sym (same seed g.1.line) ∙ g.1.grown.has.0, (sym (same (Column j) g.0.column) ∙ g.1.grown.has.1.0, tt));
        least = λ other closed has line l e. g.1.grown.least other closed has line l (same line l ∙ e);
      };
      two = (sym (same (Row i) g.0.row) ∙ g.1.two.0, tt);
      enough = let a = outside_grows m n T S (λ line l e. same line l ∙ e) in let b = g.1.enough in omega arith;
    },
  )

module _ (m : Matrix) (i j : ℕ) (labels : List ℕ) (p : ArePassed m i j labels) (S : Lines) (found : IsFirstGoodSide m i j S) (rows columns : List ℕ)
    (rows_are : rows ≡ filter (λ r. S (Row r)) (first_lines (height m))) (columns_are : columns ≡ filter (λ c. S (Column c)) (first_lines m.width)) where
  same_lines : (line : Line) → IsLine (height m) m.width line → S line ≡ listed rows columns line
  same_lines (Row r) l = sym (ap (λ (xs : List ℕ). list_any (λ y. nat_eq y r) xs) rows_are ∙ listed_filter (λ r. S (Row r)) (height m) r l)
  same_lines (Column c) l = sym (ap (λ (xs : List ℕ). list_any (λ y. nat_eq y c) xs) columns_are ∙ listed_filter (λ c. S (Column c)) m.width c l)

  good : IsGoodTwo (height m) m.width (entry m) i j found.seed (listed rows columns)
  good = good_same (height m) m.width (entry m) i j S (listed rows columns) same_lines found.seed found.good

  none_before : (i' j' : ℕ) (seed : Line) (side : Lines) → IsGoodTwo (height m) m.width (entry m) i' j' seed side → ¬ (IsBefore (two_key (height m) i' j' seed) (two_key (height m) i j found.seed))
  none_before i' j' seed side g (inl l) = earlier (inl l)
    where
      earlier : (i' < i) ⊎ ((i' ≡ i) × (j' < j)) → ⊥
      earlier b = parted m p.matrix i' j' side g.0.row g.0.column (p.before i' j' g.0.row g.0.column b g.0.nonzero) (two_separation_of_seed (height m) m.width (entry m) i' j' seed side g)
  none_before i' j' seed side g (inr (e, inl l)) = earlier (inr (e, l))
    where
      earlier : (i' < i) ⊎ ((i' ≡ i) × (j' < j)) → ⊥
      earlier b = parted m p.matrix i' j' side g.0.row g.0.column (p.before i' j' g.0.row g.0.column b g.0.nonzero) (two_separation_of_seed (height m) m.width (entry m) i' j' seed side g)
  none_before i' j' seed side g (inr (e, inr (f, inl l))) = found.first seed side (subst (λ (x : ℕ). IsGoodTwo (height m) m.width (entry m) x j seed side) e (subst (λ (x : ℕ). IsGoodTwo (height m) m.width (entry m) i' x seed side) f g)) l
  none_before i' j' seed side g (inr (e, inr (f, inr (h, b)))) = b

  pub first_two : IsFirstTwoSeparation m (record { side = record { rows = rows; columns = columns }; row = i; column = j })
  first_two = record {
    row_set = subst (IsRowSet m) (sym rows_are) (row_set_from_within m (filter (λ r. S (Row r)) (first_lines (height m))) (IsStrictlyIncreasing-filter (λ r. S (Row r)) (first_lines (height m)) (first_lines_increase (height m))) (λ x h. (in_filter (λ r. S (Row r)) x (first_lines (height m)) h).0));
    column_set = subst (IsColumnSet m) (sym columns_are) (column_set_from_within m (filter (λ c. S (Column c)) (first_lines m.width)) (IsStrictlyIncreasing-filter (λ c. S (Column c)) (first_lines m.width) (first_lines_increase m.width)) (λ x h. (in_filter (λ c. S (Column c)) x (first_lines m.width) h).0));
    first = record { seed = found.seed; good = good; first = none_before };
    separates = two_separation_of_seed (height m) m.width (entry m) i j found.seed (listed rows columns) good;
  }
