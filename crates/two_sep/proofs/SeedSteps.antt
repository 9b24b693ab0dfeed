-- The set that grows at a nonzero, and good seeds.
use Rattle.std.proofs.Common.{◌≡◌, ◌≢◌, ◌<◌, ◌≤◌, ◌+◌, inl, inr, ◌∙◌, not, ℕ, pos, true, [], ◌∷◌, ap, sym, subst, arith}
use Rattle.std.proofs.lemmas.Bool.{false≢true, cases_lt}
use Rattle.cmr_base.specs.declared.line.Line.{Line}
use Rattle.cmr_base.specs.declared.line.Line.TheVariants.{Row, Column}
use Rattle.cmr_base.specs.Matrix.{Matrix, height, entry}
use Rattle.cmr_base.specs.Separations.{Lines, opposite, zeros, product_at}
use Rattle.cmr_base.specs.Seeds.{IsLine, IsGoodTwo, line_number}
use Rattle.cmr_base.proofs.RowLists.{two_cases}
use Rattle.cmr_base.proofs.SeedLemmas.{line_is}
use Rattle.cmr_base.proofs.Booleans.{not_false, not_is}
use Rattle.line_growth.specs.declared.growing_set.GrowingSet.{GrowingSet}
use Rattle.line_growth.specs.GrowingSets.{HasNoLeaving, IsClosedIn, IsGrowing, IsLeaving, set_of}
use Rattle.two_sep.specs.FirstSeeds.{HasNoGoodSeed, IsFirstGoodSide, seed_rule}
use Rattle.two_sep.proofs.LineNumbers.{number_in}

module _ (m : Matrix) (i j : ℕ) (row : i < height m) (column : j < m.width) (nonzero : entry m i j ≢ pos 0) where
  abbrev h : ℕ
  h = height m

  abbrev pub NotGood : Line → Type 0
  NotGood seed = (side : Lines) → ¬ (IsGoodTwo (height m) m.width (entry m) i j seed side)

  -- the other side is closed under the rule with the blocks exchanged
  pub other_closed : (seed : Line) (side : Lines) → IsGoodTwo h m.width (entry m) i j seed side → IsClosedIn m (product_at (entry m) i j) zeros (opposite side)
  other_closed seed side g = record {
    upper = λ r c hr hc er ec. g.1.grown.closed.lower r c hr hc (not_is (side (Row r)) er) (not_false (side (Column c)) ec);
    lower = λ r c hr hc er ec. g.1.grown.closed.upper r c hr hc (not_false (side (Row r)) er) (not_is (side (Column c)) ec);
  }

  module _ (place : ℕ) (seed : Line) (seed_in : IsLine (height m) m.width seed) (number : line_number (height m) seed ≡ place) where
    -- a set that leaves the row and two lines outside is the side of a good seed
    good_side : place ≢ i → place ≢ h + j → (S : Lines) → IsLeaving m (seed_rule i j) (seed ∷ Column j ∷ []) (Row i ∷ []) 2 S → IsGoodTwo h m.width (entry m) i j seed S
    good_side not_row not_column S is = (
      record { row = row; column = column; nonzero = nonzero },
      record {
        line = seed_in;
        not_first = ((λ e. not_column (sym number ∙ ap (line_number h) e)), tt);
        not_second = ((λ e. not_row (sym number ∙ ap (line_number h) e)), tt);
        grown = is.grown;
        two = is.leaves.none;
        enough = is.leaves.enough;
      },
    )

    -- otherwise the seed is not good
    pub not_good : HasNoLeaving m (seed_rule i j) (seed ∷ Column j ∷ []) (Row i ∷ []) 2 → NotGood seed
    not_good none side g = none side g.1.grown.closed g.1.grown.has (record { none = g.1.two; enough = g.1.enough })

    -- no line that pulls the seed in is good
    pub bad_backwards : HasNoLeaving m (seed_rule i j) (seed ∷ Column j ∷ []) (Row i ∷ []) 2 → (bad : GrowingSet)
        → IsGrowing m (product_at (entry m) i j) zeros (seed ∷ []) bad → (y : Line) → IsLine h m.width y → set_of bad y ≡ true → NotGood y
    bad_backwards none bad grows y y_in e side g = elim (two_cases (side seed)) [
      | inl t ↦ none side g.1.grown.closed (t, g.1.grown.has.1) (record { none = g.1.two; enough = g.1.enough })
      | inr f ↦ false≢true (sym (not_is (side y) (grows.least (opposite side) (other_closed y side g) (ap not f, tt) y y_in e)) ∙ g.1.grown.has.0)
    ]

    -- ---- the loop over the seeds

    pub seeds_more : ((other : Line) → IsLine h m.width other → line_number h other < place → NotGood other) → NotGood seed → (other : Line)
        → IsLine h m.width other → line_number h other < place + 1 → NotGood other
    seeds_more before here other l k = elim (cases_lt (line_number h other) place) [
      | inl a ↦ before other l a
      | inr a ↦ subst NotGood (sym (line_is h m.width other seed l seed_in (omega arith))) here
    ]

    pub row_not_good : place ≡ i → NotGood seed
    row_not_good e side g = g.1.not_second.0 (line_is h m.width seed (Row i) seed_in row (number ∙ e))

    pub column_not_good : place ≡ h + j → NotGood seed
    column_not_good e side g = g.1.not_first.0 (line_is h m.width seed (Column j) seed_in column (number ∙ e))

    pub first_found : ((other : Line) → IsLine h m.width other → line_number h other < place → NotGood other) → place ≢ i → place ≢ h + j → (S : Lines)
        → IsLeaving m (seed_rule i j) (seed ∷ Column j ∷ []) (Row i ∷ []) 2 S → IsFirstGoodSide m i j S
    first_found before not_row not_column S is = record {
      seed = seed;
      good = good_side not_row not_column S is;
      first = λ other side g l. before other g.1.line (omega arith) side g;
    }

  pub none_good : (place : ℕ) → h + m.width ≤ place → ((other : Line) → IsLine h m.width other → line_number h other < place → NotGood other) → HasNoGoodSeed m i j
  none_good place full before line side g = before line g.1.line (let a = number_in h m.width line g.1.line in omega arith) side g
