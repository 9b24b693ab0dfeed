-- Lines that each closed set with a start has.
use Rattle.std.proofs.Common.{ℕ, ℤ, pos, true, false, not, Bool, List, [], ◌∷◌, ◌≡◌, ◌≢◌, ◌<◌, ◌≤◌, ◌+◌, ◌∙◌, ap, sym, subst, arith, inl, inr}
use Rattle.std.proofs.lemmas.Bool.{cases_lt}
use Rattle.cmr_base.specs.declared.line.Line.{Line}
use Rattle.cmr_base.specs.declared.line.Line.TheVariants.{Row, Column}
use Rattle.cmr_base.specs.declared.position.Position.{Position}
use Rattle.cmr_base.specs.Matrix.{Matrix, IsMatrix, height, entry, transposed}
use Rattle.cmr_base.specs.Separations.{IsTied, opposite}
use Rattle.cmr_base.specs.Seeds.{IsLine}
use Rattle.cmr_base.specs.Trees.{support}
use Rattle.cmr_base.proofs.Booleans.{is_nonzero_is, not_both, true_is}
use Rattle.cmr_base.proofs.Parts.{entry-transposed}
use Rattle.cuts.specs.declared.corners.Corners.{Corners}
use Rattle.cuts.proofs.CutLemmas.{other_closed, other_enough}
use Rattle.line_growth.specs.declared.growing_set.GrowingSet.{GrowingSet}
use Rattle.line_growth.specs.declared.rule.GrowthRule.{GrowthRule}
use Rattle.line_growth.specs.GrowingSets.{HasNoLeaving, IsGrowing, set_of}
use Rattle.line_growth.specs.Rules.{exchanged, lower_of, upper_of}
use Rattle.three_sep.specs.Connectors.{HasNoneAtCorners, rule_of}
use Rattle.three_sep.specs.FirstCuts.{first_corner}
use Rattle.three_sep.specs.Searches.{other_line}
use Rattle.three_sep.specs.TiedLines.{AreRefused, Forces, ForcesAlong, ForcesTied, IsTiedLine, corners_exchanged}

-- the other line of a connector is tied
pub tied_other : (M : ℕ → ℕ → ℤ) (flat : Bool) (own across : Position) (o : ℕ)
    → IsTied M flat (record { row = own.row; column = own.column; other = o }) across.row across.column → IsTiedLine M own across (other_line flat o)
tied_other M true own across o tied = tied
tied_other M false own across o tied = tied

-- ---- lines that a start forces

module _ (m : Matrix) (rule : GrowthRule) (start : List Line) (x : Line) where
  pub forces_inside : (set : GrowingSet) → IsLine (height m) m.width x → IsGrowing m (upper_of m rule) (lower_of m rule) start set → set_of set x ≡ true → Forces m rule start x
  forces_inside set lx g e T closed has = g.least T closed has x lx e

  pub forces_unless_left : HasNoLeaving m rule start (x ∷ []) 0 → Forces m rule start x
  forces_unless_left none T closed has = true_is (T x) (λ out. none T closed has (record { none = (out, tt); enough = omega arith }))

-- the columns of a matrix, or of its transposed matrix, that are 0 in one row and not in another
module _ (m : Matrix) (rule : GrowthRule) (start : List Line) (lines : Matrix) (own across : ℕ) (flat : Bool) (from : ℕ) (before : ForcesAlong m rule start lines own across flat from) where
  pub along_more : (other : ℕ) → ((c : ℕ) → from ≤ c → c < other → support lines across c ≡ false)
      → (entry lines own other ≡ pos 0 → Forces m rule start (other_line flat other)) → ForcesAlong m rule start lines own across flat (other + 1)
  along_more other none here c l zero nonzero = elim (cases_lt c from) [
    | inl h ↦ before c h zero nonzero
    | inr h ↦ elim (cases_lt c other) [
      | inl k ↦ absurd (not_both (support lines across c) (is_nonzero_is (entry lines across c) nonzero) (none c h k))
      | inr k ↦
          let same_place : c ≡ other = omega arith in
          subst (λ (z : ℕ). Forces m rule start (other_line flat z)) (sym same_place) (here (subst (λ (z : ℕ). entry lines own z ≡ pos 0) same_place zero))
    ]
  ]

  pub along_all : (most : ℕ) → ((c : ℕ) → from ≤ c → support lines across c ≡ false) → ForcesAlong m rule start lines own across flat most
  along_all most none c l zero nonzero = elim (cases_lt c from) [
    | inl h ↦ before c h zero nonzero
    | inr h ↦ absurd (not_both (support lines across c) (is_nonzero_is (entry lines across c) nonzero) (none c h))
  ]

-- both kinds of lines
pub forces_both : (m : Matrix) (rule : GrowthRule) (start : List Line) (own across : Position) → IsMatrix m → ForcesAlong m rule start m own.row across.row true m.width
    → ForcesAlong m rule start (transposed m) own.column across.column false (transposed m).width → ForcesTied m rule start own across
forces_both m rule start own across shape columns rows (Column c) l tied = columns c l tied.0 tied.1
forces_both m rule start own across shape columns rows (Row r) l tied =
    rows r l (entry-transposed m r own.column shape ∙ tied.0) (λ e. tied.1 (sym (entry-transposed m r across.column shape) ∙ e))

-- no line is tied, since no column is and no row
pub none_of_both : (m : Matrix) (own across : Position) → IsMatrix m → ((c : ℕ) → c < m.width → ¬ ((entry m own.row c ≡ pos 0) × (entry m across.row c ≢ pos 0)))
    → ((r : ℕ) → r < (transposed m).width → ¬ ((entry (transposed m) own.column r ≡ pos 0) × (entry (transposed m) across.column r ≢ pos 0)))
    → (x : Line) → IsLine (height m) m.width x → ¬ (IsTiedLine (entry m) own across x)
none_of_both m own across shape columns rows (Column c) l tied = columns c l tied
none_of_both m own across shape columns rows (Row r) l tied =
    rows r l (entry-transposed m r own.column shape ∙ tied.0, λ e. tied.1 (sym (entry-transposed m r across.column shape) ∙ e))

-- ---- corners that no good seed has

module _ (m : Matrix) (c : Corners) where
  -- no line is tied to the first corner
  pub refused_without : ((x : Line) → IsLine (height m) m.width x → ¬ (IsTiedLine (entry m) c.one c.two x)) → AreRefused m c
  refused_without none = record { no_tied = λ T closed has out enough x y lx ly tx ty e. absurd (none x lx tx) }

  -- each tied line of the first corner forces the given line, which forces all tied lines of the second corner
  pub refused_through : (line : Line) → ForcesTied m (rule_of c) (line ∷ first_corner c) c.two c.one → ForcesTied m (exchanged (rule_of c)) (line ∷ []) c.one c.two → AreRefused m c
  refused_through line far near = record {
    no_tied = λ T closed has out enough x y lx ly tx ty e.
        far y ly ty T closed (true_is (T line) (λ o. not_both (opposite T x) (near x lx tx (opposite T) (other_closed m T closed) (ap not o, tt)) (ap not e)), has);
  }

  pub refused_parting : HasNoneAtCorners m c → AreRefused m c
  refused_parting none = record { no_tied = λ T closed has out enough x y lx ly tx ty e. absurd (none T closed has out enough) }

  pub refused_exchanged : AreRefused m c → AreRefused m (corners_exchanged c)
  refused_exchanged refused = record {
    no_tied = λ T closed has out enough x y lx ly tx ty e.
        true_is (T y) (λ o. not_both (opposite T x)
        (refused.no_tied (opposite T) (other_closed m T closed) (ap not out.0, (ap not out.1.0, tt)) (ap not has.0, (ap not has.1.0, tt)) (other_enough m T 4 enough) y x ly lx ty tx
        (ap not o)) (ap not e));
  }
