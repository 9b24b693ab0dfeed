-- The first good seed gives the first three-separation.
use Rattle.std.proofs.Common.{ℕ, ℤ, true, false, [], ◌≡◌, ◌∙◌, sym, arith, subst, Option, Some, None, Result, Ok, Err, IfOk}
use Rattle.std.specs.Prelude.{MatchOption}
use Rattle.cmr_base.specs.declared.line.Line.{Line}
use Rattle.cmr_base.specs.declared.line.Line.TheVariants.{Row, Column}
use Rattle.cmr_base.specs.declared.separation.Connector.{Connector}
use Rattle.cmr_base.specs.declared.separation.Form.{Form}
use Rattle.cmr_base.specs.declared.separation.Three.{Three}
use Rattle.cmr_base.specs.Matrix.{Matrix, height, entry}
use Rattle.cmr_base.specs.Separations.{HasNoThreeSeparation, Lines, listed, first_is_flat, second_is_flat, connector_lines}
use Rattle.cmr_base.specs.Seeds.{IsLine, IsGoodThree}
use Rattle.cmr_base.proofs.Lists.{all_both}
use Rattle.cmr_base.proofs.ListedLines.{in_from_listed, listed_from_in, first_lines_contain}
use Rattle.cmr_base.proofs.RemovedLines.{in_first_lines, row_set_from_within, column_set_from_within}
use Rattle.cmr_base.proofs.SeedLemmas.{outside_grows, good_three_seed, three_separation_of_seed}
use Rattle.cmr_base.proofs.Booleans.{same_test}
use Rattle.three_sep.specs.Searches.{IsFirstOf, IsFoundSeparation, HasNoGood}
use Rattle.three_sep.specs.ThreeSeparations.{IsFirstThreeSeparation}

-- ---- the side as two lists

-- a good seed with the same lines of the matrix
good_same : (m n : ℕ) (M : ℕ → ℕ → ℤ) (form : Form) (one two : Connector) (x : Line) (S T : Lines) → ((y : Line) → IsLine m n y → S y ≡ T y)
    → IsGoodThree m n M form one two x S → IsGoodThree m n M form one two x T
good_same m n M form one two x S T same g = (
  g.0,
  record {
    line = g.1.line;
    not_first = g.1.not_first;
    not_second = g.1.not_second;
    grown = record {
      closed = record {
        upper = λ r c hr hc e f. g.1.grown.closed.upper r c hr hc (same (Row r) (first_lines_contain m r hr) ∙ e) (same (Column c) (first_lines_contain n c hc) ∙ f);
        lower = λ r c hr hc e f. g.1.grown.closed.lower r c hr hc (same (Row r) (first_lines_contain m r hr) ∙ e) (same (Column c) (first_lines_contain n c hc) ∙ f);
      };
      has = (
        sym (same x g.1.line) ∙ g.1.grown.has.0,
        all_both (IsLine m n) (λ y. S y ≡ true) (λ y. T y ≡ true) (λ y l e. sym (same y l) ∙ e) (connector_lines (first_is_flat form) one) g.0.first_lines g.1.grown.has.1,
      );
      least = λ U closed has y l e. g.1.grown.least U closed has y l (same y l ∙ e);
    };
    two = all_both (IsLine m n) (λ y. S y ≡ false) (λ y. T y ≡ false) (λ y l e. sym (same y l) ∙ e) (connector_lines (second_is_flat form) two) g.0.second_lines g.1.two;
    enough = let a = outside_grows m n T S (λ y l e. same y l ∙ e) in let b = g.1.enough in omega arith;
  },
)

module _ (m : Matrix) (three : Three) (f : IsFirstOf m [] three) where
  abbrev side : Lines
  side = listed three.side.rows three.side.columns

  same_lines : (y : Line) → IsLine (height m) m.width y → f.side y ≡ side y
  same_lines (Row r) l = same_test (f.side (Row r)) (side (Row r)) (λ e. listed_from_in r three.side.rows ((f.lines.rows_are r).1 (l, e))) (λ e. ((f.lines.rows_are r).0 (in_from_listed r three.side.rows e)).1)
  same_lines (Column c) l = same_test (f.side (Column c)) (side (Column c)) (λ e. listed_from_in c three.side.columns ((f.lines.columns_are c).1 (l, e))) (λ e. ((f.lines.columns_are c).0 (in_from_listed c three.side.columns e)).1)

  good : IsGoodThree (height m) m.width (entry m) three.form three.first three.second f.x side
  good = good_same (height m) m.width (entry m) three.form three.first three.second f.x f.side side same_lines
      f.good

  pub first_three : IsFirstThreeSeparation m three
  first_three = record {
    row_set = row_set_from_within m three.side.rows f.lines.rows_increasing (λ r h. in_first_lines (height m) r ((f.lines.rows_are r).0 h).0);
    column_set = column_set_from_within m three.side.columns f.lines.columns_increasing (λ c h. in_first_lines m.width c ((f.lines.columns_are c).0 h).0);
    first = record {
      seed = f.x;
      good = good;
      earliest = λ form' one two line T g. f.first (record { form = form'; pair = record { first = one; second = two }; line = line }) T tt g;
    };
    separates = three_separation_of_seed (height m) m.width (entry m) three.form three.first three.second f.x side good;
  }

pub no_three : (m : Matrix) → HasNoGood m [] → HasNoThreeSeparation m
no_three m none form one two T s =
    let g = good_three_seed (height m) m.width (entry m) form one two T s in
    none (record { form = form; pair = record { first = one; second = two }; line = g.0 }) g.1 tt g.2

-- the answer of the whole search
pub found : {E : Type 0} (matrix m : Matrix) → matrix ≡ m → (r : Result (Option Three) E) → IfOk r (IsFoundSeparation matrix [])
    → IfOk r (λ a. MatchOption a (HasNoThreeSeparation m) (λ three. IsFirstThreeSeparation m three))
found matrix m e (Ok None) none = subst HasNoThreeSeparation e (no_three matrix none)
found matrix m e (Ok (Some three)) first = subst (λ (z : Matrix). IsFirstThreeSeparation z three) e (first_three matrix three first)
found matrix m e (Err h) answer = tt
