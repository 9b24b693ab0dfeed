-- The meaning of the answers of `regular` for the matrix.
use Rattle.std.proofs.Common.{◌≡◌, ◌≤◌, ◌∙◌, ℕ, List, Result, Ok, Err, refl, sym, subst, arith, Option, Some, None, codes}
use Rattle.std.specs.Prelude.{IfOk}
use Rattle.cmr_base.specs.declared.memory.Memory.{Memory}
use Rattle.cmr_base.specs.declared.line_set.LineSet.{LineSet}
use Rattle.cmr_base.specs.Matrix.{Matrix, height}
use Rattle.cmr_base.proofs.WholeMatrices.{is_ternary}
use Rattle.chains.proofs.ChainViolators.{chains_mean_violators, chains_refute_regularity}
use Rattle.chains.specs.declared.step.SignStep.{SignStep}
use Rattle.chains.specs.ChainTexts.{AreLinesIn, chain_text}
use Rattle.chains.specs.Chains.{IsSoundChain}
use Rattle.tree_laws.specs.Laws.{IsRefuted, VerdictMeans}
use Rattle.tree_type.specs.DecompositionTrees.{SizedTree}
use Rattle.tree_type.specs.Verdicts as verdicts
use Rattle.tree_type.specs.Verdicts.{Verdict}
use Rattle.cmr_front.specs.declared.outcome.Outcome.{Outcome}
use Rattle.cmr_front.specs.declared.status.Answer.{Answer}
use Rattle.cmr_front.specs.Outcome.{outcome_report}
use Rattle.cmr_front.specs.declared.status.Answer.TheVariants.{Yes, No, Undecided, Refused}
use Rattle.cmr_front.specs.Report.{Report}
use Rattle.cmr_front.specs.Status.{answer_status}
use Rattle.cmr_front.specs.Tool.{IsLawful}
use Rattle.cmr_front.proofs.MatrixText.{lawful}
use Rattle.cmr_front.proofs.Statuses.{status_of}
use Rattle.cmr_unimodular.specs.Regular.{HasLinesIn, IsSignedTo, RegularDecides, RegularMeans, RegularSays, chain_with, regular_report, regular_source, regular_tool, regular_verdict, RegularOrder, regular_app, regular_order, regular_order_in}
use Rattle.cmr_unimodular.specs.Tu.{UnimodularMeans}
use Rattle.cmr_evidence.specs.VerdictWords.{answer_of}
use Rattle.cmr_unimodular.specs.Verdict.{Decides, IsDecomposition, IsRightVerdict, verdict_in, verdict_report}
use Rattle.cmr_unimodular.proofs.OneSigning.{one_signing}
use Rattle.cmr_unimodular.proofs.OneVerdict.{one_verdict}
use Rattle.cmr_unimodular.proofs.UnimodularAnswers.{unimodular_means}
use Rattle.clap.specs.Words.{Row, Text, first_of}
use Rattle.cmr_front.specs.declared.matrix_file.MatrixForm.{MatrixForm}
use Rattle.cmr_front.specs.Words.ReadWords.{◌>>=◌}
use Rattle.cmr_front.specs.Words.Parsing.{fault_in, file_in, matches_with_input}
use Rattle.cmr_front.proofs.Numbers.{with_numbers}

-- ---- the chain

-- a violator of the signed matrix has its lines in the matrix
pub lines_in_matrix : (a signed : Matrix) (steps : List SignStep) (v : Verdict) → IsSignedTo a steps signed → VerdictMeans signed v → HasLinesIn (height a) a.width v
lines_in_matrix a signed steps verdicts.Yes is right = tt
lines_in_matrix a signed steps (verdicts.No fault) is right = (
  (λ k l. let r = right.row_set.in_range k l in let h = is.one_support.height_same in omega arith),
  (λ k l. let r = right.column_set.in_range k l in let w = is.one_support.width_same in omega arith),
)
lines_in_matrix a signed steps (verdicts.Open lines) is right = tt

pub sound : (a signed : Matrix) (steps : List SignStep) (fault : LineSet) → IsSignedTo a steps signed → IsRefuted signed fault → IsSoundChain a (chain_with a steps fault) signed
sound a signed steps fault is right = record {
  sizes = (refl, refl);
  steps = is.chain;
  violator = record {
    row_set = record { increasing = right.row_set.increasing; in_range = (lines_in_matrix a signed steps (verdicts.No fault) is right).0 };
    column_set = record { increasing = right.column_set.increasing; in_range = (lines_in_matrix a signed steps (verdicts.No fault) is right).1 };
    all_signed = λ i j h g one. is.by_camion.all_signed i j one;
    violator = right.violator;
  };
}

-- ---- one status

one_status : (o : RegularOrder) (a : Matrix) (r s : Report) → RegularDecides o a r → RegularDecides o a s → r.status ≡ s.status
one_status o a r s x y =
    let same : y.signed ≡ x.signed = (one_signing a y.signed x.signed y.steps x.steps x.signing.matrix y.signing.by_camion x.signing.by_camion).1 in
    let first : Decides (regular_verdict o) x.signed (verdict_report (regular_verdict o) x.signed x.tree) = record { tree = x.tree; decomposition = x.decomposition; right = x.right; report_is = refl } in
    let second : Decides (regular_verdict o) y.signed (verdict_report (regular_verdict o) y.signed y.tree) = record { tree = y.tree; decomposition = y.decomposition; right = y.right; report_is = refl } in
    status_of r _ x.report_is
    ∙ one_verdict (regular_verdict o) x.signed (verdict_report (regular_verdict o) x.signed x.tree) (verdict_report (regular_verdict o) y.signed y.tree) first
    (subst (λ m. Decides (regular_verdict o) m (verdict_report (regular_verdict o) y.signed y.tree)) same second)
    ∙ sym (status_of s _ y.report_is)

-- ---- its meaning

says_signed : (o : RegularOrder) (a signed : Matrix) (steps : List SignStep) → IsSignedTo a steps signed → (answer : Answer)
    → UnimodularMeans o.budget o.pivots signed answer → RegularSays o a steps signed answer
says_signed o a signed steps is Yes (tree, decomposition, e, good) =
    (tree, decomposition, e, record { regular = (signed, is_ternary signed is.signed_matrix, is.one_support, good.signings); unimodular = good })
says_signed o a signed steps is No (tree, decomposition, fault, e, bad) =
    let chain = sound a signed steps fault is bad.refuted in (
      tree,
      decomposition,
      fault,
      e,
      record {
        not_unimodular = bad;
        chain = chain;
        violators = λ m ternary support. chains_mean_violators a m signed (chain_with a steps fault) is.binary (is_ternary a is.matrix) chain ternary support;
        not_regular = chains_refute_regularity a signed (chain_with a steps fault) is.binary (is_ternary a is.matrix) chain;
      },
    )
says_signed o a signed steps is Undecided left = left
says_signed o a signed steps is Refused none = none

says : (o : RegularOrder) (a : Matrix) (r : Report) (answer : Answer) → RegularDecides o a r → r.status ≡ answer_status answer → RegularMeans o a answer
says o a r answer d is =
    let status : answer_status (answer_of (verdict_in d.tree)) ≡ answer_status answer = sym (status_of r _ d.report_is) ∙ is in (
      d.steps,
      d.signed,
      d.signing,
      says_signed o a d.signed d.steps d.signing answer
          (unimodular_means o.budget o.pivots d.signed d.signing.signed_matrix d.tree d.decomposition d.right answer status),
    )

pub regular_lawful : (o : RegularOrder) → IsLawful (regular_tool o)
regular_lawful o = lawful (regular_source o) (RegularDecides o) (RegularMeans o) (says o) _ (one_status o) (λ a r d. (answer_of (verdict_in d.tree), status_of r _ d.report_is))

-- the violator of a no
pub fault_lines : (rows columns : ℕ) (v : Verdict) (fault : LineSet) → v ≡ verdicts.No fault → HasLinesIn rows columns v → AreLinesIn rows columns fault
fault_lines rows columns v fault e lines = subst (HasLinesIn rows columns) e lines

-- the report
pub reported : (o : RegularOrder) (a signed : Matrix) (steps : List SignStep) (tree : SizedTree) (r : Result Outcome Memory) → IsSignedTo a steps signed
    → IsDecomposition o.budget o.pivots signed tree → IsRightVerdict o.budget o.pivots signed (verdict_in tree)
    → IfOk r (λ outcome. outcome_report outcome ≡ regular_report o a steps signed tree) → IfOk r (λ outcome. RegularDecides o a (outcome_report outcome))
reported o a signed steps tree (Ok outcome) signing decomposition right is = record { steps = steps; signed = signed; signing = signing; tree = tree; decomposition = decomposition; right = right; report_is = is }
reported o a signed steps tree (Err memory) signing decomposition right is = tt

-- the chain that is written
pub chain_written : (a : Matrix) (kept steps : List SignStep) (violator fault : LineSet) (rows columns : ℕ) → kept ≡ steps → violator ≡ fault → rows ≡ height a → columns ≡ a.width
    → chain_text (record { chain = record { steps = kept; violator = violator }; rows = rows; columns = columns }) ≡ chain_text (chain_with a steps fault)
chain_written a kept steps violator fault rows columns d e f g = rw (d, e, f, g) refl

-- the numbers in the arguments of `regular` are in their ranges, the pivots included
pub regular_order-ranges : (words : List Text) (o : RegularOrder) → regular_order words ≡ Some o → (regular_tool o).InRanges × (o.pivots ≤ 100)
regular_order-ranges words o e = go (matches_with_input regular_app words) e
  where
    order_with : List Row → MatrixForm → ℕ → ℕ → ℕ → RegularOrder
    order_with rows form budget pivots workers = record {
      form = form;
      budget = budget;
      pivots = pivots;
      workers = workers;
      tree = first_of (codes "tree") rows;
      fault = fault_in rows;
      signed = first_of (codes "output") rows;
      chain = first_of (codes "chain") rows;
      file = file_in rows;
    }

    go : (rows : Option (List Row)) → (rows >>= regular_order_in) ≡ Some o → (regular_tool o).InRanges × (o.pivots ≤ 100)
    go None e = cc
    go (Some rows) e = with_numbers (λ (x : RegularOrder). (regular_tool x).InRanges × (x.pivots ≤ 100)) (order_with rows) rows o (λ form budget pivots workers few bound some. ((few, some.0, some.1), bound)) e
