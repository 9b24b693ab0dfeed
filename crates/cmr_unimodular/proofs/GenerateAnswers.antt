-- The meaning of the answers of `generate` for the generated matrix.
use Rattle.std.proofs.Common.{◌≡◌, ◌<◌, ◌≤◌, ◌∙◌, ℕ, Result, Ok, Err, sym, subst, arith, ◌^◌, List, Option, Some, None, refl, codes}
use Rattle.std.specs.Prelude.{IfOk}
use Rattle.cmr_base.specs.declared.limits.TheConstants.{MAX_LINES, MAX_ROWS}
use Rattle.cmr_base.specs.declared.memory.Memory.{Memory}
use Rattle.cmr_base.specs.declared.network.Network.{Network as Net}
use Rattle.cmr_base.specs.Matrix.{Matrix, height, entry, IsMatrix}
use Rattle.cmr_base.specs.Trees.{Reproduces, tail, head}
use Rattle.cmr_base.proofs.TreeCuts.{one_path}
use Rattle.cmr_base.proofs.WholeMatrices.{same_matrix}
use Rattle.generate.specs.declared.making.MakeKind.{MakeKind}
use Rattle.generate.specs.declared.making.MakeKind.TheVariants.{Network, TwoSum}
use Rattle.generate.specs.Generated.{IsGenerated, generated_network}
use Rattle.cmr_front.specs.declared.outcome.Outcome.{Outcome}
use Rattle.cmr_front.specs.declared.status.Answer.{Answer}
use Rattle.cmr_front.specs.Outcome.{outcome_report}
use Rattle.cmr_front.specs.Report.{Report}
use Rattle.cmr_front.specs.Status.{answer_status}
use Rattle.cmr_front.specs.Tool.{IsLawful}
use Rattle.cmr_front.proofs.Statuses.{IsAnswered, no_fault, status_of}
use Rattle.cmr_unimodular.specs.Generate.{GenerateDecides, GenerateMeans, IsMade, generate_report, generate_tool, generate_verdict, GenerateOrder, most_size, IsInRange, generate_app, generate_order, generate_order_in, make_kind_in, number_in, size_in}
use Rattle.cmr_evidence.specs.VerdictWords.{answer_of}
use Rattle.cmr_unimodular.specs.Verdict.{Decides, verdict_in}
use Rattle.cmr_unimodular.proofs.OneVerdict.{one_verdict}
use Rattle.cmr_unimodular.proofs.UnimodularAnswers.{unimodular_means}
use Rattle.clap.specs.Words.{Row, Text, first_of}
use Rattle.cmr_front.specs.Words.ReadWords.{◌>>=◌}
use Rattle.cmr_front.specs.Words.Parsing.{lines_in, matches_in, number_from, pivots_in, workers_in}
use Rattle.cmr_front.proofs.Numbers.{lines_in-le, number_from-between, pivots_in-le, workers_in-between}

-- ---- the generated matrix is unique

-- a network reproduces one matrix
same_entry : (net : Net) (m n : Matrix) → Reproduces net m → Reproduces net n → height m ≡ height n → m.width ≡ n.width → (row column : ℕ) → row < height m
    → column < m.width → entry m row column ≡ entry n row column
same_entry net m n a b high wide row column in_rows in_columns =
    let p = a.paths column in_columns in
    let q = b.paths column (omega arith) in
    p.exact row in_rows
    ∙ one_path net.arcs (height m) a.network.tree row (tail net.walks column) (head net.walks column) p.steps q.steps in_rows p.walk p.once q.walk q.once
    ∙ sym (q.exact row (omega arith))

one_generated : (what : MakeKind) (size number : ℕ) (m n : Matrix) → IsMatrix m → IsMatrix n → IsGenerated what size number m → IsGenerated what size number n → m ≡ n
one_generated Network size number m n is_m is_n a b =
    let high = a.0 ∙ sym b.0 in
    let wide = a.1 ∙ sym b.1 in
    same_matrix m n is_m.rectangular is_n.rectangular high wide (same_entry (generated_network size number) m n a.2 b.2 high wide)
one_generated TwoSum size number m n is_m is_n a b = a ∙ sym b

pub one_made : (o : GenerateOrder) (m n : Matrix) → IsMade o m → IsMade o n → m ≡ n
one_made o m n a b = one_generated o.what o.size o.number m n a.is_matrix b.is_matrix a.generated b.generated

-- ---- its verdict

-- the report on it
pub reported : (o : GenerateOrder) (m : Matrix) (tested : Report) (r : Result Outcome Memory) → IsGenerated o.what o.size o.number m → Decides (generate_verdict o) m tested
    → IfOk r (λ outcome. outcome_report outcome ≡ generate_report o m tested) → IfOk r (λ outcome. IsMatrix m) → IfOk r (λ outcome. GenerateDecides o (outcome_report outcome))
reported o m tested (Ok outcome) generated verdict is shape = record { made = m; is_made = record { generated = generated; is_matrix = shape }; tested = tested; verdict = verdict; report_is = is }
reported o m tested (Err memory) generated verdict is shape = tt

-- the greatest sizes
pub size_low : (what : MakeKind) (size : ℕ) → size ≤ most_size what → size ≤ MAX_ROWS
size_low Network size h = h
size_low TwoSum size h = omega arith

pub sum_size_low : (what : MakeKind) (size : ℕ) → size ≤ most_size what → what ≡ TwoSum → size ≤ 249
sum_size_low Network size h e = cc
sum_size_low TwoSum size h e = h

one_status : (o : GenerateOrder) (r s : Report) → GenerateDecides o r → GenerateDecides o s → r.status ≡ s.status
one_status o r s a b =
    let other : Decides (generate_verdict o) a.made b.tested = subst (λ m. Decides (generate_verdict o) m b.tested) (one_made o b.made a.made b.is_made a.is_made) b.verdict in
    status_of r _ a.report_is ∙ one_verdict (generate_verdict o) a.made a.tested b.tested a.verdict other ∙ sym (status_of s _ b.report_is)

says : (o : GenerateOrder) (r : Report) (answer : Answer) → GenerateDecides o r → r.status ≡ answer_status answer → GenerateMeans o answer
says o r answer d is =
    let v = d.verdict in
    let status : answer_status (answer_of (verdict_in v.tree)) ≡ answer_status answer = sym (status_of d.tested _ v.report_is) ∙ sym (status_of r _ d.report_is) ∙ is in
    (d.made, d.is_made, unimodular_means o.budget o.pivots d.made d.is_made.is_matrix v.tree v.decomposition v.right answer status)

answers : (o : GenerateOrder) (r : Report) → GenerateDecides o r → IsAnswered r
answers o r d = (answer_of (verdict_in d.verdict.tree), status_of r _ d.report_is ∙ status_of d.tested _ d.verdict.report_is)

pub generate_lawful : (o : GenerateOrder) → IsLawful (generate_tool o)
generate_lawful o = record { one_status = λ bytes. one_status o; means = λ bytes. says o; at_fault = λ bytes r d is. absurd (no_fault r (answers o r d) is) }

-- the numbers in the arguments of `generate`
size_in-range : (what : MakeKind) (rows : List Row) (size : ℕ) → size_in what rows ≡ Some size → (1 ≤ size) × (size ≤ most_size what)
size_in-range what rows size e = go (first_of (codes "size") rows) e
  where
    go : (text : Option Text) → (text >>= number_from 1 (most_size what)) ≡ Some size → (1 ≤ size) × (size ≤ most_size what)
    go None e = cc
    go (Some text) e = number_from-between 1 (most_size what) text size e

number_in-range : (rows : List Row) (number : ℕ) → number_in rows ≡ Some number → number < 2 ^ 31
number_in-range rows number e = go (first_of (codes "number") rows) e
  where
    go : (text : Option Text) → (text >>= number_from 0 2147483647) ≡ Some number → number < 2 ^ 31
    go None e = cc
    go (Some text) e = let within = number_from-between 0 2147483647 text number e in omega arith

pub generate_order-ranges : (words : List Text) (o : GenerateOrder) → generate_order words ≡ Some o → IsInRange o × (o.pivots ≤ 100)
generate_order-ranges words o e = go (matches_in generate_app words) e
  where
    order_with : MakeKind → Option (List ℕ) → ℕ → ℕ → ℕ → ℕ → ℕ → GenerateOrder
    order_with what output size number budget pivots workers = record { what = what; size = size; number = number; budget = budget; pivots = pivots; workers = workers; output = output }

    of_values : (what : MakeKind) (output : Option (List ℕ)) (size number lines pivots workers : Option ℕ)
        → ((n : ℕ) → size ≡ Some n → (1 ≤ n) × (n ≤ most_size what)) → ((n : ℕ) → number ≡ Some n → n < 2 ^ 31) → ((n : ℕ) → lines ≡ Some n → n ≤ MAX_LINES)
        → ((n : ℕ) → pivots ≡ Some n → n ≤ 100) → ((n : ℕ) → workers ≡ Some n → (1 ≤ n) × (n ≤ 64))
        → (size >>= (λ s. number >>= (λ n. lines >>= (λ l. pivots >>= (λ p. workers >>= (λ w. Some (order_with what output s n l p w))))))) ≡ Some o → IsInRange o × (o.pivots ≤ 100)
    of_values what output None number lines pivots workers of_size of_number of_lines of_pivots of_workers e = cc
    of_values what output (Some s) None lines pivots workers of_size of_number of_lines of_pivots of_workers e = cc
    of_values what output (Some s) (Some n) None pivots workers of_size of_number of_lines of_pivots of_workers e = cc
    of_values what output (Some s) (Some n) (Some l) None workers of_size of_number of_lines of_pivots of_workers e = cc
    of_values what output (Some s) (Some n) (Some l) (Some p) None of_size of_number of_lines of_pivots of_workers e = cc
    of_values what output (Some s) (Some n) (Some l) (Some p) (Some w) of_size of_number of_lines of_pivots of_workers e =
        let same : order_with what output s n l p w ≡ o = cc in
        subst (λ (x : GenerateOrder). IsInRange x × (x.pivots ≤ 100)) same
        (record { positive = (of_size s refl).0; size = (of_size s refl).1; number = of_number n refl; budget = of_lines l refl; workers = of_workers w refl }, of_pivots p refl)

    of_kind : (what : Option MakeKind) (rows : List Row)
        → (what >>= (λ k. size_in k rows >>= (λ s. number_in rows >>= (λ n. lines_in rows >>= (λ l. pivots_in rows >>= (λ p. workers_in rows >>= (λ w. Some (order_with k (first_of (codes "output") rows) s n l p w)))))))) ≡ Some o → IsInRange o × (o.pivots ≤ 100)
    of_kind None rows e = cc
    of_kind (Some k) rows e =
        of_values k (first_of (codes "output") rows) (size_in k rows) (number_in rows) (lines_in rows) (pivots_in rows) (workers_in rows)
        (size_in-range k rows) (number_in-range rows) (lines_in-le rows) (pivots_in-le rows) (workers_in-between rows) e

    go : (rows : Option (List Row)) → (rows >>= generate_order_in) ≡ Some o → IsInRange o × (o.pivots ≤ 100)
    go None e = cc
    go (Some rows) e = of_kind (make_kind_in rows) rows e
