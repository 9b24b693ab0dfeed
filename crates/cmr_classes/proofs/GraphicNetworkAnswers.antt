-- The meaning of the answers of `graphic` and `network` for the matrix.
use Rattle.std.proofs.Common.{◌≡◌, ◌∙◌, ℕ, Bool, true, false, List, Option, Some, None, option_map, Result, Ok, Err, sym, subst, arith}
use Rattle.std.specs.Prelude.{IfOk, IfSome, IsSomeAnd, MatchOption}
use Rattle.cmr_base.specs.declared.line_set.LineSet.{LineSet}
use Rattle.cmr_base.specs.declared.memory.Memory.{Memory}
use Rattle.cmr_base.specs.declared.network.Network.{Network as Net}
use Rattle.cmr_base.specs.Matrix.{Matrix, height, transposed}
use Rattle.cmr_base.specs.LineSets.{AllBelow}
use Rattle.cmr_base.specs.Trees.{HasGraphicSupport, IsGraphic, IsNetworkOf, ReproducesSupport}
use Rattle.cmr_base.specs.GreedySets.{IsGreedySet, IsMinimalWithout}
use Rattle.cmr_base.proofs.Parts.{height-transposed}
use Rattle.cmr_classes.specs.declared.tools.graphic_network.TestedProperty.{TestedProperty}
use Rattle.cmr_classes.specs.declared.tools.graphic_network.TestedProperty.TheVariants.{Graphic, Network}
use Rattle.cmr_front.specs.declared.status.Answer.{Answer}
use Rattle.cmr_front.specs.declared.status.Answer.TheVariants.{Yes, No, Undecided, Refused}
use Rattle.cmr_classes.specs.GraphicNetwork.{Has, IsTestable, Shows, TestDecides, TestMeans, yes, no, path_tool, test_source, tested_lines, tested_matrix, TestOrder}
use Rattle.cmr_front.specs.Minimal.{IsMinimalAsked, IsMinimalSet}
use Rattle.cmr_front.specs.Report.{Report}
use Rattle.cmr_front.specs.Status.{answer_status}
use Rattle.cmr_classes.proofs.TransposedBinary.{transposed_binary}
use Rattle.cmr_front.proofs.MatrixText.{lawful}
use Rattle.cmr_front.specs.Tool.{IsLawful}
use Rattle.cmr_front.proofs.Statuses.{IsAnswered, status_of}

-- ---- a matrix that is testable

pub tested_testable : (p : TestedProperty) (transposed : Bool) (m : Matrix) → IsTestable p m → IsTestable p (tested_matrix transposed m)
tested_testable Graphic true m binary = transposed_binary m binary
tested_testable Graphic false m binary = binary
tested_testable Network transposed m testable = tt

-- a network shows that a testable matrix has the property
pub has_shown : (p : TestedProperty) (m : Matrix) (net : Net) → IsTestable p m → Shows p net m → Has p m
has_shown Graphic m net binary shows = (binary, (net, shows))
has_shown Network m net testable shows = (net, shows)

-- a matrix is not graphic if no tree has its support
pub graphic_found : (m : Matrix) (found : Option Net) → MatchOption found (¬ (HasGraphicSupport m)) (λ net. ReproducesSupport net m)
    → MatchOption found (¬ (IsGraphic m)) (λ net. ReproducesSupport net m)
graphic_found m None none = λ graphic. none graphic.1
graphic_found m (Some net) shows = shows

-- a network that shows a property of a matrix has the matrix's sizes
pub shown_network : (p : TestedProperty) (net : Net) (m : Matrix) → Shows p net m → IsNetworkOf net (height m) m.width
shown_network Graphic net m shows = shows.network
shown_network Network net m shows = shows.network

-- the minimal set that is found if a matrix lacks a property
pub minimal_found : (P : Matrix → Type 0) (m : Matrix) (r : Result (Option LineSet) Memory) → ¬ (P m)
    → IfOk r (λ found. MatchOption found (P m) (λ lines. (¬ (P m)) × IsGreedySet P m lines.rows lines.columns))
    → IfOk r (λ found. IfSome found (λ lines. IsMinimalWithout P m lines.rows lines.columns)) → IfOk r (λ found. IsSomeAnd found (IsMinimalSet P m))
minimal_found P m (Ok None) lacks found minimal = absurd (lacks found)
minimal_found P m (Ok (Some lines)) lacks found minimal = record { greedy = found.1; minimal = minimal }
minimal_found P m (Err memory) lacks found minimal = tt

-- ---- its lines are lines of the given matrix

lines_below : (p : TestedProperty) (transposed : Bool) (m : Matrix) (lines : LineSet) → IsMinimalSet (Has p) (tested_matrix transposed m) (tested_lines transposed lines)
    → AllBelow (height m) lines.rows × AllBelow m.width lines.columns
lines_below p false m lines is = (is.minimal.row_set.in_range, is.minimal.column_set.in_range)
lines_below p true m lines is = (is.minimal.column_set.in_range, subst (λ bound. AllBelow bound lines.columns) (height-transposed m) is.minimal.row_set.in_range)

pub asked_below : (p : TestedProperty) (transposed : Bool) (m : Matrix) (name : Option (List ℕ)) (found : Option LineSet)
    → IsMinimalAsked (Has p) (tested_matrix transposed m) name (option_map (tested_lines transposed) found)
    → IfSome found (λ lines. AllBelow (height m) lines.rows) × IfSome found (λ lines. AllBelow m.width lines.columns)
asked_below p transposed m name None asked = (tt, tt)
asked_below p transposed m None (Some lines) asked = cc
asked_below p transposed m (Some name) (Some lines) asked = lines_below p transposed m lines asked

-- ---- a yes and a no

one_status : (p : TestedProperty) (o : TestOrder) (m : Matrix) (r s : Report) → TestDecides p o m r → TestDecides p o m s → r.status ≡ s.status
one_status p o m r s (yes net is e) (yes net' is' f) = status_of r _ e ∙ sym (status_of s _ f)
one_status p o m r s (yes net is e) (no minimal lacks f) = absurd (lacks.lacks is.has)
one_status p o m r s (no minimal lacks e) (yes net is f) = absurd (lacks.lacks is.has)
one_status p o m r s (no minimal lacks e) (no minimal' lacks' f) = status_of r _ e ∙ sym (status_of s _ f)

says : (p : TestedProperty) (o : TestOrder) (m : Matrix) (r : Report) (answer : Answer) → TestDecides p o m r → r.status ≡ answer_status answer → TestMeans p o m answer
says p o m r Yes (yes net shown e) is = (net, shown)
says p o m r No (yes net shown e) is = let s = status_of r _ e in absurd (omega arith)
says p o m r Undecided (yes net shown e) is = let s = status_of r _ e in absurd (omega arith)
says p o m r Refused (yes net shown e) is = let s = status_of r _ e in absurd (omega arith)
says p o m r Yes (no minimal lacks e) is = let s = status_of r _ e in absurd (omega arith)
says p o m r No (no minimal lacks e) is = (minimal, lacks)
says p o m r Undecided (no minimal lacks e) is = let s = status_of r _ e in absurd (omega arith)
says p o m r Refused (no minimal lacks e) is = let s = status_of r _ e in absurd (omega arith)

answers : (p : TestedProperty) (o : TestOrder) (m : Matrix) (r : Report) → TestDecides p o m r → IsAnswered r
answers p o m r (yes net shown e) = (Yes, status_of r _ e)
answers p o m r (no minimal lacks e) = (No, status_of r _ e)

pub path_lawful : (p : TestedProperty) (o : TestOrder) → IsLawful (path_tool p o)
path_lawful p o = lawful (test_source p o) (TestDecides p o) (TestMeans p o) (says p o) (Unit {0}) (one_status p o) (answers p o)
