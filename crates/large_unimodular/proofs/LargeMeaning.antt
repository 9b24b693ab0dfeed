-- What a verdict on a large matrix means, and that a matrix has verdicts of one kind.
use Rattle.std.proofs.Common.{◌≡◌, ◌<◌, ◌≤◌, ◌++◌, ◌∙◌, inl, inr, drop, ℕ, List, [], ◌∷◌, length, get_or, ap, sym, subst, arith}
use Rattle.std.proofs.Math.Seq.{get_or-append_seam}
use Rattle.std.proofs.lemmas.List.{get_or_default, length-append}
use Rattle.std.specs.List.{AllByRecursion, Contains}
use Rattle.cmr_base.specs.declared.limits.TheConstants.{MAX_LINES}
use Rattle.cmr_base.specs.declared.line_set.LineSet.{LineSet}
use Rattle.cmr_base.specs.Components.{no_lines, part_at}
use Rattle.cmr_base.specs.Matrix.{Matrix, entry, IsTernary}
use Rattle.cmr_base.specs.Violator.{HasNoViolator, IsViolator}
use Rattle.cmr_base.proofs.Lists.{all-append, all_at, all_back, all_by_places, all_weaker}
use Rattle.cmr_base.proofs.Parts.{is_ternary-submatrix}
use Rattle.ghouila.proofs.CamionLaw.{camion, unsigned}
use Rattle.tree_type.specs.Invariant.{AreLines, AreLinesOf}
use Rattle.tree_type.specs.Soundness.{part}
use Rattle.tree_type.proofs.PlacedLines.{lines_within}
use Rattle.tree_laws.specs.Laws.{IsRefuted}
use Rattle.decomp_tree.specs.Seen.{IsPlacedSet}
use Rattle.decomp_tree.specs.Shapes.{set_in}
use Rattle.decomp_tree.proofs.Kept.{named_lines}
use Rattle.decomp_tree.proofs.Numbered.{height_in, violator_in}
use Rattle.core_parts.specs.CoreParts.{AreCoreParts}
use Rattle.core_parts.proofs.CoreLines.{core_parts_decide, part_column_set, part_row_set}
use Rattle.core_parts.proofs.OneListOfParts.{one_list_of_parts}
use Rattle.large_unimodular.specs.declared.part_verdicts.PartVerdict.TheVariants as own
use Rattle.large_unimodular.specs.declared.verdict.LargeVerdict.{LargeVerdict}
use Rattle.large_unimodular.specs.declared.verdict.LargeVerdict.TheVariants.{Yes, No, Open}
use Rattle.large_unimodular.specs.PartVerdicts.{IsFaultIn, IsPartVerdict}
use Rattle.large_unimodular.specs.LargeVerdicts.{HasVerdict, IsFirstNo, IsFirstOpen, IsLargeVerdict, IsVerdictOn, IsYesOrOpen}
use Rattle.large_unimodular.specs.LargeLaws.{AreOfSameKind, LargeMeans}
use Rattle.large_unimodular.proofs.PartMeaning.{one_part_kind, right_verdict}

-- ---- a violator of a part

module _ (m : Matrix) (lines fault : LineSet) (are : AreLines m lines) (is : IsFaultIn (part m lines) fault) where
  pub fault_placed : IsPlacedSet lines fault
  fault_placed = record {
    rows = subst (λ (n : ℕ). (k : ℕ) → k < length fault.rows → get_or fault.rows k 0 < n) (height_in m lines) is.row_set.in_range;
    columns = is.column_set.in_range;
  }

  pub fault_among : AreLinesOf (set_in lines fault) lines
  fault_among = named_lines lines fault are.rows.increasing are.columns.increasing fault_placed is.row_set.increasing is.column_set.increasing

  fault_violates : IsViolator (entry m) (set_in lines fault).rows (set_in lines fault).columns
  fault_violates = violator_in m lines fault.rows fault.columns (all_by_places (λ r. r < length lines.rows) fault.rows 0 fault_placed.rows)
      (all_by_places (λ c. c < length lines.columns) fault.columns 0 fault_placed.columns) is.violator

  refuted : IsRefuted m (set_in lines fault)
  refuted =
      let whole = lines_within m (set_in lines fault) lines fault_among are in
      let fault_rows = (set_in lines fault).rows in
      let none = unsigned m fault_rows (set_in lines fault).columns whole.columns fault_violates in
      record {
        row_set = whole.rows;
        column_set = whole.columns;
        violator = fault_violates;
        unsigned = none;
        not_unimodular = λ unimodular. let signing = unimodular fault_rows whole.rows in none signing.0 signing.1;
      }

-- ---- a part in a list

middle_at : (parts before after : List LineSet) (lines : LineSet) → parts ≡ before ++ lines ∷ after → (length before < length parts) × (part_at parts (length before) ≡ lines)
middle_at parts before after lines e = (
  (let long = ap length e in let both = length-append before (lines ∷ after) in omega (arith, long, both)),
  ap (λ (all : List LineSet). part_at all (length before)) e ∙ get_or-append_seam before lines after no_lines,
)

pub part_lines : (m : Matrix) (parts : List LineSet) (a : ℕ) → IsTernary m → AreCoreParts m parts → a < length parts → AreLines m (part_at parts a)
part_lines m parts a is are l = record { rows = part_row_set m parts is.rectangular are a l; columns = part_column_set m parts is.rectangular are a l }

pub contained_lines : (m : Matrix) (parts : List LineSet) (lines : LineSet) → IsTernary m → AreCoreParts m parts → Contains parts lines → AreLines m lines
contained_lines m parts lines is are (k, l, e) = subst (AreLines m) (get_or_default parts k no_lines lines l ∙ e) (part_lines m parts k is are l)

middle_lines : (m : Matrix) (parts before after : List LineSet) (lines : LineSet) → IsTernary m → AreCoreParts m parts → parts ≡ before ++ lines ∷ after → AreLines m lines
middle_lines m parts before after lines is are e =
    let there = middle_at parts before after lines e in
    subst (AreLines m) there.1 (part_lines m parts (length before) is are there.0)

-- ---- what a verdict means

module _ (limit pivots : ℕ) (m : Matrix) (few : limit ≤ MAX_LINES) (is : IsTernary m) where
  part_ternary : (lines : LineSet) → IsTernary (part m lines)
  part_ternary lines = is_ternary-submatrix m lines.rows lines.columns is

  pub fault_of_part : (lines fault : LineSet) → IsPartVerdict limit pivots (part m lines) (own.No fault) → IsFaultIn (part m lines) fault
  fault_of_part lines fault verdict = right_verdict limit pivots (part m lines) (own.No fault) few (part_ternary lines) verdict

  all_yes_free : (parts : List LineSet) → AllByRecursion (HasVerdict limit pivots m own.Yes) parts → (a : ℕ) → a < length parts → HasNoViolator (part m (part_at parts a))
  all_yes_free parts all a l =
      right_verdict limit pivots (part m (part_at parts a)) own.Yes few (part_ternary (part_at parts a)) (all_at (HasVerdict limit pivots m own.Yes) parts a no_lines all l)

  means : (parts : List LineSet) (verdict : LargeVerdict) → AreCoreParts m parts → IsVerdictOn limit pivots m parts verdict → LargeMeans m verdict
  means parts Yes are all =
      let none = (core_parts_decide m parts is are).1 (all_yes_free parts all) in
      record { unimodular = (camion m is.small).1 none; none = none }
  means parts (No fault) are first = subst (IsRefuted m) (sym first.fault_is)
      (refuted m first.lines first.own_fault (middle_lines m parts first.before first.after first.lines is are first.order) (fault_of_part first.lines first.own_fault first.refuted))
  means parts (Open lines) are first = tt

-- ---- one kind

head_same : (x y : LineSet) (xs ys : List LineSet) → x ∷ xs ≡ y ∷ ys → x ≡ y
head_same x y xs ys e = ap (λ (all : List LineSet). get_or all 0 no_lines) e

tail_same : (x y : LineSet) (xs ys : List LineSet) → x ∷ xs ≡ y ∷ ys → xs ≡ ys
tail_same x y xs ys e = ap (drop 1) e

-- the first of a kind is one
one_first : (P Q : LineSet → Type 0) → ((x : LineSet) → P x → Q x → ⊥) → (before others after rest : List LineSet) (x y : LineSet) → before ++ x ∷ after ≡ others ++ y ∷ rest
    → AllByRecursion Q before → AllByRecursion Q others → P x → P y → x ≡ y
one_first P Q apart [] [] after rest x y e none none' p q = head_same x y after rest e
one_first P Q apart [] (z ∷ others) after rest x y e none none' p q = absurd (apart x p (subst Q (sym (head_same x z after (others ++ y ∷ rest) e)) none'.0))
one_first P Q apart (z ∷ before) [] after rest x y e none none' p q = absurd (apart y q (subst Q (head_same z y (before ++ x ∷ after) rest e) none.0))
one_first P Q apart (z ∷ before) (w ∷ others) after rest x y e none none' p q = one_first P Q apart before others after rest x y (tail_same z w (before ++ x ∷ after)
    (others ++ y ∷ rest) e) none.1 none'.1 p q

module _ (limit pivots : ℕ) (m : Matrix) where
  abbrev IsNo : LineSet → Type 0
  IsNo lines = (fault : LineSet) × IsPartVerdict limit pivots (part m lines) (own.No fault)

  no_is_no_yes : (lines : LineSet) → IsNo lines → HasVerdict limit pivots m own.Yes lines → ⊥
  no_is_no_yes lines (fault, refuted_is) yes_is = one_part_kind limit pivots (part m lines) (own.No fault) own.Yes refuted_is yes_is

  open_is_no_yes : (lines : LineSet) → HasVerdict limit pivots m own.Open lines → HasVerdict limit pivots m own.Yes lines → ⊥
  open_is_no_yes lines stays yes_is = one_part_kind limit pivots (part m lines) own.Open own.Yes stays yes_is

  no_is_neither : (lines : LineSet) → IsNo lines → IsYesOrOpen limit pivots m lines → ⊥
  no_is_neither lines refuted_is (inl yes_is) = no_is_no_yes lines refuted_is yes_is
  no_is_neither lines (fault, refuted_is) (inr stays) = one_part_kind limit pivots (part m lines) (own.No fault) own.Open refuted_is stays

  -- an item of a list that has none of its kind
  none_in : (P Q : LineSet → Type 0) → ((x : LineSet) → P x → Q x → ⊥) → (parts before after : List LineSet) (x : LineSet) → parts ≡ before ++ x ∷ after → AllByRecursion Q parts → P x → ⊥
  none_in P Q apart parts before after x e none p = apart x p (all_back Q before (x ∷ after) (subst (AllByRecursion Q) e none)).0

  no_among_open : (parts : List LineSet) (lines : LineSet) → IsFirstOpen limit pivots m parts lines → AllByRecursion (IsYesOrOpen limit pivots m) parts
  no_among_open parts lines first = subst (AllByRecursion (IsYesOrOpen limit pivots m)) (sym first.order)
      (all-append (IsYesOrOpen limit pivots m) first.before (lines ∷ first.after)
      (all_weaker (HasVerdict limit pivots m own.Yes) (IsYesOrOpen limit pivots m) (λ x is. inl is) first.before first.earlier) (inr first.stays, first.later))

  no_against_open : (parts : List LineSet) (fault lines : LineSet) → IsFirstNo limit pivots m parts fault → IsFirstOpen limit pivots m parts lines → ⊥
  no_against_open parts fault lines first open_is =
      none_in IsNo (IsYesOrOpen limit pivots m) no_is_neither parts first.before first.after first.lines first.order (no_among_open parts lines open_is) (first.own_fault, first.refuted)

  alike : (parts : List LineSet) (verdict other : LargeVerdict) → limit ≤ MAX_LINES → IsTernary m → AreCoreParts m parts → IsVerdictOn limit pivots m parts verdict
      → IsVerdictOn limit pivots m parts other
      → AreOfSameKind verdict other
  alike parts Yes Yes few is are one two = tt
  alike parts Yes (No fault) few is are one two = none_in IsNo (HasVerdict limit pivots m own.Yes) no_is_no_yes parts two.before two.after two.lines two.order one (two.own_fault, two.refuted)
  alike parts Yes (Open lines) few is are one two = none_in (HasVerdict limit pivots m own.Open)
      (HasVerdict limit pivots m own.Yes) open_is_no_yes parts two.before two.after lines two.order one two.stays
  alike parts (No fault) Yes few is are one two = none_in IsNo (HasVerdict limit pivots m own.Yes) no_is_no_yes parts one.before one.after one.lines one.order two (one.own_fault, one.refuted)
  alike parts (No fault) (No other) few is are one two =
      let same = one_first IsNo (IsYesOrOpen limit pivots m) no_is_neither one.before two.before one.after two.after one.lines two.lines (sym one.order ∙ two.order) one.earlier two.earlier
      (one.own_fault, one.refuted) (two.own_fault, two.refuted) in
      let are_lines = middle_lines m parts one.before one.after one.lines is are one.order in
      let are_others = middle_lines m parts two.before two.after two.lines is are two.order in (
        one.lines,
        subst (λ (lines : LineSet). AreLinesOf lines one.lines) (sym one.fault_is)
            (fault_among m one.lines one.own_fault are_lines (fault_of_part limit pivots m few is one.lines one.own_fault one.refuted)),
        subst (λ (lines : LineSet). AreLinesOf other lines) (sym same)
            (subst (λ (lines : LineSet). AreLinesOf lines two.lines) (sym two.fault_is)
            (fault_among m two.lines two.own_fault are_others (fault_of_part limit pivots m few is two.lines two.own_fault two.refuted))),
      )
  alike parts (No fault) (Open lines) few is are one two = no_against_open parts fault lines one two
  alike parts (Open lines) Yes few is are one two = none_in (HasVerdict limit pivots m own.Open)
      (HasVerdict limit pivots m own.Yes) open_is_no_yes parts one.before one.after lines one.order two one.stays
  alike parts (Open lines) (No fault) few is are one two = no_against_open parts fault lines two one
  alike parts (Open lines) (Open others) few is are one two = one_first (HasVerdict limit pivots m own.Open)
      (HasVerdict limit pivots m own.Yes) open_is_no_yes one.before two.before one.after two.after lines others
      (sym one.order ∙ two.order) one.earlier two.earlier one.stays two.stays

-- ---- the laws

pub verdicts_mean : (limit pivots : ℕ) (m : Matrix) (verdict : LargeVerdict) → limit ≤ MAX_LINES → IsTernary m → IsLargeVerdict limit pivots m verdict → LargeMeans m verdict
verdicts_mean limit pivots m verdict few is found = means limit pivots m few is found.parts verdict found.are found.verdict_is

pub one_kind : (limit pivots : ℕ) (m : Matrix) (verdict other : LargeVerdict) → limit ≤ MAX_LINES → IsTernary m → IsLargeVerdict limit pivots m verdict → IsLargeVerdict limit pivots m other
    → AreOfSameKind verdict other
one_kind limit pivots m verdict other few is one two = alike limit pivots m one.parts verdict other few is one.are one.verdict_is
    (subst (λ (parts : List LineSet). IsVerdictOn limit pivots m parts other) (one_list_of_parts m two.parts one.parts two.are one.are) two.verdict_is)
