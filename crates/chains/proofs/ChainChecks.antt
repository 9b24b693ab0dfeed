-- The check of a chain, step by step.
use Rattle.std.proofs.Common.{Option, Some, None, MatchOption, ◌≡◌, ◌≢◌, ◌∙◌, ◌<◌, ◌≤◌, ◌+◌, ◌++◌, ◌+ℤ◌, ◌-ℤ◌, ◌-◌, ◌/◌, ◌%◌, ℕ, zero, suc, ℤ, pos, negsuc, neg_ℤ, List, [], ◌∷◌, take, drop, length, get_or, inl, inr, refl, sym, ap, subst, arith, of_z, w32}
use Rattle.std.specs.Int.{int_rem_euclid}
use Rattle.std.specs.List.{AllByRecursion}
use Rattle.std.specs.List.Sorted.{IsStrictlyIncreasing}
use Rattle.std.proofs.lemmas.Bool.{cases_lt}
use Rattle.std.proofs.lemmas.List.{take_all, take_more, drop_all, length-drop, get_or_default}
use Rattle.std.proofs.Math.Seq.{drop-cons}
use Rattle.cmr_base.specs.Matrix.{Matrix, height, entry, with_entry, IsMatrix}
use Rattle.cmr_base.specs.Members.{IsIn}
use Rattle.cmr_base.specs.Sums.{sum_over}
use Rattle.cmr_base.specs.LineSets.{AllBelow, IsRowSet, IsColumnSet, submatrix_sum}
use Rattle.cmr_base.specs.Signing.{IsSign}
use Rattle.cmr_base.specs.Violator.{IsViolator}
use Rattle.cmr_base.specs.declared.line_set.LineSet.{LineSet}
use Rattle.cmr_base.proofs.Integers.{sums}
use Rattle.cmr_base.proofs.Members.{all_in, all_of_members, in_at, increasing_are_distinct}
use Rattle.cmr_base.proofs.IncreasingLists.{row_set_increases, column_set_increases}
use Rattle.cmr_base.proofs.ListsWithout.{place_of, place_is}
use Rattle.chains.specs.declared.step.SignStep.{SignStep}
use Rattle.chains.specs.declared.step.SignStep.TheVariants.{Free, Forced}
use Rattle.chains.specs.declared.step.SizedChain.{SizedChain}
use Rattle.chains.specs.declared.check.Followed.{Followed}
use Rattle.chains.specs.SignSteps.{AreSigns, unsigned, IsUnsignedOne, IsZeroModFour, LeadTo, signed_by, step_row, step_column}
use Rattle.chains.specs.Chains.{KeepsRule, Breaks, HasChainSizes, IsFirstBrokenPart, IsSoundChain, IsForcedStep, IsSignedViolator, HasTwoEach}
use Rattle.chains.specs.ChainStates.{AllSignedBut, IsOpenBut, HasFollowed}
use Rattle.chains.proofs.GivenSigns.{lead_more, one_more, signs_more}
use Rattle.chains.proofs.ChainViolators.{one_entry, sign_four, unsigned_signs}

pub in_lines : (lines : List ℕ) (k line : ℕ) → k < length lines → get_or lines k 0 ≡ line → IsIn line lines
in_lines lines k line l e = subst (λ x. IsIn x lines) e (in_at lines k l)

pub not_in_lines : (lines : List ℕ) (line count : ℕ) → length lines ≤ count → ((k : ℕ) → k < count → get_or lines k 0 ≢ line) → ¬ (IsIn line lines)
not_in_lines lines line count all none i = let p = place_is line lines i in none (place_of line lines) (let l = p.in_range in omega arith) p.there

pub all_signed_from : (a s : Matrix) (rows columns : List ℕ) (row column : ℕ)
    → AllByRecursion (λ i. AllByRecursion (λ j. ¬ (IsOpenBut a s row column i j)) columns) rows → AllSignedBut a s rows columns row column
all_signed_from a s rows columns row column h i j g k one other z = all_in (λ j. ¬ (IsOpenBut a s row column i j)) columns (all_in (λ i. AllByRecursion (λ j. ¬ (IsOpenBut a s row column i j)) columns) rows h i g) j k (record { open_one = record { one = one; no_sign = z }; other = other })

pub row_signed_from : (a s : Matrix) (rows columns : List ℕ) (row column i : ℕ) → IsIn i rows → AllSignedBut a s rows columns row column
    → AllByRecursion (λ j. ¬ (IsOpenBut a s row column i j)) columns
row_signed_from a s rows columns row column i g h = all_of_members (λ j. ¬ (IsOpenBut a s row column i j)) columns (λ j k o. h i j g k o.open_one.one o.other o.open_one.no_sign)

-- the sign of a forced step
pub forced_from : (a s : Matrix) (row column : ℕ) (cycle : LineSet) (v : ℤ) → IsMatrix a → AreSigns a s → IsUnsignedOne a s row column → IsRowSet a cycle.rows
    → IsColumnSet a cycle.columns → IsIn row cycle.rows → IsIn column cycle.columns
    → HasTwoEach a cycle.rows cycle.columns → AllSignedBut a s cycle.rows cycle.columns row column → IsSign v
    → IsZeroModFour (submatrix_sum s cycle.rows cycle.columns +ℤ v) → IsForcedStep a s row column cycle v
forced_from a s row column cycle v is signs here row_set column_set row_here column_here two_each others u four = record {
  here = here;
  row_set = row_set;
  column_set = column_set;
  row_in = row_here;
  column_in = column_here;
  two_each = two_each;
  others = others;
  is_sign = u;
  four = subst IsZeroModFour (sym (forced_sum a s row column cycle v is signs here row_set column_set row_here column_here)) four;
}
  where
    forced_sum : (a s : Matrix) (row column : ℕ) (cycle : LineSet) (v : ℤ) → IsMatrix a → AreSigns a s → IsUnsignedOne a s row column → IsRowSet a cycle.rows
        → IsColumnSet a cycle.columns → IsIn row cycle.rows → IsIn column cycle.columns
        → submatrix_sum (with_entry s row column v) cycle.rows cycle.columns ≡ submatrix_sum s cycle.rows cycle.columns +ℤ v
    forced_sum a s row column cycle v is signs here row_set column_set row_here column_here =
        plain (submatrix_sum (with_entry s row column v) cycle.rows cycle.columns) (submatrix_sum s cycle.rows cycle.columns) (entry (with_entry s row column v) row column) (entry s row column) v
        (one_entry (entry (with_entry s row column v)) (entry s) cycle.rows cycle.columns row column
        (increasing_are_distinct 0 (height a) cycle.rows (row_set_increases a cycle.rows row_set)) (increasing_are_distinct 0 a.width cycle.columns (column_set_increases a cycle.columns column_set))
        row_here column_here (λ i j h g e. (one_more a s is.rectangular signs row column v here.one).other i j e))
        (one_more a s is.rectangular signs row column v here.one).here here.no_sign
      where
        plain : (x y p q v : ℤ) → x -ℤ y ≡ p -ℤ q → p ≡ v → q ≡ pos 0 → x ≡ y +ℤ v
        plain x y p q v e f g = omega (arith, sums)

-- the converse: the rule determines the sum before
pub forced_rest : (a s : Matrix) (row column : ℕ) (cycle : LineSet) (v : ℤ) → IsMatrix a → AreSigns a s → IsForcedStep a s row column cycle v
    → IsZeroModFour (submatrix_sum s cycle.rows cycle.columns +ℤ v)
forced_rest a s row column cycle v is signs rule = subst IsZeroModFour
    (plain (submatrix_sum (with_entry s row column v) cycle.rows cycle.columns) (submatrix_sum s cycle.rows cycle.columns) (entry (with_entry s row column v) row column) (entry s row column) v
    (one_entry (entry (with_entry s row column v)) (entry s) cycle.rows cycle.columns row column
    (increasing_are_distinct 0 (height a) cycle.rows (row_set_increases a cycle.rows rule.row_set)) (increasing_are_distinct 0 a.width cycle.columns (column_set_increases a cycle.columns rule.column_set))
    rule.row_in rule.column_in (λ i j h g e. (one_more a s is.rectangular signs row column v rule.here.one).other i j e))
    (one_more a s is.rectangular signs row column v rule.here.one).here rule.here.no_sign) rule.four
  where
    plain : (x y p q v : ℤ) → x -ℤ y ≡ p -ℤ q → p ≡ v → q ≡ pos 0 → x ≡ y +ℤ v
    plain x y p q v e f g = omega (arith, sums)

-- two signs of one step are the same
pub one_sign : (a s : Matrix) (step : SignStep) (v w : ℤ) → IsMatrix a → AreSigns a s → KeepsRule a s step v → KeepsRule a s step w → v ≡ w
one_sign a s (Free row column) v w is signs (rule, e) (rule', f) = e ∙ sym f
one_sign a s (Forced row column cycle) v w is signs rule rule' =
    sign_four (submatrix_sum s cycle.rows cycle.columns +ℤ v) (submatrix_sum s cycle.rows cycle.columns +ℤ w) v w (plain (submatrix_sum s cycle.rows cycle.columns) v w)
    (forced_rest a s row column cycle v is signs rule) (forced_rest a s row column cycle w is signs rule') rule.is_sign rule'.is_sign
  where
    plain : (x v w : ℤ) → (x +ℤ v) -ℤ (x +ℤ w) ≡ v -ℤ w
    plain x v w = omega (arith, sums)

pub rule_one : (a s : Matrix) (step : SignStep) (v : ℤ) → KeepsRule a s step v → IsUnsignedOne a s (step_row step) (step_column step) × IsSign v
rule_one a s (Free row column) v (rule, e) = (rule.here, inl e)
rule_one a s (Forced row column cycle) v rule = (rule.here, rule.is_sign)

pub rule_signs : (a s : Matrix) (step : SignStep) (v : ℤ) → IsMatrix a → AreSigns a s → KeepsRule a s step v → AreSigns a (signed_by s step v)
rule_signs a s step v is signs rule = let h = rule_one a s step v rule in signs_more a s is.rectangular signs (step_row step) (step_column step) v h.0.one h.1

-- steps lead to one matrix only
pub lead_once : (a s end other : Matrix) (steps : List SignStep) → IsMatrix a → AreSigns a s → LeadTo (KeepsRule a) s steps end → LeadTo (KeepsRule a) s steps other → end ≡ other
lead_once a s end other [] is signs e f = sym e ∙ f
lead_once a s end other (step ∷ steps) is signs (v, rule, rest) (w, rule', rest') =
    let same = one_sign a s step w v is signs rule' rule in
    lead_once a (signed_by s step v) end other steps is (rule_signs a s step v is signs rule) rest (subst (λ x. LeadTo (KeepsRule a) (signed_by s step x) steps other) same rest')

-- if all steps keep their rules, so do the steps from each position on
pub lead_from : (a s end middle : Matrix) (steps : List SignStep) (n : ℕ) → IsMatrix a → AreSigns a s → LeadTo (KeepsRule a) s steps end
    → LeadTo (KeepsRule a) s (take n steps) middle → LeadTo (KeepsRule a) middle (drop n steps) end
lead_from a s end middle steps zero is signs lead e = subst (λ x. LeadTo (KeepsRule a) x steps end) e lead
lead_from a s end middle [] (suc n) is signs lead e = subst (λ x. LeadTo (KeepsRule a) x [] end) e lead
lead_from a s end middle (step ∷ steps) (suc n) is signs (v, rule, rest) (w, rule', rest') =
    let same = one_sign a s step w v is signs rule' rule in
    lead_from a (signed_by s step v) end middle steps n is (rule_signs a s step v is signs rule) rest (subst (λ x. LeadTo (KeepsRule a) (signed_by s step x) (take n steps) middle) same rest')

pub signed_violator : (a s : Matrix) (lines : LineSet) (column : ℕ) → AreSigns a s → IsStrictlyIncreasing lines.rows → IsStrictlyIncreasing lines.columns
    → AllBelow (height a) lines.rows → AllBelow a.width lines.columns → AllSignedBut a s lines.rows lines.columns (height a) column
    → IsViolator (entry s) lines.rows lines.columns → IsSignedViolator a s lines
signed_violator a s lines column signs rows_increase columns_increase rows_in columns_in all v = record {
  row_set = record { increasing = rows_increase; in_range = rows_in };
  column_set = record { increasing = columns_increase; in_range = columns_in };
  all_signed = λ i j h g one. all i j h g one (inl (λ e. let p = place_is i lines.rows h in let l = rows_in (place_of i lines.rows) p.in_range in let q = p.there in omega arith));
  violator = v;
}

pub two_each_from : (a : Matrix) (rows columns : List ℕ) → AllByRecursion (λ row. sum_over columns (λ column. entry a row column) ≡ pos 2) rows
    → AllByRecursion (λ column. sum_over rows (λ row. entry a row column) ≡ pos 2) columns → HasTwoEach a rows columns
two_each_from a rows columns h g = record {
  row_twos = all_in (λ row. sum_over columns (λ column. entry a row column) ≡ pos 2) rows h;
  column_twos = all_in (λ column. sum_over rows (λ row. entry a row column) ≡ pos 2) columns g;
}

pub rows_two : (a : Matrix) (rows columns : List ℕ) → HasTwoEach a rows columns → AllByRecursion (λ row. sum_over columns (λ column. entry a row column) ≡ pos 2) rows
rows_two a rows columns h = all_of_members (λ row. sum_over columns (λ column. entry a row column) ≡ pos 2) rows h.row_twos

pub columns_two : (a : Matrix) (rows columns : List ℕ) → HasTwoEach a rows columns → AllByRecursion (λ column. sum_over rows (λ row. entry a row column) ≡ pos 2) columns
columns_two a rows columns h = all_of_members (λ column. sum_over rows (λ row. entry a row column) ≡ pos 2) columns h.column_twos

three_plus_one : (z : ℤ) → of_z w32 (int_rem_euclid z (pos 4)) ≡ 3 → IsZeroModFour (z +ℤ pos 1)
three_plus_one (pos a) h = let e : a % 4 ≡ 3 = h in (pos (a / 4 + 1), omega (arith, sums))
three_plus_one (negsuc a) h = let e : 4 - 1 - a % 4 ≡ 3 = h in (neg_ℤ (pos (a / 4)), omega (arith, sums))

pub three_closes : (z r : ℤ) → r ≡ int_rem_euclid z (pos 4) → of_z w32 r ≡ 3 → IsZeroModFour (z +ℤ pos 1)
three_closes z r e h = three_plus_one z (ap (of_z w32) (sym e) ∙ h)

neither : (z v : ℤ) → of_z w32 (int_rem_euclid z (pos 4)) ≢ 1 → of_z w32 (int_rem_euclid z (pos 4)) ≢ 3 → IsSign v → IsZeroModFour (z +ℤ v) → ⊥
neither (pos a) v h g (inl e) (k, f) = let x : a % 4 ≢ 1 = h in let y : a % 4 ≢ 3 = g in omega (arith, sums)
neither (pos a) v h g (inr e) (k, f) = let x : a % 4 ≢ 1 = h in let y : a % 4 ≢ 3 = g in omega (arith, sums)
neither (negsuc a) v h g (inl e) (k, f) = let x : 4 - 1 - a % 4 ≢ 1 = h in let y : 4 - 1 - a % 4 ≢ 3 = g in omega (arith, sums)
neither (negsuc a) v h g (inr e) (k, f) = let x : 4 - 1 - a % 4 ≢ 1 = h in let y : 4 - 1 - a % 4 ≢ 3 = g in omega (arith, sums)

pub none_closes : (z r : ℤ) → r ≡ int_rem_euclid z (pos 4) → of_z w32 r ≢ 1 → of_z w32 r ≢ 3 → (v : ℤ) → IsSign v → ¬ (IsZeroModFour (z +ℤ v))
none_closes z r e h g v u four = neither z v (λ f. h (ap (of_z w32) e ∙ f)) (λ f. g (ap (of_z w32) e ∙ f)) u four

pub forced_option : (a s : Matrix) (row column : ℕ) (cycle : LineSet) (sum : ℤ) (found : Option ℤ) → IsMatrix a → AreSigns a s → IsUnsignedOne a s row column
    → IsRowSet a cycle.rows → IsColumnSet a cycle.columns → IsIn row cycle.rows → IsIn column cycle.columns
    → HasTwoEach a cycle.rows cycle.columns → AllSignedBut a s cycle.rows cycle.columns row column → sum ≡ submatrix_sum s cycle.rows cycle.columns
    → MatchOption found ((v : ℤ) → IsSign v → ¬ (IsZeroModFour (sum +ℤ v))) (λ v. IsSign v × IsZeroModFour (sum +ℤ v))
    → MatchOption found ((v : ℤ) → ¬ (IsForcedStep a s row column cycle v)) (IsForcedStep a s row column cycle)
forced_option a s row column cycle sum None is signs here row_set column_set row_here column_here two_each others e h = λ v rule. h v rule.is_sign (subst (λ z. IsZeroModFour (z +ℤ v)) (sym e) (forced_rest a s row column cycle v is signs rule))
forced_option a s row column cycle sum (Some v) is signs here row_set column_set row_here column_here two_each others e h =
    forced_from a s row column cycle v is signs here row_set column_set row_here column_here two_each others h.0 (subst (λ z. IsZeroModFour (z +ℤ v)) e h.1)

-- ---- the steps that the check has followed

-- all steps before the first that breaks its rule
pub followed_to : (a s : Matrix) (steps : List SignStep) (n : ℕ) (tested : SignStep) → n < length steps → tested ≡ get_or steps n tested → AreSigns a s
    → LeadTo (KeepsRule a) (unsigned a) (take n steps) s
    → ((v : ℤ) → ¬ (KeepsRule a s tested v)) → HasFollowed a steps (record { signs = s; kept = n })
followed_to a s steps n tested l e signs lead none = record {
  within = omega (arith, l);
  signs = signs;
  leads = lead;
  breaks = λ step rest f v rule. none v (subst (λ x. KeepsRule a s x v) (same step rest f) rule);
}
  where
    same : (step : SignStep) (rest : List SignStep) → drop n steps ≡ step ∷ rest → step ≡ tested
    same step rest f = let first = drop-cons steps n tested l in cc

-- all steps
pub followed_all : (a s : Matrix) (steps : List SignStep) (n count : ℕ) → length steps ≤ n → count ≡ length steps → AreSigns a s → LeadTo (KeepsRule a) (unsigned a) (take n steps) s → HasFollowed a steps (record { signs = s; kept = count })
followed_all a s steps n count l e signs lead = record {
  within = omega (arith, e);
  signs = signs;
  leads = subst (λ xs. LeadTo (KeepsRule a) (unsigned a) xs s) (take_all n steps l ∙ sym (take_all count steps (omega (arith, e)))) lead;
  breaks = λ step rest f. absurd (none_left step rest (sym (drop_all count steps (omega (arith, e))) ∙ f));
}
  where
    none_left : (step : SignStep) (rest : List SignStep) → [] ≡ step ∷ rest → ⊥
    none_left step rest f = cc

-- ---- the whole chain

breaks_of : (a s : Matrix) (lines : LineSet) (rest : List SignStep) → 0 < length rest
    → ((step : SignStep) (more : List SignStep) → rest ≡ step ∷ more → (v : ℤ) → ¬ (KeepsRule a s step v)) → Breaks a s rest lines
breaks_of a s lines [] l h = absurd (omega arith)
breaks_of a s lines (step ∷ more) l h = h step more refl

pub step_broken : (a : Matrix) (chain : SizedChain) (steps : List SignStep) (followed : Followed) → HasChainSizes a chain → steps ≡ chain.chain.steps
    → HasFollowed a steps followed → followed.kept < length steps → IsFirstBrokenPart a chain (followed.kept + 1)
step_broken a chain steps followed sizes e h l = go (subst (λ x. HasFollowed a x followed) e h) (subst (λ x. followed.kept < length x) e l)
  where
    go : HasFollowed a chain.chain.steps followed → followed.kept < length chain.chain.steps → IsFirstBrokenPart a chain (followed.kept + 1)
    go f l = record {
      before = followed.kept;
      part_is = refl;
      within = f.within;
      broken = inr (sizes, (followed.signs, f.leads, breaks_of a followed.signs chain.chain.violator (drop followed.kept chain.chain.steps) (let k = length-drop followed.kept chain.chain.steps in omega arith) f.breaks));
    }

all_kept : (a : Matrix) (steps : List SignStep) (followed : Followed) → HasFollowed a steps followed → ¬ (followed.kept < length steps) → LeadTo (KeepsRule a) (unsigned a) steps followed.signs
all_kept a steps followed f l = subst (λ x. LeadTo (KeepsRule a) (unsigned a) x followed.signs) (take_all followed.kept steps (let k = f.within in omega arith)) f.leads

pub violator_broken : (a : Matrix) (chain : SizedChain) (steps : List SignStep) (followed : Followed) → HasChainSizes a chain → steps ≡ chain.chain.steps
    → HasFollowed a steps followed → ¬ (followed.kept < length steps)
    → ¬ (IsSignedViolator a followed.signs chain.chain.violator) → IsFirstBrokenPart a chain (length steps + 1)
violator_broken a chain steps followed sizes e h l none = record {
  before = length steps;
  part_is = refl;
  within = subst (λ x. length steps ≤ length x) e (omega arith);
  broken = inr (
    sizes,
    (
      followed.signs,
      subst (λ x. LeadTo (KeepsRule a) (unsigned a) x followed.signs) (sym (ap (take (length steps)) (sym e) ∙ take_all (length steps) steps (omega arith))) (all_kept a steps followed h l),
      subst (λ x. Breaks a followed.signs x chain.chain.violator) (sym (ap (drop (length steps)) (sym e) ∙ drop_all (length steps) steps (omega arith))) none,
    ),
  );
}

pub signs_of_sound : (a : Matrix) (chain : SizedChain) (steps : List SignStep) (followed : Followed) (signs : Matrix) → IsMatrix a → steps ≡ chain.chain.steps
    → HasFollowed a steps followed → IsSoundChain a chain signs → IsSoundChain a chain followed.signs
signs_of_sound a chain steps followed signs is e h sound = go (subst (λ x. HasFollowed a x followed) e h)
  where
    step_kept : (s end : Matrix) (rest : List SignStep) → 0 < length rest → LeadTo (KeepsRule a) s rest end
        → ((step : SignStep) (more : List SignStep) → rest ≡ step ∷ more → (v : ℤ) → ¬ (KeepsRule a s step v)) → ⊥
    step_kept s end [] l lead none = omega arith
    step_kept s end (step ∷ more) l (v, rule, rest) none = none step more refl v rule

    go : HasFollowed a chain.chain.steps followed → IsSoundChain a chain followed.signs
    go f = elim (cases_lt followed.kept (length chain.chain.steps)) [
      | inl lt ↦ absurd (step_kept followed.signs signs (drop followed.kept chain.chain.steps) (let k = length-drop followed.kept chain.chain.steps in omega arith)
          (lead_from a (unsigned a) signs followed.signs chain.chain.steps followed.kept is (unsigned_signs a) sound.steps f.leads) f.breaks)
      | inr ge ↦ subst (IsSoundChain a chain) (lead_once a (unsigned a) signs followed.signs chain.chain.steps is (unsigned_signs a) sound.steps (all_kept a chain.chain.steps followed f (omega arith))) sound
    ]

-- another step that keeps its rule
pub step_kept : (a s t : Matrix) (steps : List SignStep) (n : ℕ) (tested given : SignStep) (v w : ℤ) → n < length steps → tested ≡ get_or steps n tested
    → given ≡ get_or steps n given → KeepsRule a s tested v → w ≡ v → t ≡ signed_by s given w
    → LeadTo (KeepsRule a) (unsigned a) (take n steps) s → IsMatrix a → AreSigns a s → AreSigns a t × LeadTo (KeepsRule a) (unsigned a) (take (n + 1) steps) t
step_kept a s t steps n tested given v w l e f rule g h lead is signs = (
  subst (AreSigns a) (sym made) (rule_signs a s tested v is signs rule),
  subst (λ x. LeadTo (KeepsRule a) (unsigned a) (take (n + 1) steps) x) (sym made)
      (subst (λ x. LeadTo (KeepsRule a) (unsigned a) x (signed_by s tested v)) (sym (take_more steps n tested l ∙ ap (λ x. take n steps ++ x ∷ []) (sym e))) (lead_more (KeepsRule a) (unsigned a) s (take n steps) tested v lead rule)),
)
  where
    same : given ≡ tested
    same = f ∙ get_or_default steps n given tested l ∙ sym e

    made : t ≡ signed_by s tested v
    made = h ∙ ap (λ x. signed_by s x w) same ∙ ap (signed_by s tested) g
