-- Reading a written chain text gives the same chain.
use Rattle.std.proofs.Common.{◌≡◌, ◌<◌, ◌≤◌, ◌+◌, ◌-◌, ◌*◌, ◌^◌, ◌∙◌, ℕ, suc, zero-le, List, [], ◌∷◌, ◌++◌, length, map, Result, Ok, refl, ap, sym, subst, append_assoc, arith}
use Rattle.std.specs.Prelude.{codes}
use Rattle.std.specs.Fmt.{decimal}
use Rattle.std.specs.List.{AllByRecursion}
use Rattle.std.proofs.lemmas.List.{append-nil}
use Rattle.std.proofs.lemmas.List.Concat.{flat_map-append}
use Rattle.std.proofs.lemmas.List.Sums.{fold_push}
use Rattle.cmr_base.specs.LineSets.{AllBelow}
use Rattle.cmr_base.proofs.IncreasingLists.{IncreasesIn, increases_in}
use Rattle.cmr_base.specs.declared.line_set.LineSet.{LineSet}
use Rattle.std.proofs.Math.Nat.{mul-le-mul_left, mul-le-mul_right}
use Rattle.cmr_base.proofs.Lists.{all-append}
use Rattle.cmr_base.proofs.Parts.{length-increasing}
use Rattle.text_fields.specs.TextWords.{Text, text_of, words_from}
use Rattle.text_fields.specs.Result.{◌>>=◌}
use Rattle.text_fields.specs.Reading.{Fault, field, times, ended}
use Rattle.text_fields.specs.Spelling.{texts_of}
use Rattle.text_fields.proofs.LineWords.{IsWord, split_texts, words_of_lines, words_in_lines}
use Rattle.text_fields.proofs.Limits.{limited_again, line_in_again, increasing_line_again}
use Rattle.text_fields.proofs.ReadAgain.{Reader, Again, again_bind, again_done, again_field, again_wrap}
use Rattle.text_fields.proofs.Decimals.{decimal_word, count_of_decimal}
use Rattle.chains.specs.declared.chain_error.ChainKind.{ChainKind}
use Rattle.chains.specs.declared.chain_error.ChainKind.TheVariants.{Short, Extra, UnknownStep, WrongVersion}
use Rattle.chains.specs.declared.chain_text.StepName.{StepName}
use Rattle.chains.specs.declared.chain_text.StepName.TheVariants as names
use Rattle.chains.specs.declared.step.SignStep.{SignStep}
use Rattle.chains.specs.declared.step.SignStep.TheVariants.{Free, Forced}
use Rattle.chains.specs.declared.step.SizedChain.{SizedChain}
use Rattle.chains.specs.ChainKinds.{chain_kind}
use Rattle.chains.specs.ChainTexts.{limited, line_in, increasing_line_in, word_in, step_name_in, last_number, another_line, increasing_lines, line_set, step_of, next_step, another_step, chain, number_of_line, line_set_words, step_words, chain_lines, chain_text, AreLinesIn, IsStepIn, AreIncreasing, IsIncreasingStep}

-- ---- words at the end of a text

abbrev Ends : {A : Type 0} → (Text → Result A (Fault ChainKind)) → List (List ℕ) → A → Type 0
Ends parse words x = (size : ℕ) (ws : List (ℕ × List ℕ)) → texts_of ws ≡ words → parse (record { size = size; words = ws }) ≡ Ok x

end_then : {A B : Type 0} (p : Reader ChainKind A) (q : A → Text → Result B (Fault ChainKind)) (prefix back : List (List ℕ)) (a : A) (b : B) → Again p prefix a
    → Ends (q a) back b → Ends (λ t. p t >>= λ r. q r.0 r.1) (prefix ++ back) b
end_then {A} p q prefix back a b P Q size ws e =
    let s = split_texts ws prefix back e in
    ap (λ w. p (record { size = size; words = w }) >>= λ (r : A × Text). q r.0 r.1) s.words_are
    ∙ ap (λ r. r >>= λ (t : A × Text). q t.0 t.1) (P size s.first s.second s.prefix_is) ∙ Q size s.second s.back_is

end_here : {A : Type 0} (x : A) → Ends (ended Extra x) [] x
end_here x size [] e = refl
end_here x size (w ∷ ws) e = absurd (cc)

-- ---- numbers

size_again : (most n : ℕ) → n < 2 ^ 31 → n ≤ most → limited most (decimal n) ≡ Ok n
size_again most n small within = limited_again chain_kind most (decimal n) n (count_of_decimal n small) within

line_again : (most line : ℕ) → most ≤ 1000 → line < most → line_in most (number_of_line line) ≡ Ok (line + 1)
line_again most line few h = line_in_again chain_kind most (number_of_line line) (line + 1) (count_of_decimal (line + 1) (omega (arith, few, h))) (omega arith) (omega (arith, h))

increasing_again : (most before line : ℕ) → most ≤ 1000 → line < most → before ≤ line → increasing_line_in most before (number_of_line line) ≡ Ok (line + 1)
increasing_again most before line few h above =
    increasing_line_again chain_kind most before (number_of_line line) (line + 1) (count_of_decimal (line + 1) (omega (arith, few, h))) (omega arith) (omega (arith, h)) (omega (arith, above))

-- ---- line sets

again_line : (most : ℕ) (before : List ℕ) (line : ℕ) → most ≤ 1000 → line < most → last_number before ≤ line → Again (another_line most before) (number_of_line line ∷ []) (before ++ line ∷ [])
again_line most before line few h above =
    let e : line + 1 - 1 ≡ line = omega arith in
    subst (λ (n : ℕ). Again (another_line most before) (number_of_line line ∷ []) (before ++ n ∷ [])) e
    (again_wrap (field Short (increasing_line_in most (last_number before))) (λ (number : ℕ). before ++ (number - 1) ∷ []) (number_of_line line ∷ []) (line + 1)
    (again_field Short (increasing_line_in most (last_number before)) (number_of_line line) (line + 1) (increasing_again most (last_number before) line few h above)))

again_lines : (most : ℕ) (before lines : List ℕ) → most ≤ 1000 → IncreasesIn (last_number before) most lines
    → Again (times (another_line most) (length lines) before) (map number_of_line lines) (before ++ lines)
again_lines most before [] few increases = subst (λ xs. Again {K = ChainKind} (λ text. Ok (before, text)) [] xs) (sym (append-nil before)) (again_done before)
again_lines most before (line ∷ lines) few increases =
    let last : last_number (before ++ line ∷ []) ≡ line + 1 = fold_push (λ (before line : ℕ). line + 1) 0 before line in
    subst (Again (times (another_line most) (length (line ∷ lines)) before) (map number_of_line (line ∷ lines))) (append_assoc before (line ∷ []) lines)
    (again_bind (another_line most before) _ (number_of_line line ∷ []) (map number_of_line lines) (before ++ line ∷ []) ((before ++ line ∷ []) ++ lines)
    (again_line most before line few increases.1 increases.0)
    (again_lines most (before ++ line ∷ []) lines few (subst (λ (low : ℕ). IncreasesIn low most lines) (sym last) increases.2)))

again_line_set : (height width : ℕ) (lines : LineSet) → height ≤ 1000 → width ≤ 1000 → AreLinesIn height width lines → AreIncreasing lines → Again (line_set height width) (line_set_words lines) lines
again_line_set height width lines few_rows few_columns inside increasing =
    let row_count = length-increasing lines.rows height increasing.0 inside.0 in
    let column_count = length-increasing lines.columns width increasing.1 inside.1 in
    again_bind (field Short (limited height)) _
    (decimal (length lines.rows) ∷ []) (decimal (length lines.columns) ∷ (map number_of_line lines.rows ++ map number_of_line lines.columns)) (length lines.rows) lines
    (again_field Short (limited height) (decimal (length lines.rows)) (length lines.rows) (size_again height (length lines.rows) (omega (arith, few_rows, row_count)) row_count))
    (again_bind (field Short (limited width)) _
    (decimal (length lines.columns) ∷ []) (map number_of_line lines.rows ++ map number_of_line lines.columns) (length lines.columns) lines
    (again_field Short (limited width) (decimal (length lines.columns)) (length lines.columns) (size_again width (length lines.columns) (omega (arith, few_columns, column_count)) column_count))
    (again_bind (increasing_lines height (length lines.rows)) _
    (map number_of_line lines.rows) (map number_of_line lines.columns) lines.rows lines
    (again_lines height [] lines.rows few_rows (increases_in 0 height lines.rows increasing.0 inside.0 (λ h. zero-le)))
    (again_wrap (increasing_lines width (length lines.columns)) (λ (columns : List ℕ). record { rows = lines.rows; columns = columns }) (map number_of_line lines.columns) lines.columns
    (again_lines width [] lines.columns few_columns (increases_in 0 width lines.columns increasing.1 inside.1 (λ h. zero-le))))))

-- ---- steps

-- the row and the column of a step
again_place : (height width row column : ℕ) (name : StepName) (word : List ℕ) (others : List (List ℕ)) (step : SignStep) → height ≤ 1000 → width ≤ 1000 → row < height → column < width
    → step_name_in word ≡ Ok name → Again (step_of height width name row column) others step → Again (next_step height width) (word ∷ number_of_line row ∷ number_of_line column ∷ others) step
again_place height width row column name word others step few_rows few_columns in_rows in_columns named later =
    let r : row + 1 - 1 ≡ row = omega arith in
    let c : column + 1 - 1 ≡ column = omega arith in
    again_bind (field Short step_name_in) _
    (word ∷ []) (number_of_line row ∷ number_of_line column ∷ others) name step
    (again_field Short step_name_in word name named)
    (again_bind (field Short (line_in height)) _
    (number_of_line row ∷ []) (number_of_line column ∷ others) (row + 1) step
    (again_field Short (line_in height) (number_of_line row) (row + 1) (line_again height row few_rows in_rows))
    (again_bind (field Short (line_in width)) _
    (number_of_line column ∷ []) others (column + 1) step
    (again_field Short (line_in width) (number_of_line column) (column + 1) (line_again width column few_columns in_columns))
    (subst (λ (i : ℕ). Again (step_of height width name i (column + 1 - 1)) others step) (sym r) (subst (λ (j : ℕ). Again (step_of height width name row j) others step) (sym c) later))))

again_step : (height width : ℕ) (step : SignStep) → height ≤ 1000 → width ≤ 1000 → IsStepIn height width step → IsIncreasingStep step → Again (next_step height width) (step_words step) step
again_step height width (Free row column) few_rows few_columns inside increasing =
    again_place height width row column names.Free (codes "free") [] (Free row column) few_rows few_columns inside.0 inside.1 refl (again_done (Free row column))
again_step height width (Forced row column cycle) few_rows few_columns inside increasing =
    again_place height width row column names.Forced (codes "forced") (line_set_words cycle) (Forced row column cycle) few_rows few_columns inside.0 inside.1 refl
    (again_wrap (line_set height width) (λ (lines : LineSet). Forced row column lines) (line_set_words cycle) cycle (again_line_set height width cycle few_rows few_columns inside.2 increasing))

again_steps : (height width : ℕ) (before steps : List SignStep) → height ≤ 1000 → width ≤ 1000 → AllByRecursion (IsStepIn height width) steps → AllByRecursion IsIncreasingStep steps
    → Again (times (another_step height width) (length steps) before) (words_of_lines (map step_words steps)) (before ++ steps)
again_steps height width before [] few_rows few_columns inside increasing = subst (λ xs. Again {K = ChainKind} (λ text. Ok (before, text)) [] xs) (sym (append-nil before)) (again_done before)
again_steps height width before (step ∷ steps) few_rows few_columns inside increasing =
    subst (Again (times (another_step height width) (length (step ∷ steps)) before) (words_of_lines (map step_words (step ∷ steps)))) (append_assoc before (step ∷ []) steps)
    (again_bind (another_step height width before) _ (step_words step) (words_of_lines (map step_words steps)) (before ++ step ∷ []) ((before ++ step ∷ []) ++ steps)
    (again_wrap (next_step height width) (λ (s : SignStep). before ++ s ∷ []) (step_words step) step (again_step height width step few_rows few_columns inside.0 increasing.0))
    (again_steps height width (before ++ step ∷ []) steps few_rows few_columns inside.1 increasing.1))

-- ---- the whole text

pub record IsWritable (sized : SizedChain) : Type 0 where
  pub few_rows : sized.rows ≤ 1000
  pub few_columns : sized.columns ≤ 1000
  pub few_steps : length sized.chain.steps ≤ sized.rows * sized.columns
  pub steps_in : AllByRecursion (IsStepIn sized.rows sized.columns) sized.chain.steps
  pub steps_increase : AllByRecursion IsIncreasingStep sized.chain.steps
  pub violator_in : AreLinesIn sized.rows sized.columns sized.chain.violator
  pub violator_increases : AreIncreasing sized.chain.violator

abbrev chain_words : SizedChain → List (List ℕ)
chain_words sized = codes "cmr-chain" ∷ codes "1" ∷ decimal sized.rows ∷ decimal sized.columns ∷ decimal (length sized.chain.steps) ∷ (words_of_lines (map step_words sized.chain.steps) ++ (codes "violator" ∷ (line_set_words sized.chain.violator ++ [])))

few_places : (m n : ℕ) → m ≤ 1000 → n ≤ 1000 → m * n ≤ 1000000
few_places m n h k = omega (arith, mul-le-mul_left m k, mul-le-mul_right 1000 h)

read_again : (sized : SizedChain) → IsWritable sized → Ends chain (chain_words sized) sized
read_again sized w =
    let m = sized.rows in
    let n = sized.columns in
    let steps = sized.chain.steps in
    let count = length steps in
    let few_rows = w.few_rows in
    let few_columns = w.few_columns in
    let few = w.few_steps in
    let places = few_places m n few_rows few_columns in
    end_then (field Short (word_in (codes "cmr-chain") WrongVersion))
    (λ _ t. field Short (word_in (codes "1") WrongVersion) t >>= λ version. field Short (limited 1000) version.1 >>= λ height. field Short (limited 1000) height.1 >>= λ width. field Short (limited (height.0 * width.0)) width.1 >>= λ c.
    times (another_step height.0 width.0) c.0 [] c.1 >>= λ made. field Short (word_in (codes "violator") UnknownStep) made.1 >>= λ name. line_set height.0 width.0 name.1 >>= λ violator.
    ended Extra (record { chain = record { steps = made.0; violator = violator.0 }; rows = height.0; columns = width.0 }) violator.1)
    (codes "cmr-chain" ∷ []) _ tt sized (again_field Short _ (codes "cmr-chain") tt refl)
    (end_then (field Short (word_in (codes "1") WrongVersion))
    (λ _ t. field Short (limited 1000) t >>= λ height. field Short (limited 1000) height.1 >>= λ width. field Short (limited (height.0 * width.0)) width.1 >>= λ c.
    times (another_step height.0 width.0) c.0 [] c.1 >>= λ made. field Short (word_in (codes "violator") UnknownStep) made.1 >>= λ name. line_set height.0 width.0 name.1 >>= λ violator.
    ended Extra (record { chain = record { steps = made.0; violator = violator.0 }; rows = height.0; columns = width.0 }) violator.1)
    (codes "1" ∷ []) _ tt sized (again_field Short _ (codes "1") tt refl)
    (end_then (field Short (limited 1000))
    (λ height t. field Short (limited 1000) t >>= λ width. field Short (limited (height * width.0)) width.1 >>= λ c.
    times (another_step height width.0) c.0 [] c.1 >>= λ made. field Short (word_in (codes "violator") UnknownStep) made.1 >>= λ name. line_set height width.0 name.1 >>= λ violator.
    ended Extra (record { chain = record { steps = made.0; violator = violator.0 }; rows = height; columns = width.0 }) violator.1)
    (decimal m ∷ []) _ m sized (again_field Short (limited 1000) (decimal m) m (size_again 1000 m (omega (arith, few_rows)) few_rows))
    (end_then (field Short (limited 1000))
    (λ width t. field Short (limited (m * width)) t >>= λ c.
    times (another_step m width) c.0 [] c.1 >>= λ made. field Short (word_in (codes "violator") UnknownStep) made.1 >>= λ name. line_set m width name.1 >>= λ violator.
    ended Extra (record { chain = record { steps = made.0; violator = violator.0 }; rows = m; columns = width }) violator.1)
    (decimal n ∷ []) _ n sized (again_field Short (limited 1000) (decimal n) n (size_again 1000 n (omega (arith, few_columns)) few_columns))
    (end_then (field Short (limited (m * n)))
    (λ c t. times (another_step m n) c [] t >>= λ made. field Short (word_in (codes "violator") UnknownStep) made.1 >>= λ name. line_set m n name.1 >>= λ violator.
    ended Extra (record { chain = record { steps = made.0; violator = violator.0 }; rows = m; columns = n }) violator.1)
    (decimal count ∷ []) _ count sized (again_field Short (limited (m * n)) (decimal count) count (size_again (m * n) count (omega (arith, few, places)) few))
    (end_then (times (another_step m n) count [])
    (λ made t. field Short (word_in (codes "violator") UnknownStep) t >>= λ name. line_set m n name.1 >>= λ violator.
    ended Extra (record { chain = record { steps = made; violator = violator.0 }; rows = m; columns = n }) violator.1)
    (words_of_lines (map step_words steps)) _ steps sized (again_steps m n [] steps few_rows few_columns w.steps_in w.steps_increase)
    (end_then (field Short (word_in (codes "violator") UnknownStep))
    (λ _ t. line_set m n t >>= λ violator. ended Extra (record { chain = record { steps = steps; violator = violator.0 }; rows = m; columns = n }) violator.1)
    (codes "violator" ∷ []) _ tt sized (again_field Short _ (codes "violator") tt refl)
    (end_then (line_set m n) (λ violator t. ended Extra (record { chain = record { steps = steps; violator = violator }; rows = m; columns = n }) t)
    (line_set_words sized.chain.violator) [] sized.chain.violator sized (again_line_set m n sized.chain.violator few_rows few_columns w.violator_in w.violator_increases) (end_here sized))))))))

-- ---- the words of the text are valid words

lines_solid : (bound : ℕ) (lines : List ℕ) → bound ≤ 1000 → AllBelow bound lines → AllByRecursion IsWord (map number_of_line lines)
lines_solid bound [] few below = tt
lines_solid bound (line ∷ lines) few below = (decimal_word (line + 1) (let h = below 0 (omega arith) in omega (arith, h)), lines_solid bound lines few (λ k h. below (suc k) (omega arith)))

line_set_solid : (height width : ℕ) (lines : LineSet) → height ≤ 1000 → width ≤ 1000 → AreLinesIn height width lines → AreIncreasing lines → AllByRecursion IsWord (line_set_words lines)
line_set_solid height width lines few_rows few_columns inside increasing =
    let row_count = length-increasing lines.rows height increasing.0 inside.0 in
    let column_count = length-increasing lines.columns width increasing.1 inside.1 in (
      decimal_word (length lines.rows) (omega (arith, row_count, few_rows)),
      (
        decimal_word (length lines.columns) (omega (arith, column_count, few_columns)),
        all-append IsWord (map number_of_line lines.rows) (map number_of_line lines.columns) (lines_solid height lines.rows few_rows inside.0) (lines_solid width lines.columns few_columns inside.1),
      ),
    )

form_solid : IsWord (codes "cmr-chain")
form_solid = record { first = 99; others = codes "mr-chain"; word_is = refl; solid = (refl, (refl, (refl, (refl, (refl, (refl, (refl, (refl, (refl, tt))))))))) }

version_solid : IsWord (codes "1")
version_solid = record { first = 49; others = []; word_is = refl; solid = (refl, tt) }

free_solid : IsWord (codes "free")
free_solid = record { first = 102; others = codes "ree"; word_is = refl; solid = (refl, (refl, (refl, (refl, tt)))) }

forced_solid : IsWord (codes "forced")
forced_solid = record { first = 102; others = codes "orced"; word_is = refl; solid = (refl, (refl, (refl, (refl, (refl, (refl, tt)))))) }

violator_solid : IsWord (codes "violator")
violator_solid = record { first = 118; others = codes "iolator"; word_is = refl; solid = (refl, (refl, (refl, (refl, (refl, (refl, (refl, (refl, tt)))))))) }

step_solid : (height width : ℕ) (step : SignStep) → height ≤ 1000 → width ≤ 1000 → IsStepIn height width step → IsIncreasingStep step → AllByRecursion IsWord (step_words step)
step_solid height width (Free row column) few_rows few_columns inside increasing =
    (free_solid, (decimal_word (row + 1) (let h = inside.0 in omega (arith, h, few_rows)), (decimal_word (column + 1) (let h = inside.1 in omega (arith, h, few_columns)), tt)))
step_solid height width (Forced row column cycle) few_rows few_columns inside increasing =
    (forced_solid, (decimal_word (row + 1) (let h = inside.0 in omega (arith, h, few_rows)), (decimal_word (column + 1) (let h = inside.1 in omega (arith, h, few_columns)), line_set_solid height width cycle few_rows few_columns inside.2 increasing)))

steps_solid : (height width : ℕ) (steps : List SignStep) → height ≤ 1000 → width ≤ 1000 → AllByRecursion (IsStepIn height width) steps
    → AllByRecursion IsIncreasingStep steps → AllByRecursion (AllByRecursion IsWord) (map step_words steps)
steps_solid height width [] few_rows few_columns inside increasing = tt
steps_solid height width (step ∷ steps) few_rows few_columns inside increasing = (step_solid height width step few_rows few_columns inside.0 increasing.0, steps_solid height width steps few_rows few_columns inside.1 increasing.1)

pub chain_again : (sized : SizedChain) → IsWritable sized → chain (text_of (chain_text sized)) ≡ Ok sized
chain_again sized w =
    let few_rows = w.few_rows in
    let few_columns = w.few_columns in
    let few = w.few_steps in
    let places = few_places sized.rows sized.columns few_rows few_columns in
    let violator = codes "violator" ∷ line_set_words sized.chain.violator in
    read_again sized w (length (chain_text sized)) (words_from 0 (chain_text sized))
    (words_in_lines (chain_lines sized) (
      (form_solid, (version_solid, tt)),
      (
        (decimal_word sized.rows (omega (arith, few_rows)), (decimal_word sized.columns (omega (arith, few_columns)), (decimal_word (length sized.chain.steps) (omega (arith, few, places)), tt))),
        all-append (AllByRecursion IsWord) (map step_words sized.chain.steps) (violator ∷ []) (steps_solid sized.rows sized.columns sized.chain.steps few_rows few_columns w.steps_in w.steps_increase)
            ((violator_solid, line_set_solid sized.rows sized.columns sized.chain.violator few_rows few_columns w.violator_in w.violator_increases), tt),
      ),
    )
    ∙ ap (λ ws. codes "cmr-chain" ∷ codes "1" ∷ decimal sized.rows ∷ decimal sized.columns ∷ decimal (length sized.chain.steps) ∷ ws) (flat_map-append (λ line. line) (map step_words sized.chain.steps) (violator ∷ [])))
