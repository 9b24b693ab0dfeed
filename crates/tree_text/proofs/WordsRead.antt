-- The values of the words of a tree text that was read.
use Rattle.std.proofs.Common.{◌≡◌, ◌<◌, ◌≤◌, ◌+◌, ◌-◌, ◌∙◌, ℕ, zero, suc, Bool, true, false, cond, leb, eqb, List, [], ◌∷◌, ◌++◌, length, Contains, Option, Some, None, Result, Ok, Err, refl, ap, sym, subst, append_assoc, arith}
use Rattle.std.specs.List.{AllByRecursion}
use Rattle.std.proofs.lemmas.Bool.{leb-true}
use Rattle.std.proofs.lemmas.List.{append-nil}
use Rattle.std.proofs.lemmas.List.Sums.{fold_push}
use Rattle.cmr_base.specs.declared.line.Line.{Line}
use Rattle.cmr_base.specs.declared.line.Line.TheVariants.{Row, Column}
use Rattle.cmr_base.specs.declared.line_set.LineSet.{LineSet}
use Rattle.cmr_base.specs.Reductions.{HasLine}
use Rattle.tree_type.specs.Sides.{is_among}
use Rattle.tree_type.proofs.Among.{among_contains}
use Rattle.cmr_base.proofs.IncreasingLists.{IncreasesIn}
use Rattle.text_fields.specs.TextWords.{Text}
use Rattle.text_fields.specs.Result.{◌>>=◌, renamed}
use Rattle.text_fields.specs.Reading.{field, times}
use Rattle.text_fields.specs.Spelling.{Spell}
use Rattle.text_fields.proofs.Fields.{field_ok}
use Rattle.text_fields.specs.Limits as limits
use Rattle.text_fields.proofs.Limits as numbers
use Rattle.text_fields.proofs.Results.{bind_ok, ok_same, guard_ok}
use Rattle.tree_text.specs.declared.error.TreeKind.TheVariants.{Short, NotNumber, NotRising, NotPart}
use Rattle.tree_text.specs.declared.value.Sizes.{Sizes}
use Rattle.tree_text.specs.Faults.{tree_kind}
use Rattle.tree_text.specs.TreeValues.{limited, line_in, among, line_of, last_number, next_line, step_in}
use Rattle.tree_text.specs.TreeReading.{another_line}

-- an invariant of each step is an invariant of all steps
pub times_keep : {S F : Type 0} (step : S → Text → Result (S × Text) F) (P : ℕ → S → Type 0)
    → ((k : ℕ) (s : S) (text : Text) (next : S) (rest : Text) → P k s → step s text ≡ Ok (next, rest) → P (suc k) next)
    → (n k : ℕ) (s : S) (text : Text) (last : S) (rest : Text) → P k s → times step n s text ≡ Ok (last, rest) → P (n + k) last
times_keep {S} step P keeps zero k s text last rest h made = let e = ok_same (s, text) (last, rest) made in let same : 0 + k ≡ k = omega arith in rw same (subst (P k) (ap (λ (p : S × Text). p.0) e) h)
times_keep {S} step P keeps (suc n) k s text last rest h made =
    let b = bind_ok (step s text) (λ (next : S × Text). times step n next.0 next.1) (last, rest) made in
    let more : suc n + k ≡ n + suc k = omega arith in
    rw more (times_keep step P keeps n (suc k) b.0.0 b.0.1 last rest (keeps k s text b.0.0 b.0.1 h b.1) b.2)

pub spelled_all : {A K : Type 0} (parse : List ℕ → Result A K) (P : A → Type 0) → ((word : List ℕ) (x : A) → parse word ≡ Ok x → P x)
    → (words : List (List ℕ)) (values : List A) → Spell parse words values → AllByRecursion P values
spelled_all parse P each [] [] spell = tt
spelled_all parse P each [] (x ∷ values) spell = absurd spell
spelled_all parse P each (word ∷ words) [] spell = absurd spell
spelled_all parse P each (word ∷ words) (x ∷ values) spell = (each word x spell.0, spelled_all parse P each words values spell.1)

pub limited_ok : (most : ℕ) (word : List ℕ) (n : ℕ) → limited most word ≡ Ok n → n ≤ most
limited_ok most word n h =
    (numbers.limited_ok tree_kind most word n h).1

pub line_in_ok : (most : ℕ) (word : List ℕ) (line : ℕ) → line_in most word ≡ Ok line → line < most
line_in_ok most word line h =
    let b = bind_ok (renamed tree_kind (limits.line_in most word)) (λ n. Ok (n - 1)) line h in
    let is = ok_same (b.0 - 1) line b.2 in
    let number = numbers.line_in_ok tree_kind most word b.0 b.1 in
    omega (arith, is, number.1, number.2)

-- one of these lines, if there is a list of lines
abbrev pub IsAmong : Option (List ℕ) → ℕ → Type 0
IsAmong None line = Unit {0}
IsAmong (Some lines) line = Contains lines line

pub among_ok : (whole : Option (List ℕ)) (line found : ℕ) → among whole line ≡ Ok found → (line ≡ found) × IsAmong whole found
among_ok None line found h = (ok_same line found h, tt)
among_ok (Some lines) line found h =
    let g = guard_ok (is_among lines line) line found NotPart h in
    (g.1, subst (Contains lines) g.1 (among_contains lines line g.0))

pub line_of_ok : (most : ℕ) (lines : List ℕ) (word : List ℕ) (line : ℕ) → line_of most lines word ≡ Ok line → Contains lines line
line_of_ok most lines word line h =
    let b = bind_ok (line_in most word) (among (Some lines)) line h in
    (among_ok (Some lines) b.0 line b.2).1

pub next_line_ok : (most : ℕ) (whole : Option (List ℕ)) (before : ℕ) (word : List ℕ) (line : ℕ) → next_line most whole before word ≡ Ok line → (before ≤ line) × (line < most) × IsAmong whole line
next_line_ok most whole before word line h =
    let b = bind_ok (line_in most word) (λ n. cond (leb before n) (among whole n) (Err NotRising)) line h in
    let below = line_in_ok most word b.0 b.1 in
    go (leb before b.0) b.0 below b.2 refl
  where
    go : (t : Bool) (n : ℕ) → n < most → cond t (among whole n) (Err NotRising) ≡ Ok line → leb before n ≡ t → (before ≤ line) × (line < most) × IsAmong whole line
    go true n below h e = let a = among_ok whole n line h in let le = leb-true before n e in (omega (arith, a.0, le), omega (arith, a.0, below), a.1)
    go false n below h e = absurd (cc)

pub step_ok : (sizes : Sizes) (lines : LineSet) (word : List ℕ) (line : Line) → step_in sizes lines word ≡ Ok line → HasLine lines.rows lines.columns line
step_ok sizes lines [] line h = absurd (cc)
step_ok sizes lines (letter ∷ number) line h = go (eqb letter 114) (eqb letter 99) h
  where
    row : (line_of sizes.rows lines.rows number >>= λ row. Ok (Row row)) ≡ Ok line → HasLine lines.rows lines.columns line
    row h =
        let b = bind_ok (line_of sizes.rows lines.rows number) (λ row. Ok (Row row)) line h in
        subst (HasLine lines.rows lines.columns) (ok_same (Row b.0) line b.2) (line_of_ok sizes.rows lines.rows number b.0 b.1)

    column : (line_of sizes.columns lines.columns number >>= λ column. Ok (Column column)) ≡ Ok line → HasLine lines.rows lines.columns line
    column h =
        let b = bind_ok (line_of sizes.columns lines.columns number) (λ column. Ok (Column column)) line h in
        subst (HasLine lines.rows lines.columns) (ok_same (Column b.0) line b.2) (line_of_ok sizes.columns lines.columns number b.0 b.1)

    go : (r c : Bool)
        → cond r (line_of sizes.rows lines.rows number >>= λ row. Ok (Row row)) (cond c (line_of sizes.columns lines.columns number >>= λ column. Ok (Column column)) (Err NotNumber)) ≡ Ok line
        → HasLine lines.rows lines.columns line
    go true c h = row h
    go false true h = column h
    go false false h = absurd (cc)

-- n lines were read, after the lines before them
pub record AreLinesRead (most n : ℕ) (whole : Option (List ℕ)) (before lines : List ℕ) : Type 0 where
  pub read : List ℕ
  pub lines_are : lines ≡ before ++ read
  pub count : length read ≡ n
  pub increases : IncreasesIn (last_number before) most read
  pub within : AllByRecursion (IsAmong whole) read

pub lines_ok : (most : ℕ) (whole : Option (List ℕ)) (n : ℕ) (before : List ℕ) (text : Text) (lines : List ℕ) (rest : Text)
    → times (another_line most whole) n before text ≡ Ok (lines, rest) → AreLinesRead most n whole before lines
lines_ok most whole zero before text lines rest h =
    let e = ok_same (before, text) (lines, rest) h in
    record { read = []; lines_are = sym (ap (λ (p : List ℕ × Text). p.0) e) ∙ sym (append-nil before); count = refl; increases = tt; within = tt }
lines_ok most whole (suc n) before text lines rest h =
    let b = bind_ok (another_line most whole before text) (λ (next : List ℕ × Text). times (another_line most whole) n next.0 next.1) (lines, rest) h in
    let one = bind_ok (field Short (next_line most whole (last_number before)) text) (λ (line : ℕ × Text). Ok (before ++ line.0 ∷ [], line.1)) b.0 b.1 in
    let line = one.0.0 in
    let first = field_ok Short (next_line most whole (last_number before)) text line one.0.1 one.1 in
    let ok = next_line_ok most whole (last_number before) first.word.1 line first.parsed in
    let opening : b.0.0 ≡ before ++ line ∷ [] = sym (ap (λ (p : List ℕ × Text). p.0) (ok_same (before ++ line ∷ [], one.0.1) b.0 one.2)) in
    let later = lines_ok most whole n b.0.0 b.0.1 lines rest b.2 in
    let last : last_number b.0.0 ≡ line + 1 = ap last_number opening ∙ fold_push (λ (before line : ℕ). line + 1) 0 before line in
    record {
      read = line ∷ later.read;
      lines_are = later.lines_are ∙ ap (λ opening. opening ++ later.read) opening ∙ append_assoc before (line ∷ []) later.read;
      count = ap suc later.count;
      increases = (ok.0, ok.1, subst (λ low. IncreasesIn low most later.read) last later.increases);
      within = (ok.2, later.within);
    }
