-- Increasing lists of lines that are read one after another.
use Rattle.std.proofs.Common.{◌≡◌, ◌+◌, ◌-◌, ◌∙◌, ℕ, zero, suc, List, [], ◌∷◌, ◌++◌, length, Ok, refl, ap, sym, subst, append_assoc, arith}
use Rattle.std.proofs.lemmas.List.{append-nil}
use Rattle.std.proofs.lemmas.List.Sums.{fold_push}
use Rattle.cmr_base.proofs.IncreasingLists.{IncreasesIn}
use Rattle.text_fields.specs.TextWords.{Text}
use Rattle.text_fields.specs.Numbers.{count_in}
use Rattle.text_fields.specs.Spelling.{texts_of, Spell}
use Rattle.text_fields.specs.Reading.{field, times}
use Rattle.text_fields.proofs.Limits.{increasing_line_ok, increasing_line_again}
use Rattle.text_fields.proofs.Results.{bind_ok, ok_same}
use Rattle.text_fields.proofs.Fields.{field_ok}
use Rattle.matrix_text.specs.declared.error.TextKind.{TextKind}
use Rattle.matrix_text.specs.declared.error.TextKind.TheVariants.{Short}
use Rattle.matrix_text.specs.TextKinds.{limit_kind}
use Rattle.matrix_text.specs.Values.{increasing_line_in}
use Rattle.matrix_text.specs.Submatrix.{numbers_of, last_number, another_line}

-- n lines were read after earlier lines
pub record AreLines (most n : ℕ) (text : Text) (before lines : List ℕ) (rest : Text) : Type 0 where
  pub prefix : List (ℕ × List ℕ)
  pub read : List ℕ
  pub words_are : text.words ≡ prefix ++ rest.words
  pub lines_are : lines ≡ before ++ read
  pub spell : Spell count_in (texts_of prefix) (numbers_of read)
  pub count : length read ≡ n
  pub increases : IncreasesIn (last_number before) most read

another_line_ok : (most : ℕ) (outside : TextKind) (before : List ℕ) (text : Text) (next : List ℕ × Text) → another_line most outside before text ≡ Ok next
    → (number : ℕ) × (field Short (increasing_line_in most outside (last_number before)) text ≡ Ok (number, next.1)) × (next.0 ≡ before ++ (number - 1) ∷ [])
another_line_ok most outside before text next h =
    let b = bind_ok (field Short (increasing_line_in most outside (last_number before)) text) (λ (number : ℕ × Text). Ok (before ++ (number.0 - 1) ∷ [], number.1)) next h in
    let e = ok_same (before ++ (b.0.0 - 1) ∷ [], b.0.1) next b.2 in
    (b.0.0, b.1 ∙ ap (λ (p : List ℕ × Text). Ok (b.0.0, p.1)) e, sym (ap (λ (p : List ℕ × Text). p.0) e))

pub lines_ok : (most : ℕ) (outside : TextKind) (n : ℕ) (before : List ℕ) (text : Text) (lines : List ℕ) (rest : Text)
    → times (another_line most outside) n before text ≡ Ok (lines, rest) → AreLines most n text before lines rest
lines_ok most outside zero before text lines rest h =
    let e = ok_same (before, text) (lines, rest) h in
    record {
      prefix = [];
      read = [];
      words_are = ap (λ (p : List ℕ × Text). (p.1).words) e;
      lines_are = sym (ap (λ (p : List ℕ × Text). p.0) e) ∙ sym (append-nil before);
      spell = tt;
      count = refl;
      increases = tt;
    }
lines_ok most outside (suc n) before text lines rest h =
    let b = bind_ok (another_line most outside before text) (λ (next : List ℕ × Text). times (another_line most outside) n next.0 next.1) (lines, rest) h in
    let one = another_line_ok most outside before text b.0 b.1 in
    let first = field_ok Short (increasing_line_in most outside (last_number before)) text one.0 b.0.1 one.1 in
    let ok = increasing_line_ok (limit_kind outside) most (last_number before) first.word.1 one.0 first.parsed in
    let later = lines_ok most outside n b.0.0 b.0.1 lines rest b.2 in
    let number : one.0 ≡ (one.0 - 1) + 1 = omega (arith, ok.1) in
    let last : last_number b.0.0 ≡ (one.0 - 1) + 1 = ap last_number one.2 ∙ fold_push (λ (before line : ℕ). line + 1) 0 before (one.0 - 1) in
    record {
      prefix = first.word ∷ later.prefix;
      read = (one.0 - 1) ∷ later.read;
      words_are = first.words_are ∙ ap (λ words. first.word ∷ words) later.words_are;
      lines_are = later.lines_are ∙ ap (λ prefix. prefix ++ later.read) one.2 ∙ append_assoc before ((one.0 - 1) ∷ []) later.read;
      spell = (ok.0 ∙ ap Ok number, later.spell);
      count = ap suc later.count;
      increases = (omega (arith, ok.3), omega (arith, ok.1, ok.2), subst (λ low. IncreasesIn low most later.read) last later.increases);
    }

-- words that spell increasing lines are read as these lines
pub lines_again : (most : ℕ) (outside : TextKind) (size : ℕ) (words later : List (ℕ × List ℕ)) (before lines : List ℕ)
    → Spell count_in (texts_of words) (numbers_of lines) → IncreasesIn (last_number before) most lines
    → times (another_line most outside) (length lines) before (record { size = size; words = words ++ later }) ≡ Ok (before ++ lines, record { size = size; words = later })
lines_again most outside size [] later before [] spell increases = ap (λ lines. Ok (lines, record { size = size; words = later })) (sym (append-nil before))
lines_again most outside size [] later before (line ∷ lines) spell increases = absurd spell
lines_again most outside size (word ∷ words) later before [] spell increases = absurd spell
lines_again most outside size (word ∷ words) later before (line ∷ lines) spell increases =
    let one = increasing_line_again (limit_kind outside) most (last_number before) word.1 (line + 1) spell.0 (omega arith) (omega (arith, increases.1)) (omega (arith, increases.0)) in
    let back : line + 1 - 1 ≡ line = omega arith in
    let last = fold_push (λ (before line : ℕ). line + 1) 0 before line in
    rw (one, back) (lines_again most outside size words later (before ++ line ∷ []) lines spell.1 (subst (λ low. IncreasesIn low most lines) (sym last) increases.2) ∙ ap (λ ls. Ok (ls, record { size = size; words = later })) (append_assoc before (line ∷ []) lines))
