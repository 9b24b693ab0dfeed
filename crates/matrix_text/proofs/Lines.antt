-- Numbers of lines.
use Rattle.std.proofs.Common.{◌≡◌, ◌<◌, ◌≤◌, ◌+◌, ◌-◌, ◌*◌, ◌∙◌, ℕ, suc, Bool, false, cond, List, ◌∷◌, length, get_or, take, drop, Ok, Err, ap, sym, arith}
use Rattle.std.proofs.lemmas.List.{get_or-take, get_or-drop, length-take-le, length-drop}
use Rattle.std.proofs.Math.Nat.{suc-mul, mul-le-mul_right}
use Rattle.text_fields.specs.TextWords.{Text}
use Rattle.text_fields.specs.Numbers.{count_in}
use Rattle.text_fields.specs.Reading.{field}
use Rattle.text_fields.proofs.Fields.{field_ok, field-same}
use Rattle.text_fields.proofs.Limits.{limited_ok, line_in_ok}
use Rattle.text_fields.proofs.Results.{bind-same}
use Rattle.matrix_text.specs.declared.error.TextKind.{TextKind}
use Rattle.matrix_text.specs.declared.error.TextKind.TheVariants.{Short, ColumnOutOfRange, TwiceNamed}
use Rattle.matrix_text.specs.TextKinds.{limit_kind}
use Rattle.matrix_text.specs.Values.{limited, line_in, free_column_in}

-- a count of at most `most` was read
pub size_found : (most : ℕ) (beyond : TextKind) (text : Text) (n : ℕ × Text) → field Short (limited most beyond) text ≡ Ok n
    → (word : ℕ × List ℕ) × (text.words ≡ word ∷ (n.1).words) × (count_in word.1 ≡ Ok n.0) × (n.0 ≤ most)
size_found most beyond text n h =
    let f = field_ok Short (limited most beyond) text n.0 n.1 h in
    let l = limited_ok (limit_kind beyond) most f.word.1 n.0 f.parsed in
    (f.word, f.words_are, l.0, l.1)

-- only the columns of the matrix matter
pub free_column_in-same : (most : ℕ) (f g : ℕ → Bool) → ((n : ℕ) → 0 < n → n ≤ most → f n ≡ g n) → (word : List ℕ) → free_column_in most f word ≡ free_column_in most g word
free_column_in-same most f g same word = bind-same (line_in most ColumnOutOfRange word) (λ n. cond (f n) (Err TwiceNamed) (Ok n)) (λ n. cond (g n) (Err TwiceNamed) (Ok n)) (λ n is. let ok = line_in_ok (limit_kind ColumnOutOfRange) most word n is in ap (λ (t : Bool). cond t (Err TwiceNamed) (Ok n)) (same n ok.1 ok.2))

-- the taken columns of a row, from the row's part of the flags of all positions
pub row_part : (width start : ℕ) (taken : List Bool) → start + width ≤ length taken → (text : Text)
    → field Short (free_column_in width (λ n. get_or taken (start + (n - 1)) false)) text ≡ field Short (free_column_in (length (take (start + width - start) (drop start taken))) (λ n. get_or (take (start + width - start) (drop start taken)) (n - 1) false)) text
row_part width start taken fits text =
    let part = take (start + width - start) (drop start taken) in
    let all : start + width - start ≡ width = omega arith in
    let len : length part ≡ width = ap (λ k. length (take k (drop start taken))) all ∙ length-take-le width (drop start taken) (omega (arith, length-drop start taken)) in
    let at : (n : ℕ) → 0 < n → n ≤ width → get_or taken (start + (n - 1)) false ≡ get_or part (n - 1) false =
    λ n above within. sym (ap (λ k. get_or (take k (drop start taken)) (n - 1) false) all ∙ get_or-take width (drop start taken) (n - 1) false (omega arith) ∙ get_or-drop start taken (n - 1) false) in
    field-same Short (free_column_in width (λ n. get_or taken (start + (n - 1)) false)) (free_column_in width (λ n. get_or part (n - 1) false)) text (free_column_in-same width (λ n. get_or taken (start + (n - 1)) false) (λ n. get_or part (n - 1) false) at)
    ∙ ap (λ k. field Short (free_column_in k (λ n. get_or part (n - 1) false)) text) (sym len)

pub row_fits : (row rows width : ℕ) → 0 < row → row ≤ rows → (row - 1) * width + width ≤ rows * width
row_fits row rows width above within = let next : suc (row - 1) ≡ row = omega arith in omega (arith, suc-mul (row - 1) width, ap (λ k. k * width) next, mul-le-mul_right width within)
