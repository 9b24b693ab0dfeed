-- Texts of numbers within a range, as the parser of `i64` reads them.
use Rattle.std.proofs.Common.{◌≡◌, ℕ, ℤ, pos, neg_ℤ, ◌≤ℤ◌, ◌≤◌, zero, suc, List, Option, Some, None, Bool, true, false, cond, refl, sym, ap, subst, ◌∙◌, FitsSigned, to_z, of_z, w64, codes, arith}
use lib.IntN.{nat_abs}
use Rattle.std.specs.Option.{option_map_or}
use Rattle.std.specs.Str.Parse.{IsNumeral, digits_value, signed_digits_value, starts_with_minus, without_leading_sign}
use Rattle.std.proofs.lemmas.Int.{ints, to_z-of_z}
use Rattle.clap.specs.Words.{Row, Text, first_of}
use Rattle.clap.specs.Values.{IsSignedIn}
use Rattle.clap.specs.ValueTests.{is_signed_in}
use Rattle.clap.specs.declared.builder.value_parser.ValueParser.TheVariants as vp
use Rattle.clap.proofs.ValueTestLemmas.{Accepts-accepts, accepts-Accepts}
use Rattle.cmr_front.specs.declared.matrix_file.MatrixForm.{MatrixForm}
use Rattle.cmr_front.specs.Words.Parsing.{form_in, lines_in, number_from, pivots_in, workers_in}
use Rattle.cmr_front.specs.Words.ReadWords.{◌>>=◌}
use Rattle.cmr_base.specs.declared.limits.TheConstants.{MAX_LINES}

number_from-some : (least most : ℕ) (text : List ℕ) → IsSignedIn (pos least) (pos most) text → number_from least most text ≡ Some (digits_value 10 (without_leading_sign text))
number_from-some least most text h = ap (λ (b : Bool). cond b (Some (digits_value 10 (without_leading_sign text))) None) (Accepts-accepts false (vp.Signed (pos least) (pos most)) text h)

-- a text that does not represent a number of the range
pub number_from-none : (least most : ℕ) (text : List ℕ) → (IsSignedIn (pos least) (pos most) text → ⊥) → None ≡ number_from least most text
number_from-none least most text h = go (is_signed_in (pos least) (pos most) text) refl
  where
    go : (b : Bool) → is_signed_in (pos least) (pos most) text ≡ b → ◌≡◌ {A = Option ℕ} None (cond b (Some (digits_value 10 (without_leading_sign text))) None)
    go true e = absurd (h (accepts-Accepts false (vp.Signed (pos least) (pos most)) text e))
    go false e = refl

nat_abs-cond : (b : Bool) (n : ℕ) → nat_abs (cond b (neg_ℤ (pos n)) (pos n)) ≡ n
nat_abs-cond true zero = refl
nat_abs-cond true (suc n) = refl
nat_abs-cond false n = refl

-- a number of the range
pub number_read : (least most : ℕ) (text : List ℕ) (z : ℤ) → IsNumeral 10 (without_leading_sign text) → FitsSigned w64 (signed_digits_value 10 text)
    → z ≡ signed_digits_value 10 text → pos least ≤ℤ z → z ≤ℤ pos most → Some (nat_abs (to_z w64 (of_z w64 z))) ≡ number_from least most text
number_read least most text z numeral fits is low high =
    let whole : to_z w64 (of_z w64 z) ≡ signed_digits_value 10 text = rw is (to_z-of_z w64 (signed_digits_value 10 text) fits) in
    ap (λ (x : ℤ). Some (nat_abs x)) whole ∙ ap Some (nat_abs-cond (starts_with_minus text) (digits_value 10 (without_leading_sign text)))
    ∙ sym (number_from-some least most text (numeral, fits, subst (λ (x : ℤ). pos least ≤ℤ x) is low, subst (λ (x : ℤ). x ≤ℤ pos most) is high))

-- a number of the range is between its ends
pub number_from-between : (least most : ℕ) (text : List ℕ) (n : ℕ) → number_from least most text ≡ Some n → (least ≤ n) × (n ≤ most)
number_from-between least most text n e = go (is_signed_in (pos least) (pos most) text) refl e
  where
    of_sign : (b : Bool) (d : ℕ) → pos least ≤ℤ cond b (neg_ℤ (pos d)) (pos d) → cond b (neg_ℤ (pos d)) (pos d) ≤ℤ pos most → (least ≤ d) × (d ≤ most)
    of_sign true d low high = (omega (arith, ints), omega (arith, ints))
    of_sign false d low high = (omega (arith, ints), omega (arith, ints))

    go : (b : Bool) → is_signed_in (pos least) (pos most) text ≡ b → ◌≡◌ {A = Option ℕ} (cond b (Some (digits_value 10 (without_leading_sign text))) None) (Some n) → (least ≤ n) × (n ≤ most)
    go true is e =
        let within = accepts-Accepts false (vp.Signed (pos least) (pos most)) text is in
        let same : digits_value 10 (without_leading_sign text) ≡ n = cc in
        subst (λ (d : ℕ). (least ≤ d) × (d ≤ most)) same (of_sign (starts_with_minus text) (digits_value 10 (without_leading_sign text)) within.2 within.3)
    go false is e = cc

-- the lines, pivots and workers that arguments name
pub lines_in-le : (rows : List Row) (lines : ℕ) → lines_in rows ≡ Some lines → lines ≤ MAX_LINES
lines_in-le rows lines e = go (first_of (codes "lines") rows) e
  where
    go : (text : Option Text) → option_map_or (number_from 0 MAX_LINES) text (Some 14) ≡ Some lines → lines ≤ MAX_LINES
    go None e = let same : 14 ≡ lines = cc in omega arith
    go (Some text) e = (number_from-between 0 MAX_LINES text lines e).1

pub pivots_in-le : (rows : List Row) (pivots : ℕ) → pivots_in rows ≡ Some pivots → pivots ≤ 100
pivots_in-le rows pivots e = go (first_of (codes "pivots") rows) e
  where
    go : (text : Option Text) → option_map_or (number_from 0 100) text (Some 0) ≡ Some pivots → pivots ≤ 100
    go None e = let same : 0 ≡ pivots = cc in omega arith
    go (Some text) e = (number_from-between 0 100 text pivots e).1

pub workers_in-between : (rows : List Row) (workers : ℕ) → workers_in rows ≡ Some workers → (1 ≤ workers) × (workers ≤ 64)
workers_in-between rows workers e = go (first_of (codes "workers") rows) e
  where
    go : (text : Option Text) → option_map_or (number_from 1 64) text (Some 1) ≡ Some workers → (1 ≤ workers) × (workers ≤ 64)
    go None e = let same : 1 ≡ workers = cc in (omega arith, omega arith)
    go (Some text) e = number_from-between 1 64 text workers e

-- a value from the form and these three numbers
pub with_numbers : {O : Type 0} (P : O → Type 0) (make : MatrixForm → ℕ → ℕ → ℕ → O) (rows : List Row) (o : O)
    → ((form : MatrixForm) (lines pivots workers : ℕ) → lines ≤ MAX_LINES → pivots ≤ 100 → (1 ≤ workers) × (workers ≤ 64) → P (make form lines pivots workers))
    → (form_in rows >>= (λ f. lines_in rows >>= (λ l. pivots_in rows >>= (λ p. workers_in rows >>= (λ w. Some (make f l p w)))))) ≡ Some o → P o
with_numbers {O} P make rows o each e = go (form_in rows) (lines_in rows) (pivots_in rows) (workers_in rows) (lines_in-le rows) (pivots_in-le rows) (workers_in-between rows) e
  where
    go : (form : Option MatrixForm) (lines pivots workers : Option ℕ) → ((n : ℕ) → lines ≡ Some n → n ≤ MAX_LINES) → ((n : ℕ) → pivots ≡ Some n → n ≤ 100)
        → ((n : ℕ) → workers ≡ Some n → (1 ≤ n) × (n ≤ 64))
        → (form >>= (λ f. lines >>= (λ l. pivots >>= (λ p. workers >>= (λ w. Some (make f l p w)))))) ≡ Some o → P o
    go None lines pivots workers few bound some e = cc
    go (Some f) None pivots workers few bound some e = cc
    go (Some f) (Some l) None workers few bound some e = cc
    go (Some f) (Some l) (Some p) None few bound some e = cc
    go (Some f) (Some l) (Some p) (Some w) few bound some e =
        let same : make f l p w ≡ o = cc in
        subst P same (each f l p w (few l refl) (bound p refl) (some w refl))
