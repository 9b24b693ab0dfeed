-- Decimals are words that represent their numbers.
use Rattle.std.proofs.Common.{◌≡◌, ◌<◌, ◌+◌, ◌*◌, ◌-◌, ◌^◌, ◌∙◌, eqb, ltb, ℕ, true, false, List, [], ◌∷◌, length, Ok, refl, ap, sym, subst, arith, rules}
use Rattle.std.specs.Prelude.{fold}
use Rattle.std.specs.List.{list_all}
use Rattle.std.specs.Char.{is_ascii_digit}
use Rattle.std.specs.Fmt.{decimal}
use Rattle.std.proofs.lemmas.Fmt.{digits_decimal, digits_value-decimal, decimal_nonempty}
use Rattle.std.proofs.lemmas.Str.Parse.{IsNumeralModel, numerals_by_fold}
use Rattle.std.proofs.lemmas.Bool.Decides.{nat_tests}
use Rattle.text_fields.specs.TextWords.{is_space}
use Rattle.text_fields.specs.Numbers.{number_of_digits, count_in}
use Rattle.text_fields.proofs.LineWords.{IsSolid, IsWord}

abbrev read_on : ℕ → List ℕ → ℕ
read_on n digits = fold (λ n digit. 10 * n + (digit - 48)) n digits

own : IsNumeralModel (λ digits. list_all is_ascii_digit digits ≡ true) number_of_digits
own = numerals_by_fold _ (search rules) read_on (search rules)

digit_solid : (b : ℕ) → is_ascii_digit b ≡ true → is_space b ≡ false
digit_solid b h = grind (arith, nat_tests)

digits_solid : (digits : List ℕ) → list_all is_ascii_digit digits ≡ true → IsSolid digits
digits_solid [] h = tt
digits_solid (b ∷ digits) h =
    let first : is_ascii_digit b ≡ true = grind (arith, h) in
    let others : list_all is_ascii_digit digits ≡ true = grind (arith, h) in
    (digit_solid b first, digits_solid digits others)

pub decimal_word : (n : ℕ) → n < 2 ^ 64 → IsWord (decimal n)
decimal_word n small = go (decimal n) (decimal_nonempty n small) (digits_decimal own n small)
  where
    go : (digits : List ℕ) → 0 < length digits → list_all is_ascii_digit digits ≡ true → IsWord digits
    go [] some all = absurd (omega arith)
    go (b ∷ digits) some all = record { first = b; others = digits; word_is = refl; solid = digits_solid (b ∷ digits) all }

count_of_digits : (digits : List ℕ) → 0 < length digits → list_all is_ascii_digit digits ≡ true → number_of_digits digits < 2 ^ 31 → count_in digits ≡ Ok (number_of_digits digits)
count_of_digits [] some all small = absurd (omega arith)
count_of_digits (b ∷ digits) some all small =
    let first : is_ascii_digit b ≡ true = grind (arith, all) in
    let no_plus : eqb b 43 ≡ false = grind (arith, nat_tests) in
    let below : ltb (number_of_digits (b ∷ digits)) (2 ^ 31) ≡ true = grind (arith, nat_tests) in
    rw (no_plus, all, below) refl

-- a count is read as it was written
pub count_of_decimal : (n : ℕ) → n < 2 ^ 31 → count_in (decimal n) ≡ Ok n
count_of_decimal n small =
    let fits : n < 2 ^ 64 = omega arith in
    let value = digits_value-decimal own n fits in
    count_of_digits (decimal n) (decimal_nonempty n fits) (digits_decimal own n fits) (subst (λ k. k < 2 ^ 31) (sym value) small) ∙ ap Ok value
