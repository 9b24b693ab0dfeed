-- Counts and signed numbers as words.
use Rattle.std.specs.Prelude.{◌+◌, ◌*◌, ◌-◌, ◌^◌, ◌==◌, nat_lt, if◌then◌else◌, ℕ, ℤ, pos, neg_ℤ, List, [], ◌∷◌, fold, Result, Ok, Err}
use Rattle.std.specs.List.{list_all}
use Rattle.std.specs.Char.{is_ascii_digit}
use Rattle.text_fields.specs.declared.error.NumberFault.{NumberFault}
use Rattle.text_fields.specs.declared.error.NumberFault.TheVariants.{NotNumber, TooBig}
use Rattle.text_fields.specs.Result.{◌>>=◌}

-- the number that decimal digits spell
abbrev pub number_of_digits : List ℕ → ℕ
number_of_digits digits = fold (λ n digit. 10 * n + (digit - 48)) 0 digits

-- one or more digits of a number below 2^31
abbrev pub magnitude : List ℕ → Result ℕ NumberFault
magnitude [] = Err NotNumber
magnitude (digit ∷ digits) =
    if list_all is_ascii_digit (digit ∷ digits)
    then (if nat_lt (number_of_digits (digit ∷ digits)) (2 ^ 31) then Ok (number_of_digits (digit ∷ digits)) else Err TooBig)
    else Err NotNumber

-- without a leading plus
abbrev pub after_plus : List ℕ → List ℕ
after_plus [] = []
after_plus (b ∷ digits) = if b == 43 then digits else b ∷ digits

-- a count: digits with an optional plus
abbrev pub count_in : List ℕ → Result ℕ NumberFault
count_in word = magnitude (after_plus word)

-- a signed number: digits with an optional plus or minus
abbrev pub signed_in : List ℕ → Result ℤ NumberFault
signed_in [] = Err NotNumber
signed_in (b ∷ digits) =
    if b == 45
    then (magnitude digits >>= λ n. Ok (neg_ℤ (pos n)))
    else (count_in (b ∷ digits) >>= λ n. Ok (pos n))
