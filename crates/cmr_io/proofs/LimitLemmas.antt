-- Limits of single calls.
use Rattle.std.proofs.Common.{◌≡◌, ◌<◌, ◌↔◌, ◌∙◌, ℕ, List, [], ◌∷◌, Option, Some, None, length, min, ap, refl, arith}
use Rattle.std.specs.Option.{ForSome}
use Rattle.cmr_io.specs.Limit.{given_by_next, up_to}

-- if a limit allows 0 of `count` bytes, `count` is 0
pub up_to-zero : (limit : Option ℕ) (count : ℕ) → ForSome limit (λ bytes. 0 < bytes) → up_to limit count ≡ 0 → count ≡ 0
up_to-zero None count positive none = none
up_to-zero (Some most) count positive none = let some = positive most refl in omega arith

up_to-none : (limit : Option ℕ) → up_to limit 0 ≡ 0
up_to-none None = refl
up_to-none (Some most) = omega arith

-- if there is room, the call gives no byte if and only if none is left
pub gives_end : (limit : Option ℕ) (left into : List ℕ) → ForSome limit (λ bytes. 0 < bytes) → 0 < length into → (given_by_next limit left into ≡ 0) ↔ (left ≡ [])
gives_end limit [] into positive some =
    let none : min 0 (length into) ≡ 0 = omega arith in
    (λ given. refl, λ empty. ap (up_to limit) none ∙ up_to-none limit)
gives_end limit (byte ∷ left) into positive some = (
  λ none. absurd (let least = up_to-zero limit (min (length (byte ∷ left)) (length into)) positive none in omega arith),
  λ empty. absurd (let least = ap length empty in omega arith),
)
