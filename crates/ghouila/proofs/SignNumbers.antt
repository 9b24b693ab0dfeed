use Rattle.std.proofs.Common.{◌≡◌, ◌<◌, ◌+◌, ◌*◌, ◌^◌, ◌/◌, ◌%◌, ℕ, zero, suc, ℤ, pos, negsuc, List, [], ◌∷◌, length, refl, ap, sym, inl, inr, subst, true, false, arith, cond, eqb, ◌≤◌, ◌-◌, ◌++◌, append_assoc}
use Rattle.std.proofs.lemmas.Bool.Decides.{nat_tests}
use Rattle.std.proofs.lemmas.Bool.{cases_lt}
use Rattle.cmr_base.specs.Matrix.{Matrix}
use Rattle.std.proofs.Math.Nat.{pow-suc}
use Rattle.std.specs.List.{AllByRecursion}
use Rattle.cmr_base.specs.Signing.{IsSign, sign_bit, sign_number, IsSigning}
use Rattle.ghouila.specs.Numbered.{low_sign, signs_numbered}

pub length-signs_numbered : (count number : ℕ) → length (signs_numbered count number) ≡ count
length-signs_numbered zero number = refl
length-signs_numbered (suc count) number = ap suc (length-signs_numbered count (number / 2))

low_sign_is : (number : ℕ) → IsSign (low_sign number)
low_sign_is number = elim (eqb (number % 2) 1) as (λ b. IsSign (cond b (negsuc 0) (pos 1))) [ true ↦ inr refl | false ↦ inl refl ]

low_bit : (number : ℕ) → sign_bit (low_sign number) ≡ number % 2
low_bit number = grind (arith, nat_tests)

pub signs_numbered_all : (count number : ℕ) → AllByRecursion IsSign (signs_numbered count number)
signs_numbered_all zero number = tt
signs_numbered_all (suc count) number = (low_sign_is number, signs_numbered_all count (number / 2))

pub sign_number-signs_numbered : (count number : ℕ) → number < 2 ^ count → sign_number (signs_numbered count number) ≡ number
sign_number-signs_numbered zero number h = omega arith
sign_number-signs_numbered (suc count) number h =
    omega (arith, low_bit number, sign_number-signs_numbered count (number / 2) (omega (arith, pow-suc 2 count)))

sign_bit_in : (sign : ℤ) → IsSign sign → sign_bit sign ≤ 1
sign_bit_in sign (inl e) = subst (λ s. sign_bit s ≤ 1) (sym e) (omega arith)
sign_bit_in sign (inr e) = subst (λ s. sign_bit s ≤ 1) (sym e) (omega arith)

pub sign_number_below : (signs : List ℤ) → AllByRecursion IsSign signs → sign_number signs < 2 ^ length signs
sign_number_below [] all = omega arith
sign_number_below (sign ∷ signs) all = omega (arith, sign_bit_in sign all.0, sign_number_below signs all.1, pow-suc 2 (length signs))

low_bit_back : (sign : ℤ) (k : ℕ) → IsSign sign → low_sign (sign_bit sign + 2 * k) ≡ sign
low_bit_back sign k (inl e) =
    subst (λ s. low_sign (sign_bit s + 2 * k) ≡ s) (sym e) (let even : (0 + 2 * k) % 2 ≡ 0 = omega arith in rw even refl)
low_bit_back sign k (inr e) =
    subst (λ s. low_sign (sign_bit s + 2 * k) ≡ s) (sym e) (let odd : (1 + 2 * k) % 2 ≡ 1 = omega arith in rw odd refl)

-- the number of a list of signs gives that list
pub signs_numbered-sign_number : (signs : List ℤ) → AllByRecursion IsSign signs → signs_numbered (length signs) (sign_number signs) ≡ signs
signs_numbered-sign_number [] all = refl
signs_numbered-sign_number (sign ∷ signs) all =
    let half : (sign_bit sign + 2 * sign_number signs) / 2 ≡ sign_number signs = omega (arith, sign_bit_in sign all.0) in
    rw (half, low_bit_back sign (sign_number signs) all.0) (ap (λ ss. sign ∷ ss) (signs_numbered-sign_number signs all.1))

pub signs_numbered_step : (prefix : List ℤ) (n k number : ℕ) → k < n → (prefix ++ low_sign number ∷ []) ++ signs_numbered (n - (k + 1)) (number / 2) ≡ prefix ++ signs_numbered (n - k) number
signs_numbered_step prefix n k number h =
    let e : n - k ≡ suc (n - (k + 1)) = omega arith in
    rw (append_assoc, e) refl

-- if the signings have no smaller number than this one, and this one gives no signing, all their numbers are larger
pub no_lesser : (m : Matrix) (rows : List ℕ) (number : ℕ) → (IsSigning m rows (signs_numbered (length rows) number) → ⊥)
    → ((others : List ℤ) → IsSigning m rows others → number ≤ sign_number others) → (others : List ℤ) → IsSigning m rows others
    → number + 1 ≤ sign_number others
no_lesser m rows number not before others signs =
    elim (cases_lt number (sign_number others)) [
      | inl below ↦ omega arith
      | inr above ↦ absurd (not (subst (IsSigning m rows) (sym (same m rows others signs number (omega (arith, before others signs)))) signs))
    ]
  where
    same : (m : Matrix) (rows : List ℕ) (others : List ℤ) → IsSigning m rows others → (number : ℕ) → sign_number others ≡ number → signs_numbered (length rows) number ≡ others
    same m rows others signs number e = rw (← signs.one_each, ← e) (signs_numbered-sign_number others signs.each)
