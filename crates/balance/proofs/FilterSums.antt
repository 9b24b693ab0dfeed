-- Sums and numbers of a part of a list.
use Rattle.std.proofs.Common.{◌≡◌, ◌≢◌, ◌<◌, ◌≤◌, ◌+◌, ◌^◌, ◌∙◌, inl, inr, ℕ, Bool, true, false, cond, not, nat_lt, ℤ, pos, ◌+ℤ◌, List, [], ◌∷◌, length, refl, ap, sym, arith}
use Rattle.std.specs.Prelude.{filter}
use Rattle.std.specs.List.{AllByRecursion}
use Rattle.std.proofs.Math.Pow.{pow_pos}
use Rattle.std.proofs.lemmas.Bool.{false≢true}
use Rattle.std.proofs.lemmas.Bool.Decides.{nat_tests}
use Rattle.cmr_base.specs.LineSets.{set_number}
use Rattle.cmr_base.specs.Members.{IsIn}
use Rattle.cmr_base.specs.Sums.{sum_over}
use Rattle.cmr_base.proofs.Integers.{sums}
use Rattle.cmr_base.proofs.IncreasingLists.{IncreasesIn, increases_from_lower}

split_one : (b : Bool) (x : ℕ) (ys zs : List ℕ) (f : ℕ → ℤ) (total : ℤ) → sum_over ys f +ℤ sum_over zs f ≡ total
    → sum_over (cond b (x ∷ ys) ys) f +ℤ sum_over (cond (not b) (x ∷ zs) zs) f ≡ f x +ℤ total
split_one true x ys zs f total e = omega (arith, sums)
split_one false x ys zs f total e = omega (arith, sums)

-- a part and the rest
pub sum_split : (p : ℕ → Bool) (xs : List ℕ) (f : ℕ → ℤ) → sum_over (filter p xs) f +ℤ sum_over (filter (λ x. not (p x)) xs) f ≡ sum_over xs f
sum_split p [] f = refl
sum_split p (x ∷ xs) f = split_one (p x) x (filter p xs) (filter (λ y. not (p y)) xs) f (sum_over xs f) (sum_split p xs f)

zero_one : (b : Bool) (x : ℕ) (ys : List ℕ) (f : ℕ → ℤ) (total : ℤ) → (b ≡ false → f x ≡ pos 0) → sum_over ys f ≡ total → sum_over (cond b (x ∷ ys) ys) f ≡ f x +ℤ total
zero_one true x ys f total z e = ap (λ (t : ℤ). f x +ℤ t) e
zero_one false x ys f total z e = let h = z refl in omega (arith, sums)

-- the removed terms are 0
pub sum_part : (p : ℕ → Bool) (xs : List ℕ) (f : ℕ → ℤ) → ((x : ℕ) → IsIn x xs → p x ≡ false → f x ≡ pos 0) → sum_over (filter p xs) f ≡ sum_over xs f
sum_part p [] f h = refl
sum_part p (x ∷ xs) f h = zero_one (p x) x (filter p xs) f (sum_over xs f) (λ e. h x (inl refl) e) (sum_part p xs f (λ y i e. h y (inr i) e))

none_one : (b : Bool) (x : ℕ) (ys : List ℕ) (f : ℕ → ℤ) → (b ≡ true → f x ≡ pos 0) → sum_over ys f ≡ pos 0 → sum_over (cond b (x ∷ ys) ys) f ≡ pos 0
none_one true x ys f z e = let h = z refl in omega (arith, sums)
none_one false x ys f z e = e

-- the kept terms are 0
pub sum_empty : (p : ℕ → Bool) (xs : List ℕ) (f : ℕ → ℤ) → ((x : ℕ) → IsIn x xs → p x ≡ true → f x ≡ pos 0) → sum_over (filter p xs) f ≡ pos 0
sum_empty p [] f h = refl
sum_empty p (x ∷ xs) f h = none_one (p x) x (filter p xs) f (λ e. h x (inl refl) e) (sum_empty p xs f (λ y i e. h y (inr i) e))

-- a part without one of the lines has a smaller number
at_most_one : (b : Bool) (x : ℕ) (ys : List ℕ) (total : ℕ) → set_number ys ≤ total → set_number (cond b (x ∷ ys) ys) ≤ 2 ^ x + total
at_most_one true x ys total h = omega arith
at_most_one false x ys total h = omega arith

at_most : (p : ℕ → Bool) (xs : List ℕ) → set_number (filter p xs) ≤ set_number xs
at_most p [] = omega arith
at_most p (x ∷ xs) = at_most_one (p x) x (filter p xs) (set_number xs) (at_most p xs)

less_here : (b : Bool) (x : ℕ) (ys : List ℕ) (total : ℕ) → b ≡ false → 0 < 2 ^ x → set_number ys ≤ total → set_number (cond b (x ∷ ys) ys) < 2 ^ x + total
less_here true x ys total e some h = absurd (false≢true (sym e))
less_here false x ys total e some h = omega arith

less_later : (b : Bool) (x : ℕ) (ys : List ℕ) (total : ℕ) → set_number ys < total → set_number (cond b (x ∷ ys) ys) < 2 ^ x + total
less_later true x ys total h = omega arith
less_later false x ys total h = omega arith

pub number_less : (p : ℕ → Bool) (xs : List ℕ) (x : ℕ) → IsIn x xs → p x ≡ false → set_number (filter p xs) < set_number xs
number_less p [] x h e = absurd h
number_less p (y ∷ ys) x (inl q) e = less_here (p y) y (filter p ys) (set_number ys) (ap p (sym q) ∙ e) (pow_pos y) (at_most p ys)
number_less p (y ∷ ys) x (inr h) e = less_later (p y) y (filter p ys) (set_number ys) (number_less p ys x h e)

part_one : (b : Bool) (low high x : ℕ) (ys : List ℕ) → low ≤ x → x < high → IncreasesIn (x + 1) high ys → IncreasesIn low high (cond b (x ∷ ys) ys)
part_one true low high x ys l h r = (l, h, r)
part_one false low high x ys l h r = increases_from_lower low (x + 1) high ys (omega arith) r

pub increases-part : (p : ℕ → Bool) (low high : ℕ) (xs : List ℕ) → IncreasesIn low high xs → IncreasesIn low high (filter p xs)
increases-part p low high [] r = tt
increases-part p low high (x ∷ xs) r = part_one (p x) low high x (filter p xs) r.0 r.1 (increases-part p (x + 1) high xs r.2)

fewer_one : (b c : Bool) (x : ℕ) (ys zs : List ℕ) → (b ≡ true → c ≡ true) → length ys ≤ length zs → length (cond b (x ∷ ys) ys) ≤ length (cond c (x ∷ zs) zs)
fewer_one true true x ys zs k h = omega arith
fewer_one true false x ys zs k h = absurd (false≢true (k refl))
fewer_one false true x ys zs k h = omega arith
fewer_one false false x ys zs k h = h

fewer_all : (p q : ℕ → Bool) (xs : List ℕ) → ((x : ℕ) → q x ≡ true → p x ≡ true) → length (filter q xs) ≤ length (filter p xs)
fewer_all p q [] k = omega arith
fewer_all p q (x ∷ xs) k = fewer_one (q x) (p x) x (filter q xs) (filter p xs) (k x) (fewer_all p q xs k)

fewer_here : (b c : Bool) (x : ℕ) (ys zs : List ℕ) → b ≡ false → c ≡ true → length ys ≤ length zs → length (cond b (x ∷ ys) ys) < length (cond c (x ∷ zs) zs)
fewer_here true c x ys zs e f h = absurd (false≢true (sym e))
fewer_here false true x ys zs e f h = omega arith
fewer_here false false x ys zs e f h = absurd (false≢true f)

fewer_more : (b c : Bool) (x : ℕ) (ys zs : List ℕ) → (b ≡ true → c ≡ true) → length ys < length zs → length (cond b (x ∷ ys) ys) < length (cond c (x ∷ zs) zs)
fewer_more true true x ys zs k h = omega arith
fewer_more true false x ys zs k h = absurd (false≢true (k refl))
fewer_more false true x ys zs k h = omega arith
fewer_more false false x ys zs k h = h

-- a smaller part of the list
pub fewer_kept : (p q : ℕ → Bool) (xs : List ℕ) → ((x : ℕ) → q x ≡ true → p x ≡ true) → (x : ℕ) → IsIn x xs → p x ≡ true → q x ≡ false → length (filter q xs) < length (filter p xs)
fewer_kept p q [] k x h e f = absurd h
fewer_kept p q (y ∷ ys) k x (inl i) e f = fewer_here (q y) (p y) y (filter q ys) (filter p ys) (ap q (sym i) ∙ f) (ap p (sym i) ∙ e) (fewer_all p q ys k)
fewer_kept p q (y ∷ ys) k x (inr h) e f = fewer_more (q y) (p y) y (filter q ys) (filter p ys) (k y) (fewer_kept p q ys k x h e f)

-- ---- one line added

abbrev pub with_line : ℕ → List ℕ → List ℕ
with_line n [] = n ∷ []
with_line n (x ∷ xs) = cond (nat_lt n x) (n ∷ x ∷ xs) (x ∷ with_line n xs)

sum_put : (b : Bool) (n x : ℕ) (xs ys : List ℕ) (f : ℕ → ℤ) → sum_over ys f ≡ f n +ℤ sum_over xs f → sum_over (cond b (n ∷ x ∷ xs) (x ∷ ys)) f ≡ f n +ℤ (f x +ℤ sum_over xs f)
sum_put true n x xs ys f e = refl
sum_put false n x xs ys f e = omega (arith, sums)

pub sum-with_line : (n : ℕ) (xs : List ℕ) (f : ℕ → ℤ) → sum_over (with_line n xs) f ≡ f n +ℤ sum_over xs f
sum-with_line n [] f = refl
sum-with_line n (x ∷ xs) f = sum_put (nat_lt n x) n x xs (with_line n xs) f (sum-with_line n xs f)

all_put : (P : ℕ → Type 0) (b : Bool) (n x : ℕ) (xs ys : List ℕ) → P n → P x → AllByRecursion P xs → AllByRecursion P ys → AllByRecursion P (cond b (n ∷ x ∷ xs) (x ∷ ys))
all_put P true n x xs ys p q h k = (p, (q, h))
all_put P false n x xs ys p q h k = (q, k)

pub all-with_line : (P : ℕ → Type 0) (n : ℕ) (xs : List ℕ) → P n → AllByRecursion P xs → AllByRecursion P (with_line n xs)
all-with_line P n [] p h = (p, tt)
all-with_line P n (x ∷ xs) p h = all_put P (nat_lt n x) n x xs (with_line n xs) p h.0 h.1 (all-with_line P n xs p h.1)

increases_put : (b : Bool) (low high n x : ℕ) (xs ys : List ℕ) → nat_lt n x ≡ b → n ≢ x → low ≤ n → n < high → low ≤ x → x < high → IncreasesIn (x + 1) high xs
    → (x + 1 ≤ n → IncreasesIn (x + 1) high ys) → IncreasesIn low high (cond b (n ∷ x ∷ xs) (x ∷ ys))
increases_put true low high n x xs ys e apart l h k i r s = let less : n < x = grind (arith, nat_tests) in (l, h, (omega arith, i, r))
increases_put false low high n x xs ys e apart l h k i r s = let more : x ≤ n = grind (arith, nat_tests) in (k, i, s (omega arith))

pub increases-with_line : (low high n : ℕ) (xs : List ℕ) → ¬ (IsIn n xs) → low ≤ n → n < high → IncreasesIn low high xs → IncreasesIn low high (with_line n xs)
increases-with_line low high n [] apart l h r = (l, h, tt)
increases-with_line low high n (x ∷ xs) apart l h r = increases_put (nat_lt n x) low high n x xs (with_line n xs) refl (λ e. apart (inl e)) l h r.0 r.1 r.2 (λ m. increases-with_line (x + 1) high n xs (λ g. apart (inr g)) m h r.2)
