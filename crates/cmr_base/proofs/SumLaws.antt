-- Laws of sums over lists.
use Rattle.std.proofs.Common.{◌≡◌, ◌++◌, ℤ, pos, ◌+ℤ◌, ◌*ℤ◌, ◌-ℤ◌, List, [], ◌∷◌, map, refl, ap, sym, arith}
use Rattle.std.specs.List.{AllByRecursion}
use Rattle.cmr_base.specs.Sums.{sum_over}
use Rattle.cmr_base.proofs.Integers.{sums, products}

pub sum_over-add : {A : Type 0} (xs : List A) (f g : A → ℤ) → sum_over xs (λ x. f x +ℤ g x) ≡ sum_over xs f +ℤ sum_over xs g
sum_over-add [] f g = refl
sum_over-add (x ∷ xs) f g = rw (sum_over-add xs f g) (omega (arith, sums))

pub sum_over-sub : {A : Type 0} (xs : List A) (f g : A → ℤ) → sum_over xs (λ x. f x -ℤ g x) ≡ sum_over xs f -ℤ sum_over xs g
sum_over-sub [] f g = refl
sum_over-sub (x ∷ xs) f g = rw (sum_over-sub xs f g) (omega (arith, sums))

pub sum_over-scale : {A : Type 0} (xs : List A) (k : ℤ) (f : A → ℤ) → sum_over xs (λ x. k *ℤ f x) ≡ k *ℤ sum_over xs f
sum_over-scale [] k f = simp products
sum_over-scale (x ∷ xs) k f = rw (sum_over-scale xs k f) (simp products)

pub sum_over-scale_right : {A : Type 0} (xs : List A) (k : ℤ) (f : A → ℤ) → sum_over xs (λ x. f x *ℤ k) ≡ sum_over xs f *ℤ k
sum_over-scale_right [] k f = simp products
sum_over-scale_right (x ∷ xs) k f = rw (sum_over-scale_right xs k f) (simp products)

pub sum_over-zero : {A : Type 0} (xs : List A) → sum_over xs (λ x. pos 0) ≡ pos 0
sum_over-zero [] = refl
sum_over-zero (x ∷ xs) = rw (sum_over-zero xs) refl

pub sum_over-append : {A : Type 0} (xs ys : List A) (f : A → ℤ) → sum_over (xs ++ ys) f ≡ sum_over xs f +ℤ sum_over ys f
sum_over-append [] ys f = omega (arith, sums)
sum_over-append (x ∷ xs) ys f = rw (sum_over-append xs ys f) (omega (arith, sums))

pub sum_over-map : {A B : Type 0} (g : B → A) (xs : List B) (f : A → ℤ) → sum_over (map g xs) f ≡ sum_over xs (λ x. f (g x))
sum_over-map g [] f = refl
sum_over-map g (x ∷ xs) f = ap (λ (z : ℤ). f (g x) +ℤ z) (sum_over-map g xs f)

-- two sums commute
pub sum_over-exchange : {A B : Type 0} (xs : List A) (ys : List B) (f : A → B → ℤ) → sum_over xs (λ x. sum_over ys (f x)) ≡ sum_over ys (λ y. sum_over xs (λ x. f x y))
sum_over-exchange [] ys f = sym (sum_over-zero ys)
sum_over-exchange (x ∷ xs) ys f = rw (sum_over-exchange xs ys f) (sym (sum_over-add ys (f x) (λ y. sum_over xs (λ x'. f x' y))))

-- functions that are equal at each item have equal sums
pub sum_over_same : {A : Type 0} (xs : List A) (f g : A → ℤ) → AllByRecursion (λ x. f x ≡ g x) xs → sum_over xs f ≡ sum_over xs g
sum_over_same [] f g same = refl
sum_over_same (x ∷ xs) f g same = rw (same.0, sum_over_same xs f g same.1) refl
