-- Small numbers as signed bytes, and Cramer's rule for two rows.
use Rattle.std.proofs.Common.{◌≡◌, ◌↔◌, ◌≤◌, ◌+◌, ◌∙◌, ℕ, zero, suc, ℤ, pos, negsuc, ◌+ℤ◌, ◌-ℤ◌, ◌*ℤ◌, FitsSigned, IsTrue, nat_eq, w8, to_z, of_z, ap, ap₂, sym, subst, refl, arith}
use Rattle.std.proofs.lemmas.Int.{ints}
use Rattle.cmr_base.specs.Cores.{IsBounded}
use Rattle.cmr_base.specs.Matrix.{IsEntry}
use Rattle.cmr_base.specs.Separations.{spread}
use Rattle.cmr_base.proofs.Booleans.{eq_of, is_eq}
use Rattle.cmr_base.proofs.Integers.{products, sums}
use Rattle.cmr_base.proofs.SmallEntries.{entry_as_byte}

pub small_fits : (bound : ℕ) (z : ℤ) → bound ≤ 100 → IsBounded bound z → FitsSigned w8 z
small_fits bound z few small = let l = small.low in let h = small.high in search (arith, ints)

pub small_as_byte : (bound : ℕ) (z : ℤ) → bound ≤ 100 → IsBounded bound z → to_z w8 (of_z w8 z) ≡ z
small_as_byte bound z few small = let l = small.low in let h = small.high in omega (arith, ints)

pub entry_is_small : (x : ℤ) → IsEntry x → IsBounded 1 x
entry_is_small x a = let l = a.low in let h = a.high in record { low = omega (arith, ints); high = omega (arith, ints) }

pub bounded_more : (bound more : ℕ) (z : ℤ) → bound ≤ more → IsBounded bound z → IsBounded more z
bounded_more bound more z few a = let l = a.low in let h = a.high in record { low = omega (arith, ints); high = omega (arith, ints) }

pub bounded_sum : (bound : ℕ) (x y : ℤ) → IsBounded bound x → IsBounded bound y → IsBounded (bound + bound) (x +ℤ y)
bounded_sum bound x y a b = let l = a.low in let h = a.high in let l' = b.low in let h' = b.high in record { low = omega (arith, ints); high = omega (arith, ints) }

pub bounded_difference : (x y : ℤ) → IsEntry x → IsEntry y → IsBounded 2 (x -ℤ y)
bounded_difference x y a b = let l = a.low in let h = a.high in let l' = b.low in let h' = b.high in record { low = omega (arith, ints); high = omega (arith, ints) }

-- the product of a number from -2 to 2 with another number
pub bounded_double : (bound : ℕ) (x y : ℤ) → IsBounded 2 x → IsBounded bound y → IsBounded (bound + bound) (x *ℤ y)
bounded_double bound (pos zero) y a b = record { low = omega (arith, ints); high = omega (arith, ints) }
bounded_double bound (pos (suc zero)) y a b = record { low = omega (arith, ints, b.low, b.high); high = omega (arith, ints, b.low, b.high) }
bounded_double bound (pos (suc (suc zero))) y a b = record { low = omega (arith, ints, b.low, b.high); high = omega (arith, ints, b.low, b.high) }
bounded_double bound (pos (suc (suc (suc n)))) y a b = absurd (let h = a.high in omega (arith, ints))
bounded_double bound (negsuc zero) y a b = record { low = omega (arith, ints, b.low, b.high); high = omega (arith, ints, b.low, b.high) }
bounded_double bound (negsuc (suc zero)) y a b = record { low = omega (arith, ints, b.low, b.high); high = omega (arith, ints, b.low, b.high) }
bounded_double bound (negsuc (suc (suc n))) y a b = absurd (let l = a.low in omega (arith, ints))

-- the product of a number with an entry
pub bounded_by_entry : (bound : ℕ) (x y : ℤ) → IsBounded bound x → IsEntry y → IsBounded bound (x *ℤ y)
bounded_by_entry bound x (pos zero) a b = record { low = omega (arith, ints); high = omega (arith, ints) }
bounded_by_entry bound x (pos (suc zero)) a b = record { low = omega (arith, ints, a.low, a.high); high = omega (arith, ints, a.low, a.high) }
bounded_by_entry bound x (pos (suc (suc n))) a b = absurd (let h = b.high in omega (arith, ints))
bounded_by_entry bound x (negsuc zero) a b = record { low = omega (arith, ints, a.low, a.high); high = omega (arith, ints, a.low, a.high) }
bounded_by_entry bound x (negsuc (suc n)) a b = absurd (let l = b.low in omega (arith, ints))

-- ---- small numbers as bytes

difference_same : (x y : ℤ) → IsEntry x → IsEntry y → to_z w8 (of_z w8 x) -ℤ to_z w8 (of_z w8 y) ≡ x -ℤ y
difference_same x y a b = ap₂ (λ (p q : ℤ). p -ℤ q) (entry_as_byte x a) (entry_as_byte y b)

pub difference_fits : (x y : ℤ) → IsEntry x → IsEntry y → FitsSigned w8 (to_z w8 (of_z w8 x) -ℤ to_z w8 (of_z w8 y))
difference_fits x y a b = small_fits 2 (to_z w8 (of_z w8 x) -ℤ to_z w8 (of_z w8 y)) (omega arith) (subst (IsBounded 2) (sym (difference_same x y a b)) (bounded_difference x y a b))

pub difference_kept : (x y : ℤ) → IsEntry x → IsEntry y → to_z w8 (of_z w8 (to_z w8 (of_z w8 x) -ℤ to_z w8 (of_z w8 y))) ≡ x -ℤ y
difference_kept x y a b = ap (λ (z : ℤ). to_z w8 (of_z w8 z)) (difference_same x y a b) ∙ small_as_byte 2 (x -ℤ y) (omega arith) (bounded_difference x y a b)

product_same : (bound more : ℕ) (x y : ℤ) → bound ≤ 100 → more ≤ 100 → IsBounded bound x → IsBounded more y → to_z w8 (of_z w8 x) *ℤ to_z w8 (of_z w8 y) ≡ x *ℤ y
product_same bound more x y few few' a b = ap₂ (λ (p q : ℤ). p *ℤ q) (small_as_byte bound x few a) (small_as_byte more y few' b)

-- the product of two numbers from -2 to 2
pub double_fits : (x y : ℤ) → IsBounded 2 x → IsBounded 2 y → FitsSigned w8 (to_z w8 (of_z w8 x) *ℤ to_z w8 (of_z w8 y))
double_fits x y a b = small_fits 4 (to_z w8 (of_z w8 x) *ℤ to_z w8 (of_z w8 y)) (omega arith) (subst (IsBounded 4) (sym (product_same 2 2 x y (omega arith) (omega arith) a b)) (bounded_double 2 x y a b))

pub double_kept : (x y : ℤ) → IsBounded 2 x → IsBounded 2 y → to_z w8 (of_z w8 (to_z w8 (of_z w8 x) *ℤ to_z w8 (of_z w8 y))) ≡ x *ℤ y
double_kept x y a b = ap (λ (z : ℤ). to_z w8 (of_z w8 z)) (product_same 2 2 x y (omega arith) (omega arith) a b) ∙ small_as_byte 4 (x *ℤ y) (omega arith) (bounded_double 2 x y a b)

pub by_entry_kept : (x y : ℤ) → IsBounded 4 x → IsEntry y → to_z w8 (of_z w8 (to_z w8 (of_z w8 x) *ℤ to_z w8 (of_z w8 y))) ≡ x *ℤ y
by_entry_kept x y a b = ap (λ (z : ℤ). to_z w8 (of_z w8 z)) (product_same 4 1 x y (omega arith) (omega arith) a (entry_is_small y b)) ∙ small_as_byte 4 (x *ℤ y) (omega arith) (bounded_by_entry 4 x y a b)

pub sum_fits : (x y p q : ℤ) → IsBounded 4 x → IsBounded 4 y → p ≡ x → q ≡ y → FitsSigned w8 (p +ℤ q)
sum_fits x y p q a b e f = small_fits 8 (p +ℤ q) (omega arith) (subst (IsBounded 8) (sym (ap₂ (λ (s t : ℤ). s +ℤ t) e f)) (bounded_sum 4 x y a b))

pub sum_kept : (x y p q : ℤ) → IsBounded 4 x → IsBounded 4 y → p ≡ x → q ≡ y → to_z w8 (of_z w8 (p +ℤ q)) ≡ x +ℤ y
sum_kept x y p q a b e f = ap₂ (λ (s t : ℤ). to_z w8 (of_z w8 (s +ℤ t))) e f ∙ small_as_byte 8 (x +ℤ y) (omega arith) (bounded_sum 4 x y a b)

-- whether two small numbers are equal
pub same_small : (x y p q : ℤ) → IsBounded 8 x → IsBounded 8 y → x ≡ p → y ≡ q → IsTrue (nat_eq (of_z w8 x) (of_z w8 y)) ↔ (p ≡ q)
same_small x y p q a b e f = (
  (λ same. sym e ∙ sym (small_as_byte 8 x (omega arith) a) ∙ ap (to_z w8) (eq_of (of_z w8 x) (of_z w8 y) same) ∙ small_as_byte 8 y (omega arith) b ∙ f),
  λ same. is_eq (of_z w8 x) (of_z w8 y) (ap (of_z w8) (e ∙ same ∙ sym f)),
)

pub determinant_as_bytes : (x y z w : ℤ) → IsEntry x → IsEntry y → IsEntry z → IsEntry w
    → to_z w8 (of_z w8 x) *ℤ to_z w8 (of_z w8 w) -ℤ to_z w8 (of_z w8 y) *ℤ to_z w8 (of_z w8 z) ≡ x *ℤ w -ℤ y *ℤ z
determinant_as_bytes x y z w a b c d = rw (entry_as_byte x a, entry_as_byte y b, entry_as_byte z c, entry_as_byte w d) refl

-- ---- Cramer's rule

pub spread_is : (d x y z w row_first row_other column_first column_other : ℤ)
    → spread d x y z w row_first row_other column_first column_other ≡ (d *ℤ (row_first *ℤ w -ℤ row_other *ℤ z)) *ℤ column_first +ℤ (d *ℤ (x *ℤ row_other -ℤ y *ℤ row_first)) *ℤ column_other
spread_is d x y z w row_first row_other column_first column_other = simp products (omega (arith, sums))
