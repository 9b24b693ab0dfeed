-- Numbers that are -1, 0 or 1.
use Rattle.std.proofs.Common.{◌≡◌, ℕ, zero, suc, ℤ, List, [], ◌∷◌, get_or, pos, negsuc, neg_ℤ, ◌*ℤ◌, arith, w8, to_z, of_z}
use Rattle.std.specs.List.{AllByRecursion}
use Rattle.std.proofs.lemmas.Int.{ints}
use Rattle.cmr_base.specs.Matrix.{IsEntry}

pub zero_is_entry : IsEntry (pos 0)
zero_is_entry = record { low = omega (arith, ints); high = omega (arith, ints) }

pub negative_is_entry : (x : ℤ) → IsEntry x → IsEntry (neg_ℤ x)
negative_is_entry x a = let l = a.low in let h = a.high in record { low = omega (arith, ints); high = omega (arith, ints) }

pub product_is_entry : (x y : ℤ) → IsEntry x → IsEntry y → IsEntry (x *ℤ y)
product_is_entry (pos zero) y a b = record { low = omega (arith, ints); high = omega (arith, ints) }
product_is_entry (pos (suc zero)) y a b = record { low = omega (arith, ints, b.low); high = omega (arith, ints, b.high) }
product_is_entry (pos (suc (suc n))) y a b = absurd (let h = a.high in omega (arith, ints))
product_is_entry (negsuc zero) y a b = record { low = omega (arith, ints, b.low, b.high); high = omega (arith, ints, b.low, b.high) }
product_is_entry (negsuc (suc n)) y a b = absurd (let l = a.low in omega (arith, ints))

-- each cell is an entry, as is the default past the end
pub entry_at : (cells : List ℤ) → AllByRecursion IsEntry cells → (k : ℕ) → IsEntry (get_or cells k (pos 0))
entry_at [] all k = zero_is_entry
entry_at (x ∷ xs) all zero = all.0
entry_at (x ∷ xs) all (suc k) = entry_at xs all.1 k

-- an `i8` represents each entry
pub entry_as_byte : (x : ℤ) → IsEntry x → to_z w8 (of_z w8 x) ≡ x
entry_as_byte x small = let l = small.low in let h = small.high in omega (arith, ints)
