-- Entries as signed bytes.
use Rattle.std.proofs.Common.{◌≡◌, ◌∙◌, ap, ℤ, ◌*ℤ◌, ◌-ℤ◌, w8, of_z, to_z}
use mathlib.Core.Path.{ap₂}
use Rattle.cmr_base.specs.Matrix.{IsEntry}
use Rattle.cmr_base.proofs.Integers.{mul_assoc}
pub use Rattle.cmr_base.proofs.EntryBytes.{kept_entry, nonzero_byte, product_bytes, zero_byte}

-- an entry after the pivot, from the product of the pivot's entry and the entry below it
pub reduced_bytes : (a p q x f z : ℤ) → IsEntry a → IsEntry p → IsEntry q → IsEntry x → IsEntry f → f ≡ to_z w8 (of_z w8 a) *ℤ to_z w8 (of_z w8 p)
    → z ≡ to_z w8 (of_z w8 x) -ℤ to_z w8 (of_z w8 f) *ℤ to_z w8 (of_z w8 q) → z ≡ x -ℤ a *ℤ (p *ℤ q)
reduced_bytes a p q x f z ha hp hq hx hf e g =
    g ∙ ap₂ (λ (b c : ℤ). b -ℤ c) (kept_entry x hx) (ap₂ (λ (b c : ℤ). b *ℤ c) (kept_entry f hf ∙ e ∙ ap₂ (λ (b c : ℤ). b *ℤ c) (kept_entry a ha) (kept_entry p hp)) (kept_entry q hq))
    ∙ ap (λ (b : ℤ). x -ℤ b) (mul_assoc a p q)
