-- Row r of the rows P and the columns Q, and the reason why it is reducible.
use Rattle.std.proofs.Common.{◌≡◌, ◌≢◌, ◌⊎◌, ℕ, ℤ, pos, neg_ℤ}
use Rattle.cmr_base.specs.Signing.{IsSign}

abbrev pub IsZeroRow : (ℕ → ℕ → ℤ) → (ℕ → Type 0) → ℕ → Type 0
IsZeroRow M Q r = (c : ℕ) → Q c → M r c ≡ pos 0

abbrev pub IsUnitRow : (ℕ → ℕ → ℤ) → (ℕ → Type 0) → ℕ → Type 0
IsUnitRow M Q r = (c : ℕ) × Q c × IsSign (M r c) × ((x : ℕ) → Q x → x ≢ c → M r x ≡ pos 0)

abbrev pub IsCopyRow : (ℕ → ℕ → ℤ) → (ℕ → Type 0) → (ℕ → Type 0) → ℕ → Type 0
IsCopyRow M P Q r = (s : ℕ) × P s × (s ≢ r) × ((c : ℕ) → Q c → M r c ≡ M s c)

abbrev pub IsNegativeRow : (ℕ → ℕ → ℤ) → (ℕ → Type 0) → (ℕ → Type 0) → ℕ → Type 0
IsNegativeRow M P Q r = (s : ℕ) × P s × (s ≢ r) × ((c : ℕ) → Q c → M r c ≡ neg_ℤ (M s c))

abbrev pub IsReducibleRow : (ℕ → ℕ → ℤ) → (ℕ → Type 0) → (ℕ → Type 0) → ℕ → Type 0
IsReducibleRow M P Q r = IsZeroRow M Q r ⊎ (IsUnitRow M Q r ⊎ (IsCopyRow M P Q r ⊎ IsNegativeRow M P Q r))

abbrev pub crossed : (ℕ → ℕ → ℤ) → ℕ → ℕ → ℤ
crossed M c r = M r c

-- the lines without this line
abbrev pub But : (ℕ → Type 0) → ℕ → ℕ → Type 0
But P r x = P x × (x ≢ r)
