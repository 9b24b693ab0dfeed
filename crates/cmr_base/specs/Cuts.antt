-- A tree in terms of its arcs only: each arc has two sides, on which the other arcs and the ends of the columns' paths lie.
use Rattle.std.specs.Prelude.{◌≡◌, ◌≢◌, ◌⊎◌, ◌-ℤ◌, ℕ, ℤ, pos, Bool, true, false, not}
use Rattle.cmr_base.specs.Matrix.{is_nonzero}

-- exactly one is true
abbrev pub differ : Bool → Bool → Bool
differ true b = not b
differ false b = b

-- The arcs are the rows in R. `side r s` is the side of arc r on which arc s lies. `lies end r c` is the side of arc r on which an
-- end of column c lies: the first end if `end` is true, the last end otherwise. Of two arcs r and s, each end lies on the side of r
-- that contains s, or on the side of s that contains r. The same is true of each third arc. A column uses the arcs whose sides
-- separate its ends.
pub record IsCuts (M : ℕ → ℕ → Bool) (R : ℕ → Type 0) (side : ℕ → ℕ → Bool) (lies : Bool → ℕ → ℕ → Bool) : Type 0 where
  pub meet : (end : Bool) (r s c : ℕ) → R r → R s → r ≢ s → (lies end r c ≡ side r s) ⊎ (lies end s c ≡ side s r)
  pub three : (r s t : ℕ) → R r → R s → R t → r ≢ s → r ≢ t → s ≢ t → (side r t ≡ side r s) ⊎ (side s t ≡ side s r)
  pub uses : (r c : ℕ) → R r → M r c ≡ differ (lies true r c) (lies false r c)

-- the support has sides of this kind
pub record HasCuts (M : ℕ → ℕ → Bool) (R : ℕ → Type 0) : Type 0 where
  pub side : ℕ → ℕ → Bool
  pub lies : Bool → ℕ → ℕ → Bool
  pub cuts : IsCuts M R side lies

abbrev pub bit : Bool → ℤ
bit true = pos 1
bit false = pos 0

-- the same with directions of arcs: a column leads from its first end to its last end, and uses an arc forwards if it leaves side
-- true
pub record HasSignedCuts (M : ℕ → ℕ → ℤ) (R : ℕ → Type 0) : Type 0 where
  pub side : ℕ → ℕ → Bool
  pub lies : Bool → ℕ → ℕ → Bool
  pub cuts : IsCuts (λ r c. is_nonzero (M r c)) R side lies
  pub signed : (r c : ℕ) → R r → M r c ≡ bit (lies true r c) -ℤ bit (lies false r c)
