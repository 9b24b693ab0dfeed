-- Separations of the rows P and columns Q: side one contains the lines for which the test is true.
use Rattle.std.proofs.Common.{◌≡◌, ◌⊎◌, ◌*ℤ◌, ◌-ℤ◌, ℕ, ℤ, pos, Bool, true, false}
use Rattle.cmr_base.specs.Signing.{IsSign}
use Rattle.cmr_base.specs.Separations.{spread}

-- a line of one side
abbrev pub On : (ℕ → Type 0) → (ℕ → Bool) → Bool → ℕ → Type 0
On P side s x = P x × (side x ≡ s)

-- a two-separation of any number of lines
pub record IsTwo (M : ℕ → ℕ → ℤ) (P Q : ℕ → Type 0) (sr sc : ℕ → Bool) (i j : ℕ) : Type 0 where
  pub row : On P sr false i
  pub column : On Q sc true j
  pub unit : IsSign (M i j)
  pub zero : (r c : ℕ) → On P sr true r → On Q sc false c → M r c ≡ pos 0
  pub product : (r c : ℕ) → On P sr false r → On Q sc true c → M r c ≡ M r j *ℤ (M i c *ℤ M i j)

-- the other line of the first connector: a column if the connector is flat, a row if it is tall
abbrev pub IsFirstOther : (ℕ → ℕ → ℤ) → (ℕ → Type 0) → (ℕ → Type 0) → (ℕ → Bool) → (ℕ → Bool) → Bool → ℕ → ℕ → ℕ → ℕ → ℕ → Type 0
IsFirstOther M P Q sr sc true i p k j q = On Q sc true q × (M i q ≡ pos 0) × IsSign (M k q)
IsFirstOther M P Q sr sc false i p k j q = On P sr true q × (M q p ≡ pos 0) × IsSign (M q j)

abbrev pub IsSecondOther : (ℕ → ℕ → ℤ) → (ℕ → Type 0) → (ℕ → Type 0) → (ℕ → Bool) → (ℕ → Bool) → Bool → ℕ → ℕ → ℕ → ℕ → ℕ → Type 0
IsSecondOther M P Q sr sc true i p k j o = On Q sc false o × (M k o ≡ pos 0) × IsSign (M i o)
IsSecondOther M P Q sr sc false i p k j o = On P sr false o × (M o j ≡ pos 0) × IsSign (M o p)

-- a three-separation of any number of lines
pub record IsThree (M : ℕ → ℕ → ℤ) (P Q : ℕ → Type 0) (sr sc : ℕ → Bool) (flat1 flat2 : Bool) (i p k j q o : ℕ) : Type 0 where
  pub row1 : On P sr true i
  pub column1 : On Q sc true p
  pub row2 : On P sr false k
  pub column2 : On Q sc false j
  pub unit_ip : IsSign (M i p)
  pub unit_kj : IsSign (M k j)
  pub unit_ij : IsSign (M i j)
  pub unit_kp : IsSign (M k p)
  pub other1 : IsFirstOther M P Q sr sc flat1 i p k j q
  pub other2 : IsSecondOther M P Q sr sc flat2 i p k j o
  pub right : (r c : ℕ) → On P sr true r → On Q sc false c → M r c ≡ M r j *ℤ (M i c *ℤ M i j)
  pub below : (r c : ℕ) → On P sr false r → On Q sc true c → M r c ≡ M r p *ℤ (M k c *ℤ M k p)

abbrev pub corners : (ℕ → ℕ → ℤ) → ℕ → ℕ → ℕ → ℕ → ℤ
corners M i p k j = (M i p *ℤ M i j) *ℤ (M k p *ℤ M k j)

-- the determinant of the entries in rows k and o and columns p and q
abbrev pub determinant : (ℕ → ℕ → ℤ) → ℕ → ℕ → ℕ → ℕ → ℤ
determinant M k o p q = M k p *ℤ M o q -ℤ M k q *ℤ M o p

-- a concentrated three-separation of any number of lines
pub record IsConcentrated (M : ℕ → ℕ → ℤ) (P Q : ℕ → Type 0) (sr sc : ℕ → Bool) (i p k j q o : ℕ) : Type 0 where
  pub row_i : On P sr true i
  pub column_p : On Q sc true p
  pub column_q : On Q sc true q
  pub row_k : On P sr false k
  pub row_o : On P sr false o
  pub column_j : On Q sc false j
  pub unit_ip : IsSign (M i p)
  pub unit_iq : IsSign (M i q)
  pub unit_kj : IsSign (M k j)
  pub unit_oj : IsSign (M o j)
  pub unit_determinant : IsSign (determinant M k o p q)
  pub zero : (r c : ℕ) → On P sr true r → On Q sc false c → M r c ≡ pos 0
  pub below : (r c : ℕ) → On P sr false r → On Q sc true c
      → M r c ≡ spread (determinant M k o p q) (M k p) (M k q) (M o p) (M o q) (M r p) (M r q) (M k c) (M o c)

-- the rows and the columns of a connector with the corner at (row, column) and one other line
abbrev pub ConnectorRow : Bool → ℕ → ℕ → ℕ → Type 0
ConnectorRow true row line r = r ≡ row
ConnectorRow false row line r = (r ≡ row) ⊎ (r ≡ line)

abbrev pub ConnectorColumn : Bool → ℕ → ℕ → ℕ → Type 0
ConnectorColumn true column line c = (c ≡ column) ⊎ (c ≡ line)
ConnectorColumn false column line c = c ≡ column

-- the lines of a side, and these lines
abbrev pub With : (ℕ → Type 0) → (ℕ → Bool) → Bool → (ℕ → Type 0) → ℕ → Type 0
With P side s More x = On P side s x ⊎ More x
