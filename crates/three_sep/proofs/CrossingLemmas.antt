-- Good seeds of the forms whose blocks are both products.
use Rattle.std.proofs.Common.{ℕ, ℤ, ◌≡◌, refl, subst}
use Rattle.cmr_base.specs.declared.separation.Connector.{Connector}
use Rattle.cmr_base.specs.declared.separation.Form.{Form}
use Rattle.cmr_base.specs.declared.separation.Form.TheVariants.{Delta, YForm, Mixed, Concentrated}
use Rattle.cmr_base.specs.Separations.{AreCrossing, AreTied, Lines, product_at, upper_block, lower_block, first_is_flat, second_is_flat}
use Rattle.cmr_base.specs.Seeds.{IsClosed}
use Rattle.three_sep.specs.NumberedSeeds.{IsCrossing}

module _ (M : ℕ → ℕ → ℤ) (one two : Connector) where
  pub crossing_from : (form : Form) → IsCrossing form → AreTied M form one two → AreCrossing M (first_is_flat form) (second_is_flat form) one two
  crossing_from Delta c tied = tied
  crossing_from YForm c tied = tied
  crossing_from Mixed c tied = tied
  crossing_from Concentrated c tied = absurd c

  pub crossing_to : (form : Form) → IsCrossing form → AreCrossing M (first_is_flat form) (second_is_flat form) one two → AreTied M form one two
  crossing_to Delta c crossing = crossing
  crossing_to YForm c crossing = crossing
  crossing_to Mixed c crossing = crossing
  crossing_to Concentrated c crossing = absurd c

  pub upper_crossing : (form : Form) → IsCrossing form → upper_block M form one two ≡ product_at M one.row two.column
  upper_crossing Delta c = refl
  upper_crossing YForm c = refl
  upper_crossing Mixed c = refl
  upper_crossing Concentrated c = absurd c

  pub lower_crossing : (form : Form) → IsCrossing form → lower_block M form one two ≡ product_at M two.row one.column
  lower_crossing Delta c = refl
  lower_crossing YForm c = refl
  lower_crossing Mixed c = refl
  lower_crossing Concentrated c = absurd c

  pub closed_crossing : (m n : ℕ) (S : Lines) (form : Form) → IsCrossing form → IsClosed m n M (upper_block M form one two) (lower_block M form one two) S
      → IsClosed m n M (product_at M one.row two.column) (product_at M two.row one.column) S
  closed_crossing m n S form c closed =
      subst (λ (u : ℕ → ℕ → ℤ). IsClosed m n M u (product_at M two.row one.column) S) (upper_crossing form c) (subst (λ (l : ℕ → ℕ → ℤ). IsClosed m n M (upper_block M form one two) l S) (lower_crossing form c) closed)
