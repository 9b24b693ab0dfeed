-- Small generated matrices.
use Rattle.std.proofs.Common.{◌≡◌, ◌∷◌, [], refl}
use Rattle.cmr_base.specs.Matrix.{height}
use Rattle.cmr_base.specs.Draws.{draws}
use Rattle.generate.specs.Generated.{generated_network, circulant_sum}

pub three_arcs : generated_network 3 7 ≡ record {
  arcs = record { tail = 0; head = 1 } ∷ record { tail = 1; head = 2 } ∷ record { tail = 1; head = 3 } ∷ [];
  walks = record { tail = 1; head = 0 } ∷ record { tail = 1; head = 2 } ∷ record { tail = 2; head = 1 } ∷ [];
}
three_arcs = refl

pub nine_signs : (draws 9 2 0 7).0 ≡ 1 ∷ 1 ∷ 0 ∷ 1 ∷ 0 ∷ 1 ∷ 0 ∷ 0 ∷ 1 ∷ []
nine_signs = refl

pub nine_rows : height (circulant_sum 2) ≡ 9
nine_rows = refl
