-- A free entry keeps the rule of chains: if signed entries linked its row and its column, some one of the row would be forced.
use Rattle.std.proofs.Common.{◌≡◌, ◌≢◌, ◌<◌, ◌⊎◌, ℕ, ℤ, pos, List, [], ◌∷◌, inl, inr, refl, subst, arith}
use Rattle.std.proofs.lemmas.Bool.{cases_lt}
use Rattle.cmr_base.specs.Matrix.{Matrix, entry, IsMatrix}
use Rattle.cmr_base.specs.Signing.{IsSign}
use Rattle.cmr_base.specs.CyclePlaces.{IsPath}
use Rattle.cmr_base.specs.declared.line.Line.{Line}
use Rattle.cmr_base.specs.declared.line.Line.TheVariants.{Row, Column}
use Rattle.ghouila.proofs.SignedSums.{zero_or_sign}
use Rattle.ghouila.proofs.SignProducts.{sign_nonzero}
use Rattle.ghouila.proofs.LeastLists.{least_list}
use Rattle.ghouila.proofs.Routes.{reversed}
use Rattle.cmr_base.specs.Trees.{IsBinary}
use Rattle.chains.specs.declared.step.SignStep.{SignStep}
use Rattle.chains.specs.declared.step.SignStep.TheVariants.{Free, Forced}
use Rattle.chains.specs.SignSteps.{AreSigns, IsUnsignedOne, LeadTo, signed_by}
use Rattle.camion_sign.specs.SignOrder.{IsRowsTurn, IsNextSign}
use Rattle.camion_sign.specs.Signings.{NoneForced}
use Rattle.chains.specs.Chains.{AreJoined, JoinsTo, AreLinked, KeepsRule}
use Rattle.chains.proofs.GivenSigns.{signs_more}
use Rattle.camion_sign.proofs.ForcedCycles.{forced_step}

module _ (a s : Matrix) (is : IsMatrix a) (signs : AreSigns a s) (t : ℕ) (turn : IsRowsTurn a s t) (none : NoneForced a s t) where
  one_of : (i j : ℕ) → entry s i j ≢ pos 0 → entry a i j ≢ pos 0
  one_of i j h z = h (signs.inside i j z)

  -- a path from a one without sign to a signed one would force it
  no_path : (j y : ℕ) (lines : List ℕ) → IsUnsignedOne a s t j → entry s t y ≢ pos 0 → IsPath (entry a) t j y lines → ⊥
  no_path j y lines here signed path = elim (cases_lt j y) [
    | inl lt ↦ least_list (IsPath (entry a) t j y) lines path (λ q g least. none j here y (signed, (q, inr (record { order = lt; first = here.one; last = one_of t y signed; is_path = g; least = least }))))
    | inr ge ↦ elim (cases_lt y j) [
      | inl lt ↦ let back = reversed (entry a) is.small t j y lines path in
          least_list (IsPath (entry a) t y j) back.0 back.1 (λ q g least. none j here y (signed, (q, inl (record { order = lt; first = one_of t y signed; last = here.one; is_path = g; least = least }))))
      | inr ge' ↦ let e : j ≡ y = omega arith in signed (subst (λ x. entry s t x ≡ pos 0) e here.no_sign)
    ]
  ]

  -- from each column of the row a path leads to a signed one
  abbrev FromRow : ℕ → Type 0
  FromRow i = (y : ℕ) × (entry s t y ≢ pos 0) × ((x : ℕ) → entry a i x ≢ pos 0 → (lines : List ℕ) × IsPath (entry a) t x y lines)

  abbrev FromColumn : ℕ → Type 0
  FromColumn j = (y : ℕ) × (entry s t y ≢ pos 0) × ((lines : List ℕ) × IsPath (entry a) t j y lines)

  -- the lines that signed entries link to row t
  abbrev IsNear : Line → Type 0
  IsNear (Row i) = (i ≡ t) ⊎ ((i < t) × FromRow i)
  IsNear (Column j) = (entry s t j ≢ pos 0) ⊎ ((entry a t j ≡ pos 0) × FromColumn j)

  next_near : (x y : Line) → AreJoined s x y → IsNear x → IsNear y
  next_near (Row i) (Row k) joined near = absurd joined
  next_near (Column j) (Column k) joined near = absurd joined
  next_near (Row i) (Column j) joined (inl e) = inl (subst (λ x. entry s x j ≢ pos 0) e joined)
  next_near (Row i) (Column j) joined (inr (l, (y, signed, from))) = go (zero_or_sign (entry a t j) (is.small t j)) (zero_or_sign (entry s t j) (signs.ternary.small t j))
    where
      path : (lines : List ℕ) × IsPath (entry a) t j y lines
      path = from j (one_of i j joined)

      go : (entry a t j ≡ pos 0) ⊎ IsSign (entry a t j) → (entry s t j ≡ pos 0) ⊎ IsSign (entry s t j) → IsNear (Column j)
      go (inl z) w = inr (z, (y, signed, path))
      go (inr u) (inr v) = inl (sign_nonzero (entry s t j) v)
      go (inr u) (inl z) = absurd (no_path j y path.0 (record { one = sign_nonzero (entry a t j) u; no_sign = z }) signed path.1)
  next_near (Column j) (Row i) joined near = elim (cases_lt i t) [
    | inl lt ↦ inr (lt, from lt near)
    | inr ge ↦ elim (cases_lt t i) [
      | inl later ↦ absurd (joined (turn.later i j later))
      | inr ge' ↦ inl (omega arith)
    ]
  ]
    where
      from : i < t → (entry s t j ≢ pos 0) ⊎ ((entry a t j ≡ pos 0) × FromColumn j) → FromRow i
      from l (inl signed) = (j, signed, λ x one. (i ∷ [], (l, one, one_of i j joined)))
      from l (inr (z, (y, signed, (lines, path)))) = (y, signed, λ x one. (i ∷ j ∷ lines, (l, one, one_of i j joined, z, path)))

  all_near : (lines : List Line) (x y : Line) → JoinsTo s x lines y → IsNear x → IsNear y
  all_near [] x y e near = subst IsNear e near
  all_near (k ∷ lines) x y (joined, rest) near = all_near lines k y rest (next_near x k joined near)

  pub apart : (c : ℕ) → IsUnsignedOne a s t c → ¬ (AreLinked s (Row t) (Column c))
  apart c here (lines, joins) = elim (all_near lines (Row t) (Column c) joins (inl refl)) [
    | inl signed ↦ signed here.no_sign
    | inr (z, w) ↦ here.one z
  ]

-- the steps of a signing are the steps of a chain
keeps_rule : (a s : Matrix) → IsMatrix a → IsBinary a → AreSigns a s → (step : SignStep) (v : ℤ) → IsNextSign a s step v → KeepsRule a s step v
keeps_rule a s is binary signs (Free row column) v (turn, next, e) = (record { here = next.here; apart = apart a s is signs row turn next.unforced column next.here }, e)
keeps_rule a s is binary signs (Forced row column cycle) v (turn, next) = forced_step a s is binary signs row column cycle v turn next

signs_by : (a s : Matrix) → IsMatrix a → AreSigns a s → (step : SignStep) (v : ℤ) → IsNextSign a s step v → AreSigns a (signed_by s step v)
signs_by a s is signs (Free row column) v (turn, next, e) = signs_more a s is.rectangular signs row column v next.here.one (inl e)
signs_by a s is signs (Forced row column cycle) v (turn, next) = signs_more a s is.rectangular signs row column v next.here.one next.is_sign

pub chain_steps : (a : Matrix) → IsMatrix a → IsBinary a → (steps : List SignStep) (s end : Matrix) → AreSigns a s → LeadTo (IsNextSign a) s steps end → LeadTo (KeepsRule a) s steps end
chain_steps a is binary [] s end signs e = e
chain_steps a is binary (step ∷ steps) s end signs (v, next, rest) = (v, keeps_rule a s is binary signs step v next, chain_steps a is binary steps (signed_by s step v) end (signs_by a s is signs step v next) rest)
