-- Each cycle place has the lines of its cycle as increasing lists.
use Rattle.std.proofs.Common.{ℕ, zero, suc, ◌≡◌, ◌++◌, ◌⊎◌, List, [], ◌∷◌, inl, inr, refl, arith, subst, add-one}
use Rattle.std.proofs.lemmas.Bool.{cases_lt}
use Rattle.cmr_base.specs.Matrix.{Matrix, height, IsMatrix}
use Rattle.cmr_base.specs.Members.{IsIn}
use Rattle.cmr_base.specs.CyclePlaces.{cycle_columns, cycle_rows}
use Rattle.cmr_base.specs.declared.line_set.LineSet.{LineSet}
use Rattle.cmr_base.proofs.RowLists.{in_or_not}
use Rattle.camion_sign.specs.FaultLines.{IsBuilt}
use Rattle.camion_sign.specs.SignOrder.{IsCycleLines, IsPlaceOf}
use Rattle.camion_sign.proofs.ForcedCycles.{exchanged_lines}
use Rattle.camion_sign.proofs.LineLists.{built_up, cycle_lines_are, pushed}

-- the lines below a bound that are in a list, in increasing order
listed_below : (lines : List ℕ) (bound : ℕ) → (found : List ℕ) × IsBuilt (λ x. IsIn x lines) bound found
listed_below lines zero = ([], record { increasing = λ k l. omega (arith, l); members = λ y. ((λ h. absurd h), (λ h. absurd (let l = h.0 in omega arith))) })
listed_below lines (suc bound) = go (listed_below lines bound) (in_or_not bound lines)
  where
    go : (found : List ℕ) × IsBuilt (λ x. IsIn x lines) bound found → IsIn bound lines ⊎ (¬ (IsIn bound lines)) → (found : List ℕ) × IsBuilt (λ x. IsIn x lines) (suc bound) found
    go (found, built) (inl here) = (found ++ bound ∷ [], subst (λ n. IsBuilt (λ x. IsIn x lines) n (found ++ bound ∷ [])) (add-one bound) (pushed (λ x. IsIn x lines) bound found (found ++ bound ∷ []) built here refl))
    go (found, built) (inr none) = (found, built_up lines found bound (suc bound) (omega arith) (λ x h l. elim (cases_lt x bound) [ inl k ↦ k | inr k ↦ absurd (none (let e : x ≡ bound = omega arith in subst (λ y. IsIn y lines) e h)) ]) built)

pub some_cycle : (m : Matrix) (t c d : ℕ) → IsMatrix m → (path : List ℕ) × IsPlaceOf m t c d path → (cycle : LineSet) × IsCycleLines m t c d cycle
some_cycle m t c d is (path, inl place) =
    let rows = listed_below (cycle_rows t path) (height m) in
    let columns = listed_below (cycle_columns c d path) m.width in
    (record { rows = rows.0; columns = columns.0 }, cycle_lines_are m t c d path path path rows.0 columns.0 is place refl refl refl refl rows.1 columns.1)
some_cycle m t c d is (path, inr place) =
    let rows = listed_below (cycle_rows t path) (height m) in
    let columns = listed_below (cycle_columns d c path) m.width in
    (record { rows = rows.0; columns = columns.0 }, exchanged_lines m t d c (record { rows = rows.0; columns = columns.0 }) (cycle_lines_are m t d c path path path rows.0 columns.0 is place refl refl refl refl rows.1 columns.1))
