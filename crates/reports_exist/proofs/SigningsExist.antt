-- A matrix has a signing by Camion.
use Rattle.std.proofs.Common.{◌≡◌, ◌≢◌, ◌<◌, ◌+ℤ◌, ◌++◌, ◌∙◌, ◌⊎◌, inl, inr, ℕ, zero, suc, ℤ, pos, negsuc, List, [], ◌∷◌, Ok, refl, sym, subst, arith}
use Rattle.std.proofs.lemmas.Bool.{cases_eq}
use Rattle.cmr_base.specs.declared.line_set.LineSet.{LineSet}
use Rattle.cmr_base.specs.CyclePlaces.{IsCyclePlace, cycle_columns, cycle_rows}
use Rattle.cmr_base.specs.LineSets.{submatrix_sum}
use Rattle.cmr_base.specs.Matrix.{Matrix, IsMatrix, entry, height, with_entry}
use Rattle.cmr_base.specs.Members.{IsIn}
use Rattle.cmr_base.specs.Signing.{IsSign}
use Rattle.cmr_base.specs.Sums.{IsOdd}
use Rattle.cmr_base.specs.Supports.{HaveOneSupport}
use Rattle.cmr_base.proofs.GrownSets.{int_dec}
use Rattle.cmr_base.proofs.Integers.{sums}
use Rattle.cmr_base.proofs.Parity.{even_or_odd}
use Rattle.ghouila.proofs.SignsUnique.{column_in, row_in}
use Rattle.chains.specs.declared.step.SignStep.{SignStep}
use Rattle.chains.specs.declared.step.SignStep.TheVariants.{Forced, Free}
use Rattle.chains.specs.SignSteps.{AreSigns, IsUnsignedOne, IsZeroModFour, LeadTo, unsigned}
use Rattle.chains.proofs.ChainViolators.{entry-unsigned, unsigned_signs}
use Rattle.chains.proofs.GivenSigns.{keeps, lead_more, one_more, signs_more}
use Rattle.camion_sign.specs.SignOrder.{IsCycleLines, IsForcedBy, IsNextSign, IsPlaceOf, IsRowsTurn, IsSignedBy}
use Rattle.camion_sign.specs.Signings.{unsigned_before}
use Rattle.camion_sign.proofs.ForcedCycles.{exchanged, odd_sum, sum_more}
use Rattle.camion_sign.proofs.LineLists.{cycle_lines_are}
use Rattle.camion_sign.proofs.SigningStates.{fewer_unsigned}
use Rattle.decompositions_exist.proofs.CollectedLines.{collected}
use Rattle.decompositions_exist.proofs.LeastKeys.{IsLeast, least_number}
use Rattle.decompositions_exist.proofs.NotExcluded.{NotExcluded, one_of_two}

-- ---- the sign that closes a cycle

closing : (z : ℤ) → IsOdd z → (v : ℤ) × IsSign v × IsZeroModFour (z +ℤ v)
closing z odd = go (even_or_odd odd.0)
  where
    go : ((k : ℤ) × (odd.0 ≡ k +ℤ k)) ⊎ ((k : ℤ) × (odd.0 +ℤ pos 1 ≡ k +ℤ k)) → (v : ℤ) × IsSign v × IsZeroModFour (z +ℤ v)
    go (inl (k, e)) = let f = odd.1 in (pos 1, inl refl, (k, omega (arith, sums, e, f)))
    go (inr (k, e)) = let f = odd.1 in (negsuc 0, inr refl, (k +ℤ negsuc 0, omega (arith, sums, e, f)))

module _ (a : Matrix) (is : IsMatrix a) where
  -- ---- the lines of a cycle

  lines_of_place : (row c d : ℕ) (path : List ℕ) → IsCyclePlace (entry a) row c d path → NotExcluded ((cycle : LineSet) × IsCycleLines a row c d cycle)
  lines_of_place row c d path place none = collected (λ x. IsIn x (cycle_rows row path)) (height a) (λ rows. collected (λ x. IsIn x (cycle_columns c d path)) a.width (λ columns.
      none (record { rows = rows.0; columns = columns.0 }, cycle_lines_are a row c d path path path rows.0 columns.0 is place refl refl refl refl rows.1 columns.1)))

  lines_of_cycle : (row c d : ℕ) (path : List ℕ) → IsPlaceOf a row c d path → NotExcluded ((cycle : LineSet) × IsCycleLines a row c d cycle)
  lines_of_cycle row c d path (inl place) none = lines_of_place row c d path place none
  lines_of_cycle row c d path (inr place) none = lines_of_place row d c path place (λ cycle. none (cycle.0, exchanged {E = ℕ} a row d c (Ok cycle.0) cycle.1))

  -- ---- the next sign

  -- a step at a row that gives a sign to a one
  record IsStepAt (row : ℕ) (s : Matrix) : Type 0 where
    step : SignStep
    column : ℕ
    sign : ℤ
    here : IsUnsignedOne a s row column
    is_sign : IsSign sign
    next : IsNextSign a s step sign
    more : (steps : List SignStep) → LeadTo (IsNextSign a) (unsigned a) steps s → LeadTo (IsNextSign a) (unsigned a) (steps ++ step ∷ []) (with_entry s row column sign)

  -- a one without sign that is forced
  record IsForcedOne (row : ℕ) (s : Matrix) (column : ℕ) : Type 0 where
    here : IsUnsignedOne a s row column
    partner : ℕ
    forces : IsForcedBy a s row column partner

  module _ (row : ℕ) (s : Matrix) (signs : AreSigns a s) (turn : IsRowsTurn a s row) where
    forced_step : (column : ℕ) → IsLeast (IsForcedOne row s) column → NotExcluded (IsStepAt row s)
    forced_step column least none = least_number (IsForcedBy a s row column) least.has.partner least.has.forces (λ partner.
        let forces = partner.1.has in
        lines_of_cycle row partner.0 column forces.1.0 forces.1.1 (λ cycle.
        let odd = odd_sum a s is signs row partner.0 column turn least.has.here forces.0 cycle.0 cycle.1 in
        let v = closing (submatrix_sum s cycle.0.rows cycle.0.columns) odd in
        let sum = sum_more a s is signs row partner.0 column turn least.has.here forces.0 cycle.0 cycle.1 v.0 in
        let rule : IsNextSign a s (Forced row column cycle.0) v.0 = (
          turn,
          record {
            here = least.has.here;
            partner = partner.0;
            signed = forces.0;
            cycle_is = cycle.1;
            least_column = λ d l one c forced. least.least d l (record { here = one; partner = c; forces = forced });
            least_partner = partner.1.least;
            is_sign = v.1;
            four = subst IsZeroModFour (sym sum) v.2;
          },
        ) in
        none (record {
          step = Forced row column cycle.0;
          column = column;
          sign = v.0;
          here = least.has.here;
          is_sign = v.1;
          next = rule;
          more = λ steps lead. lead_more (IsNextSign a) (unsigned a) s steps (Forced row column cycle.0) v.0 lead rule;
        })))

    free_step : (column : ℕ) → IsLeast (IsUnsignedOne a s row) column → ((d : ℕ) → IsUnsignedOne a s row d → (c : ℕ) → ¬ (IsForcedBy a s row d c)) → IsStepAt row s
    free_step column least unforced =
        let rule : IsNextSign a s (Free row column) (pos 1) = (turn, record { here = least.has; least = least.least; unforced = unforced }, refl) in
        record {
          step = Free row column;
          column = column;
          sign = pos 1;
          here = least.has;
          is_sign = inl refl;
          next = rule;
          more = λ steps lead. lead_more (IsNextSign a) (unsigned a) s steps (Free row column) (pos 1) lead rule;
        }

    next_step : (column : ℕ) → IsUnsignedOne a s row column → NotExcluded (IsStepAt row s)
    next_step column one none = one_of_two ((d : ℕ) × IsForcedOne row s d) (λ either. elim either [
      | inl some ↦ least_number (IsForcedOne row s) some.0 some.1 (λ least. forced_step least.0 least.1 none)
      | inr unforced ↦ least_number (IsUnsignedOne a s row) column one (λ least.
          none (free_step least.0 least.1 (λ d here c forces. unforced (d, record { here = here; partner = c; forces = forces }))))
    ])

  -- ---- the signs of a row, and of all rows

  -- the rows before this one are signed by these steps
  record IsSignedTo (row : ℕ) : Type 0 where
    s : Matrix
    steps : List SignStep
    signs : AreSigns a s
    turn : IsRowsTurn a s row
    lead : LeadTo (IsNextSign a) (unsigned a) steps s

  after_step : (row : ℕ) (state : IsSignedTo row) → IsStepAt row state.s → IsSignedTo row
  after_step row state step =
      let more = one_more a state.s is.rectangular state.signs row step.column step.sign step.here.one in
      record {
        s = with_entry state.s row step.column step.sign;
        steps = state.steps ++ step.step ∷ [];
        signs = signs_more a state.s is.rectangular state.signs row step.column step.sign step.here.one step.is_sign;
        turn = record {
          earlier = λ i j l one. keeps state.s (with_entry state.s row step.column step.sign) row step.column step.sign step.is_sign more i j (state.turn.earlier i j l one);
          later = λ i j l. more.other i j (inl (λ e. omega (arith, l, e))) ∙ state.turn.later i j l;
        };
        lead = step.more state.steps state.lead;
      }

  fewer_after : (row : ℕ) (state : IsSignedTo row) (step : IsStepAt row state.s) → unsigned_before a (after_step row state step).s row a.width < unsigned_before a state.s row a.width
  unfolding after_step
  fewer_after row state step =
      fewer_unsigned a state.s (with_entry state.s row step.column step.sign) row step.column step.sign step.is_sign
      (one_more a state.s is.rectangular state.signs row step.column step.sign step.here.one) step.here a.width (column_in a row step.column is.rectangular step.here.one)

  row_signed : (row bound : ℕ) (state : IsSignedTo row) → unsigned_before a state.s row a.width < bound → NotExcluded (IsSignedTo (suc row))
  row_signed row zero state l none = omega (arith, l)
  row_signed row (suc bound) state l none = one_of_two ((column : ℕ) × IsUnsignedOne a state.s row column) (λ either. elim either [
    | inl some ↦ next_step row state.s state.signs state.turn some.0 some.1 (λ step. let f = fewer_after row state step in row_signed row bound (after_step row state step) (omega (arith, l, f)) none)
    | inr all ↦ none (record { s = state.s; steps = state.steps; signs = state.signs; turn = next_turn row state.s state.turn (λ column one. all (column, one)); lead = state.lead })
  ])
    where
      next_turn : (row : ℕ) (s : Matrix) → IsRowsTurn a s row → ((column : ℕ) → ¬ (IsUnsignedOne a s row column)) → IsRowsTurn a s (suc row)
      next_turn row s turn all = record {
        earlier = λ i j l one. elim (cases_eq i row) [
          | inl e ↦ λ z. all j (record { one = subst (λ k. entry a k j ≢ pos 0) e one; no_sign = subst (λ k. entry s k j ≡ pos 0) e z })
          | inr apart ↦ turn.earlier i j (omega (arith, l, apart)) one
        ];
        later = λ i j l. turn.later i j (omega (arith, l));
      }

  rows_signed : (row : ℕ) → NotExcluded (IsSignedTo row)
  rows_signed zero none = none (record {
    s = unsigned a;
    steps = [];
    signs = unsigned_signs a;
    turn = record { earlier = λ i j l. absurd (omega (arith, l)); later = λ i j l. entry-unsigned a i j };
    lead = refl;
  })
  rows_signed (suc row) none = rows_signed row (λ state. row_signed row (suc (unsigned_before a state.s row a.width)) state (omega arith) none)

  -- the steps, and the signed matrix
  pub record IsWholeSigning (steps : List SignStep) (signed : Matrix) : Type 0 where
    pub signs : AreSigns a signed
    pub by_camion : IsSignedBy a steps signed
    pub one_support : HaveOneSupport a signed

  pub signing_exists : NotExcluded ((steps : List SignStep) × (signed : Matrix) × IsWholeSigning steps signed)
  signing_exists none = rows_signed (height a) (λ state. none (
    state.steps,
    state.s,
    record {
      signs = state.signs;
      by_camion = record { steps_are = state.lead; all_signed = λ i j one. state.turn.earlier i j (row_in a i j one) one };
      one_support = record {
        height_same = sym state.signs.same_height;
        width_same = sym state.signs.same_width;
        zeros_same = λ i j. (
          state.signs.inside i j,
          λ z. elim (int_dec (entry a i j) (pos 0)) [
            | inl e ↦ e
            | inr one ↦ absurd (state.turn.earlier i j (row_in a i j one) one z)
          ],
        );
      };
    },
  ))
