-- A repeated step, as its loop sees it after i steps.
use Rattle.std.proofs.Common.{◌≡◌, ◌<◌, ◌≤◌, ◌+◌, ◌-◌, ◌∙◌, ℕ, suc, Result, Ok, Err, refl, sym, arith}
use Rattle.text_fields.specs.TextWords.{Text}
use Rattle.text_fields.specs.Reading.{Fault, times, Fails}
use Rattle.text_fields.specs.declared.error.FieldError.{FieldError}
use Rattle.text_fields.specs.declared.error.FieldError.TheVariants as errors

module _ {S K : Type 0} (step : S → Text → Result (S × Text) (Fault K)) (count i : ℕ) (state : S) (text : Text) (total : Result (S × Text) (Fault K)) where
  -- no step is done
  pub all_to_come : total ≡ times step count state text → times step (count - 0) state text ≡ total
  all_to_come e = let all : count - 0 ≡ count = omega arith in rw all (sym e)

  -- one step is made
  pub goes_on : i < count → (next : S) (rest : Text) → step state text ≡ Ok (next, rest) → times step (count - i) state text ≡ total → times step (count - (i + 1)) next rest ≡ total
  goes_on lt next rest made before =
      let k : count - i ≡ suc (count - (i + 1)) = omega arith in
      let one : times step (count - i) state text ≡ times step (count - (i + 1)) next rest = rw (k, made) refl in
      sym one ∙ before

  fault_ends : i < count → (f : Fault K) → step state text ≡ Err f → times step (count - i) state text ≡ Err f
  fault_ends lt f made = let k : count - i ≡ suc (count - (i + 1)) = omega arith in rw (k, made) refl

  -- the fault of a step is the fault of the repetition
  pub ends : i < count → (e : FieldError K) → Fails e (step state text) → times step (count - i) state text ≡ total → Fails e total
  ends lt errors.Memory made before = tt
  ends lt (errors.Fault kind place) made before = sym before ∙ fault_ends lt (kind, place) made

  -- all steps are done
  pub is_done : count ≤ i → times step (count - i) state text ≡ total → total ≡ Ok (state, text)
  is_done le before =
      let k : count - i ≡ 0 = omega arith in
      let one : times step (count - i) state text ≡ Ok (state, text) = rw k refl in
      sym before ∙ one
