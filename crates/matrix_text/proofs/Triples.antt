-- Reading triples one after another.
use Rattle.std.proofs.Common.{◌≡◌, ◌∙◌, ℕ, ℤ, Bool, false, List, [], ◌∷◌, ◌++◌, Ok, refl, sym, subst}
use Rattle.text_fields.specs.TextWords.{Text}
use Rattle.text_fields.specs.Result.{◌>>=◌}
use Rattle.text_fields.specs.Reading.{field, Fails}
use Rattle.text_fields.proofs.Fields.{bind_fails}
use Rattle.text_fields.specs.declared.error.FieldError.{FieldError}
use Rattle.matrix_text.specs.declared.error.TextKind.{TextKind}
use Rattle.matrix_text.specs.declared.error.TextKind.TheVariants.{Short}
use Rattle.matrix_text.specs.Values.{entry_in}
use Rattle.matrix_text.specs.Sparse.{Triple, is_place_named, free_place, another_triple}
use Rattle.matrix_text.proofs.FreePlaces.{free_place-same, free_place_ok}
use Rattle.matrix_text.proofs.Places.{AreTaken}

module _ (binary : Bool) (height width : ℕ) (is_taken : ℕ → ℕ → Bool) (triples : List Triple) (same : AreTaken height width is_taken triples) (text : Text) where
  as_named : free_place height width is_taken text ≡ free_place height width (is_place_named triples) text
  as_named = free_place-same height width is_taken (is_place_named triples) same text

  pub place_new : (row column : ℕ) (mid : Text)
      → free_place height width is_taken text ≡ Ok ((row, column), mid)
      → is_place_named triples row column ≡ false
  place_new row column mid h = (free_place_ok height width (is_place_named triples) text ((row, column), mid) (sym as_named ∙ h)).free

  pub triple_made : (row column : ℕ) (mid rest : Text) (value : ℤ)
      → free_place height width is_taken text ≡ Ok ((row, column), mid)
      → field Short (entry_in binary) mid ≡ Ok (value, rest)
      → another_triple binary height width triples text ≡ Ok (triples ++ (record { row = row; column = column; value = value }) ∷ [], rest)
  triple_made row column mid rest value h made = let place : free_place height width (is_place_named triples) text ≡ Ok ((row, column), mid) = sym as_named ∙ h in rw (place, made) refl

  pub place_fails : (e : FieldError TextKind) → Fails e (free_place height width is_taken text)
      → Fails e (another_triple binary height width triples text)
  place_fails e h = bind_fails e (free_place height width (is_place_named triples) text) (λ (place : (ℕ × ℕ) × Text). field Short (entry_in binary) place.1 >>= λ value. Ok (triples ++ (record { row = (place.0).0; column = (place.0).1; value = value.0 }) ∷ [], value.1)) (subst (Fails e) as_named h)

  pub value_fails : (e : FieldError TextKind) (row column : ℕ) (mid : Text)
      → free_place height width is_taken text ≡ Ok ((row, column), mid)
      → Fails e (field Short (entry_in binary) mid) → Fails e (another_triple binary height width triples text)
  value_fails e row column mid h failed =
      let place : free_place height width (is_place_named triples) text ≡ Ok ((row, column), mid) = sym as_named ∙ h in
      rw place (bind_fails e (field Short (entry_in binary) mid) (λ (value : ℤ × Text). Ok (triples ++ (record { row = row; column = column; value = value.0 }) ∷ [], value.1)) failed)
