-- Entries directly between white bytes.
use Rattle.std.proofs.Common.{◌≡◌, ◌≢◌, ◌<◌, ◌≤◌, ◌+◌, ◌-◌, ◌∙◌, ℕ, zero, suc, ℤ, pos, negsuc, neg_ℤ, true, false, List, [], ◌∷◌, length, drop, get_or, refl, ap, subst, inl, inr, arith}
use Rattle.std.specs.Fmt.{signed_decimal}
use Rattle.std.proofs.lemmas.Bool.{cases_eq}
use Rattle.text_fields.specs.TextWords.{is_space, with_word, run_and_words, words_from}
use Rattle.text_fields.proofs.Runs.{words_skip, run_more, run_stops}
use Rattle.text_fields.proofs.Entries.{zero_text, one_text, minus_one_text}

run_of_one : (bytes : List ℕ) (at d : ℕ) → at + 1 < length bytes → get_or bytes at 0 ≡ d → is_space d ≡ false → is_space (get_or bytes (at + 1) 0) ≡ true
    → run_and_words at (drop at bytes) ≡ (d ∷ [], words_from (at + 1) (drop (at + 1) bytes))
run_of_one bytes at d inside is solid space =
    let more = run_more bytes at (omega arith) (rw is solid) in
    let stops = run_stops bytes (at + 1) (omega arith) space in
    more ∙ rw (stops, is) refl

one_byte : (bytes : List ℕ) (at d : ℕ) → at + 2 < length bytes → is_space (get_or bytes at 0) ≡ true → get_or bytes (at + 1) 0 ≡ d → is_space d ≡ false → is_space (get_or bytes (at + 1 + 1) 0) ≡ true
    → words_from at (drop at bytes) ≡ (at + 1, d ∷ []) ∷ words_from (at + 1 + 1) (drop (at + 1 + 1) bytes)
one_byte bytes at d inside before is solid space =
    words_skip bytes at (omega arith) before
    ∙ ap (λ (run : List ℕ × List (ℕ × List ℕ)). with_word (at + 1) run.0 run.1) (run_of_one bytes (at + 1) d (omega arith) is solid space)

two_bytes : (bytes : List ℕ) (at d e : ℕ) → at + 3 < length bytes → is_space (get_or bytes at 0) ≡ true → get_or bytes (at + 1) 0 ≡ d → is_space d ≡ false
    → get_or bytes (at + 1 + 1) 0 ≡ e → is_space e ≡ false → is_space (get_or bytes (at + 1 + 1 + 1) 0) ≡ true
    → words_from at (drop at bytes) ≡ (at + 1, d ∷ e ∷ []) ∷ words_from (at + 1 + 1 + 1) (drop (at + 1 + 1 + 1) bytes)
two_bytes bytes at d e inside before first first_solid second second_solid space =
    let more = run_more bytes (at + 1) (omega arith) (rw first first_solid) in
    let later = run_of_one bytes (at + 1 + 1) e (omega arith) second second_solid space in
    let run : run_and_words (at + 1) (drop (at + 1) bytes) ≡ (d ∷ e ∷ [], words_from (at + 1 + 1 + 1) (drop (at + 1 + 1 + 1) bytes)) = more ∙ rw (later, first) refl in
    words_skip bytes at (omega arith) before ∙ ap (λ (run : List ℕ × List (ℕ × List ℕ)). with_word (at + 1) run.0 run.1) run

plus_word : (bytes : List ℕ) (at size : ℕ) (entry : ℤ) → at + 3 < length bytes → is_space (get_or bytes at 0) ≡ true → get_or bytes (at + 1) 0 ≡ 48 + size
    → size ≤ 1 → entry ≡ pos size → is_space (get_or bytes (at + 1 + 1) 0) ≡ true
    → words_from at (drop at bytes) ≡ (at + 1, signed_decimal entry) ∷ words_from (at + 1 + 1) (drop (at + 1 + 1) bytes)
plus_word bytes at zero entry inside before digit small is space = rw (is, zero_text) (one_byte bytes at 48 (omega arith) before (omega arith) refl space)
plus_word bytes at (suc zero) entry inside before digit small is space = rw (is, one_text) (one_byte bytes at 49 (omega arith) before (omega arith) refl space)
plus_word bytes at (suc (suc n)) entry inside before digit small is space = absurd (omega arith)

minus_word : (bytes : List ℕ) (at : ℕ) (entry : ℤ) → at + 3 < length bytes → is_space (get_or bytes at 0) ≡ true → get_or bytes (at + 1) 0 ≡ 45
    → get_or bytes (at + 1 + 1) 0 ≡ 49 → entry ≡ negsuc 0 → is_space (get_or bytes (at + 1 + 1 + 1) 0) ≡ true
    → words_from at (drop at bytes) ≡ (at + 1, signed_decimal entry) ∷ words_from (at + 1 + 1 + 1) (drop (at + 1 + 1 + 1) bytes)
minus_word bytes at entry inside before sign digit is space = rw (is, minus_one_text) (two_bytes bytes at 45 49 inside before sign refl digit refl space)

-- the digit is one byte later if it follows a minus
pub entry_words : (bytes : List ℕ) (at minus : ℕ) (entry : ℤ) → at + 3 < length bytes → is_space (get_or bytes at 0) ≡ true → minus ≤ 1 → (get_or bytes (at + 1) 0 ≢ 45 → minus ≡ 0)
    → 48 + minus ≤ get_or bytes (at + 1 + minus) 0 → get_or bytes (at + 1 + minus) 0 ≤ 49
    → (minus ≡ 0 → entry ≡ pos (get_or bytes (at + 1 + minus) 0 - 48)) → (minus ≡ 1 → entry ≡ neg_ℤ (pos (get_or bytes (at + 1 + minus) 0 - 48)))
    → is_space (get_or bytes (at + 1 + minus + 1) 0) ≡ true
    → words_from at (drop at bytes) ≡ (at + 1, signed_decimal entry) ∷ words_from (at + 1 + minus + 1) (drop (at + 1 + minus + 1) bytes)
entry_words bytes at zero entry inside before small none from to plus minus space =
    let here : at + 1 + 0 ≡ at + 1 = omega arith in
    let same = ap (λ k. get_or bytes k 0) here in
    let size = get_or bytes (at + 1 + 0) 0 - 48 in
    let digit : get_or bytes (at + 1) 0 ≡ 48 + size = omega (arith, same) in
    rw here (plus_word bytes at size entry inside before digit (omega arith) (plus refl) (subst (λ k. is_space (get_or bytes (k + 1) 0) ≡ true) here space))
entry_words bytes at (suc zero) entry inside before small none from to plus minus space =
    let digit : get_or bytes (at + 1 + 1) 0 ≡ 49 = omega arith in
    let sign : get_or bytes (at + 1) 0 ≡ 45 = elim (cases_eq (get_or bytes (at + 1) 0) 45) [ inl e ↦ e | inr ne ↦ absurd (let h = none ne in omega arith) ] in
    let size : get_or bytes (at + 1 + 1) 0 - 48 ≡ 1 = omega arith in
    minus_word bytes at entry inside before sign digit (minus refl ∙ ap (λ n. neg_ℤ (pos n)) size) space
entry_words bytes at (suc (suc n)) entry inside before small none from to plus minus space = absurd (omega arith)
