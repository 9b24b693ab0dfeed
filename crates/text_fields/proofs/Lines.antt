-- Lines of words, word by word.
use Rattle.std.proofs.Common.{◌≡◌, ◌≤◌, ◌∙◌, ℕ, Bool, true, false, List, [], ◌∷◌, ◌++◌, length, map, take, refl, ap, sym, append_assoc}
use Rattle.std.specs.Prelude.{fold}
use Rattle.std.specs.List.{join_with_byte}
use Rattle.std.proofs.lemmas.List.{append-nil, take_all}
use Rattle.text_fields.specs.Written.{text_line, text_of_lines, Draft, with_word, with_end, with_line}

-- words in a line that already has a word
words_after : (bytes word : List ℕ) (words : List (List ℕ)) → fold with_word (record { bytes = bytes ++ word; is_begun = true }) words ≡ record { bytes = bytes ++ join_with_byte 32 (word ∷ words); is_begun = true }
words_after bytes word [] = refl
words_after bytes word (next ∷ words) =
    ap (λ b. fold with_word (record { bytes = b; is_begun = true }) words) (append_assoc bytes word (32 ∷ next))
    ∙ words_after bytes (word ++ 32 ∷ next) words
    ∙ ap (λ b. record { bytes = bytes ++ b; is_begun = true }) (regroup word next words)
  where
    regroup : (word next : List ℕ) (words : List (List ℕ)) → join_with_byte 32 ((word ++ 32 ∷ next) ∷ words) ≡ join_with_byte 32 (word ∷ next ∷ words)
    regroup word next [] = refl
    regroup word next (other ∷ words) = append_assoc word (32 ∷ next) (32 ∷ join_with_byte 32 (other ∷ words))

-- a line is its words and its end
pub line_written : (draft : Draft) (words : List (List ℕ)) → draft.is_begun ≡ false → with_end (fold with_word draft words) ≡ with_line draft words
line_written draft words none = go draft.bytes draft.is_begun none words
  where
    go : (bytes : List ℕ) (b : Bool) → b ≡ false → (words : List (List ℕ)) → with_end (fold with_word (record { bytes = bytes; is_begun = b }) words) ≡ with_line (record { bytes = bytes; is_begun = b }) words
    go bytes true none words = absurd (cc)
    go bytes false none [] = refl
    go bytes false none (word ∷ words) = ap with_end (words_after bytes word words) ∙ ap (λ b. record { bytes = b; is_begun = false }) (append_assoc bytes (join_with_byte 32 (word ∷ words)) (10 ∷ []))

-- a line whose words were written one after another
pub line_ended : {A : Type 0} (draft start : Draft) (write : A → List ℕ) (values : List A) (n : ℕ) → draft ≡ fold with_word start (map write (take n values))
    → length values ≤ n → start.is_begun ≡ false → with_end draft ≡ with_line start (map write values)
line_ended draft start write values n written past none =
    ap with_end written ∙ ap (λ vs. with_end (fold with_word start (map write vs))) (take_all n values past) ∙ line_written start (map write values) none

-- lines one after another
pub lines_written : (draft : Draft) (lines : List (List (List ℕ))) → (fold with_line draft lines).bytes ≡ draft.bytes ++ text_of_lines lines
lines_written draft [] = sym (append-nil draft.bytes)
lines_written draft (line ∷ lines) = lines_written (with_line draft line) lines ∙ append_assoc draft.bytes (text_line line) (text_of_lines lines)

-- after lines no word is begun
pub lines_end : (draft : Draft) (lines : List (List (List ℕ))) → draft.is_begun ≡ false → (fold with_line draft lines).is_begun ≡ false
lines_end draft [] none = none
lines_end draft (line ∷ lines) none = lines_end (with_line draft line) lines refl
