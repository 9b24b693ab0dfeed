-- Steps of a chain text, read and written one after another.
use Rattle.std.proofs.Common.{◌≡◌, ◌∙◌, ◌∷◌, [], ◌++◌, ℕ, List, length, map, Result, Ok, Err, false, refl, ap, sym}
use Rattle.std.specs.Prelude.{fold, codes, OnOk}
use Rattle.std.specs.Fmt.{decimal}
use Rattle.text_fields.specs.TextWords.{Text}
use Rattle.text_fields.specs.Written.{Draft, with_word, with_line, with_end}
use Rattle.text_fields.proofs.Lines.{line_written, lines_written}
use Rattle.chains.specs.declared.step.SignStep.{SignStep}
use Rattle.chains.specs.declared.step.SizedChain.{SizedChain}
use Rattle.chains.specs.ChainTexts.{next_step, another_step, line_set_words, step_words, chain_lines, chain_text}

pub step_made : (height width : ℕ) (steps more : List SignStep) (step : SignStep) (text rest : Text) → next_step height width text ≡ Ok (step, rest)
    → more ≡ steps ++ step ∷ [] → another_step height width steps text ≡ Ok (more, rest)
step_made height width steps more step text rest e f = rw (e, f) refl

fold-lines : (draft : Draft) (lines more : List (List (List ℕ))) → fold with_line draft (lines ++ more) ≡ fold with_line (fold with_line draft lines) more
fold-lines draft [] more = refl
fold-lines draft (line ∷ lines) more = fold-lines (with_line draft line) lines more

-- the whole text
pub chain_written : (sized : SizedChain) (start head steps end : Draft) → start.bytes ≡ [] → head ≡ fold with_line start ((codes "cmr-chain" ∷ codes "1" ∷ []) ∷ (decimal sized.rows ∷ decimal sized.columns ∷ decimal (length sized.chain.steps) ∷ []) ∷ [])
    → steps ≡ fold with_line head (map step_words sized.chain.steps) → end ≡ with_line steps (codes "violator" ∷ line_set_words sized.chain.violator) → end.bytes ≡ chain_text sized
chain_written sized start head steps end empty e f g =
    ap (λ d. d.bytes) (g ∙ ap (λ d. with_line d (codes "violator" ∷ line_set_words sized.chain.violator)) (f ∙ ap (λ d. fold with_line d (map step_words sized.chain.steps)) e)
    ∙ sym (fold-lines (fold with_line start ((codes "cmr-chain" ∷ codes "1" ∷ []) ∷ (decimal sized.rows ∷ decimal sized.columns ∷ decimal (length sized.chain.steps) ∷ []) ∷ [])) (map step_words sized.chain.steps) ((codes "violator" ∷ line_set_words sized.chain.violator) ∷ [])))
    ∙ lines_written start (chain_lines sized)
    ∙ ap (λ b. b ++ chain_text sized) empty

-- the first line
pub first_line : (start one two ended : Draft) (form version : List ℕ) → start ≡ record { bytes = []; is_begun = false } → form ≡ codes "cmr-chain" → version ≡ codes "1" → one ≡ with_word start form → two ≡ with_word one version → ended ≡ with_end two
    → ended ≡ with_line start (codes "cmr-chain" ∷ codes "1" ∷ [])
first_line start one two ended form version e a b f g h = h ∙ ap with_end (g ∙ ap (λ d. with_word d version) (f ∙ ap (with_word start) a) ∙ ap (with_word (with_word start (codes "cmr-chain"))) b)
    ∙ line_written start (codes "cmr-chain" ∷ codes "1" ∷ []) (ap (λ d. d.is_begun) e)

-- a line that consists of given words
pub words_line : (start put ended : Draft) (words : List (List ℕ)) → start.is_begun ≡ false → put ≡ fold with_word start words → ended ≡ with_end put → ended ≡ with_line start words
words_line start put ended words none e f = f ∙ ap with_end e ∙ line_written start words none

pub ok_with : {T E : Type 0} (result : Result T E) (d e x : Draft) → OnOk result (x ≡ d) → d ≡ e → OnOk result (x ≡ e)
ok_with (Ok y) d e x h f = h ∙ f
ok_with (Err y) d e x h f = tt
