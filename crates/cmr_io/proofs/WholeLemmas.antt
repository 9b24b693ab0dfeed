-- Whole writes.
use Rattle.std.proofs.Common.{◌≡◌, ◌+◌, ◌-◌, ◌∙◌, ◌++◌, ℕ, List, [], ◌∷◌, length, take, drop, ap, refl, sym}
use Rattle.std.proofs.Math.Seq.{take-add}
use Rattle.std.proofs.lemmas.List.{take_rest}
use Rattle.cmr_io.specs.Log.{Log, log_more, log_with}
use Rattle.cmr_io.specs.Reads.{with_more}

-- the bytes from an offset on
abbrev pub rest : List ℕ → ℕ → List ℕ
rest bytes done = take (length bytes - done) (drop done bytes)

-- a prefix, and more after it
pub take-more : (bytes : List ℕ) (done count : ℕ) → take done bytes ++ take count (rest bytes done) ≡ take (done + count) bytes
take-more bytes done count =
    ap (λ (xs : List ℕ). take done bytes ++ take count xs) (take_rest bytes done) ∙ sym (take-add done count bytes)

more_of_last : (texts : List (List ℕ)) (text bytes : List ℕ) → with_more (texts ++ text ∷ []) bytes ≡ texts ++ (text ++ bytes) ∷ []
more_of_last [] text bytes = refl
more_of_last (first ∷ []) text bytes = refl
more_of_last (first ∷ second ∷ texts) text bytes = ap (λ (others : List (List ℕ)). first ∷ others) (more_of_last (second ∷ texts) text bytes)

abbrev log_of : List (List ℕ) → List (List ℕ) → Log
log_of names texts = record { names = names; texts = texts }

-- a prefix was taken, and then more bytes
pub log_on : (start mid after : Log) (name bytes : List ℕ) (done count : ℕ) → mid ≡ log_with start name (take done bytes) → after ≡ log_more mid (take count (rest bytes done))
    → after ≡ log_with start name (take (done + count) bytes)
log_on start mid after name bytes done count before more =
    more
    ∙ ap (λ (log : Log). log_more log (take count (rest bytes done))) before
    ∙ ap (log_of (start.names ++ name ∷ []))
    (more_of_last start.texts (take done bytes) (take count (rest bytes done)) ∙ ap (λ (text : List ℕ). start.texts ++ text ∷ []) (take-more bytes done count))
