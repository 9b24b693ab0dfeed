-- Parts of a line, joined one after another.
use Rattle.std.proofs.Common.{◌≡◌, ◌<◌, ◌+◌, ◌++◌, ◌∷◌, ◌∙◌, ℕ, List, [], length, map, take, drop, get_or, ap, sym, arith}
use Rattle.std.specs.List.{concat}
use Rattle.std.proofs.lemmas.List.{append-nil, append_assoc, drop_more, length-append, map-append, take-append-drop, take-append-le, take_more}
use Rattle.std.proofs.lemmas.List.Folds.{concat-append}
use Rattle.std.proofs.Math.Seq.{take-append-add}
use Rattle.cmr_io.specs.Whole.{AppendsPrefix}

pub one_more : {X : Type 0} (f : X → List ℕ) (xs : List X) (i : ℕ) (d : X) → i < length xs → concat (map f (take (i + 1) xs)) ≡ concat (map f (take i xs)) ++ f (get_or xs i d)
one_more f xs i d h =
    ap (λ ys. concat (map f ys)) (take_more xs i d h)
    ∙ ap concat (map-append f (take i xs) (get_or xs i d ∷ []))
    ∙ concat-append (map f (take i xs)) (f (get_or xs i d) ∷ [])
    ∙ ap (λ r. concat (map f (take i xs)) ++ r) (append-nil (f (get_or xs i d)))

pub at : {X : Type 0} (f : X → List ℕ) (xs : List X) (i : ℕ) (d : X) → i < length xs → concat (map f xs) ≡ concat (map f (take i xs)) ++ (f (get_or xs i d) ++ concat (map f (drop (i + 1) xs)))
at f xs i d h =
    ap (λ ys. concat (map f ys)) (sym (take-append-drop i xs) ∙ ap (λ r. take i xs ++ r) (drop_more xs i d h))
    ∙ ap concat (map-append f (take i xs) (get_or xs i d ∷ drop (i + 1) xs))
    ∙ concat-append (map f (take i xs)) (f (get_or xs i d) ∷ map f (drop (i + 1) xs))

-- a prefix of one part, after the parts before it, is a prefix of the whole
pub prefix : (old done part rest new : List ℕ) → AppendsPrefix (old ++ done) new part → AppendsPrefix old new (done ++ (part ++ rest))
prefix old done part rest new (n, less, e) = (
  length done + n,
  omega (arith, length-append done (part ++ rest), length-append part rest),
  e ∙ append_assoc old done (take n part)
      ∙ ap (λ p. old ++ (done ++ p)) (sym (take-append-le n part rest (omega arith)))
      ∙ ap (λ p. old ++ p) (sym (take-append-add done (part ++ rest) n)),
)
