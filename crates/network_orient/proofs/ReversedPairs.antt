-- Pairs reversed one after another.
use Rattle.std.proofs.Common.{◌≡◌, ◌<◌, ◌∙◌, ◌+◌, ◌++◌, ℕ, ℤ, List, [], ◌∷◌, length, take, get_or, refl, ap, ap₂, sym, arith}
use Rattle.std.proofs.lemmas.List.{take_more, length-take-le}
use Rattle.cmr_base.specs.declared.network.Pair.{Pair}
use Rattle.cmr_base.specs.ReversedNetworks.{reversed_pair, reversed_pairs}

reversed_pairs-append : (pairs : List Pair) (signs : List ℤ) (pair : Pair) (sign : ℤ) → length pairs ≡ length signs
    → reversed_pairs (pairs ++ pair ∷ []) (signs ++ sign ∷ []) ≡ reversed_pairs pairs signs ++ reversed_pair pair sign ∷ []
reversed_pairs-append [] [] pair sign e = refl
reversed_pairs-append [] (s ∷ signs) pair sign e = absurd (omega arith)
reversed_pairs-append (p ∷ pairs) [] pair sign e = absurd (omega arith)
reversed_pairs-append (p ∷ pairs) (s ∷ signs) pair sign e = ap (λ rest. reversed_pair p s ∷ rest) (reversed_pairs-append pairs signs pair sign (omega arith))

pub reversed_more : (pairs : List Pair) (signs : List ℤ) (k : ℕ) (d : Pair) (e : ℤ) (reversed new : List Pair) (pair : Pair) → length pairs ≡ length signs → k < length pairs
    → reversed ≡ reversed_pairs (take k pairs) (take k signs) → new ≡ reversed ++ pair ∷ [] → pair ≡ reversed_pair (get_or pairs k d) (get_or signs k e)
    → new ≡ reversed_pairs (take (k + 1) pairs) (take (k + 1) signs)
reversed_more pairs signs k d e reversed new pair same inside before is_new is_pair =
    is_new ∙ ap₂ (λ xs x. xs ++ x ∷ []) before is_pair
    ∙ sym (ap₂ reversed_pairs (take_more pairs k d inside) (take_more signs k e (omega (arith, inside, same)))
    ∙ reversed_pairs-append (take k pairs) (take k signs) (get_or pairs k d) (get_or signs k e) (length-take-le k pairs (omega arith) ∙ sym (length-take-le k signs (omega (arith, inside, same)))))
