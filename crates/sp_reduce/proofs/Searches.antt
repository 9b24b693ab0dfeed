-- Searches that go on from the prefix of a list.
use Rattle.std.proofs.Common.{◌≡◌, ◌<◌, ◌+◌, ◌∙◌, ℕ, zero, suc, Bool, true, false, cond, List, [], ◌∷◌, length, take, get_or, find, Option, Some, None, refl, ap, subst, arith}
use Rattle.std.specs.Option.{option_or}
use Rattle.std.proofs.lemmas.List.{take_more}
use Rattle.std.proofs.lemmas.List.Folds.{find-append}

pub some_not_none : {X A : Type 0} {y : X} → Some y ≡ None → A
some_not_none e = absurd (subst (λ o. elim o as (λ _. Type 0) [ None ↦ ⊥ | Some z ↦ Unit {0} ]) e tt)

pub find_none : (test : ℕ → Bool) (xs : List ℕ) → ((i : ℕ) → i < length xs → test (get_or xs i 0) ≡ false) → find test xs ≡ None
find_none test [] h = refl
find_none test (x ∷ xs) h = rw (h 0 (omega arith)) (find_none test xs (λ i g. h (suc i) (omega (arith, g))))

pub find_more : (test : ℕ → Bool) (xs : List ℕ) (i : ℕ) → i < length xs → find test (take i xs) ≡ None → test (get_or xs i 0) ≡ false → find test (take (i + 1) xs) ≡ None
find_more test xs i h none no_ =
    ap (find test) (take_more xs i 0 h) ∙ find-append test (take i xs) (get_or xs i 0 ∷ []) ∙ ap (λ (o : Option ℕ). option_or o (find test (get_or xs i 0 ∷ []))) none
    ∙ ap (λ (b : Bool). cond b (Some (get_or xs i 0)) None) no_

pub find_here : (test : ℕ → Bool) (xs : List ℕ) (i : ℕ) → i < length xs → find test (take i xs) ≡ None → test (get_or xs i 0) ≡ true → find test xs ≡ Some (get_or xs i 0)
find_here test [] i h none here = absurd (omega arith)
find_here test (x ∷ xs) zero h none here = ap (λ (b : Bool). cond b (Some x) (find test xs)) here
find_here test (x ∷ xs) (suc i) h none here = go (test x) none (λ n. find_here test xs i (omega arith) n here)
  where
    go : (b : Bool) → cond b (Some x) (find test (take i xs)) ≡ None → (find test (take i xs) ≡ None → find test xs ≡ Some (get_or xs i 0)) → cond b (Some x) (find test xs) ≡ Some (get_or xs i 0)
    go true e k = some_not_none e
    go false e k = k e
