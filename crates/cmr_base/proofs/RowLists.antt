-- Searches in lists of rows, and values that differ.
use Rattle.std.proofs.Common.{ℕ, suc, pos, ◌-ℤ◌, Bool, true, false, not, cond, List, [], ◌∷◌, ◌≡◌, ◌≢◌, ◌<◌, ◌≤◌, ◌∙◌, sym, ap, refl, arith, subst, ◌⊎◌, inl, inr, length}
use Rattle.std.specs.List.{filter}
use Rattle.cmr_base.specs.Members.{IsIn}
use Rattle.cmr_base.specs.Cuts.{bit, differ}
pub use Rattle.cmr_base.proofs.Booleans.{eq_of, self_eq, is_eq, ne_of, is_ne, same_or_not, two_cases, bool_same, not_both}

pub no_not : (a : Bool) → a ≡ not a → ⊥
no_not true e = cc
no_not false e = cc

pub differ_false : (a b : Bool) → false ≡ differ a b → a ≡ b
differ_false true true e = refl
differ_false true false e = cc
differ_false false true e = cc
differ_false false false e = refl

pub differ_true : (a b : Bool) → true ≡ differ a b → b ≡ not a
differ_true true true e = cc
differ_true true false e = refl
differ_true false true e = refl
differ_true false false e = cc

pub differ_self : (x : Bool) → differ x x ≡ false
differ_self true = refl
differ_self false = refl

pub same_bit : (b : Bool) → pos 0 ≡ bit b -ℤ bit b
same_bit true = refl
same_bit false = refl

pub filter_in : (p : ℕ → Bool) (x : ℕ) (xs : List ℕ) → IsIn x xs → p x ≡ true → IsIn x (filter p xs)
filter_in p x [] h e = h
filter_in p x (y ∷ ys) h e = go (p y) refl h (λ i. filter_in p x ys i e)
  where
    go : (t : Bool) → p y ≡ t → (x ≡ y) ⊎ IsIn x ys → (IsIn x ys → IsIn x (filter p ys)) → IsIn x (cond t (y ∷ filter p ys) (filter p ys))
    go true f (inl i) r = inl i
    go true f (inr i) r = inr (r i)
    go false f (inl i) r = absurd (not_both (p y) (ap p (sym i) ∙ e) f)
    go false f (inr i) r = r i

pub in_filter : (p : ℕ → Bool) (x : ℕ) (xs : List ℕ) → IsIn x (filter p xs) → IsIn x xs × (p x ≡ true)
in_filter p x [] h = absurd h
in_filter p x (y ∷ ys) h = go (p y) refl h (in_filter p x ys)
  where
    go : (t : Bool) → p y ≡ t → IsIn x (cond t (y ∷ filter p ys) (filter p ys)) → (IsIn x (filter p ys) → IsIn x ys × (p x ≡ true)) → ((x ≡ y) ⊎ IsIn x ys) × (p x ≡ true)
    go true f (inl i) r = (inl i, ap p i ∙ f)
    go true f (inr i) r = (inr (r i).0, (r i).1)
    go false f i r = (inr (r i).0, (r i).1)

fewer_or_same : (p : ℕ → Bool) (xs : List ℕ) → length (filter p xs) ≤ length xs
fewer_or_same p [] = omega arith
fewer_or_same p (y ∷ ys) = go (p y) (fewer_or_same p ys)
  where
    go : (t : Bool) → length (filter p ys) ≤ length ys → length (cond t (y ∷ filter p ys) (filter p ys)) ≤ suc (length ys)
    go true l = omega arith
    go false l = omega arith

-- without one of its rows the list is shorter
pub fewer : (p : ℕ → Bool) (x : ℕ) (xs : List ℕ) → IsIn x xs → p x ≡ false → length (filter p xs) < length xs
fewer p x [] h e = absurd h
fewer p x (y ∷ ys) h e = go (p y) refl h (fewer_or_same p ys) (λ i. fewer p x ys i e)
  where
    go : (t : Bool) → p y ≡ t → (x ≡ y) ⊎ IsIn x ys → length (filter p ys) ≤ length ys → (IsIn x ys → length (filter p ys) < length ys)
        → length (cond t (y ∷ filter p ys) (filter p ys)) < suc (length ys)
    go true f (inl i) l r = absurd (not_both (p y) f (ap p (sym i) ∙ e))
    go true f (inr i) l r = let m = r i in omega arith
    go false f i l r = omega arith

-- a row that satisfies P, or all rows satisfy Q
pub search_rows : (P Q : ℕ → Type 0) → (d : (x : ℕ) → P x ⊎ Q x) → (xs : List ℕ) → ((x : ℕ) × IsIn x xs × P x) ⊎ ((x : ℕ) → IsIn x xs → Q x)
search_rows P Q d [] = inr (λ x h. absurd h)
search_rows P Q d (y ∷ ys) = go (d y) (search_rows P Q d ys)
  where
    go : P y ⊎ Q y → ((x : ℕ) × IsIn x ys × P x) ⊎ ((x : ℕ) → IsIn x ys → Q x) → ((x : ℕ) × ((x ≡ y) ⊎ IsIn x ys) × P x) ⊎ ((x : ℕ) → (x ≡ y) ⊎ IsIn x ys → Q x)
    go (inl h) r = inl (y, inl refl, h)
    go (inr h) (inl (x, i, k)) = inl (x, inr i, k)
    go (inr h) (inr all) = inr (λ x i. each x i)
      where
        each : (x : ℕ) → (x ≡ y) ⊎ IsIn x ys → Q x
        each x (inl e) = subst Q (sym e) h
        each x (inr i) = all x i

pub in_or_not : (x : ℕ) (xs : List ℕ) → IsIn x xs ⊎ (¬ (IsIn x xs))
in_or_not x [] = inr (λ h. h)
in_or_not x (y ∷ ys) = go (same_or_not x y) (in_or_not x ys)
  where
    go : (x ≡ y) ⊎ (x ≢ y) → IsIn x ys ⊎ (¬ (IsIn x ys)) → ((x ≡ y) ⊎ IsIn x ys) ⊎ (¬ ((x ≡ y) ⊎ IsIn x ys))
    go (inl e) r = inl (inl e)
    go (inr n) (inl h) = inl (inr h)
    go (inr n) (inr m) = inr none
      where
        none : (x ≡ y) ⊎ IsIn x ys → ⊥
        none (inl e) = n e
        none (inr h) = m h

pub search_in : (P Q : ℕ → Type 0) (xs : List ℕ) → ((x : ℕ) → IsIn x xs → P x ⊎ Q x) → ((x : ℕ) × IsIn x xs × P x) ⊎ ((x : ℕ) → IsIn x xs → Q x)
search_in P Q [] d = inr (λ x h. absurd h)
search_in P Q (y ∷ ys) d = go (d y (inl refl)) (search_in P Q ys (λ x h. d x (inr h)))
  where
    go : P y ⊎ Q y → ((x : ℕ) × IsIn x ys × P x) ⊎ ((x : ℕ) → IsIn x ys → Q x) → ((x : ℕ) × ((x ≡ y) ⊎ IsIn x ys) × P x) ⊎ ((x : ℕ) → (x ≡ y) ⊎ IsIn x ys → Q x)
    go (inl h) r = inl (y, inl refl, h)
    go (inr h) (inl (x, i, k)) = inl (x, inr i, k)
    go (inr h) (inr all) = inr more
      where
        more : (x : ℕ) → (x ≡ y) ⊎ IsIn x ys → Q x
        more x (inl e) = subst Q (sym e) h
        more x (inr i) = all x i
