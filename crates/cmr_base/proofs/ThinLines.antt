-- Searches in lists of lines, and lists of positions with at most one nonzero.
use Rattle.std.proofs.Common.{◌≡◌, ◌≢◌, ◌≤◌, ◌+◌, ◌∙◌, ◌⊎◌, inl, inr, ℕ, Bool, true, false, cond, ℤ, pos, List, [], ◌∷◌, find, Some, is_some, int_eq, refl, ap, sym, subst, arith}
use Rattle.std.proofs.lemmas.List.Sums.{sum_by-cons}
use Rattle.std.proofs.lemmas.Bool.Decides.{Decides-int_eq}
use Rattle.cmr_base.specs.Matrix.{is_nonzero}
use Rattle.cmr_base.specs.Reductions.{nonzeros_at, equal_at}
use Rattle.cmr_base.specs.Members.{IsIn, IsDistinct}
pub use Rattle.cmr_base.proofs.Booleans.{nonzero_is, zero_is, and_is, is_and, false_is, not_is}
use Rattle.cmr_base.proofs.Booleans.{true_is_false}

-- the found item is in the list and passes the test
pub found_is : (test : ℕ → Bool) (xs : List ℕ) → is_some (find test xs) ≡ true → (x : ℕ) × IsIn x xs × (test x ≡ true)
found_is test [] e = true_is_false (sym e)
found_is test (x ∷ xs) e = go (test x) refl e (λ h. found_is test xs h)
  where
    go : (b : Bool) → test x ≡ b → is_some (cond b (Some x) (find test xs)) ≡ true → (is_some (find test xs) ≡ true → (y : ℕ) × IsIn y xs × (test y ≡ true))
        → (y : ℕ) × IsIn y (x ∷ xs) × (test y ≡ true)
    go true t e k = (x, inl refl, t)
    go false t e k = let w = k e in (w.0, inr w.1, w.2)

pub is_found : (test : ℕ → Bool) (xs : List ℕ) (x : ℕ) → IsIn x xs → test x ≡ true → is_some (find test xs) ≡ true
is_found test [] x h t = absurd h
is_found test (y ∷ ys) x h t = go (test y) refl h (λ g. is_found test ys x g t)
  where
    go : (b : Bool) → test y ≡ b → (x ≡ y) ⊎ IsIn x ys → (IsIn x ys → is_some (find test ys) ≡ true) → is_some (cond b (Some y) (find test ys)) ≡ true
    go true e h k = refl
    go false e (inl q) k = true_is_false (sym t ∙ ap test q ∙ e)
    go false e (inr h) k = k h

pub equal_is : (xs : List ℕ) (f g : ℕ → ℤ) → equal_at xs f g ≡ true → (x : ℕ) → IsIn x xs → f x ≡ g x
equal_is [] f g e x h = absurd h
equal_is (y ∷ ys) f g e x h = let w = and_is (int_eq (f y) (g y)) (equal_at ys f g) e in elim h [
  | inl q ↦ ap f q ∙ (Decides-int_eq (f y) (g y)).0 w.0 ∙ sym (ap g q)
  | inr i ↦ equal_is ys f g w.1 x i
]

pub is_equal : (xs : List ℕ) (f g : ℕ → ℤ) → ((x : ℕ) → IsIn x xs → f x ≡ g x) → equal_at xs f g ≡ true
is_equal [] f g h = refl
is_equal (y ∷ ys) f g h = is_and (int_eq (f y) (g y)) (equal_at ys f g) ((Decides-int_eq (f y) (g y)).1 (h y (inl refl))) (is_equal ys f g (λ x i. h x (inr i)))

-- ---- at most one of the positions has a nonzero

abbrev pub IsThin : List ℕ → (ℕ → ℤ) → Type 0
IsThin xs f = (x y : ℕ) → IsIn x xs → IsIn y xs → f x ≢ pos 0 → f y ≢ pos 0 → x ≡ y

nonzeros_cons : (x : ℕ) (xs : List ℕ) (f : ℕ → ℤ) → nonzeros_at (x ∷ xs) f ≡ cond (is_nonzero (f x)) 1 0 + nonzeros_at xs f
nonzeros_cons x xs f = sum_by-cons (λ k. cond (is_nonzero (f k)) 1 0) x xs

none_counted : (xs : List ℕ) (f : ℕ → ℤ) → ((x : ℕ) → IsIn x xs → is_nonzero (f x) ≡ false) → nonzeros_at xs f ≡ 0
none_counted [] f h = refl
none_counted (x ∷ xs) f h =
    let e = none_counted xs f (λ y i. h y (inr i)) in
    nonzeros_cons x xs f ∙ rw (h x (inl refl)) (omega (arith, e))

pub counted_none : (xs : List ℕ) (f : ℕ → ℤ) → nonzeros_at xs f ≡ 0 → (x : ℕ) → IsIn x xs → f x ≢ pos 0 → ⊥
counted_none [] f e x h d = h
counted_none (y ∷ ys) f e x h d = go (is_nonzero (f y)) refl (sym (nonzeros_cons y ys f) ∙ e) h (λ k i. counted_none ys f k x i d)
  where
    go : (b : Bool) → is_nonzero (f y) ≡ b → cond b 1 0 + nonzeros_at ys f ≡ 0 → (x ≡ y) ⊎ IsIn x ys → (nonzeros_at ys f ≡ 0 → IsIn x ys → ⊥) → ⊥
    go true t e h k = omega arith
    go false t e (inl q) k = d (ap f q ∙ zero_is (f y) t)
    go false t e (inr i) k = k (omega (arith, e)) i

pub thin_from_count : (xs : List ℕ) (f : ℕ → ℤ) → nonzeros_at xs f ≤ 1 → IsThin xs f
thin_from_count [] f l x y h i d e = absurd h
thin_from_count (z ∷ zs) f l x y h i d e = go (is_nonzero (f z)) refl (subst (λ (n : ℕ). n ≤ 1) (nonzeros_cons z zs f) l) h i (λ m a b. thin_from_count zs f m x y a b d e)
  where
    go : (b : Bool) → is_nonzero (f z) ≡ b → cond b 1 0 + nonzeros_at zs f ≤ 1 → (x ≡ z) ⊎ IsIn x zs → (y ≡ z) ⊎ IsIn y zs → (nonzeros_at zs f ≤ 1 → IsIn x zs → IsIn y zs → x ≡ y) → x ≡ y
    go true t l (inl p) (inl q) k = p ∙ sym q
    go true t l (inr a) q k = absurd (counted_none zs f (omega arith) x a d)
    go true t l p (inr b) k = absurd (counted_none zs f (omega arith) y b e)
    go false t l (inl p) q k = absurd (d (ap f p ∙ zero_is (f z) t))
    go false t l p (inl q) k = absurd (e (ap f q ∙ zero_is (f z) t))
    go false t l (inr a) (inr b) k = k (omega (arith, l)) a b

rest_counted : (z : ℕ) (zs : List ℕ) (f : ℕ → ℤ) → ¬ IsIn z zs → IsThin (z ∷ zs) f → is_nonzero (f z) ≡ true → nonzeros_at zs f ≡ 0
rest_counted z zs f apart thin t = none_counted zs f (λ x i. none x i (is_nonzero (f x)) refl)
  where
    none : (x : ℕ) → IsIn x zs → (b : Bool) → is_nonzero (f x) ≡ b → is_nonzero (f x) ≡ false
    none x i true e = let q : z ≡ x = thin z x (inl refl) (inr i) (nonzero_is (f z) t) (nonzero_is (f x) e) in absurd (apart (subst (λ (y : ℕ). IsIn y zs) (sym q) i))
    none x i false e = e

pub count_from_thin : (xs : List ℕ) (f : ℕ → ℤ) → IsDistinct xs → IsThin xs f → nonzeros_at xs f ≤ 1
count_from_thin [] f d thin = omega arith
count_from_thin (z ∷ zs) f d thin =
    subst (λ (n : ℕ). n ≤ 1) (sym (nonzeros_cons z zs f)) (go (is_nonzero (f z)) refl (count_from_thin zs f d.1 (λ x y a b. thin x y (inr a) (inr b))))
  where
    go : (b : Bool) → is_nonzero (f z) ≡ b → nonzeros_at zs f ≤ 1 → cond b 1 0 + nonzeros_at zs f ≤ 1
    go true t k = let e = rest_counted z zs f d.0 thin t in omega (arith, e)
    go false t k = omega (arith, k)

-- if there is a nonzero, the search finds one
pub nonzero_found : (xs : List ℕ) (f : ℕ → ℤ) → nonzeros_at xs f ≡ 1 → is_some (find (λ x. is_nonzero (f x)) xs) ≡ true
nonzero_found [] f e = absurd (omega arith)
nonzero_found (x ∷ xs) f e = go (is_nonzero (f x)) (sym (nonzeros_cons x xs f) ∙ e) (λ h. nonzero_found xs f h)
  where
    go : (b : Bool) → cond b 1 0 + nonzeros_at xs f ≡ 1 → (nonzeros_at xs f ≡ 1 → is_some (find (λ y. is_nonzero (f y)) xs) ≡ true) → is_some (cond b (Some x) (find (λ y. is_nonzero (f y)) xs)) ≡ true
    go true e k = refl
    go false e k = k (omega (arith, e))
