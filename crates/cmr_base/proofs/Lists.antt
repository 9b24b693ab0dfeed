-- Properties of all items of a list, lists with one more item, and the items that pass a test.
use Rattle.std.proofs.Common.{◌≡◌, ◌<◌, ◌≤◌, ◌+◌, ◌++◌, ◌||◌, ◌∙◌, inl, inr, ℕ, zero, suc, Bool, true, false, cond, filter, ℤ, ◌+ℤ◌, List, [], ◌∷◌, length, get_or, take, map, replicate, refl, ap, sym, subst, arith}
use Rattle.std.specs.List.{AllByRecursion, Contains}
use Rattle.std.proofs.lemmas.Bool.{cases_lt}
use Rattle.std.proofs.lemmas.List.{get_or-replicate, get_or_past, length-replicate}
use Rattle.cmr_base.specs.Sums.{sum_over}
use Rattle.cmr_base.proofs.Integers.{sums}
use Rattle.cmr_base.proofs.SumLaws.{sum_over-append}

pub all_of : {A : Type 0} (P : A → Type 0) → ((x : A) → P x) → (xs : List A) → AllByRecursion P xs
all_of P h [] = tt
all_of P h (x ∷ xs) = (h x, all_of P h xs)

pub all_weaker : {A : Type 0} (P Q : A → Type 0) → ((x : A) → P x → Q x) → (xs : List A) → AllByRecursion P xs → AllByRecursion Q xs
all_weaker P Q f [] h = tt
all_weaker P Q f (x ∷ xs) h = (f x h.0, all_weaker P Q f xs h.1)

pub all_both : {A : Type 0} (P Q R : A → Type 0) → ((x : A) → P x → Q x → R x) → (xs : List A) → AllByRecursion P xs → AllByRecursion Q xs → AllByRecursion R xs
all_both P Q R f [] h k = tt
all_both P Q R f (x ∷ xs) h k = (f x h.0 k.0, all_both P Q R f xs h.1 k.1)

pub all-append : {A : Type 0} (P : A → Type 0) (xs ys : List A) → AllByRecursion P xs → AllByRecursion P ys → AllByRecursion P (xs ++ ys)
all-append P [] ys h k = k
all-append P (x ∷ xs) ys h k = (h.0, all-append P xs ys h.1 k)

pub all_prefix : {A : Type 0} (P : A → Type 0) (xs ys : List A) → AllByRecursion P (xs ++ ys) → AllByRecursion P xs
all_prefix P [] ys h = tt
all_prefix P (x ∷ xs) ys h = (h.0, all_prefix P xs ys h.1)

pub all_back : {A : Type 0} (P : A → Type 0) (xs ys : List A) → AllByRecursion P (xs ++ ys) → AllByRecursion P ys
all_back P [] ys h = h
all_back P (x ∷ xs) ys h = all_back P xs ys h.1

-- the longer list is the shorter list with the item inserted
pub record HasOneMore {A : Type 0} (item : A) (fewer more : List A) : Type 0 where
  pub prefix : List A
  pub back : List A
  pub fewer_is : fewer ≡ prefix ++ back
  pub more_is : more ≡ prefix ++ item ∷ back

pub one_more_first : {A : Type 0} (item : A) (xs : List A) → HasOneMore item xs (item ∷ xs)
one_more_first item xs = record { prefix = []; back = xs; fewer_is = refl; more_is = refl }

pub one_more_later : {A : Type 0} (x item : A) (fewer more : List A) → HasOneMore item fewer more → HasOneMore item (x ∷ fewer) (x ∷ more)
one_more_later x item fewer more h = record {
  prefix = x ∷ h.prefix;
  back = h.back;
  fewer_is = ap (λ xs. x ∷ xs) h.fewer_is;
  more_is = ap (λ xs. x ∷ xs) h.more_is;
}

pub sum_over-one_more : {A : Type 0} (item : A) (fewer more : List A) (f : A → ℤ) → HasOneMore item fewer more → sum_over more f ≡ f item +ℤ sum_over fewer f
sum_over-one_more item fewer more f h =
    ap (λ xs. sum_over xs f) h.more_is ∙ sum_over-append h.prefix (item ∷ h.back) f
    ∙ moved (sum_over h.prefix f) (f item) (sum_over h.back f)
    ∙ ap (λ z. f item +ℤ z) (sym (ap (λ xs. sum_over xs f) h.fewer_is ∙ sum_over-append h.prefix h.back f))
  where
    moved : (a b c : ℤ) → a +ℤ (b +ℤ c) ≡ b +ℤ (a +ℤ c)
    moved a b c = omega (arith, sums)

pub all-one_more : {A : Type 0} (P : A → Type 0) (item : A) (fewer more : List A) → HasOneMore item fewer more → P item → AllByRecursion P fewer → AllByRecursion P more
all-one_more P item fewer more h p all =
    let parts = subst (AllByRecursion P) h.fewer_is all in
    subst (AllByRecursion P) (sym h.more_is) (all-append P h.prefix (item ∷ h.back) (all_prefix P h.prefix h.back parts) (p, all_back P h.prefix h.back parts))

pub all_without : {A : Type 0} (P : A → Type 0) (item : A) (fewer more : List A) → HasOneMore item fewer more → AllByRecursion P more → AllByRecursion P fewer
all_without P item fewer more h all =
    let parts = subst (AllByRecursion P) h.more_is all in
    subst (AllByRecursion P) (sym h.fewer_is) (all-append P h.prefix h.back (all_prefix P h.prefix (item ∷ h.back) parts) (all_back P h.prefix (item ∷ h.back) parts).1)

pub item_of_one_more : {A : Type 0} (P : A → Type 0) (item : A) (fewer more : List A) → HasOneMore item fewer more → AllByRecursion P more → P item
item_of_one_more P item fewer more h all = (all_back P h.prefix (item ∷ h.back) (subst (AllByRecursion P) h.more_is all)).0

-- with the item if the test is true, and the same list otherwise
abbrev pub IsJoined : {A : Type 0} → Bool → A → List A → List A → Type 0
IsJoined true item fewer more = HasOneMore item fewer more
IsJoined false item fewer more = more ≡ fewer

pub joined_later : {A : Type 0} (yes : Bool) (x item : A) (fewer more : List A) → IsJoined yes item fewer more → IsJoined yes item (x ∷ fewer) (x ∷ more)
joined_later true x item fewer more h = one_more_later x item fewer more h
joined_later false x item fewer more h = ap (λ xs. x ∷ xs) h

-- ---- by indices

pub all_at : {A : Type 0} (P : A → Type 0) (xs : List A) (k : ℕ) (d : A) → AllByRecursion P xs → k < length xs → P (get_or xs k d)
all_at P [] k d all h = absurd (omega arith)
all_at P (x ∷ xs) zero d all h = all.0
all_at P (x ∷ xs) (suc k) d all h = all_at P xs k d all.1 (omega arith)

pub all_by_places : {A : Type 0} (P : A → Type 0) (xs : List A) (d : A) → ((k : ℕ) → k < length xs → P (get_or xs k d)) → AllByRecursion P xs
all_by_places P [] d h = tt
all_by_places P (x ∷ xs) d h = (h zero (omega arith), all_by_places P xs d (λ k l. h (suc k) (omega arith)))

pub all-take : {A : Type 0} (P : A → Type 0) (n : ℕ) (xs : List A) → AllByRecursion P xs → AllByRecursion P (take n xs)
all-take P zero xs all = tt
all-take P (suc n) [] all = tt
all-take P (suc n) (x ∷ xs) all = (all.0, all-take P n xs all.1)

pub all_unmapped : {A B : Type 0} (P : A → Type 0) (f : B → A) (xs : List B) → AllByRecursion P (map f xs) → AllByRecursion (λ x. P (f x)) xs
all_unmapped P f [] h = tt
all_unmapped P f (x ∷ xs) h = (h.0, all_unmapped P f xs h.1)

pub all_contained : {A : Type 0} (P : A → Type 0) (xs : List A) (x : A) → AllByRecursion P xs → Contains xs x → P x
all_contained P xs x all there = subst P there.2 (all_at P xs there.0 x all there.1)

pub all-map : {A B : Type 0} (P : A → Type 0) (f : B → A) (xs : List B) → AllByRecursion (λ x. P (f x)) xs → AllByRecursion P (map f xs)
all-map P f [] h = tt
all-map P f (x ∷ xs) h = (h.0, all-map P f xs h.1)

-- ---- membership

pub contains_first : {A : Type 0} (x : A) (xs : List A) → Contains (x ∷ xs) x
contains_first x xs = (zero, omega arith, refl)

pub contains_later : {A : Type 0} (x y : A) (xs : List A) → Contains xs x → Contains (y ∷ xs) x
contains_later x y xs there = (suc there.0, let h = there.1 in omega arith, there.2)

pub all_contain : {A : Type 0} (xs : List A) → AllByRecursion (Contains xs) xs
all_contain [] = tt
all_contain (x ∷ xs) = (contains_first x xs, all_weaker (Contains xs) (Contains (x ∷ xs)) (λ y there. contains_later y x xs there) xs (all_contain xs))

pub contains_one_more : {A : Type 0} (item : A) (fewer more : List A) → HasOneMore item fewer more → (x : A) → Contains (item ∷ fewer) x → Contains more x
contains_one_more item fewer more h x there =
    all_contained (Contains more) (item ∷ fewer) x (item_of_one_more (Contains more) item fewer more h (all_contain more), all_without (Contains more) item fewer more h (all_contain more)) there

pub one_more_nil : {A : Type 0} (x : A) (xs : List A) → HasOneMore x [] xs → xs ≡ x ∷ []
one_more_nil {A = A} x xs h = h.more_is ∙ go h.prefix h.back h.fewer_is
  where
    go : (prefix back : List A) → [] ≡ prefix ++ back → prefix ++ x ∷ back ≡ x ∷ []
    go [] back e = ap (λ ys. x ∷ ys) (sym e)
    go (y ∷ prefix) back e = absurd cc

-- ---- lengths, and the items that pass a test

pub length-more : {A : Type 0} (xs : List A) (x : A) → length (xs ++ x ∷ []) ≡ suc (length xs)
length-more [] x = refl
length-more (y ∷ ys) x = ap suc (length-more ys x)

-- copies of one item; the default is the same item
pub get_or-replicated : {A : Type 0} (n k : ℕ) (x : A) → get_or (replicate n x) k x ≡ x
get_or-replicated n k x = elim (cases_lt k n) [
  | inl in_range ↦ get_or-replicate n k x x in_range
  | inr past ↦ get_or_past (replicate n x) k x (omega (arith, length-replicate n x))
]

pub no_items : {A : Type 0} (xs : List A) → length xs ≡ 0 → xs ≡ []
no_items [] e = refl
no_items (x ∷ xs) e = absurd (omega arith)

pub filter_same : {A : Type 0} (p q : A → Bool) → ((x : A) → p x ≡ q x) → (xs : List A) → filter p xs ≡ filter q xs
filter_same p q h [] = refl
filter_same p q h (x ∷ xs) = rw (h x) (ap (λ ys. cond (q x) (x ∷ ys) ys) (filter_same p q h xs))

pub filter_or : {A : Type 0} (p q : A → Bool) (xs : List A) → length (filter (λ x. p x || q x) xs) ≤ length (filter p xs) + length (filter q xs)
filter_or p q [] = omega arith
filter_or p q (x ∷ xs) = go (p x) (q x) (filter_or p q xs)
  where
    go : (s t : Bool) → length (filter (λ x. p x || q x) xs) ≤ length (filter p xs) + length (filter q xs)
        → length (cond (s || t) (x ∷ filter (λ x. p x || q x) xs) (filter (λ x. p x || q x) xs)) ≤ length (cond s (x ∷ filter p xs) (filter p xs)) + length (cond t (x ∷ filter q xs) (filter q xs))
    go true true h = omega (arith, h)
    go true false h = omega (arith, h)
    go false true h = omega (arith, h)
    go false false h = omega (arith, h)
