-- Among things with keys there is one with the first key.
use Rattle.std.proofs.Common.{◌≡◌, ◌<◌, inl, inr, ℕ, zero, suc, List, [], ◌∷◌, length, refl, ap, subst, arith}
use Rattle.cmr_base.specs.Seeds.{IsBefore}
use Rattle.decompositions_exist.proofs.NotExcluded.{NotExcluded}

-- the least number with a property
pub record IsLeast (P : ℕ → Type 0) (k : ℕ) : Type 0 where
  pub has : P k
  pub least : (j : ℕ) → j < k → ¬ (P j)

none_below : (P : ℕ → Type 0) → ((k : ℕ) → ¬ (IsLeast P k)) → (bound k : ℕ) → k < bound → ¬ (P k)
none_below P none zero k l has = omega (arith, l)
none_below P none (suc bound) k l has = none k (record { has = has; least = λ j less. none_below P none bound j (omega (arith, l, less)) })

pub least_number : (P : ℕ → Type 0) (n : ℕ) → P n → NotExcluded ((k : ℕ) × IsLeast P k)
least_number P n has none = none_below P (λ k is. none (k, is)) (suc n) n (omega arith) has

-- the first list of a length with a property
pub record IsFirstList (P : List ℕ → Type 0) (n : ℕ) (xs : List ℕ) : Type 0 where
  pub size : length xs ≡ n
  pub has : P xs
  pub first : (ys : List ℕ) → length ys ≡ n → P ys → ¬ (IsBefore ys xs)

-- some list of this length with this first number has the property
pub record BeginsSome (P : List ℕ → Type 0) (n k : ℕ) : Type 0 where
  pub rest : List ℕ
  pub size : length rest ≡ n
  pub has : P (k ∷ rest)

pub first_list : (P : List ℕ → Type 0) (n : ℕ) (xs : List ℕ) → length xs ≡ n → P xs → NotExcluded ((ys : List ℕ) × IsFirstList P n ys)
first_list P n [] e has none = none ([], record { size = e; has = has; first = last })
  where
    last : (ys : List ℕ) → length ys ≡ n → P ys → ¬ (IsBefore ys [])
    last [] l h b = b
    last (y ∷ ys) l h b = b
first_list P zero (x ∷ xs) e has none = omega (arith, e)
first_list P (suc n) (x ∷ xs) e has none =
    least_number (BeginsSome P n) x (record { rest = xs; size = omega (arith, e); has = has }) (λ number.
    first_list (λ rest. P (number.0 ∷ rest)) n number.1.has.rest number.1.has.size number.1.has.has (λ found.
    none (number.0 ∷ found.0, record { size = ap suc found.1.size; has = found.1.has; first = earliest number.0 number.1.least found.0 found.1.first })))
  where
    earliest : (k : ℕ) → ((j : ℕ) → j < k → ¬ (BeginsSome P n j)) → (rest : List ℕ) → ((ys : List ℕ) → length ys ≡ n → P (k ∷ ys) → ¬ (IsBefore ys rest))
        → (ys : List ℕ) → length ys ≡ suc n → P ys → ¬ (IsBefore ys (k ∷ rest))
    earliest k least rest first [] l h b = b
    earliest k least rest first (y ∷ ys) l h (inl less) = least y less (record { rest = ys; size = omega (arith, l); has = h })
    earliest k least rest first (y ∷ ys) l h (inr later) = first ys (omega (arith, l)) (subst (λ j. P (j ∷ ys)) later.0 h) later.1

-- a thing with the first key
pub record IsFirstBy {A : Type 0} (key : A → List ℕ) (P : A → Type 0) (a : A) : Type 0 where
  pub has : P a
  pub first : (b : A) → P b → ¬ (IsBefore (key b) (key a))

-- a thing with this key has the property
record HasKey {A : Type 0} (key : A → List ℕ) (P : A → Type 0) (ys : List ℕ) : Type 0 where
  thing : A
  is : key thing ≡ ys
  has : P thing

pub first_key : {A : Type 0} (key : A → List ℕ) (n : ℕ) → ((a : A) → length (key a) ≡ n) → (P : A → Type 0) (a : A) → P a → NotExcluded ((b : A) × IsFirstBy key P b)
first_key key n size P a has none =
    first_list (HasKey key P) n (key a) (size a) (record { thing = a; is = refl; has = has }) (λ found.
    let it = found.1.has in
    none (it.thing, record { has = it.has; first = λ b h before. found.1.first (key b) (size b) (record { thing = b; is = refl; has = h }) (subst (IsBefore (key b)) it.is before) }))
