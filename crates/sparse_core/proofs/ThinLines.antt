-- Zero and unit lines are reducible.
use Rattle.std.proofs.Common.{◌≡◌, ◌≢◌, ◌≤◌, ◌∙◌, ◌⊎◌, inl, inr, ℕ, zero, suc, ℤ, pos, Bool, true, false, nat_eq, cond, List, [], ◌∷◌, Option, Some, None, find, option_map, refl, ap, sym, subst, arith}
use Rattle.std.specs.List.{Contains}
use Rattle.std.specs.Option.{option_or}
use Rattle.cmr_base.specs.declared.line.Line.{Line}
use Rattle.cmr_base.specs.declared.line.Reason.{Reason}
use Rattle.cmr_base.specs.declared.line.Reason.TheVariants.{Zero, Unit as One, Copy, Negative}
use Rattle.cmr_base.specs.Matrix.{is_nonzero}
use Rattle.cmr_base.specs.Members.{IsIn}
use Rattle.cmr_base.specs.Reductions.{nonzeros_at, first_equal, first_reason}
use Rattle.cmr_base.proofs.Booleans.{two_cases, eq_of, same_or_not, is_nonzero_is, nonzero_is, true_is_false}
use Rattle.cmr_base.proofs.ListsWithout.{in_from_contains}
use Rattle.cmr_base.proofs.ThinLines.{counted_none, count_from_thin, thin_from_count}
use Rattle.ghouila.specs.Found.{marked}
use Rattle.ghouila.proofs.MarkedMembers.{in_marked}
use Rattle.sparse_core.specs.Nonzeros.{HasTwo, RemainsAt, IsOnly, IsZeroOn, HasThinReason}
use Rattle.sparse_core.specs.TwoCores.{IsThinReason}
use Rattle.sparse_matrix.proofs.MarkedLines.{contains_marked}
use Rattle.sparse_core.proofs.Marks.{distinct_marks}

-- the only item of a list that passes the test
find_only : (test : ℕ → Bool) (xs : List ℕ) (only : ℕ) → IsIn only xs → test only ≡ true → ((x : ℕ) → IsIn x xs → test x ≡ true → x ≡ only) → find test xs ≡ Some only
find_only test [] only h t unique = absurd h
find_only test (x ∷ xs) only h t unique = go (test x) refl h (λ g. find_only test xs only g t (λ y i. unique y (inr i)))
  where
    go : (b : Bool) → test x ≡ b → (only ≡ x) ⊎ IsIn only xs → (IsIn only xs → find test xs ≡ Some only) → cond b (Some x) (find test xs) ≡ Some only
    go true e h k = ap (λ (n : ℕ). Some n) (unique x (inl refl) e)
    go false e (inl q) k = true_is_false (sym t ∙ ap test q ∙ e)
    go false e (inr g) k = k g

none_counted : (xs : List ℕ) (f : ℕ → ℤ) → ((x : ℕ) → IsIn x xs → f x ≡ pos 0) → nonzeros_at xs f ≤ 0
none_counted xs f zeros = go xs zeros
  where
    go : (ys : List ℕ) → ((x : ℕ) → IsIn x ys → f x ≡ pos 0) → nonzeros_at ys f ≤ 0
    go [] h = omega arith
    go (y ∷ ys) h = rw (h y (inl refl)) (go ys (λ x i. h x (inr i)))

module _ (f : ℕ → ℤ) (marks : List Bool) where
  abbrev crossing : List ℕ
  crossing = marked marks

  zero_count : IsZeroOn f marks → nonzeros_at crossing f ≡ 0
  zero_count zeros = let none_left = none_counted crossing f (λ x i. zeros x ((in_marked marks x).0 i)) in omega (arith, none_left)

  only_is : (k x : ℕ) → IsOnly f marks k → IsIn x crossing → f x ≢ pos 0 → x ≡ k
  only_is k x only i n = elim (same_or_not x k) [
    | inl e ↦ e
    | inr d ↦ absurd (n (only.zeros x d ((in_marked marks x).0 i)))
  ]

  one_count : (k : ℕ) → IsOnly f marks k → nonzeros_at crossing f ≡ 1
  one_count k only =
      let most = count_from_thin crossing f (distinct_marks marks) (λ x y i j n p. only_is k x only i n ∙ sym (only_is k y only j p)) in
      let some : nonzeros_at crossing f ≢ 0 = λ e. counted_none crossing f e k ((in_marked marks k).1 only.here.remains) only.here.nonzero in
      exact (nonzeros_at crossing f) most some
    where
      exact : (n : ℕ) → n ≤ 1 → n ≢ 0 → n ≡ 1
      exact zero l d = absurd (d refl)
      exact (suc n) l d = omega (arith, l)

  find_is : (k : ℕ) → IsOnly f marks k → find (λ x. is_nonzero (f x)) crossing ≡ Some k
  find_is k only = find_only (λ x. is_nonzero (f x)) crossing k ((in_marked marks k).1 only.here.remains) (is_nonzero_is (f k) only.here.nonzero)
      (λ x i t. only_is k x only i (nonzero_is (f x) t))

pub thin_is : (f : ℕ → ℤ) (marks : List Bool) (cross : ℕ → Line) (reason : Reason) → HasThinReason f marks cross reason → IsThinReason reason
thin_is f marks cross Zero h = tt
thin_is f marks cross (One line) h = tt
thin_is f marks cross (Copy line) h = h
thin_is f marks cross (Negative line) h = h

-- the reason is that of series-parallel reductions
pub reason_is : (binary : Bool) (M : ℕ → ℕ → ℤ) (kind cross : ℕ → Line) (lines : List ℕ) (marks : List Bool) (line : ℕ) (reason : Reason) → HasThinReason (M line) marks cross reason
    → first_reason binary M kind cross lines (marked marks) line ≡ Some reason
reason_is binary M kind cross lines marks line Zero h = rw (zero_count (M line) marks h) refl
reason_is binary M kind cross lines marks line (One other) h = rw (one_count (M line) marks h.0 h.2, find_is (M line) marks h.0 h.2) (ap (λ (l : Line). Some (One l)) (sym h.1))
reason_is binary M kind cross lines marks line (Copy other) h = absurd h
reason_is binary M kind cross lines marks line (Negative other) h = absurd h

-- the same for the same nonzeros
pub thin_same : (f g : ℕ → ℤ) (marks : List Bool) (cross : ℕ → Line) (reason : Reason) → ((k : ℕ) → g k ≡ f k) → HasThinReason f marks cross reason → HasThinReason g marks cross reason
thin_same f g marks cross Zero e h = λ k m. e k ∙ h k m
thin_same f g marks cross (One line) e h = (
  h.0,
  h.1,
  record {
    here = record { remains = h.2.here.remains; nonzero = λ z. h.2.here.nonzero (sym (e h.0) ∙ z) };
    zeros = λ k d m. e k ∙ h.2.zeros k d m;
  },
)
thin_same f g marks cross (Copy line) e h = h
thin_same f g marks cross (Negative line) e h = h

pub two_same : (f g : ℕ → ℤ) (places : List ℕ) → ((k : ℕ) → g k ≡ f k) → HasTwo f places → HasTwo g places
two_same f g places e h = record {
  first = h.first;
  second = h.second;
  apart = h.apart;
  first_in = h.first_in;
  second_in = h.second_in;
  first_nonzero = λ z. h.first_nonzero (sym (e h.first) ∙ z);
  second_nonzero = λ z. h.second_nonzero (sym (e h.second) ∙ z);
}

pub two_left : (f : ℕ → ℤ) (marks : List Bool) (first other : ℕ) → RemainsAt f marks first → (other ≢ first) × RemainsAt f marks other → HasTwo f (marked marks)
two_left f marks first other one (apart, two) = record {
  first = first;
  second = other;
  apart = λ e. apart (sym e);
  first_in = contains_marked marks first one.remains;
  second_in = contains_marked marks other two.remains;
  first_nonzero = one.nonzero;
  second_nonzero = two.nonzero;
}

-- a zero line or a unit line has at most one nonzero
pub few_nonzeros : (M : ℕ → ℕ → ℤ) (kind cross : ℕ → Line) (lines C : List ℕ) (line : ℕ) (reason : Reason) → first_reason true M kind cross lines C line ≡ Some reason → IsThinReason reason
    → nonzeros_at C (M line) ≤ 1
few_nonzeros M kind cross lines C line reason e thin = go (two_cases (nat_eq (nonzeros_at C (M line)) 0)) (two_cases (nat_eq (nonzeros_at C (M line)) 1))
  where
    none : {A B : Type 0} {a : A} → ◌≡◌ {A = Option A} None (Some a) → B
    none e = absurd (no e)
      where
        no : {A : Type 0} {a : A} → ◌≡◌ {A = Option A} None (Some a) → ⊥
        no e = cc

    copy_thin : (x : Option ℕ) → option_or (option_map (λ other. Copy (kind other)) x) None ≡ Some reason → nonzeros_at C (M line) ≤ 1
    copy_thin (Some other) f = absurd (subst IsThinReason (sym (some_same f)) thin)
      where
        some_same : {a b : Reason} → ◌≡◌ {A = Option Reason} (Some a) (Some b) → a ≡ b
        some_same e = cc
    copy_thin None f = none f

    go : (nat_eq (nonzeros_at C (M line)) 0 ≡ true) ⊎ (nat_eq (nonzeros_at C (M line)) 0 ≡ false)
        → (nat_eq (nonzeros_at C (M line)) 1 ≡ true) ⊎ (nat_eq (nonzeros_at C (M line)) 1 ≡ false) → nonzeros_at C (M line) ≤ 1
    go (inl t) u = let none_left = eq_of (nonzeros_at C (M line)) 0 t in omega (arith, none_left)
    go (inr f) (inl t) = let one_left = eq_of (nonzeros_at C (M line)) 1 t in omega (arith, one_left)
    go (inr f) (inr g) = copy_thin (first_equal M lines C line (M line)) (sym (rw (f, g) refl) ∙ e)

-- so it has no two nonzeros, also at fewer crossing lines
pub thin_no_two : (f : ℕ → ℤ) (C D : List ℕ) → nonzeros_at C f ≤ 1 → ((k : ℕ) → Contains D k → Contains C k) → HasTwo f D → ⊥
thin_no_two f C D few within two =
    two.apart (thin_from_count C f few two.first two.second (in_c two.first two.first_in) (in_c two.second two.second_in) two.first_nonzero two.second_nonzero)
  where
    in_c : (k : ℕ) → Contains D k → IsIn k C
    in_c k h = in_from_contains C k (within k h)
