-- Two matrices with one support and without cycle faults agree up to the signs of lines.
use Rattle.std.proofs.Common.{ℕ, suc, ℤ, pos, List, [], ◌∷◌, ◌≡◌, ◌≢◌, ◌<◌, ◌↔◌, ◌*ℤ◌, ◌∙◌, sym, ap, arith, subst, inl, inr}
use Rattle.std.proofs.lemmas.Bool.{cases_lt}
use Rattle.cmr_base.specs.Sums.{IsTwoModFour}
use Rattle.cmr_base.specs.Signing.{IsSign}
use Rattle.cmr_base.specs.Matrix.{IsEntry}
use Rattle.ghouila.proofs.Cycles.{IsCycle}
use Rattle.ghouila.proofs.SignedSums.{zero_or_sign}
use Rattle.cmr_base.specs.CyclePlaces.{IsPath, IsCyclePlace, HasNoCycleFault}
use Rattle.cmr_base.specs.Supports.{AgreeUpToSigns}
use Rattle.ghouila.proofs.SignProducts.{sign-mul, signs_stable, sign_nonzero}
use Rattle.ghouila.proofs.Ratios.{ratio, cycle_ratio}
use Rattle.ghouila.proofs.LinkedColumns.{agree}
use Rattle.ghouila.proofs.LeastLists.{least_list}
use Rattle.ghouila.proofs.Routes.{Route, route, reversed, place_cycle, sum_by_places}

abbrev SameSupport : (ℕ → ℕ → ℤ) → (ℕ → ℕ → ℤ) → Type 0
SameSupport M N = (i j : ℕ) → (M i j ≡ pos 0) ↔ (N i j ≡ pos 0)

path_same : (M N : ℕ → ℕ → ℤ) → SameSupport M N → (t c d : ℕ) (path : List ℕ) → IsPath M t c d path → IsPath N t c d path
path_same M N same t c d [] h = h
path_same M N same t c d (r ∷ []) (l, a, b) = (l, (λ e. a ((same r c).1 e)), (λ e. b ((same r d).1 e)))
path_same M N same t c d (r ∷ j ∷ rest) (l, a, b, z, h) = (l, (λ e. a ((same r c).1 e)), (λ e. b ((same r j).1 e)), (same t j).0 z, path_same M N same t j d rest h)

turn : (M N : ℕ → ℕ → ℤ) → SameSupport M N → SameSupport N M
turn M N same i j = ((same i j).1, (same i j).0)

-- the cycle places of a matrix are the cycle places of its support
pub place_same : (M N : ℕ → ℕ → ℤ) → SameSupport M N → (t c d : ℕ) (path : List ℕ) → IsCyclePlace M t c d path → IsCyclePlace N t c d path
place_same M N same t c d path p = record {
  order = p.order;
  first = λ e. p.first ((same t c).1 e);
  last = λ e. p.last ((same t d).1 e);
  is_path = path_same M N same t c d path p.is_path;
  least = λ other h. p.least other (path_same N M (turn M N same) t c d other h);
}

module _ (M N : ℕ → ℕ → ℤ) (small_m : (i j : ℕ) → IsEntry (M i j)) (small_n : (i j : ℕ) → IsEntry (N i j)) (same : SameSupport M N) (clean_m : HasNoCycleFault M) (clean_n : HasNoCycleFault N) where
  unit : (K : ℕ → ℕ → ℤ) → ((i j : ℕ) → IsEntry (K i j)) → (i j : ℕ) → K i j ≢ pos 0 → IsSign (K i j)
  unit K small i j h = elim (zero_or_sign (K i j) (small i j)) [ inl z ↦ absurd (h z) | inr u ↦ u ]

  unit_over : (i j : ℕ) → IsSign (M i j) → IsSign (N i j)
  unit_over i j u = unit N small_n i j (λ e. sign_nonzero (M i j) u ((same i j).1 e))

  cycle_same : (t k : ℕ) (row col : ℕ → ℕ) → IsCycle M t k row col → IsCycle N t k row col
  cycle_same t k row col c = record {
    long = c.long;
    here = λ i l. unit_over (row i) (col i) (c.here i l);
    next = λ i l. unit_over (row i) (col (suc i)) (c.next i l);
    none = λ i j l m d e. (same (row i) (col j)).0 (c.none i j l m d e);
    first = unit_over t (col 0) c.first;
    last = unit_over t (col k) c.last;
    inner = λ j l m. (same t (col j)).0 (c.inner j l m);
  }

  unit_ratio : (s : ℕ → ℤ) → ((j : ℕ) → IsSign (s j)) → (i j : ℕ) → M i j ≢ pos 0 → IsSign (ratio M N s i j)
  unit_ratio s units i j h = let u = unit M small_m i j h in sign-mul (s j *ℤ M i j) (N i j) (sign-mul (s j) (M i j) (units j) u) (unit_over i j u)

  module _ (s : ℕ → ℤ) (t : ℕ) (units : (j : ℕ) → IsSign (s j)) (rows : (i : ℕ) → i < t → (a b : ℕ) → M i a ≢ pos 0 → M i b ≢ pos 0 → ratio M N s i a ≡ ratio M N s i b) where
    -- the ratios at a cycle place
    at_place : (c d : ℕ) (path : List ℕ) → IsCyclePlace M t c d path → ratio M N s t c ≡ ratio M N s t d
    at_place c d path p = go (route M small_m t c d path p.is_path)
      where
        go : Route M small_m t c d path → ratio M N s t c ≡ ratio M N s t d
        go q =
            let cycle = place_cycle M small_m t c d path p q in
            ap (ratio M N s t) (sym q.way.starts)
            ∙ sym (cycle_ratio M N s t q.k q.way.row q.way.col units cycle (cycle_same t q.k q.way.row q.way.col cycle)
            (λ i l. rows (q.way.row i) (q.way.rows i l) (q.way.col (suc i)) (q.way.col i) (sign_nonzero (M (q.way.row i) (q.way.col (suc i))) (q.way.next i l)) (sign_nonzero (M (q.way.row i) (q.way.col i)) (q.way.here i l)))
            (λ two. clean_m t c d path (record { place = p; two_mod_four = subst IsTwoModFour (sym (sum_by_places M small_m t c d path q M)) two }))
            (λ two. clean_n t c d path (record { place = place_same M N same t c d path p; two_mod_four = subst IsTwoModFour (sym (sum_by_places M small_m t c d path q N)) two })))
            ∙ ap (ratio M N s t) q.way.ends

    in_order : (c d : ℕ) (path : List ℕ) → c < d → M t c ≢ pos 0 → M t d ≢ pos 0 → IsPath M t c d path → ratio M N s t c ≡ ratio M N s t d
    in_order c d path l a b h = signs_stable (ratio M N s t c) (ratio M N s t d) (unit_ratio s units t c a) (unit_ratio s units t d b)
        (λ differ. least_list (IsPath M t c d) path h (λ q g least. differ (at_place c d q (record { order = l; first = a; last = b; is_path = g; least = least }))))

    pub forced : (c d : ℕ) (path : List ℕ) → M t c ≢ pos 0 → M t d ≢ pos 0 → IsPath M t c d path → ratio M N s t c ≡ ratio M N s t d
    forced c d path a b h = elim (cases_lt c d) [
      | inl lt ↦ in_order c d path lt a b h
      | inr ge ↦ elim (cases_lt d c) [
        | inl lt ↦ let w = reversed M small_m t c d path h in sym (in_order d c w.0 lt b a w.1)
        | inr ge' ↦ let e : c ≡ d = omega arith in ap (ratio M N s t) e
      ]
    ]

  pub signs_agree : (m n : ℕ) → ((i j : ℕ) → M i j ≢ pos 0 → (i < m) × (j < n)) → AgreeUpToSigns M N
  signs_agree m n within = agree n M N small_m small_n (λ i j h. (within i j h).1) (λ i j h e. h ((same i j).1 e)) (λ i j z. (same i j).0 z)
      (λ s t c d path units rows a b h. forced s t units rows c d path a b h) m (λ i j h. (within i j h).0)
