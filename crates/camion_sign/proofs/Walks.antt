-- Invariants of breadth-first walks, over functions of the position.
use Rattle.std.proofs.Common.{ℕ, zero, suc, Bool, true, false, cond, nat_eq, ℤ, pos, ◌+ℤ◌, List, [], ◌∷◌, ◌++◌, ◌≡◌, ◌≢◌, ◌<◌, ◌≤◌, ◌⊎◌, inl, inr, ◌∙◌, sym, ap, refl, arith, subst, length}
use Rattle.std.proofs.lemmas.Bool.{cases_lt, cases_eq}
use Rattle.cmr_base.specs.Members.{IsIn, IsDistinct}
use Rattle.cmr_base.proofs.Integers.{sums}
use Rattle.cmr_base.proofs.Members.{distinct_few}
use Rattle.cmr_base.proofs.Booleans.{is_ne, self_eq, true_is_false}
use Rattle.camion_sign.specs.Trails.{IsShortlexBefore, IsUpTo, IsTrail, trail_end, trail_sum}
use Rattle.camion_sign.specs.Walks.{Progress, IsQueue, IsWanted, Goes, IsMet, IsPrefix, IsSettled, TwoIf, flip}
use Rattle.camion_sign.proofs.Trails.{before_trans, up_to_before, before_up_to, up_to_trans, before_more, up_to_more, next_before, longer_before, length_more, trail_more, end_more, sum_more, last_step, HasLast}

pub two_add : (a b : Bool) (x y : ℤ) → TwoIf a x → TwoIf b y → TwoIf (flip a b) (x +ℤ y)
two_add true true x y (k, e) (l, f) = ((k +ℤ l) +ℤ pos 1, omega (arith, sums))
two_add true false x y (k, e) (l, f) = (k +ℤ l, omega (arith, sums))
two_add false true x y (k, e) (l, f) = (k +ℤ l, omega (arith, sums))
two_add false false x y (k, e) (l, f) = (k +ℤ l, omega (arith, sums))

-- the walk reaches another column
pub record IsOneMore (s s' : Progress) (x r h : ℕ) (two : Bool) : Type 0 where
  pub count : s'.count ≡ suc s.count
  pub column : s'.column s.count ≡ x
  pub columns : (j : ℕ) → j < s.count → s'.column j ≡ s.column j
  pub row : s'.row s.count ≡ r
  pub rows : (j : ℕ) → j < s.count → s'.row j ≡ s.row j
  pub before : s'.before s.count ≡ h
  pub befores : (j : ℕ) → j < s.count → s'.before j ≡ s.before j
  pub is_two : s'.is_two s.count ≡ two
  pub twos : (j : ℕ) → j < s.count → s'.is_two j ≡ s.is_two j
  pub place : s'.place x ≡ s.count
  pub places : (z : ℕ) → z ≢ x → s'.place z ≡ s.place z
  pub used : (q : ℕ) → s'.used q ≡ s.used q

module _ (M V : ℕ → ℕ → ℤ) (t c n : ℕ) where
  module _ (s : Progress) (key : ℕ → List ℕ) where
    -- the walk reaches at most all columns
    pub few : IsQueue M V t c n s key → s.count ≤ n
    few w = subst (λ (x : ℕ). x ≤ n) (list_length s.count) (distinct_few n (list s.count) (apart s.count (omega arith)) (λ x g. let v = from_list s.count x g in subst (λ (y : ℕ). y < n) v.2 (w.inside v.0 v.1)))
      where
        list : ℕ → List ℕ
        list zero = []
        list (suc k) = s.column k ∷ list k

        list_length : (k : ℕ) → length (list k) ≡ k
        list_length zero = refl
        list_length (suc k) = let e = list_length k in omega arith

        from_list : (k x : ℕ) → IsIn x (list k) → (j : ℕ) × (j < k) × (s.column j ≡ x)
        from_list zero x g = absurd g
        from_list (suc k) x (inl e) = (k, omega arith, sym e)
        from_list (suc k) x (inr g) = let v = from_list k x g in (v.0, let l = v.1 in omega arith, v.2)

        apart : (k : ℕ) → k ≤ s.count → IsDistinct (list k)
        apart zero l = tt
        apart (suc k) l = (
          (λ g. let v = from_list k (s.column k) g in
              let a = w.placed v.0 (let m = v.1 in omega arith) in
              let b = w.placed k (omega arith) in
              let e = ap s.place v.2 in
              let m = v.1 in omega arith),
          apart k (omega arith),
        )

    -- fewer lines are examined again
    pub fewer : (h : ℕ) (P Q : ℕ → ℕ → Type 0) → IsPrefix M V t c n s key h P → ((r x : ℕ) → Q r x → P r x) → IsPrefix M V t c n s key h Q
    fewer h P Q w f = record {
      queue = w.queue;
      fits = w.fits;
      done = w.done;
      gone = w.gone;
      prefix = λ j r x l m q. w.prefix j r x l m (f r x q);
    }

    -- a column that is met already is met no later
    pub met_before : (h r x : ℕ) (P : ℕ → ℕ → Type 0) → IsPrefix M V t c n s key h P → h < s.count → s.place x < 4294967295 → P r x → IsMet M V t c n s key x (key h ++ r ∷ x ∷ [])
    met_before h r x P w l met p = (met, inl (w.prefix (s.place x) r x (w.queue.listed x met).0 l p))

    -- position h is done: the walk has taken all rows before t that meet its column
    pub next : (h r0 x0 : ℕ) (P Q : ℕ → ℕ → Type 0) → IsPrefix M V t c n s key h P → h < s.count → P r0 x0
        → ((r : ℕ) → Goes M V t c n s key h → r < t → M r (s.column h) ≢ pos 0 → s.used r ≡ true) → IsPrefix M V t c n s key (suc h) Q
    next h r0 x0 P Q w l p all = record {
      queue = w.queue;
      fits = omega arith;
      done = λ i r x m goes early from to needed. elim (cases_lt i h) [
        | inl lt ↦ w.done i r x lt goes early from to needed
        | inr ge ↦ let q : h ≡ i = omega arith in here i q r x (all r (subst (Goes M V t c n s key) (sym q) goes) early (subst (λ (v : ℕ). M r (s.column v) ≢ pos 0) (sym q) from)) to needed
      ];
      gone = λ r x u to needed. let v = w.gone r x u to needed in (v.0, λ m. inl (up_to_before (key (s.place x)) (key h ++ r ∷ x ∷ []) (key (suc h) ++ r ∷ x ∷ []) (v.1 l) (before_more (key h) (key (suc h)) r x r x (w.queue.sorted h (suc h) (omega arith) m))));
      prefix = λ j r x m k q. before_trans (key j) (key h ++ r0 ∷ x0 ∷ []) (key (suc h) ++ r ∷ x ∷ []) (w.prefix j r0 x0 m l p) (before_more (key h) (key (suc h)) r0 x0 r x (w.queue.sorted h (suc h) (omega arith) k));
    }
      where
        here : (i : ℕ) → h ≡ i → (r x : ℕ) → s.used r ≡ true → M r x ≢ pos 0 → IsWanted M t c x → IsMet M V t c n s key x (key i ++ r ∷ x ∷ [])
        here i q r x u to needed = let v = w.gone r x u to needed in (v.0, subst (λ (j : ℕ). IsUpTo (key (s.place x)) (key j ++ r ∷ x ∷ [])) q (v.1 l))

    -- within position h everything is settled, if each row that meets its column is taken or next
    pub settles : (h r0 x0 : ℕ) (P : ℕ → ℕ → Type 0) → IsPrefix M V t c n s key h P → h < s.count → P r0 x0
        → ((r x : ℕ) → r < t → M r (s.column h) ≢ pos 0 → (s.used r ≡ true) ⊎ P r x) → IsSettled M V t c n s key
    settles h r0 x0 P w l p all i r x lines m goes early from to needed le = elim (cases_lt i h) [
      | inl lt ↦ let v = w.done i r x lt goes early from to needed in inl (v.0, up_to_trans (key (s.place x)) (key i ++ r ∷ x ∷ []) (lines ++ r ∷ x ∷ []) v.1 (up_to_more (key i) lines r x le))
      | inr ge ↦ elim (cases_lt h i) [
        | inl lt ↦ inr (λ j k. before_trans (key j) (key h ++ r0 ∷ x0 ∷ []) (lines ++ r ∷ x ∷ []) (w.prefix j r0 x0 k l p)
            (before_more (key h) lines r0 x0 r x (before_up_to (key h) (key i) lines (w.queue.sorted h i lt m) le)))
        | inr ge' ↦ let q : i ≡ h = omega arith in here (subst (λ (v : ℕ). IsUpTo (key v) lines) q le) (all r x early (subst (λ (v : ℕ). M r (s.column v) ≢ pos 0) q from))
      ]
    ]
      where
        here : IsUpTo (key h) lines → (s.used r ≡ true) ⊎ P r x → IsMet M V t c n s key x (lines ++ r ∷ x ∷ []) ⊎ ((j : ℕ) → j < s.count → IsShortlexBefore (key j) (lines ++ r ∷ x ∷ []))
        here e (inl u) = let v = w.gone r x u to needed in inl (v.0, up_to_trans (key (s.place x)) (key h ++ r ∷ x ∷ []) (lines ++ r ∷ x ∷ []) (v.1 l) (up_to_more (key h) lines r x e))
        here e (inr q) = inr (λ j k. before_up_to (key j) (key h ++ r ∷ x ∷ []) (lines ++ r ∷ x ∷ []) (w.prefix j r x k l q) (up_to_more (key h) lines r x e))

    -- each trail ends in a column that is met by a trail that is not after it; or it is late
    compare : (Late : List ℕ → Type 0) → IsQueue M V t c n s key → ((lines : List ℕ) (r x : ℕ) → Late lines → Late (lines ++ r ∷ x ∷ []))
        → ((i r x : ℕ) (lines : List ℕ) → i < s.count → Goes M V t c n s key i → r < t → M r (s.column i) ≢ pos 0 → M r x ≢ pos 0 → IsWanted M t c x → IsUpTo (key i) lines → IsMet M V t c n s key x (lines ++ r ∷ x ∷ []) ⊎ Late (lines ++ r ∷ x ∷ []))
        → (size : ℕ) (lines : List ℕ) → length lines < size → IsTrail M t c lines → (lines ≡ []) ⊎ IsWanted M t c (trail_end c lines) → IsMet M V t c n s key (trail_end c lines) lines ⊎ Late lines
    compare Late w more settle zero lines l h ends = absurd (omega arith)
    compare Late w more settle (suc size) lines l h ends = go (last_step M t c lines h) (λ prefix m g f. compare Late w more settle size prefix m g f)
      where
        at_start : s.place c ≡ 0
        at_start = ap s.place (sym w.first) ∙ w.placed 0 w.some

        go : (lines ≡ []) ⊎ HasLast M t c lines
            → ((prefix : List ℕ) → length prefix < size → IsTrail M t c prefix → (prefix ≡ []) ⊎ IsWanted M t c (trail_end c prefix) → IsMet M V t c n s key (trail_end c prefix) prefix ⊎ Late prefix)
            → IsMet M V t c n s key (trail_end c lines) lines ⊎ Late lines
        go (inl e) k = subst (λ (v : List ℕ). IsMet M V t c n s key (trail_end c v) v ⊎ Late v) (sym e) (inl (let a = at_start in omega arith, inr (ap key at_start ∙ w.start)))
        go (inr p) k = subst (λ (v : List ℕ). IsMet M V t c n s key (trail_end c v) v ⊎ Late v) (sym p.lines_are)
            (subst (λ (x : ℕ). IsMet M V t c n s key x (p.prefix ++ p.row ∷ p.column ∷ []) ⊎ Late (p.prefix ++ p.row ∷ p.column ∷ [])) (sym (end_more M t c p.prefix p.row p.column p.trail))
            (elim (k p.prefix (let e = ap length p.lines_are in let f = length_more p.prefix p.row p.column in omega arith) p.trail (elim p.goes [ inl e ↦ inl e | inr z ↦ inr (inl z) ])) [
              | inl met ↦ step met
              | inr late ↦ inr (more p.prefix p.row p.column late)
            ]))
          where
            needed : IsWanted M t c p.column
            needed = elim ends [
              | inl e ↦ absurd (let a = ap length e in let b = ap length p.lines_are in let f = length_more p.prefix p.row p.column in omega arith)
              | inr z ↦ subst (IsWanted M t c) (ap (trail_end c) p.lines_are ∙ end_more M t c p.prefix p.row p.column p.trail) z
            ]

            step : IsMet M V t c n s key (trail_end c p.prefix) p.prefix → IsMet M V t c n s key p.column (p.prefix ++ p.row ∷ p.column ∷ []) ⊎ Late (p.prefix ++ p.row ∷ p.column ∷ [])
            step met =
                let v = w.listed (trail_end c p.prefix) met.0 in
                settle (s.place (trail_end c p.prefix)) p.row p.column p.prefix v.0
                (elim p.goes [ inl e ↦ inl (ap (λ (u : List ℕ). s.place (trail_end c u)) e ∙ at_start) | inr z ↦ inr (ap (M t) v.1 ∙ z) ])
                p.early (subst (λ (y : ℕ). M p.row y ≢ pos 0) (sym v.1) p.from) p.to needed met.1

    -- if everything is settled, the trails to the columns that are met are least
    pub least : IsQueue M V t c n s key → IsSettled M V t c n s key → (d : ℕ) (lines : List ℕ) → c < d → s.place d < 4294967295 → IsTrail M t c lines
        → trail_end c lines ≡ d → IsUpTo (key (s.place d)) lines
    least w settled d lines order met h e =
        elim (compare (λ (ls : List ℕ). (j : ℕ) → j < s.count → IsShortlexBefore (key j) ls) w (λ ls r x late j l. before_trans (key j) ls (ls ++ r ∷ x ∷ []) (late j l) (longer_before ls r x)) settled (suc (length lines)) lines (omega arith) h (inr (inr (omega (arith, order, e))))) [
          | inl v ↦ subst (λ (y : ℕ). IsUpTo (key (s.place y)) lines) e v.1
          | inr late ↦ inl (late (s.place d) (w.listed d met).0)
        ]

    -- if all positions are done, each trail ends in a column that is met
    pub all_met : (P : ℕ → ℕ → Type 0) → IsPrefix M V t c n s key s.count P → (lines : List ℕ) → IsTrail M t c lines → IsWanted M t c (trail_end c lines) → s.place (trail_end c lines) < 4294967295
    all_met P w lines h ends =
        elim (compare (λ (ls : List ℕ). ⊥) w.queue (λ ls r x late. late)
        (λ i r x ls l goes early from to needed le. let v = w.done i r x l goes early from to needed in inl (v.0, up_to_trans (key (s.place x)) (key i ++ r ∷ x ∷ []) (ls ++ r ∷ x ∷ []) v.1 (up_to_more (key i) ls r x le)))
        (suc (length lines)) lines (omega arith) h (inr ends)) [ inl v ↦ v.0 | inr late ↦ absurd late ]

    pub all_settled : (P : ℕ → ℕ → Type 0) → IsPrefix M V t c n s key s.count P → IsSettled M V t c n s key
    all_settled P w i r x lines l goes early from to needed le =
        let v = w.done i r x l goes early from to needed in
        inl (v.0, up_to_trans (key (s.place x)) (key i ++ r ∷ x ∷ []) (lines ++ r ∷ x ∷ []) v.1 (up_to_more (key i) lines r x le))

  -- the walk begins
  pub begin : (s : Progress) (P : ℕ → ℕ → Type 0) → c < n → s.count ≡ 1 → s.column 0 ≡ c → s.is_two 0 ≡ false → s.place c ≡ 0
      → ((z : ℕ) → z ≢ c → s.place z ≡ 4294967295) → ((r : ℕ) → s.used r ≡ false) → IsPrefix M V t c n s (λ j. []) 0 P
  begin s P inside one first even place places unused = record {
    queue = record {
      some = omega arith;
      first = first;
      start = refl;
      inside = λ j l. let z : j ≡ 0 = omega arith in subst (λ (x : ℕ). x < n) (sym (ap s.column z ∙ first)) inside;
      placed = λ j l. let z : j ≡ 0 = omega arith in ap (λ (v : ℕ). s.place (s.column v)) z ∙ ap s.place first ∙ place ∙ sym z;
      listed = λ x m. let q = here x m in (let a = ap s.place q in omega arith, ap (λ (v : ℕ). s.column (s.place v)) q ∙ ap s.column place ∙ first ∙ sym q);
      topped = λ x. elim (cases_eq x c) [ inl q ↦ (let a = ap s.place q in omega arith) | inr q ↦ (let a = places x q in omega arith) ];
      sorted = λ i j l m. absurd (omega arith);
      trail = λ j l. tt;
      ends = λ j l. let z : j ≡ 0 = omega arith in sym (ap s.column z ∙ first);
      sums = λ j l. let z : j ≡ 0 = omega arith in subst (λ (b : Bool). TwoIf b (pos 0)) (sym (ap s.is_two z ∙ even)) (pos 0, refl);
      earlier = λ j l m. absurd (omega arith);
      parent = λ j l m. absurd (omega arith);
    };
    fits = omega arith;
    done = λ i r x l. absurd (omega arith);
    gone = λ r x u. true_is_false (sym u ∙ unused r);
    prefix = λ j r x l m p. longer_before [] r x;
  }
    where
      here : (x : ℕ) → s.place x < 4294967295 → x ≡ c
      here x m = elim (cases_eq x c) [ inl q ↦ q | inr q ↦ absurd (let a = places x q in omega arith) ]

  -- the walk reaches column x from position h by row r
  module _ (s s' : Progress) (key : ℕ → List ℕ) (h r x : ℕ) (same : Bool) where
    pub with_key : ℕ → List ℕ
    with_key j = cond (nat_eq j s.count) (key h ++ r ∷ x ∷ []) (key j)

    old_key : (j : ℕ) → j < s.count → with_key j ≡ key j
    unfolding with_key
    old_key j l = ap (λ (b : Bool). cond b (key h ++ r ∷ x ∷ []) (key j)) (is_ne j s.count (λ e. omega arith))

    new_key : (j : ℕ) → j ≡ s.count → with_key j ≡ key h ++ r ∷ x ∷ []
    unfolding with_key
    new_key j e = ap (λ (i : ℕ). cond (nat_eq i s.count) (key h ++ r ∷ x ∷ []) (key i)) e ∙ ap (λ (b : Bool). cond b (key h ++ r ∷ x ∷ []) (key s.count)) (self_eq s.count)

    module _ (P Q : ℕ → ℕ → Type 0) (low : n < 4294967295) (w : IsPrefix M V t c n s key h P) (l : h < s.count) (o : IsOneMore s s' x r h (flip (s.is_two h) same)) (unmet : s.place x ≡ 4294967295) where
      few_top : s.count < 4294967295
      few_top = let b = few s key w.queue in omega arith

      -- a column that is met keeps its position and its trail
      old_place : (z : ℕ) → s.place z < 4294967295 → s'.place z ≡ s.place z
      old_place z m = elim (cases_eq z x) [ inl q ↦ absurd (let e = ap s.place q in omega arith) | inr q ↦ o.places z q ]

      pub kept : (z : ℕ) (lines : List ℕ) → IsMet M V t c n s key z lines → IsMet M V t c n s' with_key z lines
      kept z lines met =
          let e = old_place z met.0 in
          (let m = met.0 in omega arith, subst (λ (v : List ℕ). IsUpTo v lines) (sym (ap with_key e ∙ old_key (s.place z) (w.queue.listed z met.0).0)) met.1)

      same_head : with_key h ≡ key h
      same_head = old_key h l

      pub kept_here : (z q y : ℕ) → IsMet M V t c n s key z (key h ++ q ∷ y ∷ []) → IsMet M V t c n s' with_key z (with_key h ++ q ∷ y ∷ [])
      kept_here z q y met = subst (λ (v : List ℕ). IsMet M V t c n s' with_key z (v ++ q ∷ y ∷ [])) (sym same_head) (kept z (key h ++ q ∷ y ∷ []) met)

      pub reached : IsMet M V t c n s' with_key x (with_key h ++ r ∷ x ∷ [])
      reached = (
        let e = o.place in let b = few_top in omega arith,
        inr (new_key (s'.place x) o.place ∙ ap (λ (v : List ℕ). v ++ r ∷ x ∷ []) (sym same_head)),
      )

      module _ (goes : Goes M V t c n s key h) (early : r < t) (from : M r (s.column h) ≢ pos 0) (to : M r x ≢ pos 0) (inside : x < n) (next_one : P r x) (two : TwoIf same (V r (s.column h) +ℤ V r x))
          (still : (q y : ℕ) → Q q y → P q y × ((r < q) ⊎ ((r ≡ q) × (x < y)))) where
        end_is : trail_end c (key h) ≡ s.column h
        end_is = w.queue.ends h l

        new_trail : IsTrail M t c (key h ++ r ∷ x ∷ [])
        new_trail = trail_more M t c (key h) r x (w.queue.trail h l)
            (elim goes [ inl z ↦ inl (ap key z ∙ w.queue.start) | inr z ↦ inr (ap (M t) end_is ∙ z) ])
            early (subst (λ (y : ℕ). M r y ≢ pos 0) (sym end_is) from) to

        new_sum : TwoIf (flip (s.is_two h) same) (trail_sum V c (key h ++ r ∷ x ∷ []))
        new_sum = subst (TwoIf (flip (s.is_two h) same)) (sym (sum_more M t V c (key h) r x (w.queue.trail h l)))
            (two_add (s.is_two h) same (trail_sum V c (key h)) (V r (trail_end c (key h)) +ℤ V r x) (w.queue.sums h l) (subst (λ (y : ℕ). TwoIf same (V r y +ℤ V r x)) (sym end_is) two))

        -- a property of the old positions and of the new position is a property of all
        each : (F : ℕ → Type 0) → ((j : ℕ) → j < s.count → F j) → F s.count → (j : ℕ) → j < s'.count → F j
        each F old new j m = elim (cases_lt j s.count) [ inl lt ↦ old j lt | inr ge ↦ let q : s.count ≡ j = let e = o.count in omega arith in subst F q new ]

        queue : IsQueue M V t c n s' with_key
        queue = record {
          some = let e = o.count in omega arith;
          first = o.columns 0 w.queue.some ∙ w.queue.first;
          start = old_key 0 w.queue.some ∙ w.queue.start;
          inside = each (λ j. s'.column j < n) (λ j m. subst (λ (y : ℕ). y < n) (sym (o.columns j m)) (w.queue.inside j m)) (subst (λ (y : ℕ). y < n) (sym o.column) inside);
          placed = each (λ j. s'.place (s'.column j) ≡ j) (λ j m. ap s'.place (o.columns j m) ∙ old_place (s.column j) (let e = w.queue.placed j m in let b = few_top in omega arith) ∙ w.queue.placed j m) (ap s'.place o.column ∙ o.place);
          listed = λ z m. elim (cases_eq z x) [
            | inl q ↦ let e : s'.place z ≡ s.count = ap s'.place q ∙ o.place in (let k = o.count in omega arith, ap s'.column e ∙ o.column ∙ sym q)
            | inr q ↦ let e = o.places z q in let v = w.queue.listed z (omega arith) in
                (let a = v.0 in let k = o.count in omega arith, ap s'.column e ∙ o.columns (s.place z) v.0 ∙ v.1)
          ];
          topped = λ z. elim (cases_eq z x) [
            | inl q ↦ let e : s'.place z ≡ s.count = ap s'.place q ∙ o.place in let b = few_top in omega arith
            | inr q ↦ let e = o.places z q in let a = w.queue.topped z in omega arith
          ];
          sorted = λ i j k m. each (λ j. (i : ℕ) → i < j → IsShortlexBefore (with_key i) (with_key j))
              (λ j m i k. subst (λ (v : List ℕ). IsShortlexBefore v (with_key j)) (sym (old_key i (omega arith))) (subst (IsShortlexBefore (key i)) (sym (old_key j m)) (w.queue.sorted i j k m)))
              (λ i k. subst (λ (v : List ℕ). IsShortlexBefore v (with_key s.count)) (sym (old_key i k)) (subst (IsShortlexBefore (key i)) (sym (new_key s.count refl)) (w.prefix i r x k l next_one)))
              j m i k;
          trail = each (λ j. IsTrail M t c (with_key j)) (λ j m. subst (IsTrail M t c) (sym (old_key j m)) (w.queue.trail j m)) (subst (IsTrail M t c) (sym (new_key s.count refl)) new_trail);
          ends = each (λ j. trail_end c (with_key j) ≡ s'.column j) (λ j m. ap (trail_end c) (old_key j m) ∙ w.queue.ends j m ∙ sym (o.columns j m))
              (ap (trail_end c) (new_key s.count refl) ∙ end_more M t c (key h) r x (w.queue.trail h l) ∙ sym o.column);
          sums = each (λ j. TwoIf (s'.is_two j) (trail_sum V c (with_key j)))
              (λ j m. subst (λ (b : Bool). TwoIf b (trail_sum V c (with_key j))) (sym (o.twos j m)) (subst (λ (v : List ℕ). TwoIf (s.is_two j) (trail_sum V c v)) (sym (old_key j m)) (w.queue.sums j m)))
              (subst (λ (b : Bool). TwoIf b (trail_sum V c (with_key s.count))) (sym o.is_two) (subst (λ (v : List ℕ). TwoIf (flip (s.is_two h) same) (trail_sum V c v)) (sym (new_key s.count refl)) new_sum));
          earlier = λ j p m. each (λ j. 0 < j → s'.before j < j) (λ j m p. let e = o.befores j m in let a = w.queue.earlier j p m in omega arith) (λ p. let e = o.before in omega arith) j m p;
          parent = λ j p m. each (λ j. 0 < j → with_key j ≡ with_key (s'.before j) ++ s'.row j ∷ s'.column j ∷ [])
              (λ j m p. old_key j m ∙ w.queue.parent j p m
              ∙ sym (ap (λ (v : ℕ). with_key v ++ s'.row j ∷ s'.column j ∷ []) (o.befores j m)
              ∙ ap (λ (v : List ℕ). v ++ s'.row j ∷ s'.column j ∷ []) (old_key (s.before j) (let a = w.queue.earlier j p m in omega arith))
              ∙ ap (λ (v : ℕ). key (s.before j) ++ v ∷ s'.column j ∷ []) (o.rows j m)
              ∙ ap (λ (v : ℕ). key (s.before j) ++ s.row j ∷ v ∷ []) (o.columns j m)))
              (λ p. new_key s.count refl
              ∙ sym (ap (λ (v : ℕ). with_key v ++ s'.row s.count ∷ s'.column s.count ∷ []) o.before
              ∙ ap (λ (v : List ℕ). v ++ s'.row s.count ∷ s'.column s.count ∷ []) same_head
              ∙ ap (λ (v : ℕ). key h ++ v ∷ s'.column s.count ∷ []) o.row
              ∙ ap (λ (v : ℕ). key h ++ r ∷ v ∷ []) o.column))
              j m p;
        }

        pub visit : IsPrefix M V t c n s' with_key h Q
        visit = record {
          queue = queue;
          fits = let e = o.count in omega arith;
          done = λ i q y m g a f b z.
              let k : i < s.count = omega arith in
              let v = w.done i q y m (elim g [ inl z ↦ inl z | inr z ↦ inr (ap (M t) (sym (o.columns i k)) ∙ z) ]) a (subst (λ (u : ℕ). M q u ≢ pos 0) (o.columns i k) f) b z in
              subst (λ (u : List ℕ). IsMet M V t c n s' with_key y (u ++ q ∷ y ∷ [])) (sym (old_key i k)) (kept y (key i ++ q ∷ y ∷ []) v);
          gone = λ q y u b z.
              let v = w.gone q y (sym (o.used q) ∙ u) b z in
              let k = kept_here y q y (v.0, v.1 l) in (k.0, λ m. k.1);
          prefix = λ j q y m k a. each (λ j. IsShortlexBefore (with_key j) (with_key h ++ q ∷ y ∷ []))
              (λ j m. subst (λ (u : List ℕ). IsShortlexBefore u (with_key h ++ q ∷ y ∷ [])) (sym (old_key j m)) (subst (λ (u : List ℕ). IsShortlexBefore (key j) (u ++ q ∷ y ∷ [])) (sym same_head) (w.prefix j q y m l (still q y a).0)))
              (subst (λ (u : List ℕ). IsShortlexBefore u (with_key h ++ q ∷ y ∷ [])) (sym (new_key s.count refl)) (subst (λ (u : List ℕ). IsShortlexBefore (key h ++ r ∷ x ∷ []) (u ++ q ∷ y ∷ [])) (sym same_head) (next_before (key h) r x q y (still q y a).1)))
              j m;
        }
