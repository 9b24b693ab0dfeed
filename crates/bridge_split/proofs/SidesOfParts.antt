-- Sides of parts by the depths in their trees, and odd closed lists by routes.
use Rattle.std.proofs.Common.{ℕ, zero, suc, ◌+◌, ◌%◌, ◌/◌, Bool, true, List, [], ◌∷◌, ◌≡◌, ◌≢◌, ◌<◌, ◌≤◌, ◌∙◌, sym, ap, refl, arith, subst, inl, inr, length, get_or, map}
use Rattle.std.proofs.lemmas.List.{get_or-map, length-map}
use Rattle.cmr_base.specs.LineSets.{AllBelow}
use Rattle.cmr_base.specs.Members.{IsIn}
use Rattle.cmr_base.specs.Splits.{Agree, AreParts, AreSides, IsOddClosed}
use Rattle.cmr_base.proofs.Members.{in_at}
use Rattle.cmr_base.proofs.Places.{members_below}
use Rattle.cmr_base.proofs.RowLists.{two_cases}
use Rattle.bridge_split.specs.declared.cuts.CutTable.{CutTable}
use Rattle.bridge_split.specs.Cutting.{rows_at_part, disagree, IsCutTable}
use Rattle.bridge_split.specs.Forests.{depth_at, joins, IsRoute, IsConflict, IsTwoColoured, HasRoute}
use Rattle.bridge_split.proofs.CutTables.{disagree_true, disagree_false, disagree_back}

-- ---- positions on a route

module _ (D : ℕ → ℕ → Bool) (count : ℕ) where
  route_first : (x y : ℕ) (path : List ℕ) → IsRoute D count x path y → get_or path 0 0 ≡ x
  route_first x y [] h = absurd h
  route_first x y (z ∷ []) h = sym h.0
  route_first x y (z ∷ w ∷ path) h = sym h.0

  route_last : (x y : ℕ) (path : List ℕ) (a : ℕ) → IsRoute D count x path y → a + 1 ≡ length path → get_or path a 0 ≡ y
  route_last x y [] a h e = absurd h
  route_last x y (z ∷ []) zero h e = sym h.1
  route_last x y (z ∷ []) (suc a) h e = absurd (omega arith)
  route_last x y (z ∷ w ∷ path) zero h e = absurd (omega arith)
  route_last x y (z ∷ w ∷ path) (suc a) h e = route_last w y (w ∷ path) a h.4 (omega arith)

  route_low : (x y : ℕ) (path : List ℕ) (a : ℕ) → IsRoute D count x path y → a < length path → get_or path a 0 < count
  route_low x y [] a h l = absurd h
  route_low x y (z ∷ []) zero h l = h.2
  route_low x y (z ∷ []) (suc a) h l = absurd (omega arith)
  route_low x y (z ∷ w ∷ path) zero h l = h.1
  route_low x y (z ∷ w ∷ path) (suc a) h l = route_low w y (w ∷ path) a h.4 (omega arith)

  route_next : (x y : ℕ) (path : List ℕ) (a : ℕ) → IsRoute D count x path y → suc a < length path → (get_or path a 0 ≢ get_or path (suc a) 0) × (D (get_or path a 0) (get_or path (suc a) 0) ≡ true)
  route_next x y [] a h l = absurd h
  route_next x y (z ∷ []) a h l = absurd (omega arith)
  route_next x y (z ∷ w ∷ path) zero h l = (h.3, h.2)
  route_next x y (z ∷ w ∷ path) (suc a) h l = route_next w y (w ∷ path) a h.4 (omega arith)

  route_two : (x y : ℕ) (path : List ℕ) → IsRoute D count x path y → x ≢ y → 2 ≤ length path
  route_two x y [] h n = absurd h
  route_two x y (z ∷ []) h n = absurd (n (h.0 ∙ sym h.1))
  route_two x y (z ∷ w ∷ path) h n = omega arith

module _ (M : ℕ → ℕ → Bool) (S : List ℕ) (i : ℕ) (parts : List (List ℕ)) (P : AreParts M S i parts) where
  -- there are at most as many parts as rows
  least_increases : (a : ℕ) → a < length parts → a ≤ get_or (rows_at_part parts a) 0 0
  least_increases zero l = omega arith
  least_increases (suc a) l = let k = least_increases a (omega arith) in let o = P.ordered a (suc a) (omega arith) l in omega arith

  pub parts_few : (height : ℕ) → AllBelow height S → length parts ≤ height
  parts_few height below = go (length parts) refl
    where
      go : (n : ℕ) → length parts ≡ n → length parts ≤ height
      go zero e = omega arith
      go (suc n) e =
          let l : n < length parts = omega arith in
          let least = get_or (rows_at_part parts n) 0 0 in
          let k = least_increases n l in
          let m = members_below height S below least (P.only n least l (in_at (rows_at_part parts n) 0 (P.filled n l))).0 in omega arith

  pub parts_below : (height : ℕ) → AllBelow height S → (a : ℕ) → a < length parts → AllBelow height (rows_at_part parts a)
  parts_below height below a l k m = members_below height S below (get_or (rows_at_part parts a) k 0) (P.only a (get_or (rows_at_part parts a) k 0) l (in_at (rows_at_part parts a) k m)).0

  parts_apart : (a b : ℕ) → a < length parts → b < length parts → a ≢ b → rows_at_part parts a ≢ rows_at_part parts b
  parts_apart a b la lb n e =
      let least = get_or (rows_at_part parts a) 0 0 in
      let h = in_at (rows_at_part parts a) 0 (P.filled a la) in
      P.apart a b least least la lb n h (subst (IsIn least) e h) ([], refl)

  module _ (table : CutTable) (count : table.count ≡ length parts) (cuts : IsCutTable M i parts (length parts) table.cuts.items) where
    joins_here : (a b : ℕ) → joins table a b ≡ disagree table.cuts.items (length parts) a b
    joins_here a b = ap (λ (n : ℕ). disagree table.cuts.items n a b) count

    denies : (a b : ℕ) → a < length parts → b < length parts → joins table a b ≡ true → ¬ (Agree M i (rows_at_part parts a) (rows_at_part parts b))
    denies a b la lb e = disagree_true M i parts table.cuts.items cuts a b la lb (sym (joins_here a b) ∙ e)

    -- parts whose depths have the same parity agree
    pub sides_are : (depths : List ℕ) → length depths ≡ length parts → IsTwoColoured (joins table) table.count (depth_at depths) → AreSides M i parts (map (λ depth. depth % 2) depths)
    sides_are depths size coloured = record {
      count = length-map depths (λ (depth : ℕ). depth % 2) ∙ size;
      two = λ a l. let e = at a (let k = length-map depths (λ (depth : ℕ). depth % 2) in omega arith) in small (depth_at depths a) (get_or (map (λ depth. depth % 2) depths) a 0) e;
      agree = λ a b la lb n e. elim (two_cases (joins table a b)) [
        | inl j ↦ absurd (coloured.parity a b (omega arith) (omega arith) n j (sym (at b lb) ∙ sym e ∙ at a la))
        | inr j ↦ disagree_false M i parts table.cuts.items cuts a b la lb (sym (joins_here a b) ∙ j)
      ];
    }
      where
        at : (a : ℕ) → a < length parts → get_or (map (λ depth. depth % 2) depths) a 0 ≡ depth_at depths a % 2
        at a l = get_or-map (λ (depth : ℕ). depth % 2) depths a 4294967295 0 (omega arith)

        small : (d s : ℕ) → s ≡ d % 2 → s ≤ 1
        small d s e = omega arith

    pub path_low : (depth : ℕ → ℕ) (path : List ℕ) (x y : ℕ) → HasRoute (joins table) table.count depth [] path x y → AllBelow (length parts) path
    path_low depth path x y h k l =
        let route : IsRoute (joins table) table.count x path y = subst (λ (v : List ℕ). IsRoute (joins table) table.count x v y) (sym h.appended) h.route in
        let m = route_low (joins table) table.count x y path k route l in omega arith

    -- the path between two parts that disagree and have depths of the same parity
    pub odd_closed : (depth parent : ℕ → ℕ) (reached path : List ℕ) (x y : ℕ) → IsConflict (joins table) table.count depth parent reached x y → HasRoute (joins table) table.count depth [] path x y
        → IsOddClosed M S i (map (rows_at_part parts) path)
    odd_closed depth parent reached path x y c h = record {
      half = length path / 2;
      odd = let s = size in halved (length path) (length (map (rows_at_part parts) path)) is_odd s;
      three = let s = size in let t = two_or_more in atleast (length path) (length (map (rows_at_part parts) path)) is_odd s t;
      parts = λ a l. (parts, P, (get_or path a 0, low a (let s = size in omega arith), sym (at a (let s = size in omega arith))));
      next = λ a l.
          let k : suc a < length path = let s = size in omega arith in
          let e : a + 1 ≡ suc a = omega arith in
          let r = route_next (joins table) table.count x y path a route k in
          subst (λ (b : ℕ). (get_or (map (rows_at_part parts) path) a [] ≢ get_or (map (rows_at_part parts) path) b []) × (¬ Agree M i (get_or (map (rows_at_part parts) path) a []) (get_or (map (rows_at_part parts) path) b []))) (sym e)
          (apart (get_or path a 0) (get_or path (suc a) 0) (get_or (map (rows_at_part parts) path) a []) (get_or (map (rows_at_part parts) path) (suc a) []) (low a (omega arith)) (low (suc a) k) (at a (omega arith)) (at (suc a) k) r.0 r.1);
      closed = λ a l.
          let k : a < length path = let s = size in omega arith in
          let z : 0 < length path = omega arith in
          let last = route_last (joins table) table.count x y path a route (let s = size in omega arith) in
          let first = route_first (joins table) table.count x y path route in
          apart (get_or path a 0) (get_or path 0 0) (get_or (map (rows_at_part parts) path) a []) (get_or (map (rows_at_part parts) path) 0 []) (low a k) (low 0 z) (at a k) (at 0 z)
          (λ e. c.other (sym first ∙ sym e ∙ last))
          (subst (λ (v : ℕ). joins table v (get_or path 0 0) ≡ true) (sym last) (subst (λ (v : ℕ). joins table y v ≡ true) (sym first) (disagree_back table.cuts.items table.count x y c.joined)));
    }
      where
        route : IsRoute (joins table) table.count x path y
        route = subst (λ (v : List ℕ). IsRoute (joins table) table.count x v y) (sym h.appended) h.route

        size : length (map (rows_at_part parts) path) ≡ length path
        size = length-map path (rows_at_part parts)

        two_or_more : 2 ≤ length path
        two_or_more = route_two (joins table) table.count x y path route c.other

        is_odd : length path % 2 ≡ 1
        is_odd = odd_of (length path) (length h.rest) (depth x) (depth y) (ap length h.appended) h.parity c.parity
          where
            odd_of : (n m a b : ℕ) → n ≡ m → (m + a + b) % 2 ≡ 1 → b % 2 ≡ a % 2 → n % 2 ≡ 1
            odd_of n m a b e f g = omega arith

        halved : (n s : ℕ) → n % 2 ≡ 1 → s ≡ n → s ≡ n / 2 + n / 2 + 1
        halved n s e f = omega arith

        atleast : (n s : ℕ) → n % 2 ≡ 1 → s ≡ n → 2 ≤ n → 3 ≤ s
        atleast n s e f l = omega arith

        low : (a : ℕ) → a < length path → get_or path a 0 < length parts
        low a l = let m = route_low (joins table) table.count x y path a route l in omega arith

        at : (a : ℕ) → a < length path → get_or (map (rows_at_part parts) path) a [] ≡ rows_at_part parts (get_or path a 0)
        at a l = get_or-map (rows_at_part parts) path a 0 [] l

        apart : (p q : ℕ) (A B : List ℕ) → p < length parts → q < length parts → A ≡ rows_at_part parts p → B ≡ rows_at_part parts q → p ≢ q → joins table p q ≡ true → (A ≢ B) × (¬ Agree M i A B)
        apart p q A B lp lq e f n j = (
          (λ g. parts_apart p q lp lq n (sym e ∙ g ∙ f)),
          (λ g. denies p q lp lq j (subst (λ (v : List ℕ). Agree M i v (rows_at_part parts q)) e (subst (Agree M i A) f g))),
        )
