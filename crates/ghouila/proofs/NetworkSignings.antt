-- Each set of rows of a network matrix has a signing: along a path in the tree, the arcs of these rows alternate.
use Rattle.std.proofs.Common.{ℕ, suc, ℤ, pos, negsuc, ◌+ℤ◌, ◌-ℤ◌, ◌*ℤ◌, Bool, true, false, not, cond, List, [], ◌∷◌, map, length, get_or, ◌≡◌, ◌≢◌, ◌<◌, ◌∙◌, sym, ap, ap₂, refl, arith, subst, ◌⊎◌, inl, inr, nat_eq, nat_lt}
use Rattle.std.specs.List.{AllByRecursion}
use Rattle.std.proofs.lemmas.Bool.Decides.{nat_tests}
use Rattle.std.proofs.lemmas.List.{length-map}
use Rattle.cmr_base.specs.declared.network.Pair.{Pair}
use Rattle.cmr_base.specs.Matrix.{Matrix, entry, height, transposed, IsEntry, IsMatrix}
use Rattle.cmr_base.specs.Members.{IsIn, IsDistinct}
use Rattle.cmr_base.specs.Signing.{IsSign, IsTotallyUnimodular}
use Rattle.cmr_base.specs.Sums.{sum_over}
use Rattle.cmr_base.specs.Cuts.{differ, bit}
use Rattle.cmr_base.specs.Trees.{WalkStep, tail, head, from, to, IsWalk, IsTree, arcs_of, direction, IsNetworkMatrix, IsConetworkMatrix}
use Rattle.cmr_base.proofs.Integers.{sums, products, mul-zero}
use Rattle.cmr_base.proofs.SumLaws.{sum_over-add, sum_over-zero, sum_over_same}
use Rattle.cmr_base.proofs.Members.{all_in, all_of_members, increasing_are_distinct}
use Rattle.cmr_base.proofs.IncreasingLists.{row_set_increases}
use Rattle.cmr_base.proofs.Parts.{is_ternary-transposed}
use Rattle.cmr_base.proofs.RowLists.{same_or_not, in_or_not, is_eq, is_ne, same_bit}
use Rattle.cmr_base.proofs.TransposedLemmas.{none_from_transposed_rectangular}
use Rattle.cmr_base.proofs.WholeMatrices.{is_ternary}
use Rattle.cmr_base.specs.Violator.{HasNoViolator}
use Rattle.cmr_base.proofs.TreeCuts.{tail_side, tail_side_kept, tail_side-tail, tail_side-head}
use Rattle.ghouila.specs.NetworkLaws.{NetworkMatricesAreUnimodular, ConetworkMatricesAreUnimodular}
use Rattle.ghouila.proofs.CamionLaw.{camion}
use Rattle.ghouila.proofs.NamedRows.{signed_sum-map}

-- ---- a function that is nonzero at only one item

none_there : (rows : List ℕ) (f : ℕ → ℤ) (a : ℕ) (d : ℤ) → ¬ (IsIn a rows) → sum_over rows (λ r. f r *ℤ cond (nat_eq r a) d (pos 0)) ≡ pos 0
none_there [] f a d n = refl
none_there (x ∷ rows) f a d n = rw (is_ne x a (λ e. n (inl (sym e))), none_there rows f a d (λ h. n (inr h))) (zero_sum (f x))
  where
    zero_sum : (x : ℤ) → x *ℤ pos 0 +ℤ pos 0 ≡ pos 0
    zero_sum x = simp products

one_there : (rows : List ℕ) (f : ℕ → ℤ) (a : ℕ) (d : ℤ) → IsDistinct rows → IsIn a rows → sum_over rows (λ r. f r *ℤ cond (nat_eq r a) d (pos 0)) ≡ f a *ℤ d
one_there [] f a d o h = absurd h
one_there (x ∷ rows) f a d o (inl e) = rw (is_eq x a (sym e), none_there rows f a d (λ h. o.0 (subst (λ (z : ℕ). IsIn z rows) e h))) (ap (λ (z : ℕ). f z *ℤ d +ℤ pos 0) (sym e) ∙ last (f a *ℤ d))
  where
    last : (x : ℤ) → x +ℤ pos 0 ≡ x
    last x = omega (arith, sums)
one_there (x ∷ rows) f a d o (inr h) = rw (is_ne x a (λ e. o.0 (subst (λ (z : ℕ). IsIn z rows) (sym e) h)), one_there rows f a d o.1 h) (first (f x) (f a *ℤ d))
  where
    first : (x y : ℤ) → x *ℤ pos 0 +ℤ y ≡ y
    first x y = simp products (omega (arith, sums))

pub same_at_members : (rows : List ℕ) (f g : ℕ → ℤ) → ((r : ℕ) → IsIn r rows → f r ≡ g r) → sum_over rows f ≡ sum_over rows g
same_at_members rows f g h = sum_over_same rows f g (all_of_members (λ r. f r ≡ g r) rows h)

-- ---- two colours of the nodes of a tree

module _ (arcs : List Pair) (m : ℕ) (T : IsTree arcs m) where
  -- whether a node is on the tail's side of an odd number of the arcs
  abbrev colour : List ℕ → ℕ → Bool
  colour [] z = false
  colour (r ∷ rows) z = differ (cond (nat_lt r m) (tail_side arcs r z) false) (colour rows z)

  in_range : (a : ℕ) → a < m → a < length arcs
  in_range a l = subst (λ (z : ℕ). a < z) (sym T.count) l

  -- the ends of any other arc have one colour
  colour_other : (rows : List ℕ) (a : ℕ) → a < m → ¬ (IsIn a rows) → colour rows (tail arcs a) ≡ colour rows (head arcs a)
  colour_other [] a l n = refl
  colour_other (r ∷ rows) a l n = ap₂ differ (ap (λ (z : Bool). cond (nat_lt r m) z false) (tail_side_kept arcs r a (in_range a l) (λ e. n (inl e)))) (colour_other rows a l (λ h. n (inr h)))

  -- the ends of one of these arcs have two colours
  colour_own : (rows : List ℕ) (a : ℕ) → a < m → IsDistinct rows → IsIn a rows → colour rows (head arcs a) ≡ not (colour rows (tail arcs a))
  colour_own [] a l o h = absurd h
  colour_own (r ∷ rows) a l o (inl e) = go (nat_lt r m) (is_lt r (subst (λ (z : ℕ). z < m) e l)) (colour rows (tail arcs a)) (colour rows (head arcs a)) (colour_other rows a l (λ h. o.0 (subst (λ (z : ℕ). IsIn z rows) e h)))
      (tail_side arcs r (tail arcs a)) (tail_side arcs r (head arcs a)) (ap (λ (z : ℕ). tail_side arcs r (tail arcs z)) e ∙ tail_side-tail arcs r)
      (ap (λ (z : ℕ). tail_side arcs r (head arcs z)) e ∙ tail_side-head arcs m T r (subst (λ (z : ℕ). z < m) e l))
    where
      is_lt : (r : ℕ) → r < m → nat_lt r m ≡ true
      is_lt r l = grind (arith, nat_tests)

      go : (b : Bool) → b ≡ true → (x y : Bool) → x ≡ y → (p q : Bool) → p ≡ true → q ≡ false → differ (cond b q false) y ≡ not (differ (cond b p false) x)
      go true t true true e true false f g = refl
      go true t false false e true false f g = refl
      go true t true false e p q f g = cc
      go true t false true e p q f g = cc
      go true t x y e false q f g = cc
      go true t x y e true true f g = cc
      go false t x y e p q f g = cc
  colour_own (r ∷ rows) a l o (inr h) = ap (λ (z : Bool). differ z (colour rows (head arcs a))) (ap (λ (z : Bool). cond (nat_lt r m) z false) (sym (tail_side_kept arcs r a (in_range a l) (λ e. o.0 (subst (λ (z : ℕ). IsIn z rows) e h)))))
      ∙ ap (differ (cond (nat_lt r m) (tail_side arcs r (tail arcs a)) false)) (colour_own rows a l o.1 h) ∙ go (cond (nat_lt r m) (tail_side arcs r (tail arcs a)) false) (colour rows (tail arcs a))
    where
      go : (x y : Bool) → differ x (not y) ≡ not (differ x y)
      go true y = refl
      go false y = refl

  -- the sign of an arc: the colour at its head minus the colour at its tail
  abbrev sign : List ℕ → ℕ → ℤ
  sign rows r = bit (colour rows (head arcs r)) -ℤ bit (colour rows (tail arcs r))

  no_direction : (steps : List WalkStep) (r : ℕ) → ¬ (IsIn r (arcs_of steps)) → direction steps r ≡ pos 0
  no_direction [] r n = refl
  no_direction (s ∷ steps) r n = rw (is_ne r s.arc (λ e. n (inl e))) (no_direction steps r (λ h. n (inr h)))

  step_sign : (rows : List ℕ) (a : ℕ) (e : Bool)
      → sign rows a *ℤ cond e (pos 1) (negsuc 0) ≡ bit (colour rows (cond e (head arcs a) (tail arcs a))) -ℤ bit (colour rows (cond e (tail arcs a) (head arcs a)))
  step_sign rows a true = plain (bit (colour rows (head arcs a))) (bit (colour rows (tail arcs a)))
    where
      plain : (x y : ℤ) → (x -ℤ y) *ℤ pos 1 ≡ x -ℤ y
      plain x y = simp products
  step_sign rows a false = plain (bit (colour rows (head arcs a))) (bit (colour rows (tail arcs a)))
    where
      plain : (x y : ℤ) → (x -ℤ y) *ℤ negsuc 0 ≡ y -ℤ x
      plain x y = simp products (omega (arith, sums))

  flat_step : (rows : List ℕ) (a : ℕ) (e : Bool) → colour rows (tail arcs a) ≡ colour rows (head arcs a)
      → pos 0 ≡ bit (colour rows (cond e (head arcs a) (tail arcs a))) -ℤ bit (colour rows (cond e (tail arcs a) (head arcs a)))
  flat_step rows a true q = same_bit (colour rows (head arcs a)) ∙ ap (λ (z : Bool). bit (colour rows (head arcs a)) -ℤ bit z) (sym q)
  flat_step rows a false q = same_bit (colour rows (tail arcs a)) ∙ ap (λ (z : Bool). bit (colour rows (tail arcs a)) -ℤ bit z) q

  one_step : (rows : List ℕ) → IsDistinct rows → (a : ℕ) (e : Bool) → a < m → IsIn a rows ⊎ (¬ (IsIn a rows))
      → sum_over rows (λ r. sign rows r *ℤ cond (nat_eq r a) (cond e (pos 1) (negsuc 0)) (pos 0)) ≡ bit (colour rows (cond e (head arcs a) (tail arcs a))) -ℤ bit (colour rows (cond e (tail arcs a) (head arcs a)))
  one_step rows d a e low (inl h) = one_there rows (sign rows) a (cond e (pos 1) (negsuc 0)) d h ∙ step_sign rows a e
  one_step rows d a e low (inr n) = none_there rows (sign rows) a (cond e (pos 1) (negsuc 0)) n ∙ flat_step rows a e (colour_other rows a low n)

  -- the signed sum along a path is the difference of the colours of its ends
  telescope : (rows : List ℕ) → IsDistinct rows → (x : ℕ) (steps : List WalkStep) (y : ℕ) → IsWalk arcs x steps y → IsDistinct (arcs_of steps)
      → sum_over rows (λ r. sign rows r *ℤ direction steps r) ≡ bit (colour rows y) -ℤ bit (colour rows x)
  telescope rows d x [] y w o = same_at_members rows (λ r. sign rows r *ℤ pos 0) (λ r. pos 0) (λ r h. mul-zero (sign rows r)) ∙ sum_over-zero rows ∙ same_bit (colour rows y) ∙ ap (λ (z : ℕ). bit (colour rows y) -ℤ bit (colour rows z)) (sym w)
  telescope rows d x (s ∷ steps) y w o =
      same_at_members rows (λ r. sign rows r *ℤ direction (s ∷ steps) r) (λ r. sign rows r *ℤ cond (nat_eq r a) (cond e (pos 1) (negsuc 0)) (pos 0) +ℤ sign rows r *ℤ direction steps r) (λ r h. split r)
      ∙ sum_over-add rows (λ r. sign rows r *ℤ cond (nat_eq r a) (cond e (pos 1) (negsuc 0)) (pos 0)) (λ r. sign rows r *ℤ direction steps r)
      ∙ ap₂ (λ (y z : ℤ). y +ℤ z) (one_step rows d a e low (in_or_not a rows)) (telescope rows d (to arcs s) steps y w.2 o.1)
      ∙ ends (bit (colour rows (to arcs s))) (bit (colour rows (from arcs s))) (bit (colour rows y)) (bit (colour rows x)) (ap (λ (n : ℕ). bit (colour rows n)) w.1)
    where
      a : ℕ
      a = s.arc

      e : Bool
      e = s.forwards

      low : s.arc < m
      low = subst (λ (z : ℕ). s.arc < z) T.count w.0

      ends : (b a y x : ℤ) → a ≡ x → (b -ℤ a) +ℤ (y -ℤ b) ≡ y -ℤ x
      ends b a y x e = omega (arith, sums)

      split : (r : ℕ) → sign rows r *ℤ direction (s ∷ steps) r ≡ sign rows r *ℤ cond (nat_eq r s.arc) (cond s.forwards (pos 1) (negsuc 0)) (pos 0) +ℤ sign rows r *ℤ direction steps r
      split r = go (same_or_not r s.arc)
        where
          here : (x y : ℤ) → x *ℤ y ≡ x *ℤ y +ℤ x *ℤ pos 0
          here x y = simp products (omega (arith, sums))

          there : (x y : ℤ) → x *ℤ y ≡ x *ℤ pos 0 +ℤ x *ℤ y
          there x y = simp products (omega (arith, sums))

          go : (r ≡ s.arc) ⊎ (r ≢ s.arc)
              → sign rows r *ℤ direction (s ∷ steps) r ≡ sign rows r *ℤ cond (nat_eq r s.arc) (cond s.forwards (pos 1) (negsuc 0)) (pos 0) +ℤ sign rows r *ℤ direction steps r
          go (inl f) = rw (is_eq r s.arc f, no_direction steps r (λ h. o.0 (subst (λ (z : ℕ). IsIn z (arcs_of steps)) f h))) (here (sign rows r) (cond s.forwards (pos 1) (negsuc 0)))
          go (inr n) = rw (is_ne r s.arc n) (there (sign rows r) (direction steps r))

  sign_is_sign : (rows : List ℕ) → IsDistinct rows → (a : ℕ) → a < m → IsIn a rows → IsSign (sign rows a)
  sign_is_sign rows o a l h = go (colour rows (tail arcs a)) (colour rows (head arcs a)) (colour_own rows a l o h)
    where
      go : (x y : Bool) → y ≡ not x → IsSign (bit y -ℤ bit x)
      go true true e = cc
      go true false e = inr refl
      go false true e = inl refl
      go false false e = cc

small_difference : (s t : Bool) → IsEntry (bit s -ℤ bit t)
small_difference true true = record { low = omega (arith, sums); high = omega (arith, sums) }
small_difference true false = record { low = omega (arith, sums); high = omega (arith, sums) }
small_difference false true = record { low = omega (arith, sums); high = omega (arith, sums) }
small_difference false false = record { low = omega (arith, sums); high = omega (arith, sums) }

signs-map : (s : ℕ → ℤ) (rows : List ℕ) → ((r : ℕ) → IsIn r rows → IsSign (s r)) → AllByRecursion IsSign (map s rows)
signs-map s [] h = tt
signs-map s (r ∷ rows) h = (h r (inl refl), signs-map s rows (λ x k. h x (inr k)))

pub network_signing : (m : Matrix) → IsNetworkMatrix m → IsTotallyUnimodular m
network_signing m net rows is = (
  map s rows,
  record {
    one_each = length-map rows s;
    each = signs-map s rows (λ r h. sign_is_sign arcs (height m) tree rows once r (low r h) h);
    sums = λ column inside. subst IsEntry (sym (sym (signed_sum-map m rows s column) ∙ along column inside)) (small_difference (colour arcs (height m) tree rows (head net.0.walks column)) (colour arcs (height m) tree rows (tail net.0.walks column)));
  },
)
  where
    arcs : List Pair
    arcs = net.0.arcs

    tree : IsTree net.0.arcs (height m)
    tree = net.1.network.tree

    s : ℕ → ℤ
    s r = sign net.0.arcs (height m) net.1.network.tree rows r

    once : IsDistinct rows
    once = increasing_are_distinct 0 (height m) rows (row_set_increases m rows is)

    low : (r : ℕ) → IsIn r rows → r < height m
    low r h = all_in (λ x. x < height m) rows (all_below rows is.in_range) r h
      where
        all_below : (xs : List ℕ) → ((k : ℕ) → k < length xs → get_or xs k 0 < height m) → AllByRecursion (λ x. x < height m) xs
        all_below [] h = tt
        all_below (x ∷ xs) h = (h 0 (omega arith), all_below xs (λ k l. h (suc k) (omega arith)))

    along : (column : ℕ) → column < m.width
        → sum_over rows (λ r. s r *ℤ entry m r column) ≡ bit (colour net.0.arcs (height m) net.1.network.tree rows (head net.0.walks column)) -ℤ bit (colour net.0.arcs (height m) net.1.network.tree rows (tail net.0.walks column))
    along column inside =
        let path = net.1.paths column inside in
        same_at_members rows (λ r. s r *ℤ entry m r column) (λ r. s r *ℤ direction path.steps r) (λ r h. ap (λ (z : ℤ). s r *ℤ z) (path.exact r (low r h)))
        ∙ telescope net.0.arcs (height m) net.1.network.tree rows once (tail net.0.walks column) path.steps (head net.0.walks column) path.walk path.once

pub networks_are_unimodular : NetworkMatricesAreUnimodular
networks_are_unimodular m is net =
    let signed = network_signing m net in
    (signed, (camion m is.small).0 signed)

pub conetworks_are_unimodular : ConetworkMatricesAreUnimodular
conetworks_are_unimodular m is net =
    let none = none_from_transposed_rectangular m is.rectangular (networks_are_unimodular (transposed m) (is_ternary-transposed m is) net).1 in
    ((camion m is.small).1 none, none)

pub network_matrices : (m : Matrix) → IsMatrix m → IsNetworkMatrix m → IsTotallyUnimodular m × HasNoViolator m
network_matrices m is = networks_are_unimodular m (is_ternary m is)

pub conetwork_matrices : (m : Matrix) → IsMatrix m → IsConetworkMatrix m → IsTotallyUnimodular m × HasNoViolator m
conetwork_matrices m is = conetworks_are_unimodular m (is_ternary m is)
