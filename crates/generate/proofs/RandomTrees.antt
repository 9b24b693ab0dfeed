-- Random recursive trees are trees, and the random walks connect their nodes.
use Rattle.std.proofs.Common.{◌≡◌, ◌<◌, ◌≤◌, ◌+◌, ◌∙◌, ℕ, zero, suc, List, [], ◌∷◌, false, length, get_or, refl, ap, ap₂, sym, subst, arith}
use Rattle.cmr_base.specs.declared.network.Pair.{Pair}
use Rattle.cmr_base.specs.Trees.{tail, head, IsTree, IsNetworkOf}
use Rattle.cmr_base.proofs.TreeTests.{AreConnected, walk-then, walk-back}
use Rattle.cmr_base.specs.Draws.{draws}
use Rattle.generate.specs.Generated.{arcs_to, pairs_of, generated_network}
use Rattle.cmr_base.proofs.DrawnNumbers.{length-draws, draws_below}

abbrev none : Pair
none = record { tail = 0; head = 0 }

length-arcs_to : (node : ℕ) (tails : List ℕ) → length (arcs_to node tails) ≡ length tails
length-arcs_to node [] = refl
length-arcs_to node (t ∷ tails) = ap suc (length-arcs_to (node + 1) tails)

arc_at : (node : ℕ) (tails : List ℕ) (row : ℕ) → row < length tails → get_or (arcs_to node tails) row none ≡ record { tail = get_or tails row 0; head = node + row }
arc_at node [] row h = absurd (omega (arith, h))
arc_at node (t ∷ tails) zero h = ap (λ (n : ℕ). record { tail = t; head = n }) (omega arith)
arc_at node (t ∷ tails) (suc row) h = arc_at (node + 1) tails row (omega (arith, h)) ∙ ap (λ (n : ℕ). record { tail = get_or tails row 0; head = n }) (omega arith)

length-pairs_of : (count : ℕ) (nodes : List ℕ) → length nodes ≡ count + count → length (pairs_of nodes) ≡ count
length-pairs_of zero [] e = refl
length-pairs_of (suc count) [] e = absurd (omega (arith, e))
length-pairs_of zero (x ∷ nodes) e = absurd (omega (arith, e))
length-pairs_of (suc count) (x ∷ []) e = absurd (omega (arith, e))
length-pairs_of (suc count) (x ∷ y ∷ nodes) e = ap suc (length-pairs_of count nodes (omega (arith, e)))

pair_at : (nodes : List ℕ) (k : ℕ) → k + k + 1 < length nodes → get_or (pairs_of nodes) k none ≡ record { tail = get_or nodes (k + k) 0; head = get_or nodes (k + k + 1) 0 }
pair_at [] k h = absurd (omega (arith, h))
pair_at (x ∷ []) k h = absurd (omega (arith, h))
pair_at (x ∷ y ∷ nodes) zero h = refl
pair_at (x ∷ y ∷ nodes) (suc k) h =
    let e : suc k + suc k ≡ suc (suc (k + k)) = omega arith in
    let f : suc k + suc k + 1 ≡ suc (suc (k + k + 1)) = omega arith in
    pair_at nodes k (omega (arith, h))
    ∙ sym (ap₂ (λ (n o : ℕ). record { tail = get_or (x ∷ y ∷ nodes) n 0; head = get_or (x ∷ y ∷ nodes) o 0 }) e f)

module _ (m : ℕ) (tails : List ℕ) (count : length tails ≡ m) (low : (row : ℕ) → row < m → get_or tails row 0 ≤ row) where
  abbrev arcs : List Pair
  arcs = arcs_to 1 tails

  tail_is : (row : ℕ) → row < m → tail arcs row ≡ get_or tails row 0
  tail_is row h = ap (λ (p : Pair). p.tail) (arc_at 1 tails row (omega (arith, h, count)))

  head_is : (row : ℕ) → row < m → head arcs row ≡ 1 + row
  head_is row h = ap (λ (p : Pair). p.head) (arc_at 1 tails row (omega (arith, h, count)))

  to_root : (n x : ℕ) → x < n → x ≤ m → AreConnected arcs x 0
  to_root zero x l h = absurd (omega (arith, l))
  to_root (suc n) zero l h = ([], refl)
  to_root (suc n) (suc x) l h =
      let inside : x < m = omega (arith, h) in
      let t = tail_is x inside in
      let low_tail = low x inside in
      walk-then arcs (suc x) (tail arcs x) 0 (record { arc = x; forwards = false } ∷ [])
      (omega (arith, inside, count, length-arcs_to 1 tails), head_is x inside ∙ omega arith, refl)
      (to_root n (tail arcs x) (omega (arith, t, low_tail, l)) (omega (arith, t, low_tail, h)))

  pub is_tree : IsTree (arcs_to 1 tails) m
  is_tree = record {
    count = length-arcs_to 1 tails ∙ count;
    nodes = λ row h. (let t = tail_is row h in let l = low row h in omega (arith, t, l, h), let e = head_is row h in omega (arith, e, h));
    linked = λ x y lx ly.
        let first = to_root (suc x) x (omega arith) lx in
        let second = to_root (suc y) y (omega arith) ly in
        walk-then arcs x 0 y first.0 first.1 (walk-back arcs y 0 second.0 second.1);
  }

pub is_network : (size number : ℕ) → IsNetworkOf (generated_network size number) size size
is_network size number =
    let tails = draws size 1 1 number in
    let ends = draws (size + size) (size + 1) 0 tails.1 in
    let many : length ends.0 ≡ size + size = length-draws (size + size) (size + 1) 0 tails.1 in
    let node : (k : ℕ) → k < size + size → get_or ends.0 k 0 ≤ size = (λ k h. let e = draws_below (size + size) (size + 1) 0 tails.1 k (omega arith) h in omega (arith, e)) in
    record {
      tree = is_tree size tails.0 (length-draws size 1 1 number) (λ row h. let e = draws_below size 1 1 number row (omega arith) h in omega (arith, e));
      count = length-pairs_of size ends.0 many;
      nodes = λ column h.
          let walk = pair_at ends.0 column (omega (arith, h, many)) in
          let first = node (column + column) (omega (arith, h)) in
          let last = node (column + column + 1) (omega (arith, h)) in
          (subst (λ (p : Pair). p.tail ≤ size) (sym walk) first, subst (λ (p : Pair). p.head ≤ size) (sym walk) last);
    }
