-- Breadth-first trees over the parts of a table, as lists.
use Rattle.std.proofs.Common.{ℕ, suc, ◌+◌, ◌%◌, true, false, List, [], ◌∷◌, ◌++◌, ◌≡◌, ◌≢◌, ◌<◌, ◌≤◌, ◌∙◌, sym, ap, refl, arith, subst, ◌⊎◌, inl, inr, length, get_or, set, get_or-set_same, get_or-set_other, length-set, add-one}
use Rattle.std.proofs.lemmas.List.{get_or_append_left, get_or_default}
use Rattle.cmr_base.specs.Members.{IsIn}
use Rattle.cmr_base.proofs.Members.{in-append, in_at}
use Rattle.cmr_base.proofs.Places.{each_more}
use Rattle.bridge_split.specs.declared.cuts.CutTable.{CutTable}
use Rattle.bridge_split.specs.Forests.{depth_at, parent_at, joins, IsSquare, HasTreeRoom, IsSettledPair, IsGrowingForest, IsGrownForest, IsConflict, IsTwoColoured, IsReachingFrom, IsGrowingFrom, IsGrownTo}
use Rattle.bridge_split.specs.Forests.{Extends}
use Rattle.bridge_split.proofs.GrowingLists.{extends_none, extends_more, extends_one, in_longer}
use Rattle.bridge_split.proofs.CutTables.{disagree_back}
use Rattle.bridge_split.proofs.Forests.{was_reached, few_reached, root_reached, joined_reached, passes, head_settled, conflict_here, none_reached, tree_grown, all_grown}

module _ (table : CutTable) where
  -- the part at head, as the code reads it
  pub part_low : (depths parents reached : List ℕ) (head part : ℕ)
      → IsGrowingForest (joins table) table.count (depth_at depths) (parent_at parents) reached head → head < length reached → part ≡ get_or reached head part
      → part < table.count
  part_low depths parents reached head part w l e =
      subst (λ (v : ℕ). v < table.count) (sym (e ∙ get_or_default reached head part 0 l)) (w.are.inside (get_or reached head 0) (in_at reached head l))

  pub depth_low : (depths parents reached : List ℕ) (head part depth : ℕ)
      → IsGrowingForest (joins table) table.count (depth_at depths) (parent_at parents) reached head → HasTreeRoom table.count depths parents
      → head < length reached
      → part ≡ get_or reached head part → depth ≡ get_or depths part depth → depth ≤ head
  depth_low depths parents reached head part depth w room l e f =
      let m = part_low depths parents reached head part w l e in
      let g : depth ≡ depth_at depths (get_or reached head 0) = f ∙ get_or_default depths part depth 4294967295 (let r = room.depths_are in omega arith) ∙ ap (depth_at depths) (e ∙ get_or_default reached head part 0 l) in
      let h = w.are.low head l in omega arith

  pub reaching_starts : (depths parents reached : List ℕ) (head part depth : ℕ)
      → IsGrowingForest (joins table) table.count (depth_at depths) (parent_at parents) reached head → HasTreeRoom table.count depths parents
      → head < length reached
      → part ≡ get_or reached head part → depth ≡ get_or depths part depth → IsReachingFrom table reached depths parents reached head part depth 0
  reaching_starts depths parents reached head part depth w room l e f = record {
    room = room;
    reaching = record { growing = w; so_far = λ y m. absurd (omega arith) };
    extends = extends_none reached;
    head_in = l;
    part_is = sym (e ∙ get_or_default reached head part 0 l);
    depth_is = sym (f ∙ get_or_default depths part depth 4294967295 (let r = room.depths_are in let m = part_low depths parents reached head part w l e in omega arith));
  }

  module _ (before depths parents reached : List ℕ) (head part depth upto : ℕ) (w : IsReachingFrom table before depths parents reached head part depth upto) where
    head_now : head < length reached
    head_now = let a = w.extends.longer in let b = w.head_in in omega arith

    -- the search reaches another part
    pub reaching_more : (depths' parents' reached' : List ℕ) (far : ℕ) → upto < table.count → joins table part upto ≡ true → far ≡ get_or depths upto far → far ≡ 4294967295
        → depths' ≡ set depths upto (depth + 1) → parents' ≡ set parents upto part → reached' ≡ reached ++ upto ∷ [] → IsReachingFrom table before depths' parents' reached' head part depth (upto + 1)
    reaching_more depths' parents' reached' far inside join f far_top p q r = rw (p, q, r) (record {
      room = record { depths_are = length-set depths upto (depth + 1) ∙ w.room.depths_are; parents_are = length-set parents upto part ∙ w.room.parents_are };
      reaching = rw (add-one upto) (joined_reached (joins table) table.count (depth_at depths) (parent_at parents) reached head upto w.reaching head_now part (depth + 1) (depth_at (set depths upto (depth + 1))) (parent_at (set parents upto part))
          inside none (get_or-set_same depths upto (depth + 1) 4294967295 (let e = w.room.depths_are in omega arith)) (λ z n. get_or-set_other depths upto z (depth + 1) 4294967295 n)
          (get_or-set_same parents upto part 0 (let e = w.room.parents_are in omega arith)) (λ z n. get_or-set_other parents upto z part 0 n)
          (sym w.part_is) (add-one depth ∙ ap suc (sym w.depth_is)) (disagree_back table.cuts.items table.count part upto join));
      extends = extends_more before reached (reached ++ upto ∷ []) w.extends (extends_one reached upto);
      head_in = w.head_in;
      part_is = get_or_append_left reached (upto ∷ []) 0 head head_now ∙ w.part_is;
      depth_is = get_or-set_other depths upto part (depth + 1) 4294967295 other ∙ w.depth_is;
    })
      where
        none : depth_at depths upto ≡ 4294967295
        none = get_or_default depths upto 4294967295 far (let e = w.room.depths_are in omega arith) ∙ sym f ∙ far_top

        other : part ≢ upto
        other e =
            let low = w.reaching.growing.are.low head head_now in
            let few = few_reached (joins table) table.count (depth_at depths) (parent_at parents) reached w.reaching.growing.are in
            let k = w.reaching.growing.are.few in
            let same : depth_at depths (get_or reached head 0) ≡ depth_at depths upto = ap (depth_at depths) (w.part_is ∙ e) in
            let n = none in
            let h = head_now in omega arith

    -- a part that the search need not reach
    pub reaching_passes : (depths' parents' reached' : List ℕ)
        → (upto ≡ part) ⊎ ((joins table part upto ≡ false) ⊎ ((far : ℕ) × (far ≡ get_or depths upto far) × (far ≢ 4294967295) × (far % 2 ≢ depth % 2) × (upto < table.count)))
        → depths' ≡ depths → parents' ≡ parents → reached' ≡ reached → IsReachingFrom table before depths' parents' reached' head part depth (upto + 1)
    reaching_passes depths' parents' reached' h p q r = rw (p, q, r) (record {
      room = w.room;
      reaching = rw (add-one upto) (passes (joins table) table.count (depth_at depths) (parent_at parents) reached head upto w.reaching head_now (elim h [
        | inl e ↦ inl (w.part_is ∙ sym e)
        | inr g ↦ inr (elim g [
          | inl e ↦ inl (ap (λ (v : ℕ). joins table v upto) w.part_is ∙ e)
          | inr s ↦ inr (settled s)
        ])
      ]));
      extends = w.extends;
      head_in = w.head_in;
      part_is = w.part_is;
      depth_is = w.depth_is;
    })
      where
        settled : (far : ℕ) × (far ≡ get_or depths upto far) × (far ≢ 4294967295) × (far % 2 ≢ depth % 2) × (upto < table.count)
            → IsSettledPair (joins table) table.count (depth_at depths) reached (get_or reached head 0) upto
        settled (far, f, some, parity, inside) =
            let e : far ≡ depth_at depths upto = f ∙ get_or_default depths upto far 4294967295 (let r = w.room.depths_are in omega arith) in
            record {
              there = was_reached (joins table) table.count (depth_at depths) (parent_at parents) reached upto w.reaching.growing.are (λ n. some (e ∙ n));
              parity = λ n. parity (ap (λ (v : ℕ). v % 2) e ∙ n ∙ ap (λ (v : ℕ). v % 2) (ap (depth_at depths) w.part_is ∙ w.depth_is));
            }

    pub reaching_ends : table.count ≤ upto → IsGrowingForest (joins table) table.count (depth_at depths) (parent_at parents) reached (head + 1)
    reaching_ends l = rw (add-one head) (head_settled (joins table) table.count (depth_at depths) (parent_at parents) reached head upto w.reaching head_now l)

    pub reaching_conflict : (far : ℕ) → upto < table.count → upto ≢ part → joins table part upto ≡ true → far ≡ get_or depths upto far → far ≢ 4294967295 → far % 2 ≡ depth % 2
        → IsConflict (joins table) table.count (depth_at depths) (parent_at parents) reached (get_or reached head 0) upto
    reaching_conflict far inside other join f some parity =
        let e : far ≡ depth_at depths upto = f ∙ get_or_default depths upto far 4294967295 (let r = w.room.depths_are in omega arith) in
        let here = ap (λ (v : ℕ). joins table v upto) w.part_is ∙ join in
        conflict_here (joins table) table.count (depth_at depths) (parent_at parents) reached head upto w.reaching head_now here
        (disagree_back table.cuts.items table.count (get_or reached head 0) upto here) (λ n. other (sym n ∙ w.part_is)) (λ n. some (e ∙ n))
        (ap (λ (v : ℕ). v % 2) (sym e) ∙ parity ∙ ap (λ (v : ℕ). v % 2) (sym (ap (depth_at depths) w.part_is ∙ w.depth_is)))

  -- ---- a tree

  pub growing_starts : (depths parents reached depths' parents' reached' : List ℕ) (start : ℕ) → IsSquare table → HasTreeRoom table.count depths parents
      → start < table.count → depth_at depths start ≡ 4294967295
      → IsGrownForest (joins table) table.count (depth_at depths) (parent_at parents) reached → depths' ≡ set depths start 0 → parents' ≡ set parents start start → reached' ≡ reached ++ start ∷ []
      → IsGrowingFrom table reached depths' parents' reached' start (length reached)
  growing_starts depths parents reached depths' parents' reached' start square room inside none w p q r = rw (p, q, r) (record {
    room = record { depths_are = length-set depths start 0 ∙ room.depths_are; parents_are = length-set parents start start ∙ room.parents_are };
    growing = root_reached (joins table) table.count (depth_at depths) (parent_at parents) reached w.are start start 0 (depth_at (set depths start 0)) (parent_at (set parents start start))
        inside none (get_or-set_same depths start 0 4294967295 (let e = room.depths_are in omega arith)) (λ z n. get_or-set_other depths start z 0 4294967295 n)
        (get_or-set_same parents start start 0 (let e = room.parents_are in omega arith)) (λ z n. get_or-set_other parents start z start 0 n) refl w.settled;
    extends = extends_one reached start;
    start_in = (in-append reached start start).1 (inr refl);
  })

  module _ (before depths parents reached : List ℕ) (start head : ℕ) (w : IsGrowingFrom table before depths parents reached start head) where
    pub growing_on : (depths' parents' reached' : List ℕ) → HasTreeRoom table.count depths' parents' → Extends reached reached'
        → IsGrowingForest (joins table) table.count (depth_at depths') (parent_at parents') reached' (head + 1)
        → IsGrowingFrom table before depths' parents' reached' start (head + 1)
    growing_on depths' parents' reached' room extends growing = record {
      room = room;
      growing = growing;
      extends = extends_more before reached reached' w.extends extends;
      start_in = in_longer reached reached' start extends w.start_in;
    }

    pub growing_few : length reached ≤ table.count
    growing_few = few_reached (joins table) table.count (depth_at depths) (parent_at parents) reached w.growing.are

    pub growing_ends : length reached ≤ head → IsGrownForest (joins table) table.count (depth_at depths) (parent_at parents) reached
    growing_ends l = tree_grown (joins table) table.count (depth_at depths) (parent_at parents) reached head w.growing l

  -- ---- all trees

  pub grown_starts : (depths parents reached : List ℕ) → IsSquare table → HasTreeRoom table.count depths parents → reached ≡ []
      → ((x : ℕ) → depth_at depths x ≡ 4294967295) → IsGrownTo table depths parents reached 0
  grown_starts depths parents reached square room e free = rw e (record {
    room = room;
    grown = none_reached (joins table) table.count (depth_at depths) (parent_at parents) square.few free;
    passed = λ x l. absurd (omega arith);
  })

  module _ (depths parents reached : List ℕ) (place : ℕ) (w : IsGrownTo table depths parents reached place) where
    pub grown_skips : (depths' parents' reached' : List ℕ) (far : ℕ) → place < table.count → far ≡ get_or depths place far → far ≢ 4294967295 → depths' ≡ depths
        → parents' ≡ parents → reached' ≡ reached
        → IsGrownTo table depths' parents' reached' (place + 1)
    grown_skips depths' parents' reached' far inside f some p q r = rw (p, q, r) (record {
      room = w.room;
      grown = w.grown;
      passed = each_more (λ (x : ℕ). IsIn x reached) place w.passed
          (was_reached (joins table) table.count (depth_at depths) (parent_at parents) reached place w.grown.are
          (λ n. some (f ∙ get_or_default depths place far 4294967295 (let r = w.room.depths_are in omega arith) ∙ n)));
    })

    pub grown_more : (depths' parents' reached' : List ℕ) → HasTreeRoom table.count depths' parents' → Extends reached reached' → IsIn place reached'
        → IsGrownForest (joins table) table.count (depth_at depths') (parent_at parents') reached'
        → IsGrownTo table depths' parents' reached' (place + 1)
    grown_more depths' parents' reached' room extends here grown = record {
      room = room;
      grown = grown;
      passed = each_more (λ (x : ℕ). IsIn x reached') place (λ x l. in_longer reached reached' x extends (w.passed x l)) here;
    }

    pub grown_ends : table.count ≤ place → IsTwoColoured (joins table) table.count (depth_at depths)
    grown_ends l = all_grown (joins table) table.count (depth_at depths) (parent_at parents) reached w.grown (λ x m. w.passed x (omega arith))
