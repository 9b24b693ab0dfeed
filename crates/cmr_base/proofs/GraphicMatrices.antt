-- Graphic supports and network matrices are the matrices that have cuts, and their submatrices also have cuts.
use Rattle.std.proofs.Common.{◌≡◌, ◌≢◌, ◌<◌, ◌≤◌, ◌⊎◌, inl, inr, ◌∙◌, ◌↔◌, ℕ, ℤ, pos, Bool, true, false, cond, List, [], map, length, get_or, refl, ap, sym, arith, nat_lt}
use Rattle.std.proofs.lemmas.Bool.{cases_lt}
use Rattle.std.proofs.lemmas.List.{get_or_past, length-map}
use Rattle.cmr_base.specs.declared.network.Network.{Network}
use Rattle.cmr_base.specs.Matrix.{Matrix, height, row_of, entry, is_nonzero, IsRectangular}
use Rattle.cmr_base.specs.LineSets.{IsRowSet, IsColumnSet, submatrix}
use Rattle.cmr_base.specs.GreedySets.{IsHereditary}
use Rattle.cmr_base.specs.Cuts.{IsCuts, HasCuts, HasSignedCuts}
use Rattle.cmr_base.specs.Trees.{RealisesSupport, Realises, support, HasGraphicSupport, IsGraphic, IsNetworkMatrix}
use Rattle.cmr_base.proofs.RowLists.{not_both}
use Rattle.cmr_base.proofs.ListsWithout.{increasing_distinct, same_place}
use Rattle.cmr_base.proofs.Parts.{entry-submatrix, each-submatrix}
use Rattle.cmr_base.proofs.ReproducedCuts.{support_has_cuts, has_signed_cuts}
use Rattle.cmr_base.proofs.CutTrees.{cuts_order, cuts_realise_support, cuts_realise}
use Rattle.cmr_base.proofs.Booleans.{is_lt, lt_of}

-- ---- a matrix is realised if and only if it has cuts

pub cuts_have_tree : (M : ℕ → ℕ → Bool) (m n : ℕ) → HasCuts M (λ r. r < m) → (net : Network) × RealisesSupport net M m n
cuts_have_tree M m n K =
    let order = cuts_order M m K.side K.lies K.cuts in
    (_, cuts_realise_support M m K.side K.lies K.cuts order.0 order.1 n)

pub signed_cuts_have_tree : (M : ℕ → ℕ → ℤ) (m n : ℕ) → HasSignedCuts M (λ r. r < m) → (net : Network) × Realises net M m n
signed_cuts_have_tree M m n K =
    let order = cuts_order (λ r c. is_nonzero (M r c)) m K.side K.lies K.cuts in
    (_, cuts_realise (λ r c. is_nonzero (M r c)) m K.side K.lies K.cuts order.0 order.1 n M K.signed)

-- the column of a nonzero is below the width
pub nonzero_in_range : (m : Matrix) → IsRectangular m → (r c : ℕ) → support m r c ≡ true → c < m.width
nonzero_in_range m is r c e = go (cases_lt c m.width)
  where
    past : m.width ≤ c → (r < height m) ⊎ (height m ≤ r) → entry m r c ≡ pos 0
    past l (inl h) = get_or_past (row_of m r) c (pos 0) (let w = is r h in omega (arith, w, l))
    past l (inr h) = ap (λ (row : List ℤ). get_or row c (pos 0)) (get_or_past m.rows r [] h)

    go : (c < m.width) ⊎ (m.width ≤ c) → c < m.width
    go (inl l) = l
    go (inr l) = absurd (not_both (support m r c) e (ap is_nonzero (past l (cases_lt r (height m)))))

pub graphic_support_from_cuts : (m : Matrix) → IsRectangular m → HasGraphicSupport m ↔ HasCuts (support m) (λ r. r < height m)
graphic_support_from_cuts m is = (
  (λ (net, G). support_has_cuts net (support m) (height m) m.width (nonzero_in_range m is) G),
  (λ K. cuts_have_tree (support m) (height m) m.width K),
)

pub network_matrix_from_cuts : (m : Matrix) → IsRectangular m → IsNetworkMatrix m ↔ HasSignedCuts (entry m) (λ r. r < height m)
network_matrix_from_cuts m is = (
  (λ (net, G). has_signed_cuts net (entry m) (height m) m.width (nonzero_in_range m is) G),
  (λ K. signed_cuts_have_tree (entry m) (height m) m.width K),
)

-- ---- only the entries in range count

pub support_same : (net : Network) (m n : ℕ) (M N : ℕ → ℕ → Bool) → ((r c : ℕ) → r < m → c < n → M r c ≡ N r c) → RealisesSupport net M m n → RealisesSupport net N m n
support_same net m n M N same G = record {
  network = G.network;
  paths = λ c l. let p = G.paths c l in record {
    steps = p.steps;
    walk = p.walk;
    once = p.once;
    exact = λ r k. ((λ e. (p.exact r k).0 (same r c k l ∙ e)), (λ h. sym (same r c k l) ∙ (p.exact r k).1 h));
  };
}

pub realised_same : (net : Network) (m n : ℕ) (M N : ℕ → ℕ → ℤ) → ((r c : ℕ) → r < m → c < n → M r c ≡ N r c) → Realises net M m n → Realises net N m n
realised_same net m n M N same G = record {
  network = G.network;
  paths = λ c l. let p = G.paths c l in record { steps = p.steps; walk = p.walk; once = p.once; exact = λ r k. sym (same r c k l) ∙ p.exact r k };
}

-- ---- submatrices

-- distinct rows of a matrix that has cuts, and any columns
abbrev pub cuts_of_rows : (M : ℕ → ℕ → Bool) (R S : ℕ → Type 0) (side : ℕ → ℕ → Bool) (lies : Bool → ℕ → ℕ → Bool) (row column : ℕ → ℕ)
    → ((r : ℕ) → S r → R (row r)) → ((r s : ℕ) → S r → S s → r ≢ s → row r ≢ row s) → IsCuts M R side lies
    → IsCuts (λ r c. M (row r) (column c)) S (λ r s. side (row r) (row s)) (λ end r c. lies end (row r) (column c))
cuts_of_rows M R S side lies row column inside apart K = record {
  meet = λ end r s c hr hs n. K.meet end (row r) (row s) (column c) (inside r hr) (inside s hs) (apart r s hr hs n);
  three = λ r s t hr hs ht rs rt st. K.three (row r) (row s) (row t) (inside r hr) (inside s hs) (inside t ht) (apart r s hr hs rs) (apart r t hr ht rt) (apart s t hs ht st);
  uses = λ r c h. K.uses (row r) (column c) (inside r h);
}

-- p rows and q columns of m rows and n columns; the rows are distinct
module _ (m n p q : ℕ) (row column : ℕ → ℕ) (inside : (r : ℕ) → r < p → row r < m) (apart : (r s : ℕ) → r < p → s < p → r ≢ s → row r ≢ row s)
    (in_columns : (c : ℕ) → c < q → column c < n) where
  pub part_has_graphic_support : (net : Network) (M : ℕ → ℕ → Bool) → RealisesSupport net M m n → (other : Network) × RealisesSupport other (λ r c. M (row r) (column c)) p q
  part_has_graphic_support net M G =
      let tree = cuts_have_tree (λ r c. cut_off (row r) (column c)) p q (record {
        side = λ r s. cuts.side (row r) (row s);
        lies = λ end r c. cuts.lies end (row r) (column c);
        cuts = cuts_of_rows cut_off (λ r. r < m) (λ r. r < p) cuts.side cuts.lies row column inside apart cuts.cuts;
      }) in
      (tree.0, support_same tree.0 p q (λ r c. cut_off (row r) (column c)) (λ r c. M (row r) (column c)) (λ r c lr lc. kept (row r) (column c) (in_columns c lc)) tree.1)
    where
      -- 0 from column n on
      cut_off : ℕ → ℕ → Bool
      cut_off r c = cond (nat_lt c n) (M r c) false

      kept : (r c : ℕ) → c < n → cut_off r c ≡ M r c
      kept r c l = ap (λ (t : Bool). cond t (M r c) false) (is_lt c n l)

      short : (r c : ℕ) → cut_off r c ≡ true → c < n
      short r c e = go (nat_lt c n) refl e
        where
          go : (t : Bool) → nat_lt c n ≡ t → cond t (M r c) false ≡ true → c < n
          go true f e = lt_of c n f
          go false f e = absurd (not_both false e refl)

      cuts : HasCuts cut_off (λ r. r < m)
      cuts = support_has_cuts net cut_off m n short (support_same net m n M cut_off (λ r c lr lc. sym (kept r c lc)) G)

  pub part_is_network_matrix : (net : Network) (M : ℕ → ℕ → ℤ) → Realises net M m n → (other : Network) × Realises other (λ r c. M (row r) (column c)) p q
  part_is_network_matrix net M G =
      let tree = signed_cuts_have_tree (λ r c. cut_off (row r) (column c)) p q (record {
        side = λ r s. cuts.side (row r) (row s);
        lies = λ end r c. cuts.lies end (row r) (column c);
        cuts = cuts_of_rows (λ r c. is_nonzero (cut_off r c)) (λ r. r < m) (λ r. r < p) cuts.side cuts.lies row column inside apart cuts.cuts;
        signed = λ r c h. cuts.signed (row r) (column c) (inside r h);
      }) in
      (tree.0, realised_same tree.0 p q (λ r c. cut_off (row r) (column c)) (λ r c. M (row r) (column c)) (λ r c lr lc. kept (row r) (column c) (in_columns c lc)) tree.1)
    where
      cut_off : ℕ → ℕ → ℤ
      cut_off r c = cond (nat_lt c n) (M r c) (pos 0)

      kept : (r c : ℕ) → c < n → cut_off r c ≡ M r c
      kept r c l = ap (λ (t : Bool). cond t (M r c) (pos 0)) (is_lt c n l)

      short : (r c : ℕ) → is_nonzero (cut_off r c) ≡ true → c < n
      short r c e = go (nat_lt c n) refl e
        where
          go : (t : Bool) → nat_lt c n ≡ t → is_nonzero (cond t (M r c) (pos 0)) ≡ true → c < n
          go true f e = lt_of c n f
          go false f e = absurd (not_both false e refl)

      cuts : HasSignedCuts cut_off (λ r. r < m)
      cuts = has_signed_cuts net cut_off m n short (realised_same net m n M cut_off (λ r c lr lc. sym (kept r c lc)) G)

module _ (m : Matrix) (rows columns : List ℕ) (row_set : IsRowSet m rows) (column_set : IsColumnSet m columns) where
  height_is : height (submatrix m rows columns) ≡ length rows
  height_is = length-map rows (λ row. map (entry m row) columns)

  inside : (r : ℕ) → r < height (submatrix m rows columns) → get_or rows r 0 < height m
  inside r l = row_set.in_range r (omega (arith, l, height_is))

  apart : (r s : ℕ) → r < height (submatrix m rows columns) → s < height (submatrix m rows columns) → r ≢ s → get_or rows r 0 ≢ get_or rows s 0
  apart r s lr ls n e = n (same_place rows r s (increasing_distinct rows row_set.increasing) (omega (arith, lr, height_is)) (omega (arith, ls, height_is)) e)

  same : (r c : ℕ) → r < height (submatrix m rows columns) → c < length columns → entry m (get_or rows r 0) (get_or columns c 0) ≡ entry (submatrix m rows columns) r c
  same r c lr lc = sym (entry-submatrix m rows columns r c (omega (arith, lr, height_is)) lc)

  pub submatrix_has_graphic_support : HasGraphicSupport m → HasGraphicSupport (submatrix m rows columns)
  submatrix_has_graphic_support (net, G) =
      let part = part_has_graphic_support (height m) m.width (height (submatrix m rows columns)) (length columns)
      (λ r. get_or rows r 0) (λ c. get_or columns c 0) inside apart column_set.in_range net (support m) G in (
        part.0,
        support_same part.0 (height (submatrix m rows columns)) (length columns) (λ r c. support m (get_or rows r 0) (get_or columns c 0)) (support (submatrix m rows columns))
            (λ r c lr lc. ap is_nonzero (same r c lr lc)) part.1,
      )

  pub submatrix_is_network_matrix : IsNetworkMatrix m → IsNetworkMatrix (submatrix m rows columns)
  submatrix_is_network_matrix (net, G) =
      let part = part_is_network_matrix (height m) m.width (height (submatrix m rows columns)) (length columns)
      (λ r. get_or rows r 0) (λ c. get_or columns c 0) inside apart column_set.in_range net (entry m) G in
      (part.0, realised_same part.0 (height (submatrix m rows columns)) (length columns) (λ r c. entry m (get_or rows r 0) (get_or columns c 0)) (entry (submatrix m rows columns)) same part.1)

pub graphic_support_hereditary : IsHereditary HasGraphicSupport
graphic_support_hereditary m is rows columns row_set column_set G = submatrix_has_graphic_support m rows columns row_set column_set G

pub graphic_hereditary : IsHereditary IsGraphic
graphic_hereditary m is rows columns row_set column_set (binary, G) = (
  each-submatrix (λ z. (z ≡ pos 0) ⊎ (z ≡ pos 1)) m rows columns (inl refl) binary,
  submatrix_has_graphic_support m rows columns row_set column_set G,
)

pub network_matrix_hereditary : IsHereditary IsNetworkMatrix
network_matrix_hereditary m is rows columns row_set column_set G = submatrix_is_network_matrix m rows columns row_set column_set G
