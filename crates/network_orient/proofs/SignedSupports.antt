-- Network matrices are the matrices without cycle fault whose support is graphic. Their transposes are the matrices without
-- cycle fault whose support is cographic.
use Rattle.std.proofs.Common.{[], length, refl, ◌<◌, ◌≤◌, ◌⊎◌, inl, inr, ◌∙◌, ℕ, ℤ, pos, ◌*ℤ◌, map, sym, ap, ap₂, subst, arith}
use Rattle.std.proofs.Math.Path.{fun_ext}
use Rattle.std.proofs.lemmas.Bool.{cases_lt}
use Rattle.std.proofs.lemmas.List.FromFn.{length-map-range_with_len, get_or-map-range_with_len}
use Rattle.cmr_base.specs.declared.network.Network.{Network}
use Rattle.cmr_base.specs.CyclePlaces.{HasNoCycleFault}
use Rattle.cmr_base.specs.LineSets.{first_lines}
use Rattle.cmr_base.specs.Matrix.{Matrix, height, entry, transposed, IsEntry, IsTernary}
use Rattle.cmr_base.specs.MatrixSums.{filled}
use Rattle.cmr_base.specs.Signing.{IsSign}
use Rattle.cmr_base.specs.Supports.{AgreeUpToSigns, HaveOneSupport}
use Rattle.cmr_base.specs.ReversedNetworks.{reversed_network, IsMultiplied}
use Rattle.cmr_base.specs.Violator.{HasNoViolator, IsViolator}
use Rattle.cmr_base.specs.Trees.{IsDirectedPathOf, HasGraphicSupport, IsConetworkMatrix, IsNetworkMatrix, Realises, Reproduces, ReproducesSupport, direction, head, tail}
use Rattle.cmr_base.proofs.ColumnSteps.{direction_is_small}
use Rattle.cmr_base.proofs.FilledMatrices.{height-filled, entry-filled}
use Rattle.cmr_base.proofs.Integers.{sums}
use Rattle.cmr_base.proofs.Lists.{all_of, all-map}
use Rattle.cmr_base.proofs.Parts.{entry-transposed_rectangular, is_ternary-transposed}
use Rattle.cmr_base.proofs.ReproducedCuts.{support_realised}
use Rattle.cmr_base.proofs.TransposedLemmas.{column_set_from_transposed, row_set_from_transposed}
use Rattle.cmr_base.proofs.ViolatorLemmas.{violator-transposed}
use Rattle.cmr_base.proofs.Views.{small_rows}
use Rattle.ghouila.proofs.NetworkSignings.{conetworks_are_unimodular, networks_are_unimodular}
use Rattle.ghouila.proofs.SignsAgree.{signs_agree}
use Rattle.ghouila.proofs.SignsUnique.{column_in, fault_free_has_no_violator, no_violator_no_fault, row_in}
use Rattle.network_orient.specs.Laws.{ConetworkMatricesAreSignedCographic, NetworkMatricesAreSignedGraphic}
use Rattle.network_orient.proofs.Orientations.{one_support, one_support_transposed, reversed_reproduces}

-- a network matrix has both properties
network_has_none : (m : Matrix) → IsTernary m → IsNetworkMatrix m → HasGraphicSupport m × HasNoCycleFault (entry m)
network_has_none m is (net, N) = (
  (net, support_realised net (entry m) (height m) m.width N),
  no_violator_no_fault m is.rectangular is.small (networks_are_unimodular m is (net, N)).1,
)

pub filled_is_ternary : (m n : ℕ) (entries : ℕ → ℕ → ℤ) → ((r c : ℕ) → IsEntry (entries r c)) → IsTernary (filled m n entries)
filled_is_ternary m n entries each = record {
  rectangular = λ row l. ap length (get_or-map-range_with_len (λ r. map (entries r) (first_lines n)) 0 m row row [] (let h = height-filled m n entries in omega (arith, l, h)) (omega arith)) ∙ length-map-range_with_len (entries row) 0 n;
  small = small_rows entries (first_lines n) (first_lines m) each;
}

-- signs for lines as lists
signs_listed : (m n : Matrix) (agreement : AgreeUpToSigns (entry m) (entry n))
    → IsMultiplied (entry m) (entry n) (height m) m.width (map agreement.row_sign (first_lines (height m))) (map agreement.column_sign (first_lines m.width))
signs_listed m n agreement = record {
  rows = all-map IsSign agreement.row_sign (first_lines (height m)) (all_of (λ row. IsSign (agreement.row_sign row)) agreement.row_signs (first_lines (height m)));
  columns = all-map IsSign agreement.column_sign (first_lines m.width) (all_of (λ column. IsSign (agreement.column_sign column)) agreement.column_signs (first_lines m.width));
  entries = λ row column low near.
      agreement.entries row column
      ∙ ap₂ (λ s t. s *ℤ (t *ℤ entry m row column)) (sym (get_or-map-range_with_len agreement.row_sign 0 (height m) row row (pos 1) low (omega arith)))
      (sym (get_or-map-range_with_len agreement.column_sign 0 m.width column column (pos 1) near (omega arith)));
}

module _ (m : Matrix) (net : Network) (G : ReproducesSupport net m) where
  -- the entry that the network's directions give
  abbrev given : ℕ → (column : ℕ) → (column < m.width) ⊎ (m.width ≤ column) → ℤ
  given row column (inl l) = direction (G.paths column l).steps row
  given row column (inr out) = pos 0

  given_small : (row column : ℕ) (k : (column < m.width) ⊎ (m.width ≤ column)) → IsEntry (given row column k)
  given_small row column (inl l) = direction_is_small (G.paths column l).steps row
  given_small row column (inr out) = record { low = omega (arith, sums); high = omega (arith, sums) }

  -- the matrix of these entries
  abbrev entries : ℕ → ℕ → ℤ
  entries row column = given row column (cases_lt column m.width)

  abbrev directed : Matrix
  directed = filled (height m) m.width entries

  directed_is_ternary : IsTernary directed
  directed_is_ternary = filled_is_ternary (height m) m.width entries (λ row column. given_small row column (cases_lt column m.width))

  path_by : (column : ℕ) (k : (column < m.width) ⊎ (m.width ≤ column)) → column < m.width
      → IsDirectedPathOf net.arcs (height m) (λ row. given row column k) (tail net.walks column) (head net.walks column)
  path_by column (inl l) near = let path = G.paths column l in record { steps = path.steps; walk = path.walk; once = path.once; exact = λ row low. refl }
  path_by column (inr out) near = absurd (omega arith)

  -- the network reproduces it
  directed_realised : Realises net (entry directed) (height m) m.width
  directed_realised = record {
    network = G.network;
    paths = λ column near.
        let path = path_by column (cases_lt column m.width) near in
        record { steps = path.steps; walk = path.walk; once = path.once; exact = λ row low. entry-filled (height m) m.width entries row column low near ∙ path.exact row low };
  }

  directed_reproduced : Reproduces net directed
  directed_reproduced = subst (λ h. Realises net (entry directed) h m.width) (sym (height-filled (height m) m.width entries)) directed_realised

  -- if the matrix has no cycle fault, the network can be reversed
  reversed : IsTernary m → HasNoCycleFault (entry m) → IsNetworkMatrix m
  reversed is clean =
      let same = height-filled (height m) m.width entries in
      let one = one_support net directed m directed_is_ternary.rectangular is.rectangular same refl directed_reproduced G in
      let free = no_violator_no_fault directed directed_is_ternary.rectangular directed_is_ternary.small (networks_are_unimodular directed directed_is_ternary (net, directed_reproduced)).1 in
      let agreement = signs_agree (entry directed) (entry m) directed_is_ternary.small is.small one.zeros_same free clean (height directed) directed.width
      (λ i j h. (row_in directed i j h, column_in directed i j directed_is_ternary.rectangular h)) in
      let rows = map agreement.row_sign (first_lines (height directed)) in
      let columns = map agreement.column_sign (first_lines directed.width) in
      (reversed_network net rows columns, reversed_reproduces net directed m rows columns same refl directed_reproduced (signs_listed directed m agreement))

pub signed_graphic : NetworkMatricesAreSignedGraphic
signed_graphic m is = (network_has_none m is, (λ ((net, G), clean). reversed m net G is clean))

-- ---- transposed network matrices

none_of_transposed : (m : Matrix) → IsTernary m → HasNoViolator m → HasNoViolator (transposed m)
none_of_transposed m is none columns rows column_set row_set violator =
    none rows columns (row_set_from_transposed m rows row_set) (column_set_from_transposed m columns column_set)
    (violator-transposed (λ column row. entry m row column) columns rows
    (subst (λ (M : ℕ → ℕ → ℤ). IsViolator M columns rows) (fun_ext (λ column. fun_ext (λ row. entry-transposed_rectangular m row column is.rectangular))) violator))

conetwork_has_none : (m : Matrix) → IsTernary m → IsConetworkMatrix m → HasGraphicSupport (transposed m) × HasNoCycleFault (entry m)
conetwork_has_none m is network = (
  (network_has_none (transposed m) (is_ternary-transposed m is) network).0,
  no_violator_no_fault m is.rectangular is.small (conetworks_are_unimodular m is network).1,
)

module _ (m : Matrix) (is : IsTernary m) (net : Network) (G : ReproducesSupport net (transposed m)) where
  -- the transpose of a matrix that the network of the rows' supports reproduces has the support of m and no violator
  abbrev across : Matrix
  across = directed (transposed m) net G

  across_support : HaveOneSupport across (transposed m)
  across_support =
      one_support net across (transposed m) (directed_is_ternary (transposed m) net G).rectangular (is_ternary-transposed m is).rectangular
      (height-filled (height (transposed m)) (transposed m).width (entries (transposed m) net G)) refl (directed_reproduced (transposed m) net G) G

  back_support : HaveOneSupport m (transposed across)
  back_support =
      let one = one_support_transposed across m (directed_is_ternary (transposed m) net G).rectangular is.rectangular across_support in
      record { height_same = sym one.height_same; width_same = sym one.width_same; zeros_same = λ row column. ((one.zeros_same row column).1, (one.zeros_same row column).0) }

  back_is_ternary : IsTernary (transposed across)
  back_is_ternary = is_ternary-transposed across (directed_is_ternary (transposed m) net G)

  back_free : HasNoViolator (transposed across)
  back_free = none_of_transposed across (directed_is_ternary (transposed m) net G) (networks_are_unimodular across (directed_is_ternary (transposed m) net G) (net, directed_reproduced (transposed m) net G)).1

  transposed_reversed : HasNoCycleFault (entry m) → IsConetworkMatrix m
  transposed_reversed clean =
      let free = fault_free_has_no_violator m (transposed across) is.rectangular back_is_ternary.rectangular is.small back_is_ternary.small back_support clean back_free in
      let turned = is_ternary-transposed m is in
      reversed (transposed m) net G turned (no_violator_no_fault (transposed m) turned.rectangular turned.small (none_of_transposed m is free))

pub signed_cographic : ConetworkMatricesAreSignedCographic
signed_cographic m is = (conetwork_has_none m is, (λ ((net, G), clean). transposed_reversed m is net G clean))
