-- Submatrices that have no graphic support, and larger ones.
use Rattle.std.proofs.Common.{◌≡◌, ◌<◌, ◌+◌, ◌∙◌, ℕ, zero, suc, List, [], ◌∷◌, true, length, map, get_or, take, drop, refl, ap, sym, subst, arith, inl, inr}
use Rattle.std.specs.Prelude.{MatchOption}
use Rattle.std.specs.List.{AllByRecursion}
use Rattle.std.specs.List.Sorted.{IsStrictlyIncreasing}
use Rattle.std.proofs.lemmas.List.{length-map, get_or-take, length-take}
use Rattle.cmr_base.specs.declared.line_set.LineSet.{LineSet}
use Rattle.cmr_base.specs.Matrix.{Matrix, height, entry, transposed, is_nonzero, IsMatrix, IsTernary}
use Rattle.cmr_base.specs.LineSets.{submatrix}
use Rattle.cmr_base.specs.GreedySets.{IsHereditary}
use Rattle.cmr_base.specs.Members.{IsIn}
use Rattle.cmr_base.specs.Trees.{HasGraphicSupport, IsNetworkMatrix, RealisesSupport, Reproduces, support}
use Rattle.cmr_base.proofs.GraphicMatrices.{support_same, submatrix_has_graphic_support, graphic_support_hereditary}
use Rattle.cmr_base.proofs.ListsWithout.{in_from_contains, contains_from_in, increasing_tail}
use Rattle.cmr_base.proofs.Members.{IsWithin}
use Rattle.cmr_base.proofs.Parts.{entry-submatrix, entry-transposed_rectangular, height-transposed, is_ternary-submatrix, is_ternary-transposed}
use Rattle.cmr_base.proofs.Submatrices.{inherited_from_hereditary}
use Rattle.cmr_base.proofs.TransposedLemmas.{row_set-transposed, column_set-transposed}
use Rattle.network_orient.specs.declared.orienting.Orientation.{Orientation}
use Rattle.network_orient.specs.declared.orienting.Orientation.TheVariants.{Directed, WrongSigns, NoTree}
use Rattle.network_orient.specs.Orientations.{IsOrientation, directed}
use Rattle.network_orient.proofs.SignedSupports.{signed_graphic}
use Rattle.tree_type.specs.Invariant.{AreLines}
use Rattle.tree_type.specs.Sides.{is_among}
use Rattle.tree_type.specs.Soundness.{part}
use Rattle.tree_type.proofs.PlacedLines.{lines_within}
use Rattle.decomp_tree.specs.Obstructions.{IsObstruction, IsNoNetwork, IsSomeOf}
use Rattle.tree_type.proofs.Among.{among_in}

-- a directed tree, or that there is none
pub directed_decides : (m : Matrix) (found : Orientation) → IsOrientation m found → MatchOption (directed found) (¬ (IsNetworkMatrix m)) (λ net. Reproduces net m)
directed_decides m (Directed net) is = is
directed_decides m (WrongSigns row net) is = is.0
directed_decides m NoTree is = is.0

graphic_as : (a b : Matrix) → height a ≡ height b → a.width ≡ b.width → ((r c : ℕ) → r < height a → c < a.width → entry a r c ≡ entry b r c) → HasGraphicSupport a → HasGraphicSupport b
graphic_as a b h w same (net, G) = (
  net,
  subst (λ k. RealisesSupport net (support b) k b.width) h
      (subst (λ k. RealisesSupport net (support b) (height a) k) w
      (support_same net (height a) a.width (support a) (support b) (λ r c lr lc. ap is_nonzero (same r c lr lc)) G)),
)

-- that the transposed matrix has a graphic support is hereditary
cographic_hereditary : IsHereditary (λ m. HasGraphicSupport (transposed m))
cographic_hereditary m is rows columns row_set column_set G =
    graphic_as (submatrix (transposed m) columns rows) (transposed (submatrix m rows columns)) (columns_are ∙ sym (height-transposed (submatrix m rows columns))) (sym rows_are) same
    (submatrix_has_graphic_support (transposed m) columns rows (row_set-transposed m columns column_set) (column_set-transposed m rows row_set) G)
  where
    columns_are : height (submatrix (transposed m) columns rows) ≡ length columns
    columns_are = length-map columns (λ column. map (entry (transposed m) column) rows)

    rows_are : height (submatrix m rows columns) ≡ length rows
    rows_are = length-map rows (λ row. map (entry m row) columns)

    same : (c r : ℕ) → c < height (submatrix (transposed m) columns rows) → r < length rows → entry (submatrix (transposed m) columns rows) c r ≡ entry (transposed (submatrix m rows columns)) c r
    same c r lc lr =
        entry-submatrix (transposed m) columns rows c r (omega (arith, lc, columns_are)) lr
        ∙ entry-transposed_rectangular m (get_or rows r 0) (get_or columns c 0) is.rectangular
        ∙ sym (entry-submatrix m rows columns r c lr (omega (arith, lc, columns_are)))
        ∙ sym (entry-transposed_rectangular (submatrix m rows columns) r c (is_ternary-submatrix m rows columns is).rectangular)

module _ (m : Matrix) (is : IsMatrix m) where
  ternary : IsTernary m
  ternary = record { rectangular = is.rectangular; small = is.small }

  pub no_network_with : (own lines : LineSet) → IsObstruction m own → AreLines m lines → IsWithin own.rows lines.rows → IsWithin own.columns lines.columns → IsNoNetwork (part m lines)
  no_network_with own lines o are rows columns =
      let inner = is_ternary-submatrix m lines.rows lines.columns ternary in (
        (λ net. o.none.0 (inherited_from_hereditary HasGraphicSupport graphic_support_hereditary m ternary lines.rows lines.columns own.rows own.columns
            are.rows.increasing are.columns.increasing o.are_lines.rows.increasing o.are_lines.columns.increasing rows columns ((signed_graphic (part m lines) inner).0 net).0)),
        (λ net. o.none.1 (inherited_from_hereditary (λ n. HasGraphicSupport (transposed n)) cographic_hereditary m ternary lines.rows lines.columns own.rows own.columns
            are.rows.increasing are.columns.increasing o.are_lines.rows.increasing o.are_lines.columns.increasing rows columns ((signed_graphic (transposed (part m lines)) (is_ternary-transposed (part m lines) inner)).0 net).0)),
      )

pub within_all : (set xs : List ℕ) → AllByRecursion (λ line. is_among set line ≡ true) xs → IsWithin xs set
within_all set [] all x h = absurd h
within_all set (y ∷ ys) all x (inl e) = among_in set x (ap (is_among set) e ∙ all.0)
within_all set (y ∷ ys) all x (inr h) = within_all set ys all.1 x h

-- some lines of a set, by their positions in it
pub some_are_lines : (m : Matrix) (lines some : LineSet) → AreLines m lines → IsSomeOf lines.rows some.rows → IsSomeOf lines.columns some.columns → AreLines m some
some_are_lines m lines some are r c = lines_within m some lines (record {
  rows_increase = r.increasing;
  columns_increase = c.increasing;
  rows = λ x h. contains_from_in lines.rows x (r.among x (in_from_contains some.rows x h));
  columns = λ x h. contains_from_in lines.columns x (c.among x (in_from_contains some.columns x h));
}) are

taken_in : (n : ℕ) (xs : List ℕ) (x : ℕ) → IsIn x (take n xs) → IsIn x xs
taken_in zero xs x h = absurd h
taken_in (suc n) [] x h = absurd h
taken_in (suc n) (y ∷ ys) x (inl e) = inl e
taken_in (suc n) (y ∷ ys) x (inr h) = inr (taken_in n ys x h)

dropped_in : (n : ℕ) (xs : List ℕ) (x : ℕ) → IsIn x (drop n xs) → IsIn x xs
dropped_in zero xs x h = h
dropped_in (suc n) [] x h = h
dropped_in (suc n) (y ∷ ys) x h = inr (dropped_in n ys x h)

increases_dropped : (n : ℕ) (xs : List ℕ) → IsStrictlyIncreasing xs → IsStrictlyIncreasing (drop n xs)
increases_dropped zero xs increases = increases
increases_dropped (suc n) [] increases = increases
increases_dropped (suc n) (x ∷ xs) increases = increases_dropped n xs (increasing_tail x xs increases)

increases_taken : (n : ℕ) (xs : List ℕ) → IsStrictlyIncreasing xs → IsStrictlyIncreasing (take n xs)
increases_taken n xs increases k h =
    let short = length-take n xs in
    let l = increases k (omega (arith, h, short)) in
    let low = get_or-take n xs k 0 (omega (arith, h, short)) in
    let high = get_or-take n xs (k + 1) 0 (omega (arith, h, short)) in
    omega (arith, l, low, high)

-- a run of lines
pub run_of : (xs : List ℕ) (from count : ℕ) → IsStrictlyIncreasing xs → IsSomeOf xs (take count (drop from xs))
run_of xs from count increases = record {
  increasing = increases_taken count (drop from xs) (increases_dropped from xs increases);
  among = λ x h. dropped_in from xs x (taken_in count (drop from xs) x h);
}

pub run_among : (lines numbers run middle : List ℕ) (from count : ℕ) → IsStrictlyIncreasing lines → numbers ≡ lines → run ≡ take count (drop from numbers) → middle ≡ run → IsSomeOf lines middle
run_among lines numbers run middle from count increases e f g =
    subst (IsSomeOf lines) (sym (g ∙ f ∙ ap (λ (xs : List ℕ). take count (drop from xs)) e)) (run_of lines from count increases)

pub run_increases : (lines numbers run : List ℕ) (from count : ℕ) → IsStrictlyIncreasing lines → numbers ≡ lines → run ≡ take count (drop from numbers) → IsStrictlyIncreasing run
run_increases lines numbers run from count increases e f = (run_among lines numbers run run from count increases e f refl).increasing
