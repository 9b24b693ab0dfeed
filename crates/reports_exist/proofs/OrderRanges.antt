-- The numbers of an order of the command line are in their ranges.
use Rattle.std.proofs.Common.{◌≡◌, ◌∙◌, ◌⊎◌, inl, inr, ℕ, true, false, List, [], ◌∷◌, Option, Some, None, option_map, codes, refl, sym, subst}
use Rattle.std.specs.Str.{bytes_eq}
use Rattle.cmr_base.proofs.Booleans.{two_cases}
use Rattle.cmr_base.proofs.Options.{some_same}
use Rattle.cmr_tools.specs.ToolOrders.{Order, balanced, camion, check, compose, generate, order, parts, regular, series_parallel, sign, test, tool_of, tu, upgrade}
use Rattle.cmr_classes.specs.declared.tools.graphic_network.TestedProperty.TheVariants.{Graphic, Network}
use Rattle.cmr_classes.specs.GraphicNetwork.{test_order}
use Rattle.cmr_classes.specs.SeriesParallel.{series_parallel_order}
use Rattle.cmr_classes.proofs.GraphMatrixAnswers.{test_in_ranges}
use Rattle.cmr_evidence.specs.Check.{check_order}
use Rattle.cmr_evidence.specs.Upgrade.{upgrade_order}
use Rattle.cmr_reach.specs.Balanced.{balanced_order}
use Rattle.cmr_reach.specs.Camion.{camion_order}
use Rattle.cmr_reach.specs.Compose.{compose_order}
use Rattle.cmr_reach.specs.Parts.{parts_order}
use Rattle.cmr_reach.specs.Sign.{sign_order}
use Rattle.cmr_reach.proofs.BalancedAnswers.{balanced_order-ranges}
use Rattle.cmr_unimodular.specs.Generate.{generate_order}
use Rattle.cmr_unimodular.specs.Regular.{regular_order}
use Rattle.cmr_unimodular.specs.Tu.{tu_order}
use Rattle.cmr_unimodular.proofs.GenerateAnswers.{generate_order-ranges}
use Rattle.cmr_unimodular.proofs.RegularAnswers.{regular_order-ranges}
use Rattle.cmr_unimodular.proofs.TuAnswers.{tu_order-ranges}

-- what an option becomes has a property that each of its values gives
mapped : {A : Type 0} (f : A → Order) (found : Option A) → ((a : A) → found ≡ Some a → (tool_of (f a)).InRanges) → (o : Order) → option_map f found ≡ Some o → (tool_of o).InRanges
mapped f None ranges o e = cc
mapped f (Some a) ranges o e = subst (λ other. (tool_of other).InRanges) (some_same (f a) o e) (ranges a refl)

none_given : (o : Order) → ◌≡◌ {A = Option Order} None (Some o) → (tool_of o).InRanges
none_given o e = cc

-- the arguments after the name of the tool, by the first name that the word is
module _ (word : List ℕ) (words : List (List ℕ)) (o : Order) (e : order (word ∷ words) ≡ Some o) where
  is_or_not : (name : List ℕ) → (bytes_eq word name ≡ true) ⊎ (bytes_eq word name ≡ false)
  is_or_not name = two_cases (bytes_eq word name)

  by_word : (found : Option Order) → order (word ∷ words) ≡ found → (found ≡ Some o → (tool_of o).InRanges) → (tool_of o).InRanges
  by_word found f ranges = ranges (sym f ∙ e)

  by_name : (tool_of o).InRanges
  by_name =
      elim (is_or_not (codes "tu")) [
        | inl f0 ↦ by_word (option_map tu (tu_order words)) (rw f0 refl) (mapped tu (tu_order words) (λ o e. (tu_order-ranges words o e).0) o)
        | inr f0 ↦
            elim (is_or_not (codes "regular")) [
              | inl f1 ↦ by_word (option_map regular (regular_order words)) (rw (f0, f1) refl) (mapped regular (regular_order words) (λ o e. (regular_order-ranges words o e).0) o)
              | inr f1 ↦
                  elim (is_or_not (codes "series-parallel")) [
                    | inl f2 ↦ by_word (option_map series_parallel (series_parallel_order words)) (rw (f0, f1, f2) refl) (mapped series_parallel (series_parallel_order words) (λ o e. tt) o)
                    | inr f2 ↦
                        elim (is_or_not (codes "graphic")) [
                          | inl f3 ↦ by_word (option_map (test Graphic) (test_order Graphic words)) (rw (f0, f1, f2, f3) refl) (mapped (test Graphic) (test_order Graphic words) (λ o e. test_in_ranges Graphic o) o)
                          | inr f3 ↦
                              elim (is_or_not (codes "network")) [
                                | inl f4 ↦ by_word (option_map (test Network) (test_order Network words)) (rw (f0, f1, f2, f3, f4) refl) (mapped (test Network) (test_order Network words) (λ o e. test_in_ranges Network o) o)
                                | inr f4 ↦
                                    elim (is_or_not (codes "generate")) [
                                      | inl f5 ↦ by_word (option_map generate (generate_order words)) (rw (f0, f1, f2, f3, f4, f5) refl) (mapped generate (generate_order words) (λ o e. (generate_order-ranges words o e).0) o)
                                      | inr f5 ↦
                                          elim (is_or_not (codes "check")) [
                                            | inl f6 ↦ by_word (option_map check (check_order words)) (rw (f0, f1, f2, f3, f4, f5, f6) refl) (mapped check (check_order words) (λ o e. tt) o)
                                            | inr f6 ↦
                                                elim (is_or_not (codes "upgrade")) [
                                                  | inl f7 ↦ by_word (option_map upgrade (upgrade_order words)) (rw (f0, f1, f2, f3, f4, f5, f6, f7) refl) (mapped upgrade (upgrade_order words) (λ o e. tt) o)
                                                  | inr f7 ↦
                                                      elim (is_or_not (codes "camion")) [
                                                        | inl f8 ↦ by_word (option_map camion (camion_order words)) (rw (f0, f1, f2, f3, f4, f5, f6, f7, f8) refl) (mapped camion (camion_order words) (λ o e. tt) o)
                                                        | inr f8 ↦
                                                            elim (is_or_not (codes "sign")) [
                                                              | inl f9 ↦ by_word (option_map sign (sign_order words)) (rw (f0, f1, f2, f3, f4, f5, f6, f7, f8, f9) refl) (mapped sign (sign_order words) (λ o e. tt) o)
                                                              | inr f9 ↦
                                                                  elim (is_or_not (codes "balanced")) [
                                                                    | inl f10 ↦ by_word (option_map balanced (balanced_order words)) (rw (f0, f1, f2, f3, f4, f5, f6, f7, f8, f9, f10) refl) (mapped balanced (balanced_order words) (λ o e. (balanced_order-ranges words o e).0) o)
                                                                    | inr f10 ↦
                                                                        elim (is_or_not (codes "parts")) [
                                                                          | inl f11 ↦ by_word (option_map parts (parts_order words)) (rw (f0, f1, f2, f3, f4, f5, f6, f7, f8, f9, f10, f11) refl) (mapped parts (parts_order words) (λ o e. tt) o)
                                                                          | inr f11 ↦
                                                                              elim (is_or_not (codes "compose")) [
                                                                                | inl f12 ↦ by_word (option_map compose (compose_order words)) (rw (f0, f1, f2, f3, f4, f5, f6, f7, f8, f9, f10, f11, f12) refl) (mapped compose (compose_order words) (λ o e. tt) o)
                                                                                | inr f12 ↦
                                                                                    by_word None (rw (f0, f1, f2, f3, f4, f5, f6, f7, f8, f9, f10, f11, f12) refl) (none_given o)
                                                                              ]
                                                                        ]
                                                                  ]
                                                            ]
                                                      ]
                                                ]
                                          ]
                                    ]
                              ]
                        ]
                  ]
            ]
      ]

pub order_in_ranges : (words : List (List ℕ)) (o : Order) → order words ≡ Some o → (tool_of o).InRanges
order_in_ranges [] o e = none_given o e
order_in_ranges (word ∷ words) o e = by_name word words o e
