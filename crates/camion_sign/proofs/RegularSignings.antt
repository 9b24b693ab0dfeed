-- If some matrix of the support is totally unimodular, cycle faults decide total unimodularity. Camion's signing decides
-- whether a 0/1 matrix is regular.
use Rattle.std.proofs.Common.{List, refl, arith}
use Rattle.cmr_base.specs.Matrix.{Matrix, height, IsMatrix, IsTernary}
use Rattle.cmr_base.specs.Supports.{HaveOneSupport}
use Rattle.cmr_base.specs.Trees.{IsBinary}
use Rattle.cmr_base.specs.Violator.{HasNoViolator}
use Rattle.ghouila.proofs.CamionLaw.{camion as equivalence}
use Rattle.ghouila.proofs.SignsUnique.{fault_free_has_no_violator, no_violator_no_fault}
use Rattle.chains.specs.declared.step.SignStep.{SignStep}
use Rattle.camion_sign.specs.SignOrder.{IsSignedBy}
use Rattle.chains.specs.SignSteps.{unsigned}
use Rattle.chains.specs.Chains.{IsRegular}
use Rattle.camion_sign.specs.Laws.{CycleFaultsDecide, SigningsDecideRegularity}
use Rattle.chains.proofs.ChainViolators.{unsigned_signs, chains_refute_regularity}
use Rattle.camion_sign.proofs.FreeSteps.{chain_steps}

pub own_support : (m : Matrix) → HaveOneSupport m m
own_support m = record { height_same = refl; width_same = refl; zeros_same = λ row column. ((λ e. e), (λ e. e)) }

pub fault_free_decides : CycleFaultsDecide
fault_free_decides m n is_m is_n one unimodular = (
  (λ itself. no_violator_no_fault m is_m.rectangular is_m.small ((equivalence m is_m.small).0 itself)),
  (λ clean. (equivalence m is_m.small).1 (fault_free_has_no_violator m n is_m.rectangular is_n.rectangular is_m.small is_n.small one clean ((equivalence n is_n.small).0 unimodular))),
)

no_violator : (a m : Matrix) (steps : List SignStep) → IsMatrix a → IsBinary a → IsTernary m → HaveOneSupport a m → IsSignedBy a steps m → IsRegular a → HasNoViolator m
no_violator a m steps is binary ternary support signed regular rows columns row_set column_set violator =
    chains_refute_regularity a m
    (record { chain = record { steps = steps; violator = record { rows = rows; columns = columns } }; rows = height a; columns = a.width })
    binary
    (record { rectangular = is.rectangular; small = is.small })
    (record {
      sizes = (refl, refl);
      steps = chain_steps a is binary steps (unsigned a) m (unsigned_signs a) signed.steps_are;
      violator = record {
        row_set = record { increasing = row_set.increasing; in_range = λ k h. let l = row_set.in_range k h in let e = support.height_same in omega arith };
        column_set = record { increasing = column_set.increasing; in_range = λ k h. let l = column_set.in_range k h in let e = support.width_same in omega arith };
        all_signed = λ i j _ _ one. signed.all_signed i j one;
        violator = violator;
      };
    })
    regular

pub signings_decide : SigningsDecideRegularity
signings_decide a m steps is binary ternary support signed =
    (no_violator a m steps is binary ternary support signed, λ free. (m, ternary, support, (equivalence m ternary.small).1 free))
