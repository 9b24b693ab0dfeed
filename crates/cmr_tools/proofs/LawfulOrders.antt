-- The tool of each order is lawful.
use Rattle.cmr_front.specs.Tool.{IsLawful}
use Rattle.cmr_tools.specs.ToolOrders.{Order, tool_of, tu, regular, series_parallel, test, generate, check, upgrade, camion, sign, balanced, parts, compose}
use Rattle.cmr_unimodular.proofs.TuAnswers.{tu_lawful}
use Rattle.cmr_unimodular.proofs.RegularAnswers.{regular_lawful}
use Rattle.cmr_classes.proofs.SeriesParallelAnswers.{series_parallel_lawful}
use Rattle.cmr_classes.proofs.GraphMatrixAnswers.{test_lawful}
use Rattle.cmr_unimodular.proofs.GenerateAnswers.{generate_lawful}
use Rattle.cmr_evidence.proofs.CheckAnswers.{check_lawful}
use Rattle.cmr_evidence.proofs.UpgradeAnswers.{upgrade_lawful}
use Rattle.cmr_reach.proofs.CamionAnswers.{camion_lawful}
use Rattle.cmr_reach.proofs.SignAnswers.{sign_lawful}
use Rattle.cmr_reach.proofs.BalancedAnswers.{balanced_lawful}
use Rattle.cmr_reach.proofs.PartsAnswers.{parts_lawful}
use Rattle.cmr_reach.proofs.ComposeAnswers.{compose_lawful}

pub lawful : (o : Order) → IsLawful (tool_of o)
lawful (tu o) = tu_lawful o
lawful (regular o) = regular_lawful o
lawful (series_parallel o) = series_parallel_lawful o
lawful (test p o) = test_lawful p o
lawful (generate o) = generate_lawful o
lawful (check o) = check_lawful o
lawful (upgrade o) = upgrade_lawful o
lawful (camion o) = camion_lawful o
lawful (sign o) = sign_lawful o
lawful (balanced o) = balanced_lawful o
lawful (parts o) = parts_lawful o
lawful (compose o) = compose_lawful o
