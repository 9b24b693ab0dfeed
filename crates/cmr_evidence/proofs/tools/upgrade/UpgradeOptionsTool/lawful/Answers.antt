use Rattle.cmr_evidence.specs.Upgrade.{upgrade_order_of}
use Rattle.cmr_evidence.proofs.UpgradeAnswers.{upgrade_lawful}
use Rattle.cmr_evidence.proofs.tools.upgrade.UpgradeOptionsTool.lawful.Goals as goal

pub returns : goal.returns
returns c = upgrade_lawful (upgrade_order_of c.args.self.now)
