use Rattle.sd_documents.proofs.AcceptedConfig.{is_config}
use Rattle.sd_documents.proofs.AcceptedGroups.{are_groups}
use Rattle.sd_documents.proofs.laws.documents_laws.Goals as goal

pub returns-clause-configs : goal.returns-clause-configs
returns-clause-configs c = is_config c.map_laws.ensures.set

pub returns-clause-groups : goal.returns-clause-groups
returns-clause-groups c = are_groups c.map_laws.ensures.set
