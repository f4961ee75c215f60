use Rattle.spec_laws.proofs.CheckLaws.{created_select}
use Rattle.spec_laws.proofs.check_laws.created_select_their_templates.Goals as goal

pub returns : goal.returns
returns c = created_select
