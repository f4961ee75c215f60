use Rattle.spec_laws.proofs.CheckLaws.{updated_select}
use Rattle.spec_laws.proofs.check_laws.updated_select_their_templates.Goals as goal

pub returns : goal.returns
returns c = updated_select
