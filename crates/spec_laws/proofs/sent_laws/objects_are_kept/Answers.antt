use Rattle.spec_laws.proofs.Stored.{all_are_kept}
use Rattle.spec_laws.proofs.sent_laws.objects_are_kept.Goals as goal

pub returns : goal.returns
returns c = all_are_kept
