use Rattle.informer_laws.proofs.Publishing.{lists_are_shown}
use Rattle.informer_laws.proofs.publish_laws.informers_show_lists.Goals as goal

pub returns : goal.returns
returns c = lists_are_shown
