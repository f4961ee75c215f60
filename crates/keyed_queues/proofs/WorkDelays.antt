-- Work keys come due when those of controllers do.
use Rattle.spec_client_go.proofs.WorkDelays as works
use Rattle.keyed_queues.specs.WorkLaws.{KeysAreDue}

pub same_due : KeysAreDue
same_due = works.same_due
