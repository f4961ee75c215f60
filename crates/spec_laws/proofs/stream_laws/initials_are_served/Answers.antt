use Rattle.spec_laws.proofs.InitialStreams.{initials_served}
use Rattle.spec_laws.proofs.stream_laws.initials_are_served.Goals as goal

pub returns : goal.returns
returns c = initials_served
