use Rattle.spec_laws.proofs.Looks.{looks_are_one_stream}
use Rattle.spec_laws.proofs.look_laws.looks_are_one_stream.Goals as goal

pub returns : goal.returns
returns c = looks_are_one_stream
