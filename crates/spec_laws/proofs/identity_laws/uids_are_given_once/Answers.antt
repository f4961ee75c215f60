use Rattle.spec_laws.proofs.Traced.{once}
use Rattle.spec_laws.proofs.identity_laws.uids_are_given_once.Goals as goal

pub returns : goal.returns
returns c = once
