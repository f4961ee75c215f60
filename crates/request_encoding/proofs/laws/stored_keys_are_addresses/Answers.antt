use Rattle.request_encoding.proofs.Names.{addresses}
use Rattle.request_encoding.proofs.laws.stored_keys_are_addresses.Goals as goal

pub returns : goal.returns
returns c = addresses
