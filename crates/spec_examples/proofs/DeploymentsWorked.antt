-- What an answer unfolds to compute the definitions of Deployments on literals, the hash of a template with them.
use Rattle.std.specs.Prelude.{⊤}
use Rattle.hex.specs.Hex.{encode_with}
use Rattle.sha2.specs.Sha256.{first_words, schedule, rounds, compress, hash_after, digest_bytes, sha256}
use Rattle.spec_api.proofs.OnLiterals as definitions

unfoldable pub on_literals : ⊤
unfolding definitions.on_literals encode_with first_words schedule rounds compress hash_after digest_bytes sha256
on_literals = tt
